use Rattle.std.proofs.Common.{rules, ◌≡◌, false, sym, subst}
use Rattle.std.specs.List.{AllByRecursion}
use Rattle.std.specs.Vec.{vec_capacity}
use Rattle.forest_model.specs.Choose.{put_in_order}
use Rattle.forest_model.specs.Pick.{is_earlier}
use Rattle.ready_rows.specs.Rows.{Rows, is_at}
use Rattle.ready_rows.proofs.Ordered.{put-kept}
use Rattle.ready_rows.proofs.Ready.put.Goals as goal

pub invariant_of-self : goal.invariant_of-self
invariant_of-self c =
    let now : c.insert-put.new.self.items ≡ put_in_order is_earlier c.args.row c.self.inside.rows.items = search rules in
    rw now (put-kept c.self.inside.room (vec_capacity c.self.inside.rows) (vec_capacity c.insert-put.new.self) c.args.row c.self.inside.rows.items c.self.invariant c.insert-put.ensures.capacity (search rules) c.requires.ready
    (subst (λ (r : Rows). AllByRecursion (λ o. is_at c.args.row.txn c.args.row.place o ≡ false) r.rows) (sym c.self.view_is) c.requires.new))
