use Rattle.std.proofs.Common.{rules, ◌≡◌, List, [], ◌∷◌, ◌++◌, sym, subst}
use Rattle.std.specs.List.{All}
use Rattle.turn_cell.specs.Passes.{seen_by}
use Rattle.shadow_forest.specs.Bench.{Benched}
use Rattle.shadow_forest.specs.Listed.{items_in}
use Rattle.shadow_forest.specs.declared.kept.Item.{Item}
use Rattle.scc_batch.specs.Benches.{IsFreeFor}
use Rattle.scc_batch.proofs.Benches.{all_of_front, all_of_last}
use Rattle.scc_batch.proofs.working.+fan_out+fn-fan_out-join+arg3.Goals as goal

abbrev FreeIn : List Item → Benched → Type 0
FreeIn list = IsFreeFor (items_in list)

pub join-mine-requires-after_bounds : goal.join-mine-requires-after_bounds
join-mine-requires-after_bounds g t c κs within =
    let same : seen_by c.split-mine.new.pass ≡ seen_by c.args.pass = c.split-mine.ensures.kept.2 in
    let all : All (FreeIn (seen_by c.args.pass)) (c.pop.new.self.items ++ c.in-Some.next ∷ []) = subst (All (FreeIn (seen_by c.args.pass))) c.in-Some.ensures.items c.requires.all_free in
    let free = subst (λ list. FreeIn list c.in-Some.next) (sym same) (all_of_last (FreeIn (seen_by c.args.pass)) c.pop.new.self.items c.in-Some.next all) in
    let all_free = subst (λ list. All (FreeIn list) c.pop.new.self.items) (sym same) (all_of_front (FreeIn (seen_by c.args.pass)) c.pop.new.self.items (c.in-Some.next ∷ []) all) in
    ((search rules, search rules), (search rules, ((λ a m. m), ((λ a m. m), ((search rules, search rules, search rules, free, all_free, search rules, search rules), (search rules, search rules))))))
