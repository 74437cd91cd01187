use Rattle.std.proofs.Common.{◌≡◌, ℕ, true, false, not, filter, List, sym, ap, ◌∙◌, arith}
use Rattle.std.specs.List.{list_any, remove, position, position_or_len}
use Rattle.std.specs.Vec.{vec_capacity}
use Rattle.block_rule.specs.declared.role.Row.{Row}
use Rattle.ready_rows.specs.Rows.{Rows, is_at}
use Rattle.ready_rows.proofs.Ordered.{none-leaves, found-there, found-none, removed, filter-kept}
use Rattle.ready_rows.proofs.Ready.take_out.Goals as goal

abbrev rows_made : ℕ → List Row → Rows
rows_made room rows = record { room = room; rows = rows }

none-there : (c : goal.In-None) → list_any (is_at c.args.txn c.args.place) c.self.inside.rows.items ≡ false
none-there c = found-none (is_at c.args.txn c.args.place) c.self.inside.rows.items (sym (c.in-None.ensures ∙ ap (λ (rs : List Row). position (is_at c.args.txn c.args.place) rs) c.deref.ensures.value))

there : (c : goal.After-remove-row) → (list_any (is_at c.args.txn c.args.place) c.self.inside.rows.items ≡ true) × (c.in-Some.at ≡ position_or_len (is_at c.args.txn c.args.place) c.self.inside.rows.items)
there c = found-there (is_at c.args.txn c.args.place) c.self.inside.rows.items c.in-Some.at (sym (c.in-Some.ensures ∙ ap (λ (rs : List Row). position (is_at c.args.txn c.args.place) rs) c.deref.ensures.value))

now : (c : goal.After-remove-row) → c.remove-row.new.self.items ≡ filter (λ row. not (is_at c.args.txn c.args.place row)) c.self.inside.rows.items
now c =
    c.remove-row.ensures.items ∙ ap (remove c.self.inside.rows.items) (there c).1
    ∙ removed c.args.txn c.args.place c.self.inside.rows.items c.self.invariant.apart (there c).0

pub returns-in-None-clause-was : goal.returns-in-None-clause-was
returns-in-None-clause-was c = sym (none-there c) ∙ ap (λ (r : Rows). list_any (is_at c.args.txn c.args.place) r.rows) c.self.view_is

pub returns-in-None-clause-rows : goal.returns-in-None-clause-rows
returns-in-None-clause-rows c = rw (← c.self.view_is) (ap (λ (rs : List Row). rows_made c.self.inside.room rs) (sym (none-leaves c.args.txn c.args.place c.self.inside.rows.items (none-there c))))

pub returns-in-Some-clause-was : goal.returns-in-Some-clause-was
returns-in-Some-clause-was c = sym (there c).0 ∙ ap (λ (r : Rows). list_any (is_at c.args.txn c.args.place) r.rows) c.self.view_is

pub returns-in-Some-clause-rows : goal.returns-in-Some-clause-rows
returns-in-Some-clause-rows c = ap (λ (rs : List Row). rows_made c.self.inside.room rs) (now c) ∙ ap (λ (r : Rows). rows_made r.room (filter (λ row. not (is_at c.args.txn c.args.place row)) r.rows)) c.self.view_is

pub invariant_of-self : goal.invariant_of-self
invariant_of-self c = rw (now c) (filter-kept c.self.inside.room (vec_capacity c.self.inside.rows) (vec_capacity c.remove-row.new.self) (λ row. not (is_at c.args.txn c.args.place row)) c.self.inside.rows.items c.self.invariant (omega (arith, c.remove-row.ensures.capacity)))
