use Rattle.std.proofs.Common.{◌≡◌, ◌+◌, ◌≤◌, length, Some, ap, sym, subst, ◌∙◌}
use Rattle.std.specs.Vec.{vec_capacity}
use Rattle.forest_model.specs.Forest.{Started, find_started}
use Rattle.forest_model.specs.Events.{move_to}
use Rattle.forest_model.specs.Stays.{AreLocal}
use Rattle.shadow_lanes.specs.Seats.{Seated}
use Rattle.shadow_forest.specs.View.{View, with_numbers}
use Rattle.shadow_forest.specs.Parts.{nodes_at}
use Rattle.shadow_forest.specs.Kept.{numbers_waiting, forest_of}
use Rattle.shadow_forest.proofs.Placing.{at_view}
use Rattle.shadow_forest.proofs.Quiet.{first_may, IsAhead, ahead_is}
use Rattle.shadow_forest.proofs.forest.Forest.run_local.Goals as goal

pub code_of-code-requires-clause-least : goal.code_of-code-requires-clause-least
code_of-code-requires-clause-least g c =
    let i = c.self.inside in
    let v = at_view i.journal i.tables i.txns.items (numbers_waiting i.waiting) i.lanes _ _ c.args.place c.args.txn c.args.self.now c.self.view_is c.self.invariant.0 c.requires.place in
    v.a.least

pub code_of-code-requires-clause-most : goal.code_of-code-requires-clause-most
code_of-code-requires-clause-most g c =
    let i = c.self.inside in
    let v = at_view i.journal i.tables i.txns.items (numbers_waiting i.waiting) i.lanes _ _ c.args.place c.args.txn c.args.self.now c.self.view_is c.self.invariant.0 c.requires.place in
    subst (λ xs. c.args.txn ≤ length xs) (sym c.deref.ensures.value) v.a.most

pub run_local-requires-clause-place : goal.run_local-requires-clause-place
run_local-requires-clause-place g c =
    let i = c.self.inside in
    let v = at_view i.journal i.tables i.txns.items (numbers_waiting i.waiting) i.lanes _ _ c.args.place c.args.txn c.args.self.now c.self.view_is c.self.invariant.0 c.requires.place in
    v.a.below

pub run_local-requires-clause-runs : goal.run_local-requires-clause-runs
run_local-requires-clause-runs g c = λ x there.
    let i = c.self.inside in
    let v = at_view i.journal i.tables i.txns.items (numbers_waiting i.waiting) i.lanes _ _ c.args.place c.args.txn c.args.self.now c.self.view_is c.self.invariant.0 c.requires.place in
    first_may i.journal i.tables i.txns.items (numbers_waiting i.waiting) i.lanes c.args.place c.args.txn c.args.self.now c.code_of-code.result.now.nodes c.self.invariant.0 v (c.code_of-code.ensures ∙ ap (λ xs. nodes_at xs c.args.txn) c.deref.ensures.value) x there

-- the forest after the steps, for whoever is found
record Ran (g : _) (c : goal.After-run_local g) (r : Started) : Type 0 where
  ahead : IsAhead c.self.inside.journal c.self.inside.tables c.self.inside.txns.items (numbers_waiting c.self.inside.waiting) c.self.inside.lanes c.run_local.new.self c.args.txn r c.run_local.result

ran : (g : _) (c : goal.After-run_local g) → (v : Started) × ((r : Started) → find_started c.args.self.now.numbers.started c.args.txn ≡ Some r → r ≡ v) × Ran g c v
ran g c =
    let i = c.self.inside in
    let v = at_view i.journal i.tables i.txns.items (numbers_waiting i.waiting) i.lanes _ _ c.args.place c.args.txn c.args.self.now c.self.view_is c.self.invariant.0 c.requires.place in
    let e = c.run_local.ensures.seats in
    (v.started, v.only, record { ahead = ahead_is i.journal i.tables i.txns.items (numbers_waiting i.waiting) i.lanes c.args.place c.args.txn v.started v.a c.self.invariant.0 c.code_of-code.result.now.nodes _ e.0 e.1 c.run_local.result c.run_local.new.self (c.code_of-code.ensures ∙ ap (λ xs. nodes_at xs c.args.txn) c.deref.ensures.value) e.2.0 e.2.1.0 e.2.1.1 })

pub invariant_of-self : goal.invariant_of-self
invariant_of-self g c = ((ran g c).2.ahead.kept_all, subst (λ (x : Seated). x.lanes ≤ vec_capacity c.self.inside.resumed) (sym c.run_local.ensures.seats.2.1.0) c.self.invariant.1, c.self.invariant.2, c.self.invariant.3)

pub returns-clause-local : goal.returns-clause-local
returns-clause-local g c = λ r found.
    let x = ran g c in
    subst (λ y. AreLocal c.args.self.now.numbers y c.run_local.result) (sym (x.1 r found))
    (subst (λ (w : View). AreLocal w.numbers x.0 c.run_local.result) c.self.view_is x.2.ahead.local)

pub returns-clause-next : goal.returns-clause-next
returns-clause-next g c = λ r found.
    let x = ran g c in
    let i = c.self.inside in
    ap (with_numbers (forest_of i.journal i.tables c.run_local.new.self)) c.self.view_is
    ∙ ap (λ f. with_numbers f c.args.self.now)
    (x.2.ahead.forest
    ∙ ap (λ (w : View). move_to c.args.txn (x.0.position + c.run_local.result) w.numbers) c.self.view_is
    ∙ ap (λ (y : Started). move_to c.args.txn (y.position + c.run_local.result) c.args.self.now.numbers) (sym (x.1 r found)))
