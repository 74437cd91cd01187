use Rattle.std.proofs.Common.{◌≡◌, inl, ◌-◌, ◌≤◌, ◌<◌, ℕ, List, length, get_or, Some, ap, sym, subst, ◌∙◌, arith}
use Rattle.std.specs.Prelude.{slice_get, option_map}
use Rattle.std.specs.Vec.{vec_capacity}
use Rattle.txn_runs.specs.Run.{Tables}
use Rattle.txn_interp.specs.State.{Held}
use Rattle.journal_core.specs.Recorded.{Recorded}
use Rattle.forest_model.specs.Point.{Conflict}
use Rattle.forest_model.specs.Forest.{Started, find_started}
use Rattle.forest_model.specs.Stays.{GuardRan}
use Rattle.shadow_lanes.specs.Seats.{Seated, conflicts_of}
use Rattle.indexed_lanes.proofs.Steps.{runs_of}
use Rattle.shadow_forest.specs.View.{View}
use Rattle.shadow_forest.specs.Parts.{nodes_at}
use Rattle.shadow_forest.specs.Kept.{numbers_waiting, forest_of}
use Rattle.shadow_forest.specs.declared.txn.Txn.{Txn}
use Rattle.shadow_forest.proofs.Placing.{IsAt, at_view, some_same}
use Rattle.shadow_forest.proofs.Stepping.{known, listed, slotted, may_step}
use Rattle.shadow_forest.proofs.Guarded.{IsGuardAhead, guard_ahead}
use Rattle.shadow_forest.proofs.forest.Forest.run_guard.Goals as goal

-- the conflicts that were lent are those of the seat
lent : (journal : Recorded) (d : Tables) (kept : List Txn) (s : Seated) (at t : ℕ) (r : Started) (a : IsAt journal d kept s at t r) (list : List Conflict)
    → option_map conflicts_of (slice_get s.seats at) ≡ Some list → conflicts_of a.seat ≡ list
lent journal d kept s at t r a list e = some_same _ _ (sym (ap (option_map conflicts_of) a.there) ∙ e)

pub slot_for-requires : goal.slot_for-requires
slot_for-requires g c =
    let i = c.self.inside in
    let v = at_view i.journal i.tables i.txns.items (numbers_waiting i.waiting) i.lanes _ _ c.args.place c.args.txn c.args.self.now c.self.view_is c.self.invariant.0 c.requires.place in
    subst (λ xs. length xs ≤ 7) (lent i.journal i.tables i.txns.items i.lanes c.args.place c.args.txn v.started v.a c.conflicts.result.now c.conflicts.ensures) v.a.few

pub conflicts-requires : goal.conflicts-requires
conflicts-requires g c =
    let i = c.self.inside in
    let v = at_view i.journal i.tables i.txns.items (numbers_waiting i.waiting) i.lanes _ _ c.args.place c.args.txn c.args.self.now c.self.view_is c.self.invariant.0 c.requires.place in
    v.a.below

pub conflicts-requires-2 : goal.conflicts-requires-2
conflicts-requires-2 g c =
    let i = c.self.inside in
    let v = at_view i.journal i.tables i.txns.items (numbers_waiting i.waiting) i.lanes _ _ c.args.place c.args.txn c.args.self.now c.self.view_is c.self.invariant.0 c.requires.place in
    v.a.below

in_list : (g : _) (c : goal.After-conflicts-2 g) → (1 ≤ c.in-Some.slot) × (c.in-Some.slot - 1 < length c.conflicts-2.result.now)
in_list g c =
    let i = c.self.inside in
    let v = at_view i.journal i.tables i.txns.items (numbers_waiting i.waiting) i.lanes _ _ c.args.place c.args.txn c.args.self.now c.self.view_is c.self.invariant.0 c.requires.place in
    listed i.journal i.tables i.txns.items i.lanes c.args.place c.args.txn c.args.self.now c.args.guard c.in-Some.slot v c.conflicts.result.now c.conflicts-2.result.now
    c.conflicts.ensures (sym c.slot_for.ensures ∙ c.in-Some.is) c.conflicts-2.ensures

pub overflow_sub-point : goal.overflow_sub-point
overflow_sub-point g c = (in_list g c).0

pub bounds-conflicts-slot : goal.bounds-conflicts-slot
bounds-conflicts-slot g c = (in_list g c).1

pub state-requires-clause-place : goal.state-requires-clause-place
state-requires-clause-place g c =
    let i = c.self.inside in
    let v = at_view i.journal i.tables i.txns.items (numbers_waiting i.waiting) i.lanes _ _ c.args.place c.args.txn c.args.self.now c.self.view_is c.self.invariant.0 c.requires.place in
    v.a.below

pub state-requires-clause-slot : goal.state-requires-clause-slot
state-requires-clause-slot g c = λ r there.
    let i = c.self.inside in
    let v = at_view i.journal i.tables i.txns.items (numbers_waiting i.waiting) i.lanes _ _ c.args.place c.args.txn c.args.self.now c.self.view_is c.self.invariant.0 c.requires.place in
    slotted i.journal i.tables i.txns.items i.lanes c.args.place c.args.txn c.args.self.now c.args.guard c.in-Some.slot v c.conflicts.result.now c.conflicts.ensures (sym c.slot_for.ensures ∙ c.in-Some.is) r there

pub code_of-code-requires-clause-least : goal.code_of-code-requires-clause-least
code_of-code-requires-clause-least g c =
    let i = c.self.inside in
    let v = at_view i.journal i.tables i.txns.items (numbers_waiting i.waiting) i.lanes _ _ c.args.place c.args.txn c.args.self.now c.self.view_is c.self.invariant.0 c.requires.place in
    v.a.least

pub code_of-code-requires-clause-most : goal.code_of-code-requires-clause-most
code_of-code-requires-clause-most g c =
    let i = c.self.inside in
    let v = at_view i.journal i.tables i.txns.items (numbers_waiting i.waiting) i.lanes _ _ c.args.place c.args.txn c.args.self.now c.self.view_is c.self.invariant.0 c.requires.place in
    subst (λ xs. c.args.txn ≤ length xs) (sym c.deref.ensures.value) v.a.most

pub overflow_sub-point-2 : goal.overflow_sub-point-2
overflow_sub-point-2 g c =
    let i = c.self.inside in
    let v = at_view i.journal i.tables i.txns.items (numbers_waiting i.waiting) i.lanes _ _ c.args.place c.args.txn c.args.self.now c.self.view_is c.self.invariant.0 c.requires.place in
    let k = known i.journal i.tables i.txns.items i.lanes c.args.place c.args.txn c.args.self.now c.args.guard c.in-Some.slot v c.conflicts.result.now c.conflicts-2.result.now c.state.result.now
    c.conflicts.ensures (sym c.slot_for.ensures ∙ c.in-Some.is) c.conflicts-2.ensures c.state.ensures.state
    in
    let up = k.w.up_to_point in
    let at_is : c.state.result.now.position ≡ k.w.found.waiter.slot.state.position = ap (λ (x : Held). x.position) k.state_is in
    let is = c.position-position.ensures in
    omega (arith, up, at_is, is, k.point)

pub run_local-requires-clause-place : goal.run_local-requires-clause-place
run_local-requires-clause-place g c =
    let i = c.self.inside in
    let v = at_view i.journal i.tables i.txns.items (numbers_waiting i.waiting) i.lanes _ _ c.args.place c.args.txn c.args.self.now c.self.view_is c.self.invariant.0 c.requires.place in
    v.a.below

pub run_local-requires-clause-slot : goal.run_local-requires-clause-slot
run_local-requires-clause-slot g c = λ r there.
    let i = c.self.inside in
    let v = at_view i.journal i.tables i.txns.items (numbers_waiting i.waiting) i.lanes _ _ c.args.place c.args.txn c.args.self.now c.self.view_is c.self.invariant.0 c.requires.place in
    slotted i.journal i.tables i.txns.items i.lanes c.args.place c.args.txn c.args.self.now c.args.guard c.in-Some.slot v c.conflicts.result.now c.conflicts.ensures (sym c.slot_for.ensures ∙ c.in-Some.is) r there

pub run_local-requires-clause-runs : goal.run_local-requires-clause-runs
run_local-requires-clause-runs g c = λ x there.
    let i = c.self.inside in
    let v = at_view i.journal i.tables i.txns.items (numbers_waiting i.waiting) i.lanes _ _ c.args.place c.args.txn c.args.self.now c.self.view_is c.self.invariant.0 c.requires.place in
    let k = known i.journal i.tables i.txns.items i.lanes c.args.place c.args.txn c.args.self.now c.args.guard c.in-Some.slot v c.conflicts.result.now c.conflicts-2.result.now c.state.result.now
    c.conflicts.ensures (sym c.slot_for.ensures ∙ c.in-Some.is) c.conflicts-2.ensures c.state.ensures.state
    in
    runs_of c.code_of-code.result.now.nodes i.tables x.state
    (may_step i.journal i.tables i.txns.items i.lanes c.args.place c.args.txn c.args.self.now c.args.guard c.in-Some.slot c.conflicts-2.result.now c.state.result.now k x c.code_of-code.result.now.nodes c.self.invariant.0.items
    (c.code_of-code.ensures ∙ ap (λ xs. nodes_at xs c.args.txn) c.deref.ensures.value) there).0

record Ahead (g : _) (c : goal.After-run_local g) : Type 0 where
  started : Started
  only : (r : Started) → find_started c.args.self.now.numbers.started c.args.txn ≡ Some r → r ≡ started
  ahead : IsGuardAhead c.self.inside.journal c.self.inside.tables c.self.inside.txns.items (numbers_waiting c.self.inside.waiting) c.self.inside.lanes c.run_local.new.self c.args.guard started c.run_local.result

ran : (g : _) (c : goal.After-run_local g) → Ahead g c
ran g c =
    let i = c.self.inside in
    let v = at_view i.journal i.tables i.txns.items (numbers_waiting i.waiting) i.lanes _ _ c.args.place c.args.txn c.args.self.now c.self.view_is c.self.invariant.0 c.requires.place in
    let k = known i.journal i.tables i.txns.items i.lanes c.args.place c.args.txn c.args.self.now c.args.guard c.in-Some.slot v c.conflicts.result.now c.conflicts-2.result.now c.state.result.now
    c.conflicts.ensures (sym c.slot_for.ensures ∙ c.in-Some.is) c.conflicts-2.ensures c.state.ensures.state
    in
    let e = c.run_local.ensures.seats in
    record {
      started = k.v.started;
      only = k.v.only;
      ahead =
          guard_ahead i.journal i.tables i.txns.items (numbers_waiting i.waiting) i.lanes c.args.place c.args.txn c.args.self.now c.args.guard c.in-Some.slot c.conflicts.result.now c.conflicts-2.result.now c.state.result.now k
          c.code_of-code.result.now.nodes e.0 e.1 c.run_local.new.self _ c.run_local.result
          c.self.invariant.0 c.conflicts.ensures (sym c.slot_for.ensures ∙ c.in-Some.is) e.2.0 e.2.1.0 e.2.1.1 (c.code_of-code.ensures ∙ ap (λ xs. nodes_at xs c.args.txn) c.deref.ensures.value)
          (ap (λ n. (get_or c.conflicts-2.result.now (c.in-Some.slot - 1) (0, 0)).1 - n) c.position-position.ensures);
    }

pub invariant_of-self : goal.invariant_of-self
invariant_of-self g c = ((ran g c).ahead.kept_all, subst (λ (x : Seated). x.lanes ≤ vec_capacity c.self.inside.resumed) (sym c.run_local.ensures.seats.2.1.0) c.self.invariant.1, c.self.invariant.2, c.self.invariant.3)

pub returns-clause-ran : goal.returns-clause-ran
returns-clause-ran g c = λ r found.
    let x = ran g c in
    inl (subst (λ y. GuardRan c.args.self.now.numbers c.args.guard y (forest_of c.self.inside.journal c.self.inside.tables c.run_local.new.self) c.run_local.result) (sym (x.only r found))
    (subst (λ (w : View). GuardRan w.numbers c.args.guard x.started (forest_of c.self.inside.journal c.self.inside.tables c.run_local.new.self) c.run_local.result) c.self.view_is x.ahead.ran))
