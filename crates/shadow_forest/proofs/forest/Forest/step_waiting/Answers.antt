use Rattle.std.proofs.Common.{◌≡◌, ◌-◌, ◌≤◌, ◌<◌, ℕ, List, length, Some, None, Err, ap, sym, subst, ◌∙◌, arith}
use Rattle.std.specs.Prelude.{slice_get, option_map}
use Rattle.std.specs.Vec.{vec_capacity}
use Rattle.txn_runs.specs.Run.{Tables}
use Rattle.journal_core.specs.Recorded.{Recorded}
use Rattle.block_rule.specs.declared.role.Role.TheVariants.{Guard}
use Rattle.forest_model.specs.Point.{Conflict}
use Rattle.forest_model.specs.Forest.{Started, find_started}
use Rattle.forest_model.specs.Events.{NoShadow, IsBlocked, step_role}
use Rattle.forest_model.specs.Drain.{after_step}
use Rattle.shadow_lanes.specs.Seats.{Seated, conflicts_of}
use Rattle.shadow_forest.specs.View.{View, with_numbers}
use Rattle.shadow_forest.specs.Answers.{step_answer, step_ticks}
use Rattle.shadow_forest.specs.Parts.{slot_of, nodes_at}
use Rattle.shadow_forest.specs.Kept.{numbers_waiting, forest_of}
use Rattle.shadow_forest.specs.declared.txn.Txn.{Txn}
use Rattle.shadow_forest.proofs.Placing.{IsAt, at_view, some_same}
use Rattle.shadow_forest.proofs.Stepping.{known, listed, slotted, may_step, small_position, standing_known, guard_none, guard_blocked, IsStepped, stepped}
use Rattle.shadow_forest.proofs.forest.Forest.step_waiting.Goals as goal

-- the conflicts that were lent are those of the seat
lent : (journal : Recorded) (d : Tables) (kept : List Txn) (s : Seated) (at t : ℕ) (r : Started) (a : IsAt journal d kept s at t r) (list : List Conflict)
    → option_map conflicts_of (slice_get s.seats at) ≡ Some list → conflicts_of a.seat ≡ list
lent journal d kept s at t r a list e = some_same _ _ (sym (ap (option_map conflicts_of) a.there) ∙ e)

pub slot_for-requires : goal.slot_for-requires
slot_for-requires g c =
    let i = c.self.inside in
    let v = at_view i.journal i.tables i.txns.items (numbers_waiting i.waiting) i.lanes _ _ c.args.place c.args.txn c.args.self.now c.self.view_is c.self.invariant.0 c.requires.place in
    subst (λ xs. length xs ≤ 7) (lent i.journal i.tables i.txns.items i.lanes c.args.place c.args.txn v.started v.a c.conflicts.result.now c.conflicts.ensures) v.a.few

-- No shadow waits for the guard.

no_shadow_is : (g : _) (c : goal.In_default g) (r : Started) → find_started c.args.self.now.numbers.started c.args.txn ≡ Some r → step_role c.args.self.now.numbers (Guard c.args.guard) r ≡ Err NoShadow
no_shadow_is g c r found =
    let i = c.self.inside in
    let v = at_view i.journal i.tables i.txns.items (numbers_waiting i.waiting) i.lanes _ _ c.args.place c.args.txn c.args.self.now c.self.view_is c.self.invariant.0 c.requires.place in
    let none : slot_of (conflicts_of v.a.seat) c.args.guard ≡ None =
    ap (λ xs. slot_of xs c.args.guard) (lent i.journal i.tables i.txns.items i.lanes c.args.place c.args.txn v.started v.a c.conflicts.result.now c.conflicts.ensures) ∙ sym c.slot_for.ensures ∙ c.in_default.is
    in
    ap (step_role c.args.self.now.numbers (Guard c.args.guard)) (v.only r found)
    ∙ subst (λ (x : View). step_role x.numbers (Guard c.args.guard) v.started ≡ Err NoShadow) c.self.view_is (guard_none i.journal i.tables i.txns.items i.lanes c.args.place c.args.txn v.started c.args.guard v.a none)

pub returns-in_default-clause-answer : goal.returns-in_default-clause-answer
returns-in_default-clause-answer g c = λ r found. sym (ap step_answer (no_shadow_is g c r found))

pub returns-in_default-clause-next : goal.returns-in_default-clause-next
returns-in_default-clause-next g c = λ r found. sym (ap (λ o. with_numbers (after_step c.args.self.now.numbers o) c.args.self.now) (no_shadow_is g c r found))

pub returns-in_default-clause-ticks : goal.returns-in_default-clause-ticks
returns-in_default-clause-ticks g c = λ r found. let none = ap step_ticks (no_shadow_is g c r found) in omega (arith, none)

-- A shadow waits for it.

pub conflicts-requires-2 : goal.conflicts-requires-2
conflicts-requires-2 g c =
    let i = c.self.inside in
    let v = at_view i.journal i.tables i.txns.items (numbers_waiting i.waiting) i.lanes _ _ c.args.place c.args.txn c.args.self.now c.self.view_is c.self.invariant.0 c.requires.place in
    v.a.below

in_list : (g : _) (c : goal.After-conflicts-2 g) → (1 ≤ c.in-Some.slot) × (c.in-Some.slot - 1 < length c.conflicts-2.result.now)
in_list g c =
    let i = c.self.inside in
    let v = at_view i.journal i.tables i.txns.items (numbers_waiting i.waiting) i.lanes _ _ c.args.place c.args.txn c.args.self.now c.self.view_is c.self.invariant.0 c.requires.place in
    listed i.journal i.tables i.txns.items i.lanes c.args.place c.args.txn c.args.self.now c.args.guard c.in-Some.slot v c.conflicts.result.now c.conflicts-2.result.now
    c.conflicts.ensures (sym c.slot_for.ensures ∙ c.in-Some.is) c.conflicts-2.ensures

pub overflow_sub-point : goal.overflow_sub-point
overflow_sub-point g c = (in_list g c).0

pub bounds-conflicts-slot : goal.bounds-conflicts-slot
bounds-conflicts-slot g c = (in_list g c).1

pub state-requires-clause-place : goal.state-requires-clause-place
state-requires-clause-place g c =
    let i = c.self.inside in
    let v = at_view i.journal i.tables i.txns.items (numbers_waiting i.waiting) i.lanes _ _ c.args.place c.args.txn c.args.self.now c.self.view_is c.self.invariant.0 c.requires.place in
    v.a.below

pub code_of-code-requires-clause-least : goal.code_of-code-requires-clause-least
code_of-code-requires-clause-least g c =
    let i = c.self.inside in
    let v = at_view i.journal i.tables i.txns.items (numbers_waiting i.waiting) i.lanes _ _ c.args.place c.args.txn c.args.self.now c.self.view_is c.self.invariant.0 c.requires.place in
    v.a.least

pub code_of-code-requires-clause-most : goal.code_of-code-requires-clause-most
code_of-code-requires-clause-most g c =
    let i = c.self.inside in
    let v = at_view i.journal i.tables i.txns.items (numbers_waiting i.waiting) i.lanes _ _ c.args.place c.args.txn c.args.self.now c.self.view_is c.self.invariant.0 c.requires.place in
    subst (λ xs. c.args.txn ≤ length xs) (sym c.deref.ensures.value) v.a.most

pub step-requires-clause-place : goal.step-requires-clause-place
step-requires-clause-place g c =
    let i = c.self.inside in
    let v = at_view i.journal i.tables i.txns.items (numbers_waiting i.waiting) i.lanes _ _ c.args.place c.args.txn c.args.self.now c.self.view_is c.self.invariant.0 c.requires.place in
    v.a.below

pub state-requires-clause-slot : goal.state-requires-clause-slot
state-requires-clause-slot g c = λ r there.
    let i = c.self.inside in
    let v = at_view i.journal i.tables i.txns.items (numbers_waiting i.waiting) i.lanes _ _ c.args.place c.args.txn c.args.self.now c.self.view_is c.self.invariant.0 c.requires.place in
    slotted i.journal i.tables i.txns.items i.lanes c.args.place c.args.txn c.args.self.now c.args.guard c.in-Some.slot v c.conflicts.result.now c.conflicts.ensures (sym c.slot_for.ensures ∙ c.in-Some.is) r there

pub step-requires-clause-runs : goal.step-requires-clause-runs
step-requires-clause-runs g c = λ x there.
    let i = c.self.inside in
    let v = at_view i.journal i.tables i.txns.items (numbers_waiting i.waiting) i.lanes _ _ c.args.place c.args.txn c.args.self.now c.self.view_is c.self.invariant.0 c.requires.place in
    let k = known i.journal i.tables i.txns.items i.lanes c.args.place c.args.txn c.args.self.now c.args.guard c.in-Some.slot v c.conflicts.result.now c.conflicts-2.result.now c.state.result.now
    c.conflicts.ensures (sym c.slot_for.ensures ∙ c.in-Some.is) c.conflicts-2.ensures c.state.ensures.state
    in
    may_step i.journal i.tables i.txns.items i.lanes c.args.place c.args.txn c.args.self.now c.args.guard c.in-Some.slot c.conflicts-2.result.now c.state.result.now k x c.code_of-code.result.now.nodes c.self.invariant.0.items
    (c.code_of-code.ensures ∙ ap (λ xs. nodes_at xs c.args.txn) c.deref.ensures.value) there

pub overflow_add-result : goal.overflow_add-result
overflow_add-result g c =
    let i = c.self.inside in
    let v = at_view i.journal i.tables i.txns.items (numbers_waiting i.waiting) i.lanes _ _ c.args.place c.args.txn c.args.self.now c.self.view_is c.self.invariant.0 c.requires.place in
    let k = known i.journal i.tables i.txns.items i.lanes c.args.place c.args.txn c.args.self.now c.args.guard c.in-Some.slot v c.conflicts.result.now c.conflicts-2.result.now c.state.result.now
    c.conflicts.ensures (sym c.slot_for.ensures ∙ c.in-Some.is) c.conflicts-2.ensures c.state.ensures.state
    in
    let low = small_position i.journal i.tables i.txns.items i.lanes c.args.place c.args.txn c.args.self.now c.args.guard c.in-Some.slot c.conflicts-2.result.now c.state.result.now k in
    let is = c.position-position.ensures in
    omega (arith, low, is)

is_stepped : (g : _) (c : goal.After-step g) → IsStepped c.self.inside.journal c.self.inside.tables c.self.inside.txns.items (numbers_waiting c.self.inside.waiting) c.args.txn c.args.self.now c.args.guard c.position-position.result c.step.new.self
is_stepped g c =
    let i = c.self.inside in
    let v = at_view i.journal i.tables i.txns.items (numbers_waiting i.waiting) i.lanes _ _ c.args.place c.args.txn c.args.self.now c.self.view_is c.self.invariant.0 c.requires.place in
    let k = known i.journal i.tables i.txns.items i.lanes c.args.place c.args.txn c.args.self.now c.args.guard c.in-Some.slot v c.conflicts.result.now c.conflicts-2.result.now c.state.result.now
    c.conflicts.ensures (sym c.slot_for.ensures ∙ c.in-Some.is) c.conflicts-2.ensures c.state.ensures.state
    in
    let e = c.step.ensures.seats in
    stepped i.journal i.tables i.txns.items (numbers_waiting i.waiting) i.lanes _ _ c.args.place c.args.txn c.args.self.now c.args.guard c.in-Some.slot c.position-position.result c.conflicts-2.result.now c.state.result.now k
    c.code_of-code.result.now.nodes e.0 e.1 c.step.new.self c.self.view_is c.self.invariant.0 e.2.0 e.2.1.0 e.2.1.1 (c.code_of-code.ensures ∙ ap (λ xs. nodes_at xs c.args.txn) c.deref.ensures.value) c.position-position.ensures
    (sym c.in-Runnable.is ∙ c.status.ensures)

pub invariant_of-self : goal.invariant_of-self
invariant_of-self g c =
    let e = c.step.ensures.seats in
    ((is_stepped g c).kept_all, subst (λ (x : Seated). x.lanes ≤ vec_capacity c.self.inside.resumed) (sym e.2.1.0) c.self.invariant.1, c.self.invariant.2, c.self.invariant.3)

pub returns-in-Runnable-clause-answer : goal.returns-in-Runnable-clause-answer
returns-in-Runnable-clause-answer g c = λ r found. sym (ap step_answer ((is_stepped g c).result r found))

pub returns-in-Runnable-clause-next : goal.returns-in-Runnable-clause-next
returns-in-Runnable-clause-next g c = λ r found.
    ap (with_numbers (forest_of c.self.inside.journal c.self.inside.tables c.step.new.self)) c.self.view_is
    ∙ sym (ap (λ o. with_numbers (after_step c.args.self.now.numbers o) c.args.self.now) ((is_stepped g c).result r found))

pub returns-in-Runnable-clause-ticks : goal.returns-in-Runnable-clause-ticks
returns-in-Runnable-clause-ticks g c = λ r found. let one = ap step_ticks ((is_stepped g c).result r found) in let tick = c.step.ensures.tick in omega (arith, one, tick)

-- It stands at its point.

is_blocked : (g : _) (c : goal.In_default-status g) (r : Started) → find_started c.args.self.now.numbers.started c.args.txn ≡ Some r → step_role c.args.self.now.numbers (Guard c.args.guard) r ≡ Err IsBlocked
is_blocked g c r found =
    let i = c.self.inside in
    let v = at_view i.journal i.tables i.txns.items (numbers_waiting i.waiting) i.lanes _ _ c.args.place c.args.txn c.args.self.now c.self.view_is c.self.invariant.0 c.requires.place in
    let k = known i.journal i.tables i.txns.items i.lanes c.args.place c.args.txn c.args.self.now c.args.guard c.in-Some.slot v c.conflicts.result.now c.conflicts-2.result.now c.state.result.now
    c.conflicts.ensures (sym c.slot_for.ensures ∙ c.in-Some.is) c.conflicts-2.ensures c.state.ensures.state
    in
    let is = standing_known i.journal i.tables i.txns.items i.lanes c.args.place c.args.txn c.args.self.now c.args.guard c.in-Some.slot c.position-position.result c.conflicts-2.result.now c.state.result.now k c.status.result c.position-position.ensures c.status.ensures in
    ap (step_role c.args.self.now.numbers (Guard c.args.guard)) (k.v.only r found)
    ∙ subst (λ (x : View). step_role x.numbers (Guard c.args.guard) k.v.started ≡ Err IsBlocked) c.self.view_is
    (guard_blocked i.journal i.tables i.txns.items i.lanes c.args.place c.args.txn k.v.started c.args.guard c.in-Some.slot k.w (λ q. c.in_default-status.not-Runnable (sym is ∙ q)))

pub returns-in_default-status : goal.returns-in_default-status
returns-in_default-status g c = record {
  answer = λ r found. sym (ap step_answer (is_blocked g c r found));
  next = λ r found. sym (ap (λ o. with_numbers (after_step c.args.self.now.numbers o) c.args.self.now) (is_blocked g c r found));
  ticks = λ r found. let none = ap step_ticks (is_blocked g c r found) in omega (arith, none);
}
