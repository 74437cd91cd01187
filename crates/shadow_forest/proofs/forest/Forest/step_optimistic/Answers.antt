use Rattle.std.proofs.Common.{◌≡◌, ◌≤◌, length, Some, Err, ap, sym, subst, ◌∙◌, arith}
use Rattle.std.specs.Vec.{vec_capacity}
use Rattle.block_rule.specs.declared.role.Role.TheVariants.{Optimistic}
use Rattle.forest_model.specs.Forest.{Started, find_started}
use Rattle.forest_model.specs.Events.{HasEnded, step_role}
use Rattle.forest_model.specs.Drain.{after_step}
use Rattle.shadow_lanes.specs.Seats.{Seated}
use Rattle.shadow_forest.specs.View.{View, with_numbers}
use Rattle.shadow_forest.specs.Answers.{step_answer, step_ticks}
use Rattle.shadow_forest.specs.Parts.{nodes_at, all_renewed}
use Rattle.shadow_forest.specs.Kept.{numbers_waiting, forest_of, IsForest}
use Rattle.shadow_forest.proofs.Wanting.{noted_seats}
use Rattle.shadow_forest.proofs.Placing.{at_view, carries}
use Rattle.shadow_forest.proofs.OptimisticCall.{IsCall, call_is, first_low, first_runs, has_ended_is, may_go, IsOptimisticStep, local_call, read_may, read_call, write_call, write_all_carried}
use Rattle.shadow_forest.specs.Ready.{AreCarried}
use Rattle.txn_runs.specs.declared.kind.Kind.TheVariants as kind
use Rattle.txn_interp.specs.State.{Carries}
use Rattle.shadow_forest.proofs.forest.Forest.step_optimistic.Goals as goal
use Rattle.shadow_forest.proofs.forest.Forest.step_optimistic.Goals.{After-read}

pub code_of-code-requires-clause-least : goal.code_of-code-requires-clause-least
code_of-code-requires-clause-least g c =
    let i = c.self.inside in
    let v = at_view i.journal i.tables i.txns.items (numbers_waiting i.waiting) i.lanes _ _ c.args.place c.args.txn c.args.self.now c.self.view_is c.self.invariant.0 c.requires.place in
    v.a.least

pub code_of-code-requires-clause-most : goal.code_of-code-requires-clause-most
code_of-code-requires-clause-most g c =
    let i = c.self.inside in
    let v = at_view i.journal i.tables i.txns.items (numbers_waiting i.waiting) i.lanes _ _ c.args.place c.args.txn c.args.self.now c.self.view_is c.self.invariant.0 c.requires.place in
    subst (λ xs. c.args.txn ≤ length xs) (sym c.deref.ensures.value) v.a.most

pub state-state-requires-clause-place : goal.state-state-requires-clause-place
state-state-requires-clause-place g c =
    let i = c.self.inside in
    let v = at_view i.journal i.tables i.txns.items (numbers_waiting i.waiting) i.lanes _ _ c.args.place c.args.txn c.args.self.now c.self.view_is c.self.invariant.0 c.requires.place in
    v.a.below

pub overflow_add-position : goal.overflow_add-position
overflow_add-position g c =
    let i = c.self.inside in
    let v = at_view i.journal i.tables i.txns.items (numbers_waiting i.waiting) i.lanes _ _ c.args.place c.args.txn c.args.self.now c.self.view_is c.self.invariant.0 c.requires.place in
    let low = first_low i.journal i.tables i.txns.items i.lanes c.args.place c.args.txn c.args.self.now v c.state-state.result.now c.state-state.ensures.state in
    let is = c.position-position.ensures in
    omega (arith, low, is)

pub next_kind-requires : goal.next_kind-requires
next_kind-requires g c =
    let i = c.self.inside in
    let v = at_view i.journal i.tables i.txns.items (numbers_waiting i.waiting) i.lanes _ _ c.args.place c.args.txn c.args.self.now c.self.view_is c.self.invariant.0 c.requires.place in
    first_runs i.journal i.tables i.txns.items i.lanes c.args.place c.args.txn c.args.self.now v c.state-state.result.now c.code_of-code.result.now.nodes c.self.invariant.0.items (c.code_of-code.ensures ∙ ap (λ xs. nodes_at xs c.args.txn) c.deref.ensures.value) c.state-state.ensures.state

seen : (now w : View) → w ≡ now → now.numbers ≡ w.numbers
seen now w e = ap (λ (x : View). x.numbers) (sym e)

-- At its end.

call_ended : (g : _) (c : goal.In-Ended g) → IsCall c.self.inside.journal c.self.inside.tables c.self.inside.txns.items (numbers_waiting c.self.inside.waiting) c.self.inside.lanes c.args.place c.args.txn c.args.self.now c.code_of-code.result.now.nodes c.state-state.result.now c.next_kind.result
call_ended g c =
    let i = c.self.inside in
    let v = at_view i.journal i.tables i.txns.items (numbers_waiting i.waiting) i.lanes _ _ c.args.place c.args.txn c.args.self.now c.self.view_is c.self.invariant.0 c.requires.place in
    call_is i.journal i.tables i.txns.items (numbers_waiting i.waiting) i.lanes c.args.place c.args.txn c.args.self.now c.code_of-code.result.now.nodes c.state-state.result.now c.next_kind.result c.self.invariant.0 v c.state-state.ensures.state
    (c.code_of-code.ensures ∙ ap (λ xs. nodes_at xs c.args.txn) c.deref.ensures.value) c.next_kind.ensures.kind c.next_kind.ensures.ended

err : (g : _) (c : goal.In-Ended g) (r : Started) → find_started c.args.self.now.numbers.started c.args.txn ≡ Some r → step_role c.args.self.now.numbers Optimistic r ≡ Err HasEnded
err g c r found =
    let i = c.self.inside in
    has_ended_is i.journal i.tables i.txns.items (numbers_waiting i.waiting) i.lanes c.args.place c.args.txn c.args.self.now c.code_of-code.result.now.nodes c.state-state.result.now c.next_kind.result (call_ended g c) c.in-Ended.is r found (seen c.args.self.now _ c.self.view_is)

pub returns-in-Ended-clause-answer : goal.returns-in-Ended-clause-answer
returns-in-Ended-clause-answer g c = λ r found. sym (ap step_answer (err g c r found))

pub returns-in-Ended-clause-next : goal.returns-in-Ended-clause-next
returns-in-Ended-clause-next g c = λ r found. sym (ap (λ o. with_numbers (after_step c.args.self.now.numbers o) c.args.self.now) (err g c r found))

pub returns-in-Ended-clause-ticks : goal.returns-in-Ended-clause-ticks
returns-in-Ended-clause-ticks g c = λ r found. let none = ap step_ticks (err g c r found) in omega (arith, none)

-- A local step.

pub step-requires-clause-place : goal.step-requires-clause-place
step-requires-clause-place g c =
    let i = c.self.inside in
    let v = at_view i.journal i.tables i.txns.items (numbers_waiting i.waiting) i.lanes _ _ c.args.place c.args.txn c.args.self.now c.self.view_is c.self.invariant.0 c.requires.place in
    v.a.below

pub step-requires-clause-runs : goal.step-requires-clause-runs
step-requires-clause-runs g c = λ x there.
    let i = c.self.inside in
    let v = at_view i.journal i.tables i.txns.items (numbers_waiting i.waiting) i.lanes _ _ c.args.place c.args.txn c.args.self.now c.self.view_is c.self.invariant.0 c.requires.place in
    may_go i.journal i.tables i.txns.items (numbers_waiting i.waiting) i.lanes c.args.place c.args.txn c.args.self.now c.code_of-code.result.now.nodes c.state-state.result.now c.next_kind.result (call_is i.journal i.tables i.txns.items (numbers_waiting i.waiting) i.lanes c.args.place c.args.txn c.args.self.now c.code_of-code.result.now.nodes c.state-state.result.now c.next_kind.result c.self.invariant.0 v c.state-state.ensures.state (c.code_of-code.ensures ∙ ap (λ xs. nodes_at xs c.args.txn) c.deref.ensures.value) c.next_kind.ensures.kind c.next_kind.ensures.ended) (λ e. let q : kind.Local ≡ kind.Ended = sym c.in-Local.is ∙ e in cc) x there

local_is : (g : _) (c : goal.After-step g) → IsOptimisticStep c.self.inside.journal c.self.inside.tables c.self.inside.txns.items (numbers_waiting c.self.inside.waiting) c.args.txn c.args.self.now c.position-position.result c.step.new.self
local_is g c =
    let i = c.self.inside in
    let v = at_view i.journal i.tables i.txns.items (numbers_waiting i.waiting) i.lanes _ _ c.args.place c.args.txn c.args.self.now c.self.view_is c.self.invariant.0 c.requires.place in
    let e = c.step.ensures.seats in
    local_call i.journal i.tables i.txns.items (numbers_waiting i.waiting) i.lanes c.args.place c.args.txn c.args.self.now c.code_of-code.result.now.nodes c.state-state.result.now c.next_kind.result (call_is i.journal i.tables i.txns.items (numbers_waiting i.waiting) i.lanes c.args.place c.args.txn c.args.self.now c.code_of-code.result.now.nodes c.state-state.result.now c.next_kind.result c.self.invariant.0 v c.state-state.ensures.state (c.code_of-code.ensures ∙ ap (λ xs. nodes_at xs c.args.txn) c.deref.ensures.value) c.next_kind.ensures.kind c.next_kind.ensures.ended) c.position-position.result e.0 e.1 c.step.new.self c.in-Local.is c.position-position.ensures (seen c.args.self.now _ c.self.view_is) e.2.0 e.2.1.0 e.2.1.1

pub invariant_of-self : goal.invariant_of-self
invariant_of-self g c = ((local_is g c).kept_all, subst (λ (x : Seated). x.lanes ≤ vec_capacity c.self.inside.resumed) (sym c.step.ensures.seats.2.1.0) c.self.invariant.1, c.self.invariant.2, c.self.invariant.3)

pub returns-in-Local-clause-answer : goal.returns-in-Local-clause-answer
returns-in-Local-clause-answer g c = λ r found. sym (ap step_answer ((local_is g c).result r found))

pub returns-in-Local-clause-next : goal.returns-in-Local-clause-next
returns-in-Local-clause-next g c = λ r found.
    ap (with_numbers (forest_of c.self.inside.journal c.self.inside.tables c.step.new.self)) c.self.view_is
    ∙ sym (ap (λ o. with_numbers (after_step c.args.self.now.numbers o) c.args.self.now) ((local_is g c).result r found))

pub returns-in-Local-clause-ticks : goal.returns-in-Local-clause-ticks
returns-in-Local-clause-ticks g c = λ r found. let one = ap step_ticks ((local_is g c).result r found) in let tick = c.step.ensures.tick in omega (arith, one, tick)

-- A read.

pub read-requires-clause-place : goal.read-requires-clause-place
read-requires-clause-place g c =
    let i = c.self.inside in
    let v = at_view i.journal i.tables i.txns.items (numbers_waiting i.waiting) i.lanes _ _ c.args.place c.args.txn c.args.self.now c.self.view_is c.self.invariant.0 c.requires.place in
    v.a.below

pub read-requires-clause-runs : goal.read-requires-clause-runs
read-requires-clause-runs g c =
    let i = c.self.inside in
    let v = at_view i.journal i.tables i.txns.items (numbers_waiting i.waiting) i.lanes _ _ c.args.place c.args.txn c.args.self.now c.self.view_is c.self.invariant.0 c.requires.place in
    read_may i.journal i.tables i.txns.items (numbers_waiting i.waiting) i.lanes c.args.place c.args.txn c.args.self.now c.code_of-code.result.now.nodes c.state-state.result.now c.next_kind.result (call_is i.journal i.tables i.txns.items (numbers_waiting i.waiting) i.lanes c.args.place c.args.txn c.args.self.now c.code_of-code.result.now.nodes c.state-state.result.now c.next_kind.result c.self.invariant.0 v c.state-state.ensures.state (c.code_of-code.ensures ∙ ap (λ xs. nodes_at xs c.args.txn) c.deref.ensures.value) c.next_kind.ensures.kind c.next_kind.ensures.ended) c.position-position.result c.in-TableRead.item c.in-TableRead.is c.next_kind.ensures.kind

pub read-requires-clause-carries : goal.read-requires-clause-carries
read-requires-clause-carries g c =
    let i = c.self.inside in
    let v = at_view i.journal i.tables i.txns.items (numbers_waiting i.waiting) i.lanes _ _ c.args.place c.args.txn c.args.self.now c.self.view_is c.self.invariant.0 c.requires.place in
    subst (λ ns. Carries ns i.lanes.items) (sym (c.code_of-code.ensures ∙ ap (λ xs. nodes_at xs c.args.txn) c.deref.ensures.value)) (carries i.journal i.tables i.txns.items i.lanes c.args.place c.args.txn v.started v.a)

read_is : (g : _) (c : After-read g) → IsOptimisticStep c.self.inside.journal c.self.inside.tables c.self.inside.txns.items (numbers_waiting c.self.inside.waiting) c.args.txn c.args.self.now c.position-position.result c.read.new.self
read_is g c =
    let i = c.self.inside in
    let v = at_view i.journal i.tables i.txns.items (numbers_waiting i.waiting) i.lanes _ _ c.args.place c.args.txn c.args.self.now c.self.view_is c.self.invariant.0 c.requires.place in
    let e = c.read.ensures.seats in
    read_call i.journal i.tables i.txns.items (numbers_waiting i.waiting) i.lanes c.args.place c.args.txn c.args.self.now c.code_of-code.result.now.nodes c.state-state.result.now c.next_kind.result (call_is i.journal i.tables i.txns.items (numbers_waiting i.waiting) i.lanes c.args.place c.args.txn c.args.self.now c.code_of-code.result.now.nodes c.state-state.result.now c.next_kind.result c.self.invariant.0 v c.state-state.ensures.state (c.code_of-code.ensures ∙ ap (λ xs. nodes_at xs c.args.txn) c.deref.ensures.value) c.next_kind.ensures.kind c.next_kind.ensures.ended) c.position-position.result c.in-TableRead.item e.0 e.1 c.read.new.self c.in-TableRead.is c.position-position.ensures (seen c.args.self.now _ c.self.view_is) e.2.0 e.2.1.0 e.2.1.1

pub settled-requires : goal.settled-requires
settled-requires g c = noted_seats c.self.inside.journal c.self.inside.tables c.self.inside.txns.items (numbers_waiting c.self.inside.waiting) c.read.new.self (read_is g (goal.at.settled-requires g c).After-read).kept_all

pub invariant_of-self-in-TableRead : goal.invariant_of-self-in-TableRead
invariant_of-self-in-TableRead g c =
    let same : c.settled.new.self.lanes ≡ c.self.inside.lanes.lanes = ap (λ (x : Seated). x.lanes) (c.settled.ensures ∙ c.read.ensures.seats.2.1.0) in
    (subst (IsForest c.self.inside.journal c.self.inside.tables c.self.inside.txns.items (numbers_waiting c.self.inside.waiting)) (sym c.settled.ensures) (read_is g (goal.at.invariant_of-self-in-TableRead g c).After-read).kept_all, subst (λ n. n ≤ vec_capacity c.self.inside.resumed) (sym same) c.self.invariant.1, c.self.invariant.2, c.self.invariant.3)

pub returns-in-TableRead-clause-answer : goal.returns-in-TableRead-clause-answer
returns-in-TableRead-clause-answer g c = λ r found. sym (ap step_answer ((read_is g (goal.at.returns-in-TableRead-clause-answer g c).After-read).result r found))

pub returns-in-TableRead-clause-next : goal.returns-in-TableRead-clause-next
returns-in-TableRead-clause-next g c = λ r found.
    ap (with_numbers (forest_of c.self.inside.journal c.self.inside.tables c.settled.new.self)) c.self.view_is
    ∙ ap (λ (l : Seated). with_numbers (forest_of c.self.inside.journal c.self.inside.tables l) c.args.self.now) c.settled.ensures
    ∙ sym (ap (λ o. with_numbers (after_step c.args.self.now.numbers o) c.args.self.now) ((read_is g (goal.at.returns-in-TableRead-clause-next g c).After-read).result r found))

pub returns-in-TableRead-clause-ticks : goal.returns-in-TableRead-clause-ticks
returns-in-TableRead-clause-ticks g c = λ r found. let one = ap step_ticks ((read_is g (goal.at.returns-in-TableRead-clause-ticks g c).After-read).result r found) in let tick = c.read.ensures.tick in omega (arith, one, tick)

-- A write.

pub step-requires-in-Write-clause-place : goal.step-requires-in-Write-clause-place
step-requires-in-Write-clause-place g c =
    let i = c.self.inside in
    let v = at_view i.journal i.tables i.txns.items (numbers_waiting i.waiting) i.lanes _ _ c.args.place c.args.txn c.args.self.now c.self.view_is c.self.invariant.0 c.requires.place in
    v.a.below

pub step-requires-in-Write-clause-runs : goal.step-requires-in-Write-clause-runs
step-requires-in-Write-clause-runs g c = λ x there.
    let i = c.self.inside in
    let v = at_view i.journal i.tables i.txns.items (numbers_waiting i.waiting) i.lanes _ _ c.args.place c.args.txn c.args.self.now c.self.view_is c.self.invariant.0 c.requires.place in
    may_go i.journal i.tables i.txns.items (numbers_waiting i.waiting) i.lanes c.args.place c.args.txn c.args.self.now c.code_of-code.result.now.nodes c.state-state.result.now c.next_kind.result (call_is i.journal i.tables i.txns.items (numbers_waiting i.waiting) i.lanes c.args.place c.args.txn c.args.self.now c.code_of-code.result.now.nodes c.state-state.result.now c.next_kind.result c.self.invariant.0 v c.state-state.ensures.state (c.code_of-code.ensures ∙ ap (λ xs. nodes_at xs c.args.txn) c.deref.ensures.value) c.next_kind.ensures.kind c.next_kind.ensures.ended) (λ e. let q : kind.Write c.in-Write.item c.in-Write.value ≡ kind.Ended = sym c.in-Write.is ∙ e in cc) x there

pub renew_marked-requires : goal.renew_marked-requires
renew_marked-requires g c =
    let i = c.self.inside in
    let v = at_view i.journal i.tables i.txns.items (numbers_waiting i.waiting) i.lanes _ _ c.args.place c.args.txn c.args.self.now c.self.view_is c.self.invariant.0 c.requires.place in
    let e = c.step-in-Write.ensures.seats in
    subst (λ xs. AreCarried c.step-in-Write.new.self.items xs c.step-in-Write.new.self.seats) (sym c.deref-in-Write.ensures.value)
    (write_all_carried i.journal i.tables i.txns.items (numbers_waiting i.waiting) i.lanes c.args.place c.args.txn c.args.self.now c.code_of-code.result.now.nodes c.state-state.result.now c.next_kind.result (call_is i.journal i.tables i.txns.items (numbers_waiting i.waiting) i.lanes c.args.place c.args.txn c.args.self.now c.code_of-code.result.now.nodes c.state-state.result.now c.next_kind.result c.self.invariant.0 v c.state-state.ensures.state (c.code_of-code.ensures ∙ ap (λ xs. nodes_at xs c.args.txn) c.deref.ensures.value) c.next_kind.ensures.kind c.next_kind.ensures.ended) c.position-position.result e.0 e.1 c.step-in-Write.new.self (λ e. let q : kind.Write c.in-Write.item c.in-Write.value ≡ kind.Ended = sym c.in-Write.is ∙ e in cc) e.2.0 e.2.1.1 e.2.1.0)

write_is : (g : _) (c : goal.After-renew_marked g) → IsOptimisticStep c.self.inside.journal c.self.inside.tables c.self.inside.txns.items (numbers_waiting c.self.inside.waiting) c.args.txn c.args.self.now c.position-position.result c.renew_marked.new.lanes
write_is g c =
    let i = c.self.inside in
    let v = at_view i.journal i.tables i.txns.items (numbers_waiting i.waiting) i.lanes _ _ c.args.place c.args.txn c.args.self.now c.self.view_is c.self.invariant.0 c.requires.place in
    let e = c.step-in-Write.ensures.seats in
    write_call i.journal i.tables i.txns.items (numbers_waiting i.waiting) i.lanes c.args.place c.args.txn c.args.self.now c.code_of-code.result.now.nodes c.state-state.result.now c.next_kind.result (call_is i.journal i.tables i.txns.items (numbers_waiting i.waiting) i.lanes c.args.place c.args.txn c.args.self.now c.code_of-code.result.now.nodes c.state-state.result.now c.next_kind.result c.self.invariant.0 v c.state-state.ensures.state (c.code_of-code.ensures ∙ ap (λ xs. nodes_at xs c.args.txn) c.deref.ensures.value) c.next_kind.ensures.kind c.next_kind.ensures.ended) c.position-position.result c.in-Write.item c.in-Write.value c.step-in-Write.new.self e.0 e.1 c.renew_marked.new.lanes c.in-Write.is c.position-position.ensures (seen c.args.self.now _ c.self.view_is) e.2.0 e.2.1.0 e.2.1.1
    (c.renew_marked.ensures ∙ ap (λ xs. record c.step-in-Write.new.self { seats = all_renewed c.step-in-Write.new.self.most c.step-in-Write.new.self.items xs c.step-in-Write.new.self.seats }) c.deref-in-Write.ensures.value)

pub invariant_of-self-in-Write : goal.invariant_of-self-in-Write
invariant_of-self-in-Write g c =
    let step : c.step-in-Write.new.self.lanes ≡ c.self.inside.lanes.lanes = ap (λ (x : Seated). x.lanes) c.step-in-Write.ensures.seats.2.1.0 in
    let renewed : c.renew_marked.new.lanes.lanes ≡ c.step-in-Write.new.self.lanes = ap (λ (x : Seated). x.lanes) c.renew_marked.ensures in
    ((write_is g c).kept_all, subst (λ n. n ≤ vec_capacity c.self.inside.resumed) (sym (renewed ∙ step)) c.self.invariant.1, c.self.invariant.2, c.self.invariant.3)

pub returns-in-Write-clause-answer : goal.returns-in-Write-clause-answer
returns-in-Write-clause-answer g c = λ r found. sym (ap step_answer ((write_is g c).result r found))

pub returns-in-Write-clause-next : goal.returns-in-Write-clause-next
returns-in-Write-clause-next g c = λ r found.
    ap (with_numbers (forest_of c.self.inside.journal c.self.inside.tables c.renew_marked.new.lanes)) c.self.view_is
    ∙ sym (ap (λ o. with_numbers (after_step c.args.self.now.numbers o) c.args.self.now) ((write_is g c).result r found))

pub returns-in-Write-clause-ticks : goal.returns-in-Write-clause-ticks
returns-in-Write-clause-ticks g c = λ r found. let one = ap step_ticks ((write_is g c).result r found) in let tick = c.step-in-Write.ensures.tick in omega (arith, one, tick)
