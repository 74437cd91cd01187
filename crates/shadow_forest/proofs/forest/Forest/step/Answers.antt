use Rattle.std.proofs.Common.{◌≡◌, ◌+◌, ℕ, List, length, map, Some, None, Err, refl, ap, sym, subst, ◌∙◌, arith, true}
use Rattle.std.specs.Prelude.{slice_get, option_map, MatchOption, ◌<◌}
use Rattle.block_rule.specs.declared.role.Role.{Role}
use Rattle.block_rule.specs.declared.role.Role.TheVariants.{Optimistic, Guard}
use Rattle.journal_core.specs.Journal.{is_live}
use Rattle.forest_model.specs.Forest.{Started, find_started}
use Rattle.forest_model.specs.Events.{NotStarted, step_role, step as step_of}
use Rattle.forest_model.specs.Drain.{after_step}
use Rattle.shadow_lanes.specs.Seats.{Seat, find_seat, started_of}
use Rattle.shadow_forest.specs.View.{View, with_numbers}
use Rattle.shadow_forest.specs.Answers.{step_answer, step_ticks}
use Rattle.shadow_forest.proofs.Seen.{find-seat, started-at}
use Rattle.shadow_forest.proofs.forest.Forest.step.Goals as goal

-- the transaction at the place that was found
place_is : (now w : View) (seats : List Seat) (t place : ℕ) → w ≡ now → w.numbers.started ≡ map started_of seats → (place < length seats) × (slice_get seats place ≡ find_seat seats t)
    → (r : Started) × (slice_get now.numbers.started place ≡ Some r) × (find_started now.numbers.started t ≡ Some r)
place_is now w seats t place view started h =
    let x = started-at seats t place h.0 h.1 in
    let is : map started_of seats ≡ now.numbers.started = sym started ∙ ap (λ (v : View). v.numbers.started) view in
    (x.0, subst (λ rs. slice_get rs place ≡ Some x.0) is x.1, subst (λ rs. find_started rs t ≡ Some x.0) is x.2)

pub step_optimistic-requires : goal.step_optimistic-requires
step_optimistic-requires g c = record { place = place_is c.args.self.now _ c.self.inside.lanes.seats c.args.txn c.in-Some-Optimistic.place c.self.view_is refl c.in-Some-Optimistic.ensures }

pub step_waiting-requires : goal.step_waiting-requires
step_waiting-requires g c = record { place = place_is c.args.self.now _ c.self.inside.lanes.seats c.args.txn c.in-Some-Guard.place c.self.view_is refl c.in-Some-Guard.ensures }

-- the event of a live and started transaction is that of its role
role_is : (now : View) (t : ℕ) (role : Role) (r : Started) → is_live now.numbers.journal t ≡ true → find_started now.numbers.started t ≡ Some r → step_of now.numbers t role ≡ step_role now.numbers role r
role_is now t role r live found = rw (live, found) refl

-- where it is not started the event is refused
not_started : (now w : View) (seats : List Seat) (t : ℕ) (role : Role) → w ≡ now → w.numbers.started ≡ map started_of seats → is_live w.numbers.journal t ≡ true → find_seat seats t ≡ None → step_of now.numbers t role ≡ Err NotStarted
not_started now w seats t role view started live none =
    let found : find_started now.numbers.started t ≡ None = ap (λ (v : View). find_started v.numbers.started t) (sym view) ∙ ap (λ rs. find_started rs t) started ∙ find-seat seats t ∙ ap (option_map started_of) none in
    let live_now : is_live now.numbers.journal t ≡ true = ap (λ (v : View). is_live v.numbers.journal t) (sym view) ∙ live in
    rw (live_now, found) refl

none_is : (g : _) (c : goal.In-None-default g) → step_of c.args.self.now.numbers c.args.txn c.args.role ≡ Err NotStarted
none_is g c =
    not_started c.args.self.now _ c.self.inside.lanes.seats c.args.txn c.args.role c.self.view_is refl (sym c.live.ensures ∙ c.if-not-live.false)
    (subst (λ o. MatchOption o (find_seat c.self.inside.lanes.seats c.args.txn ≡ None) (λ place. (place < length c.self.inside.lanes.seats) × (slice_get c.self.inside.lanes.seats place ≡ find_seat c.self.inside.lanes.seats c.args.txn))) c.in-None-default.is-0 c.find.ensures)

pub returns-in-None-default-clause-answer : goal.returns-in-None-default-clause-answer
returns-in-None-default-clause-answer g c = sym (ap step_answer (none_is g c))

pub returns-in-None-default-clause-next : goal.returns-in-None-default-clause-next
returns-in-None-default-clause-next g c = sym (ap (λ o. with_numbers (after_step c.args.self.now.numbers o) c.args.self.now) (none_is g c))

pub returns-in-None-default-clause-ticks : goal.returns-in-None-default-clause-ticks
returns-in-None-default-clause-ticks g c = let none = ap step_ticks (none_is g c) in omega (arith, none)

optimistic_is : (g : _) (c : goal.After-step_optimistic g) → (r : Started) × (find_started c.args.self.now.numbers.started c.args.txn ≡ Some r) × (step_of c.args.self.now.numbers c.args.txn c.args.role ≡ step_role c.args.self.now.numbers Optimistic r)
optimistic_is g c =
    let x = place_is c.args.self.now _ c.self.inside.lanes.seats c.args.txn c.in-Some-Optimistic.place c.self.view_is refl c.in-Some-Optimistic.ensures in (
      x.0,
      x.2,
      role_is c.args.self.now c.args.txn c.args.role x.0 (ap (λ (v : View). is_live v.numbers.journal c.args.txn) (sym c.self.view_is) ∙ sym c.live.ensures ∙ c.if-not-live.false) x.2
          ∙ ap (λ role. step_role c.args.self.now.numbers role x.0) c.in-Some-Optimistic.is-1,
    )

pub returns-in-Some-Optimistic-clause-answer : goal.returns-in-Some-Optimistic-clause-answer
returns-in-Some-Optimistic-clause-answer g c = let x = optimistic_is g c in c.step_optimistic.ensures.answer x.0 x.1 ∙ sym (ap step_answer x.2)

pub returns-in-Some-Optimistic-clause-next : goal.returns-in-Some-Optimistic-clause-next
returns-in-Some-Optimistic-clause-next g c = let x = optimistic_is g c in c.step_optimistic.ensures.next x.0 x.1 ∙ sym (ap (λ o. with_numbers (after_step c.args.self.now.numbers o) c.args.self.now) x.2)

pub returns-in-Some-Optimistic-clause-ticks : goal.returns-in-Some-Optimistic-clause-ticks
returns-in-Some-Optimistic-clause-ticks g c = let x = optimistic_is g c in c.step_optimistic.ensures.ticks x.0 x.1 ∙ sym (ap (λ o. c.args.steps.now + step_ticks o) x.2)

waiting_is : (g : _) (c : goal.After-step_waiting g) → (r : Started) × (find_started c.args.self.now.numbers.started c.args.txn ≡ Some r) × (step_of c.args.self.now.numbers c.args.txn c.args.role ≡ step_role c.args.self.now.numbers (Guard c.in-Some-Guard.guard) r)
waiting_is g c =
    let x = place_is c.args.self.now _ c.self.inside.lanes.seats c.args.txn c.in-Some-Guard.place c.self.view_is refl c.in-Some-Guard.ensures in (
      x.0,
      x.2,
      role_is c.args.self.now c.args.txn c.args.role x.0 (ap (λ (v : View). is_live v.numbers.journal c.args.txn) (sym c.self.view_is) ∙ sym c.live.ensures ∙ c.if-not-live.false) x.2
          ∙ ap (λ role. step_role c.args.self.now.numbers role x.0) c.in-Some-Guard.is-1,
    )

pub returns-in-Some-Guard-clause-answer : goal.returns-in-Some-Guard-clause-answer
returns-in-Some-Guard-clause-answer g c = let x = waiting_is g c in c.step_waiting.ensures.answer x.0 x.1 ∙ sym (ap step_answer x.2)

pub returns-in-Some-Guard-clause-next : goal.returns-in-Some-Guard-clause-next
returns-in-Some-Guard-clause-next g c = let x = waiting_is g c in c.step_waiting.ensures.next x.0 x.1 ∙ sym (ap (λ o. with_numbers (after_step c.args.self.now.numbers o) c.args.self.now) x.2)

pub returns-in-Some-Guard-clause-ticks : goal.returns-in-Some-Guard-clause-ticks
returns-in-Some-Guard-clause-ticks g c = let x = waiting_is g c in c.step_waiting.ensures.ticks x.0 x.1 ∙ sym (ap (λ o. c.args.steps.now + step_ticks o) x.2)
