use Rattle.std.specs.List.{AllByRecursion}
use Rattle.std.proofs.Common.{◌≡◌, ◌<◌, ℕ, List, Option, None, Some, ltb, true, length, ap, sym, ◌∙◌, arith, subst}
use Rattle.std.proofs.lemmas.Bool.{lt-ltb}
use Rattle.txn_interp.specs.State.{Carries}
use Rattle.forest_model.specs.Choose.{first_by}
use Rattle.shadow_lanes.specs.Seats.{Seated, find_seat}
use Rattle.wait_list.specs.Waiting.{Waiting}
use Rattle.shadow_forest.specs.declared.txn.Txn.{Txn}
use Rattle.shadow_forest.specs.Parts.{is_prior_at, next_of}
use Rattle.shadow_forest.specs.Kept.{numbers_waiting, AreQueued}
use Rattle.shadow_forest.specs.Ready.{IsCarried}
use Rattle.shadow_forest.proofs.Firsts.{first_found}
use Rattle.shadow_forest.proofs.Queue.{first_queued, numbers-less, queued-less}
use Rattle.shadow_forest.proofs.committing.start_waiting.Goals as goal

-- who comes first is carried
carried : (txns : List Txn) (s : Seated) (ws : List Waiting) (t : ℕ) → first_by (is_prior_at txns) (numbers_waiting ws) ≡ Some t → AllByRecursion (IsCarried s.items txns) (numbers_waiting ws) → IsCarried s.items txns t
carried txns s ws t first all = first_found (IsCarried s.items txns) (is_prior_at txns) (numbers_waiting ws) t first all

-- where a lane is free the next is the first
free_next : (txns : List Txn) (s : Seated) (ws : List Waiting) (o : Option ℕ) → length s.seats < s.lanes → o ≡ first_by (is_prior_at txns) (numbers_waiting ws) → o ≡ next_of txns (length s.seats) s.lanes (numbers_waiting ws)
free_next txns s ws o free first = let lane : ltb (length s.seats) s.lanes ≡ true = lt-ltb _ _ free in rw lane first

pub deadline_of-requires-clause-least : goal.deadline_of-requires-clause-least
deadline_of-requires-clause-least c =
    (carried c.args.txns.now c.args.lanes.now c.args.waiting.now c.in-Some.txn (sym (c.first-next.ensures.value ∙ first_queued c.args.txns.now c.args.waiting.now c.requires.queued) ∙ c.in-Some.is) c.requires.carried).least

pub deadline_of-requires-clause-most : goal.deadline_of-requires-clause-most
deadline_of-requires-clause-most c =
    (carried c.args.txns.now c.args.lanes.now c.args.waiting.now c.in-Some.txn (sym (c.first-next.ensures.value ∙ first_queued c.args.txns.now c.args.waiting.now c.requires.queued) ∙ c.in-Some.is) c.requires.carried).most

pub code_of-requires-clause-least : goal.code_of-requires-clause-least
code_of-requires-clause-least c =
    (carried c.args.txns.now c.args.lanes.now c.args.waiting.now c.in-Some.txn (sym (c.first-next.ensures.value ∙ first_queued c.args.txns.now c.args.waiting.now c.requires.queued) ∙ c.in-Some.is) c.requires.carried).least

pub code_of-requires-clause-most : goal.code_of-requires-clause-most
code_of-requires-clause-most c =
    (carried c.args.txns.now c.args.lanes.now c.args.waiting.now c.in-Some.txn (sym (c.first-next.ensures.value ∙ first_queued c.args.txns.now c.args.waiting.now c.requires.queued) ∙ c.in-Some.is) c.requires.carried).most

pub start-requires-clause-new : goal.start-requires-clause-new
start-requires-clause-new c =
    first_found (λ (t : ℕ). find_seat c.args.lanes.now.seats t ≡ None) (is_prior_at c.args.txns.now) (numbers_waiting c.args.waiting.now) c.in-Some.txn
    (sym (c.first-next.ensures.value ∙ first_queued c.args.txns.now c.args.waiting.now c.requires.queued) ∙ c.in-Some.is) c.requires.apart

pub start-requires-clause-carries : goal.start-requires-clause-carries
start-requires-clause-carries c =
    subst (λ ns. Carries ns c.args.lanes.now.items) (sym c.code_of.ensures)
    (carried c.args.txns.now c.args.lanes.now c.args.waiting.now c.in-Some.txn (sym (c.first-next.ensures.value ∙ first_queued c.args.txns.now c.args.waiting.now c.requires.queued) ∙ c.in-Some.is) c.requires.carried).carries

pub returns-in-None-clause-next : goal.returns-in-None-clause-next
returns-in-None-clause-next c =
    let free : length c.args.lanes.now.seats < c.args.lanes.now.lanes = omega (arith, c.if-len-lanes.false, c.len.ensures.len, c.len.ensures.seats.few, c.lanes.ensures) in
    free_next c.args.txns.now c.args.lanes.now c.args.waiting.now c.first-next.result free (c.first-next.ensures.value ∙ first_queued c.args.txns.now c.args.waiting.now c.requires.queued)

pub returns-in-Some-clause-next : goal.returns-in-Some-clause-next
returns-in-Some-clause-next c =
    let free : length c.args.lanes.now.seats < c.args.lanes.now.lanes = omega (arith, c.if-len-lanes.false, c.len.ensures.len, c.len.ensures.seats.few, c.lanes.ensures) in
    free_next c.args.txns.now c.args.lanes.now c.args.waiting.now (Some c.in-Some.txn) free
    (sym c.in-Some.is ∙ (c.first-next.ensures.value ∙ first_queued c.args.txns.now c.args.waiting.now c.requires.queued))

pub returns-in-Some-clause-waiting : goal.returns-in-Some-clause-waiting
returns-in-Some-clause-waiting c =
    ap numbers_waiting c.remove.ensures ∙ numbers-less c.args.txns.now c.in-Some.txn c.deadline_of.result c.args.waiting.now c.requires.queued c.deadline_of.ensures

pub returns-in-Some-clause-queued : goal.returns-in-Some-clause-queued
returns-in-Some-clause-queued c = subst (AreQueued c.args.txns.now) (sym c.remove.ensures) (queued-less c.args.txns.now _ c.args.waiting.now c.requires.queued)
