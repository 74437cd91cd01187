use Rattle.std.proofs.Common.{◌≡◌, true, false, Some, Ok, Err, refl, ap, sym, ◌∙◌}
use Rattle.std.specs.Prelude.{slice_get, option_map}
use Rattle.journal_core.specs.Journal.{is_live, committed_of}
use Rattle.forest_model.specs.Forest.{Forest, find_started, is_ended}
use Rattle.forest_model.specs.Events.{NotStarted, NotEnded, committed, commit as commit_of}
use Rattle.shadow_lanes.specs.Seats.{started_of}
use Rattle.txn_interp.specs.State.{Held}
use Rattle.shadow_forest.specs.View.{View, commit_told}
use Rattle.shadow_forest.specs.Answers.{commit_refusal}
use Rattle.shadow_forest.specs.Kept.{numbers_waiting, forest_of}
use Rattle.shadow_forest.proofs.SeatPlaces.{state-at}
use Rattle.shadow_forest.proofs.Accepting.{IsFoundAt, found_at, find_numbers, commit_unstarted, commit_unended, commit_accepted, at_end, commit_replies}
use Rattle.shadow_forest.proofs.forest.Forest.commit.Goals as goal
use Rattle.shadow_forest.proofs.forest.Forest.commit.Goals.{After-find, After-ended, In-None}

numbers_are : (c : After-find) → forest_of c.self.inside.journal c.self.inside.tables c.self.inside.lanes ≡ c.args.self.now.numbers
numbers_are c = ap (λ (v : View). v.numbers) c.self.view_is

live_now : (c : After-find) → is_live c.args.self.now.numbers.journal c.args.txn ≡ true
live_now c = ap (λ (f : Forest). is_live f.journal c.args.txn) (sym (numbers_are c)) ∙ sym c.live.ensures ∙ c.if-not-live.false

-- it is not started

unstarted : (c : In-None) → is_live c.args.self.now.numbers.journal c.args.txn ≡ true → commit_of c.args.self.now.numbers c.args.txn ≡ Err NotStarted
unstarted c live =
    let v : forest_of c.self.inside.journal c.self.inside.tables c.self.inside.lanes ≡ c.args.self.now.numbers = ap (λ (x : View). x.numbers) c.self.view_is in
    commit_unstarted c.args.self.now.numbers c.args.txn live
    (ap (λ (f : Forest). find_started f.started c.args.txn) (sym v) ∙ find_numbers c.self.inside.lanes.seats c.args.txn ∙ ap (option_map started_of) c.in-None.ensures)

pub returns-in-None-clause-accepted : goal.returns-in-None-clause-accepted
returns-in-None-clause-accepted c =
    let a = (goal.at.returns-in-None-clause-accepted c).After-find in
    ((λ e. cc), λ e. let no = sym (ap commit_refusal (unstarted c (live_now a))) ∙ e in cc)

pub returns-in-None-clause-refusal : goal.returns-in-None-clause-refusal
returns-in-None-clause-refusal c = let a = (goal.at.returns-in-None-clause-refusal c).After-find in ap commit_refusal (unstarted c (live_now a))

pub returns-in-None-clause-next : goal.returns-in-None-clause-next
returns-in-None-clause-next c = let a = (goal.at.returns-in-None-clause-next c).After-find in sym (ap (commit_told c.args.self.now c.args.txn) (unstarted c (live_now a)))

pub returns-in-None-clause-never_refused : goal.returns-in-None-clause-never_refused
returns-in-None-clause-never_refused c = λ u live found ended.
    let a = (goal.at.returns-in-None-clause-never_refused c).After-find in
    let no = sym (commit_accepted c.args.self.now.numbers c.args.txn u live found (at_end c.args.self.now.numbers u ended)) ∙ unstarted c (live_now a) in
    cc

-- it is started

seen : (c : After-ended) → IsFoundAt c.self.inside.journal c.self.inside.tables c.self.inside.lanes c.in-Some.place c.args.txn
seen c =
    let i = c.self.inside in
    found_at i.journal i.tables i.txns.items (numbers_waiting i.waiting) i.lanes c.in-Some.place c.args.txn c.self.invariant.0 c.in-Some.ensures.0 c.in-Some.ensures.1

found_now : (c : After-ended) → find_started c.args.self.now.numbers.started c.args.txn ≡ Some (started_of (seen c).seat)
found_now c = ap (λ (v : View). find_started v.numbers.started c.args.txn) (sym c.self.view_is) ∙ (seen c).found

ended_now : (c : After-ended) → is_ended c.args.self.now.numbers (started_of (seen c).seat) ≡ c.ended.result
ended_now c =
    let x = seen c in
    ap (λ (v : View). is_ended v.numbers (started_of x.seat)) (sym c.self.view_is) ∙ x.ended
    ∙ sym (c.ended.ensures.done ∙ ap (λ (st : Held). st.done) (sym (state-at c.self.inside.lanes.seats c.in-Some.place x.seat c.state.result.now x.there c.state.ensures.state)))

unended : (c : After-ended) → is_live c.args.self.now.numbers.journal c.args.txn ≡ true → c.ended.result ≡ false → commit_of c.args.self.now.numbers c.args.txn ≡ Err NotEnded
unended c live going = commit_unended c.args.self.now.numbers c.args.txn (started_of (seen c).seat) live (found_now c) (ended_now c ∙ going)

pub returns-then-not-ended-clause-accepted : goal.returns-then-not-ended-clause-accepted
returns-then-not-ended-clause-accepted c =
    let at = goal.at.returns-then-not-ended-clause-accepted c in
    ((λ e. cc), λ e. let no = sym (ap commit_refusal (unended at.After-ended (live_now at.After-find) c.if-not-ended.true)) ∙ e in cc)

pub returns-then-not-ended-clause-refusal : goal.returns-then-not-ended-clause-refusal
returns-then-not-ended-clause-refusal c =
    let at = goal.at.returns-then-not-ended-clause-refusal c in
    ap commit_refusal (unended at.After-ended (live_now at.After-find) c.if-not-ended.true)

pub returns-then-not-ended-clause-next : goal.returns-then-not-ended-clause-next
returns-then-not-ended-clause-next c =
    let at = goal.at.returns-then-not-ended-clause-next c in
    sym (ap (commit_told c.args.self.now c.args.txn) (unended at.After-ended (live_now at.After-find) c.if-not-ended.true))

pub returns-then-not-ended-clause-never_refused : goal.returns-then-not-ended-clause-never_refused
returns-then-not-ended-clause-never_refused c = λ u live found ended.
    let at = goal.at.returns-then-not-ended-clause-never_refused c in
    let no = sym (commit_accepted c.args.self.now.numbers c.args.txn u live found (at_end c.args.self.now.numbers u ended)) ∙ unended at.After-ended (live_now at.After-find) c.if-not-ended.true in
    cc

pub finish-requires : goal.finish-requires
finish-requires c =
    let a = (goal.at.finish-requires c).After-ended in
    let x = seen a in
    record {
      place = (
        started_of x.seat,
        ap (λ (v : View). slice_get v.numbers.started c.in-Some.place) (sym c.self.view_is) ∙ x.started,
        found_now a,
        ended_now a ∙ c.if-not-ended.false,
      );
    }

accepted : (c : After-ended) → is_live c.args.self.now.numbers.journal c.args.txn ≡ true → c.ended.result ≡ true → commit_of c.args.self.now.numbers c.args.txn ≡ Ok (committed c.args.self.now.numbers (started_of (seen c).seat))
accepted c live ended = commit_accepted c.args.self.now.numbers c.args.txn (started_of (seen c).seat) live (found_now c) (ended_now c ∙ ended)

pub returns-else-not-ended-clause-accepted : goal.returns-else-not-ended-clause-accepted
returns-else-not-ended-clause-accepted c =
    let at = goal.at.returns-else-not-ended-clause-accepted c in
    ((λ e. ap commit_refusal (accepted at.After-ended (live_now at.After-find) c.if-not-ended.false)), λ e. refl)

pub returns-else-not-ended-clause-next : goal.returns-else-not-ended-clause-next
returns-else-not-ended-clause-next c =
    let at = goal.at.returns-else-not-ended-clause-next c in
    let a = at.After-ended in
    c.finish.ensures (started_of (seen a).seat) (found_now a)
    ∙ sym (ap (commit_told c.args.self.now c.args.txn) (accepted a (live_now at.After-find) c.if-not-ended.false))

pub returns-else-not-ended-clause-reply : goal.returns-else-not-ended-clause-reply
returns-else-not-ended-clause-reply c =
    let at = goal.at.returns-else-not-ended-clause-reply c in
    let a = at.After-ended in
    ap (λ (v : View). committed_of v.numbers.journal c.args.txn) (c.finish.ensures (started_of (seen a).seat) (found_now a))
    ∙ commit_replies c.args.self.now.numbers c.args.txn (started_of (seen a).seat) (live_now at.After-find) (found_now a)
