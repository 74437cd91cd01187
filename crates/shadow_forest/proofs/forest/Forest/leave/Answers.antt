use Rattle.std.proofs.Common.{◌≡◌, ◌≤◌, ◌-◌, ◌==◌, true, false, not, [], filter, map, length, refl, ap, sym, subst, ◌∙◌, arith, eq-eqb}
use Rattle.journal_core.specs.declared.entry.Entry.TheVariants.{Withdrawn}
use Rattle.journal_core.specs.Journal.{is_live, is_sealed}
use Rattle.forest_model.specs.Forest.{Forest}
use Rattle.forest_model.specs.Settle.{settle}
use Rattle.forest_model.specs.Start.{start_waiting, next_to_start}
use Rattle.forest_model.specs.Events.{gone, withdrawn}
use Rattle.shadow_lanes.specs.Seats.{Seated, seats_without, started_of}
use Rattle.shadow_forest.specs.View.{View, withdraw_view}
use Rattle.shadow_forest.specs.Answers.{resumed_pair}
use Rattle.shadow_forest.specs.Parts.{deadline_at, next_of, seats_with_some, all_renewed}
use Rattle.shadow_forest.specs.Kept.{numbers_waiting, AreQueued, forest_of}
use Rattle.shadow_forest.proofs.RenewedForest.{unsettled_carried}
use Rattle.shadow_forest.proofs.Starting.{IsUnstarted, IsFilled, queue_carried, queue_apart, next_is, filled_keeps}
use Rattle.shadow_forest.proofs.Refilling.{IsRefilled, refilled_keeps, refilled_forest, refilled_lanes}
use Rattle.journal_core.proofs.Legal.{counts, live-ended}
use Rattle.shadow_forest.proofs.Carrying.{live-carried}
use Rattle.shadow_forest.proofs.Freed.{freed-forest, freed-queued}
use Rattle.shadow_forest.proofs.Queue.{numbers-less, queued-less}
use Rattle.shadow_forest.proofs.BeginningEntry.{is_pushed}
use Rattle.shadow_forest.proofs.RoomLaws.{room_there, rooms_withdrawn}
use Rattle.shadow_forest.proofs.Leaving.{left_keeps, left_forest, withdraw_view_is}
use Rattle.shadow_forest.proofs.forest.Forest.leave.Goals as goal
use Rattle.shadow_forest.proofs.forest.Forest.leave.Goals.{After-self, After-deref-2, After-deref-3, After-renew_marked}

-- the queue without the one that leaves
retained : (c : After-deref-2) → numbers_waiting c.remove-2.new.self ≡ filter (λ u. not (u == c.args.txn)) (numbers_waiting c.self.inside.waiting)
retained c =
    ap numbers_waiting c.remove-2.ensures
    ∙ numbers-less c.self.inside.txns.items c.args.txn c.deadline_of.result c.self.inside.waiting c.self.invariant.2 (c.deadline_of.ensures ∙ ap (λ xs. deadline_at xs c.args.txn) c.deref.ensures.value)

still_queued : (c : After-deref-2) → AreQueued c.self.inside.txns.items c.remove-2.new.self
still_queued c = subst (AreQueued c.self.inside.txns.items) (sym c.remove-2.ensures) (queued-less c.self.inside.txns.items _ c.self.inside.waiting c.self.invariant.2)

live_inside : (c : After-deref-2) → is_live c.self.inside.journal.entries c.args.txn ≡ true
live_inside c = ap (λ (v : View). is_live v.numbers.journal c.args.txn) c.self.view_is ∙ c.requires.live

open_inside : (c : After-deref-2) → is_sealed c.self.inside.journal.entries ≡ false
open_inside c = ap (λ (v : View). is_sealed v.numbers.journal) c.self.view_is ∙ c.requires.open

-- all is kept before one that waits may start
unstarted : (c : After-deref-2) → IsUnstarted c.push_reserved.new.self c.self.inside.tables c.self.inside.txns.items (numbers_waiting c.remove-2.new.self) c.remove.new.self (map started_of c.self.inside.lanes.seats)
unstarted c =
    let i = c.self.inside in
    rw (c.remove.ensures, retained c)
    (subst (λ j. IsUnstarted j i.tables i.txns.items (filter (λ u. not (u == c.args.txn)) (numbers_waiting i.waiting)) (record i.lanes { seats = seats_without c.args.txn i.lanes.seats }) (map started_of i.lanes.seats))
    (sym (is_pushed i.journal c.push_reserved.new.self (Withdrawn c.args.txn) c.push_reserved.ensures.opening c.push_reserved.ensures.entries))
    (left_keeps i.journal i.tables i.txns.items (numbers_waiting i.waiting) i.lanes c.args.txn c.push_reserved.new.self.spare c.self.invariant.0 (live_inside c) (open_inside c) c.push_reserved.ensures.room))

-- its room is there
there : (c : After-self) → (1 ≤ c.args.txn) × (c.args.txn ≤ length c.self.inside.rooms.items)
there c =
    let i = c.self.inside in
    room_there i.journal.entries i.rooms.items c.args.txn (counts i.journal.opening i.journal.entries c.self.invariant.0.sound.right.legal) c.self.invariant.3 (ap (λ (v : View). is_live v.numbers.journal c.args.txn) c.self.view_is ∙ c.requires.live)

pub free_room-requires-clause-least : goal.free_room-requires-clause-least
free_room-requires-clause-least c = (there (goal.at.free_room-requires-clause-least c).After-self).0

pub free_room-requires-clause-most : goal.free_room-requires-clause-most
free_room-requires-clause-most c = (there (goal.at.free_room-requires-clause-most c).After-self).1

pub deadline_of-requires-clause-least : goal.deadline_of-requires-clause-least
deadline_of-requires-clause-least c =
    let i = c.self.inside in
    let live : is_live i.journal.entries c.args.txn ≡ true = ap (λ (v : View). is_live v.numbers.journal c.args.txn) c.self.view_is ∙ c.requires.live in
    (live-carried i.journal i.tables i.txns.items (numbers_waiting i.waiting) i.lanes c.self.invariant.0 c.args.txn live).least

pub deadline_of-requires-clause-most : goal.deadline_of-requires-clause-most
deadline_of-requires-clause-most c =
    let i = c.self.inside in
    let live : is_live i.journal.entries c.args.txn ≡ true = ap (λ (v : View). is_live v.numbers.journal c.args.txn) c.self.view_is ∙ c.requires.live in
    rw c.deref.ensures.value (live-carried i.journal i.tables i.txns.items (numbers_waiting i.waiting) i.lanes c.self.invariant.0 c.args.txn live).most

pub start_waiting-self-inside-requires-clause-carried : goal.start_waiting-self-inside-requires-clause-carried
start_waiting-self-inside-requires-clause-carried c =
    let i = c.self.inside in
    rw c.deref-2.ensures.value (queue_carried c.push_reserved.new.self i.tables i.txns.items (numbers_waiting c.remove-2.new.self) c.remove.new.self (map started_of i.lanes.seats) (unstarted c))

pub start_waiting-self-inside-requires-clause-apart : goal.start_waiting-self-inside-requires-clause-apart
start_waiting-self-inside-requires-clause-apart c =
    let i = c.self.inside in
    queue_apart c.push_reserved.new.self i.tables i.txns.items (numbers_waiting c.remove-2.new.self) c.remove.new.self (map started_of i.lanes.seats) (unstarted c)

pub start_waiting-self-inside-requires-clause-queued : goal.start_waiting-self-inside-requires-clause-queued
start_waiting-self-inside-requires-clause-queued c = rw c.deref-2.ensures.value (still_queued c)

-- one that waits may have started
filled : (c : After-deref-3) → IsFilled c.self.inside.txns.items (numbers_waiting c.remove-2.new.self) c.remove.new.self c.start_waiting-self-inside.result (numbers_waiting c.start_waiting-self-inside.new.waiting) c.start_waiting-self-inside.new.lanes
filled c = record {
  next = c.start_waiting-self-inside.ensures.next ∙ ap (λ kept. next_of kept (length c.remove.new.self.seats) c.remove.new.self.lanes (numbers_waiting c.remove-2.new.self)) c.deref-2.ensures.value;
  seats_are = c.start_waiting-self-inside.ensures.lanes ∙ ap (λ kept. record c.remove.new.self { seats = seats_with_some kept c.remove.new.self.items c.start_waiting-self-inside.result c.remove.new.self.seats }) c.deref-2.ensures.value;
  queue_is = c.start_waiting-self-inside.ensures.waiting;
}

pub renew_marked-requires : goal.renew_marked-requires
renew_marked-requires c =
    let i = c.self.inside in
    let j = c.push_reserved.new.self in
    let before = map started_of i.lanes.seats in
    let w = c.start_waiting-self-inside in
    rw c.deref-3.ensures.value
    (unsettled_carried j i.tables i.txns.items (numbers_waiting w.new.waiting) w.new.lanes before
    (filled_keeps j i.tables i.txns.items (numbers_waiting c.remove-2.new.self) c.remove.new.self before w.result (numbers_waiting w.new.waiting) w.new.lanes (unstarted (goal.at.renew_marked-requires c).After-deref-2) (filled (goal.at.renew_marked-requires c).After-deref-3)))

-- nobody was taken back
none_back : (c : After-renew_marked) → map resumed_pair c.clear.new.self.items ≡ []
none_back c = ap (map resumed_pair) c.clear.ensures.items

-- and all were renewed
refilled : (c : After-renew_marked) → IsFilled c.self.inside.txns.items (numbers_waiting c.remove-2.new.self) c.remove.new.self c.start_waiting-self-inside.result (numbers_waiting c.start_waiting-self-inside.new.waiting) c.start_waiting-self-inside.new.lanes
    → IsRefilled c.self.inside.txns.items (numbers_waiting c.remove-2.new.self) c.remove.new.self c.start_waiting-self-inside.result (numbers_waiting c.start_waiting-self-inside.new.waiting) c.start_waiting-self-inside.new.lanes c.renew_marked.new.lanes
refilled c fill =
    let lanes = c.start_waiting-self-inside.new.lanes in
    record {
      filled = fill;
      renewed_are =
          c.renew_marked.ensures ∙ ap (λ kept. record lanes { seats = all_renewed lanes.most lanes.items kept lanes.seats }) c.deref-3.ensures.value;
    }

-- its code is there

pub free_code-requires-clause-least : goal.free_code-requires-clause-least
free_code-requires-clause-least c = (there (goal.at.free_code-requires-clause-least c).After-self).0

pub free_code-requires-clause-most : goal.free_code-requires-clause-most
free_code-requires-clause-most c =
    let most = (there (goal.at.free_code-requires-clause-most c).After-self).1 in
    let rooms = c.self.invariant.3.many in
    let txns = c.self.invariant.0.txns.many in
    omega (arith, most, rooms, txns)

pub invariant_of-self : goal.invariant_of-self
invariant_of-self c =
    let i = c.self.inside in
    let j = c.push_reserved.new.self in
    let before = map started_of i.lanes.seats in
    let w = c.start_waiting-self-inside in
    let re = refilled (goal.at.invariant_of-self c).After-renew_marked (filled (goal.at.invariant_of-self c).After-deref-3) in
    let u = unstarted (goal.at.invariant_of-self c).After-deref-2 in
    let lanes : c.renew_marked.new.lanes.lanes ≡ i.lanes.lanes =
    refilled_lanes j i.tables i.txns.items (numbers_waiting c.remove-2.new.self) c.remove.new.self before w.result (numbers_waiting w.new.waiting) w.new.lanes c.renew_marked.new.lanes u re ∙ ap (λ (x : Seated). x.lanes) c.remove.ensures
    in
    let kept = refilled_keeps j i.tables i.txns.items (numbers_waiting c.remove-2.new.self) c.remove.new.self before w.result (numbers_waiting w.new.waiting) w.new.lanes c.renew_marked.new.lanes u re in
    let some = (there (goal.at.invariant_of-self c).After-self).0 in
    let gone_now : is_live j.entries c.args.txn ≡ false = subst (λ es. is_live es c.args.txn ≡ false) (sym c.push_reserved.ensures.entries) (live-ended i.journal.entries (Withdrawn c.args.txn) c.args.txn (eq-eqb c.args.txn c.args.txn refl)) in (
      rw c.free_code.ensures (freed-forest j i.tables i.txns.items (numbers_waiting w.new.waiting) c.renew_marked.new.lanes c.args.txn (counts j.opening j.entries kept.sound.right.legal) some gone_now kept),
      rw (lanes, c.clear.ensures.capacity) c.self.invariant.1,
      rw c.free_code.ensures (freed-queued (c.args.txn - 1) i.txns.items w.new.waiting (subst (λ xs. AreQueued xs w.new.waiting) c.deref-2.ensures.value w.ensures.queued)),
      rw (c.push_reserved.ensures.entries, c.free_room.ensures)
          (rooms_withdrawn i.journal.entries i.rooms.items c.args.txn c.self.invariant.3 (there (goal.at.invariant_of-self c).After-self).0 (counts i.journal.opening i.journal.entries c.self.invariant.0.sound.right.legal)),
    )

pub returns : goal.returns
returns c =
    let i = c.self.inside in
    let t = c.args.txn in
    let j = c.push_reserved.new.self in
    let f : Forest = forest_of i.journal i.tables i.lanes in
    let before = map started_of i.lanes.seats in
    let w = c.start_waiting-self-inside in
    let fill = filled (goal.at.returns c).After-deref-3 in
    let re = refilled (goal.at.returns c).After-renew_marked fill in
    let a = (goal.at.returns c).After-deref-2 in
    let u = unstarted a in
    let gone_is : forest_of j i.tables c.remove.new.self ≡ gone f t =
    ap (forest_of j i.tables) c.remove.ensures
    ∙ ap (λ x. forest_of x i.tables (record i.lanes { seats = seats_without t i.lanes.seats })) (is_pushed i.journal j (Withdrawn t) c.push_reserved.ensures.opening c.push_reserved.ensures.entries)
    ∙ left_forest i.journal i.tables i.txns.items (numbers_waiting i.waiting) i.lanes t j.spare c.self.invariant.0 (live_inside a) (open_inside a) c.push_reserved.ensures.room
    in
    let now : forest_of j i.tables c.renew_marked.new.lanes ≡ withdrawn f t =
    refilled_forest j i.tables i.txns.items (numbers_waiting c.remove-2.new.self) c.remove.new.self before w.result (numbers_waiting w.new.waiting) w.new.lanes c.renew_marked.new.lanes u re ∙ ap (λ g. settle before (start_waiting g)) gone_is
    in
    let who : w.result ≡ next_to_start (gone f t) = fill.next ∙ next_is j i.tables i.txns.items (numbers_waiting c.remove-2.new.self) c.remove.new.self before u ∙ ap next_to_start gone_is in
    let told : map resumed_pair c.clear.new.self.items ≡ [] = none_back (goal.at.returns c).After-renew_marked in
    let view : withdraw_view c.args.self.now t ≡ record { numbers = withdrawn f t; resumed = []; starts = next_to_start (gone f t) } =
    withdraw_view_is c.args.self.now t c.requires.live c.requires.open ∙ ap (λ (v : View). record { numbers = withdrawn v.numbers t; resumed = []; starts = next_to_start (gone v.numbers t) }) (sym c.self.view_is)
    in
    rw (now, told, who) (sym view)
