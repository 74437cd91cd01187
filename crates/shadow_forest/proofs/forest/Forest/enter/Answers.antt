use Rattle.std.proofs.Common.{◌≡◌, ℕ, List, ◌+◌, ◌≤◌, ◌<◌, ◌++◌, false, [], ◌∷◌, length, map, refl, ap, sym, subst, ◌∙◌, arith}
use Rattle.std.specs.Vec.{vec_capacity}
use Rattle.txn_runs.specs.Bounds.{reach, IsProgram}
use Rattle.journal_core.specs.declared.entry.Entry.TheVariants.{Began}
use Rattle.journal_core.specs.Recorded.{Recorded}
use Rattle.journal_core.specs.Journal.{began, is_sealed}
use Rattle.forest_model.specs.Forest.{Forest, is_started}
use Rattle.forest_model.specs.Events.{begin as begin_of}
use Rattle.forest_model.specs.Drain.{after_step}
use Rattle.shadow_lanes.specs.Seats.{started_of, seats_with}
use Rattle.shadow_forest.specs.View.{View, with_numbers}
use Rattle.shadow_forest.specs.Answers.{resumed_pair}
use Rattle.std.specs.List.{AllByRecursion}
use Rattle.shadow_forest.specs.declared.txn.Txn.{Txn}
use Rattle.shadow_forest.specs.Ready.{IsCarried}
use Rattle.shadow_forest.specs.Kept.{IsForest, AreQueued, HaveRooms, forest_of, numbers_waiting}
use Rattle.journal_core.proofs.Legal.{counts}
use Rattle.shadow_forest.proofs.Carrying.{waiting-carried}
use Rattle.shadow_forest.proofs.RoomLaws.{rooms_begun}
use Rattle.shadow_forest.proofs.Queue.{numbers-many, numbers-push, queue-below, queued-kept, queued-more}
use Rattle.shadow_forest.proofs.BeginningEntry.{is_pushed}
use Rattle.shadow_forest.proofs.BeginningSeats.{not_found}
use Rattle.forest_model.proofs.EventLaws.{not_started}
use Rattle.shadow_forest.proofs.Beginning.{MayBegin, HasBegun, begun_journal, same_begun, few_waiting, has_begun_waiting, has_begun_started}
use Rattle.shadow_forest.proofs.forest.Forest.enter.Goals as goal
use Rattle.shadow_forest.proofs.forest.Forest.enter.Goals.{After-len-2, After-push_reserved-2, then-len-lanes, else-len-lanes+in_ok-add}

-- few are live
live : (c : After-len-2) → c.len.result + c.len-2.result ≤ 20064
live c =
    let i = c.self.inside in
    let waiting : length (numbers_waiting i.waiting) ≤ 20000 = few_waiting i.journal i.tables i.txns.items (numbers_waiting i.waiting) i.lanes c.self.invariant.0 in
    let many : length (numbers_waiting i.waiting) ≡ length i.waiting = numbers-many i.waiting in
    let seats = c.len.ensures.seats in
    omega (arith, waiting, many, seats.few, seats.many, c.len.ensures.len, c.len-2.ensures)

pub overflow_cast-live : goal.overflow_cast-live
overflow_cast-live c = omega (arith, live (goal.at.overflow_cast-live c).After-len-2)

pub overflow_add-live : goal.overflow_add-live
overflow_add-live c = omega (arith, live (goal.at.overflow_add-live c).After-len-2)

pub overflow_add-live-2 : goal.overflow_add-live-2
overflow_add-live-2 c = omega (arith, live (goal.at.overflow_add-live-2 c).After-len-2)

pub add-requires : goal.add-requires
add-requires c =
    let i = c.self.inside in
    let many : length i.txns.items ≡ began i.journal.entries = c.self.invariant.0.txns.many in
    let same : c.began-txn.result ≡ began i.journal.entries = c.began-txn.ensures ∙ ap began c.in_ok-reserve.ensures.entries in
    queue-below i.lanes.items i.txns.items (c.began-txn.result + 1) i.waiting (omega (arith, many, same))
    (waiting-carried i.journal i.tables i.txns.items (numbers_waiting i.waiting) i.lanes c.self.invariant.0)

pub start-requires-clause-new : goal.start-requires-clause-new
start-requires-clause-new c =
    let i = c.self.inside in
    let unsealed : is_sealed i.journal.entries ≡ false = ap (λ (v : View). is_sealed v.numbers.journal) c.self.view_is ∙ c.requires.open in
    let few : began i.journal.entries < 20000 = subst (λ (v : View). began v.numbers.journal < 20000) (sym c.self.view_is) c.requires.few in
    let number : c.began-txn.result + 1 ≡ began i.journal.entries + 1 = ap (λ n. n + 1) (c.began-txn.ensures ∙ ap began c.in_ok-reserve.ensures.entries) in
    not_found i.lanes.seats (c.began-txn.result + 1)
    (subst (λ n. is_started (map started_of i.lanes.seats) n ≡ false) (sym number)
    (not_started (forest_of i.journal i.tables i.lanes) c.self.invariant.0.sound c.args.deadline c.args.program unsealed few))

-- what both branches leave
journal_between : (c : After-push_reserved-2) → c.if-len-lanes.self-inside.journal ≡ c.reserve.new.self
journal_between c = elim c.if-len-lanes.branch [ then-len-lanes w ↦ ap (λ f. f.journal) w.self-inside-is | else-len-lanes+in_ok-add w ↦ ap (λ f. f.journal) w.self-inside-is ]

txns_between : (c : After-push_reserved-2) → c.if-len-lanes.self-inside.txns ≡ c.reserve-2.new.self
txns_between c = elim c.if-len-lanes.branch [ then-len-lanes w ↦ ap (λ f. f.txns) w.self-inside-is | else-len-lanes+in_ok-add w ↦ ap (λ f. f.txns) w.self-inside-is ]

tables_between : (c : After-push_reserved-2) → c.if-len-lanes.self-inside.tables ≡ c.self.inside.tables
tables_between c = elim c.if-len-lanes.branch [ then-len-lanes w ↦ ap (λ f. f.tables) w.self-inside-is | else-len-lanes+in_ok-add w ↦ ap (λ f. f.tables) w.self-inside-is ]

may : (c : After-push_reserved-2) → MayBegin c.self.inside.journal c.self.inside.tables c.self.inside.txns.items (numbers_waiting c.self.inside.waiting) c.self.inside.lanes c.args.deadline c.args.program (record { deadline = c.args.deadline; code = c.in_ok-code.code }) c.push_reserved-2.new.self.spare
may c =
    let i = c.self.inside in
    record {
      old = c.self.invariant.0;
      unsealed = ap (λ (v : View). is_sealed v.numbers.journal) c.self.view_is ∙ c.requires.open;
      few = subst (λ (v : View). began v.numbers.journal < 20000) (sym c.self.view_is) c.requires.few;
      fits = subst (λ (v : View). reach c.args.program ≤ length v.numbers.tables) (sym c.self.view_is) c.requires.fits;
      sound_program = subst IsProgram c.program.view_is c.program.invariant;
      within = c.requires.deadline;
      code = c.in_ok-code.ensures.nodes;
      kept_deadline = refl;
      space = let left : c.push_reserved-2.new.self.spare + 1 ≡ c.reserve.new.self.spare = c.push_reserved-2.ensures.room ∙ ap (λ (j : Recorded). j.spare) (journal_between c) in
          let many : length (numbers_waiting i.waiting) ≡ length i.waiting = numbers-many i.waiting in
          omega (arith, left, many, c.in_ok-reserve.ensures.room, c.len.ensures.len, c.len-2.ensures);
    }

new_journal : (c : After-push_reserved-2) → c.push_reserved-2.new.self ≡ begun_journal c.self.inside.journal c.args.deadline c.args.program c.push_reserved-2.new.self.spare
new_journal c =
    let reserved = c.in_ok-reserve.ensures in
    let pushed = c.push_reserved-2.ensures in
    let number : c.began-txn.result + 1 ≡ began c.self.inside.journal.entries + 1 = ap (λ n. n + 1) (c.began-txn.ensures ∙ ap began reserved.entries) in
    is_pushed c.self.inside.journal c.push_reserved-2.new.self (Began (began c.self.inside.journal.entries + 1) c.args.deadline c.args.program) (pushed.opening ∙ ap (λ (j : Recorded). j.opening) (journal_between c) ∙ reserved.opening)
    (pushed.entries ∙ ap (λ es. es ++ Began (c.began-txn.result + 1) c.args.deadline c.args.program ∷ []) (ap (λ (j : Recorded). j.entries) (journal_between c) ∙ reserved.entries) ∙ ap (λ n. c.self.inside.journal.entries ++ Began n c.args.deadline c.args.program ∷ []) number)

entered : (c : After-push_reserved-2) → HasBegun c.self.inside.journal c.self.inside.tables c.self.inside.txns.items (numbers_waiting c.self.inside.waiting) c.self.inside.lanes c.args.deadline c.args.program (record { deadline = c.args.deadline; code = c.in_ok-code.code }) c.push_reserved-2.new.self (numbers_waiting c.if-len-lanes.self-inside.waiting) c.if-len-lanes.self-inside.lanes
entered c =
    let i = c.self.inside in
    let number : c.began-txn.result + 1 ≡ began i.journal.entries + 1 = ap (λ n. n + 1) (c.began-txn.ensures ∙ ap began c.in_ok-reserve.ensures.entries) in
    elim c.if-len-lanes.branch [
      | then-len-lanes w ↦
          let free : length i.lanes.seats < i.lanes.lanes = omega (arith, w.if-len-lanes.true, c.len-3.ensures.len, c.lanes.ensures) in
          let same : c.if-len-lanes.self-inside.waiting ≡ i.waiting = ap (λ f. f.waiting) w.self-inside-is in
          let seats : c.if-len-lanes.self-inside.lanes ≡ w.start.new.self = ap (λ f. f.lanes) w.self-inside-is in
          same_begun (new_journal c) (ap numbers_waiting same)
          (seats ∙ w.start.ensures ∙ ap (λ n. record i.lanes { seats = seats_with n c.in_ok-code.code.nodes i.lanes.items i.lanes.seats }) number)
          (has_begun_started i.journal i.tables i.txns.items (numbers_waiting i.waiting) i.lanes c.args.deadline c.args.program (record { deadline = c.args.deadline; code = c.in_ok-code.code }) c.push_reserved-2.new.self.spare (may c) free)
      | else-len-lanes+in_ok-add w ↦
          let full : i.lanes.lanes ≤ length i.lanes.seats = omega (arith, w.if-len-lanes.false, c.len-3.ensures.len, c.lanes.ensures) in
          let same : c.if-len-lanes.self-inside.waiting ≡ w.add.new.self = ap (λ f. f.waiting) w.self-inside-is in
          let seats : c.if-len-lanes.self-inside.lanes ≡ i.lanes = ap (λ f. f.lanes) w.self-inside-is in
          same_begun (new_journal c)
          (ap numbers_waiting (same ∙ w.in_ok-add.ensures.ok) ∙ numbers-push i.waiting c.args.deadline (c.began-txn.result + 1) ∙ ap (λ n. numbers_waiting i.waiting ++ n ∷ []) number)
          seats
          (has_begun_waiting i.journal i.tables i.txns.items (numbers_waiting i.waiting) i.lanes c.args.deadline c.args.program (record { deadline = c.args.deadline; code = c.in_ok-code.code }) c.push_reserved-2.new.self.spare (may c) full)
    ]

-- those that wait have the deadlines that are kept
queued : (c : After-push_reserved-2) → AreQueued (c.self.inside.txns.items ++ record { deadline = c.args.deadline; code = c.in_ok-code.code } ∷ []) c.if-len-lanes.self-inside.waiting
queued c =
    let i = c.self.inside in
    let x : Txn = record { deadline = c.args.deadline; code = c.in_ok-code.code } in
    let carried : AllByRecursion (IsCarried i.lanes.items i.txns.items) (numbers_waiting i.waiting) = waiting-carried i.journal i.tables i.txns.items (numbers_waiting i.waiting) i.lanes c.self.invariant.0 in
    let many : length i.txns.items ≡ began i.journal.entries = c.self.invariant.0.txns.many in
    let number : c.began-txn.result + 1 ≡ length i.txns.items + 1 = ap (λ n. n + 1) (c.began-txn.ensures ∙ ap began c.in_ok-reserve.ensures.entries ∙ sym many) in
    elim c.if-len-lanes.branch [
      | then-len-lanes w ↦
          subst (AreQueued (i.txns.items ++ x ∷ [])) (sym (ap (λ f. f.waiting) w.self-inside-is)) (queued-kept i.lanes.items i.txns.items x i.waiting carried c.self.invariant.2)
      | else-len-lanes+in_ok-add w ↦
          subst (AreQueued (i.txns.items ++ x ∷ [])) (sym (ap (λ f. f.waiting) w.self-inside-is ∙ w.in_ok-add.ensures.ok))
          (queued-more i.lanes.items i.txns.items x (c.began-txn.result + 1) i.waiting number carried c.self.invariant.2)
    ]

resumed_between : (c : After-push_reserved-2) → c.if-len-lanes.self-inside.resumed ≡ c.self.inside.resumed
resumed_between c = elim c.if-len-lanes.branch [ then-len-lanes w ↦ ap (λ f. f.resumed) w.self-inside-is | else-len-lanes+in_ok-add w ↦ ap (λ f. f.resumed) w.self-inside-is ]

starts_between : (c : After-push_reserved-2) → c.if-len-lanes.self-inside.starts ≡ c.self.inside.starts
starts_between c = elim c.if-len-lanes.branch [ then-len-lanes w ↦ ap (λ f. f.starts) w.self-inside-is | else-len-lanes+in_ok-add w ↦ ap (λ f. f.starts) w.self-inside-is ]

kept_more : (c : After-push_reserved-2) → c.push_reserved.new.self.items ≡ c.self.inside.txns.items ++ record { deadline = c.args.deadline; code = c.in_ok-code.code } ∷ []
kept_more c = c.push_reserved.ensures.items ∙ ap (λ xs. xs ++ record { deadline = c.args.deadline; code = c.in_ok-code.code } ∷ []) (ap (λ v. v.items) (txns_between c) ∙ c.in_ok-reserve-2.ensures.items)

rooms_between : (c : After-push_reserved-2) → c.if-len-lanes.self-inside.rooms.items ≡ c.self.inside.rooms.items
rooms_between c =
    elim c.if-len-lanes.branch [ then-len-lanes w ↦ ap (λ f. f.rooms.items) w.self-inside-is | else-len-lanes+in_ok-add w ↦ ap (λ f. f.rooms.items) w.self-inside-is ] ∙ c.in_ok-reserve-3.ensures.items

-- each has its room
roomy : (c : After-push_reserved-2) (rooms : List ℕ) → rooms ≡ c.if-len-lanes.self-inside.rooms.items ++ c.in_ok-room.room ∷ [] → HaveRooms c.push_reserved-2.new.self.entries rooms
roomy c rooms more =
    let i = c.self.inside in
    let number : c.began-txn.result + 1 ≡ began i.journal.entries + 1 = ap (λ n. n + 1) (c.began-txn.ensures ∙ ap began c.in_ok-reserve.ensures.entries) in
    let entries : c.push_reserved-2.new.self.entries ≡ i.journal.entries ++ Began (c.began-txn.result + 1) c.args.deadline c.args.program ∷ [] =
    c.push_reserved-2.ensures.entries ∙ ap (λ es. es ++ Began (c.began-txn.result + 1) c.args.deadline c.args.program ∷ []) (ap (λ (j : Recorded). j.entries) (journal_between c) ∙ c.in_ok-reserve.ensures.entries)
    in
    rw (entries, more, rooms_between c)
    (rooms_begun i.journal.entries i.rooms.items (c.began-txn.result + 1) c.args.deadline c.args.program c.in_ok-room.room (counts i.journal.opening i.journal.entries c.self.invariant.0.sound.right.legal) c.self.invariant.3 number
    (omega (arith, c.in_ok-room.ensures, c.emits_max.ensures.exact)))

pub invariant_of-self-2 : goal.invariant_of-self-2
invariant_of-self-2 c =
    let a = (goal.at.invariant_of-self-2 c).After-push_reserved-2 in
    let h = entered a in
    let j : Recorded = c.push_reserved-2.new.self in
    let m = c.if-len-lanes.self-inside in (
      subst (λ d. IsForest j d c.push_reserved.new.self.items (numbers_waiting m.waiting) m.lanes) (sym (tables_between a))
          (subst (λ xs. IsForest j c.self.inside.tables xs (numbers_waiting m.waiting) m.lanes) (sym (kept_more a)) h.forest),
      subst (λ v. m.lanes.lanes ≤ vec_capacity v) (sym (resumed_between a)) (subst (λ n. n ≤ vec_capacity c.self.inside.resumed) (sym h.lanes) c.self.invariant.1),
      subst (λ xs. AreQueued xs m.waiting) (sym (kept_more a)) (queued a),
      roomy a c.push_reserved-3.new.self.items c.push_reserved-3.ensures.items,
    )

pub returns-clause-next : goal.returns-clause-next
returns-clause-next c =
    let a = (goal.at.returns-clause-next c).After-push_reserved-2 in
    let i = c.self.inside in
    let m = c.if-len-lanes.self-inside in
    let j : Recorded = c.push_reserved-2.new.self in
    ap (λ d. record { numbers = forest_of j d m.lanes; resumed = map resumed_pair m.resumed.items; starts = m.starts }) (tables_between a)
    ∙ ap (λ (f : Forest). record { numbers = f; resumed = map resumed_pair m.resumed.items; starts = m.starts }) (entered a).view
    ∙ ap (λ v. record { numbers = after_step (forest_of i.journal i.tables i.lanes) (begin_of (forest_of i.journal i.tables i.lanes) c.args.program c.args.deadline); resumed = map resumed_pair v.items; starts = m.starts }) (resumed_between a)
    ∙ ap (λ o. record { numbers = after_step (forest_of i.journal i.tables i.lanes) (begin_of (forest_of i.journal i.tables i.lanes) c.args.program c.args.deadline); resumed = map resumed_pair i.resumed.items; starts = o }) (starts_between a)
    ∙ ap (λ (v : View). with_numbers (after_step v.numbers (begin_of v.numbers c.args.program c.args.deadline)) v) c.self.view_is
