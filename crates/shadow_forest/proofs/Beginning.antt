-- A transaction begins.
use Rattle.std.proofs.Common.{◌≡◌, ℕ, suc, ◌+◌, ◌-◌, ◌≤◌, ◌<◌, true, false, ltb, List, [], ◌∷◌, ◌++◌, filter, length, Ok, IfOk, refl, ap, sym, subst, ◌∙◌, arith, eqb-true, eq-eqb, length-append}
use Rattle.std.specs.Prelude.{slice_get}
use Rattle.std.specs.List.{AllByRecursion}
use Rattle.std.proofs.lemmas.Bool.{cases_Bool, or_cases, or_parts, lt-ltb, ltb-true}
use Rattle.txn_runs.specs.Run.{Tables}
use Rattle.txn_runs.specs.Bounds.{IsProgram, reach}
use Rattle.txn_runs.specs.declared.program.Program.{Program}
use Rattle.txn_code.specs.declared.node.Node.{Node}
use Rattle.txn_code.specs.Nodes.{nodes_of}
use Rattle.journal_core.specs.declared.entry.Entry.{Entry}
use Rattle.journal_core.specs.declared.entry.Entry.TheVariants.{Began, Sealed, Committed, Withdrawn}
use Rattle.journal_core.specs.Recorded.{Recorded}
use Rattle.journal_core.specs.Journal.{began, has_begun, is_begin_of, is_sealed, program_of, deadline_of, deadline_in}
use Rattle.journal_core.proofs.Legal.{Counts, counts, began-push, has_begun-push, is_sealed-push, next_new, program_of-begun}
use Rattle.forest_model.specs.Forest.{Forest, is_started}
use Rattle.forest_model.specs.Start.{start, numbers, waits}
use Rattle.forest_model.specs.Sound.{IsSound}
use Rattle.forest_model.specs.Events.{with_entry, begun, begin}
use Rattle.forest_model.specs.Drain.{after_step}
use Rattle.forest_model.proofs.Lists.{either, all-append, length-map'}
use Rattle.forest_model.proofs.StartedLaws.{length-put}
use Rattle.forest_model.proofs.EventLaws.{begin-sound, not_started}
use Rattle.shadow_lanes.specs.Seats.{Seated, comes_before, fresh_seat, started_of, seats_with}
use Rattle.shadow_forest.specs.declared.txn.Txn.{Txn}
use Rattle.shadow_forest.specs.Answers.{IsWithin}
use Rattle.shadow_forest.specs.Kept.{forest_of, AllStand, IsTxn, HasTxn, AreTxns, owed, IsForest}
use Rattle.shadow_forest.proofs.Elements.{slice_left, slice_last}
use Rattle.shadow_forest.proofs.BeginningEntry.{pushed, all_begun, stand_push, noted_over, has_txn_push}
use Rattle.shadow_forest.proofs.BeginningSeats.{started_with, stand_with, noted_with}
use Rattle.shadow_forest.proofs.BeginningQueue.{few_wait, waits_last, waits_same}

-- What is kept of it.

deadline_in-other : (e : Entry) (t n : ℕ) → is_begin_of t e ≡ false → deadline_in t e n ≡ n
deadline_in-other (Began txn deadline program) t n h = rw h refl
deadline_in-other Sealed t n h = refl
deadline_in-other (Committed txn outcome) t n h = refl
deadline_in-other (Withdrawn txn) t n h = refl

deadline_of-begun : (journal : List Entry) (t deadline : ℕ) (program : Program) → has_begun journal t ≡ false → deadline_of (journal ++ Began t deadline program ∷ []) t ≡ deadline
deadline_of-begun [] t deadline program h = rw (eq-eqb t t refl) refl
deadline_of-begun (x ∷ journal) t deadline program h =
    let parts = or_parts (is_begin_of t x) (has_begun journal t) h in
    deadline_in-other x t _ parts.0 ∙ deadline_of-begun journal t deadline program parts.1

-- a program may begin in a forest, whose journal has room for its end
pub record MayBegin (journal : Recorded) (d : Tables) (kept : List Txn) (queue : List ℕ) (s : Seated) (deadline : ℕ) (program : Program) (x : Txn) (room : ℕ) : Type 0 where
  pub old : IsForest journal d kept queue s
  pub unsealed : is_sealed journal.entries ≡ false
  pub few : began journal.entries < 20000
  pub fits : reach program ≤ length d
  pub sound_program : IsProgram program
  pub within : deadline ≤ 1000000000000
  pub code : x.code.nodes ≡ nodes_of program
  pub kept_deadline : x.deadline ≡ deadline
  pub space : length s.seats + length queue + 2 ≤ room

-- the journal with its begin
abbrev pub begun_journal : Recorded → ℕ → Program → ℕ → Recorded
begun_journal journal deadline program room = pushed journal (Began (began journal.entries + 1) deadline program) room

module _ (journal : Recorded) (d : Tables) (kept : List Txn) (queue : List ℕ) (s : Seated) (deadline : ℕ) (program : Program) (x : Txn) (room : ℕ) (h : MayBegin journal d kept queue s deadline program x room) where
  abbrev n : ℕ
  n = began journal.entries + 1

  abbrev e : Entry
  e = Began (began journal.entries + 1) deadline program

  abbrev new : Recorded
  new = pushed journal (Began (began journal.entries + 1) deadline program) room

  abbrev f : Forest
  f = forest_of journal d s

  known : Counts journal.entries
  known = counts journal.opening journal.entries h.old.sound.right.legal

  unbegun : has_begun journal.entries n ≡ false
  unbegun = next_new journal.entries n known refl

  its_program : program_of new.entries n ≡ program
  its_program = program_of-begun journal.entries n deadline program unbegun

  its_txn : IsTxn s.items new.entries n x
  its_txn = record {
    code = λ live. h.code ∙ ap nodes_of (sym its_program);
    program = subst IsProgram (sym its_program) h.sound_program;
    fits = subst (λ p. reach p ≤ s.items) (sym its_program) (subst (λ m. reach program ≤ m) (sym h.old.items) h.fits);
    deadline = h.kept_deadline ∙ sym (deadline_of-begun journal.entries n deadline program unbegun);
  }

  each_txn : (t : ℕ) → has_begun new.entries t ≡ true → HasTxn s.items new.entries t (slice_get (kept ++ x ∷ []) (t - 1))
  each_txn t begun =
      either (or_cases _ _ (sym (has_begun-push journal.entries e t) ∙ begun))
      (λ was.
      let low : 1 ≤ t = known.positive t was in
      let high : t ≤ began journal.entries = known.bounded t was in
      let many : length kept ≡ began journal.entries = h.old.txns.many in
      subst (HasTxn s.items new.entries t) (sym (slice_left kept (x ∷ []) (t - 1) (omega arith))) (has_txn_push s.items journal.entries e t _ was (h.old.txns.each t was)))
      (λ now.
      let same : n ≡ t = eqb-true n t now in
      let many : length kept ≡ began journal.entries = h.old.txns.many in
      let place : t - 1 ≡ length kept = omega arith in
      subst (HasTxn s.items new.entries t) (sym (ap (slice_get (kept ++ x ∷ [])) place ∙ slice_last kept x)) (subst (λ m. IsTxn s.items new.entries m x) same its_txn))

  txns_more : AreTxns s.items new.entries (kept ++ x ∷ [])
  txns_more = record { many = length-append kept (x ∷ []) ∙ ap (λ m. m + 1) h.old.txns.many ∙ sym (began-push journal.entries e); each = each_txn }

  within_more : AllByRecursion (IsWithin s.items) new.entries
  within_more = all-append (IsWithin s.items) journal.entries (e ∷ []) h.old.within ((subst (λ m. reach program ≤ m) (sym h.old.items) h.fits, h.within), tt)

  stand_more : AllStand new.entries d s.seats
  stand_more = stand_push journal.entries e d s.seats (all_begun journal d s h.old.sound) h.old.stand

  open_still : is_sealed new.entries ≡ false
  open_still = is_sealed-push journal.entries e ∙ rw h.unsealed refl

  -- no started transaction has its number
  pub no_seat : is_started f.started n ≡ false
  no_seat = not_started f h.old.sound deadline program h.unsealed h.few

  -- The forest in numbers.

  begin_is : begin f program deadline ≡ Ok (n, begun f n e)
  begin_is = rw (h.unsealed, lt-ltb _ _ h.few) refl

  pub after_begin : after_step f (begin f program deadline) ≡ begun f n e
  after_begin = ap (after_step f) begin_is

  sound_more : IsSound (begun f n e)
  sound_more = subst (λ a. IfOk a (λ b. IsSound b.1)) begin_is (begin-sound f program deadline h.old.sound)

  -- Where no lane is free it waits.

  full_lanes : s.lanes ≤ length s.seats → begun f n e ≡ forest_of new d s
  full_lanes full =
      let many : length f.started ≡ length s.seats = length-map' started_of s.seats in
      let off : ltb (length f.started) s.lanes ≡ false = either (cases_Bool (ltb (length f.started) s.lanes)) (λ e. let less : length f.started < s.lanes = ltb-true _ _ e in absurd (omega arith)) (λ e. e) in
      rw off refl

  pub begins_waiting : s.lanes ≤ length s.seats → IsForest new d (kept ++ x ∷ []) (queue ++ n ∷ []) s
  begins_waiting full = record {
    sound = subst IsSound (full_lanes full) sound_more;
    least = h.old.least;
    most = h.old.most;
    items = h.old.items;
    size = h.old.size;
    within = within_more;
    stand = stand_more;
    noted = noted_over journal new d s h.old.stand stand_more h.old.noted;
    txns = txns_more;
    waiting = ap (λ q. q ++ n ∷ []) h.old.waiting ∙ sym (waits_last f deadline program known no_seat);
    spare =
        let long : length (queue ++ n ∷ []) ≡ length queue + 1 = length-append queue (n ∷ []) in
        let enough : owed (length s.seats) (length (queue ++ n ∷ [])) false ≤ room = omega (arith, h.space) in
        subst (λ b. owed (length s.seats) (length (queue ++ n ∷ [])) b ≤ room) (sym open_still) enough;
  }

  pub view_waiting : s.lanes ≤ length s.seats → forest_of new d s ≡ after_step f (begin f program deadline)
  view_waiting full = sym (after_begin ∙ full_lanes full)

  -- Where one is free it starts.

  abbrev seated : List Node → Seated
  seated nodes = record s { seats = seats_with (began journal.entries + 1) nodes s.items s.seats }

  free_lane : (nodes : List Node) → length s.seats < s.lanes → begun f n e ≡ forest_of new d (seated nodes)
  free_lane nodes free =
      let many : length f.started ≡ length s.seats = length-map' started_of s.seats in
      let on : ltb (length f.started) s.lanes ≡ true = lt-ltb _ _ (subst (λ m. m < s.lanes) (sym many) free) in
      rw on (ap (λ rs. record (with_entry e f) { started = rs }) (sym (started_with n nodes s.items s.seats)))

  pub begins_started : (nodes : List Node) → nodes ≡ nodes_of program → length s.seats < s.lanes → IsForest new d (kept ++ x ∷ []) queue (seated nodes)
  begins_started nodes code free =
      let of_it : nodes ≡ nodes_of (program_of new.entries n) = code ∙ ap nodes_of (sym its_program) in
      let in_numbers : begun f n e ≡ start n (with_entry e f) = free_lane nodes free ∙ ap (λ rs. record (with_entry e f) { started = rs }) (started_with n nodes s.items s.seats) in
      record {
        sound = subst IsSound (free_lane nodes free) sound_more;
        least = h.old.least;
        most = h.old.most;
        items = h.old.items;
        size = h.old.size;
        within = within_more;
        stand = stand_with new.entries d n nodes s.items s.seats of_it h.old.items stand_more;
        noted = noted_with new d s n nodes of_it h.old.items stand_more (noted_over journal new d s h.old.stand stand_more h.old.noted);
        txns = txns_more;
        waiting = h.old.waiting ∙ sym (waits_same f deadline program known no_seat) ∙ ap (λ g. filter (waits g) (numbers new.entries)) (sym in_numbers ∙ free_lane nodes free);
        spare =
            let long : length (seated nodes).seats ≡ suc (length s.seats) = length-put comes_before (fresh_seat n nodes s.items) s.seats in
            let enough : owed (length (seated nodes).seats) (length queue) false ≤ room = omega (arith, h.space) in
            subst (λ b. owed (length (seated nodes).seats) (length queue) b ≤ room) (sym open_still) enough;
      }

  pub view_started : (nodes : List Node) → length s.seats < s.lanes → forest_of new d (seated nodes) ≡ after_step f (begin f program deadline)
  view_started nodes free = sym (after_begin ∙ free_lane nodes free)

-- no more wait than may begin
pub few_waiting : (journal : Recorded) (d : Tables) (kept : List Txn) (queue : List ℕ) (s : Seated) → IsForest journal d kept queue s → length queue ≤ 20000
few_waiting journal d kept queue s h =
    let few : began journal.entries ≤ 20000 = h.sound.right.few in
    let all : length (filter (waits (forest_of journal d s)) (numbers journal.entries)) ≤ began journal.entries = few_wait (waits (forest_of journal d s)) journal.entries in
    let same : length queue ≡ length (filter (waits (forest_of journal d s)) (numbers journal.entries)) = ap length h.waiting in
    omega (arith, few, all, same)

-- What the fields hold afterwards.
pub record HasBegun (journal : Recorded) (d : Tables) (kept : List Txn) (queue : List ℕ) (s : Seated) (deadline : ℕ) (program : Program) (x : Txn) (new : Recorded) (queue' : List ℕ) (s' : Seated) : Type 0 where
  pub forest : IsForest new d (kept ++ x ∷ []) queue' s'
  pub view : forest_of new d s' ≡ after_step (forest_of journal d s) (begin (forest_of journal d s) program deadline)
  pub lanes : s'.lanes ≡ s.lanes

pub same_begun : {journal : Recorded} {d : Tables} {kept : List Txn} {queue : List ℕ} {s : Seated} {deadline : ℕ} {program : Program} {x : Txn} {new new' : Recorded} {q q' : List ℕ} {t t' : Seated} → new' ≡ new → q' ≡ q → t' ≡ t
    → HasBegun journal d kept queue s deadline program x new q t → HasBegun journal d kept queue s deadline program x new' q' t'
same_begun a b c h = rw (a, b, c) h

pub has_begun_waiting : (journal : Recorded) (d : Tables) (kept : List Txn) (queue : List ℕ) (s : Seated) (deadline : ℕ) (program : Program) (x : Txn) (room : ℕ) → MayBegin journal d kept queue s deadline program x room
    → s.lanes ≤ length s.seats → HasBegun journal d kept queue s deadline program x (begun_journal journal deadline program room) (queue ++ (began journal.entries + 1) ∷ []) s
has_begun_waiting journal d kept queue s deadline program x room h full = record {
  forest = begins_waiting journal d kept queue s deadline program x room h full;
  view = view_waiting journal d kept queue s deadline program x room h full;
  lanes = refl;
}

pub has_begun_started : (journal : Recorded) (d : Tables) (kept : List Txn) (queue : List ℕ) (s : Seated) (deadline : ℕ) (program : Program) (x : Txn) (room : ℕ) → MayBegin journal d kept queue s deadline program x room
    → length s.seats < s.lanes → HasBegun journal d kept queue s deadline program x (begun_journal journal deadline program room) queue (record s { seats = seats_with (began journal.entries + 1) x.code.nodes s.items s.seats })
has_begun_started journal d kept queue s deadline program x room h free = record {
  forest = begins_started journal d kept queue s deadline program x room h x.code.nodes h.code free;
  view = view_started journal d kept queue s deadline program x room h x.code.nodes free;
  lanes = refl;
}
