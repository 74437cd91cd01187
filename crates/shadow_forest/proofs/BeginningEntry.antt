-- One more entry in the journal.
use Rattle.std.proofs.Common.{◌≡◌, ℕ, ◌+◌, ◌≤◌, true, false, not, ◌&&◌, ◌||◌, Bool, List, [], ◌∷◌, ◌++◌, length, filter, Option, Some, None, refl, ap, sym, subst, ◌∙◌, arith, append-nil}
use Rattle.std.specs.List.{AllByRecursion}
use Rattle.std.proofs.lemmas.Bool.{and_from, and_parts, or_cases, or_right}
use Rattle.std.proofs.lemmas.List.Elements.{filter_agree, filter_map-append}
use Rattle.txn_runs.specs.Run.{Tables}
use Rattle.txn_runs.specs.Bounds.{IsProgram, reach}
use Rattle.txn_code.specs.Nodes.{nodes_of}
use Rattle.journal_core.specs.declared.entry.Entry.{Entry}
use Rattle.journal_core.specs.declared.entry.Entry.TheVariants.{Began, Sealed, Committed, Withdrawn}
use Rattle.journal_core.specs.Recorded.{Recorded}
use Rattle.journal_core.specs.Journal.{has_begun, has_ended, is_begin, is_begin_of, is_end_of, is_live, is_sealed, program_of, deadline_of, deadline_in}
use Rattle.journal_core.proofs.Legal.{begun-live, began-push, has_begun-push, has_ended-push, is_sealed-push, program_of-push, live-other}
use Rattle.forest_model.specs.Forest.{Started, Forest, wanted, is_started}
use Rattle.forest_model.specs.Start.{waits, numbers, number_in}
use Rattle.forest_model.specs.Sound.{IsSound}
use Rattle.forest_model.proofs.Lists.{either, all-weaken, all-both, all-append}
use Rattle.forest_model.proofs.EventLaws.{seal-sound}
use Rattle.shadow_lanes.specs.Seats.{Seat, Seated, conflicts_of, started_of}
use Rattle.shadow_forest.specs.declared.txn.Txn.{Txn}
use Rattle.shadow_forest.specs.Answers.{IsWithin}
use Rattle.shadow_forest.specs.Kept.{forest_of, SeatStands, AllStand, AllNoted, HasTxn, AreTxns, owed, IsForest}
use Rattle.shadow_forest.proofs.Wanting.{wanted_are}
use Rattle.shadow_forest.proofs.SettledForest.{all_unmapped}

-- the journal with one more entry, and so much room behind it
abbrev pub pushed : Recorded → Entry → ℕ → Recorded
pushed journal e room = record { opening = journal.opening; entries = journal.entries ++ e ∷ []; spare = room }

pub is_pushed : (journal new : Recorded) (e : Entry) → new.opening ≡ journal.opening → new.entries ≡ journal.entries ++ e ∷ [] → new ≡ pushed journal e new.spare
is_pushed journal new e opening entries = rw (sym opening, sym entries) refl

-- each started transaction began
pub all_begun : (journal : Recorded) (d : Tables) (s : Seated) → IsSound (forest_of journal d s) → AllByRecursion (λ (r : Seat). has_begun journal.entries r.number ≡ true) s.seats
all_begun journal d s h =
    all-weaken (λ (r : Seat). is_live journal.entries r.number ≡ true) (λ (r : Seat). has_begun journal.entries r.number ≡ true) (λ r live. begun-live journal.entries r.number live) s.seats
    (all_unmapped (λ (x : Started). is_live journal.entries x.number ≡ true) started_of s.seats h.right.live)

-- each state stays its program's run
pub stand_push : (journal : List Entry) (e : Entry) (d : Tables) (seats : List Seat) → AllByRecursion (λ (r : Seat). has_begun journal r.number ≡ true) seats → AllStand journal d seats → AllStand (journal ++ e ∷ []) d seats
stand_push journal e d seats begun stand =
    all-both (λ (r : Seat). has_begun journal r.number ≡ true) (λ (r : Seat). SeatStands (program_of journal r.number) d r) (λ (r : Seat). SeatStands (program_of (journal ++ e ∷ []) r.number) d r)
    (λ r b old. subst (λ p. SeatStands p d r) (sym (program_of-push journal e r.number b)) old) seats begun stand

-- where the states stand over both journals, what is wanted is the same
pub noted_over : (journal new : Recorded) (d : Tables) (s : Seated) → AllStand journal.entries d s.seats → AllStand new.entries d s.seats → AllNoted (forest_of journal d s) s.seats → AllNoted (forest_of new d s) s.seats
noted_over journal new d s stand stand' noted =
    all-both (λ (r : Seat). SeatStands (program_of journal.entries r.number) d r × SeatStands (program_of new.entries r.number) d r) (λ (r : Seat). conflicts_of r ≡ wanted (forest_of journal d s) (started_of r))
    (λ (r : Seat). conflicts_of r ≡ wanted (forest_of new d s) (started_of r))
    (λ r both old. old ∙ sym (wanted_are journal d s r stand both.0.optimistic) ∙ wanted_are new d s r stand' both.1.optimistic)
    s.seats
    (all-both (λ (r : Seat). SeatStands (program_of journal.entries r.number) d r) (λ (r : Seat). SeatStands (program_of new.entries r.number) d r)
    (λ (r : Seat). SeatStands (program_of journal.entries r.number) d r × SeatStands (program_of new.entries r.number) d r) (λ r a b. (a, b)) s.seats stand stand')
    noted

deadline_in-begins : (e : Entry) (t m n : ℕ) → is_begin_of t e ≡ true → deadline_in t e m ≡ deadline_in t e n
deadline_in-begins (Began txn deadline program) t m n h = rw h refl
deadline_in-begins Sealed t m n h = cc
deadline_in-begins (Committed txn outcome) t m n h = cc
deadline_in-begins (Withdrawn txn) t m n h = cc

-- a transaction keeps the deadline that it began with
pub deadline_of-push : (journal : List Entry) (e : Entry) (t : ℕ) → has_begun journal t ≡ true → deadline_of (journal ++ e ∷ []) t ≡ deadline_of journal t
deadline_of-push [] e t h = cc
deadline_of-push (x ∷ journal) e t h =
    either (or_cases _ _ h)
    (λ here. deadline_in-begins x t _ _ here)
    (λ later. ap (deadline_in t x) (deadline_of-push journal e t later))

neither : (a b : Bool) → not (a || b) ≡ true → not a ≡ true
neither true b e = e
neither false b e = refl

-- who began, and is live behind one more entry, was live before it
live_before : (journal : List Entry) (e : Entry) (t : ℕ) → has_begun journal t ≡ true → is_live (journal ++ e ∷ []) t ≡ true → is_live journal t ≡ true
live_before journal e t begun live =
    let on : not (has_ended journal t || is_end_of t e) ≡ true = subst (λ b. not b ≡ true) (has_ended-push journal e t) (and_parts _ _ live).1 in
    and_from _ _ begun (neither (has_ended journal t) (is_end_of t e) on)

-- what is kept of a transaction that began stays true
pub has_txn_push : (items : ℕ) (journal : List Entry) (e : Entry) (t : ℕ) (o : Option Txn) → has_begun journal t ≡ true → HasTxn items journal t o → HasTxn items (journal ++ e ∷ []) t o
has_txn_push items journal e t None begun h = h
has_txn_push items journal e t (Some x) begun h =
    let program = sym (program_of-push journal e t begun) in
    record {
      code = λ live. subst (λ p. x.code.nodes ≡ nodes_of p) program (h.code (live_before journal e t begun live));
      program = subst IsProgram program h.program;
      fits = subst (λ p. reach p ≤ items) program h.fits;
      deadline = h.deadline ∙ sym (deadline_of-push journal e t begun);
    }

-- an entry that begins none leaves those that began
pub txns_other : (items : ℕ) (journal : List Entry) (e : Entry) (kept : List Txn) → is_begin e ≡ false → ((t : ℕ) → is_begin_of t e ≡ false) → AreTxns items journal kept → AreTxns items (journal ++ e ∷ []) kept
txns_other items journal e kept none none_of h = record {
  many = h.many ∙ sym (began-push journal e ∙ rw none (omega arith));
  each = λ t begun.
      let old : has_begun journal t ≡ true = either (or_cases _ _ (sym (has_begun-push journal e t) ∙ begun)) (λ was. was) (λ now. let no : true ≡ false = sym now ∙ none_of t in cc) in
      has_txn_push items journal e t _ old (h.each t old);
}

-- Seal.

pub sealed_kept : (journal : Recorded) (d : Tables) (kept : List Txn) (queue : List ℕ) (s : Seated) (room : ℕ) → IsForest journal d kept queue s → is_sealed journal.entries ≡ false → room + 1 ≡ journal.spare
    → IsForest (pushed journal Sealed room) d kept queue s
sealed_kept journal d kept queue s room h unsealed less =
    let f : Forest = forest_of journal d s in
    let new : Recorded = pushed journal Sealed room in
    let f' : Forest = forest_of new d s in
    let stand : AllStand new.entries d s.seats = stand_push journal.entries Sealed d s.seats (all_begun journal d s h.sound) h.stand in
    let numbers_are : numbers new.entries ≡ numbers journal.entries = filter_map-append number_in journal.entries (Sealed ∷ []) ∙ append-nil (numbers journal.entries) in
    let same : filter (waits f) (numbers journal.entries) ≡ filter (waits f') (numbers journal.entries) =
    filter_agree (waits f) (waits f') (λ t. ap (λ b. b && not (is_started f.started t)) (sym (live-other journal.entries Sealed t refl refl))) (numbers journal.entries)
    in
    let before : owed (length s.seats) (length queue) false ≤ journal.spare = subst (λ b. owed (length s.seats) (length queue) b ≤ journal.spare) unsealed h.spare in
    let is_now : is_sealed new.entries ≡ true = is_sealed-push journal.entries Sealed ∙ or_right _ _ refl in
    let after : owed (length s.seats) (length queue) true ≤ room = omega (arith, before, less) in
    record {
      sound = subst IsSound (rw unsealed refl) (seal-sound f h.sound);
      least = h.least;
      most = h.most;
      items = h.items;
      size = h.size;
      within = all-append (IsWithin s.items) journal.entries (Sealed ∷ []) h.within (tt, tt);
      stand = stand;
      noted = noted_over journal new d s h.stand stand h.noted;
      txns = txns_other s.items journal.entries Sealed kept refl (λ t. refl) h.txns;
      waiting = h.waiting ∙ same ∙ ap (filter (waits f')) (sym numbers_are);
      spare = subst (λ b. owed (length s.seats) (length queue) b ≤ room) (sym is_now) after;
    }
