-- The code of a transaction that has ended is not kept.
use Rattle.std.proofs.Common.{◌≡◌, ◌≢◌, ℕ, zero, suc, ◌-◌, ◌≤◌, ◌==◌, false, List, [], ◌∷◌, refl, ap, sym, subst, ◌∙◌, arith, eqb-true, eq-eqb, true≢false}
use Rattle.std.specs.Prelude.{slice_get}
use Rattle.std.proofs.lemmas.Bool.{cases_Bool}
use Rattle.txn_runs.specs.Run.{Tables}
use Rattle.journal_core.specs.declared.entry.Entry.{Entry}
use Rattle.journal_core.specs.Recorded.{Recorded}
use Rattle.journal_core.specs.Journal.{is_live}
use Rattle.journal_core.proofs.Legal.{Counts}
use Rattle.forest_model.proofs.Lists.{either}
use Rattle.shadow_state.specs.Bank.{at_place}
use Rattle.shadow_lanes.specs.Seats.{Seated}
use Rattle.wait_list.specs.Waiting.{Waiting}
use Rattle.shadow_forest.specs.declared.txn.Txn.{Txn}
use Rattle.shadow_forest.specs.Parts.{without_code, deadline_in}
use Rattle.shadow_forest.specs.Kept.{HasTxn, AreTxns, AreQueued, IsForest}
use Rattle.shadow_forest.proofs.Places.{length-at_place}

-- the others stay as they are
get-other : {X : Type 0} (f : X → X) (n m : ℕ) (xs : List X) → n ≢ m → slice_get (at_place n f xs) m ≡ slice_get xs m
get-other f n m [] ne = refl
get-other f zero zero (x ∷ xs) ne = absurd (ne refl)
get-other f zero (suc m) (x ∷ xs) ne = refl
get-other f (suc n) zero (x ∷ xs) ne = refl
get-other f (suc n) (suc m) (x ∷ xs) ne = get-other f n m xs (λ e. ne (ap suc e))

has-other : (items : ℕ) (journal : List Entry) (t n : ℕ) (kept : List Txn) → is_live journal t ≡ false → HasTxn items journal t (slice_get kept n) → HasTxn items journal t (slice_get (at_place n without_code kept) n)
has-other items journal t n [] gone h = h
has-other items journal t zero (x ∷ xs) gone h = record {
  code = λ live. absurd (true≢false (sym live ∙ gone));
  program = h.program;
  fits = h.fits;
  deadline = h.deadline;
}
has-other items journal t (suc n) (x ∷ xs) gone h = has-other items journal t n xs gone h

-- what is kept of who has ended needs no code
freed-txns : (items : ℕ) (journal : List Entry) (kept : List Txn) (t : ℕ) → Counts journal → 1 ≤ t → is_live journal t ≡ false → AreTxns items journal kept → AreTxns items journal (at_place (t - 1) without_code kept)
freed-txns items journal kept t c some gone h = record {
  many = length-at_place (t - 1) without_code kept ∙ h.many;
  each = λ u begun.
      either (cases_Bool (u == t))
      (λ e.
      let same : u ≡ t = eqb-true u t e in
      subst (λ n. HasTxn items journal n (slice_get (at_place (t - 1) without_code kept) (n - 1))) (sym same)
      (has-other items journal t (t - 1) kept gone (subst (λ n. HasTxn items journal n (slice_get kept (n - 1))) same (h.each u begun))))
      (λ e.
      let low : 1 ≤ u = c.positive u begun in
      let apart : t - 1 ≢ u - 1 = λ q. true≢false (sym (eq-eqb u t (omega (arith, q, low, some))) ∙ e) in
      subst (HasTxn items journal u) (sym (get-other without_code (t - 1) (u - 1) kept apart)) (h.each u begun));
}

pub freed-forest : (journal : Recorded) (d : Tables) (kept : List Txn) (queue : List ℕ) (s : Seated) (t : ℕ) → Counts journal.entries → 1 ≤ t → is_live journal.entries t ≡ false → IsForest journal d kept queue s
    → IsForest journal d (at_place (t - 1) without_code kept) queue s
freed-forest journal d kept queue s t c some gone h = record {
  sound = h.sound;
  least = h.least;
  most = h.most;
  items = h.items;
  size = h.size;
  within = h.within;
  stand = h.stand;
  noted = h.noted;
  txns = freed-txns s.items journal.entries kept t c some gone h.txns;
  waiting = h.waiting;
  spare = h.spare;
}

deadline-stays : (n m : ℕ) (kept : List Txn) → deadline_in (slice_get (at_place n without_code kept) m) ≡ deadline_in (slice_get kept m)
deadline-stays n m [] = refl
deadline-stays zero zero (x ∷ xs) = refl
deadline-stays zero (suc m) (x ∷ xs) = refl
deadline-stays (suc n) zero (x ∷ xs) = refl
deadline-stays (suc n) (suc m) (x ∷ xs) = deadline-stays n m xs

pub freed-queued : (n : ℕ) (kept : List Txn) (ws : List Waiting) → AreQueued kept ws → AreQueued (at_place n without_code kept) ws
freed-queued n kept [] h = tt
freed-queued n kept (w ∷ ws) h = (deadline-stays n (w.1 - 1) kept ∙ h.0, freed-queued n kept ws h.1)
