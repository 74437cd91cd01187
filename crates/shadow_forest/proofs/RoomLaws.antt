-- Each that is live has room for what it emits.
use Rattle.std.proofs.Common.{◌≡◌, ◌≢◌, ℕ, ◌+◌, ◌-◌, ◌≤◌, ◌==◌, true, false, List, [], ◌∷◌, ◌++◌, length, refl, ap, sym, subst, ◌∙◌, arith, eqb-true, eq-eqb, length-append}
use Rattle.std.specs.Prelude.{slice_set, slice_index_or}
use Rattle.std.proofs.Math.ListN.{get_or-append, length-set}
use Rattle.std.proofs.Math.Seq.{get_or-append_seam}
use Rattle.std.proofs.lemmas.List.{get_or-set_other}
use Rattle.std.proofs.lemmas.Bool.{cases_Bool}
use Rattle.txn_runs.specs.Bounds.{emits_max}
use Rattle.txn_runs.specs.Run.{Tables, Running, after}
use Rattle.txn_runs.specs.declared.program.Program.{Program}
use Rattle.txn_runs.specs.declared.outcome.Outcome.{Outcome}
use Rattle.txn_runs.proofs.Within.{after_within}
use Rattle.txn_interp.specs.State.{Held, IsRun}
use Rattle.journal_core.specs.declared.entry.Entry.{Entry}
use Rattle.journal_core.specs.declared.entry.Entry.TheVariants.{Began, Sealed, Committed, Withdrawn}
use Rattle.journal_core.specs.Journal.{began, has_begun, is_begin, is_begin_of, is_end_of, is_live, program_of}
use Rattle.journal_core.proofs.Legal.{Counts, begun-live, began-push, program_of-begun, program_of-other, live-other, live-ended, next_new}
use Rattle.forest_model.proofs.Lists.{either}
use Rattle.shadow_forest.specs.Kept.{room_at, HaveRooms}

-- who is live is among them
pub room_there : (journal : List Entry) (rooms : List ℕ) (t : ℕ) → Counts journal → HaveRooms journal rooms → is_live journal t ≡ true → (1 ≤ t) × (t ≤ length rooms)
room_there journal rooms t c h live =
    let begun : has_begun journal t ≡ true = begun-live journal t live in
    (c.positive t begun, omega (arith, c.bounded t begun, h.many))

-- one more begins
pub rooms_begun : (journal : List Entry) (rooms : List ℕ) (n deadline : ℕ) (program : Program) (room : ℕ) → Counts journal → HaveRooms journal rooms → n ≡ began journal + 1 → emits_max program ≤ room
    → HaveRooms (journal ++ Began n deadline program ∷ []) (rooms ++ room ∷ [])
rooms_begun journal rooms n deadline program room c h is enough = record {
  many = omega (arith, length-append rooms (room ∷ []), began-push journal (Began n deadline program), h.many);
  each = λ t live.
      either (cases_Bool (n == t))
      (λ here.
      let same : n ≡ t = eqb-true n t here in
      let place : t - 1 ≡ length rooms = omega (arith, same, is, h.many) in
      let held : room_at (rooms ++ room ∷ []) t ≡ room = ap (λ i. slice_index_or (rooms ++ room ∷ []) i 0) place ∙ get_or-append_seam rooms room [] 0 in
      subst (λ p. emits_max p ≤ room_at (rooms ++ room ∷ []) t) (sym (ap (program_of (journal ++ Began n deadline program ∷ [])) (sym same) ∙ program_of-begun journal n deadline program (next_new journal n c is))) (omega (arith, held)))
      (λ other.
      let was : is_live journal t ≡ true = sym (live-other journal (Began n deadline program) t other refl) ∙ live in
      let there = room_there journal rooms t c h was in
      let held : room_at (rooms ++ room ∷ []) t ≡ room_at rooms t = get_or-append rooms (room ∷ []) 0 (t - 1) (omega (arith, there.0, there.1)) in
      subst (λ p. emits_max p ≤ room_at (rooms ++ room ∷ []) t) (sym (program_of-other journal (Began n deadline program) t other)) (omega (arith, held, h.each t was)));
}

-- an entry that begins and ends none
pub rooms_sealed : (journal : List Entry) (rooms : List ℕ) → HaveRooms journal rooms → HaveRooms (journal ++ Sealed ∷ []) rooms
rooms_sealed journal rooms h = record {
  many = omega (arith, began-push journal Sealed, h.many);
  each = λ t live.
      subst (λ p. emits_max p ≤ room_at rooms t) (sym (program_of-other journal Sealed t refl)) (h.each t (sym (live-other journal Sealed t refl refl) ∙ live));
}

-- t ends, and its room is taken out
pub rooms_ended : (journal : List Entry) (e : Entry) (rooms : List ℕ) (t : ℕ) → HaveRooms journal rooms → 1 ≤ t → is_begin e ≡ false → ((u : ℕ) → is_begin_of u e ≡ false) → ((u : ℕ) → is_end_of u e ≡ (t == u)) → Counts journal
    → HaveRooms (journal ++ e ∷ []) (slice_set rooms (t - 1) 0)
rooms_ended journal e rooms t h some none none_of ends c = record {
  many = length-set rooms (t - 1) 0 ∙ h.many ∙ sym (began-push journal e ∙ rw none (omega arith));
  each = λ u live.
      either (cases_Bool (t == u))
      (λ here. let no : true ≡ false = sym live ∙ live-ended journal e u (ends u ∙ here) in cc)
      (λ other.
      let was : is_live journal u ≡ true = sym (live-other journal e u (none_of u) (ends u ∙ other)) ∙ live in
      let there = room_there journal rooms u c h was in
      let apart : u - 1 ≢ t - 1 = λ same. let test : t == u ≡ true = eq-eqb t u (omega (arith, same, some, there.0)) in let no : true ≡ false = sym test ∙ other in cc in
      let held : room_at (slice_set rooms (t - 1) 0) u ≡ room_at rooms u = get_or-set_other rooms (t - 1) (u - 1) 0 0 apart in
      subst (λ p. emits_max p ≤ room_at (slice_set rooms (t - 1) 0) u) (sym (program_of-other journal e u (none_of u))) (omega (arith, held, h.each u was)));
}

pub rooms_committed : (journal : List Entry) (rooms : List ℕ) (t : ℕ) (outcome : Outcome) → HaveRooms journal rooms → 1 ≤ t → Counts journal → HaveRooms (journal ++ Committed t outcome ∷ []) (slice_set rooms (t - 1) 0)
rooms_committed journal rooms t outcome h some c = rooms_ended journal (Committed t outcome) rooms t h some refl (λ u. refl) (λ u. refl) c

pub rooms_withdrawn : (journal : List Entry) (rooms : List ℕ) (t : ℕ) → HaveRooms journal rooms → 1 ≤ t → Counts journal → HaveRooms (journal ++ Withdrawn t ∷ []) (slice_set rooms (t - 1) 0)
rooms_withdrawn journal rooms t h some c = rooms_ended journal (Withdrawn t) rooms t h some refl (λ u. refl) (λ u. refl) c

-- a run has emitted no more than its program's bound
pub emits_fit : (p : Program) (d : Tables) (s : Held) → IsRun p d s → length s.emits ≤ emits_max p
emits_fit p d s h = let same : (after p d s.position).emits ≡ s.emits = ap (λ (r : Running). r.emits) h.is.is in omega (arith, (after_within p d s.position).emits, ap length same)
