-- When all has ended: the journal is sealed, and nobody is started.
use Rattle.std.proofs.Common.{◌≡◌, ◌≤◌, ℕ, Bool, true, false, List, [], ◌∷◌, Option, Some, None, refl, ap, sym, ◌∙◌, true≢false}
use Rattle.std.specs.Prelude.{slice_get, option_map, is_some, not}
use Rattle.std.specs.List.{AllByRecursion}
use Rattle.journal_core.specs.Journal.{is_live, is_sealed}
use Rattle.journal_core.specs.declared.entry.Entry.{Entry}
use Rattle.forest_model.specs.Forest.{Started, Forest}
use Rattle.forest_model.specs.Sound.{IsSound}
use Rattle.forest_model.proofs.LongerLaws.{none-live}
use Rattle.shadow_worker.specs.Worked.{HasEnded}

no-first : (rs : List Started) → option_map (λ (r : Started). r.number) (slice_get rs 0) ≡ None → rs ≡ []
no-first [] h = refl
no-first (r ∷ rs) h = cc

none-started : (journal : List Entry) (rs : List Started) → AllByRecursion (λ r. is_live journal r.number ≡ true) rs → ((t : ℕ) → is_live journal t ≡ false) → rs ≡ []
none-started journal [] live nobody = refl
none-started journal (r ∷ rs) live nobody = absurd (true≢false (sym live.0 ∙ nobody r.number))

none-is : {A : Type 0} (o : Option A) (b : Bool) → is_some o ≡ not b → b ≡ true → o ≡ None
none-is None b e h = refl
none-is (Some x) true e h = cc
none-is (Some x) false e h = cc

is-none : {A : Type 0} (o : Option A) (b : Bool) → is_some o ≡ not b → o ≡ None → b ≡ true
is-none o true e h = refl
is-none None false e h = cc
is-none (Some x) false e h = cc

-- in a sealed journal all has ended exactly where there is no first of those that are started
pub ended-iff : (f : Forest) → IsSound f → 1 ≤ f.lanes → is_sealed f.journal ≡ true → (o : Option ℕ) → o ≡ option_map (λ (r : Started). r.number) (slice_get f.started 0)
    → (b : Bool) → is_some o ≡ not b → (b ≡ true → HasEnded f.journal) × (HasEnded f.journal → b ≡ true)
ended-iff f sound lane sealed o first b is = (
  (λ e.
      let none : option_map (λ (r : Started). r.number) (slice_get f.started 0) ≡ None = sym first ∙ none-is o b is e in
      record { sealed = sealed; nobody = λ t. none-live f t sound lane (no-first f.started none) }),
  (λ h. is-none o b is (first ∙ ap (λ rs. option_map (λ (r : Started). r.number) (slice_get rs 0)) (none-started f.journal f.started sound.right.live h.nobody))),
)
