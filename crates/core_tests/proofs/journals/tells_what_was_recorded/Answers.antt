use Rattle.std.proofs.Common.{◌≡◌, [], ◌∷◌, ◌++◌, ◌∙◌, refl, ap, sym}
use Rattle.txn_runs.specs.Run.{Tables, after}
use Rattle.txn_runs.specs.Serial.{outcome_of}
use Rattle.txn_runs.specs.declared.outcome.Outcome.TheVariants.{Done}
use Rattle.journal_core.specs.declared.entry.Entry.TheVariants.{Began}
use Rattle.core_tests.proofs.journals.tells_what_was_recorded.Goals as goal

nothing-done : (tables : Tables) → outcome_of [] tables ≡ Done []
unfolding after
nothing-done tables = refl

pub push_reserved-requires-3-clause-continues : goal.push_reserved-requires-3-clause-continues
push_reserved-requires-3-clause-continues g c =
    let entries : c.push_reserved-2.new.self.entries ≡ Began 1 10 c.nothing.result ∷ Began 2 10 c.nothing-2.result ∷ [] =
    c.push_reserved-2.ensures.entries ∙ ap (λ es. es ++ Began 2 10 c.nothing-2.result ∷ [])
    (c.push_reserved.ensures.entries ∙ ap (λ es. es ++ Began 1 10 c.nothing.result ∷ [])
    (c.in_ok-reserve.ensures.entries ∙ ap (λ j. j.entries) c.new-journal.ensures))
    in
    rw (entries, c.nothing.ensures, c.none.ensures) (refl, sym (nothing-done _))
