-- The lines of a drain are those of the commits that it adds to the journal.
use Rattle.std.proofs.Common.{◌≡◌, ℕ, zero, suc, [], ◌∷◌, ◌++◌, map, Option, Some, None, Result, Ok, Err, refl, ap, ◌∙◌}
use Rattle.txn_runs.specs.Serial.{outcome_of}
use Rattle.block_rule.specs.declared.role.Row.{Row}
use Rattle.journal_core.specs.Journal.{program_of}
use Rattle.forest_model.specs.Forest.{Forest, find_started}
use Rattle.forest_model.specs.Grown.{IsGrown, commit_entry}
use Rattle.forest_model.specs.Sound.{IsSound}
use Rattle.forest_model.specs.Pick.{pick}
use Rattle.forest_model.specs.Jobs.{recall}
use Rattle.std.specs.Result.{IfOk}
use Rattle.forest_model.specs.Events.{Refusal, commit}
use Rattle.forest_model.specs.Drain.{first_ended, after_commit, step_row, drain_by, drain_from, drain_within, drain, left}
use Rattle.forest_model.proofs.StepLaws.{recall-sound}
use Rattle.shadow_forest.specs.View.{resumed_by, starts_by}
use Rattle.scc_script.specs.Ended.{Ended, ended_text}
use Rattle.scc_script.specs.Drained.{ended_lines, commit_lines, Drained, drained_from, drained_within, drained, entry_in, IsToldDrain}
use Rattle.scc_script.proofs.Draining.{IsWritten, committed-by, stepped-by}
use Rattle.forest_model.proofs.LongerLaws.{IsSame, same-grown, grown-twice, step-same, commit-grown}

-- what the commit of t prints
abbrev pub ended_of : Forest → ℕ → Ended
ended_of f t = record {
  txn = t;
  outcome = outcome_of (program_of f.journal t) f.tables;
  resumed = resumed_by f (find_started f.started t);
  starts = starts_by f (find_started f.started t);
}

pub commit-text : (f : Forest) (t : ℕ) → commit_lines f t ≡ ended_text (ended_of f t)
unfolding commit_lines ended_lines
commit-text f t = refl

none-told : (f : Forest) → IsToldDrain f f (record { lines = []; commits = 0 })
none-told f = record { ended = []; lines = refl; count = refl; grown = same-grown f f (refl, refl) }

-- Commits.

module _ (f : Forest) (h : IsSound f) (t : ℕ) (g g' : Forest) (d : Drained) where
  commit-told : IsWritten f g t → g.opening ≡ f.opening → IsToldDrain g g' d → IsToldDrain f g' (record { lines = commit_lines f t ++ d.lines; commits = suc d.commits })
  commit-told w opening rest = record {
    ended = ended_of f t ∷ rest.ended;
    lines = ap (λ x. x ++ d.lines) (commit-text f t) ∙ ap (λ x. ended_text (ended_of f t) ++ x) rest.lines;
    count = ap suc rest.count;
    grown = grown-twice f g g' (commit_entry f t ∷ []) (map entry_in rest.ended) (record { opening = opening; journal = w.journal }) rest.grown;
  }

step-told : (f g g' : Forest) (d : Drained) → IsSame f g → IsToldDrain g g' d → IsToldDrain f g' d
step-told f g g' d same rest = record {
  ended = rest.ended;
  lines = rest.lines;
  count = rest.count;
  grown = grown-twice f g g' [] (map entry_in rest.ended) (same-grown f g same) rest.grown;
}

-- after a commit the opening tables are as they were
commit-opening : (f : Forest) (t : ℕ) → (after_commit f (commit f t)).opening ≡ f.opening
commit-opening f t = go (commit f t) (commit-grown f t)
  where
    go : (result : Result Forest Refusal) → IfOk result (λ g. IsGrown f g (commit_entry f t ∷ [])) → (after_commit f result).opening ≡ f.opening
    go (Ok g) h = h.opening
    go (Err refusal) h = refl

drain-by-told : (n : ℕ) (f : Forest) (o : Option ℕ) (row : Option Row) → first_ended f ≡ o → pick f ≡ row → IsSound f
    → ((g : Forest) → IsSound g → IsToldDrain g (drain_within n g).1 (drained_within n g))
    → IsToldDrain f (drain_from (drain_by f o row).0 (drain_by f o row).1 (drain_within n)).1 (drained_from (drain_by f o row).0 f (drain_by f o row).1 (drained_within n))
drain-by-told n f (Some t) row e q h each =
    let g : Forest = after_commit f (commit f t) in
    let both = committed-by f t (Some t) row e h refl in
    commit-told f h t g (drain_within n g).1 (drained_within n g) both.1 (commit-opening f t) (each g both.0.sound)
drain-by-told n f None (Some row) e q h each =
    let g : Forest = step_row f row in
    let both = stepped-by f row.txn row.role None (Some row) q h refl in
    step-told f g (drain_within n g).1 (drained_within n g) (step-same f row.txn row.role) (each g both.0.sound)
drain-by-told n f None None e q h each = none-told f

pub within-told : (n : ℕ) (f : Forest) → IsSound f → IsToldDrain f (drain_within n f).1 (drained_within n f)
within-told zero f h = none-told f
within-told (suc n) f h = drain-by-told n f (first_ended f) (pick f) refl refl h (within-told n)

-- a whole drain
pub drain-told : (f : Forest) → IsSound f → IsToldDrain f (drain f).1 (drained f)
drain-told f h = step-told f (recall f) (drain f).1 (drained f) (refl, refl) (within-told (left (recall f)) (recall f) (recall-sound f h))
