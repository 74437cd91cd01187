use Rattle.std.proofs.Common.{[], ◌∷◌, refl}
use Rattle.forest_model.proofs.Leads.{join, closes, stood, shadow}
use Rattle.forest_model.proofs.WorkedReads.{failing_begun, failing_commits, failing_ended, failing_ends, failing_steps, own_begun, own_commits, own_ended, own_ends, own_steps, second, second_begun, second_steps, twice_begun, twice_commits, twice_ended, twice_ends, twice_runs, twice_steps}
use Rattle.forest_model.proofs.worked.worked_reads.Goals as goal

pub returns : goal.returns
returns c = record {
  own_read = closes own_ended (join own_begun (join own_steps (join own_commits own_ends))) refl refl;
  repeated_read = closes twice_ended (join twice_begun (join twice_steps (join twice_commits (join twice_runs twice_ends)))) refl refl;
  second_read = closes (second (stood 1 2 (shadow 2 0 ∷ []) ∷ stood 2 1 [] ∷ [])) (join second_begun second_steps) refl refl;
  failure = closes failing_ended (join failing_begun (join failing_steps (join failing_commits failing_ends))) refl refl;
}
