use Rattle.std.proofs.Common.{[], ◌∷◌, refl}
use Rattle.forest_model.proofs.Leads.{join, closes, stood, shadow}
use Rattle.forest_model.proofs.WorkedLists.{both_commits, both_run, both_shows, both_step, both_steps, latest_commits, latest_gives_up, latest_steps, refill_begun, refill_gives_up, refill_reads, refill_steps, refill_withdraws, refilled, three_begun, three_committed}
use Rattle.forest_model.proofs.WorkedSurvivor.{four_begun, four_fails, four_writes, four_first, four_second, four_third, four_fourth, four_shows, four_commits, four_shows_copy, four_committed}
use Rattle.forest_model.proofs.worked.worked_lists.Goals as goal

pub returns : goal.returns
returns c = record {
  latest_first = closes (three_committed 2 (stood 1 0 [] ∷ stood 3 1 [] ∷ [])) (join (three_begun 2) (join latest_steps (join latest_gives_up latest_commits))) refl refl;
  both_guards = closes (three_committed 3 (stood 1 1 (shadow 3 0 ∷ []) ∷ stood 3 1 [] ∷ [])) (join (three_begun 3) (join both_steps (join both_step (join both_run (join both_shows both_commits))))) refl refl;
  refill = closes refilled (join refill_begun (join refill_steps (join refill_reads (join refill_gives_up refill_withdraws)))) refl refl;
  survivor = closes four_committed (join four_begun (join four_fails (join four_writes (join four_first (join four_second (join four_third (join four_fourth (join four_shows (join four_commits four_shows_copy))))))))) refl refl;
}
