use Rattle.std.proofs.Common.{[], ◌∷◌, refl}
use Rattle.forest_model.proofs.Leads.{join, closes, stood, shadow}
use Rattle.forest_model.proofs.WorkedConflicts.{at_first, begun, cross_begun, cross_commits, cross_ended, cross_ends, cross_shows, cross_steps, late_begun, late_commits, late_ended, late_ends, late_steps, restart_commits, restart_ended, restart_ends, restart_steps, write_rule_steps}
use Rattle.forest_model.proofs.worked.worked_conflicts.Goals as goal

pub returns : goal.returns
returns c = record {
  restart = closes restart_ended (join (begun 1) (join restart_steps (join restart_commits restart_ends))) refl refl;
  write_rule = closes (at_first 2 (stood 1 1 (shadow 2 0 ∷ []) ∷ stood 2 1 [] ∷ [])) (join (begun 2) write_rule_steps) refl refl;
  promotion = closes late_ended (join late_begun (join late_steps (join late_commits late_ends))) refl refl;
  crossed = closes cross_ended (join cross_begun (join cross_steps (join cross_shows (join cross_commits cross_ends)))) refl refl;
}
