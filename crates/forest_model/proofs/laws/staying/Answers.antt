use Rattle.forest_model.proofs.StayLaws.{optimistic-stays, guard-stays, optimistic-ends-nobody, guard-ends-nobody}
use Rattle.forest_model.proofs.laws.staying.Goals as goal

pub returns : goal.returns
returns c = record { optimistic = optimistic-stays; guard = guard-stays; local_ends_nobody = optimistic-ends-nobody; guard_ends_nobody = guard-ends-nobody }
