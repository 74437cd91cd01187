use Rattle.txn_runs.proofs.Last.{last_ended, length_stays}
use Rattle.txn_runs.proofs.Ending.{length_within, length_least}
use Rattle.txn_runs.proofs.laws.lengths.Goals as goal

pub returns : goal.returns
returns c = record { within = length_within; ended = last_ended; least = length_least; stays = length_stays }
