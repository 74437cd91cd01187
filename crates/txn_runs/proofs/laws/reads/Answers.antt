use Rattle.txn_runs.proofs.Order.{after_before}
use Rattle.txn_runs.proofs.Reading.{after_log, after_grown, after_shut}
use Rattle.txn_runs.proofs.laws.reads.Goals as goal

pub returns : goal.returns
returns c = record { before = after_before; once = after_log; grow = after_grown; unwritten = after_shut }
