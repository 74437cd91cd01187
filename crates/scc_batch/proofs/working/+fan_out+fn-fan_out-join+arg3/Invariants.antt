use Rattle.std.proofs.Common.{◌+◌, ◌*◌, length}
use Rattle.scc_batch.proofs.working.+fan_out+fn-fan_out-join+arg3.Given as goal

abbrev pub decreases-fan_out : goal.decreases-fan_out
decreases-fan_out g l = 2 * length l.others.items

abbrev pub decreases-join+arg3 : goal.decreases-join+arg3
decreases-join+arg3 g l = 2 * length l.others.items + 1
