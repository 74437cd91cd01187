use Rattle.std.proofs.Common.{◌+◌, ◌*◌}
use Rattle.turn_cell.proofs.tests.+fan_out+fn-fan_out-join+arg2.Given as goal

abbrev pub decreases-fan_out : goal.decreases-fan_out
decreases-fan_out g l = 2 * l.threads

abbrev pub decreases-join+arg2 : goal.decreases-join+arg2
decreases-join+arg2 g l = 2 * l.others + 1
