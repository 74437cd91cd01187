use Rattle.std.proofs.Common.{◌+◌, ◌*◌}
use Rattle.plain_walk.proofs.walk.Walk.+walk.Given as goal

abbrev pub decreases-block : goal.decreases-block
decreases-block l = 2 * l.depth + 1

abbrev pub decreases-stmt : goal.decreases-stmt
decreases-stmt l = 2 * l.depth
