use Rattle.std.proofs.Common.{◌≡◌}
use Rattle.shadow_forest.proofs.Renewing.{all_so_far}
use Rattle.shadow_forest.proofs.settling.renew_marked.Given as goal

abbrev pub invariant-loop-place : goal.invariant-loop-place
invariant-loop-place l = l.lanes ≡ all_so_far l.fn.lanes l.txns l.place
