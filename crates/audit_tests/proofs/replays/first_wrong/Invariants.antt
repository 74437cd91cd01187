use Rattle.std.proofs.Common.{◌≡◌, length}
use Rattle.audit_tests.proofs.replays.first_wrong.Given as goal

abbrev pub invariant-rows : goal.invariant-rows
invariant-rows g l = length l.replay.opening ≡ 4
