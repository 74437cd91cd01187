use Rattle.std.proofs.Common.{◌≡◌}
use Rattle.std.specs.Vec.{vec_len, vec_capacity}
use Rattle.std.specs.List.{AllByRecursion}
use Rattle.shadow_state.specs.Bank.{AreSides}
use Rattle.shadow_state.proofs.bank.Bank.open.Given as goal

abbrev pub invariant-loop : goal.invariant-loop
invariant-loop l = record { many : vec_len l.made ≡ l.counter; room : vec_capacity l.made ≡ l.lanes; each : AllByRecursion (AreSides l.items l.k) l.made.items }
