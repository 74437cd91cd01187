use Rattle.std.proofs.Common.{◌≡◌}
use Rattle.std.specs.Vec.{vec_len, vec_capacity}
use Rattle.std.specs.List.{AllByRecursion}
use Rattle.shadow_state.specs.Bank.{IsOver}
use Rattle.shadow_state.proofs.lane.side.Given as goal

abbrev pub invariant-loop : goal.invariant-loop
invariant-loop l = record { many : vec_len l.slots ≡ l.counter; room : vec_capacity l.slots ≡ l.most; over : AllByRecursion (IsOver l.items) l.slots.items }
