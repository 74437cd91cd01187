use Rattle.std.proofs.Common.{◌≡◌, ◌-◌, ◌^◌, ◌≤◌, min, drop}
use Rattle.txn_tokens.specs.Number.{number_from}
use Rattle.txn_tokens.proofs.number.number_of.Given as goal

abbrev pub invariant-loop-digit : goal.invariant-loop-digit
invariant-loop-digit l = record {
  value : min (number_from l.number (drop l.digit-index l.digits)) (2 ^ 64 - 1) ≡ min (number_from 0 l.digits) (2 ^ 64 - 1);
  fits : l.number ≤ 2 ^ 64 - 1;
}
