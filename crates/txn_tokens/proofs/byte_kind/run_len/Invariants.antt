use Rattle.std.proofs.Common.{◌≡◌, ℕ, ◌<◌, true, get_or}
use Rattle.txn_tokens.specs.Bytes.{is_of}
use Rattle.txn_tokens.proofs.byte_kind.run_len.Given as goal

abbrev pub invariant-loop-at : goal.invariant-loop-at
invariant-loop-at l = (k : ℕ) → k < l.at → is_of l.kind (get_or l.bytes k 0) ≡ true
