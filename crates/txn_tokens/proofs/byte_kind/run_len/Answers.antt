use Rattle.std.proofs.Common.{length, sym, ◌∙◌, arith}
use Rattle.std.proofs.lemmas.List.Sums.{prefix_len_is}
use Rattle.txn_tokens.specs.Bytes.{is_of}
use Rattle.txn_tokens.proofs.byte_kind.run_len.Goals as goal

pub returns-then-not-is_of-clause-value : goal.returns-then-not-is_of-clause-value
returns-then-not-is_of-clause-value c =
    sym (prefix_len_is (is_of c.args.kind) c.args.bytes.now c.loop-at.at 0 (omega arith) c.loop-at.invariant (λ lt. sym c.is_of.ensures ∙ c.if-not-is_of.true))

pub returns-clause-value : goal.returns-clause-value
returns-clause-value c =
    sym (prefix_len_is (is_of c.args.kind) c.args.bytes.now (length c.args.bytes.now) 0 (omega arith) (λ k lt. c.loop-at.invariant k (omega arith)) (λ lt. absurd (omega arith)))
