use Rattle.std.proofs.Common.{◌≡◌, length}
use Rattle.txn_tokens.specs.Tokens.{tokens}
use Rattle.txn_syntax.specs.Reading.{Progress, reading}
use Rattle.txn_syntax.specs.Reads.{token_of, text_from, text_of, first_unknown}
use Rattle.txn_syntax.specs.Machines.{IsMachine}
use Rattle.txn_syntax.proofs.read.read_body.Given as goal

-- the machine stands for what has been read, what is left makes the text of it that all is, and the offsets are those of all
abbrev pub invariant-loop-first : goal.invariant-loop-first
invariant-loop-first l = ((p : Progress) × IsMachine l.machine p × (text_from l.items.end (reading token_of p l.items.tokens) ≡ text_of l.names l.bytes)) × ((l.items.end ≡ length l.bytes) × (l.items.unknown ≡ first_unknown (tokens l.names l.bytes)))

abbrev pub decreases-loop-first : goal.decreases-loop-first
decreases-loop-first l = length l.items.tokens
