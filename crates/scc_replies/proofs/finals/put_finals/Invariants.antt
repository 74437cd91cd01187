use Rattle.std.proofs.Common.{◌≡◌, ◌++◌}
use Rattle.scc_replies.specs.Finals.{final_lines}
use Rattle.scc_replies.proofs.FinalLines.{finals_from}
use Rattle.scc_replies.proofs.finals.put_finals.Given as goal

-- the lines so far and those of the tables to come are all of them
abbrev pub invariant-loop-number : goal.invariant-loop-number
invariant-loop-number l = l.out.items ++ finals_from l.tables l.names l.number ≡ l.fn.out.items ++ final_lines l.tables 0 l.names
