use Rattle.std.proofs.Common.{◌≡◌, ◌++◌, take, drop}
use Rattle.report_text.specs.Order.{first_word as first_word_of}
use Rattle.report_check.proofs.lines.first_word.Given as goal

-- those so far are all of the word, and the rest of it follows
abbrev pub invariant-loop-i : goal.invariant-loop-i
invariant-loop-i l = take l.i l.bytes ++ first_word_of (drop l.i l.bytes) ≡ first_word_of l.bytes
