-- The exit status of each end.
use Rattle.std.specs.Prelude.{ℕ}
use Rattle.scc_replies.specs.declared.status.Status.{Status}
use Rattle.scc_replies.specs.declared.status.Status.TheVariants.{Done, BadWords, BadInput, ReadFault, WriteFault, OutOfMemory, InputLimit, AuditNo}

abbrev pub exit_code_of : Status → ℕ
exit_code_of Done = 0
exit_code_of BadWords = 2
exit_code_of (BadInput line) = 3
exit_code_of ReadFault = 4
exit_code_of WriteFault = 5
exit_code_of OutOfMemory = 6
exit_code_of InputLimit = 7
exit_code_of (AuditNo line) = 8
