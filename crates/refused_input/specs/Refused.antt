-- What is written of an input of which a line is refused.
use Rattle.std.specs.Prelude.{◌≡◌, ℕ, List, [], ◌++◌, codes, decimal, Option}
use Rattle.scc_ports.specs.Ports.{Gains, GainsPrefix}
use Rattle.scc_replies.specs.Lines.{number_line}
use Rattle.scc_replies.specs.declared.status.Status.{Status}
use Rattle.scc_replies.specs.declared.status.Status.TheVariants as status

-- `bad`, the number of the line, and the number of its refusal
abbrev pub bad_line : ℕ → ℕ → List ℕ
bad_line line code = codes "bad " ++ decimal line ++ number_line (codes " ") code

-- an input of which a line is refused: `bad` was written, or the front of it, or nothing
abbrev pub HasRefused : Status → ℕ → ℕ → Option (List ℕ) → Option (List ℕ) → Type 0
HasRefused (status.BadInput named) line code old new = (named ≡ line) × Gains old new (bad_line line code)
HasRefused status.WriteFault line code old new = GainsPrefix old new (bad_line line code)
HasRefused status.OutOfMemory line code old new = Gains old new []
HasRefused status.Done line code old new = ⊥
HasRefused status.BadWords line code old new = ⊥
HasRefused status.ReadFault line code old new = ⊥
HasRefused status.InputLimit line code old new = ⊥
HasRefused (status.AuditNo line') line code old new = ⊥
