-- The head of what is audited: lines that make tables and programs as those of a batch do, and the line that says what follows.
use Rattle.std.specs.Prelude.{ℕ, ◌+◌, nat_lt, if◌then◌else◌, List, [], ◌∷◌, length, Option, Some, None, Result, Ok, Err}
use Rattle.scc_text.specs.declared.command.Dialect.TheVariants as dialects
use Rattle.scc_text.specs.declared.command.Command.{Command}
use Rattle.scc_text.specs.declared.command.Command.TheVariants.{Report, Journal}
use Rattle.scc_text.specs.Command.{command_of}
use Rattle.scc_text.specs.Lines.{lines_of}
use Rattle.batch_input.specs.Input.{Batch, Bad, no_batch, after_command}
use Rattle.audit_head.specs.declared.form.Form.{Form}
use Rattle.audit_head.specs.declared.form.Form.TheVariants as forms

-- what a command says of the lines behind it, if it says so
abbrev pub form_by : Result Command ℕ → Option Form
form_by (Ok Report) = Some forms.Report
form_by (Ok Journal) = Some forms.Journal
form_by other = None

-- what a line says of those behind it
unfoldable pub form_named : List ℕ → Option Form
form_named line = if nat_lt 8192 (length line) then None else form_by (command_of dialects.Audit line)

-- what any other line makes of the batch before it, or the number of its refusal; 11 is a line that is too long
unfoldable pub after_line : Batch → List ℕ → Result Batch ℕ
after_line b line = if nat_lt 8192 (length line) then Err 11 else after_command b line (command_of dialects.Audit line)

-- the tables and programs, what follows, and how many lines the head has, the last one too
pub record Head : Type 0 where
  pub batch : Batch
  pub form : Form
  pub lines : ℕ

-- what comes behind a line by its number: the head ends with it, or it is refused, or more lines follow
abbrev pub head_by : ℕ → Batch → Option Form → Result Batch ℕ → (Batch → Result Head Bad) → Result Head Bad
head_by number b (Some form) after more = Ok (record { batch = b; form = form; lines = number })
head_by number b None (Ok next) more = more next
head_by number b None (Err code) more = Err (record { line = number; code = code })

-- The head that lines of which the first has this number make with a batch, or the first of them that is refused. Where they end before
-- the head does, the line that isn't there is refused by 13.
abbrev pub head_from : Batch → ℕ → List (List ℕ) → Result Head Bad
head_from b number [] = Err (record { line = number; code = 13 })
head_from b number (line ∷ lines) = head_by number b (form_named line) (after_line b line) (λ next. head_from next (number + 1) lines)

-- the head of these lines
abbrev pub head_of : List (List ℕ) → Result Head Bad
head_of lines = head_from no_batch 1 lines

-- the head of an input
abbrev pub input_head : List ℕ → Result Head Bad
input_head bytes = head_of (lines_of bytes)
