-- What lines make of which each is a `table` or `put` line or blank: tables; or the first line that is refused.
use Rattle.std.specs.Prelude.{ℕ, ◌+◌, Bool, false, nat_lt, if◌then◌else◌, List, [], ◌∷◌, length, bytes_eq, codes, Result, Ok, Err}
use Rattle.scc_text.specs.declared.command.Dialect.TheVariants as dialects
use Rattle.scc_text.specs.declared.command.Command.{Command}
use Rattle.scc_text.specs.declared.command.Command.TheVariants.{Blank, Table, Put}
use Rattle.scc_text.specs.Command.{command_of}
use Rattle.scc_text.specs.Words.{Word, words_of}
use Rattle.scc_text.specs.Lines.{lines_of}
use Rattle.scc_setup.specs.Opening.{Opening, no_tables, opening_after}
use Rattle.batch_input.specs.Input.{Bad}

-- whether the first of these words is `begin`
unfoldable pub begins : List Word → Bool
begins [] = false
begins (first ∷ words) = bytes_eq first.text (codes "begin")

-- a line that spells this command, or is refused by this number
abbrev pub after_command : Opening → List ℕ → Result Command ℕ → Result Opening ℕ
after_command o line (Ok Blank) = Ok o
after_command o line (Ok (Table name size)) = opening_after o line (Table name size)
after_command o line (Ok (Put name index value)) = opening_after o line (Put name index value)
after_command o line (Ok other) = Err 12
after_command o line (Err code) = Err code

-- What a line makes of the tables before it, or the number of its refusal: 11 is a line that is too long, and a `begin` is 12 whatever
-- stands behind it, as any other word that is neither `table` nor `put`.
unfoldable pub after_line : Opening → List ℕ → Result Opening ℕ
after_line o line =
    if nat_lt 8192 (length line) then Err 11
    else (if begins (words_of line) then Err 12 else after_command o line (command_of dialects.Batch line))

-- what comes behind a line, unless it is refused
abbrev pub go_on : ℕ → Result Opening ℕ → (Opening → Result Opening Bad) → Result Opening Bad
go_on number (Ok o) more = more o
go_on number (Err code) more = Err (record { line = number; code = code })

-- what lines make of tables, of which the first has this number, or the first of them that is refused
abbrev pub lines_from : Opening → ℕ → List (List ℕ) → Result Opening Bad
lines_from o number [] = Ok o
lines_from o number (line ∷ lines) = go_on number (after_line o line) (λ next. lines_from next (number + 1) lines)

-- what the lines of an input make, or the first that is refused
abbrev pub input_of : List (List ℕ) → Result Opening Bad
input_of lines = lines_from no_tables 1 lines

abbrev pub table_input : List ℕ → Result Opening Bad
table_input bytes = input_of (lines_of bytes)
