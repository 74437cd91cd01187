-- The replies to `table` and `put` lines that were accepted.
use Rattle.std.specs.Prelude.{ℕ, ℤ, List, [], ◌∷◌, ◌++◌, codes, decimal}
use Rattle.std.specs.Fmt.{signed_decimal}
use Rattle.scc_text.specs.declared.command.Command.{Command}
use Rattle.scc_text.specs.declared.command.Command.TheVariants.{Table, Put}
use Rattle.scc_replies.specs.Lines.{number_line}
use Rattle.scc_setup.specs.Opening.{text_at}

-- `table`, the name and the size
abbrev pub table_line : List ℕ → ℕ → List ℕ
table_line name size = codes "table " ++ name ++ number_line (codes " ") size

-- `put`, the table's name, the place and the value
abbrev pub put_line : List ℕ → ℕ → ℤ → List ℕ
put_line name index value = codes "put " ++ name ++ codes " " ++ decimal index ++ codes " " ++ signed_decimal value ++ 10 ∷ []

-- `table` with name and size, or `put` with name, place and value; no other command comes here
abbrev pub setting_line : List ℕ → Command → List ℕ
setting_line line (Table name size) = table_line (text_at line name) size
setting_line line (Put name index value) = put_line (text_at line name) index value
setting_line line other = []
