-- The canonical spelling of programs.
use Rattle.std.specs.Prelude.{ℕ, List, [], ◌∷◌, ◌++◌, codes, decimal, slice_get}
use Rattle.std.specs.Fmt.{signed_decimal}
use Rattle.std.specs.Option.{option_map_or}
use Rattle.txn_runs.specs.declared.program.TableRef.{TableRef}
use Rattle.txn_runs.specs.declared.program.Operand.{Operand}
use Rattle.txn_runs.specs.declared.program.Operand.TheVariants.{Reg, Lit}
use Rattle.txn_runs.specs.declared.program.Op.{Op}
use Rattle.txn_runs.specs.declared.program.Op.TheVariants.{Add, Sub, Mul, Div, Rem, Min, Max}
use Rattle.txn_runs.specs.declared.program.Cmp.{Cmp}
use Rattle.txn_runs.specs.declared.program.Cmp.TheVariants.{Eq, Ne, Lt, Le, Gt, Ge}
use Rattle.txn_runs.specs.declared.program.Stmt.{Stmt}
use Rattle.txn_runs.specs.declared.program.Stmt.TheOpen.{Stmt-F, Block-F}
use Rattle.txn_runs.specs.declared.program.Stmt.TheFolds.{fold-Stmt}
use Rattle.txn_names.specs.Tables.{Named}

-- a register, or a literal with its sign before it
abbrev pub operand_text : Operand → List ℕ
operand_text (Reg r) = codes "r" ++ decimal r
operand_text (Lit v) = signed_decimal v

abbrev pub op_text : Op → List ℕ
op_text Add = codes "+"
op_text Sub = codes "-"
op_text Mul = codes "*"
op_text Div = codes "/"
op_text Rem = codes "%"
op_text Min = codes "min"
op_text Max = codes "max"

abbrev pub cmp_text : Cmp → List ℕ
cmp_text Eq = codes "=="
cmp_text Ne = codes "!="
cmp_text Lt = codes "<"
cmp_text Le = codes "<="
cmp_text Gt = codes ">"
cmp_text Ge = codes ">="

-- a table's name
abbrev pub name_text : List Named → TableRef → List ℕ
name_text names table = option_map_or (λ (named : Named). named.0) (slice_get names table.number) []

-- a table, and in brackets the place in it
abbrev pub place_text : List Named → TableRef → Operand → List ℕ
place_text names table at = name_text names table ++ codes "[" ++ operand_text at ++ codes "]"

-- a register that is given a value
abbrev pub target_text : ℕ → List ℕ
target_text to = codes "r" ++ decimal to ++ codes " = "

-- statements, each with a blank behind it, in braces
abbrev pub braced : List ℕ → List ℕ
braced statements = codes "{ " ++ statements ++ codes "}"

-- an `else` is written only where there is something in it
abbrev pub else_text : List ℕ → List ℕ
else_text [] = []
else_text (byte ∷ bytes) = codes " else " ++ braced (byte ∷ bytes)

abbrev pub calc_text : ℕ → Operand → Op → Operand → List ℕ
calc_text to left op right = target_text to ++ operand_text left ++ codes " " ++ op_text op ++ codes " " ++ operand_text right ++ codes ";"

abbrev pub move_text : ℕ → Operand → List ℕ
move_text to from = target_text to ++ operand_text from ++ codes ";"

abbrev pub read_text : List Named → ℕ → TableRef → Operand → List ℕ
read_text names to table at = target_text to ++ place_text names table at ++ codes ";"

abbrev pub write_text : List Named → TableRef → Operand → Operand → List ℕ
write_text names table at from = place_text names table at ++ codes " = " ++ operand_text from ++ codes ";"

-- an `if` up to its first block
abbrev pub test_text : Operand → Cmp → Operand → List ℕ
test_text left cmp right = codes "if " ++ operand_text left ++ codes " " ++ cmp_text cmp ++ codes " " ++ operand_text right ++ codes " "

-- the two blocks of an `if`
abbrev pub choice_text : List ℕ → List ℕ → List ℕ
choice_text first second = braced first ++ else_text second

-- a loop up to its block
abbrev pub turns_text : ℕ → List ℕ
turns_text count = codes "loop " ++ decimal count ++ codes " "

abbrev pub emit_text : Operand → List ℕ
emit_text from = codes "emit " ++ operand_text from ++ codes ";"

abbrev pub fail_text : Operand → List ℕ
fail_text code = codes "fail " ++ operand_text code ++ codes ";"

-- a statement, with the statements of its blocks in their places
abbrev pub text_row : List Named → Stmt-F (List ℕ) (List ℕ) → List ℕ
text_row names (Stmt-F.Calc to left op right) = calc_text to left op right
text_row names (Stmt-F.Move to from) = move_text to from
text_row names (Stmt-F.Read to table at) = read_text names to table at
text_row names (Stmt-F.Write table at from) = write_text names table at from
text_row names (Stmt-F.If left cmp right first second) = test_text left cmp right ++ choice_text first second
text_row names (Stmt-F.Loop count body) = turns_text count ++ braced body
text_row names (Stmt-F.Emit from) = emit_text from
text_row names (Stmt-F.Fail code) = fail_text code

-- texts with a blank behind each
abbrev pub spaced : List (List ℕ) → List ℕ
spaced [] = []
spaced (text ∷ texts) = text ++ 32 ∷ spaced texts

abbrev pub block_row : Block-F (List ℕ) (List ℕ) → List ℕ
block_row block = spaced block.stmts

-- a statement
abbrev pub stmt_text : List Named → Stmt → List ℕ
stmt_text names = fold-Stmt (List ℕ) (List ℕ) (text_row names) block_row

-- statements, each with a blank behind it
abbrev pub stmts_text : List Named → List Stmt → List ℕ
stmts_text names [] = []
stmts_text names (stmt ∷ rest) = stmt_text names stmt ++ 32 ∷ stmts_text names rest

-- the canonical spelling of a program
abbrev pub canonical : List Named → List Stmt → List ℕ
canonical names body = braced (stmts_text names body)
