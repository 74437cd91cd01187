-- What the statements of a text mean, and which limit they break.
use Rattle.std.specs.Prelude.{ℕ, zero, suc, ◌^◌, ℤ, pos, negsuc, List, [], ◌∷◌, Bool, true, ◌&&◌, not, nat_lt, nat_le, if◌then◌else◌, Option, None, Some, unwrap_or}
use Rattle.txn_runs.specs.declared.program.TableRef.{TableRef}
use Rattle.txn_runs.specs.declared.program.Operand.{Operand}
use Rattle.txn_runs.specs.declared.program.Operand.TheVariants.{Reg, Lit}
use Rattle.txn_runs.specs.declared.program.Stmt.{Stmt}
use Rattle.txn_runs.specs.declared.program.Stmt.TheVariants as s
use Rattle.txn_runs.specs.Bounds.{greatest_count, size, depth, steps_max, emits_max}
use Rattle.txn_syntax.specs.declared.place.Term.{Term}
use Rattle.txn_syntax.specs.declared.place.Term.TheVariants.{Register, Number, Minus}
use Rattle.txn_syntax.specs.declared.place.Plain.{Plain}
use Rattle.txn_syntax.specs.declared.place.Plain.TheVariants.{Calc, Move, Read, Write, Emit, Fail}
use Rattle.txn_syntax.specs.declared.place.Test.{Test}
use Rattle.txn_syntax.specs.declared.refusal.Which.{Which}
use Rattle.txn_syntax.specs.declared.refusal.Which.TheVariants as w
use Rattle.txn_syntax.specs.Grammar.{Text, Nothing, Simple, If, IfElse, Loop}

-- a number with its sign changed
abbrev pub negative : ℕ → ℤ
negative zero = pos 0
negative (suc n) = negsuc n

-- what an operand means
abbrev pub operand_of : Term → Operand
operand_of (Register r) = Reg r
operand_of (Number n) = Lit (pos n)
operand_of (Minus n) = Lit (negative n)

-- the table of a name; where it has none, the text isn't a program of these names
abbrev pub table_of : Option TableRef → TableRef
table_of table = unwrap_or table (record { number = 0; base = 0; size = 0 })

-- what a statement without blocks means
abbrev pub statement_of : Plain → Stmt
statement_of (Calc to left op right) = s.Calc to (operand_of left) op (operand_of right)
statement_of (Move to from) = s.Move to (operand_of from)
statement_of (Read to table at) = s.Read to (table_of table) (operand_of at)
statement_of (Write table at from) = s.Write (table_of table) (operand_of at) (operand_of from)
statement_of (Emit from) = s.Emit (operand_of from)
statement_of (Fail code) = s.Fail (operand_of code)

-- what an `if` over two blocks means
abbrev pub choice_of : Test → List Stmt → List Stmt → Stmt
choice_of test first second = s.If (operand_of test.left) test.cmp (operand_of test.right) (record { stmts = first }) (record { stmts = second })

-- what a loop over a block means
abbrev pub turns_of : ℕ → List Stmt → Stmt
turns_of count body = s.Loop count (record { stmts = body })

-- the statements that a text means
abbrev pub meant : Text → List Stmt
meant Nothing = []
meant (Simple plain rest) = statement_of plain ∷ meant rest
meant (If test first rest) = s.If (operand_of test.left) test.cmp (operand_of test.right) (record { stmts = meant first }) (record { stmts = [] }) ∷ meant rest
meant (IfElse test first second rest) = s.If (operand_of test.left) test.cmp (operand_of test.right) (record { stmts = meant first }) (record { stmts = meant second }) ∷ meant rest
meant (Loop count body rest) = s.Loop count (record { stmts = meant body }) ∷ meant rest

-- a literal has 64 bits
abbrev pub term_fits : Term → Bool
term_fits (Register r) = true
term_fits (Number n) = nat_lt n (2 ^ 63)
term_fits (Minus n) = nat_le n (2 ^ 63)

-- each literal of a statement has 64 bits
abbrev pub plain_fits : Plain → Bool
plain_fits (Calc to left op right) = term_fits left && term_fits right
plain_fits (Move to from) = term_fits from
plain_fits (Read to table at) = term_fits at
plain_fits (Write table at from) = term_fits at && term_fits from
plain_fits (Emit from) = term_fits from
plain_fits (Fail code) = term_fits code

-- each literal of an `if` has 64 bits
abbrev pub test_fits : Test → Bool
test_fits test = term_fits test.left && term_fits test.right

-- all literals of a text have 64 bits
abbrev pub literals_fit : Text → Bool
literals_fit Nothing = true
literals_fit (Simple plain rest) = plain_fits plain && literals_fit rest
literals_fit (If test first rest) = (test_fits test && literals_fit first) && literals_fit rest
literals_fit (IfElse test first second rest) = (test_fits test && (literals_fit first && literals_fit second)) && literals_fit rest
literals_fit (Loop count body rest) = literals_fit body && literals_fit rest

-- the first limit that a text breaks
abbrev pub broken : Text → Option Which
broken text =
    if not (literals_fit text) then Some w.Literal
    else (if nat_lt 1000 (greatest_count (meant text)) then Some w.Loops
    else (if nat_lt 256 (size (meant text)) then Some w.Statements
    else (if nat_lt 8 (depth (meant text)) then Some w.Depth
    else (if nat_lt 100000 (steps_max (meant text)) then Some w.Steps
    else (if nat_lt 64 (emits_max (meant text)) then Some w.Emits
    else None)))))
