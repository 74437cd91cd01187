-- Small programs for the worked histories, over one table of four items.
use Rattle.std.specs.Prelude.{ℕ, pos, List, [], ◌∷◌}
use Rattle.txn_runs.specs.declared.program.Op.TheVariants.{Add}
use Rattle.txn_runs.specs.declared.program.Operand.{Operand}
use Rattle.txn_runs.specs.declared.program.Operand.TheVariants.{Reg, Lit}
use Rattle.txn_runs.specs.declared.program.TableRef.{TableRef}
use Rattle.txn_runs.specs.declared.program.Stmt.{Stmt}
use Rattle.txn_runs.specs.declared.program.Stmt.TheVariants.{Calc, Read, Write, Move, Emit, Fail}

-- the table
abbrev pub table : TableRef
table = record { number = 0; base = 0; size = 4 }

-- a number that is written out
abbrev pub num : ℕ → Operand
num n = Lit (pos n)

-- the register gets the item
abbrev pub get : ℕ → ℕ → Stmt
get register item = Read register table (num item)

-- the item gets the number
abbrev pub set_to : ℕ → ℕ → Stmt
set_to item value = Write table (num item) (num value)

-- the register gets the sum of two numbers
abbrev pub add : ℕ → ℕ → ℕ → Stmt
add register one other = Calc register (num one) Add (num other)

-- nothing
unfoldable pub nothing : List Stmt
nothing = []

-- reads item 0 and emits it
unfoldable pub reader : List Stmt
reader = get 0 0 ∷ Emit (Reg 0) ∷ []

-- writes a number to an item
unfoldable pub writer : ℕ → ℕ → List Stmt
writer item value = set_to item value ∷ []

-- calculates, and then reads item 0 and emits it
unfoldable pub late_reader : List Stmt
late_reader = add 1 1 1 ∷ get 0 0 ∷ Emit (Reg 0) ∷ []

-- reads items 0 and 1 and emits the second
unfoldable pub two_reader : List Stmt
two_reader = get 0 0 ∷ get 1 1 ∷ Emit (Reg 1) ∷ []

-- moves a number, and then reads items 0 and 1 and emits the second
unfoldable pub late_two_reader : List Stmt
late_two_reader = Move 5 (num 3) ∷ get 0 0 ∷ get 1 1 ∷ Emit (Reg 1) ∷ []

-- calculates, and then reads items 0, 1 and 2 and emits the third
unfoldable pub three_reader : List Stmt
three_reader = add 1 1 1 ∷ get 0 0 ∷ get 1 1 ∷ get 2 2 ∷ Emit (Reg 2) ∷ []

-- writes item 0, and then reads and emits what it wrote
unfoldable pub own_reader : List Stmt
own_reader = set_to 0 1 ∷ get 0 0 ∷ Emit (Reg 0) ∷ []

-- reads item 0 twice and emits the sum
unfoldable pub twice_reader : List Stmt
twice_reader = get 0 0 ∷ get 1 0 ∷ Calc 2 (Reg 0) Add (Reg 1) ∷ Emit (Reg 2) ∷ []

-- writes 4 to an item and fails
unfoldable pub failing_writer : ℕ → List Stmt
failing_writer item = set_to item 4 ∷ Fail (num 7) ∷ []

-- reads one item and writes the other
unfoldable pub crosses : ℕ → ℕ → List Stmt
crosses from to = get 0 from ∷ set_to to 1 ∷ []
