-- How many steps each program of the worked histories can make.
use Rattle.std.proofs.Common.{◌≡◌, ℕ, refl}
use denote.Hole.Carrier
use Rattle.txn_runs.specs.Bounds.{steps_max, steps_row, plus}
use Rattle.txn_runs.proofs.Folds.{of_stmt_is}
use Rattle.txn_runs.specs.declared.program.Op.TheVariants.{Add}
use Rattle.txn_runs.specs.declared.program.Operand.TheVariants.{Reg}
use Rattle.txn_runs.specs.declared.program.Stmt as statement
use Rattle.txn_runs.specs.declared.program.Stmt.TheVariants.{Calc, Move, Emit, Fail}
use Rattle.forest_model.specs.Programs.{num, get, set_to, add, reader, writer, late_reader, two_reader, late_two_reader, three_reader, own_reader, twice_reader, failing_writer, crosses}

pub reader_steps : steps_max reader ≡ 2
unfolding reader statement.out-Stmt Carrier.out
reader_steps = rw (of_stmt_is steps_row plus (get 0 0), of_stmt_is steps_row plus (Emit (Reg 0))) refl

pub writer_steps : (item value : ℕ) → steps_max (writer item value) ≡ 1
unfolding writer statement.out-Stmt Carrier.out
writer_steps item value = rw (of_stmt_is steps_row plus (set_to item value)) refl

pub late_reader_steps : steps_max late_reader ≡ 3
unfolding late_reader statement.out-Stmt Carrier.out
late_reader_steps = rw (of_stmt_is steps_row plus (add 1 1 1), of_stmt_is steps_row plus (get 0 0), of_stmt_is steps_row plus (Emit (Reg 0))) refl

pub two_reader_steps : steps_max two_reader ≡ 3
unfolding two_reader statement.out-Stmt Carrier.out
two_reader_steps = rw (of_stmt_is steps_row plus (get 0 0), of_stmt_is steps_row plus (get 1 1), of_stmt_is steps_row plus (Emit (Reg 1))) refl

pub late_two_reader_steps : steps_max late_two_reader ≡ 4
unfolding late_two_reader statement.out-Stmt Carrier.out
late_two_reader_steps = rw (of_stmt_is steps_row plus (Move 5 (num 3)), of_stmt_is steps_row plus (get 0 0), of_stmt_is steps_row plus (get 1 1), of_stmt_is steps_row plus (Emit (Reg 1))) refl

pub own_reader_steps : steps_max own_reader ≡ 3
unfolding own_reader statement.out-Stmt Carrier.out
own_reader_steps = rw (of_stmt_is steps_row plus (set_to 0 1), of_stmt_is steps_row plus (get 0 0), of_stmt_is steps_row plus (Emit (Reg 0))) refl

pub twice_reader_steps : steps_max twice_reader ≡ 4
unfolding twice_reader statement.out-Stmt Carrier.out
twice_reader_steps = rw (of_stmt_is steps_row plus (get 0 0), of_stmt_is steps_row plus (get 1 0), of_stmt_is steps_row plus (Calc 2 (Reg 0) Add (Reg 1)), of_stmt_is steps_row plus (Emit (Reg 2))) refl

pub three_reader_steps : steps_max three_reader ≡ 5
unfolding three_reader statement.out-Stmt Carrier.out
three_reader_steps = rw (of_stmt_is steps_row plus (add 1 1 1), of_stmt_is steps_row plus (get 0 0), of_stmt_is steps_row plus (get 1 1), of_stmt_is steps_row plus (get 2 2), of_stmt_is steps_row plus (Emit (Reg 2))) refl

pub failing_writer_steps : (item : ℕ) → steps_max (failing_writer item) ≡ 2
unfolding failing_writer statement.out-Stmt Carrier.out
failing_writer_steps item = rw (of_stmt_is steps_row plus (set_to item 4), of_stmt_is steps_row plus (Fail (num 7))) refl

pub crosses_steps : (from to : ℕ) → steps_max (crosses from to) ≡ 2
unfolding crosses statement.out-Stmt Carrier.out
crosses_steps from to = rw (of_stmt_is steps_row plus (get 0 from), of_stmt_is steps_row plus (set_to to 1)) refl
