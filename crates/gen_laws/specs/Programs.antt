-- The batch that the generator's text makes.
use Rattle.std.specs.Prelude.{ℕ, pos, List, [], ◌∷◌, map, replicate, codes}
use Rattle.txn_runs.specs.declared.program.Op.TheVariants.{Add, Sub}
use Rattle.txn_runs.specs.declared.program.Operand.TheVariants.{Reg, Lit}
use Rattle.txn_runs.specs.declared.program.Program.{Program}
use Rattle.txn_runs.specs.declared.program.Stmt.{Stmt}
use Rattle.txn_runs.specs.declared.program.Stmt.TheVariants.{Calc, Read, Write, Loop, Emit}
use Rattle.txn_runs.specs.declared.program.TableRef.{TableRef}
use Rattle.txn_names.specs.Tables.{Named}
use Rattle.batch_input.specs.declared.request.Request.{Request}
use Rattle.batch_input.specs.Input.{Batch}
use Rattle.scc_gen.specs.declared.lines.Transfer.{Transfer}
use Rattle.scc_gen.specs.Generated.{transfers}

-- the one table, and its name
abbrev pub accounts : TableRef
accounts = record { number = 0; base = 0; size = 64 }

abbrev pub names : List Named
names = (codes "acct", 64) ∷ []

-- the loop's body: it counts its turns
abbrev pub counting : Stmt
counting = Calc 4 (Reg 4) Add (Lit (pos 1))

-- the program of a transfer: the amount goes from one item to the other, some turns pass, and the amount is told
unfoldable pub program : Transfer → Program
program t =
    Read 0 accounts (Lit (pos t.from))
    ∷ Calc 1 (Reg 0) Sub (Lit (pos t.amount))
    ∷ Write accounts (Lit (pos t.from)) (Reg 1)
    ∷ Read 2 accounts (Lit (pos t.to))
    ∷ Calc 3 (Reg 2) Add (Lit (pos t.amount))
    ∷ Write accounts (Lit (pos t.to)) (Reg 3)
    ∷ Loop t.turns (record { stmts = counting ∷ [] })
    ∷ Emit (Lit (pos t.amount))
    ∷ []

-- the programs, in the order of their lines
abbrev pub programs : ℕ → ℕ → List Program
programs seed count = map program (transfers seed count)

-- a program with its deadline
abbrev pub request : Transfer → Request
request t = record { deadline = t.deadline; program = program t }

-- so many transfers, over a table in which all is 0
abbrev pub generated : ℕ → ℕ → Batch
generated seed count = record {
  opening = record { names = names; tables = replicate 64 (pos 0) };
  requests = map request (transfers seed count);
}
