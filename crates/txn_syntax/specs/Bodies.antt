-- What is kept of a text while it is read.
use Rattle.std.specs.Prelude.{◌≡◌, ℕ, ◌+◌, ◌≤◌, List, [], ◌∷◌, ◌++◌, true, false}
use Rattle.txn_runs.specs.declared.program.Stmt.{Stmt}
use Rattle.txn_runs.specs.Bounds.{greatest_count, size, depth}
use Rattle.txn_syntax.specs.declared.measure.Measure.{Measure}
use Rattle.txn_syntax.specs.declared.body.Body.{Body}
use Rattle.txn_syntax.specs.Grammar.{Text}
use Rattle.txn_syntax.specs.Meaning.{meant, literals_fit}
use Rattle.txn_syntax.specs.Measures.{then_of, is_kept, IsMeasure}

-- a text that is kept inside so many blocks: its numbers can be, and it has no more statements than a program, and none deeper
pub record Fits (level : ℕ) (text : Text) : Type 0 where
  pub literals : literals_fit text ≡ true
  pub counts : greatest_count (meant text) ≤ 1000
  pub statements : size (meant text) ≤ 256
  pub depth : depth (meant text) + level ≤ 8

-- what is kept inside so many blocks has no more statements than a program, and none deeper
pub record IsSmall (level : ℕ) (body : List Stmt) : Type 0 where
  pub statements : size body ≤ 256
  pub deep : 1 ≤ size body → depth body + level ≤ 8

-- a body inside so many blocks is that of a text: its measure, and where the text is kept, what it means
pub record IsBody (level : ℕ) (body : Body) (text : Text) : Type 0 where
  pub measure : IsMeasure body.measure text
  pub stmts : Fits level text → body.stmts.items ≡ meant text
  pub small : IsSmall level body.stmts.items

-- one statement more, which is kept exactly where the limits hold inside so many blocks
pub record Adds (level : ℕ) (old new : Body) (m : Measure) (stmt : Stmt) : Type 0 where
  pub measure : new.measure ≡ then_of old.measure m
  pub kept : is_kept level new.measure ≡ true → new.stmts.items ≡ old.stmts.items ++ stmt ∷ []
  pub dropped : is_kept level new.measure ≡ false → new.stmts.items ≡ old.stmts.items
