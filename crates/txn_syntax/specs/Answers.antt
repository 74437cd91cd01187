-- What an answer to bytes says of the grammar.
use Rattle.std.specs.Prelude.{◌≡◌, ℕ, List, [], ◌∷◌, ◌++◌, map, None, Some, Result, Ok, Err, length}
use Rattle.txn_runs.specs.declared.program.Stmt.{Stmt}
use Rattle.txn_names.specs.Tables.{Named}
use Rattle.txn_tokens.specs.declared.token.Token.{Token}
use Rattle.txn_tokens.specs.declared.token.Placed.{Placed}
use Rattle.txn_tokens.specs.Tokens.{tokens}
use Rattle.txn_syntax.specs.declared.refusal.ReadRefusal.{ReadRefusal}
use Rattle.txn_syntax.specs.declared.refusal.ReadRefusal.TheVariants.{Syntax, UnknownTable, Limit, OutOfMemory}
use Rattle.txn_syntax.specs.Grammar.{Text, program}
use Rattle.txn_syntax.specs.Meaning.{meant, broken}
use Rattle.txn_syntax.specs.Reads.{token_of, place_of, first_unknown}

-- the tokens spell this text
abbrev pub Spells : List Placed → Text → Type 0
Spells ts text = program text ≡ map token_of ts

-- some program begins with these tokens
abbrev pub Begins : List Token → Type 0
Begins ts = (more : List Token) × (text : Text) × (program text ≡ ts ++ more)

-- no program begins with the tokens and the next one; where there is no next one, they are no program
abbrev pub EndsWith : List Placed → List Placed → Type 0
EndsWith front [] = (text : Text) → Spells front text → ⊥
EndsWith front (placed ∷ rest) = Begins (map token_of front ++ placed.token ∷ []) → ⊥

-- the tokens in front begin a program, and none with the one behind them
pub record IsSyntaxError (ts : List Placed) (end at : ℕ) : Type 0 where
  pub front : List Placed
  pub rest : List Placed
  pub parts : ts ≡ front ++ rest
  pub begins : Begins (map token_of front)
  pub stops : EndsWith front rest
  pub place : at ≡ place_of end rest

-- the answer to bytes by the grammar: the program that they spell, or the first reason why it isn't one
abbrev pub IsAnswer : List Named → List ℕ → Result (List Stmt) ReadRefusal → Type 0
IsAnswer names bytes (Ok body) = (text : Text) × Spells (tokens names bytes) text × (first_unknown (tokens names bytes) ≡ None) × (broken text ≡ None) × (body ≡ meant text)
IsAnswer names bytes (Err (Syntax at)) = IsSyntaxError (tokens names bytes) (length bytes) at
IsAnswer names bytes (Err (UnknownTable at)) = (text : Text) × Spells (tokens names bytes) text × (first_unknown (tokens names bytes) ≡ Some at)
IsAnswer names bytes (Err (Limit which)) = (text : Text) × Spells (tokens names bytes) text × (first_unknown (tokens names bytes) ≡ None) × (broken text ≡ Some which)
IsAnswer names bytes (Err OutOfMemory) = ⊥
