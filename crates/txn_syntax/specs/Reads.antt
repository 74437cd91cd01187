-- What bytes are read as.
use Rattle.std.specs.Prelude.{◌≡◌, ℕ, List, [], ◌∷◌, Option, None, Some, Result, Ok, Err, length}
use Rattle.txn_runs.specs.declared.program.Stmt.{Stmt}
use Rattle.txn_names.specs.Tables.{Named}
use Rattle.txn_tokens.specs.declared.token.Token.{Token}
use Rattle.txn_tokens.specs.declared.token.Token.TheVariants as t
use Rattle.txn_tokens.specs.declared.token.Placed.{Placed}
use Rattle.txn_tokens.specs.Tokens.{tokens}
use Rattle.txn_syntax.specs.declared.refusal.Which.{Which}
use Rattle.txn_syntax.specs.declared.refusal.ReadRefusal.{ReadRefusal}
use Rattle.txn_syntax.specs.declared.refusal.ReadRefusal.TheVariants.{Syntax, UnknownTable, Limit, OutOfMemory}
use Rattle.txn_syntax.specs.declared.body.Body.{Body}
use Rattle.txn_syntax.specs.Grammar.{Text}
use Rattle.txn_syntax.specs.Meaning.{meant, broken}
use Rattle.txn_syntax.specs.Reading.{Progress, Before, Within, Behind, reading}
use Rattle.txn_syntax.specs.Bodies.{IsBody}

-- a token without its place
abbrev pub token_of : Placed → Token
token_of placed = placed.token

-- the offset of the first token, or where there is none, of the end
abbrev pub place_of : ℕ → List Placed → ℕ
place_of end [] = end
place_of end (placed ∷ rest) = placed.at

-- the text that was read, or the offset at which no program goes on
abbrev pub text_from : ℕ → Result Progress (List Placed) → Result Text ℕ
text_from end (Ok (Behind text)) = Ok text
text_from end (Ok Before) = Err end
text_from end (Ok (Within place blocks)) = Err end
text_from end (Err rest) = Err (place_of end rest)

-- the text that bytes spell, or the offset at which no program goes on
abbrev pub text_of : List Named → List ℕ → Result Text ℕ
text_of names bytes = text_from (length bytes) (reading token_of Before (tokens names bytes))

-- the offset of a name that no table has
abbrev pub unknown_at : Token → ℕ → Option ℕ → Option ℕ
unknown_at (t.Name None) at later = Some at
unknown_at token at later = later

-- an offset, or else one further on
abbrev pub first_of : Option ℕ → Option ℕ → Option ℕ
first_of None later = later
first_of (Some at) later = Some at

-- the offset of the first name that no table has
abbrev pub first_unknown : List Placed → Option ℕ
first_unknown [] = None
first_unknown (placed ∷ rest) = unknown_at placed.token placed.at (first_unknown rest)

-- the statements, or the limit that they break
abbrev pub within_limits : Option Which → List Stmt → Result (List Stmt) ReadRefusal
within_limits None body = Ok body
within_limits (Some which) body = Err (Limit which)

-- a text whose names all have tables, or the offset of the first that has none
abbrev pub with_tables : Option ℕ → Text → Result (List Stmt) ReadRefusal
with_tables None text = within_limits (broken text) (meant text)
with_tables (Some at) text = Err (UnknownTable at)

-- a text that is judged, or the offset of the error
abbrev pub judged : Option ℕ → Result Text ℕ → Result (List Stmt) ReadRefusal
judged unknown (Ok text) = with_tables unknown text
judged unknown (Err at) = Err (Syntax at)

-- the statements that bytes spell, or the first reason why they aren't a program
abbrev pub read_of : List Named → List ℕ → Result (List Stmt) ReadRefusal
read_of names bytes = judged (first_unknown (tokens names bytes)) (text_of names bytes)

-- an answer is this one, unless memory ran out
abbrev pub Gives : Result (List Stmt) ReadRefusal → Result (List Stmt) ReadRefusal → Type 0
Gives (Err OutOfMemory) read = Unit {0}
Gives answer read = read ≡ answer

-- a body was read, or the offset was found at which no program goes on, or memory ran out
abbrev pub GivesBody : Result (Body × Option ℕ) ReadRefusal → Result Text ℕ → Type 0
GivesBody (Ok found) read = (text : Text) × (read ≡ Ok text) × IsBody 0 found.0 text
GivesBody (Err (Syntax at)) read = read ≡ Err at
GivesBody (Err OutOfMemory) read = Unit {0}
GivesBody (Err _) read = ⊥
