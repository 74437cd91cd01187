-- The lines of bytes that are no program.
use Rattle.std.specs.Prelude.{ℕ, List, [], ◌∷◌, ◌++◌, codes, decimal}
use Rattle.txn_syntax.specs.declared.refusal.Which.{Which}
use Rattle.txn_syntax.specs.declared.refusal.Which.TheVariants as which
use Rattle.txn_syntax.specs.declared.refusal.ReadRefusal.{ReadRefusal}
use Rattle.txn_syntax.specs.declared.refusal.ReadRefusal.TheVariants.{Syntax, UnknownTable, Limit, OutOfMemory}
use Rattle.scc_replies.specs.Lines.{number_line}

-- a refusal with a place in the program's text
abbrev pub refuse_at_line : ℕ → ℕ → List ℕ
refuse_at_line code at = codes "refuse " ++ decimal code ++ number_line (codes " ") at

-- a limit of programs
abbrev pub limit_word : Which → List ℕ
limit_word which.Literal = codes "literal"
limit_word which.Loops = codes "loops"
limit_word which.Statements = codes "statements"
limit_word which.Depth = codes "depth"
limit_word which.Steps = codes "steps"
limit_word which.Emits = codes "emits"

-- a program that breaks this limit
abbrev pub refuse_limit_line : Which → List ℕ
refuse_limit_line which = codes "refuse 15 " ++ limit_word which ++ 10 ∷ []

-- bytes that are no program; want of memory has no line, and is never told by one
abbrev pub unread_line : ReadRefusal → List ℕ
unread_line (Syntax at) = refuse_at_line 14 at
unread_line (UnknownTable at) = refuse_at_line 16 at
unread_line (Limit which) = refuse_limit_line which
unread_line OutOfMemory = []
