-- The grammar of programs: how each is spelled in tokens.
use Rattle.std.specs.Prelude.{ℕ, List, [], ◌∷◌, ◌++◌}
use Rattle.txn_runs.specs.declared.program.Op.TheVariants.{Sub}
use Rattle.txn_tokens.specs.declared.token.Token.{Token}
use Rattle.txn_tokens.specs.declared.token.Token.TheVariants as t
use Rattle.txn_syntax.specs.declared.place.Term.{Term}
use Rattle.txn_syntax.specs.declared.place.Term.TheVariants.{Register, Number, Minus}
use Rattle.txn_syntax.specs.declared.place.Plain.{Plain}
use Rattle.txn_syntax.specs.declared.place.Plain.TheVariants.{Calc, Move, Read, Write, Emit, Fail}
use Rattle.txn_syntax.specs.declared.place.Test.{Test}

-- The statements of a block as they are written. An `if` has an `else` or none.
pub data Text : Type 0 where
  Nothing : Text
  Simple : Plain → Text → Text
  If : Test → Text → Text → Text
  IfElse : Test → Text → Text → Text → Text
  Loop : ℕ → Text → Text → Text

-- operand = reg | number | "-" number
abbrev pub operand : Term → List Token
operand (Register r) = t.Register r ∷ []
operand (Number n) = t.Number n ∷ []
operand (Minus n) = t.Op Sub ∷ t.Number n ∷ []

-- reg "=" operand op operand ";", and so on
unfoldable pub simple : Plain → List Token
simple (Calc to left op right) = t.Register to ∷ t.Assign ∷ operand left ++ t.Op op ∷ operand right ++ t.Semicolon ∷ []
simple (Move to from) = t.Register to ∷ t.Assign ∷ operand from ++ t.Semicolon ∷ []
simple (Read to table at) = t.Register to ∷ t.Assign ∷ t.Name table ∷ t.OpenIndex ∷ operand at ++ t.CloseIndex ∷ t.Semicolon ∷ []
simple (Write table at from) = t.Name table ∷ t.OpenIndex ∷ operand at ++ t.CloseIndex ∷ t.Assign ∷ operand from ++ t.Semicolon ∷ []
simple (Emit from) = t.Emit ∷ operand from ++ t.Semicolon ∷ []
simple (Fail code) = t.Fail ∷ operand code ++ t.Semicolon ∷ []

-- "if" operand cmp operand "{"
unfoldable pub opened_if : Test → List Token
opened_if test = t.If ∷ operand test.left ++ t.Cmp test.cmp ∷ operand test.right ++ t.OpenBlock ∷ []

-- "loop" number "{"
abbrev pub opened_loop : ℕ → List Token
opened_loop count = t.Loop ∷ t.Number count ∷ t.OpenBlock ∷ []

-- the statements of a block, one after the other
abbrev pub spelled : Text → List Token
spelled Nothing = []
spelled (Simple plain rest) = simple plain ++ spelled rest
spelled (If test first rest) = opened_if test ++ (spelled first ++ t.CloseBlock ∷ spelled rest)
spelled (IfElse test first second rest) = opened_if test ++ (spelled first ++ t.CloseBlock ∷ t.Else ∷ t.OpenBlock ∷ (spelled second ++ t.CloseBlock ∷ spelled rest))
spelled (Loop count body rest) = opened_loop count ++ (spelled body ++ t.CloseBlock ∷ spelled rest)

-- program = "{" stmt* "}"
abbrev pub program : Text → List Token
program text = t.OpenBlock ∷ spelled text ++ t.CloseBlock ∷ []
