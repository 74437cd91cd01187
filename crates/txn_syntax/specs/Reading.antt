-- Reading tokens one after the other: how far a program has been read.
use Rattle.std.specs.Prelude.{ℕ, List, [], ◌∷◌, Option, None, Some, is_some, Result, Ok, Err}
use Rattle.txn_tokens.specs.declared.token.Token.{Token}
use Rattle.txn_tokens.specs.declared.token.Token.TheVariants as t
use Rattle.txn_syntax.specs.declared.place.Test.{Test}
use Rattle.txn_syntax.specs.declared.place.Item.{Item}
use Rattle.txn_syntax.specs.declared.place.Item.TheVariants as i
use Rattle.txn_syntax.specs.Grammar.{Text, Nothing, Simple, If, IfElse, Loop}
use Rattle.txn_syntax.specs.Places.{Place, Start, Step, Goes, Ends, Fails, step}

-- statements, and then others
abbrev pub joined : Text → Text → Text
joined Nothing more = more
joined (Simple plain rest) more = Simple plain (joined rest more)
joined (If test first rest) more = If test first (joined rest more)
joined (IfElse test first second rest) more = IfElse test first second (joined rest more)
joined (Loop count body rest) more = Loop count body (joined rest more)

-- what has opened a block
pub data Opener : Type 0 where
  Yes : Test → Opener
  No : Test → Text → Opener
  Turn : ℕ → Opener

-- an open block: the statements before it, and what has opened it
pub record Frame : Type 0 where
  pub before : Text
  pub opener : Opener

-- the statements of the innermost block so far, the `if` whose first block has just been closed, and the open blocks from the innermost outwards
pub record Blocks : Type 0 where
  pub current : Text
  pub choice : Option (Test × Text)
  pub frames : List Frame

-- the statements of the innermost block, where no `else` follows
abbrev pub settled_by : Option (Test × Text) → Text → Text
settled_by None current = current
settled_by (Some choice) current = joined current (If choice.0 choice.1 Nothing)

-- the statements of the innermost block
abbrev pub settled : Blocks → Text
settled b = settled_by b.choice b.current

-- how far a program has been read
pub data Progress : Type 0 where
  Before : Progress
  Within : Place → Blocks → Progress
  Behind : Text → Progress

-- before the next item
abbrev pub begun : Blocks → Progress
begun b = Within (Start (is_some b.choice)) b

-- what a closed block with these statements is part of
abbrev pub closed_by : Opener → Text → List Frame → Text → Progress
closed_by (Yes test) before frames text = begun (record { current = before; choice = Some (test, text); frames = frames })
closed_by (No test first) before frames text = begun (record { current = joined before (IfElse test first text Nothing); choice = None; frames = frames })
closed_by (Turn count) before frames text = begun (record { current = joined before (Loop count text Nothing); choice = None; frames = frames })

-- the innermost block is closed, with these statements
abbrev pub closed : List Frame → Text → Progress
closed [] text = Behind text
closed (frame ∷ frames) text = closed_by frame.opener frame.before frames text

-- a block is opened behind these statements
abbrev pub opened : Text → Opener → List Frame → Progress
opened before opener frames = begun (record { current = Nothing; choice = None; frames = record { before = before; opener = opener } ∷ frames })

-- an `else` behind a block of an `if`
abbrev pub turned : Option (Test × Text) → Blocks → Progress
turned None b = begun b
turned (Some choice) b = opened b.current (No choice.0 choice.1) b.frames

-- an item has been read
abbrev pub grown : Item → Blocks → Progress
grown (i.Plain plain) b = begun (record { current = joined (settled b) (Simple plain Nothing); choice = None; frames = b.frames })
grown (i.If test) b = opened (settled b) (Yes test) b.frames
grown i.Else b = turned b.choice b
grown (i.Loop count) b = opened (settled b) (Turn count) b.frames
grown i.Close b = closed b.frames (settled b)

-- what a step at a place makes of the progress
abbrev pub stepped : Step → Blocks → Option Progress
stepped (Goes place) b = Some (Within place b)
stepped (Ends item) b = Some (grown item b)
stepped Fails b = None

-- a program begins with a brace
abbrev pub brace_step : Token → Option Progress
brace_step t.OpenBlock = Some (begun (record { current = Nothing; choice = None; frames = [] }))
brace_step _ = None

-- what a token does; nothing where no program goes on with it
abbrev pub progress_step : Progress → Token → Option Progress
progress_step Before token = brace_step token
progress_step (Within place b) token = stepped (step place token) b
progress_step (Behind text) token = None

-- goes on with a progress, or stops where there is none
abbrev pub going_on : {R : Type 0} → Option Progress → R → (Progress → R) → R
going_on None stop on = stop
going_on (Some p) stop on = on p

-- Tokens are read as far as they begin a program: how far that is, or the tokens from the first one on that doesn't go on.
abbrev pub reading : {A : Type 0} → (A → Token) → Progress → List A → Result Progress (List A)
reading token p [] = Ok p
reading token p (x ∷ xs) = going_on (progress_step p (token x)) (Err (x ∷ xs)) (λ q. reading token q xs)
