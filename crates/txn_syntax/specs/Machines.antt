-- How a machine stands for a progress.
use Rattle.std.specs.Prelude.{◌≡◌, ℕ, suc, List, [], ◌∷◌, ◌++◌, Option, None, Some, is_some, length}
use Rattle.txn_syntax.specs.declared.place.Test.{Test}
use Rattle.txn_syntax.specs.declared.body.Body.{Body}
use Rattle.txn_syntax.specs.declared.machine.Stage.TheVariants as g
use Rattle.txn_syntax.specs.declared.machine.Opening.{Opening}
use Rattle.txn_syntax.specs.declared.machine.Opening.TheVariants as o
use Rattle.txn_syntax.specs.declared.machine.Open.{Open}
use Rattle.txn_syntax.specs.declared.machine.Machine.{Machine}
use Rattle.txn_syntax.specs.Grammar.{Text, Nothing}
use Rattle.txn_syntax.specs.Places.{Start}
use Rattle.txn_syntax.specs.Reading.{Opener, Yes, No, Turn, Frame, Blocks, Progress, Before, Within, Behind}
use Rattle.txn_syntax.specs.Bodies.{IsBody}

-- what has opened a block that stands inside so many others
abbrev pub IsOpening : ℕ → Opening → Opener → Type 0
IsOpening level (o.Yes test) (Yes other) = test ≡ other
IsOpening level (o.No test first) (No other text) = (test ≡ other) × IsBody (suc level) first text
IsOpening level (o.Turns count) (Turn n) = count ≡ n
IsOpening level _ _ = ⊥

-- an open block inside so many others is that frame
pub record IsOpen (level : ℕ) (open_block : Open) (frame : Frame) : Type 0 where
  pub before : IsBody level open_block.before frame.before
  pub opening : IsOpening level open_block.opening frame.opener

-- the last open block is the innermost
abbrev pub AreOpen : List Open → List Frame → Type 0
AreOpen opens [] = opens ≡ []
AreOpen opens (frame ∷ frames) = (front : List Open) × (last : Open) × (opens ≡ front ++ last ∷ []) × IsOpen (length frames) last frame × AreOpen front frames

-- the `if` inside so many blocks whose first block has just been closed
abbrev pub IsChoice : ℕ → Option (Test × Body) → Option (Test × Text) → Type 0
IsChoice level None None = Unit {0}
IsChoice level (Some a) (Some b) = (a.0 ≡ b.0) × IsBody (suc level) a.1 b.1
IsChoice level _ _ = ⊥

-- the bodies of a machine are those of the blocks
pub record HasBlocks (m : Machine) (b : Blocks) : Type 0 where
  pub current : IsBody (length b.frames) m.current b.current
  pub choice : IsChoice (length b.frames) m.choice b.choice
  pub opens : AreOpen m.opens.items b.frames

-- nothing has been read
abbrev pub no_blocks : Blocks
no_blocks = record { current = Nothing; choice = None; frames = [] }

-- a machine stands for a progress between two items
abbrev pub IsMachine : Machine → Progress → Type 0
IsMachine m Before = (m.stage ≡ g.Before) × HasBlocks m no_blocks
IsMachine m (Within place b) = (m.stage ≡ g.Within) × (place ≡ Start (is_some b.choice)) × HasBlocks m b
IsMachine m (Behind text) = (m.stage ≡ g.Behind) × IsBody 0 m.current text

-- a whole program, or what is none yet
abbrev pub FinishesAs : Option Body → Progress → Type 0
FinishesAs (Some body) (Behind text) = IsBody 0 body text
FinishesAs None (Behind text) = ⊥
FinishesAs (Some body) _ = ⊥
FinishesAs None _ = Unit {0}
