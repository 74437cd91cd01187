-- What each token does at each place of an item.
use Rattle.std.specs.Prelude.{ℕ, Bool, if◌then◌else◌, Option}
use Rattle.txn_runs.specs.declared.program.TableRef.{TableRef}
use Rattle.txn_runs.specs.declared.program.Cmp.{Cmp}
use Rattle.txn_runs.specs.declared.program.Op.{Op}
use Rattle.txn_runs.specs.declared.program.Op.TheVariants as o
use Rattle.txn_tokens.specs.declared.token.Token.{Token}
use Rattle.txn_tokens.specs.declared.token.Token.TheVariants as t
use Rattle.txn_syntax.specs.declared.place.Term.{Term}
use Rattle.txn_syntax.specs.declared.place.Term.TheVariants as e
use Rattle.txn_syntax.specs.declared.place.Plain.{Plain}
use Rattle.txn_syntax.specs.declared.place.Plain.TheVariants as p
use Rattle.txn_syntax.specs.declared.place.Test.{Test}
use Rattle.txn_syntax.specs.declared.place.Item.{Item}
use Rattle.txn_syntax.specs.declared.place.Item.TheVariants as i

-- what an operand is for
pub data Slot : Type 0 where
  Left : ℕ → Slot
  Right : ℕ → Term → Op → Slot
  ReadAt : ℕ → Option TableRef → Slot
  WriteAt : Option TableRef → Slot
  WriteFrom : Option TableRef → Term → Slot
  IfLeft : Slot
  IfRight : Term → Cmp → Slot
  Emit : Slot
  Fail : Slot

-- how far an item has been read; before it, whether it may be an `else`, as behind the first block of an `if`
pub data Place : Type 0 where
  Start : Bool → Place
  To : ℕ → Place
  Value : ℕ → Place
  ReadName : ℕ → Option TableRef → Place
  WriteName : Option TableRef → Place
  Wants : Slot → Place
  Signed : Slot → Place
  BehindLeft : ℕ → Term → Place
  ReadClose : ℕ → Option TableRef → Term → Place
  WriteClose : Option TableRef → Term → Place
  WriteAssign : Option TableRef → Term → Place
  Compare : Term → Place
  OpenIf : Test → Place
  Count : Place
  OpenLoop : ℕ → Place
  OpenElse : Place
  End : Plain → Place

-- what a token does at a place: it leads on, it ends an item, or no item goes on with it
pub data Step : Type 0 where
  Goes : Place → Step
  Ends : Item → Step
  Fails : Step

-- the place behind an operand
abbrev pub filled : Slot → Term → Place
filled (Left to) x = BehindLeft to x
filled (Right to left op) x = End (p.Calc to left op x)
filled (ReadAt to table) x = ReadClose to table x
filled (WriteAt table) x = WriteClose table x
filled (WriteFrom table at) x = End (p.Write table at x)
filled IfLeft x = Compare x
filled (IfRight left cmp) x = OpenIf (record { left = left; cmp = cmp; right = x })
filled Emit x = End (p.Emit x)
filled Fail x = End (p.Fail x)

-- `-` is a sign where an operand is wanted
abbrev pub signed : Slot → Op → Step
signed slot o.Sub = Goes (Signed slot)
signed slot _ = Fails

-- a token where an operand is wanted
abbrev pub wanted : Slot → Token → Step
wanted slot (t.Register r) = Goes (filled slot (e.Register r))
wanted slot (t.Number n) = Goes (filled slot (e.Number n))
wanted slot (t.Op op) = signed slot op
wanted slot _ = Fails

-- a token at the beginning of an item; an `else` only behind the first block of an `if`
abbrev pub start_step : Bool → Token → Step
start_step behind_if (t.Register to) = Goes (To to)
start_step behind_if (t.Name table) = Goes (WriteName table)
start_step behind_if t.If = Goes (Wants IfLeft)
start_step behind_if t.Loop = Goes Count
start_step behind_if t.Emit = Goes (Wants Emit)
start_step behind_if t.Fail = Goes (Wants Fail)
start_step behind_if t.CloseBlock = Ends i.Close
start_step behind_if t.Else = if behind_if then Goes OpenElse else Fails
start_step behind_if _ = Fails

-- a token behind `=`: a table's name, or else an operand
abbrev pub value_step : ℕ → Token → Step
value_step to (t.Name table) = Goes (ReadName to table)
value_step to token = wanted (Left to) token

-- a token at a place
abbrev pub step : Place → Token → Step
step (Start behind_if) token = start_step behind_if token
step (To to) t.Assign = Goes (Value to)
step (Value to) token = value_step to token
step (ReadName to table) t.OpenIndex = Goes (Wants (ReadAt to table))
step (WriteName table) t.OpenIndex = Goes (Wants (WriteAt table))
step (Wants slot) token = wanted slot token
step (Signed slot) (t.Number n) = Goes (filled slot (e.Minus n))
step (BehindLeft to left) t.Semicolon = Ends (i.Plain (p.Move to left))
step (BehindLeft to left) (t.Op op) = Goes (Wants (Right to left op))
step (ReadClose to table at) t.CloseIndex = Goes (End (p.Read to table at))
step (WriteClose table at) t.CloseIndex = Goes (WriteAssign table at)
step (WriteAssign table at) t.Assign = Goes (Wants (WriteFrom table at))
step (Compare left) (t.Cmp cmp) = Goes (Wants (IfRight left cmp))
step (OpenIf test) t.OpenBlock = Ends (i.If test)
step Count (t.Number n) = Goes (OpenLoop n)
step (OpenLoop n) t.OpenBlock = Ends (i.Loop n)
step OpenElse t.OpenBlock = Ends i.Else
step (End plain) t.Semicolon = Ends (i.Plain plain)
step _ _ = Fails
