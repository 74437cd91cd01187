-- The tokens that a progress has read.
use Rattle.std.proofs.Common.{◌≡◌, ℕ, List, [], ◌∷◌, ◌++◌, Bool, true, false, Option, is_some, refl, sym, ap, ◌∙◌, append_assoc}
use Rattle.std.proofs.lemmas.List.{append-nil}
use Rattle.txn_runs.specs.declared.program.Op.{Op}
use Rattle.txn_runs.specs.declared.program.Op.TheVariants as o
use Rattle.txn_tokens.specs.declared.token.Token.{Token}
use Rattle.txn_tokens.specs.declared.token.Token.TheVariants as t
use Rattle.txn_syntax.specs.declared.place.Term.{Term}
use Rattle.txn_syntax.specs.declared.place.Term.TheVariants as e
use Rattle.txn_syntax.specs.declared.place.Plain.{Plain}
use Rattle.txn_syntax.specs.declared.place.Plain.TheVariants as p
use Rattle.txn_syntax.specs.declared.place.Test.{Test}
use Rattle.txn_syntax.specs.declared.place.Item.{Item}
use Rattle.txn_syntax.specs.declared.place.Item.TheVariants as i
use Rattle.txn_syntax.specs.Grammar.{Text, Nothing, Simple, If, IfElse, Loop, operand, simple, opened_if, opened_loop, spelled, program}
use Rattle.txn_syntax.specs.Places.{Slot, Left, Right, ReadAt, WriteAt, WriteFrom, IfLeft, IfRight, Emit, Fail, Place, Start, To, Value, ReadName, WriteName, Wants, Signed, BehindLeft, ReadClose, WriteClose, WriteAssign, Compare, OpenIf, Count, OpenLoop, OpenElse, End, Step, Goes, Ends, Fails, filled, signed, wanted, start_step, value_step, step}
use Rattle.txn_syntax.specs.Reading.{joined, Opener, Yes, No, Turn, Frame, Blocks, settled, Progress, Before, Within, Behind, closed_by, closed}

-- a statement without its last token
abbrev pub unended : Plain → List Token
unended (p.Calc to left op right) = t.Register to ∷ t.Assign ∷ operand left ++ t.Op op ∷ operand right
unended (p.Move to from) = t.Register to ∷ t.Assign ∷ operand from
unended (p.Read to table at) = t.Register to ∷ t.Assign ∷ t.Name table ∷ t.OpenIndex ∷ operand at ++ t.CloseIndex ∷ []
unended (p.Write table at from) = t.Name table ∷ t.OpenIndex ∷ operand at ++ t.CloseIndex ∷ t.Assign ∷ operand from
unended (p.Emit from) = t.Emit ∷ operand from
unended (p.Fail code) = t.Fail ∷ operand code

abbrev pub before_slot : Slot → List Token
before_slot (Left to) = t.Register to ∷ t.Assign ∷ []
before_slot (Right to left op) = t.Register to ∷ t.Assign ∷ operand left ++ t.Op op ∷ []
before_slot (ReadAt to table) = t.Register to ∷ t.Assign ∷ t.Name table ∷ t.OpenIndex ∷ []
before_slot (WriteAt table) = t.Name table ∷ t.OpenIndex ∷ []
before_slot (WriteFrom table at) = t.Name table ∷ t.OpenIndex ∷ operand at ++ t.CloseIndex ∷ t.Assign ∷ []
before_slot IfLeft = t.If ∷ []
before_slot (IfRight left cmp) = t.If ∷ operand left ++ t.Cmp cmp ∷ []
before_slot Emit = t.Emit ∷ []
before_slot Fail = t.Fail ∷ []

-- the tokens of an item up to a place
abbrev pub up_to : Place → List Token
up_to (Start behind_if) = []
up_to (To to) = t.Register to ∷ []
up_to (Value to) = t.Register to ∷ t.Assign ∷ []
up_to (ReadName to table) = t.Register to ∷ t.Assign ∷ t.Name table ∷ []
up_to (WriteName table) = t.Name table ∷ []
up_to (Wants slot) = before_slot slot
up_to (Signed slot) = before_slot slot ++ t.Op o.Sub ∷ []
up_to (BehindLeft to left) = t.Register to ∷ t.Assign ∷ operand left
up_to (ReadClose to table at) = t.Register to ∷ t.Assign ∷ t.Name table ∷ t.OpenIndex ∷ operand at
up_to (WriteClose table at) = t.Name table ∷ t.OpenIndex ∷ operand at
up_to (WriteAssign table at) = t.Name table ∷ t.OpenIndex ∷ operand at ++ t.CloseIndex ∷ []
up_to (Compare left) = t.If ∷ operand left
up_to (OpenIf test) = t.If ∷ operand test.left ++ t.Cmp test.cmp ∷ operand test.right
up_to Count = t.Loop ∷ []
up_to (OpenLoop n) = t.Loop ∷ t.Number n ∷ []
up_to OpenElse = t.Else ∷ []
up_to (End plain) = unended plain

abbrev pub item_tokens : Item → List Token
item_tokens (i.Plain plain) = simple plain
item_tokens (i.If test) = opened_if test
item_tokens i.Else = t.Else ∷ t.OpenBlock ∷ []
item_tokens (i.Loop n) = opened_loop n
item_tokens i.Close = t.CloseBlock ∷ []

pub simple_ended : (plain : Plain) → simple plain ≡ unended plain ++ t.Semicolon ∷ []
unfolding simple
simple_ended (p.Calc to left op right) = refl
simple_ended (p.Move to from) = refl
simple_ended (p.Read to table at) = simp append_assoc
simple_ended (p.Write table at from) = refl
simple_ended (p.Emit from) = refl
simple_ended (p.Fail code) = refl

pub if_opened : (test : Test) → opened_if test ≡ up_to (OpenIf test) ++ t.OpenBlock ∷ []
unfolding opened_if
if_opened test = refl

pub filled_tokens : (slot : Slot) (x : Term) → up_to (filled slot x) ≡ before_slot slot ++ operand x
filled_tokens (Left to) x = refl
filled_tokens (Right to left op) x = simp append_assoc
filled_tokens (ReadAt to table) x = refl
filled_tokens (WriteAt table) x = refl
filled_tokens (WriteFrom table at) x = simp append_assoc
filled_tokens IfLeft x = refl
filled_tokens (IfRight left cmp) x = simp append_assoc
filled_tokens Emit x = refl
filled_tokens Fail x = refl

-- a step takes the token
abbrev pub Takes : List Token → Token → Step → Type 0
Takes before token (Goes place) = up_to place ≡ before ++ token ∷ []
Takes before token (Ends item) = item_tokens item ≡ before ++ token ∷ []
Takes before token Fails = Unit {0}

takes_signed : (slot : Slot) (op : Op) → Takes (before_slot slot) (t.Op op) (signed slot op)
takes_signed slot o.Sub = refl
takes_signed slot o.Add = tt
takes_signed slot o.Mul = tt
takes_signed slot o.Div = tt
takes_signed slot o.Rem = tt
takes_signed slot o.Min = tt
takes_signed slot o.Max = tt

takes_wanted : (slot : Slot) (token : Token) → Takes (before_slot slot) token (wanted slot token)
takes_wanted slot (t.Register r) = filled_tokens slot (e.Register r)
takes_wanted slot (t.Number n) = filled_tokens slot (e.Number n)
takes_wanted slot (t.Op op) = takes_signed slot op
takes_wanted slot _ = tt

takes_start : (v : Bool) (token : Token) → Takes [] token (start_step v token)
takes_start v (t.Register to) = refl
takes_start v (t.Name table) = refl
takes_start v t.If = refl
takes_start v t.Loop = refl
takes_start v t.Emit = refl
takes_start v t.Fail = refl
takes_start v t.CloseBlock = refl
takes_start true t.Else = refl
takes_start false t.Else = tt
takes_start v _ = tt

takes_value : (to : ℕ) (token : Token) → Takes (up_to (Value to)) token (value_step to token)
takes_value to (t.Name table) = refl
takes_value to token = takes_wanted (Left to) token

pub takes_step : (place : Place) (token : Token) → Takes (up_to place) token (step place token)
takes_step (Start v) token = takes_start v token
takes_step (To to) t.Assign = refl
takes_step (Value to) token = takes_value to token
takes_step (ReadName to table) t.OpenIndex = refl
takes_step (WriteName table) t.OpenIndex = refl
takes_step (Wants slot) token = takes_wanted slot token
takes_step (Signed slot) (t.Number n) = filled_tokens slot (e.Minus n) ∙ sym (append_assoc (before_slot slot) (t.Op o.Sub ∷ []) (t.Number n ∷ []))
takes_step (BehindLeft to left) t.Semicolon = simple_ended (p.Move to left)
takes_step (BehindLeft to left) (t.Op op) = refl
takes_step (ReadClose to table at) t.CloseIndex = refl
takes_step (WriteClose table at) t.CloseIndex = refl
takes_step (WriteAssign table at) t.Assign = simp append_assoc
takes_step (Compare left) (t.Cmp cmp) = refl
takes_step (OpenIf test) t.OpenBlock = if_opened test
takes_step Count (t.Number n) = refl
takes_step (OpenLoop n) t.OpenBlock = refl
takes_step OpenElse t.OpenBlock = refl
takes_step (End plain) t.Semicolon = simple_ended plain
takes_step _ _ = tt

abbrev pub opener_tokens : Opener → List Token
opener_tokens (Yes test) = opened_if test
opener_tokens (No test first) = opened_if test ++ (spelled first ++ t.CloseBlock ∷ t.Else ∷ t.OpenBlock ∷ [])
opener_tokens (Turn n) = opened_loop n

abbrev pub frame_tokens : List Frame → List Token
frame_tokens [] = t.OpenBlock ∷ []
frame_tokens (f ∷ fs) = frame_tokens fs ++ (spelled f.before ++ opener_tokens f.opener)

abbrev pub block_tokens : Blocks → List Token
block_tokens b = frame_tokens b.frames ++ spelled (settled b)

-- the tokens that have been read
abbrev pub so_far : Progress → List Token
so_far Before = []
so_far (Within place b) = block_tokens b ++ up_to place
so_far (Behind text) = program text

-- an `else` stands only behind a first block
abbrev pub Sits : Place → Option (Test × Text) → Type 0
Sits (Start v) choice = v ≡ is_some choice
Sits OpenElse choice = is_some choice ≡ true
Sits _ choice = Unit {0}

abbrev pub IsFair : Progress → Type 0
IsFair Before = Unit {0}
IsFair (Within place b) = Sits place b.choice
IsFair (Behind text) = Unit {0}

pub joined_nothing : (x : Text) → joined x Nothing ≡ x
joined_nothing Nothing = refl
joined_nothing (Simple plain rest) = ap (Simple plain) (joined_nothing rest)
joined_nothing (If test first rest) = ap (If test first) (joined_nothing rest)
joined_nothing (IfElse test first second rest) = ap (IfElse test first second) (joined_nothing rest)
joined_nothing (Loop n body rest) = ap (Loop n body) (joined_nothing rest)

pub joined_assoc : (x y z : Text) → joined (joined x y) z ≡ joined x (joined y z)
joined_assoc Nothing y z = refl
joined_assoc (Simple plain rest) y z = ap (Simple plain) (joined_assoc rest y z)
joined_assoc (If test first rest) y z = ap (If test first) (joined_assoc rest y z)
joined_assoc (IfElse test first second rest) y z = ap (IfElse test first second) (joined_assoc rest y z)
joined_assoc (Loop n body rest) y z = ap (Loop n body) (joined_assoc rest y z)

pub spelled_joined : (x y : Text) → spelled (joined x y) ≡ spelled x ++ spelled y
spelled_joined Nothing y = refl
spelled_joined (Simple plain rest) y = simp (spelled_joined rest y, append_assoc)
spelled_joined (If test first rest) y = simp (spelled_joined rest y, append_assoc)
spelled_joined (IfElse test first second rest) y = simp (spelled_joined rest y, append_assoc)
spelled_joined (Loop n body rest) y = simp (spelled_joined rest y, append_assoc)

-- a closed block is part of what has been read
pub closed_by_tokens : (opener : Opener) (before : Text) (fs : List Frame) (text : Text) → so_far (closed_by opener before fs text) ≡ (frame_tokens fs ++ (spelled before ++ opener_tokens opener)) ++ (spelled text ++ t.CloseBlock ∷ [])
closed_by_tokens (Yes test) before fs text = simp (spelled_joined, append_assoc, append-nil)
closed_by_tokens (No test first) before fs text = simp (spelled_joined, append_assoc, append-nil)
closed_by_tokens (Turn n) before fs text = simp (spelled_joined, append_assoc, append-nil)

pub closed_tokens : (fs : List Frame) (text : Text) → so_far (closed fs text) ≡ frame_tokens fs ++ (spelled text ++ t.CloseBlock ∷ [])
closed_tokens [] text = refl
closed_tokens (f ∷ fs) text = closed_by_tokens f.opener f.before fs text
