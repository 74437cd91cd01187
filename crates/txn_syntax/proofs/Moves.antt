-- Each token that is taken is one more of what has been read; a program goes on from wherever one is.
use Rattle.std.proofs.Common.{◌≡◌, ℕ, List, [], ◌∷◌, ◌++◌, Bool, true, false, Option, None, Some, is_some, refl, subst, sym, ap, ◌∙◌, append_assoc}
use Rattle.std.proofs.lemmas.List.{append-nil}
use Rattle.txn_tokens.specs.declared.token.Token.{Token}
use Rattle.txn_tokens.specs.declared.token.Token.TheVariants as t
use Rattle.txn_runs.specs.declared.program.Op.{Op}
use Rattle.txn_runs.specs.declared.program.Cmp.TheVariants as c
use Rattle.txn_runs.specs.declared.program.TableRef.{TableRef}
use Rattle.txn_syntax.specs.declared.place.Plain.{Plain}
use Rattle.txn_runs.specs.declared.program.Op.TheVariants as o
use Rattle.txn_syntax.specs.declared.place.Term.{Term}
use Rattle.txn_syntax.specs.declared.place.Term.TheVariants as e
use Rattle.txn_syntax.specs.declared.place.Plain.TheVariants as p
use Rattle.txn_syntax.specs.declared.place.Test.{Test}
use Rattle.txn_syntax.specs.declared.place.Item.{Item}
use Rattle.txn_syntax.specs.declared.place.Item.TheVariants as i
use Rattle.txn_syntax.specs.Grammar.{Text, Nothing, Simple, If, IfElse, Loop, spelled, program}
use Rattle.txn_syntax.specs.Places.{Slot, Left, Right, ReadAt, WriteAt, WriteFrom, IfLeft, IfRight, Emit, Fail, Place, Start, To, Value, ReadName, WriteName, Wants, Signed, BehindLeft, ReadClose, WriteClose, WriteAssign, Compare, OpenIf, Count, OpenLoop, OpenElse, End, Step, Goes, Ends, Fails, filled, signed, wanted, start_step, value_step, step}
use Rattle.txn_syntax.specs.Reading.{joined, Opener, Yes, No, Turn, Frame, Blocks, settled_by, settled, Progress, Before, Within, Behind, begun, closed_by, closed, turned, grown, stepped, brace_step, progress_step}
use Rattle.txn_syntax.proofs.SoFar.{simple_ended, if_opened, up_to, item_tokens, Takes, takes_step, block_tokens, frame_tokens, opener_tokens, so_far, Sits, IsFair, spelled_joined, closed_tokens}

-- an `else` only where a first block has been closed
abbrev ElseFits : Item → Option (Test × Text) → Type 0
ElseFits i.Else choice = is_some choice ≡ true
ElseFits _ choice = Unit {0}

turned_tokens : (choice : Option (Test × Text)) (b : Blocks) → is_some choice ≡ true → so_far (turned choice b) ≡ (frame_tokens b.frames ++ spelled (settled_by choice b.current)) ++ t.Else ∷ t.OpenBlock ∷ []
turned_tokens None b h = cc
turned_tokens (Some choice) b h = simp (spelled_joined, append_assoc, append-nil)

-- an item is one more of what has been read
pub grown_tokens : (item : Item) (b : Blocks) → ElseFits item b.choice → so_far (grown item b) ≡ block_tokens b ++ item_tokens item
grown_tokens (i.Plain plain) b h = simp (spelled_joined, append_assoc, append-nil)
grown_tokens (i.If test) b h = simp (append_assoc, append-nil)
grown_tokens i.Else b h = turned_tokens b.choice b h
grown_tokens (i.Loop n) b h = simp (append_assoc, append-nil)
grown_tokens i.Close b h = closed_tokens b.frames (settled b) ∙ sym (append_assoc (frame_tokens b.frames) (spelled (settled b)) (t.CloseBlock ∷ []))

turned_fair : (choice : Option (Test × Text)) (b : Blocks) → IsFair (turned choice b)
turned_fair None b = refl
turned_fair (Some choice) b = refl

closed_by_fair : (opener : Opener) (before : Text) (fs : List Frame) (text : Text) → IsFair (closed_by opener before fs text)
closed_by_fair (Yes test) before fs text = refl
closed_by_fair (No test first) before fs text = refl
closed_by_fair (Turn n) before fs text = refl

closed_fair : (fs : List Frame) (text : Text) → IsFair (closed fs text)
closed_fair [] text = tt
closed_fair (f ∷ fs) text = closed_by_fair f.opener f.before fs text

pub grown_fair : (item : Item) (b : Blocks) → IsFair (grown item b)
grown_fair (i.Plain plain) b = refl
grown_fair (i.If test) b = refl
grown_fair i.Else b = turned_fair b.choice b
grown_fair (i.Loop n) b = refl
grown_fair i.Close b = closed_fair b.frames (settled b)

abbrev FairStep : Option (Test × Text) → Step → Type 0
FairStep choice (Goes place) = Sits place choice
FairStep choice (Ends item) = ElseFits item choice
FairStep choice Fails = Unit {0}

fair_filled : (choice : Option (Test × Text)) (slot : Slot) (x : Term) → Sits (filled slot x) choice
fair_filled choice (Left to) x = tt
fair_filled choice (Right to left op) x = tt
fair_filled choice (ReadAt to table) x = tt
fair_filled choice (WriteAt table) x = tt
fair_filled choice (WriteFrom table at) x = tt
fair_filled choice IfLeft x = tt
fair_filled choice (IfRight left cmp) x = tt
fair_filled choice Emit x = tt
fair_filled choice Fail x = tt

fair_signed : (choice : Option (Test × Text)) (slot : Slot) (op : Op) → FairStep choice (signed slot op)
fair_signed choice slot o.Sub = tt
fair_signed choice slot o.Add = tt
fair_signed choice slot o.Mul = tt
fair_signed choice slot o.Div = tt
fair_signed choice slot o.Rem = tt
fair_signed choice slot o.Min = tt
fair_signed choice slot o.Max = tt

fair_wanted : (choice : Option (Test × Text)) (slot : Slot) (token : Token) → FairStep choice (wanted slot token)
fair_wanted choice slot (t.Register r) = fair_filled choice slot (e.Register r)
fair_wanted choice slot (t.Number n) = fair_filled choice slot (e.Number n)
fair_wanted choice slot (t.Op op) = fair_signed choice slot op
fair_wanted choice slot _ = tt

fair_start : (choice : Option (Test × Text)) (v : Bool) (token : Token) → v ≡ is_some choice → FairStep choice (start_step v token)
fair_start choice true t.Else h = sym h
fair_start choice false t.Else h = tt
fair_start choice v _ h = tt

fair_value : (choice : Option (Test × Text)) (to : ℕ) (token : Token) → FairStep choice (value_step to token)
fair_value choice to (t.Name table) = tt
fair_value choice to token = fair_wanted choice (Left to) token

fair_step : (choice : Option (Test × Text)) (place : Place) (token : Token) → Sits place choice → FairStep choice (step place token)
fair_step choice (Start v) token h = fair_start choice v token h
fair_step choice (To to) t.Assign h = tt
fair_step choice (Value to) token h = fair_value choice to token
fair_step choice (Wants slot) token h = fair_wanted choice slot token
fair_step choice (ReadName to table) t.OpenIndex h = tt
fair_step choice (WriteName table) t.OpenIndex h = tt
fair_step choice (BehindLeft to left) t.Semicolon h = tt
fair_step choice (BehindLeft to left) (t.Op op) h = tt
fair_step choice (ReadClose to table at) t.CloseIndex h = tt
fair_step choice (WriteClose table at) t.CloseIndex h = tt
fair_step choice (WriteAssign table at) t.Assign h = tt
fair_step choice (Compare left) (t.Cmp cmp) h = tt
fair_step choice (OpenIf test) t.OpenBlock h = tt
fair_step choice Count (t.Number n) h = tt
fair_step choice (OpenLoop n) t.OpenBlock h = tt
fair_step choice (End plain) t.Semicolon h = tt
fair_step choice (Signed slot) (t.Number n) h = fair_filled choice slot (e.Minus n)
fair_step choice OpenElse t.OpenBlock h = h
fair_step choice _ _ h = tt

-- what a token makes of a progress: one more token read
abbrev pub Moves : Progress → Token → Option Progress → Type 0
Moves p token None = Unit {0}
Moves p token (Some q) = IsFair q × (so_far q ≡ so_far p ++ token ∷ [])

moves_stepped : (place : Place) (b : Blocks) (token : Token) (s : Step) → Takes (up_to place) token s → FairStep b.choice s → Moves (Within place b) token (stepped s b)
moves_stepped place b token (Goes q) takes fair = (fair, ap (λ (ts : List Token). block_tokens b ++ ts) takes ∙ sym (append_assoc (block_tokens b) (up_to place) (token ∷ [])))
moves_stepped place b token (Ends item) takes fair = (grown_fair item b, grown_tokens item b fair ∙ ap (λ (ts : List Token). block_tokens b ++ ts) takes ∙ sym (append_assoc (block_tokens b) (up_to place) (token ∷ [])))
moves_stepped place b token Fails takes fair = tt

moves_brace : (token : Token) → Moves Before token (brace_step token)
moves_brace t.OpenBlock = (refl, refl)
moves_brace _ = tt

pub moves : (p : Progress) (token : Token) → IsFair p → Moves p token (progress_step p token)
moves Before token h = moves_brace token
moves (Within place b) token h = moves_stepped place b token (step place token) (takes_step place token) (fair_step b.choice place token h)
moves (Behind text) token h = tt

-- some program goes on from here
abbrev pub GoesOn : List Token → Type 0
GoesOn ts = (more : List Token) × (text : Text) × (program text ≡ ts ++ more)

goes_on_by : (xs ys : List Token) (more : List Token) → GoesOn (xs ++ more) → GoesOn xs
goes_on_by xs ys more (rest, text, is) = (more ++ rest, text, is ∙ append_assoc xs more rest)

goes_on_is : (xs ys : List Token) → xs ≡ ys → GoesOn xs → GoesOn ys
goes_on_is xs ys is = subst GoesOn is

-- an open block can be closed
finish_by : (opener : Opener) (before : Text) (fs : List Frame) (text : Text) → ((x : Text) → GoesOn (frame_tokens fs ++ spelled x)) → GoesOn ((frame_tokens fs ++ (spelled before ++ opener_tokens opener)) ++ spelled text)
finish_by (Yes test) before fs text on =
    let (more, x, is) = on (joined before (If test text Nothing)) in
    (t.CloseBlock ∷ more, x, is ∙ simp (spelled_joined, append_assoc))
finish_by (No test first) before fs text on =
    let (more, x, is) = on (joined before (IfElse test first text Nothing)) in
    (t.CloseBlock ∷ more, x, is ∙ simp (spelled_joined, append_assoc))
finish_by (Turn n) before fs text on =
    let (more, x, is) = on (joined before (Loop n text Nothing)) in
    (t.CloseBlock ∷ more, x, is ∙ simp (spelled_joined, append_assoc))

-- an open block can be closed
finish : (fs : List Frame) (text : Text) → GoesOn (frame_tokens fs ++ spelled text)
finish [] text = (t.CloseBlock ∷ [], text, refl)
finish (f ∷ fs) text = finish_by f.opener f.before fs text (finish fs)

-- each place leads to an item
abbrev ToItem : List Token → Option (Test × Text) → Type 0
ToItem ts choice = (more : List Token) × (item : Item) × (item_tokens item ≡ ts ++ more) × ElseFits item choice

-- by one token
lead : (choice : Option (Test × Text)) (ts us : List Token) (token : Token) → us ≡ ts ++ token ∷ [] → ToItem us choice → ToItem ts choice
lead choice ts us token is (more, item, spells, fits) = (token ∷ more, item, spells ∙ ap (λ xs. xs ++ more) is ∙ append_assoc ts (token ∷ []) more, fits)

module _ (choice : Option (Test × Text)) where
  abbrev Leads : Place → Type 0
  Leads place = ToItem (up_to place) choice

  -- by the token that leads from one place to the next
  by : (place q : Place) (token : Token) → step place token ≡ Goes q → Leads q → Leads place
  by place q token is on = lead choice (up_to place) (up_to q) token (subst (Takes (up_to place) token) is (takes_step place token)) on

  from_end : (plain : Plain) → Leads (End plain)
  from_end plain = (t.Semicolon ∷ [], i.Plain plain, simple_ended plain, tt)

  from_left : (to : ℕ) (left : Term) → Leads (BehindLeft to left)
  from_left to left = (t.Semicolon ∷ [], i.Plain (p.Move to left), simple_ended (p.Move to left), tt)

  from_read_close : (to : ℕ) (table : Option TableRef) (at : Term) → Leads (ReadClose to table at)
  from_read_close to table at = by (ReadClose to table at) (End (p.Read to table at)) t.CloseIndex refl (from_end (p.Read to table at))

  from_write_assign : (table : Option TableRef) (at : Term) → Leads (WriteAssign table at)
  from_write_assign table at =
      by (WriteAssign table at) (Wants (WriteFrom table at)) t.Assign refl
      (by (Wants (WriteFrom table at)) (End (p.Write table at (e.Number 0))) (t.Number 0) refl (from_end (p.Write table at (e.Number 0))))

  from_write_close : (table : Option TableRef) (at : Term) → Leads (WriteClose table at)
  from_write_close table at = by (WriteClose table at) (WriteAssign table at) t.CloseIndex refl (from_write_assign table at)

  from_open_if : (test : Test) → Leads (OpenIf test)
  from_open_if test = (t.OpenBlock ∷ [], i.If test, if_opened test, tt)

  from_compare : (left : Term) → Leads (Compare left)
  from_compare left =
      by (Compare left) (Wants (IfRight left c.Eq)) (t.Cmp c.Eq) refl
      (by (Wants (IfRight left c.Eq)) (OpenIf (record { left = left; cmp = c.Eq; right = e.Number 0 })) (t.Number 0) refl (from_open_if (record { left = left; cmp = c.Eq; right = e.Number 0 })))

  from_filled : (slot : Slot) (x : Term) → Leads (filled slot x)
  from_filled (Left to) x = from_left to x
  from_filled (Right to left op) x = from_end (p.Calc to left op x)
  from_filled (ReadAt to table) x = from_read_close to table x
  from_filled (WriteAt table) x = from_write_close table x
  from_filled (WriteFrom table at) x = from_end (p.Write table at x)
  from_filled IfLeft x = from_compare x
  from_filled (IfRight left cmp) x = from_open_if (record { left = left; cmp = cmp; right = x })
  from_filled Emit x = from_end (p.Emit x)
  from_filled Fail x = from_end (p.Fail x)

  from_wants : (slot : Slot) → Leads (Wants slot)
  from_wants slot = by (Wants slot) (filled slot (e.Number 0)) (t.Number 0) refl (from_filled slot (e.Number 0))

  from_signed : (slot : Slot) → Leads (Signed slot)
  from_signed slot = by (Signed slot) (filled slot (e.Minus 0)) (t.Number 0) refl (from_filled slot (e.Minus 0))

  to_item : (place : Place) → Sits place choice → Leads place
  to_item (Start v) h = (t.CloseBlock ∷ [], i.Close, refl, tt)
  to_item (To to) h = by (To to) (Value to) t.Assign refl (by (Value to) (BehindLeft to (e.Number 0)) (t.Number 0) refl (from_left to (e.Number 0)))
  to_item (Value to) h = by (Value to) (BehindLeft to (e.Number 0)) (t.Number 0) refl (from_left to (e.Number 0))
  to_item (ReadName to table) h = by (ReadName to table) (Wants (ReadAt to table)) t.OpenIndex refl (from_wants (ReadAt to table))
  to_item (WriteName table) h = by (WriteName table) (Wants (WriteAt table)) t.OpenIndex refl (from_wants (WriteAt table))
  to_item (Wants slot) h = from_wants slot
  to_item (Signed slot) h = from_signed slot
  to_item (BehindLeft to left) h = from_left to left
  to_item (ReadClose to table at) h = from_read_close to table at
  to_item (WriteClose table at) h = from_write_close table at
  to_item (WriteAssign table at) h = from_write_assign table at
  to_item (Compare left) h = from_compare left
  to_item (OpenIf test) h = from_open_if test
  to_item Count h = (t.Number 0 ∷ t.OpenBlock ∷ [], i.Loop 0, refl, tt)
  to_item (OpenLoop n) h = (t.OpenBlock ∷ [], i.Loop n, refl, tt)
  to_item OpenElse h = (t.OpenBlock ∷ [], i.Else, refl, h)
  to_item (End plain) h = from_end plain

turned_on : (choice : Option (Test × Text)) (b : Blocks) → GoesOn (so_far (turned choice b))
turned_on None b = goes_on_is _ _ (sym (append-nil (block_tokens b))) (finish b.frames (settled b))
turned_on (Some choice) b = goes_on_is _ _ (sym (append-nil (frame_tokens (record { before = b.current; opener = No choice.0 choice.1 } ∷ b.frames) ++ []))) (finish (record { before = b.current; opener = No choice.0 choice.1 } ∷ b.frames) Nothing)

begun_on : (b : Blocks) → GoesOn (so_far (begun b))
begun_on b = goes_on_is _ _ (sym (append-nil (block_tokens b))) (finish b.frames (settled b))

closed_by_on : (opener : Opener) (before : Text) (fs : List Frame) (text : Text) → GoesOn (so_far (closed_by opener before fs text))
closed_by_on (Yes test) before fs text = begun_on (record { current = before; choice = Some (test, text); frames = fs })
closed_by_on (No test first) before fs text = begun_on (record { current = joined before (IfElse test first text Nothing); choice = None; frames = fs })
closed_by_on (Turn n) before fs text = begun_on (record { current = joined before (Loop n text Nothing); choice = None; frames = fs })

closed_on : (fs : List Frame) (text : Text) → GoesOn (so_far (closed fs text))
closed_on [] text = ([], text, sym (append-nil (program text)))
closed_on (f ∷ fs) text = closed_by_on f.opener f.before fs text

grown_on : (item : Item) (b : Blocks) → GoesOn (so_far (grown item b))
grown_on (i.Plain plain) b = begun_on (record { current = joined (settled b) (Simple plain Nothing); choice = None; frames = b.frames })
grown_on (i.If test) b = begun_on (record { current = Nothing; choice = None; frames = record { before = settled b; opener = Yes test } ∷ b.frames })
grown_on i.Else b = turned_on b.choice b
grown_on (i.Loop n) b = begun_on (record { current = Nothing; choice = None; frames = record { before = settled b; opener = Turn n } ∷ b.frames })
grown_on i.Close b = closed_on b.frames (settled b)

-- from wherever one is, a program goes on
pub goes_on : (p : Progress) → IsFair p → GoesOn (so_far p)
goes_on Before h = (program Nothing, Nothing, refl)
goes_on (Within place b) h =
    let (more, item, spells, fits) = to_item b.choice place h in
    goes_on_by (so_far (Within place b)) [] more
    (goes_on_is _ _ (grown_tokens item b fits ∙ ap (λ ts. block_tokens b ++ ts) spells ∙ sym (append_assoc (block_tokens b) (up_to place) more)) (grown_on item b))
goes_on (Behind text) h = ([], text, sym (append-nil (program text)))
