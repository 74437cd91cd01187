-- A program's tokens are read to its end.
use Rattle.std.proofs.Common.{◌≡◌, ℕ, List, [], ◌∷◌, ◌++◌, Bool, None, Some, is_some, Result, Ok, refl, sym, ap, ◌∙◌, append_assoc}
use Rattle.txn_tokens.specs.declared.token.Token.{Token}
use Rattle.txn_tokens.specs.declared.token.Token.TheVariants as t
use Rattle.txn_syntax.specs.declared.place.Term.{Term}
use Rattle.txn_syntax.specs.declared.place.Term.TheVariants as e
use Rattle.txn_syntax.specs.declared.place.Plain.{Plain}
use Rattle.txn_syntax.specs.declared.place.Plain.TheVariants as p
use Rattle.txn_syntax.specs.declared.place.Test.{Test}
use Rattle.txn_syntax.specs.declared.place.Item.TheVariants as i
use Rattle.txn_syntax.specs.Grammar.{Text, Nothing, Simple, If, IfElse, Loop, operand, simple, opened_if, opened_loop, spelled, program}
use Rattle.txn_syntax.specs.Places.{Slot, Left, Right, ReadAt, WriteAt, WriteFrom, IfLeft, IfRight, Emit, Fail, Start, Value, Wants, filled}
use Rattle.txn_syntax.specs.Reading.{joined, Yes, No, Turn, Frame, Blocks, settled, Progress, Before, Within, Behind, begun, closed, grown, reading}
use Rattle.txn_syntax.proofs.SoFar.{joined_nothing, joined_assoc}

abbrev pub read : Progress → List Token → Result Progress (List Token)
read = reading (λ (x : Token). x)

read_operand : (slot : Slot) (x : Term) (b : Blocks) (ts : List Token) → read (Within (Wants slot) b) (operand x ++ ts) ≡ read (Within (filled slot x) b) ts
read_operand slot (e.Register r) b ts = refl
read_operand slot (e.Number n) b ts = refl
read_operand slot (e.Minus n) b ts = refl

read_value : (to : ℕ) (x : Term) (b : Blocks) (ts : List Token) → read (Within (Value to) b) (operand x ++ ts) ≡ read (Within (filled (Left to) x) b) ts
read_value to (e.Register r) b ts = refl
read_value to (e.Number n) b ts = refl
read_value to (e.Minus n) b ts = refl

three : (a b c d : List Token) → ((a ++ b) ++ c) ++ d ≡ a ++ (b ++ (c ++ d))
three a b c d = simp append_assoc

read_simple : (plain : Plain) (v : Bool) (b : Blocks) (ts : List Token) → read (Within (Start v) b) (simple plain ++ ts) ≡ read (grown (i.Plain plain) b) ts
unfolding simple
read_simple (p.Calc to left op right) v b ts =
    ap (read (Within (Value to) b)) (three (operand left) (t.Op op ∷ operand right) (t.Semicolon ∷ []) ts)
    ∙ read_value to left b (t.Op op ∷ (operand right ++ t.Semicolon ∷ ts))
    ∙ read_operand (Right to left op) right b (t.Semicolon ∷ ts)
read_simple (p.Move to from) v b ts = ap (read (Within (Value to) b)) (append_assoc (operand from) (t.Semicolon ∷ []) ts) ∙ read_value to from b (t.Semicolon ∷ ts)
read_simple (p.Read to table at) v b ts = ap (read (Within (Wants (ReadAt to table)) b)) (append_assoc (operand at) (t.CloseIndex ∷ t.Semicolon ∷ []) ts) ∙ read_operand (ReadAt to table) at b (t.CloseIndex ∷ t.Semicolon ∷ ts)
read_simple (p.Write table at from) v b ts =
    ap (read (Within (Wants (WriteAt table)) b)) (three (operand at) (t.CloseIndex ∷ t.Assign ∷ operand from) (t.Semicolon ∷ []) ts)
    ∙ read_operand (WriteAt table) at b (t.CloseIndex ∷ t.Assign ∷ (operand from ++ t.Semicolon ∷ ts))
    ∙ read_operand (WriteFrom table at) from b (t.Semicolon ∷ ts)
read_simple (p.Emit from) v b ts = ap (read (Within (Wants Emit) b)) (append_assoc (operand from) (t.Semicolon ∷ []) ts) ∙ read_operand Emit from b (t.Semicolon ∷ ts)
read_simple (p.Fail code) v b ts = ap (read (Within (Wants Fail) b)) (append_assoc (operand code) (t.Semicolon ∷ []) ts) ∙ read_operand Fail code b (t.Semicolon ∷ ts)

read_if : (test : Test) (v : Bool) (b : Blocks) (ts : List Token) → read (Within (Start v) b) (opened_if test ++ ts) ≡ read (grown (i.If test) b) ts
unfolding opened_if
read_if test v b ts =
    ap (read (Within (Wants IfLeft) b)) (three (operand test.left) (t.Cmp test.cmp ∷ operand test.right) (t.OpenBlock ∷ []) ts)
    ∙ read_operand IfLeft test.left b (t.Cmp test.cmp ∷ (operand test.right ++ t.OpenBlock ∷ ts))
    ∙ read_operand (IfRight test.left test.cmp) test.right b (t.OpenBlock ∷ ts)

abbrev plain_blocks : Text → List Frame → Blocks
plain_blocks current frames = record { current = current; choice = None; frames = frames }

abbrev behind_if : Test → Text → Text → List Frame → Blocks
behind_if test first before frames = record { current = before; choice = Some (test, first); frames = frames }

regroup : (a b c d : List Token) → (a ++ (b ++ c)) ++ d ≡ a ++ (b ++ (c ++ d))
regroup a b c d = simp append_assoc

-- the rest of a block is read, and its end
pub read_block : (x : Text) (b : Blocks) (ts : List Token) → read (begun b) (spelled x ++ t.CloseBlock ∷ ts) ≡ read (closed b.frames (joined (settled b) x)) ts
read_block Nothing b ts = ap (λ y. read (closed b.frames y) ts) (sym (joined_nothing (settled b)))
read_block (Simple plain rest) b ts =
    ap (read (begun b)) (append_assoc (simple plain) (spelled rest) (t.CloseBlock ∷ ts))
    ∙ read_simple plain (is_some b.choice) b (spelled rest ++ t.CloseBlock ∷ ts)
    ∙ read_block rest (plain_blocks (joined (settled b) (Simple plain Nothing)) b.frames) ts
    ∙ ap (λ y. read (closed b.frames y) ts) (joined_assoc (settled b) (Simple plain Nothing) rest)
read_block (If test first rest) b ts =
    ap (read (begun b)) (regroup (opened_if test) (spelled first) (t.CloseBlock ∷ spelled rest) (t.CloseBlock ∷ ts))
    ∙ read_if test (is_some b.choice) b (spelled first ++ (t.CloseBlock ∷ (spelled rest ++ t.CloseBlock ∷ ts)))
    ∙ read_block first (plain_blocks Nothing (record { before = settled b; opener = Yes test } ∷ b.frames)) (spelled rest ++ t.CloseBlock ∷ ts)
    ∙ read_block rest (behind_if test first (settled b) b.frames) ts
    ∙ ap (λ y. read (closed b.frames y) ts) (joined_assoc (settled b) (If test first Nothing) rest)
read_block (IfElse test first second rest) b ts =
    let last : List Token = t.CloseBlock ∷ (spelled rest ++ t.CloseBlock ∷ ts) in
    ap (read (begun b)) (regroup (opened_if test) (spelled first) (t.CloseBlock ∷ t.Else ∷ t.OpenBlock ∷ (spelled second ++ t.CloseBlock ∷ spelled rest)) (t.CloseBlock ∷ ts) ∙ ap (λ xs. opened_if test ++ (spelled first ++ t.CloseBlock ∷ t.Else ∷ t.OpenBlock ∷ xs)) (append_assoc (spelled second) (t.CloseBlock ∷ spelled rest) (t.CloseBlock ∷ ts)))
    ∙ read_if test (is_some b.choice) b (spelled first ++ t.CloseBlock ∷ t.Else ∷ t.OpenBlock ∷ (spelled second ++ last))
    ∙ read_block first (plain_blocks Nothing (record { before = settled b; opener = Yes test } ∷ b.frames)) (t.Else ∷ t.OpenBlock ∷ (spelled second ++ last))
    ∙ read_block second (plain_blocks Nothing (record { before = settled b; opener = No test first } ∷ b.frames)) (spelled rest ++ t.CloseBlock ∷ ts)
    ∙ read_block rest (plain_blocks (joined (settled b) (IfElse test first second Nothing)) b.frames) ts
    ∙ ap (λ y. read (closed b.frames y) ts) (joined_assoc (settled b) (IfElse test first second Nothing) rest)
read_block (Loop n body rest) b ts =
    ap (read (begun b)) (regroup (opened_loop n) (spelled body) (t.CloseBlock ∷ spelled rest) (t.CloseBlock ∷ ts))
    ∙ read_block body (plain_blocks Nothing (record { before = settled b; opener = Turn n } ∷ b.frames)) (spelled rest ++ t.CloseBlock ∷ ts)
    ∙ read_block rest (plain_blocks (joined (settled b) (Loop n body Nothing)) b.frames) ts
    ∙ ap (λ y. read (closed b.frames y) ts) (joined_assoc (settled b) (Loop n body Nothing) rest)

-- a program's tokens are read to its end
pub read_program : (x : Text) → read Before (program x) ≡ Ok (Behind x)
read_program x = read_block x (plain_blocks Nothing []) []
