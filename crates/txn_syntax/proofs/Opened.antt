-- A machine that opens a block.
use Rattle.std.proofs.Common.{◌≡◌, ℕ, suc, length, [], ◌∷◌, ◌++◌, Option, None, Some, Result, Ok, Err, OnOk, refl, sym, subst, ◌∙◌}
use Rattle.txn_syntax.specs.declared.place.Test.{Test}
use Rattle.txn_syntax.specs.declared.body.Body.{Body}
use Rattle.txn_syntax.specs.declared.machine.Opening.{Opening}
use Rattle.txn_syntax.specs.declared.machine.Opening.TheVariants as o
use Rattle.txn_syntax.specs.declared.machine.Machine.{Machine}
use Rattle.txn_syntax.specs.Grammar.{Text, Nothing}
use Rattle.txn_syntax.specs.Reading.{Opener, No, Blocks, opened, turned}
use Rattle.txn_syntax.specs.Measures.{none}
use Rattle.txn_syntax.specs.Machines.{IsOpening, IsChoice, HasBlocks, IsMachine}
use Rattle.txn_syntax.proofs.Grown.{new_body}

pub no_other : (level : ℕ) (choice : Option (Test × Body)) (text : Option (Test × Text)) → text ≡ None → IsChoice level choice text → choice ≡ None
no_other level None text is h = refl
no_other level (Some a) None is h = absurd h
no_other level (Some a) (Some b) is h = cc

-- the machine n has one block more open than m, with nothing in it
pub opens_block : (m n : Machine) (opening : Opening) (opener : Opener) (b : Blocks) → n.choice ≡ m.choice → n.current.measure ≡ none → n.current.stmts.items ≡ [] → n.opens.items ≡ m.opens.items ++ record { before = m.current; opening = opening } ∷ [] → HasBlocks m b → b.choice ≡ None → IsOpening (length b.frames) opening opener → HasBlocks n (record { current = Nothing; choice = None; frames = record { before = b.current; opener = opener } ∷ b.frames })
opens_block m n opening opener b choice measure stmts opens h no_choice is =
    record {
      current = new_body (suc (length b.frames)) n.current measure stmts;
      choice = subst (λ v. IsChoice (suc (length b.frames)) v None) (sym (choice ∙ no_other (length b.frames) m.choice b.choice no_choice h.choice)) tt;
      opens = (m.opens.items, record { before = m.current; opening = opening }, opens, record { before = h.current; opening = is }, h.opens);
    }

pub on_map : {A E : Type 0} {P Q : Type 0} (r : Result A E) → (P → Q) → OnOk r P → OnOk r Q
on_map (Ok x) f h = f h
on_map (Err e) f h = h

-- an `else` behind the first block of an `if`
pub turned_opens : (n last : Machine) (test : Test) (first : Body) (b : Blocks) (choice : Option (Test × Text)) → IsChoice (length b.frames) (Some (test, first)) choice → ((c : Blocks) (opener : Opener) → HasBlocks n c → c.choice ≡ None → IsOpening (length c.frames) (o.No test first) opener → IsMachine last (opened c.current opener c.frames)) → HasBlocks n (record { current = b.current; choice = None; frames = b.frames }) → IsMachine last (turned choice b)
turned_opens n last test first b None is on h = absurd is
turned_opens n last test first b (Some (other, x)) is on h = on (record { current = b.current; choice = None; frames = b.frames }) (No other x) h refl is
