use Rattle.std.proofs.Common.{None, refl, sym, subst, length, ◌∙◌}
use Rattle.txn_syntax.specs.Grammar.{Nothing, Simple}
use Rattle.txn_syntax.specs.Reading.{joined, Yes, Turn, settled, grown}
use Rattle.txn_syntax.specs.Machines.{IsChoice, IsMachine}
use Rattle.txn_syntax.proofs.Grown.{opens_length, plain_added}
use Rattle.txn_syntax.specs.Measures.{of_plain}
use Rattle.txn_syntax.specs.Meaning.{statement_of}
use Rattle.txn_syntax.specs.Bodies.{Adds}
use Rattle.txn_syntax.proofs.Opened.{on_map, turned_opens}
use Rattle.txn_syntax.proofs.machine.Machine.grow.Goals as goal

pub returns-in_ok-push_plain-in-Plain :
    goal.returns-in_ok-push_plain-in-Plain
returns-in_ok-push_plain-in-Plain c =
    λ b h.
    let s = c.in_ok-settle-in-Plain.ensures b h in
    subst (λ v. IsMachine c.begin.new.self (grown v b)) (sym c.in-Plain.is)
    (c.begin.ensures (record { current = joined (settled b) (Simple c.in-Plain.plain Nothing); choice = None; frames = b.frames })
    (record { current = plain_added (length b.frames) c.settle.new.self.current c.push_plain.new.self c.in-Plain.plain (settled b) (subst (λ k. Adds k c.settle.new.self.current c.push_plain.new.self (of_plain c.in-Plain.plain) (statement_of c.in-Plain.plain)) (c.len-level.ensures ∙ c.settle.new.self.opens.ok.0 ∙ opens_length c.settle.new.self.opens.items b.frames s.opens) c.in_ok-push_plain-in-Plain.ensures) s.current; choice = s.choice; opens = s.opens }))

pub returns-in_ok-settle-in-If : goal.returns-in_ok-settle-in-If
returns-in_ok-settle-in-If c =
    on_map c.open.result
    (λ on b h. subst (λ v. IsMachine c.open.new.self (grown v b)) (sym c.in-If.is)
    (on (record { current = settled b; choice = None; frames = b.frames }) (Yes c.in-If.test) (c.in_ok-settle-in-If.ensures b h) refl refl))
    c.open.ensures

pub returns-in-Some : goal.returns-in-Some
returns-in-Some c =
    on_map c.open-in-Some.result
    (λ on b h. subst (λ v. IsMachine c.open-in-Some.new.self (grown v b)) (sym c.in-Else.is)
    (turned_opens _ c.open-in-Some.new.self c.in-Some.test c.in-Some.first b b.choice
    (subst (λ v. IsChoice (length b.frames) v b.choice) (sym c.in-Some.ensures.value) h.choice)
    on
    (record { current = h.current; choice = subst (λ v. IsChoice (length b.frames) v None) (sym c.take.ensures.after) tt; opens = h.opens })))
    c.open-in-Some.ensures

pub returns-in_ok-settle-in-Loop : goal.returns-in_ok-settle-in-Loop
returns-in_ok-settle-in-Loop c =
    on_map c.open-in-Loop.result
    (λ on b h. subst (λ v. IsMachine c.open-in-Loop.new.self (grown v b)) (sym c.in-Loop.is)
    (on (record { current = settled b; choice = None; frames = b.frames }) (Turn c.in-Loop.count) (c.in_ok-settle-in-Loop.ensures b h) refl refl))
    c.open-in-Loop.ensures

pub returns-in_ok-settle-in-Close : goal.returns-in_ok-settle-in-Close
returns-in_ok-settle-in-Close c =
    on_map c.close.result
    (λ on b h. subst (λ v. IsMachine c.close.new.self (grown v b)) (sym c.in-Close.is)
    (on (record { current = settled b; choice = None; frames = b.frames }) (c.in_ok-settle-in-Close.ensures b h) refl))
    c.close.ensures
