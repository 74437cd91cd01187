use Rattle.std.proofs.Common.{◌≡◌, suc, length, None, sym, ap, ◌∙◌, subst}
use Rattle.txn_syntax.specs.Reading.{closed}
use Rattle.txn_syntax.specs.Meaning.{choice_of, turns_of}
use Rattle.txn_syntax.specs.Measures.{of_choice, of_turns}
use Rattle.txn_syntax.specs.Bodies.{IsBody, Adds}
use Rattle.txn_syntax.specs.Machines.{IsOpening, AreOpen, IsMachine}
use Rattle.txn_syntax.proofs.Grown.{last_open, closed_yes, closed_no, closed_turns}
use Rattle.txn_syntax.proofs.Opened.{no_other}
use Rattle.txn_syntax.proofs.machine.Machine.close.Goals as goal
use Rattle.txn_syntax.proofs.machine.Machine.close.Goals.{in-Yes+in-Some-1, in-Yes+in-None-1, in-No+in_ok-push_choice-in-No, in-Turns+in_ok-push_turns-in-Turns}

pub returns : goal.returns
returns c =
    λ b h none.
    let (f, fs, is, inner, opens) = last_open c.args.self.now.opens.items c.pop.new.self.items c.in-Some.field-0 b.frames c.in-Some.ensures.items h.opens in
    let begins = c.begin.ensures in
    let n = c.match-opening.self in
    let last = c.begin.new.self in
    let before : IsBody (length fs) c.replace-body.new.dest f.before = subst (λ v. IsBody (length fs) v f.before) (sym c.replace-body.ensures.after) inner.before in
    let body : IsBody (suc (length fs)) c.replace-body.result b.current = subst (λ v. IsBody (suc (length fs)) v b.current) (sym c.replace-body.ensures.value) (subst (λ v. IsBody (length v) c.args.self.now.current b.current) is h.current) in
    let waits : c.args.self.now.choice ≡ None = no_other (length b.frames) c.args.self.now.choice b.choice none h.choice in
    let opening = inner.opening in
    subst (λ v. IsMachine c.begin.new.self (closed v b.current)) (sym is)
    (elim c.match-opening.branch [
      | in-Yes+in-Some-1 w ↦ closed_yes n last begins w.in-Yes.test c.replace-body.result f.opener f.before b.current fs (ap (λ m. m.choice) w.self-is) (subst (λ v. IsOpening (length fs) v f.opener) w.in-Yes.is opening) (subst (λ m. IsBody (length fs) m.current f.before) (sym w.self-is) before) body (subst (λ m. AreOpen m.opens.items fs) (sym w.self-is) opens)
      | in-Yes+in-None-1 w ↦ closed_yes n last begins w.in-Yes.test c.replace-body.result f.opener f.before b.current fs (ap (λ m. m.choice) w.self-is) (subst (λ v. IsOpening (length fs) v f.opener) w.in-Yes.is opening) (subst (λ m. IsBody (length fs) m.current f.before) (sym w.self-is) before) body (subst (λ m. AreOpen m.opens.items fs) (sym w.self-is) opens)
      | in-No+in_ok-push_choice-in-No w ↦ closed_no n last begins c.len-level.result w.in-No.test c.replace-body.new.dest w.in-No.first c.replace-body.result f.opener f.before b.current fs (c.len-level.ensures ∙ c.pop.new.self.ok.0 ∙ ap (λ m. length m.opens.items) (sym w.self-is)) (ap (λ m. m.choice) w.self-is ∙ waits) (subst (λ v. IsOpening (length fs) v f.opener) w.in-No.is opening) (subst (λ m. Adds c.len-level.result c.replace-body.new.dest m.current (of_choice w.in-No.test w.in-No.first.measure c.replace-body.result.measure) (choice_of w.in-No.test w.in-No.first.stmts.items c.replace-body.result.stmts.items)) (sym w.self-is) w.in_ok-push_choice-in-No.ensures) before body (subst (λ m. AreOpen m.opens.items fs) (sym w.self-is) opens)
      | in-Turns+in_ok-push_turns-in-Turns w ↦ closed_turns n last begins c.len-level.result w.in-Turns.count c.replace-body.new.dest c.replace-body.result f.opener f.before b.current fs (c.len-level.ensures ∙ c.pop.new.self.ok.0 ∙ ap (λ m. length m.opens.items) (sym w.self-is)) (ap (λ m. m.choice) w.self-is ∙ waits) (subst (λ v. IsOpening (length fs) v f.opener) w.in-Turns.is opening) (subst (λ m. Adds c.len-level.result c.replace-body.new.dest m.current (of_turns w.in-Turns.count c.replace-body.result.measure) (turns_of w.in-Turns.count c.replace-body.result.stmts.items)) (sym w.self-is) w.in_ok-push_turns-in-Turns.ensures) before body (subst (λ m. AreOpen m.opens.items fs) (sym w.self-is) opens)
    ])
