use Rattle.std.proofs.Common.{sym, subst}
use Rattle.scc_text.specs.declared.next.Rest.TheVariants as rest
use Rattle.scc_audit.proofs.Behind.{IsBehind, behind-read, behind-over, judged-rest, judged-rows, judged-unread, rows-same}
use Rattle.scc_audit.proofs.judging.judge_journal.Goals as goal
use Rattle.scc_audit.proofs.judging.judge_journal.Goals.{then-goes_on+in-End, else-goes_on}

pub returns-in-ReadFault-clause-judged : goal.returns-in-ReadFault-clause-judged
returns-in-ReadFault-clause-judged g c = λ left before h.
    let e = c.in-ReadFault.ensures in
    judged-rest rest.ReadFault _ _ _ _ _ _ _ e.rests.0 _ _ e.limit e.room h e.rests.1

pub returns-in-InputLimit-clause-judged : goal.returns-in-InputLimit-clause-judged
returns-in-InputLimit-clause-judged g c = λ left before h.
    let e = c.in-InputLimit.ensures in
    judged-rest rest.InputLimit _ _ _ _ _ _ _ e.rests.0 _ _ e.limit e.room h e.rests.1

pub returns-in-OutOfMemory-clause-judged : goal.returns-in-OutOfMemory-clause-judged
returns-in-OutOfMemory-clause-judged g c = λ left before h.
    let e = c.in-OutOfMemory.ensures in
    judged-rest rest.OutOfMemory _ _ _ _ _ _ _ e.rests.0 _ _ e.limit e.room h e.rests.1

pub returns-in-Ok-clause-judged : goal.returns-in-Ok-clause-judged
returns-in-Ok-clause-judged g c = λ left before h.
    let parts = c.into_parts-names.ensures in
    let behind : IsBehind c.args.input left (g.S.Source.left c.if-goes_on.source) c.if-goes_on.bytes.items =
    elim c.if-goes_on.branch [
      | then-goes_on+in-End w ↦
          let e = w.in-End.ensures in
          subst (λ b. IsBehind c.args.input left (g.S.Source.left c.if-goes_on.source) b.items) (sym w.bytes-is)
          (subst (λ s. IsBehind c.args.input left (g.S.Source.left s) w.rest.new.out.items) (sym w.source-is)
          (behind-read _ _ _ _ _ _ _ before e.rests.0 _ _ w.if-goes_on.true c.new-bytes.ensures.items e.room e.limit h e.rests.1))
      | else-goes_on w ↦
          subst (λ b. IsBehind c.args.input left (g.S.Source.left c.if-goes_on.source) b.items) (sym w.bytes-is)
          (subst (λ s. IsBehind c.args.input left (g.S.Source.left s) c.new-bytes.result.items) (sym w.source-is)
          (behind-over _ _ _ _ _ before _ w.if-goes_on.false c.new-bytes.ensures.items c.requires.room h))
    ]
    in
    judged-rows _ _ _ _ c.in-Ok.verdict behind (rows-same _ _ _ _ _ _ c.in-Ok.verdict parts.names parts.values c.deref.ensures.value c.in-Ok.ensures.verdict)

pub returns-clause-judged : goal.returns-clause-judged
returns-clause-judged g c = λ left before h.
    let behind : IsBehind c.args.input left (g.S.Source.left c.if-goes_on.source) c.if-goes_on.bytes.items =
    elim c.if-goes_on.branch [
      | then-goes_on+in-End w ↦
          let e = w.in-End.ensures in
          subst (λ b. IsBehind c.args.input left (g.S.Source.left c.if-goes_on.source) b.items) (sym w.bytes-is)
          (subst (λ s. IsBehind c.args.input left (g.S.Source.left s) w.rest.new.out.items) (sym w.source-is)
          (behind-read _ _ _ _ _ _ _ before e.rests.0 _ _ w.if-goes_on.true c.new-bytes.ensures.items e.room e.limit h e.rests.1))
      | else-goes_on w ↦
          subst (λ b. IsBehind c.args.input left (g.S.Source.left c.if-goes_on.source) b.items) (sym w.bytes-is)
          (subst (λ s. IsBehind c.args.input left (g.S.Source.left s) c.new-bytes.result.items) (sym w.source-is)
          (behind-over _ _ _ _ _ before _ w.if-goes_on.false c.new-bytes.ensures.items c.requires.room h))
    ]
    in
    judged-unread _ _ _ _ behind
