use Rattle.std.proofs.Common.{◌≡◌, ◌-◌, ◌++◌, ◌∷◌, [], false, get_or, sym, ◌∙◌, ap, subst, true≢false, arith}
use Rattle.std.proofs.lemmas.List.{get_or_read, append_cancel_right}
use Rattle.txn_runs.specs.Serial.{outcome_of, effect_of, over}
use Rattle.journal_core.specs.Reply.{commit_line}
use Rattle.report_text.specs.Rows.{commit_row}
use Rattle.report_check.specs.Kept.{held}
use Rattle.report_check.proofs.Flags.{room-for-one}
use Rattle.report_check.proofs.Takes.{next-number, held-same}
use Rattle.report_check.proofs.check.Check.take_commit.Goals as goal
use Rattle.report_check.proofs.check.Check.take_commit.Goals.{then-txn-eq0-via-then-txn-eq0, then-txn-eq0-via-else-txn-eq0+then-txn-programs}

pub returns-then-txn-eq0-clause-commits : goal.returns-then-txn-eq0-clause-commits
returns-then-txn-eq0-clause-commits g c = λ t next.
    let same = next-number c.args.programs.now (held c.args.self.now) c.args.line.now t c.args.txn c.requires.few c.requires.number next in
    let some = next.some in
    let most = next.most in
    elim c.then-txn-eq0.branch [
      | then-txn-eq0-via-then-txn-eq0 w ↦ (let is = w.if-txn-eq0.true in absurd (omega (arith, same, some, is)))
      | then-txn-eq0-via-else-txn-eq0+then-txn-programs w ↦ (let is = w.if-txn-programs.true in absurd (omega (arith, same, most, is)))
    ]

pub returns-then-index-clause-commits : goal.returns-then-index-clause-commits
returns-then-index-clause-commits g c = λ t next.
    let same = next-number c.args.programs.now (held c.args.self.now) c.args.line.now t c.args.txn c.requires.few c.requires.number next in
    let some = c.if-txn-eq0.false in
    let most = c.if-txn-programs.false in
    let many = c.requires.many in
    let read = get_or_read c.args.self.now.taken.items (c.args.txn - 1) c.index.result.now (omega (arith, some, most, many)) c.index.ensures false in
    let free : get_or c.args.self.now.taken.items (c.args.txn - 1) false ≡ false = subst (λ u. get_or c.args.self.now.taken.items (u - 1) false ≡ false) same next.free in
    absurd (true≢false (sym c.if-index.true ∙ read ∙ free))

pub returns-then-not-is_line-clause-commits : goal.returns-then-not-is_line-clause-commits
returns-then-not-is_line-clause-commits g c = λ t next.
    let same = next-number c.args.programs.now (held c.args.self.now) c.args.line.now t c.args.txn c.requires.few c.requires.number next in
    let some = c.if-txn-eq0.false in
    let most = c.if-txn-programs.false in
    let n = c.args.txn in
    let table = c.args.self.now.table in
    let program = get_or_read c.args.programs.now (n - 1) c.index-programs-place.result (omega (arith, some, most)) c.index-programs-place.is [] in
    let text : c.deref.result.now ≡ commit_line n c.in_ok-outcome.outcome = c.deref.ensures.value ∙ c.in_ok-put_reply.ensures.ok ∙ ap (λ xs. xs ++ commit_line n c.in_ok-outcome.outcome) c.clear.ensures.items in
    let outcome : c.in_ok-outcome.outcome ≡ outcome_of (get_or c.args.programs.now (n - 1) []) table = c.in_ok-outcome.ensures.outcome ∙ ap (λ p. outcome_of p table) program in
    let row : c.args.line.now ≡ commit_row n (outcome_of (get_or c.args.programs.now (n - 1) []) table) = subst (λ u. c.args.line.now ≡ commit_row u (outcome_of (get_or c.args.programs.now (u - 1) []) table)) same next.row in
    let is = c.is_line.ensures.1 (text ∙ ap (λ o. commit_row n o ++ 10 ∷ []) (outcome) ∙ ap (λ l. l ++ 10 ∷ []) (sym row)) in
    absurd (true≢false (sym is ∙ c.if-not-is_line.true))

pub overflow_add-self : goal.overflow_add-self
overflow_add-self g c =
    let some = c.if-txn-eq0.false in
    let most = c.if-txn-programs.false in
    let many = c.requires.many in
    let few = c.requires.few in
    let counted = c.requires.counted in
    let read = get_or_read c.args.self.now.taken.items (c.args.txn - 1) c.index.result.now (omega (arith, some, most, many)) c.index.ensures false in
    let room = room-for-one c.args.self.now.taken.items (c.args.txn - 1) (omega (arith, some, most, many)) (sym read ∙ c.if-index.false) in
    omega (arith, room, counted, many, few)

pub returns-clause-commits : goal.returns-clause-commits
returns-clause-commits g c =
    let some = c.if-txn-eq0.false in
    let most = c.if-txn-programs.false in
    let many = c.requires.many in
    let n = c.args.txn in
    let h = c.args.self.now in
    let read = get_or_read h.taken.items (n - 1) c.index.result.now (omega (arith, some, most, many)) c.index.ensures false in
    let program = get_or_read c.args.programs.now (n - 1) c.index-programs-place.result (omega (arith, some, most)) c.index-programs-place.is [] in
    let text : c.deref.result.now ≡ commit_line n c.in_ok-outcome.outcome = c.deref.ensures.value ∙ c.in_ok-put_reply.ensures.ok ∙ ap (λ xs. xs ++ commit_line n c.in_ok-outcome.outcome) c.clear.ensures.items in
    let outcome : c.in_ok-outcome.outcome ≡ outcome_of (get_or c.args.programs.now (n - 1) []) h.table = c.in_ok-outcome.ensures.outcome ∙ ap (λ p. outcome_of p h.table) program in
    let line : c.args.line.now ++ 10 ∷ [] ≡ commit_row n (outcome_of (get_or c.args.programs.now (n - 1) []) h.table) ++ 10 ∷ [] = sym (c.is_line.ensures.0 c.if-not-is_line.false) ∙ text ∙ ap (λ o. commit_row n o ++ 10 ∷ []) outcome in
    let table = c.lay_over.ensures ∙ ap (λ e. over e h.table) (c.in_ok-outcome.ensures.effect ∙ ap (λ p. effect_of p h.table) program) in (
      n,
      record {
        some = omega (arith, some);
        most = omega (arith, most);
        free = sym read ∙ c.if-index.false;
        row = append_cancel_right c.args.line.now _ (10 ∷ []) line;
      },
      held-same _ _ _ _ _ _ _ table c.in_ok-outcome.ensures.items,
    )
