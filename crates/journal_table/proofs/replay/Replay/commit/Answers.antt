use Rattle.std.proofs.Common.{◌≡◌, ◌∙◌, ◌++◌, ◌∷◌, ◌≤◌, [], sym, refl, ap, subst, arith}
use Rattle.std.specs.Prelude.{decimal}
use Rattle.txn_runs.specs.Bounds.{reach}
use Rattle.txn_runs.specs.Serial.{outcome_of}
use Rattle.journal_core.specs.declared.entry.Entry.TheVariants.{Committed}
use Rattle.journal_core.specs.Journal.{Continues, program_of, tables_after}
use Rattle.journal_core.specs.Reply.{outcome_words}
use Rattle.journal_table.proofs.Keeping.{kept-commit, begun-here}
use Rattle.journal_table.proofs.Only.{only-committed}
use Rattle.journal_table.proofs.replay.Replay.commit.Goals as goal

pub overflow_sub-txn : goal.overflow_sub-txn
overflow_sub-txn g c =
    let i = c.self.inside in
    (begun-here i.journal.opening i.journal.entries i.begins.items i.table i.runner.items c.in-Some.txn c.self.invariant c.in-Some.ensures.1).some

pub index-requires : goal.index-requires
index-requires g c =
    let i = c.self.inside in
    let within = (begun-here i.journal.opening i.journal.entries i.begins.items i.table i.runner.items c.in-Some.txn c.self.invariant c.in-Some.ensures.1).within in
    let long = i.begins.ok.0 in
    omega (arith, within, long)

pub begun_at-program-requires : goal.begun_at-program-requires
begun_at-program-requires g c =
    let i = c.self.inside in
    let b = begun-here i.journal.opening i.journal.entries i.begins.items i.table i.runner.items c.in-Some.txn c.self.invariant c.in-Some.ensures.1 in
    (i.runner.items, c.in-Some.txn, b.at c.index.result.now c.index.ensures)

pub run-requires-clause-fits : goal.run-requires-clause-fits
run-requires-clause-fits g c =
    let i = c.self.inside in
    let b = begun-here i.journal.opening i.journal.entries i.begins.items i.table i.runner.items c.in-Some.txn c.self.invariant c.in-Some.ensures.1 in
    let here = b.at c.index.result.now c.index.ensures in
    let is = c.begun_at-program.ensures i.runner.items c.in-Some.txn here in
    let fits : reach c.begun_at-program.result.now ≤ i.runner.items = subst (λ p. reach p ≤ i.runner.items) (sym (is ∙ here.is)) here.fits in
    let sized = c.self.invariant.sized in
    omega (arith, fits, sized)

pub returns-then-not-is_same-clause-takes : goal.returns-then-not-is_same-clause-takes
returns-then-not-is_same-clause-takes g c = λ names. rw (← c.self.view_is) (
  λ entry spells continues.
      let i = c.self.inside in
      let b = begun-here i.journal.opening i.journal.entries i.begins.items i.table i.runner.items c.in-Some.txn c.self.invariant c.in-Some.ensures.1 in
      let here = b.at c.index.result.now c.index.ensures in
      let program = c.begun_at-program.ensures i.runner.items c.in-Some.txn here in
      let says = only-committed names entry (decimal c.args.txn) c.args.words.now spells in
      let follows : Continues i.journal.opening i.journal.entries (Committed says.txn says.outcome) = subst (Continues i.journal.opening i.journal.entries) says.is continues in
      let t : says.txn ≡ c.in-Some.txn = c.in-Some.ensures.2 says.txn says.number follows.0 in
      let run = c.in_ok-outcome.ensures.outcome ∙ ap (λ p. outcome_of p i.table) program ∙ ap (outcome_of (program_of i.journal.entries c.in-Some.txn)) c.self.invariant.serial in
      let told : says.outcome ≡ c.in_ok-outcome.outcome = follows.1 ∙ ap (λ u. outcome_of (program_of i.journal.entries u) (tables_after i.journal.opening i.journal.entries)) t ∙ sym run in
      let words : c.in_ok-expected.expected.items ≡ c.args.words.now = c.in_ok-expected.ensures ∙ ap outcome_words (sym told) ∙ says.words in
      let yes = c.is_same.ensures.1 (c.deref.ensures.value ∙ words) in
      let no = c.if-not-is_same.true in
      cc,
  refl,
)

pub push_reserved-requires-clause-continues : goal.push_reserved-requires-clause-continues
push_reserved-requires-clause-continues g c =
    let i = c.self.inside in
    let b = begun-here i.journal.opening i.journal.entries i.begins.items i.table i.runner.items c.in-Some.txn c.self.invariant c.in-Some.ensures.1 in
    let here = b.at c.index.result.now c.index.ensures in
    let program = c.begun_at-program.ensures i.runner.items c.in-Some.txn here in
    rw (c.reserve.ensures.opening, c.reserve.ensures.entries) (c.in-Some.ensures.1, c.in_ok-outcome.ensures.outcome ∙ ap (λ p. outcome_of p i.table) program ∙ ap (outcome_of (program_of i.journal.entries c.in-Some.txn)) c.self.invariant.serial)

pub invariant_of-self-2 : goal.invariant_of-self-2
invariant_of-self-2 g c =
    let i = c.self.inside in
    let b = begun-here i.journal.opening i.journal.entries i.begins.items i.table i.runner.items c.in-Some.txn c.self.invariant c.in-Some.ensures.1 in
    let here = b.at c.index.result.now c.index.ensures in
    let program = c.begun_at-program.ensures i.runner.items c.in-Some.txn here in
    let outcome = c.in_ok-outcome.ensures.outcome ∙ ap (λ p. outcome_of p i.table) program ∙ ap (outcome_of (program_of i.journal.entries c.in-Some.txn)) c.self.invariant.serial in
    let kept = kept-commit i.journal.opening i.journal.entries i.begins.items i.table i.runner.items c.in-Some.txn c.in_ok-outcome.outcome c.self.invariant (c.in-Some.ensures.1, outcome) b.begun in
    rw (c.push_reserved.ensures.opening, c.push_reserved.ensures.entries, c.reserve.ensures.opening, c.reserve.ensures.entries, c.lay_over.ensures, c.in_ok-outcome.ensures.effect, c.in_ok-outcome.ensures.items, program) kept

pub returns-clause-takes : goal.returns-clause-takes
returns-clause-takes g c = λ names. rw (← c.self.view_is) (
    let i = c.self.inside in
    let b = begun-here i.journal.opening i.journal.entries i.begins.items i.table i.runner.items c.in-Some.txn c.self.invariant c.in-Some.ensures.1 in
    let here = b.at c.index.result.now c.index.ensures in
    let program = c.begun_at-program.ensures i.runner.items c.in-Some.txn here in
    record {
      entry = Committed c.in-Some.txn c.in_ok-outcome.outcome;
      spells =
          let words : c.args.words.now ≡ outcome_words c.in_ok-outcome.outcome = sym (c.is_same.ensures.0 c.if-not-is_same.false) ∙ c.deref.ensures.value ∙ c.in_ok-expected.ensures in
          rw (words, c.in-Some.ensures.0) refl;
      continues = (c.in-Some.ensures.1, c.in_ok-outcome.ensures.outcome ∙ ap (λ p. outcome_of p i.table) program ∙ ap (outcome_of (program_of i.journal.entries c.in-Some.txn)) c.self.invariant.serial);
      opening = c.push_reserved.ensures.opening ∙ c.reserve.ensures.opening;
      entries = c.push_reserved.ensures.entries ∙ ap (λ es. es ++ Committed c.in-Some.txn c.in_ok-outcome.outcome ∷ []) c.reserve.ensures.entries;
    })
