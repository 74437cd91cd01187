use Rattle.std.proofs.Common.{◌∙◌, ◌++◌, ◌∷◌, [], sym, refl, ap}
use Rattle.journal_core.specs.declared.entry.Entry.TheVariants.{Withdrawn}
use Rattle.journal_table.proofs.Keeping.{kept-other}
use Rattle.journal_table.proofs.replay.Replay.withdraw.Goals as goal

pub invariant_of-self-2 : goal.invariant_of-self-2
invariant_of-self-2 c =
    let inside = c.self.inside in
    let kept = kept-other inside.journal.opening inside.journal.entries inside.begins.items inside.table inside.runner.items (Withdrawn c.in-Some.txn) c.self.invariant (c.in-Some.ensures.1, sym c.sealed.ensures ∙ c.if-sealed.false) refl refl in
    rw (c.push_reserved.ensures.opening, c.push_reserved.ensures.entries, c.reserve.ensures.opening, c.reserve.ensures.entries) kept

pub returns-clause-takes : goal.returns-clause-takes
returns-clause-takes c = λ names. rw (← c.self.view_is) record {
  entry = Withdrawn c.in-Some.txn;
  spells = rw c.in-Some.ensures.0 refl;
  continues = (c.in-Some.ensures.1, sym c.sealed.ensures ∙ c.if-sealed.false);
  opening = c.push_reserved.ensures.opening ∙ c.reserve.ensures.opening;
  entries = c.push_reserved.ensures.entries ∙ ap (λ es. es ++ Withdrawn c.in-Some.txn ∷ []) c.reserve.ensures.entries;
}
