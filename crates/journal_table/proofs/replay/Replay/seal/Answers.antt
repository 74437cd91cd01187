use Rattle.std.proofs.Common.{◌∙◌, sym, refl}
use Rattle.journal_core.specs.declared.entry.Entry.TheVariants.{Sealed}
use Rattle.journal_table.proofs.Keeping.{kept-other}
use Rattle.journal_table.proofs.replay.Replay.seal.Goals as goal

pub invariant_of-self-2 : goal.invariant_of-self-2
invariant_of-self-2 c =
    let inside = c.self.inside in
    let kept = kept-other inside.journal.opening inside.journal.entries inside.begins.items inside.table inside.runner.items Sealed c.self.invariant (sym c.sealed.ensures ∙ c.if-sealed.false) refl refl in
    rw (c.push_reserved.ensures.opening, c.push_reserved.ensures.entries, c.reserve.ensures.opening, c.reserve.ensures.entries) kept
