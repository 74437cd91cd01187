use Rattle.std.proofs.Common.{◌≡◌, ◌∙◌, ◌++◌, ◌∷◌, ◌+◌, ◌≤◌, [], length, sym, refl, ap, subst, arith, false, true}
use Rattle.std.specs.Prelude.{decimal}
use Rattle.std.proofs.lemmas.Fmt.{decimal_injective}
use Rattle.txn_runs.specs.Bounds.{reach}
use Rattle.journal_core.specs.declared.entry.Entry.TheVariants.{Began}
use Rattle.journal_core.specs.Journal.{Continues, began, is_sealed}
use Rattle.journal_table.specs.Replayed.{Replayed}
use Rattle.journal_table.proofs.Keeping.{kept-begin}
use Rattle.journal_table.proofs.Only.{only-began}
use Rattle.journal_table.proofs.replay.Replay.begin.Goals as goal

pub returns-then-sealed-clause-takes : goal.returns-then-sealed-clause-takes
returns-then-sealed-clause-takes c = rw (← c.self.view_is) (
  λ entry spells continues.
      let i = c.self.inside in
      let says = only-began c.args.names.now entry (decimal c.args.txn) (decimal c.args.deadline) c.args.spelling.now spells in
      let follows : Continues i.journal.opening i.journal.entries (Began says.txn says.deadline says.program) = subst (Continues i.journal.opening i.journal.entries) says.is continues in
      let unsealed : is_sealed i.journal.entries ≡ false = follows.1 in
      let closed : is_sealed i.journal.entries ≡ true = sym c.sealed.ensures ∙ c.if-sealed.true in
      cc,
  refl,
)

pub returns-then-txn-began-clause-takes : goal.returns-then-txn-began-clause-takes
returns-then-txn-began-clause-takes c = rw (← c.self.view_is) (
  λ entry spells continues.
      let i = c.self.inside in
      let says = only-began c.args.names.now entry (decimal c.args.txn) (decimal c.args.deadline) c.args.spelling.now spells in
      let follows : Continues i.journal.opening i.journal.entries (Began says.txn says.deadline says.program) = subst (Continues i.journal.opening i.journal.entries) says.is continues in
      let next : says.txn ≡ began i.journal.entries + 1 = follows.0 in
      let count = c.began.ensures in
      let small = c.began.type_inv in
      let same : says.txn ≡ c.args.txn = decimal_injective says.txn c.args.txn (omega (arith, next, count, small)) c.ranges.txn.fits says.number in
      let other = c.if-txn-began.true in
      omega (arith, next, count, same, other),
  refl,
)

pub invariant_of-self-2 : goal.invariant_of-self-2
invariant_of-self-2 c =
    let i = c.self.inside in
    let tried = c.in-Ok-try_from.ensures in
    let next : c.in-Ok-try_from.txn ≡ began i.journal.entries + 1 = tried.1 ∙ c.if-txn-began.false ∙ ap (λ n. n + 1) c.began.ensures in
    let opened : length i.journal.opening ≡ length c.args.self.now.opening = ap (λ (r : Replayed). length r.opening) c.self.view_is in
    let fits : reach c.in-Ok.program ≤ i.runner.items = let within = c.in-Ok.ensures.within in let items = c.requires.items in let same = c.self.invariant.opened in omega (arith, opened, within, items, same) in
    let kept = kept-begin i.journal.opening i.journal.entries i.begins.items i.table i.runner.items c.in-Ok-try_from.txn c.args.deadline c.in-Ok.program c.self.invariant (next, sym c.sealed.ensures ∙ c.if-sealed.false) fits in
    rw (c.push_reserved-2.ensures.opening, c.push_reserved-2.ensures.entries, c.reserve.ensures.opening, c.push_reserved.ensures.items, c.reserve-2.ensures.items, c.len.ensures.value, c.reserve.ensures.entries) kept

pub returns-clause-takes : goal.returns-clause-takes
returns-clause-takes c = rw (← c.self.view_is) (
    let i = c.self.inside in
    let tried = c.in-Ok-try_from.ensures in
    let read = c.in-Ok.ensures.reads in
    record {
      entry = Began c.in-Ok-try_from.txn c.args.deadline c.in-Ok.program;
      spells = (c.args.spelling.now, rw tried.1 refl, c.requires.deadline, read);
      continues = (tried.1 ∙ c.if-txn-began.false ∙ ap (λ n. n + 1) c.began.ensures, sym c.sealed.ensures ∙ c.if-sealed.false);
      opening = c.push_reserved-2.ensures.opening ∙ c.reserve.ensures.opening;
      entries = c.push_reserved-2.ensures.entries ∙ ap (λ es. es ++ Began c.in-Ok-try_from.txn c.args.deadline c.in-Ok.program ∷ []) c.reserve.ensures.entries;
    })
