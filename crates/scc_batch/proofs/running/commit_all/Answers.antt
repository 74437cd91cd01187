use Rattle.std.proofs.Common.{[], ◌∷◌, subst}
use Rattle.journal_core.specs.declared.entry.Entry.TheVariants.{Sealed}
use Rattle.scc_batch.specs.Opened.{HasBegun}
use Rattle.scc_batch.proofs.Over.{over}
use Rattle.scc_batch.proofs.running.commit_all.Goals as goal

pub returns-clause-committed : goal.returns-clause-committed
returns-clause-committed g c =
    let f = c.in_ok-forest.forest.numbers in
    let last = c.in_ok-forest-2.forest.numbers in
    over f last c.args.input.opening.tables c.args.input.requests c.in_ok-forest-2.ensures.longer c.journal.ensures.sound.right.legal c.in_ok-forest-2.ensures.ended
    (subst (λ requests. HasBegun c.args.input.opening.tables requests (Sealed ∷ []) f) c.into_parts-names.ensures.requests
    (subst (λ tables. HasBegun tables c.into_parts-names.result.2.items (Sealed ∷ []) f) c.into_parts-names.ensures.values c.in_ok-forest.ensures))
