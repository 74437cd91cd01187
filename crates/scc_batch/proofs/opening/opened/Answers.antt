use Rattle.std.proofs.Common.{[], ◌∷◌, sym, ap, subst}
use Rattle.journal_core.specs.declared.entry.Entry.TheVariants.{Sealed}
use Rattle.scc_batch.specs.Opened.{HasBegun}
use Rattle.scc_batch.proofs.Lasting.{begun-sealed}
use Rattle.scc_batch.proofs.opening.opened.Goals as goal

pub returns : goal.returns
returns c =
    let opening = ap (λ v. v.numbers.opening) c.in_ok-forest.ensures.3 in
    let requests = c.args.requests.items in
    let begun = subst (λ tables. HasBegun tables requests [] c.begin_all.new.forest.numbers) opening c.in_ok-begin_all.ensures in
    subst (HasBegun c.args.table requests (Sealed ∷ [])) (sym (ap (λ v. v.numbers) c.seal.ensures)) (begun-sealed c.begin_all.new.forest.numbers c.args.table requests begun)
