use Rattle.std.proofs.Common.{◌≡◌, true, refl, ap, sym, ◌∙◌, eq-eqb}
use Rattle.access_sets.specs.Log.{Log}
use Rattle.txn_interp.specs.State.{Held}
use Rattle.forest_model.specs.Jobs.{is_out_at, same_reads}
use Rattle.shadow_state.specs.Bank.{Slot}
use Rattle.shadow_forest.proofs.Elements.{mapped-is}
use Rattle.shadow_forest.proofs.FirstPlaces.{same-decides}
use Rattle.shadow_forest.proofs.giving.takes.Goals as goal

pub returns : goal.returns
returns c = λ s there.
    let state : c.state-shadow.result.now ≡ s.state = mapped-is (λ (y : Slot). y.state) _ s _ c.state-shadow.ensures.state there in
    let position : s.state.position ≡ c.args.from = ap (λ (h : Held). h.position) (sym state) ∙ (sym c.position.ensures ∙ c.if-position-from.false) in
    let out : s.out ≡ true = sym (mapped-is (λ (y : Slot). y.out) _ s _ c.out.ensures there) ∙ c.if-not-out.false in
    let stands : is_out_at c.args.from s.state.position s.out ≡ true = rw (eq-eqb s.state.position c.args.from position, out) refl in
    let mine : c.reads.result.now.reads ≡ s.state.log.reads = ap (λ (l : Log). l.reads) c.reads.ensures ∙ ap (λ (h : Held). h.log.reads) state in
    let its : c.reads-2.result.now.reads ≡ c.args.state.now.log.reads = ap (λ (l : Log). l.reads) c.reads-2.ensures in
    same-decides c.reads.result.now.reads c.reads-2.result.now.reads c.same.result c.same.ensures
    ∙ (ap (λ xs. same_reads xs c.reads-2.result.now.reads) mine ∙ (ap (same_reads s.state.log.reads) its ∙ rw stands refl))
