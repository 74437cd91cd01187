use Rattle.std.proofs.Common.{◌∙◌, sym, ap}
use Rattle.std.specs.Prelude.{slice_get}
use Rattle.txn_runs.specs.Run.{logged}
use Rattle.access_sets.specs.Log.{read_through}
use Rattle.access_sets.proofs.ReadPlaces.{logged_through}
use Rattle.access_sets.proofs.read_log.ReadLog.get.Goals as goal

pub returns : goal.returns
returns c =
    let inv = c.self.invariant in
    c.value_in.ensures ∙ ap (λ ps. read_through (slice_get ps c.args.item) c.deref.result.now c.args.item) c.deref-2.ensures.value ∙ ap (λ rs. read_through (slice_get c.self.inside.places.items c.args.item) rs c.args.item) c.deref.ensures.value ∙ sym (logged_through c.self.inside.reads.items c.self.inside.places.items c.args.item inv.in_order inv.placed) ∙ ap (λ l. logged l.reads c.args.item) c.self.view_is
