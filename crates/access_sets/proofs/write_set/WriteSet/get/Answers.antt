use Rattle.std.proofs.Common.{◌∙◌, sym, ap, subst}
use Rattle.txn_runs.specs.Run.{own}
use Rattle.access_sets.specs.Entries.{found, AreAscending}
use Rattle.access_sets.proofs.Maps.{own_found}
use Rattle.access_sets.proofs.Places.{ascending_within}
use Rattle.access_sets.proofs.write_set.WriteSet.get.Goals as goal

pub value_of-requires : goal.value_of-requires
value_of-requires c =
    record { ascending = subst (AreAscending 0 1024) (sym c.deref.ensures.value) (ascending_within 0 _ 1024 _ c.self.invariant.small c.self.invariant.ascending) }

pub returns : goal.returns
returns c =
    c.value_of.ensures ∙ ap (λ es. found es c.args.item) c.deref.ensures.value ∙ sym (own_found c.self.inside.room c.self.inside.entries.items c.args.item c.self.invariant.ascending) ∙ ap (λ m. own m c.args.item) c.self.view_is
