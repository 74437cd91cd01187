use Rattle.std.proofs.Common.{◌∙◌, ◌<◌, arith, sym, ap, subst, length}
use Rattle.std.specs.Prelude.{slice_get}
use Rattle.access_sets.specs.Entries.{entries}
use Rattle.access_sets.proofs.Maps.{entries_are, get_some}
use Rattle.access_sets.proofs.write_set.WriteSet.nth.Goals as goal

pub index-requires : goal.index-requires
index-requires c =
    let same = sym (ap (entries 0) c.self.view_is) ∙ entries_are c.self.inside.room c.self.inside.entries.items c.self.invariant.ascending in
    omega (arith, subst (λ es. c.args.place < length es) same c.requires, c.self.inside.entries.ok.0)

pub returns : goal.returns
returns c =
    let same = sym (ap (entries 0) c.self.view_is) ∙ entries_are c.self.inside.room c.self.inside.entries.items c.self.invariant.ascending in
    let within : c.args.place < length c.self.inside.entries.items = subst (λ es. c.args.place < length es) same c.requires in
    ap (λ es. slice_get es c.args.place) same ∙ get_some c.self.inside.entries.items c.args.place c.index.result.now within c.index.ensures
