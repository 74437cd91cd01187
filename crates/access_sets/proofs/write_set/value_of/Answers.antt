use Rattle.std.proofs.Common.{◌∙◌, sym, ap}
use Rattle.std.specs.Prelude.{slice_get}
use Rattle.access_sets.specs.Entries.{value_at}
use Rattle.access_sets.proofs.Places.{found_at}
use Rattle.access_sets.proofs.write_set.value_of.Goals as goal

pub returns : goal.returns
returns c =
    c.value_at.ensures ∙ ap (λ i. value_at (slice_get c.args.entries.now i) c.args.item) c.place_in.ensures ∙ sym (found_at 0 1024 c.args.item c.args.entries.now c.requires.ascending)
