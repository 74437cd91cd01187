use Rattle.std.proofs.Common.{◌∙◌, sym, ap, length, None}
use Rattle.std.specs.Prelude.{replicate}
use Rattle.access_sets.specs.Entries.{map_of}
use Rattle.access_sets.proofs.Maps.{length_map, no_entries}
use Rattle.access_sets.proofs.write_set.WriteSet.clear.Goals as goal

pub returns : goal.returns
returns c =
    ap (map_of 0 c.self.inside.room) c.clear.ensures.items ∙ no_entries c.self.inside.room 0 ∙ ap (λ n. replicate n None) (sym (length_map c.self.inside.room 0 c.self.inside.entries.items) ∙ ap length c.self.view_is)
