use Rattle.std.proofs.Common.{◌∙◌, ap}
use Rattle.access_sets.specs.Entries.{map_of}
use Rattle.access_sets.proofs.Maps.{no_entries}
use Rattle.access_sets.proofs.write_set.WriteSet.with_room.Goals as goal

pub returns : goal.returns
returns c = ap (map_of 0 c.args.items) c.in_ok-entries.ensures.items ∙ no_entries c.args.items 0
