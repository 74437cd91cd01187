use Rattle.std.proofs.Common.{◌∙◌, sym, ap, length}
use Rattle.access_sets.proofs.Maps.{length_map}
use Rattle.access_sets.proofs.write_set.WriteSet.lay_over.Goals as goal

pub lay-requires-clause-room : goal.lay-requires-clause-room
lay-requires-clause-room c = c.requires ∙ sym (ap length c.self.view_is) ∙ length_map c.self.inside.room 0 c.self.inside.entries.items
