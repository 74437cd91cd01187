use Rattle.std.proofs.Common.{◌∙◌, sym, ap, subst, length, ◌≤◌}
use Rattle.access_sets.proofs.Maps.{length_map}
use Rattle.access_sets.proofs.write_set.WriteSet.room.Goals as goal

pub returns-clause-room : goal.returns-clause-room
returns-clause-room c = sym (length_map c.self.inside.room 0 c.self.inside.entries.items) ∙ ap length c.self.view_is

pub returns-clause-small : goal.returns-clause-small
returns-clause-small c = subst (λ n. n ≤ 1024) (returns-clause-room c) c.self.invariant.small
