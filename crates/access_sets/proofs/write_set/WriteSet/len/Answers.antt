use Rattle.std.proofs.Common.{◌∙◌, arith, sym, ap, length}
use Rattle.access_sets.specs.Entries.{entries}
use Rattle.access_sets.proofs.Maps.{length_map, few, entries_are}
use Rattle.access_sets.proofs.write_set.WriteSet.len.Goals as goal

pub overflow_cast-result : goal.overflow_cast-result
overflow_cast-result c = omega (arith, few _ _ c.self.invariant.ascending, c.self.invariant.small, c.len.ensures, c.self.inside.entries.ok.0)

pub returns-clause-len : goal.returns-clause-len
returns-clause-len c =
    c.len.ensures ∙ c.self.inside.entries.ok.0 ∙ ap length (sym (entries_are c.self.inside.room c.self.inside.entries.items c.self.invariant.ascending)) ∙ ap (λ m. length (entries 0 m)) c.self.view_is

pub returns-clause-within : goal.returns-clause-within
returns-clause-within c =
    omega (arith, few _ _ c.self.invariant.ascending, c.len.ensures, c.self.inside.entries.ok.0, length_map c.self.inside.room 0 c.self.inside.entries.items, ap length c.self.view_is)
