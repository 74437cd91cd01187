use Rattle.std.proofs.Common.{sym, ap, ◌∙◌, arith}
use Rattle.conflict_index.specs.Index.{Index, is_marked}
use Rattle.conflict_index.proofs.Views.{lane-below, view-mark}
use Rattle.conflict_index.proofs.index.Index.changed.Goals as goal

pub contains-requires : goal.contains-requires
contains-requires c = (let b = lane-below _ _ _ _ _ _ _ c.self.view_is c.requires in omega (arith, b, c.self.invariant.few))

pub returns : goal.returns
returns c =
    let v = c.self.inside in
    c.contains.ensures
    ∙ sym (view-mark v.lanes v.readers.items v.writers.items v.positions.items v.marks c.args.lane (lane-below _ _ _ _ _ _ _ c.self.view_is c.requires))
    ∙ ap (λ (s : Index). is_marked s c.args.lane) c.self.view_is
