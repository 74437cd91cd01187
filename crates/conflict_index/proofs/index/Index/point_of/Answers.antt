use Rattle.std.proofs.Common.{◌≡◌, get_or, None, sym, ap, ◌∙◌, arith}
use Rattle.std.proofs.lemmas.List.{get_or_read}
use Rattle.conflict_index.specs.Index.{Lane, Index, lane_at, point}
use Rattle.conflict_index.specs.Kept.{lane_of}
use Rattle.conflict_index.proofs.Sweeps.{cell-within}
use Rattle.conflict_index.proofs.Views.{lane-below, view-lane}
use Rattle.conflict_index.proofs.index.Index.point_of.Goals as goal

pub cell-requires-clause-column : goal.cell-requires-clause-column
cell-requires-clause-column c = lane-below _ _ _ _ _ _ _ c.self.view_is c.requires.writer

pub index-requires : goal.index-requires
index-requires c =
    let r = lane-below _ _ _ _ _ _ _ c.self.view_is c.requires.reader in
    let w = lane-below _ _ _ _ _ _ _ c.self.view_is c.requires.writer in
    let b = cell-within c.args.reader c.args.writer c.self.inside.lanes r w in
    omega (arith, b, c.cell.ensures, c.self.invariant.square, c.self.inside.points.ok.0)

pub returns : goal.returns
returns c =
    let v = c.self.inside in
    let r = lane-below _ _ _ _ _ _ _ c.self.view_is c.requires.reader in
    let w = lane-below _ _ _ _ _ _ _ c.self.view_is c.requires.writer in
    let b = cell-within c.args.reader c.args.writer v.lanes r w in
    let lists_r : lane_of v.readers.items v.writers.items v.positions.items v.lanes c.args.reader ≡ lane_at c.args.self.now c.args.reader = sym (view-lane v.lanes v.readers.items v.writers.items v.positions.items v.marks c.args.reader r) ∙ ap (λ (s : Index). lane_at s c.args.reader) c.self.view_is in
    let lists_w : lane_of v.readers.items v.writers.items v.positions.items v.lanes c.args.writer ≡ lane_at c.args.self.now c.args.writer = sym (view-lane v.lanes v.readers.items v.writers.items v.positions.items v.marks c.args.writer w) ∙ ap (λ (s : Index). lane_at s c.args.writer) c.self.view_is in
    get_or_read v.points.items c.cell.result c.index.result.now (omega (arith, b, c.cell.ensures, c.self.invariant.square)) c.index.ensures None
    ∙ ap (λ at. get_or v.points.items at None) c.cell.ensures
    ∙ c.self.invariant.met c.args.reader c.args.writer r w c.requires.different
    ∙ ap (λ (l : Lane). point l.reads (lane_of v.readers.items v.writers.items v.positions.items v.lanes c.args.writer).writes) lists_r
    ∙ ap (λ (l : Lane). point (lane_at c.args.self.now c.args.reader).reads l.writes) lists_w
