use Rattle.std.proofs.Common.{◌∙◌, ap₂}
use Rattle.conflict_index.specs.Index.{Lane, point}
use Rattle.index_laws.proofs.Ties.{points-same}
use Rattle.indexed_lanes.proofs.Notes.{noted_at}
use Rattle.indexed_lanes.proofs.Keeping.{some_noted}
use Rattle.indexed_lanes.proofs.lanes.IndexedLanes.point_between.Goals as goal

pub returns-in-Some : goal.returns-in-Some
returns-in-Some c = λ r u at_r at_u.
    let h = some_noted c.self.inside.lanes c.self.inside.index c.in-Some.index c.in-Some.is c.self.invariant in
    let of_r = noted_at c.self.inside.lanes c.in-Some.index c.args.reader r h (rw c.self.view_is at_r) in
    let of_u = noted_at c.self.inside.lanes c.in-Some.index c.args.writer u h (rw c.self.view_is at_u) in
    c.point_of.ensures ∙ ap₂ (λ (a b : Lane). point a.reads b.writes) of_r of_u ∙ points-same r.optimistic.state.log.reads u.optimistic.state.writes
