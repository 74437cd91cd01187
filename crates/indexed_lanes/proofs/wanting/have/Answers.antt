use Rattle.std.proofs.Common.{List, ap, sym, ◌∙◌}
use Rattle.shadow_state.proofs.Places.{some_at}
use Rattle.shadow_lanes.specs.Seats.{Seat}
use Rattle.indexed_lanes.proofs.Renewed.{renewed_kept, renewed_settled}
use Rattle.indexed_lanes.proofs.wanting.have.Goals as goal

pub returns-then-not-are_same : goal.returns-then-not-are_same
returns-then-not-are_same c =
    let here = some_at c.args.lanes.now.seats c.args.place c.requires.place in
    c.settle.ensures
    ∙ ap (λ (seats : List Seat). record c.args.lanes.now { seats = seats })
    (renewed_settled c.args.code.now.nodes c.args.lanes.now.items c.args.conflicts.now c.conflicts.result.now c.args.lanes.now.seats c.args.place here.0 here.1 c.conflicts.ensures
    (sym c.are_same.ensures ∙ c.if-not-are_same.true))

pub returns-else-not-are_same : goal.returns-else-not-are_same
returns-else-not-are_same c =
    let here = some_at c.args.lanes.now.seats c.args.place c.requires.place in
    ap (λ (seats : List Seat). record c.args.lanes.now { seats = seats })
    (renewed_kept c.args.code.now.nodes c.args.lanes.now.items c.args.conflicts.now c.conflicts.result.now c.args.lanes.now.seats c.args.place here.0 here.1 c.conflicts.ensures
    (sym c.are_same.ensures ∙ c.if-not-are_same.false))
