use Rattle.std.proofs.Common.{rules}
use Rattle.turn_cell.proofs.StepLemmas.{passes}
use Rattle.turn_cell.proofs.cell.TurnCell.pass_on.Goals as goal

pub fetch_add-requires : goal.fetch_add-requires
fetch_add-requires g c =
    let laid = c.requires.laid in
    (search rules, search rules, passes g.V.Kept.items _ _ _ c.args.seat.now.me laid.0 laid.1.0 laid.1.1 laid.1.2)
