use Rattle.std.proofs.Common.{rules}
use Rattle.turn_cell.proofs.StepLemmas.{draws}
use Rattle.turn_cell.proofs.cell.TurnCell.draw.Goals as goal

pub fetch_add-requires : goal.fetch_add-requires
fetch_add-requires g c =
    let idle = c.requires.idle in
    (search rules, search rules, draws g.V.Kept.items _ _ _ c.args.seat.now.me idle.0 idle.1 idle.2)
