use Rattle.std.proofs.Common.{rules}
use Rattle.turn_cell.proofs.StepLemmas.{meets}
use Rattle.turn_cell.proofs.cell.TurnCell.meet.Goals as goal

pub load-requires : goal.load-requires
load-requires g c =
    let lists = c.requires.joined.0 in
    (search rules, search rules, meets g.V.Kept.items _ _ _ c.args.seat.now.me lists.0 lists.1 lists.2 lists.3 c.requires.joined.1)
