use Rattle.std.proofs.Common.{rules}
use Rattle.turn_cell.proofs.StepLemmas.{looks}
use Rattle.turn_cell.proofs.cell.TurnCell.look.Goals as goal

pub load-requires : goal.load-requires
load-requires g c = (search rules, search rules, looks g.V.Kept.items _ _ _ c.args.seat.now.me c.requires.waiting.0 c.requires.waiting.1)
