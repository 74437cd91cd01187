use Rattle.std.proofs.Common.{rules}
use Rattle.turn_cell.proofs.StepLemmas.{taken_last}
use Rattle.turn_cell.proofs.cell.TurnCell.lift.Goals as goal

pub exchange-requires : goal.exchange-requires
exchange-requires g c = (search rules, taken_last c.args.seat.now.me.1 c.requires.holds.0 c.requires.holds.1)
