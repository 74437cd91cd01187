use Rattle.ready_order.proofs.Picks.{picks-ready, picks-other}
use Rattle.ready_order.proofs.folding.Goals as goal

pub returns : goal.returns
returns c = record { ready = picks-ready; other = picks-other }
