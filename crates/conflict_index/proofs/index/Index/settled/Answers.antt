use Rattle.conflict_index.proofs.Opening.{settled-view}
use Rattle.conflict_index.proofs.index.Index.settled.Goals as goal

pub returns : goal.returns
returns c = let v = c.self.inside in settled-view v.lanes v.readers.items v.writers.items v.positions.items v.marks c.args.self.now c.self.view_is
