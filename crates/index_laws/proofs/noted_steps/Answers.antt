use Rattle.index_laws.proofs.Ties.{nothing-noted, one-read, one-write, last-write, written-entries}
use Rattle.index_laws.proofs.noted_steps.Goals as goal

pub returns : goal.returns
returns c = record { none = nothing-noted; read = one-read; write = one-write; last_write = last-write; entries = written-entries }
