use Rattle.std.specs.Prelude.{◌≡◌, drop}
use Rattle.txn_runs.specs.Run.{logged}
use Rattle.plain_runs.proofs.run.logged.Given as goal

abbrev pub invariant-loop-read : goal.invariant-loop-read
invariant-loop-read l = logged l.reads l.item ≡ logged (drop l.read-index l.reads) l.item
