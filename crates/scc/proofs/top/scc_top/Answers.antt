use Rattle.scc.proofs.Modes.{served-alone}
use Rattle.scc.proofs.Serving.{batch-served}
use Rattle.scc.proofs.top.scc_top.Goals as goal

pub returns-in-Some-clause-served : goal.returns-in-Some-clause-served
returns-in-Some-clause-served g c =
    batch-served _ c.in-Some.k c.in-Some.lanes c.in-Some.workers _ _ _ c.in-Some.ensures.some c.batch.ensures.ran c.batch.ensures.read_fault c.batch.ensures.write_fault

pub returns-in-None-clause-served : goal.returns-in-None-clause-served
returns-in-None-clause-served g c = served-alone _ _ _ _ c.in-None.ensures.none c.scc_plain.ensures.served
