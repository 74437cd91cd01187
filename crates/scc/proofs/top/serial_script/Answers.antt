use Rattle.serial_text.proofs.Printing.{ran-printed}
use Rattle.scc.proofs.top.serial_script.Goals as goal

pub returns-clause-ran : goal.returns-clause-ran
returns-clause-ran g c =
    let ran = c.script.ensures.ran in
    (ran.0, ran.1, ran-printed _ _ _ _ _ _ _ _ _ _ ran.1)
