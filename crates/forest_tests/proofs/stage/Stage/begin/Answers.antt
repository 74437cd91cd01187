use Rattle.forest_tests.proofs.Lasting.{Lasts, fit-lasts, begin-lasts, begun}
use Rattle.forest_tests.proofs.stage.Stage.begin.Goals as goal

pub invariant_of-self : goal.invariant_of-self
invariant_of-self c =
    let v = c.self.inside.forest in
    let is : Lasts v.numbers c.begin.new.self.numbers = begun v c.begin.new.self _ c.begin.result (begin-lasts v.numbers c.journal.ensures.sound c.args.program _) (c.begin.ensures.next) (c.begin.ensures.refused) in
    fit-lasts _ _ is _ c.self.invariant
