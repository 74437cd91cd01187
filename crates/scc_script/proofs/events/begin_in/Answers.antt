use Rattle.std.proofs.Common.{ap, sym, subst}
use Rattle.journal_core.specs.Begins.{begins}
use Rattle.shadow_forest.specs.View.{View}
use Rattle.scc_script.specs.Kept.{AreKnown}
use Rattle.scc_script.proofs.Begun.{begin-known}
use Rattle.scc_script.proofs.events.begin_in.Goals as goal

pub returns-in-Ok-clause-known : goal.returns-in-Ok-clause-known
returns-in-Ok-clause-known c = λ names none known.
    subst (AreKnown names) (sym (ap (λ (v : View). begins v.numbers.journal) c.in-Ok.ensures.next)) (begin-known names c.args.forest.now.numbers c.args.program c.args.deadline none known)
