use Rattle.std.proofs.Common.{◌≡◌, true, IfSome, sym, subst}
use Rattle.journal_core.specs.Journal.{is_live}
use Rattle.shadow_forest.specs.View.{View}
use Rattle.shadow_worker.proofs.Turning.{taken-live}
use Rattle.shadow_worker.proofs.turn.take_if.Goals as goal

pub returns-then-more-clause-live : goal.returns-then-more-clause-live
returns-then-more-clause-live c =
    subst (λ (w : View). IfSome c.take.new.bench.outside (λ x. is_live w.numbers.journal x.number ≡ true)) (sym c.take.ensures.next)
    (taken-live c.args.forest.now.numbers c.journal.ensures.sound c.take.new.bench.outside c.take.ensures.taken)
