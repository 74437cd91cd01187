use Rattle.std.proofs.Common.{◌≡◌, ◌++◌, sym, ◌∙◌, subst}
use Rattle.journal_core.specs.Journal.{IsLegal}
use Rattle.shadow_forest.specs.Listed.{listed, journal_in}
use Rattle.shadow_worker.specs.Worked.{HasEnded}
use Rattle.shadow_worker.proofs.Listing.{journal-listed, journal-longer}
use Rattle.turn_cell.specs.Passes.{seen_by}
use Rattle.scc_batch.proofs.Over.{still-ended}
use Rattle.scc_batch.proofs.working.closed.Goals as goal

pub returns-clause-ended : goal.returns-clause-ended
returns-clause-ended c =
    let f = c.close-forest.result.numbers in
    let seen = seen_by c.args.pass in
    let front = c.close-forest.ensures in
    let is : f.journal ≡ journal_in seen ++ journal_in front.0 = sym (journal-listed c.close-forest.result) ∙ journal-longer seen (listed c.close-forest.result) front in
    subst HasEnded (sym is) (still-ended f.opening (journal_in seen) (journal_in front.0) c.requires.ended (subst (IsLegal f.opening) is c.journal.ensures.sound.right.legal))
