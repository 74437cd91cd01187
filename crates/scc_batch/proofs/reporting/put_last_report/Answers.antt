use Rattle.std.proofs.Common.{◌≡◌, ◌≤◌, ℕ, ◌++◌, List, length, refl, sym, ap, ◌∙◌, subst}
use Rattle.journal_core.specs.Journal.{commits, began}
use Rattle.journal_core.specs.Begins.{begins}
use Rattle.journal_core.proofs.Begins.{begins-count}
use Rattle.txn_syntax.proofs.Opened.{on_map}
use Rattle.report_text.specs.Report.{report}
use Rattle.scc_batch.specs.Opened.{programs_of}
use Rattle.scc_batch.proofs.Begun.{numbered-many}
use Rattle.scc_batch.proofs.Telling.{report-told}
use Rattle.scc_batch.proofs.reporting.put_last_report.Goals as goal

pub returns : goal.returns
returns c =
    let names = c.args.names.now in
    let old : List ℕ = c.args.out.now.items in
    let f = c.args.forest.now.numbers in
    on_map c.put_report.result (λ told requests is.
    let programs = programs_of requests in
    let order = commits f.journal in
    let many : began f.journal ≡ length requests = sym (begins-count f.journal) ∙ ap length is.begins ∙ numbered-many 1 requests in
    let few = subst (λ n. n ≤ 20000) many c.journal.ensures.sound.right.few in
    let text = report names f.opening programs order in (
      text,
      report-told names f.opening requests order text c.count.ensures.limits few is.once refl,
      told programs (ap begins c.journal.ensures.entries ∙ is.begins)
          ∙ ap (λ tables. old ++ report names tables programs (commits c.journal.result.now.entries)) c.journal.ensures.opening
          ∙ ap (λ journal. old ++ report names f.opening programs (commits journal)) c.journal.ensures.entries,
    ))
    c.put_report.ensures
