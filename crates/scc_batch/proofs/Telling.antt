-- The order of a batch's report is read off its text.
use Rattle.std.proofs.Common.{◌≡◌, ◌≢◌, ◌<◌, ◌≤◌, ◌^◌, ℕ, suc, ◌&&◌, ◌||◌, ◌==◌, Bool, true, false, not, nat_le, length, List, [], ◌∷◌, refl, sym, ap, ◌∙◌, subst, true≢false, arith, eq-eqb}
use Rattle.std.specs.List.{All, AllByRecursion, list_all, list_any}
use Rattle.std.specs.Char.{is_ascii_lowercase}
use Rattle.txn_runs.specs.Run.{Tables}
use Rattle.txn_names.specs.Word.{is_word_byte, is_word, is_name, is_reserved, is_table_name}
use Rattle.txn_names.specs.Tables.{Named, IsTable, IsNames}
use Rattle.report_text.specs.Order.{order_of, NamesEachOnce, NamesFit, NumbersFit}
use Rattle.report_text.specs.Report.{report}
use Rattle.report_text.proofs.Fits.{tables-fit, once-fits}
use Rattle.report_text.proofs.Told.{order-told}
use Rattle.batch_input.specs.declared.request.Request.{Request}
use Rattle.scc_batch.specs.Opened.{programs_of}
use Rattle.scc_batch.specs.Told.{IsReport}

pub report-told : (names : List Named) (tables : Tables) (requests : List Request) (order text : List ℕ) → IsNames names → length requests ≤ 20000 → NamesEachOnce (length requests) order
    → text ≡ report names tables (programs_of requests) order → IsReport names tables requests text
report-told names tables requests order text plain few once is =
    let small : NumbersFit order = once-fits (length requests) order (omega (arith, few)) once in
    let same : order_of text ≡ order = ap order_of is ∙ order-told names tables (programs_of requests) order (tables-fit names plain.tables) small in
    record {
      whole = is ∙ ap (report names tables (programs_of requests)) (sym same);
      once = subst (NamesEachOnce (length requests)) (sym same) once;
    }
