-- The commits of a journal, and those of the serial run of its programs.
use Rattle.std.proofs.Common.{◌≡◌, ℕ, ◌+◌, ◌++◌, List, [], ◌∷◌, length, take, map, Some, refl, ap, sym, ◌∙◌, add-one}
use Rattle.std.specs.List.{zip, slice_get}
use Rattle.std.proofs.lemmas.Grind.{flat_map-append}
use Rattle.std.proofs.Math.Seq.{take-suc}
use Rattle.std.proofs.lemmas.Option.{slice_get_within, get_or_from_slice_get}
use Rattle.txn_runs.specs.Run.{Tables}
use Rattle.txn_runs.specs.Serial.{outcomes, last_tables}
use Rattle.txn_runs.specs.declared.program.Program.{Program}
use Rattle.txn_names.specs.Tables.{Named}
use Rattle.journal_core.specs.declared.entry.Entry.{Entry}
use Rattle.journal_core.specs.Journal.{IsLegal, program_of, commits, committed_programs, tables_after}
use Rattle.journal_core.specs.Numbered.{program_named}
use Rattle.journal_core.specs.Begins.{begins, commit_replies}
use Rattle.journal_core.specs.Reply.{commit_line}
use Rattle.journal_core.proofs.Legal.{replies-serial}
use Rattle.journal_core.proofs.Begins.{program-named, replies-numbers, replies-outcomes, commit_replies-longer}
use Rattle.scc_replies.specs.Lines.{end_line}
use Rattle.scc_replies.specs.Finals.{final_lines}
use Rattle.report_text.specs.Report.{numbered, in_order, commit_lines, report}

-- a list of pairs is its two sides, joined
zip-sides : {A B : Type 0} (xs : List (A × B)) → zip (map (λ x. x.0) xs) (map (λ x. x.1) xs) ≡ xs
zip-sides [] = refl
zip-sides (x ∷ xs) = ap (λ ys. x ∷ ys) (zip-sides xs)

-- functions that agree everywhere give one list
map-same : {X Y : Type 0} (f g : X → Y) → ((x : X) → f x ≡ g x) → (xs : List X) → map f xs ≡ map g xs
map-same f g same [] = refl
map-same f g same (x ∷ xs) = ap (λ y. y ∷ map f xs) (same x) ∙ ap (λ ys. g x ∷ ys) (map-same f g same xs)

-- the programs of the commits, found by their numbers
pub commits-in-order : (journal : List Entry) (programs : List Program) → begins journal ≡ numbered 1 programs → in_order programs (commits journal) ≡ committed_programs journal
commits-in-order journal programs is =
    ap (λ begun. map (program_named begun) (commits journal)) (sym is)
    ∙ map-same (program_named (begins journal)) (program_of journal) (program-named journal) (commits journal)

-- the recorded commits are those of the serial run
commits-serial : (opening : Tables) (journal : List Entry) (programs : List Program) → IsLegal opening journal → begins journal ≡ numbered 1 programs
    → zip (commits journal) (outcomes opening (in_order programs (commits journal))) ≡ commit_replies journal
commits-serial opening journal programs legal is =
    ap (λ ps. zip (commits journal) (outcomes opening ps)) (commits-in-order journal programs is)
    ∙ ap (zip (commits journal)) (sym (replies-serial opening journal legal))
    ∙ ap (λ os. zip (commits journal) os) (sym (replies-outcomes journal))
    ∙ ap (λ ts. zip ts (map (λ c. c.1) (commit_replies journal))) (sym (replies-numbers journal))
    ∙ zip-sides (commit_replies journal)

-- what is appended for a legal journal is the report of its programs in the order of its commits
pub report-of : (names : List Named) (opening tables : Tables) (journal : List Entry) (programs : List Program) → IsLegal opening journal → tables ≡ tables_after opening journal → begins journal ≡ numbered 1 programs
    → commit_lines (commit_replies journal) ++ final_lines tables 0 names ++ end_line (length (commits journal)) ≡ report names opening programs (commits journal)
unfolding report
report-of names opening tables journal programs legal serial is =
    let order : List ℕ = commits journal in
    let last : tables ≡ last_tables opening (in_order programs order) = serial ∙ ap (last_tables opening) (sym (commits-in-order journal programs is)) in
    ap (λ cs. commit_lines cs ++ final_lines tables 0 names ++ end_line (length order)) (sym (commits-serial opening journal programs legal is))
    ∙ ap (λ ts. commit_lines (zip order (outcomes opening (in_order programs order))) ++ final_lines ts 0 names ++ end_line (length order)) last

-- the lines of one entry more
pub entry-more : (journal : List Entry) (n : ℕ) (e : Entry) → slice_get journal n ≡ Some e
    → commit_lines (commit_replies (take (n + 1) journal)) ≡ commit_lines (commit_replies (take n journal)) ++ commit_lines (commit_replies (e ∷ []))
entry-more journal n e is =
    let next : take (n + 1) journal ≡ take n journal ++ e ∷ [] =
    rw add-one (take-suc journal n e (slice_get_within journal n e is) ∙ ap (λ x. take n journal ++ x ∷ []) (get_or_from_slice_get journal n e e is)) in
    ap (λ es. commit_lines (commit_replies es)) next
    ∙ ap commit_lines (commit_replies-longer (take n journal) (e ∷ []))
    ∙ flat_map-append (λ c. commit_line c.0 c.1) (commit_replies (take n journal)) (commit_replies (e ∷ []))
