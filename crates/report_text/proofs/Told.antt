-- The order of a report is that of its lines.
use Rattle.std.proofs.Common.{◌≡◌, ℕ, ◌+◌, List, [], ◌∷◌, ◌++◌, length, map, slice_range, refl, sym, ap, ◌∙◌, append_assoc}
use Rattle.std.specs.Prelude.{codes, decimal, filter_map}
use Rattle.std.specs.List.{zip, cons_option}
use Rattle.std.proofs.lemmas.List.{append-nil}
use Rattle.txn_runs.specs.Run.{Tables}
use Rattle.txn_runs.specs.Serial.{outcome_of, effect_of, over, outcomes, last_tables}
use Rattle.txn_runs.specs.declared.program.Program.{Program}
use Rattle.txn_runs.specs.declared.outcome.Outcome.{Outcome}
use Rattle.txn_names.specs.Tables.{Named}
use Rattle.scc_text.specs.Lines.{NoNewline, lines_of}
use Rattle.scc_text.specs.Number.{numbers}
use Rattle.scc_text.proofs.LinesRead.{lines_of-append}
use Rattle.journal_core.specs.Numbered.{program_named}
use Rattle.journal_core.specs.Reply.{outcome_words, commit_line}
use Rattle.scc_replies.specs.Lines.{end_line, final_line}
use Rattle.scc_replies.specs.Finals.{final_lines}
use Rattle.report_text.proofs.Cuts.{IsWithout, numbers-without, without-append, lacks, lacking, unlines, unlines-append, AreLines, lines-append}
use Rattle.report_text.proofs.Words.{outcome-without, row-without}
use Rattle.report_text.specs.Order.{commit_number, order_of, NamesFit, NumbersFit}
use Rattle.report_text.specs.Report.{numbered, commit_lines, report}
use Rattle.report_text.specs.Rows.{commit_row, commit_rows, final_rows, end_row, last_rows, report_rows}
use Rattle.report_text.proofs.Rows.{commit-named, final-named, end-named}

-- Lines.

newline-free : (bs : List ℕ) → IsWithout 10 bs → NoNewline bs
newline-free [] h = tt
newline-free (b ∷ bs) h = (h.0, newline-free bs h.1)

pub lines-back : (ls : List (List ℕ)) → AreLines ls → lines_of (unlines ls) ≡ ls
lines-back [] h = refl
lines-back (l ∷ ls) h = lines_of-append l (unlines ls) (newline-free l h.0) ∙ ap (λ x. l ∷ x) (lines-back ls h.1)

-- Commits.

commits-text : (cs : List (ℕ × Outcome)) → commit_lines cs ≡ unlines (commit_rows cs)
commits-text [] = refl
commits-text (c ∷ cs) = ap (λ x. commit_line c.0 c.1 ++ x) (commits-text cs) ∙ append_assoc (commit_row c.0 c.1) (10 ∷ []) (unlines (commit_rows cs))

commit-whole : (t : ℕ) (o : Outcome) → IsWithout 10 (commit_row t o)
unfolding lacks
commit-whole t o =
    let blank = without-append 10 (codes "commit " ++ decimal t) (codes " ") (row-without (codes "commit ") t refl) (lacking 10 (codes " ") refl) in
    without-append 10 (codes "commit " ++ decimal t ++ codes " ") (outcome_words o) blank (outcome-without o)

commits-whole : (cs : List (ℕ × Outcome)) → AreLines (commit_rows cs)
commits-whole [] = tt
commits-whole (c ∷ cs) = (commit-whole c.0 c.1, commits-whole cs)

-- the commits name the numbers of the order
pub commits-named : (tables : Tables) (f : ℕ → Program) (order : List ℕ) (rest : List (List ℕ)) → NumbersFit order
    → filter_map commit_number (commit_rows (zip order (outcomes tables (map f order))) ++ rest) ≡ order ++ filter_map commit_number rest
commits-named tables f [] rest h = refl
commits-named tables f (t ∷ order) rest h =
    let next : Tables = over (effect_of (f t) tables) tables in
    ap (λ n. cons_option n (filter_map commit_number (commit_rows (zip order (outcomes next (map f order))) ++ rest))) (commit-named t (outcome_of (f t) tables) h.0)
    ∙ ap (λ x. t ∷ x) (commits-named next f order rest h.1)

-- Last values.

finals-text : (tables : Tables) (base : ℕ) (names : List Named) → final_lines tables base names ≡ unlines (final_rows tables base names)
finals-text tables base [] = refl
finals-text tables base (t ∷ names) =
    let values : Tables = slice_range tables base (base + t.1) in
    ap (λ x. final_line t.0 values ++ x) (finals-text tables (base + t.1) names)
    ∙ ap (λ x. codes "final " ++ x) (append_assoc (t.0 ++ numbers values) (10 ∷ []) (unlines (final_rows tables (base + t.1) names)))

finals-whole : (tables : Tables) (base : ℕ) (names : List Named) → NamesFit names → AreLines (final_rows tables base names)
unfolding lacks
finals-whole tables base [] h = tt
finals-whole tables base (t ∷ names) h =
    let values : Tables = slice_range tables base (base + t.1) in (
      without-append 10 (codes "final ") (t.0 ++ numbers values) (lacking 10 (codes "final ") refl) (without-append 10 t.0 (numbers values) h.0 (numbers-without values)),
      finals-whole tables (base + t.1) names h.1,
    )

finals-named : (tables : Tables) (base : ℕ) (names : List Named) (rest : List (List ℕ)) → filter_map commit_number (final_rows tables base names ++ rest) ≡ filter_map commit_number rest
finals-named tables base [] rest = refl
finals-named tables base (t ∷ names) rest =
    ap (λ n. cons_option n (filter_map commit_number (final_rows tables (base + t.1) names ++ rest))) (final-named t.0 (slice_range tables base (base + t.1)))
    ∙ finals-named tables (base + t.1) names rest

-- The report.

end-whole : (n : ℕ) → IsWithout 10 (end_row n)
unfolding lacks
end-whole n = row-without (codes "end ") n refl

-- it is the text of its lines
pub report-lines : (names : List Named) (tables : Tables) (programs : List Program) (order : List ℕ) → NamesFit names → lines_of (report names tables programs order) ≡ report_rows names tables programs order
unfolding report
report-lines names tables programs order plain =
    let f : ℕ → Program = program_named (numbered 1 programs) in
    let cs : List (ℕ × Outcome) = zip order (outcomes tables (map f order)) in
    let last : Tables = last_tables tables (map f order) in
    let end : List (List ℕ) = end_row (length order) ∷ [] in
    let rows : List (List ℕ) = commit_rows cs ++ (final_rows last 0 names ++ end) in
    let text : commit_lines cs ++ final_lines last 0 names ++ end_line (length order) ≡ unlines rows =
    append_assoc (commit_lines cs) (final_lines last 0 names) (end_line (length order))
    ∙ ap (λ x. x ++ (final_lines last 0 names ++ end_line (length order))) (commits-text cs)
    ∙ ap (λ x. unlines (commit_rows cs) ++ (x ++ end_line (length order))) (finals-text last 0 names)
    ∙ ap (λ x. unlines (commit_rows cs) ++ x) (sym (unlines-append (final_rows last 0 names) end))
    ∙ sym (unlines-append (commit_rows cs) (final_rows last 0 names ++ end)) in
    let whole : AreLines rows = lines-append (commit_rows cs) (final_rows last 0 names ++ end) (commits-whole cs) (lines-append (final_rows last 0 names) end (finals-whole last 0 names plain) (end-whole (length order), tt)) in
    ap lines_of text ∙ lines-back rows whole

-- the last rows name no commit
pub last-named : (names : List Named) (tables : Tables) (n : ℕ) → filter_map commit_number (last_rows names tables n) ≡ []
last-named names tables n = finals-named tables 0 names (end_row n ∷ []) ∙ ap (λ m. cons_option m []) (end-named n)

pub rows-named : (names : List Named) (tables : Tables) (programs : List Program) (order : List ℕ) → NumbersFit order → filter_map commit_number (report_rows names tables programs order) ≡ order
rows-named names tables programs order small =
    let f : ℕ → Program = program_named (numbered 1 programs) in
    let last : List (List ℕ) = last_rows names (last_tables tables (map f order)) (length order) in
    commits-named tables f order last small ∙ ap (λ x. order ++ x) (last-named names (last_tables tables (map f order)) (length order)) ∙ append-nil order

pub order-told : (names : List Named) (tables : Tables) (programs : List Program) (order : List ℕ) → NamesFit names → NumbersFit order → order_of (report names tables programs order) ≡ order
unfolding order_of
order-told names tables programs order plain small =
    ap (filter_map commit_number) (report-lines names tables programs order plain) ∙ rows-named names tables programs order small
