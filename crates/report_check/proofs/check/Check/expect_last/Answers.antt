use Rattle.std.proofs.Common.{◌≡◌, ◌+◌, ◌++◌, [], ◌∷◌, slice_range, sym, ap, ◌∙◌, append_assoc, arith}
use Rattle.std.specs.Prelude.{codes}
use Rattle.scc_text.specs.Number.{numbers}
use Rattle.scc_replies.specs.Lines.{number_line, row_line}
use Rattle.scc_replies.proofs.FinalLines.{table_at-within}
use Rattle.report_text.specs.Rows.{final_row, end_row}
use Rattle.report_check.proofs.Rows.{final-at, end-at, made-at}
use Rattle.report_check.proofs.check.Check.expect_last.Goals as goal

pub returns-then-self-count-clause-row : goal.returns-then-self-count-clause-row
returns-then-self-count-clause-row c =
    let h = c.args.self.now in
    let there = end-at h.table c.args.names.now h.told h.commits (c.if-self-count.true ∙ c.count.ensures.value) in
    made-at _ _ h.told (end_row h.commits) _ _ there (ap (λ xs. xs ++ number_line (codes "end ") h.commits) c.clear.ensures.items) c.put_number_line.ensures

pub row-values-requires : goal.row-values-requires
row-values-requires c = omega (arith, table_at-within c.args.names.now c.args.self.now.told c.table-table.result c.table-table.ensures, c.requires.items)

pub returns-clause-row : goal.returns-clause-row
returns-clause-row c =
    let h = c.args.self.now in
    let table = c.table-table.result in
    let name = c.name.result.now in
    let values = slice_range h.table table.base (table.base + table.size) in
    let there = final-at h.table c.args.names.now h.told h.commits table name c.table-table.ensures c.name.ensures in
    let front : c.extend_from_slice.new.self.items ≡ codes "final " = c.in_ok-extend_from_slice.ensures.items ∙ ap (λ xs. xs ++ codes "final ") c.clear.ensures.items in
    let made : c.extend_from_slice.new.self.items ++ row_line name c.row-values.result.now ≡ final_row name values ++ 10 ∷ [] =
    ap (λ vs. c.extend_from_slice.new.self.items ++ row_line name vs) c.row-values.ensures ∙ ap (λ xs. xs ++ row_line name values) front
    ∙ sym (append_assoc (codes "final ") (name ++ numbers values) (10 ∷ [])) in
    made-at _ _ h.told (final_row name values) _ _ there made c.put_row.ensures
