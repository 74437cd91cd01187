use Rattle.std.proofs.Common.{◌≡◌, ◌+◌, ◌++◌, sym, ◌∙◌, ap, append_assoc, slice_range, arith}
use Rattle.scc_replies.specs.Lines.{final_line}
use Rattle.scc_replies.proofs.FinalLines.{finals_from, finals-at, table_at-within}
use Rattle.scc_replies.proofs.finals.put_finals.Goals as goal

pub row-requires : goal.row-requires
row-requires c = omega (arith, table_at-within c.args.names.now c.loop-number.number c.table-table.result c.table-table.ensures, c.requires)

pub loop-number-preserved : goal.loop-number-preserved
loop-number-preserved c =
    let tables = c.args.tables.now in
    let table = c.table-table.result in
    let before = c.loop-number.out.items in
    let rest = finals_from tables c.args.names.now (c.loop-number.number + 1) in
    let next = finals-at tables c.args.names.now c.loop-number.number table c.name.result.now c.table-table.ensures c.name.ensures in
    let line : c.put_final.new.out.items ≡ before ++ final_line c.name.result.now (slice_range tables table.base (table.base + table.size)) = c.in_ok-put_final.ensures ∙ ap (λ row. before ++ final_line c.name.result.now row) c.row.ensures in
    ap (λ items. items ++ rest) line
    ∙ append_assoc before (final_line c.name.result.now (slice_range tables table.base (table.base + table.size))) rest
    ∙ ap (λ lines. before ++ lines) (sym next)
    ∙ c.loop-number.invariant
