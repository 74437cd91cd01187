use Rattle.std.proofs.Common.{◌≤◌, subst, ◌∙◌, ◌++◌, sym, ap, arith, length, codes}
use Rattle.txn_runs.specs.Fold.{of_stmt}
use Rattle.txn_runs.specs.Bounds.{plus, size_row}
use Rattle.txn_spelling.specs.Canonical.{stmt_text, stmts_text, braced}
use Rattle.txn_spelling.specs.Strangers.{stranger_row}
use Rattle.txn_spelling.proofs.Sizes.{size_if, size_loop, size_drop}
use Rattle.txn_spelling.proofs.Texts.{text_calc, text_move, text_read, text_write, text_emit, text_fail, text_if, text_loop, text_drop, strangers_if, strangers_loop, strangers_drop, else_some, two_texts, stmt_told}
use Rattle.txn_spelling.proofs.writer.+put.Goals as goal

pub put_stmt-returns-in-Calc : goal.put_stmt-returns-in-Calc
put_stmt-returns-in-Calc t c = rw (ap (stmt_text c.args.names.now) c.in-Calc.is ∙ text_calc c.args.names.now c.in-Calc.to c.in-Calc.left c.in-Calc.op c.in-Calc.right) c.put_calc.ensures

pub put_stmt-returns-in-Move : goal.put_stmt-returns-in-Move
put_stmt-returns-in-Move t c = rw (ap (stmt_text c.args.names.now) c.in-Move.is ∙ text_move c.args.names.now c.in-Move.to c.in-Move.from) c.put_move.ensures

pub put_stmt-returns-in-Read : goal.put_stmt-returns-in-Read
put_stmt-returns-in-Read t c = rw (ap (stmt_text c.args.names.now) c.in-Read.is ∙ text_read c.args.names.now c.in-Read.to c.in-Read.table c.in-Read.at) c.put_read.ensures

pub put_stmt-returns-in-Write : goal.put_stmt-returns-in-Write
put_stmt-returns-in-Write t c = rw (ap (stmt_text c.args.names.now) c.in-Write.is ∙ text_write c.args.names.now c.in-Write.table c.in-Write.at c.in-Write.from) c.put_write.ensures

pub put_stmt-returns-in-Emit : goal.put_stmt-returns-in-Emit
put_stmt-returns-in-Emit t c = rw (ap (stmt_text c.args.names.now) c.in-Emit.is ∙ text_emit c.args.names.now c.in-Emit.from) c.put_emit.ensures

pub put_stmt-returns-in-Fail : goal.put_stmt-returns-in-Fail
put_stmt-returns-in-Fail t c = rw (ap (stmt_text c.args.names.now) c.in-Fail.is ∙ text_fail c.args.names.now c.in-Fail.code) c.put_fail.ensures

pub put_stmt-put_choice-requires : goal.put_stmt-put_choice-requires
put_stmt-put_choice-requires t c =
    let names = c.args.names.now in
    let sizes = ap (of_stmt size_row plus) c.in-If.is ∙ size_if c.in-If.left c.in-If.right c.in-If.cmp c.in-If.yes c.in-If.no in
    let none = ap (of_stmt (stranger_row names) plus) c.in-If.is ∙ strangers_if names c.in-If.left c.in-If.right c.in-If.cmp c.in-If.yes c.in-If.no in
    (omega (arith, sizes), (omega (arith, none, c.requires), omega (arith, none, c.requires)))

pub put_stmt-put_loop-requires : goal.put_stmt-put_loop-requires
put_stmt-put_loop-requires t c =
    let names = c.args.names.now in
    let sizes = ap (of_stmt size_row plus) c.in-Loop.is ∙ size_loop c.in-Loop.count c.in-Loop.body in
    let none = ap (of_stmt (stranger_row names) plus) c.in-Loop.is ∙ strangers_loop names c.in-Loop.count c.in-Loop.body in
    (omega (arith, sizes), omega (arith, none, c.requires))

pub put_stmt-returns-in_ok-put_test-in-If : goal.put_stmt-returns-in_ok-put_test-in-If
put_stmt-returns-in_ok-put_test-in-If t c =
    let names = c.args.names.now in
    let is = ap (stmt_text names) c.in-If.is ∙ text_if names c.in-If.left c.in-If.right c.in-If.cmp c.in-If.yes c.in-If.no in
    rw is (two_texts c.args.out.now.items c.put_test.new.out.items c.put_choice.new.out.items _ _ c.put_choice.result c.in_ok-put_test-in-If.ensures c.put_choice.ensures)

pub put_stmt-returns-in-Loop : goal.put_stmt-returns-in-Loop
put_stmt-returns-in-Loop t c = rw (ap (stmt_text c.args.names.now) c.in-Loop.is ∙ text_loop c.args.names.now c.in-Loop.count c.in-Loop.body) c.put_loop.ensures

pub put_stmts-put_stmt-requires : goal.put_stmts-put_stmt-requires
put_stmts-put_stmt-requires t c =
    let sizes = size_drop c.args.stmts.now c.loop-stmt.stmt-index c.stmt-item.result c.loop-stmt-test.true c.stmt-item.is in
    let none = strangers_drop c.args.names.now c.args.stmts.now c.loop-stmt.stmt-index c.stmt-item.result c.loop-stmt-test.true c.stmt-item.is in
    (omega (arith, sizes, c.loop-stmt.invariant.shorter), omega (arith, none, c.loop-stmt.invariant.none))

pub put_stmts-loop-stmt-preserved : goal.put_stmts-loop-stmt-preserved
put_stmts-loop-stmt-preserved t c =
    let names = c.args.names.now in
    let less = text_drop names c.args.stmts.now c.loop-stmt.stmt-index c.stmt-item.result c.loop-stmt-test.true c.stmt-item.is in
    let none = strangers_drop names c.args.stmts.now c.loop-stmt.stmt-index c.stmt-item.result c.loop-stmt-test.true c.stmt-item.is in
    let sizes = size_drop c.args.stmts.now c.loop-stmt.stmt-index c.stmt-item.result c.loop-stmt-test.true c.stmt-item.is in
    record {
      told = stmt_told c.loop-stmt.out.items _ _ (stmt_text names c.stmt-item.result) _ _ c.in_ok-put_stmt.ensures c.in_ok-push.ensures.items (ap (λ texts. c.loop-stmt.out.items ++ texts) (sym less) ∙ c.loop-stmt.invariant.told);
      none = omega (arith, none, c.loop-stmt.invariant.none);
      shorter = omega (arith, sizes, c.loop-stmt.invariant.shorter);
    }

pub put_choice-returns-in_ok-extend_from_slice-in-len1-up : goal.put_choice-returns-in_ok-extend_from_slice-in-len1-up
put_choice-returns-in_ok-extend_from_slice-in-len1-up t c =
    let names = c.args.names.now in
    let some = else_some names c.args.no.now.stmts (subst (λ xs. 1 ≤ length xs) c.stmts.ensures c.in-len1-up.len_at_least) in
    let both = braced (stmts_text names c.args.no.now.stmts) in
    rw some (two_texts c.args.out.now.items c.put_block.new.out.items c.put_block-in-len1-up.new.out.items _ _ c.put_block-in-len1-up.result c.in_ok-put_block.ensures (two_texts c.put_block.new.out.items c.extend_from_slice.new.self.items c.put_block-in-len1-up.new.out.items (codes " else ") both c.put_block-in-len1-up.result c.in_ok-extend_from_slice-in-len1-up.ensures.items c.put_block-in-len1-up.ensures))
