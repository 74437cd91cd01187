use Rattle.std.proofs.Common.{◌++◌, take, sym, ap, ◌∙◌, eq-eqb}
use Rattle.std.proofs.lemmas.Bool.{ne_eqb}
use Rattle.std.proofs.lemmas.List.{append-nil, take_all}
use Rattle.report_check.proofs.Words.{word-next, word-ends, word-over}
use Rattle.report_check.proofs.lines.first_word.Goals as goal

pub returns-then-bytes-i-eq32 : goal.returns-then-bytes-i-eq32
returns-then-bytes-i-eq32 c =
    let bytes = c.args.bytes.now in
    let i = c.loop-i.i in
    sym (append-nil (take i bytes)) ∙ ap (λ rest. take i bytes ++ rest) (sym (word-ends bytes i (eq-eqb _ 32 c.if-bytes-i-eq32.true))) ∙ c.loop-i.invariant

pub loop-i-preserved : goal.loop-i-preserved
loop-i-preserved c = sym (word-next c.args.bytes.now c.loop-i.i c.loop-i-test.true (ne_eqb _ 32 c.if-bytes-i-eq32.false)) ∙ c.loop-i.invariant

pub returns : goal.returns
returns c =
    let bytes = c.args.bytes.now in
    let i = c.loop-i.i in
    sym (take_all i bytes c.loop-i-test.false) ∙ sym (append-nil (take i bytes)) ∙ ap (λ rest. take i bytes ++ rest) (sym (word-over bytes i c.loop-i-test.false)) ∙ c.loop-i.invariant
