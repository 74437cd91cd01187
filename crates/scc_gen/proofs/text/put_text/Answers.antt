use Rattle.std.proofs.Common.{◌+◌, ◌*◌, ◌≡◌, ◌++◌, ap, ◌∙◌, arith}
use Rattle.scc_gen.specs.Generated.{drawn, gen_text}
use Rattle.scc_gen.proofs.SoFar.{drawn-behind, next-text, grown-on}
use Rattle.scc_gen.proofs.text.put_text.Goals as goal

pub returns-in_err-put_transfer-clause-grown : goal.returns-in_err-put_transfer-clause-grown
returns-in_err-put_transfer-clause-grown c = grown-on _ _ _ c.loop-number.invariant.grown c.in_err-put_transfer.ensures.grown

pub loop-number-preserved : goal.loop-number-preserved
loop-number-preserved c =
    let so_far = c.loop-number.invariant in
    let n = c.loop-number._number in
    let next : 5 * n + 5 ≡ 5 * (n + 1) = omega arith in
    record {
      drawn = c.draw_transfer.ensures.last ∙ ap (λ x. drawn x 5) so_far.drawn ∙ drawn-behind c.args.seed (5 * n) 5 ∙ ap (drawn c.args.seed) next;
      room = c.draw_transfer.ensures.room;
      text = next-text c.args.seed n _ _ _ _ _ so_far.drawn c.draw_transfer.ensures.transfer so_far.text c.in_ok-put_transfer.ensures.line;
      grown = grown-on _ _ _ so_far.grown c.in_ok-put_transfer.ensures.grown;
    }

pub returns-clause-ok : goal.returns-clause-ok
returns-clause-ok c =
    let all : c.loop-number._number ≡ c.args.count = omega (arith, c.loop-number-test.false, c.loop-number.auto._number-end) in
    c.loop-number.invariant.text ∙ ap (λ n. c.args.out.now.items ++ gen_text c.args.seed n) all
