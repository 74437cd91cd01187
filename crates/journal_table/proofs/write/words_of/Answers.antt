use Rattle.std.proofs.Common.{◌≡◌, ◌∙◌, ◌++◌, ap, sym, drop, subst}
use Rattle.std.specs.Prelude.{codes, decimal}
use Rattle.std.specs.Result.{IfOk}
use Rattle.std.specs.Vec.{vec_len}
use Rattle.std.specs.Option.{option_to_list}
use Rattle.journal_core.specs.Reply.{outcome_words, commit_line}
use Rattle.journal_table.proofs.Texts.{popped, words-behind}
use Rattle.journal_table.proofs.write.words_of.Goals as goal

pub returns : goal.returns
returns c =
    let o = c.args.outcome.now in
    let line : c.put_reply.new.out.items ≡ commit_line 0 o = c.in_ok-put_reply.ensures.ok ∙ ap (λ l. l ++ commit_line 0 o) c.new-line.ensures.items in
    let pop = c.pop-newline.ensures in
    let at = c.deref.ensures.value in
    let front = popped c.put_reply.new.out.items c.deref.result.now (option_to_list c.pop-newline.result) (codes "commit " ++ decimal 0 ++ codes " " ++ outcome_words o) 10 (vec_len c.put_reply.new.out) (vec_len c.pop-newline.new.self) (pop.items ∙ ap (λ l. l ++ option_to_list c.pop-newline.result) (sym at)) pop.len c.deref.ensures.len (at ∙ pop.rest) line in
    subst (λ w. IfOk c.from_slice.result (λ v. v.items ≡ w)) (c.behind.ensures ∙ ap (drop 9) front ∙ words-behind o) c.from_slice.ensures.items
