use Rattle.std.proofs.Common.{rules, [], refl, ◌∙◌}
use Rattle.scc_text.proofs.LinesRead.{lines_read_opened}
use Rattle.line_loop.proofs.Kept.{looped-keeps}
use Rattle.line_loop_tests.specs.Tallies.{KeepsOwner}
use Rattle.line_loop_tests.proofs.machine.ending_over.Goals as goal

-- what each answer and each work keeps is kept by the whole loop
pub returns : goal.returns
returns g c =
    let kept = looped-keeps (c.answer_lines.ensures.looped _ [] [] [] (lines_read_opened _ _ c.in-Ok.ensures)) (λ a b. KeepsOwner a.tally.ghost_name b.tally.ghost_name a.tally.now.owner b.tally.now.owner)
    (record {
      none = λ x. (refl, refl);
      both = λ x y z one two. (two.0 ∙ one.0, two.1 ∙ one.1);
      answers = λ old line flow reply steps new answers. answers.2;
      works = λ old steps new works. works.1;
      fails = λ old line steps new fails. fails.1;
    }) in
    let name = kept.0 in
    let owner = kept.1 in
    search (rules, name, owner)
