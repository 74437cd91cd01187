use Rattle.std.proofs.Common.{◌≡◌, ◌∙◌, sym, ap, refl, subst, inl, inr, [], arith, Some, append-nil, rules}
use Rattle.scc_ports.proofs.Gained.{Gains-nil}
use Rattle.scc_text.proofs.Asked.{Consumes-nil}
use Rattle.scc_text.proofs.LinesRead.{lines_read_opened}
use Rattle.line_loop.proofs.Kept.{looped-keeps}
use Rattle.turn_cell.specs.Passes.{seen_by, turns_of}
use Rattle.turn_cell.proofs.Prefixes.{prefix_self}
use Rattle.line_server.specs.Ran.{SessionRan}
use Rattle.line_server.specs.Stands.{stand, cell_in, seats_in, seen_in, turns_in, IsSameSession, IsSameBench}
use Rattle.line_server.proofs.Talking.{same-session, same-twice}
use Rattle.line_server.proofs.Ending.{session_looped}
use Rattle.line_server.proofs.Answered.{some-in}
use Rattle.line_server.proofs.run.session.Goals as goal

-- no reader was made
pub returns-in_default-clause-ran : goal.returns-in_default-clause-ran
returns-in_default-clause-ran g c = record {
  read = [];
  took = Consumes-nil _;
  few = omega arith;
  limit = (λ e. absurd (cc), λ n. absurd (omega arith));
  seen_longer = prefix_self (seen_by c.args.pass);
  turns = [];
  added = sym (append-nil (turns_of c.args.pass));
  talks = [];
  order = omega arith;
  none_quit = tt;
  ended = (Gains-nil _, inr (([], inl refl), refl));
}

-- what each answer, each work and each want of memory keeps is kept by the whole loop
pub pass_of-requires : goal.pass_of-requires
pass_of-requires g c =
    let same = looped-keeps (c.answer_lines-ending.ensures.looped _ [] [] [] (lines_read_opened _ _ c.in-Ok.ensures)) (λ a b. IsSameSession (stand a.names.now a.help a.pass) (stand b.names.now b.help b.pass))
    (record {
      none = λ x. same-session (stand x.names.now x.help x.pass);
      both = λ x y z one two. same-twice _ _ _ one two;
      answers = λ old line flow reply steps new answers. answers.1;
      works = λ old steps new works. works.1;
      fails = λ old line steps new fails. fails.1;
    }) in
    some-in _ same.cell

pub returns-clause-cell : goal.returns-clause-cell
returns-clause-cell g c =
    let same = looped-keeps (c.answer_lines-ending.ensures.looped _ [] [] [] (lines_read_opened _ _ c.in-Ok.ensures)) (λ a b. IsSameSession (stand a.names.now a.help a.pass) (stand b.names.now b.help b.pass))
    (record {
      none = λ x. same-session (stand x.names.now x.help x.pass);
      both = λ x y z one two. same-twice _ _ _ one two;
      answers = λ old line flow reply steps new answers. answers.1;
      works = λ old steps new works. works.1;
      fails = λ old line steps new fails. fails.1;
    }) in
    let place = c.pass_of.ensures in
    let cell : cell_in (Some c.pass_of.result) ≡ Some c.args.pass.seat.table_id = sym (ap cell_in place) ∙ same.cell in
    let seats : seats_in (Some c.pass_of.result) ≡ seats_in (Some c.args.pass) = sym (ap seats_in place) ∙ same.seats in
    let here = c.requires.cell in
    (cc, seats)

pub returns-clause-ran : goal.returns-clause-ran
returns-clause-ran g c =
    let ran = session_looped (c.answer_lines-ending.ensures.looped _ [] [] [] (lines_read_opened _ _ c.in-Ok.ensures)) (λ t. stand t.names.now t.help t.pass)
    (record {
      answers = λ old line flow reply steps new answers. (answers.0, answers.1);
      works = λ old steps new works. (works.0, works.1);
      fails = λ old line steps new fails. (fails.0, fails.1);
      ends = λ now text ends. ends;
    }) in
    subst (λ p. SessionRan c.args.names.now c.args.help (seen_by c.args.pass) (seen_in p) (turns_of c.args.pass) (turns_in p) c.end_of.result (g.S.Source.left c.args.source.now) (g.S.Source.left c.answer_lines-ending.new.source) (g.K.Sink.written c.args.sink.now) (g.K.Sink.written c.answer_lines-ending.new.sink))
    c.pass_of.ensures
    (subst (λ end. SessionRan c.args.names.now c.args.help (seen_by c.args.pass) (seen_in c.answer_lines-ending.new.machine.pass) (turns_of c.args.pass) (turns_in c.answer_lines-ending.new.machine.pass) end (g.S.Source.left c.args.source.now) (g.S.Source.left c.answer_lines-ending.new.source) (g.K.Sink.written c.args.sink.now) (g.K.Sink.written c.answer_lines-ending.new.sink))
    (sym c.end_of.ensures.end) ran)

pub returns-clause-bench : goal.returns-clause-bench
returns-clause-bench g c =
    let kept = looped-keeps (c.answer_lines-ending.ensures.looped _ [] [] [] (lines_read_opened _ _ c.in-Ok.ensures)) (λ a b. IsSameBench a.bench.ghost_name b.bench.ghost_name a.bench.now b.bench.now)
    (record {
      none = λ x. (refl, refl);
      both = λ x y z one two. (two.0 ∙ one.0, two.1 ∙ one.1);
      answers = λ old line flow reply steps new answers. answers.2;
      works = λ old steps new works. works.2;
      fails = λ old line steps new fails. fails.2;
    }) in
    let name = kept.0 in
    let bench = kept.1 in
    search (rules, name, bench)
