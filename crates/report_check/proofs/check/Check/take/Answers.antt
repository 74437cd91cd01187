use Rattle.std.proofs.Common.{◌-◌, ◌^◌, ap, sym, ◌∙◌, arith}
use Rattle.std.specs.Prelude.{min, option_map}
use Rattle.std.proofs.lemmas.Option.{none-some}
use Rattle.std.proofs.lemmas.Result.{IfOk-weaker}
use Rattle.report_check.specs.Kept.{held}
use Rattle.report_check.proofs.Takes.{takes-commit, takes-last, unread-number}
use Rattle.report_check.proofs.check.Check.take.Goals as goal

pub returns-then-self-gt0-clause-takes : goal.returns-then-self-gt0-clause-takes
returns-then-self-gt0-clause-takes g c =
    IfOk-weaker _ _ _ (λ goes tells. takes-last c.args.names.now c.args.programs.now (held c.args.self.now) _ c.args.line.now goes c.count.ensures.limits c.requires
    (λ start. let some = c.if-self-gt0.true in absurd (omega (arith, some, start))) tells) c.take_last.ensures

pub returns-in-Some-clause-takes : goal.returns-in-Some-clause-takes
returns-in-Some-clause-takes g c =
    IfOk-weaker _ _ _ (λ goes commits. takes-commit c.args.names.now c.args.programs.now (held c.args.self.now) _ c.args.line.now goes c.count.ensures.limits c.requires (let none = c.if-self-gt0.false in omega (arith, none))
    (λ none. none-some c.in-Some.txn (sym (c.in-Some.ensures ∙ ap (option_map (λ n. min n (2 ^ 64 - 1))) none))) commits) c.take_commit.ensures.commits

pub returns-in-None-clause-takes : goal.returns-in-None-clause-takes
returns-in-None-clause-takes g c =
    IfOk-weaker _ _ _ (λ goes tells. takes-last c.args.names.now c.args.programs.now (held c.args.self.now) _ c.args.line.now goes c.count.ensures.limits c.requires
    (λ start. unread-number c.args.line.now (sym c.in-None.ensures)) tells) c.take_last-in-None.ensures
