use Rattle.std.proofs.Common.{rules, ◌∙◌}
use Rattle.txn_syntax.specs.Places.{Left, Value}
use Rattle.txn_syntax.proofs.ItemsRead.{leads_from, leads_error, operand_with}
use Rattle.txn_syntax.proofs.item_reader.ItemReader.value.Goals as goal

pub returns-in_err-left-in_default : goal.returns-in_err-left-in_default
returns-in_err-left-in_default c =
    let same = c.in_ok-first.ensures.reads (Value c.args.to) ∙ operand_with c.args.to c.in_ok-first.first c.token.new.self c.in_default.not-Name ∙ c.in_err-left-in_default.ensures.reads (Left c.args.to) in
    record {
      reads = leads_error c.from_residual-in_err-left-in_default.result _ _ _ c.from_residual-in_err-left-in_default.ensures.1 same;
      stays = search rules;
    }

pub returns-in_ok-left-in_default : goal.returns-in_ok-left-in_default
returns-in_ok-left-in_default c =
    let same = c.in_ok-first.ensures.reads (Value c.args.to) ∙ operand_with c.args.to c.in_ok-first.first c.token.new.self c.in_default.not-Name ∙ c.in_ok-left-in_default.ensures.reads (Left c.args.to) in
    record {
      reads = leads_from c.behind_left.result _ _ _ same c.behind_left.ensures.reads;
      stays = search rules;
    }
