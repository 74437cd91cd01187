use Rattle.txn_syntax.specs.Places.{Start}
use Rattle.txn_syntax.proofs.ItemsRead.{takes_brace, takes_item, stops_at, not_more}
use Rattle.txn_syntax.proofs.read.take.Goals as goal

pub returns-in-OpenBlock-clause-took : goal.returns-in-OpenBlock-clause-took
returns-in-OpenBlock-clause-took c = λ p h. takes_brace c.args.machine.now c.begin.new.self p c.args.first _ c.in-Before.is c.in-OpenBlock.is h c.begin.ensures

pub returns-in-Ok-grow-clause-took : goal.returns-in-Ok-grow-clause-took
returns-in-Ok-grow-clause-took c = λ p h. takes_item c.args.machine.now c.grow.new.self p c.args.first c.args.items.now c.item.new.self c.in-Ok.item c.is_some.result c.in-Within.is c.is_some.ensures c.in-Ok.ensures.reads h c.in-Ok-grow.ensures

pub returns-in-Ok-grow-clause-fewer : goal.returns-in-Ok-grow-clause-fewer
returns-in-Ok-grow-clause-fewer c = not_more (Start c.is_some.result) c.args.first c.args.items.now c.in-Ok.item c.item.new.self.tokens c.in-Ok.ensures.reads

pub returns-in-Err-clause-took : goal.returns-in-Err-clause-took
returns-in-Err-clause-took c = λ p h. stops_at c.args.machine.now p c.args.first c.args.items.now c.item.new.self c.in-Err.at c.is_some.result c.in-Within.is c.is_some.ensures c.in-Err.ensures.reads h c.item.ensures.stays.0
