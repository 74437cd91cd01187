use Rattle.report_check.specs.Kept.{held}
use Rattle.report_check.proofs.Takes.{long-differs}
use Rattle.report_check.proofs.check.Check.too_long.Goals as goal

pub returns : goal.returns
returns c = λ line long. long-differs c.args.names.now c.args.programs.now (held c.args.self.now) line c.count.ensures.limits c.requires c.read_programs.ensures c.read_values.ensures long
