use Rattle.std.proofs.Common.{◌≡◌, false, length, replicate, refl, rules}
use Rattle.report_check.proofs.Taking.{stands-none}
use Rattle.report_check.proofs.check.Check.open.Goals as goal

pub returns-clause-empty : goal.returns-clause-empty
returns-clause-empty c =
    let none : c.in_ok-taken.taken.items ≡ replicate (length c.args.programs.now) false = search rules in
    stands-none c.args.names.now c.args.table c.args.programs.now _ refl none refl refl
