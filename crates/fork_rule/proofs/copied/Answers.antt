use Rattle.std.proofs.Common.{◌∙◌, ap, ◌≡◌}
use Rattle.forest_model.specs.Origin.{from_found, successor}
use Rattle.fork_rule.proofs.Positions.{fresh-past}
use Rattle.fork_rule.proofs.copied.Goals as goal

pub returns-clause-fresh : goal.returns-clause-fresh
returns-clause-fresh c =
    let is : c.copy_of.result ≡ successor c.args.positions.now c.args.limit = c.copy_of.ensures ∙ ap from_found c.furthest.ensures in
    rw is (fresh-past c.args.positions.now c.args.limit)
