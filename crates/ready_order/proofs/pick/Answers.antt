use Rattle.std.proofs.Common.{rules, ◌≡◌, option_map}
use Rattle.forest_model.specs.Pick.{pick_of}
use Rattle.ready_order.proofs.Picks.{none-ready}
use Rattle.ready_order.proofs.pick.Goals as goal

pub returns-clause-none : goal.returns-clause-none
returns-clause-none c =
    let is : c.map.result ≡ option_map (λ row. (row.txn, row.role)) (pick_of c.args.rows.now) = search rules in
    rw is (none-ready _ c.args.rows.now)
