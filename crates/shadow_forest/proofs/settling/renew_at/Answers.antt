use Rattle.std.proofs.Common.{◌≤◌, ℕ, length, subst}
use Rattle.shadow_forest.proofs.Places.{slice_get-some}
use Rattle.shadow_forest.proofs.SeatPlaces.{number-at}
use Rattle.shadow_forest.proofs.settling.renew_at.Goals as goal

pub code_of-code-requires-clause-least : goal.code_of-code-requires-clause-least
code_of-code-requires-clause-least c =
    let here = slice_get-some c.args.lanes.now.seats c.args.place c.requires.place in
    subst (λ (n : ℕ). 1 ≤ n) (number-at c.args.lanes.now.seats c.args.place here.0 c.number.result here.1 c.number.ensures) (c.requires.carried here.0 here.1).least

pub code_of-code-requires-clause-most : goal.code_of-code-requires-clause-most
code_of-code-requires-clause-most c =
    let here = slice_get-some c.args.lanes.now.seats c.args.place c.requires.place in
    subst (λ (n : ℕ). n ≤ length c.args.txns.now) (number-at c.args.lanes.now.seats c.args.place here.0 c.number.result here.1 c.number.ensures) (c.requires.carried here.0 here.1).most
