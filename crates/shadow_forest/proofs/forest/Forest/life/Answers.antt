use Rattle.std.proofs.Common.{◌≡◌, true, false, refl, sym, ◌∙◌, map}
use Rattle.journal_core.specs.Journal.{is_live}
use Rattle.forest_model.specs.Forest.{is_started}
use Rattle.shadow_lanes.specs.Seats.{started_of}
use Rattle.shadow_forest.proofs.Seen.{found-some}
use Rattle.shadow_forest.proofs.forest.Forest.life.Goals as goal

pub returns-then-is_some : goal.returns-then-is_some
returns-then-is_some c =
    let live : is_live c.self.inside.journal.entries c.args.txn ≡ true = sym c.live.ensures ∙ c.if-not-live.false in
    let some : is_started (map started_of c.self.inside.lanes.seats) c.args.txn ≡ true = sym (found-some c.self.inside.lanes.seats c.args.txn c.find.result c.find.ensures) ∙ (sym c.is_some.ensures ∙ c.if-is_some.true) in
    rw (← c.self.view_is) (rw (live, some) refl)

pub returns-else-is_some : goal.returns-else-is_some
returns-else-is_some c =
    let live : is_live c.self.inside.journal.entries c.args.txn ≡ true = sym c.live.ensures ∙ c.if-not-live.false in
    let none : is_started (map started_of c.self.inside.lanes.seats) c.args.txn ≡ false = sym (found-some c.self.inside.lanes.seats c.args.txn c.find.result c.find.ensures) ∙ (sym c.is_some.ensures ∙ c.if-is_some.false) in
    rw (← c.self.view_is) (rw (live, none) refl)
