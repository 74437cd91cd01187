use Rattle.shadow_lanes.proofs.Lists.{got_map}
use Rattle.std.proofs.Common.{◌∙◌, ap}
use Rattle.std.specs.Prelude.{slice_get}
use Rattle.forest_model.specs.Origin.{placed_of, successor}
use Rattle.shadow_state.proofs.Places.{at_alike, some_at}
use Rattle.shadow_lanes.specs.Seats.{Seat, started_of, promoted_by, promoted_seat}
use Rattle.shadow_lanes.specs.Kept.{succeeded, begun_again}
use Rattle.shadow_lanes.proofs.lanes.Lanes.promote.Goals as goal

pub returns-in-From : goal.returns-in-From
returns-in-From c =
    let s = c.args.self.now in
    let nodes = c.args.code.now.nodes in
    let there = some_at s.seats c.args.place c.requires.place in
    let r = there.0 in
    let rows = c.as_slice.ensures ∙ got_map (λ (q : Seat). placed_of (started_of q)) (slice_get s.seats c.args.place) r _ there.1 c.positions-rows.ensures in
    let comes = c.in-From.ensures.heir ∙ ap (λ ps. successor ps c.args.cut) rows in
    let same = at_alike c.args.place (succeeded c.in-From.role c.args.cut) (promoted_seat nodes s.items c.args.cut) s.seats r there.1 (ap (λ o. promoted_by o nodes s.items c.args.cut r) comes) in
    c.succeed.ensures ∙ ap (λ seats. record s { seats = seats }) same

pub returns-in-Fresh : goal.returns-in-Fresh
returns-in-Fresh c =
    let s = c.args.self.now in
    let nodes = c.args.code.now.nodes in
    let there = some_at s.seats c.args.place c.requires.place in
    let r = there.0 in
    let rows = c.as_slice.ensures ∙ got_map (λ (q : Seat). placed_of (started_of q)) (slice_get s.seats c.args.place) r _ there.1 c.positions-rows.ensures in
    let comes = c.in-Fresh.ensures.heir ∙ ap (λ ps. successor ps c.args.cut) rows in
    let same = at_alike c.args.place (begun_again c.args.code.now.nodes c.args.self.now.items) (promoted_seat nodes s.items c.args.cut) s.seats r there.1 (ap (λ o. promoted_by o nodes s.items c.args.cut r) comes) in
    c.begin_again.ensures ∙ ap (λ seats. record s { seats = seats }) same
