use Rattle.std.proofs.Common.{◌∙◌, ap, arith, refl}
use Rattle.std.specs.Prelude.{slice_set}
use Rattle.shadow_state.specs.Bank.{placed_slot, fresh_slot}
use Rattle.shadow_lanes.specs.Kept.{Kept, seat_of, begun_again}
use Rattle.shadow_lanes.proofs.Views.{here, fits, same_kept, turned}
use Rattle.shadow_lanes.proofs.Upkeep.{kept_with, kept_set}
use Rattle.shadow_lanes.proofs.Changes.{placed_sides, seat_fresh}
use Rattle.shadow_lanes.proofs.lanes.Lanes.begin_again.Goals as goal

pub start-requires-clause-lane : goal.start-requires-clause-lane
start-requires-clause-lane c =
    let h = here c.self.inside.bank _ _ _ _ c.args.place c.index.result.now c.self.invariant (rw (← c.self.view_is) at c.requires.place) c.index.ensures in
    rw c.lane-lane.ensures h.within

pub invariant_of-self : goal.invariant_of-self
invariant_of-self c =
    let old = c.index_mut.result.now in
    let h = here c.self.inside.bank _ _ _ _ c.args.place old c.self.invariant (rw (← c.self.view_is) at c.requires.place) c.index_mut.ensures.value in
    let new = c.set_conflicts.ensures in
    let set = kept_set c.self.inside.bank _ _ _ _ c.args.place old c.set_conflicts.new.self h.is (ap (λ (k : Kept). k.lane) new) (ap (λ (k : Kept). k.number) new) (rw new c.self.invariant.banked.least) c.self.invariant in
    kept_with c.self.inside.bank _ _ _ _ _ c.lane-lane.result (placed_slot 0 (fresh_slot c.args.code.now.nodes c.self.inside.bank.items)) c.start.ensures set (λ lane is. placed_sides _ _ 0 (fresh_slot c.args.code.now.nodes c.self.inside.bank.items) lane refl)

pub returns : goal.returns
returns c =
    let old = c.index_mut.result.now in
    let nodes = c.args.code.now.nodes in
    let s = fresh_slot nodes c.self.inside.bank.items in
    let place = rw (← c.self.view_is) at c.requires.place in
    let h = here c.self.inside.bank _ _ _ _ c.args.place old c.self.invariant place c.index_mut.ensures.value in
    let first = here c.self.inside.bank _ _ _ _ c.args.place c.index.result.now c.self.invariant place c.index.ensures in
    let lane = c.lane-lane.ensures ∙ ap (λ (k : Kept). k.lane) (same_kept first h) in
    let new = c.set_conflicts.ensures in
    let seat = ap (λ k. seat_of k (slice_set h.lane.present 0 s)) new ∙ seat_fresh old s h.lane.present (omega (arith, fits h)) in
    let t = turned _ c.lane-lane.result c.set_conflicts.new.self (placed_slot 0 s) (begun_again nodes c.self.inside.bank.items) h c.start.ensures lane (ap (λ (k : Kept). k.lane) new) seat in
    rw (← c.self.view_is) t
