use Rattle.shadow_lanes.proofs.Lists.{inserted}
use Rattle.std.proofs.Common.{◌∙◌, ◌++◌, ◌∷◌, [], length, ap, arith, refl, IsOk, length-append}
use Rattle.std.specs.Prelude.{insert}
use Rattle.shadow_state.specs.Bank.{placed_slot, fresh_slot}
use Rattle.shadow_lanes.specs.Kept.{Kept, AreKept, seated_in, place_in}
use Rattle.shadow_lanes.proofs.Upkeep.{kept_with}
use Rattle.shadow_lanes.proofs.Changes.{placed_sides}
use Rattle.shadow_lanes.proofs.Order.{place_within, none_is}
use Rattle.shadow_lanes.proofs.Comings.{coming, come_is, more_room}
use Rattle.shadow_lanes.proofs.lanes.Lanes.start.Goals as goal

pub insert-placed-requires : goal.insert-placed-requires
insert-placed-requires c =
    let place = c.place_before-place.ensures ∙ ap (place_in c.args.number) c.deref.ensures.value in
    omega (arith, place, place_within c.args.number c.self.inside.seats.items, c.self.inside.seats.ok.0)

pub invariant_of-self : goal.invariant_of-self
invariant_of-self c =
    let bank = c.self.inside.bank in
    let kept = c.self.inside.seats.items in
    let free = c.pop.new.self.items in
    let n = c.args.number in
    let k : Kept = record { number = n; lane = c.in-Some.lane; conflicts = [] } in
    let was = c.self.invariant in
    let h : AreKept bank kept (free ++ k.lane ∷ []) c.self.inside.seats.cap c.pop.new.self.cap = rw (← c.in-Some.ensures.items, c.in-Some.ensures.capacity) was in
    let place = c.place_before-place.ensures ∙ ap (place_in n) c.deref.ensures.value in
    let ok : IsOk c.insert-placed.result = c.insert-placed.ensures.succeeds (omega (arith, was.all, was.fits, ap length c.in-Some.ensures.items, length-append free (k.lane ∷ []), c.self.inside.seats.ok.0)) in
    let items = inserted _ _ _ _ c.insert-placed.ensures.items ok in
    let same = items ∙ (λ i. insert kept (place i) (c.new.ensures i)) in
    let none = none_is bank.sides kept n (rw (← c.self.view_is) at c.requires.new) in
    let come = coming bank kept free _ _ k h was.banked.least none in
    let f = placed_slot 0 (fresh_slot c.args.code.now.nodes bank.items) in
    let more = kept_with bank c.start.new.self _ _ _ _ k.lane f c.start.ensures come (λ lane is. placed_sides _ _ 0 (fresh_slot c.args.code.now.nodes bank.items) lane refl) in
    rw same (more_room c.start.new.self _ free _ c.insert-placed.new.self.cap c.pop.new.self.cap (omega (arith, c.insert-placed.ensures.capacity)) more)

pub returns : goal.returns
returns c =
    let bank = c.self.inside.bank in
    let kept = c.self.inside.seats.items in
    let free = c.pop.new.self.items in
    let n = c.args.number in
    let k : Kept = record { number = n; lane = c.in-Some.lane; conflicts = [] } in
    let was = c.self.invariant in
    let h : AreKept bank kept (free ++ k.lane ∷ []) c.self.inside.seats.cap c.self.inside.free.cap = rw (← c.in-Some.ensures.items) was in
    let place = c.place_before-place.ensures ∙ ap (place_in n) c.deref.ensures.value in
    let ok : IsOk c.insert-placed.result = c.insert-placed.ensures.succeeds (omega (arith, was.all, was.fits, ap length c.in-Some.ensures.items, length-append free (k.lane ∷ []), c.self.inside.seats.ok.0)) in
    let items = inserted _ _ _ _ c.insert-placed.ensures.items ok in
    let same = items ∙ (λ i. insert kept (place i) (c.new.ensures i)) in
    let s = fresh_slot c.args.code.now.nodes bank.items in
    rw (← c.self.view_is) (ap (seated_in c.start.new.self) same ∙ come_is bank c.start.new.self kept free _ _ k s h c.start.ensures refl)
