use Rattle.std.proofs.Common.{◌≡◌, ◌<◌, ◌∙◌, ℤ, arith, sym, ap, subst, length, w64, Some, IsOk}
use Rattle.std.proofs.lemmas.Int.{to_z-of_z}
use Rattle.std.specs.Prelude.{set, insert, slice_get, slice_set}
use Rattle.access_sets.specs.Entries.{map_of, place_of, AreAscending}
use Rattle.access_sets.proofs.Maps.{length_map, set_put, insert_put, put_is, place_within, inserted, some_below}
use Rattle.access_sets.proofs.Places.{ascending_within}
use Rattle.access_sets.proofs.write_set.WriteSet.set.Goals as goal

pub place_in-place-requires : goal.place_in-place-requires
place_in-place-requires c =
    record { ascending = subst (AreAscending 0 1024) (sym c.deref.ensures.value) (ascending_within 0 _ 1024 _ c.self.invariant.small c.self.invariant.ascending) }

pub invariant_of-self : goal.invariant_of-self
invariant_of-self c =
    let es = c.self.inside.entries.items in
    let item = c.args.item in
    let place : c.place_in-place.result ≡ place_of es item = c.place_in-place.ensures ∙ ap (λ x. place_of x item) c.deref.ensures.value in
    let hit = c.has_at.ensures.0 c.if-has_at.true in
    let is : slice_get es (place_of es item) ≡ Some (item, hit.0) = sym (ap (slice_get es) place) ∙ sym (ap (λ x. slice_get x c.place_in-place.result) c.deref-2.ensures.value) ∙ hit.1 in
    let put = set_put 0 c.self.inside.room item c.args.value hit.0 es c.self.invariant.ascending is in
    record {
      small = c.self.invariant.small;
      fits = c.self.invariant.fits;
      ascending = rw (to_z-of_z w64 c.args.value c.ranges.value) (subst (λ n. AreAscending 0 c.self.inside.room (set es n (item, c.args.value))) (sym place) put.ascending);
    }

pub returns-then-has_at : goal.returns-then-has_at
returns-then-has_at c =
    let es = c.self.inside.entries.items in
    let item = c.args.item in
    let room = c.self.inside.room in
    let place : c.place_in-place.result ≡ place_of es item = c.place_in-place.ensures ∙ ap (λ x. place_of x item) c.deref.ensures.value in
    let hit = c.has_at.ensures.0 c.if-has_at.true in
    let is : slice_get es (place_of es item) ≡ Some (item, hit.0) = sym (ap (slice_get es) place) ∙ sym (ap (λ x. slice_get x c.place_in-place.result) c.deref-2.ensures.value) ∙ hit.1 in
    let put = set_put 0 room item c.args.value hit.0 es c.self.invariant.ascending is in
    let below : item < room = omega (arith, c.requires, length_map room 0 es, ap length c.self.view_is) in
    let step : map_of 0 room (set es c.place_in-place.result (item, c.args.value)) ≡ slice_set c.args.self.now item (Some c.args.value) = ap (λ n. map_of 0 room (set es n (item, c.args.value))) place ∙ put_is room item c.args.value es _ below put ∙ ap (λ m. slice_set m item (Some c.args.value)) c.self.view_is in
    rw (to_z-of_z w64 c.args.value c.ranges.value) step

pub insert-placed-requires : goal.insert-placed-requires
insert-placed-requires c =
    let es = c.self.inside.entries.items in
    let place : c.place_in-place.result ≡ place_of es c.args.item = c.place_in-place.ensures ∙ ap (λ x. place_of x c.args.item) c.deref.ensures.value in
    omega (arith, place, place_within es c.args.item, c.self.inside.entries.ok.0)

pub invariant_of-self-else-has_at : goal.invariant_of-self-else-has_at
invariant_of-self-else-has_at c =
    let es = c.self.inside.entries.items in
    let item = c.args.item in
    let room = c.self.inside.room in
    let place : c.place_in-place.result ≡ place_of es item = c.place_in-place.ensures ∙ ap (λ x. place_of x item) c.deref.ensures.value in
    let none : (w : ℤ) → slice_get es (place_of es item) ≡ Some (item, w) → ⊥ = λ w e. let t = c.has_at.ensures.1 (w, ap (λ x. slice_get x c.place_in-place.result) c.deref-2.ensures.value ∙ ap (slice_get es) place ∙ e) in let f = c.if-has_at.false in cc in
    let below : item < room = omega (arith, c.requires, length_map room 0 es, ap length c.self.view_is) in
    let ok : IsOk c.insert-placed.result = c.insert-placed.ensures.succeeds (omega (arith, some_below room item c.args.value es below c.self.invariant.ascending none, c.self.invariant.fits, c.self.inside.entries.ok.0)) in
    let items : c.insert-placed.new.self.items ≡ insert es c.place_in-place.result (item, c.args.value) = inserted _ _ _ _ (rw (to_z-of_z w64 c.args.value c.ranges.value) at c.insert-placed.ensures.items) ok in
    record {
      small = c.self.invariant.small;
      fits = omega (arith, c.self.invariant.fits, c.insert-placed.ensures.capacity);
      ascending = subst (AreAscending 0 room) (sym (items ∙ ap (λ n. insert es n (item, c.args.value)) place)) (insert_put 0 room item c.args.value es (omega arith) below c.self.invariant.ascending none).ascending;
    }

pub returns-else-has_at : goal.returns-else-has_at
returns-else-has_at c =
    let es = c.self.inside.entries.items in
    let item = c.args.item in
    let room = c.self.inside.room in
    let place : c.place_in-place.result ≡ place_of es item = c.place_in-place.ensures ∙ ap (λ x. place_of x item) c.deref.ensures.value in
    let none : (w : ℤ) → slice_get es (place_of es item) ≡ Some (item, w) → ⊥ = λ w e. let t = c.has_at.ensures.1 (w, ap (λ x. slice_get x c.place_in-place.result) c.deref-2.ensures.value ∙ ap (slice_get es) place ∙ e) in let f = c.if-has_at.false in cc in
    let below : item < room = omega (arith, c.requires, length_map room 0 es, ap length c.self.view_is) in
    let ok : IsOk c.insert-placed.result = c.insert-placed.ensures.succeeds (omega (arith, some_below room item c.args.value es below c.self.invariant.ascending none, c.self.invariant.fits, c.self.inside.entries.ok.0)) in
    let items : c.insert-placed.new.self.items ≡ insert es c.place_in-place.result (item, c.args.value) = inserted _ _ _ _ (rw (to_z-of_z w64 c.args.value c.ranges.value) at c.insert-placed.ensures.items) ok in
    ap (map_of 0 room) (items ∙ ap (λ n. insert es n (item, c.args.value)) place) ∙ put_is room item c.args.value es _ below (insert_put 0 room item c.args.value es (omega arith) below c.self.invariant.ascending none) ∙ ap (λ m. slice_set m item (Some c.args.value)) c.self.view_is
