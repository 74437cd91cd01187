-- Lanes that a change doesn't mark.
use Rattle.std.specs.Prelude.{◌≡◌, ◌≢◌, ◌<◌, ◌==◌, ◌⊎◌, ℕ, false, List, length, map, Option, None, Some, IsTrue, slice_get, slice_index_or}
use Rattle.std.proofs.Common.{refl, sym, ap, ap₂, subst, arith, ◌∙◌, inl, inr, eqb-true, eq-eqb, true≢false, length-set}
use Rattle.std.proofs.lemmas.Bool.{cases_Bool, false_from_ne_true}
use Rattle.std.proofs.lemmas.List.{get_or-set_same, length-map}
use Rattle.std.proofs.lemmas.Option.{get_or_from_slice_get}
use Rattle.forest_model.proofs.Lists.{either}
use Rattle.shadow_state.proofs.Places.{all_get, some_at}
use Rattle.shadow_lanes.specs.Kept.{AreAll}
use Rattle.shadow_lanes.proofs.Lists.{get_map}
use Rattle.conflict_index.specs.Index.{Lane, Index, forgotten, lane_at, is_marked, point, point_at, lanes_with, MarksMoved}
use Rattle.indexed_lanes.specs.Placed.{in_places, AreUnmoved}
use Rattle.indexed_lanes.proofs.Orders.{apart, placed_lane}

-- Nothing changes.

pub none_moved : (old new : Index) → new ≡ old → AreUnmoved old new
none_moved old new is = λ place lt none. (sym (ap (λ (i : Index). is_marked i place) is) ∙ none, λ writer less ne. ap (λ (i : Index). point_at i place writer) is)

-- One change after another.

pub both_unmoved : (old mid new : Index) → length mid.lanes ≡ length old.lanes → AreUnmoved old mid → AreUnmoved mid new → AreUnmoved old new
both_unmoved old mid new long first second = λ place lt none.
    let later = second place (subst (λ n. place < n) (sym long) lt) none in
    let before = first place lt later.0 in
    (before.0, λ writer less ne. later.1 writer (subst (λ n. writer < n) (sym long) less) ne ∙ before.1 writer less ne)

-- One change of an index.

same_or : (a b : Option ℕ) → (a ≡ b) ⊎ (a ≢ b)
same_or None None = inl refl
same_or None (Some n) = inr (λ e. cc)
same_or (Some m) None = inr (λ e. cc)
same_or (Some m) (Some n) =
    either (cases_Bool (m == n))
    (λ e. inl (ap Some (eqb-true m n e)))
    (λ e. inr (λ q. let same : m ≡ n = cc in true≢false (sym (eq-eqb m n same) ∙ e)))

same_unless : (a b : Option ℕ) → (a ≢ b → ⊥) → a ≡ b
same_unless a b h = either (same_or a b) (λ e. e) (λ e. absurd (h e))

lane_unmoved : (old new : Index) (lane : ℕ) → MarksMoved old new → lane < length new.lanes → is_marked new lane ≡ false
    → (is_marked old lane ≡ false) × ((writer : ℕ) → writer < length new.lanes → writer ≢ lane → point_at new lane writer ≡ point_at old lane writer)
lane_unmoved old new lane moved lt none =
    let not_marked : IsTrue (is_marked new lane) → ⊥ = λ h. true≢false (sym h ∙ none) in (
      false_from_ne_true (is_marked old lane) (λ e. not_marked ((moved lane lt).1 (inl e))),
      λ writer less ne. same_unless (point_at new lane writer) (point_at old lane writer) (λ differ. not_marked ((moved lane lt).1 (inr (writer, less, ne, differ)))),
    )

-- The same, seen in an order.

-- the mark at a place
pub placed_mark : (index : Index) (order : List ℕ) (i n : ℕ) → slice_get order i ≡ Some n → is_marked (in_places index order) i ≡ is_marked index n
placed_mark index order i n is = get_or_from_slice_get (map (is_marked index) order) i (is_marked index n) false (get_map (is_marked index) order i n is)

-- the point of one place against another
pub placed_point : (index : Index) (order : List ℕ) (i j n m : ℕ) → slice_get order i ≡ Some n → slice_get order j ≡ Some m → point_at (in_places index order) i j ≡ point_at index n m
placed_point index order i j n m at_i at_j = ap₂ (λ (a b : Lane). point a.reads b.writes) (placed_lane index order i n at_i) (placed_lane index order j m at_j)

order_unmoved : (old new : Index) (order : List ℕ) (room n : ℕ) (lane : Lane) → AreAll (length old.lanes) order room → new.lanes ≡ lanes_with old n lane → MarksMoved old new
    → AreUnmoved (in_places old order) (in_places new order)
order_unmoved old new order room n lane h lanes moved = λ place lt none.
    let within : place < length order = omega (arith, lt, length-map order (lane_at old)) in
    let at = some_at order place within in
    let long : length new.lanes ≡ length old.lanes = ap length lanes ∙ length-set old.lanes n lane in
    let below : at.0 < length new.lanes = subst (λ k. at.0 < k) (sym long) (all_get (λ m. m < length old.lanes) order place at.0 h.within at.1) in
    let here = lane_unmoved old new at.0 moved below (sym (placed_mark new order place at.0 at.1) ∙ none) in (
      placed_mark old order place at.0 at.1 ∙ here.0,
      λ writer less ne.
          let there = some_at order writer (omega (arith, less, length-map order (lane_at old))) in
          let below' : there.0 < length new.lanes = subst (λ k. there.0 < k) (sym long) (all_get (λ m. m < length old.lanes) order writer there.0 h.within there.1) in
          placed_point new order place writer at.0 there.0 at.1 there.1
          ∙ here.1 there.0 below' (apart order writer place there.0 at.0 h.once there.1 at.1 ne)
          ∙ sym (placed_point old order place writer at.0 there.0 at.1 there.1),
    )

pub placed_unmoved : (old new view : Index) (order : List ℕ) (room n : ℕ) (lane : Lane) → in_places old order ≡ view → AreAll (length old.lanes) order room → new.lanes ≡ lanes_with old n lane → MarksMoved old new
    → AreUnmoved view (in_places new order)
placed_unmoved old new view order room n lane is h lanes moved = subst (λ v. AreUnmoved v (in_places new order)) is (order_unmoved old new order room n lane h lanes moved)

-- as many marks as before
pub marks_long : (old new view : Index) (order : List ℕ) → in_places old order ≡ view → length (map (is_marked new) order) ≡ length view.marks
marks_long old new view order is = length-map order (is_marked new) ∙ sym (length-map order (is_marked old)) ∙ ap (λ (v : Index). length v.marks) is

-- What was noted anew.

-- who isn't marked then had no point before
pub anew_gone : (first mid new : Index) (place : ℕ) → place < length first.lanes → mid.lanes ≡ lanes_with first place forgotten → AreUnmoved first mid → AreUnmoved mid new
    → is_marked new place ≡ false → (writer : ℕ) → writer < length first.lanes → writer ≢ place → point_at first place writer ≡ None
anew_gone first mid new place lt lanes forgot noted none writer less ne =
    let long : length mid.lanes ≡ length first.lanes = ap length lanes ∙ length-set first.lanes place forgotten in
    let later = noted place (subst (λ n. place < n) (sym long) lt) none in
    let empty : lane_at mid place ≡ forgotten = ap (λ ls. slice_index_or ls place forgotten) lanes ∙ get_or-set_same first.lanes place forgotten forgotten lt in
    sym ((forgot place lt later.0).1 writer less ne) ∙ ap (λ (l : Lane). point l.reads (lane_at mid writer).writes) empty
