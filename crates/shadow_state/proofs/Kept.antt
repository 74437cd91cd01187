-- A slot or a lane that is changed in place, and what the bank keeps.
use Rattle.std.specs.Prelude.{◌≡◌, ◌<◌, ℕ, Bool, List, length, get_or, slice_get, slice_set, Option, None, Some}
use Rattle.std.proofs.Common.{refl, ap, arith, ◌∙◌, length-set}
use Rattle.txn_interp.specs.State.{Held}
use Rattle.shadow_state.specs.Bank.{Slot, Sides, Banked, IsOver, IsSide, AreSides, IsBanked, at_place, put_some, forked, marked_slot, marked_in, with_state, state_in, stored_slot, stored_in, lane_with}
use Rattle.shadow_state.proofs.Places.{get_at, set_at, length_at, all_at, all_get, all_set}

pub slot_set : (lane : Sides) (present other : List Slot) (n : ℕ) (old new : Slot) (f : Slot → Slot) → record { present = present; other = other } ≡ lane → n < length lane.present → old ≡ get_or present n old → new ≡ f old → record { present = slice_set present n new; other = other } ≡ record lane { present = at_place n f lane.present }
slot_set lane present other n old new f is lt at e =
    let within : n < length present = omega (arith, lt, ap (λ (l : Sides). length l.present) is) in
    let same = set_at present n old new f (get_at present n old within at) e in
    (λ i. record { present = same i; other = other }) ∙ ap (λ (l : Sides). record l { present = at_place n f l.present }) is

pub lane_set : (bank : Banked) (items most : ℕ) (sides : List Sides) (n : ℕ) (old new : Sides) (f : Sides → Sides) → record { items = items; most = most; sides = sides } ≡ bank → n < length bank.sides → old ≡ get_or sides n old → new ≡ f old → record { items = items; most = most; sides = slice_set sides n new } ≡ lane_with n f bank
lane_set bank items most sides n old new f is lt at e =
    let within : n < length sides = omega (arith, lt, ap (λ (b : Banked). length b.sides) is) in
    let same = set_at sides n old new f (get_at sides n old within at) e in
    (λ i. record { items = items; most = most; sides = same i }) ∙ ap (λ (b : Banked). lane_with n f b) is

-- a lane within the bank is one
pub lane_kept : (items most : ℕ) (sides : List Sides) (n : ℕ) (old : Sides) → IsBanked items most sides → n < length sides → old ≡ get_or sides n old → AreSides items most old
lane_kept items most sides n old h lt at = all_get (AreSides items most) sides n old h.each (get_at sides n old lt at)

pub banked_set : (items most : ℕ) (sides : List Sides) (n : ℕ) (new : Sides) → IsBanked items most sides → AreSides items most new → IsBanked items most (slice_set sides n new)
banked_set items most sides n new h one = record {
  small = h.small;
  least = h.least;
  few = h.few;
  some = omega (arith, h.some, length-set sides n new);
  many = omega (arith, h.many, length-set sides n new);
  each = all_set (AreSides items most) sides n new one h.each;
}

-- a side with one slot changed
pub side_at : (items most n : ℕ) (f : Slot → Slot) (slots : List Slot) → ((s : Slot) → IsOver items s → IsOver items (f s)) → IsSide items most slots → IsSide items most (at_place n f slots)
side_at items most n f slots keeps h = record { many = length_at n f slots ∙ h.many; over = all_at (IsOver items) n f slots (λ s is. keeps s) h.over }

pub side_set : (items most n : ℕ) (s : Slot) (slots : List Slot) → IsOver items s → IsSide items most slots → IsSide items most (slice_set slots n s)
side_set items most n s slots over h = record { many = length-set slots n s ∙ h.many; over = all_set (IsOver items) slots n s over h.over }

pub marked_sides : (items most slot : ℕ) (out : Bool) (lane : Sides) → AreSides items most lane → AreSides items most (marked_in slot out lane)
marked_sides items most slot out lane h = record { present = side_at items most slot (marked_slot out) lane.present (λ s over. over) h.present; other = h.other }

some_sides : (items most to : ℕ) (o : Option Slot) (slots : List Slot) → ((s : Slot) → o ≡ Some s → IsOver items s) → IsSide items most slots → IsSide items most (put_some o to slots)
some_sides items most to None slots over h = h
some_sides items most to (Some s) slots over h = side_set items most to s slots (over s refl) h

pub forked_sides : (items most from to : ℕ) (lane : Sides) → AreSides items most lane → AreSides items most (forked from to lane)
forked_sides items most from to lane h =
    record { present = some_sides items most to (slice_get lane.other from) lane.present (λ s is. all_get (IsOver items) lane.other from s h.other.over is) h.present; other = h.other }

pub state_sides : (items most slot : ℕ) (state : Held) (lane : Sides) → state.log.room ≡ items → AreSides items most lane → AreSides items most (state_in slot state lane)
state_sides items most slot state lane room h = record { present = side_at items most slot (with_state state) lane.present (λ s over. room) h.present; other = h.other }

pub stored_sides : (items most slot : ℕ) (state : Held) (lane : Sides) → state.log.room ≡ items → AreSides items most lane → AreSides items most (stored_in slot state lane)
stored_sides items most slot state lane room h = record { present = side_at items most slot (stored_slot state) lane.present (λ s over. room) h.present; other = h.other }
