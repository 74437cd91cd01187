use Rattle.std.proofs.Common.{◌≡◌, ◌∙◌, arith, sym, ap, subst, length, IsOk}
use Rattle.access_sets.specs.Entries.{map_of, AreAscending}
use Rattle.access_sets.proofs.Maps.{length_map, few, appended}
use Rattle.access_sets.proofs.write_set.WriteSet.copy_from.Goals as goal

pub invariant_of-self : goal.invariant_of-self
invariant_of-self c =
    let rooms : c.self.inside.room ≡ c.other.inside.room = sym (length_map c.self.inside.room 0 c.self.inside.entries.items) ∙ ap length c.self.view_is ∙ c.requires ∙ sym (ap length c.other.view_is) ∙ length_map c.other.inside.room 0 c.other.inside.entries.items in
    let ok : IsOk c.extend_from_slice-copied.result = c.extend_from_slice-copied.ensures.succeeds (omega (arith, rooms, few _ _ c.other.invariant.ascending, c.self.invariant.fits, c.clear.ensures.len, c.clear.ensures.capacity, c.deref.ensures.len, c.other.inside.entries.ok.0)) in
    let items = appended _ _ _ _ _ c.extend_from_slice-copied.ensures.items ok c.clear.ensures.items c.deref.ensures.value in
    record {
      small = c.self.invariant.small;
      fits = omega (arith, c.self.invariant.fits, c.clear.ensures.capacity, c.extend_from_slice-copied.ensures.capacity);
      ascending = subst (λ n. AreAscending 0 n c.extend_from_slice-copied.new.self.items) (sym rooms) (subst (AreAscending 0 c.other.inside.room) (sym items) c.other.invariant.ascending);
    }

pub returns : goal.returns
returns c =
    let rooms : c.self.inside.room ≡ c.other.inside.room = sym (length_map c.self.inside.room 0 c.self.inside.entries.items) ∙ ap length c.self.view_is ∙ c.requires ∙ sym (ap length c.other.view_is) ∙ length_map c.other.inside.room 0 c.other.inside.entries.items in
    let ok : IsOk c.extend_from_slice-copied.result = c.extend_from_slice-copied.ensures.succeeds (omega (arith, rooms, few _ _ c.other.invariant.ascending, c.self.invariant.fits, c.clear.ensures.len, c.clear.ensures.capacity, c.deref.ensures.len, c.other.inside.entries.ok.0)) in
    ap (λ n. map_of 0 n c.extend_from_slice-copied.new.self.items) rooms ∙ ap (map_of 0 c.other.inside.room) (appended _ _ _ _ _ c.extend_from_slice-copied.ensures.items ok c.clear.ensures.items c.deref.ensures.value) ∙ c.other.view_is
