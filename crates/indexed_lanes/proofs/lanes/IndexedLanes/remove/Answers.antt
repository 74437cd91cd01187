use Rattle.std.proofs.Common.{◌≡◌, ◌∙◌, ◌-◌, suc, ap, arith, sym, subst, length}
use Rattle.std.specs.Prelude.{remove}
use Rattle.shadow_state.proofs.Places.{some_at}
use Rattle.shadow_lanes.specs.Seats.{seats_without}
use Rattle.shadow_lanes.proofs.Order.{found_number}
use Rattle.indexed_lanes.specs.Wanted.{IsKept, IsIndexed}
use Rattle.indexed_lanes.proofs.Changes.{none_goes, goes_at, go_noted}
use Rattle.indexed_lanes.proofs.Keeping.{some_kept, none_kept}
use Rattle.indexed_lanes.proofs.Shifts.{moved_long, go_settled}
use Rattle.indexed_lanes.specs.declared.lanes.IndexedLanes.TheInside.{Inside}
use Rattle.indexed_lanes.proofs.lanes.IndexedLanes.remove.Goals as goal
use Rattle.indexed_lanes.proofs.lanes.IndexedLanes.remove.Goals.{in-Some+in-Some-find, in-Some+in_default-find, in_default}

pub invariant_of-self : goal.invariant_of-self
invariant_of-self c =
    let s = c.self.inside.lanes in
    let t = c.args.number in
    elim c.match-self.branch [
      | in-Some+in-Some-find w ↦
          let h = some_kept s c.self.inside.index w.in-Some.index w.in-Some.is c.self.invariant in
          let place = w.in-Some-find.place in
          let found = w.in-Some-find.ensures in
          let r = some_at s.seats place found.0 in
          let number = found_number s.seats r.0 t (sym found.1 ∙ r.1) in
          let areas = w.len-last.ensures.seats in
          let last : suc (w.len-last.result - 1) ≡ length s.seats = omega (arith, w.len-last.ensures.len, found.0) in
          let gone : seats_without t s.seats ≡ remove s.seats place = goes_at s.seats place t r.0 areas.rising r.1 number in
          let long : length w.forget.new.self.marks ≡ s.lanes = w.forget.ensures.marks ∙ h.marks in
          let kept : IsKept (record s { seats = remove s.seats place }) w.move_to.new.self = record {
            noted = go_noted s w.in-Some.index w.forget.new.self w.move_to.new.self place (w.len-last.result - 1) h.noted found.0 last areas.few w.forget.ensures.items w.forget.ensures.lanes w.move_to.ensures.items w.move_to.ensures.lanes;
            marks =
                ap length w.move_to.ensures.marks
                ∙ moved_long w.forget.new.self.marks place (w.len-last.result - 1) (omega (arith, long, found.0, areas.few)) (omega (arith, long, last, areas.few)) ∙ long;
            settled =
                go_settled s w.in-Some.index w.forget.new.self place h.noted found.0 w.forget.ensures.lanes w.forget.ensures.unmoved w.move_to.new.self (w.len-last.result - 1) h.settled long last areas.few
                w.move_to.ensures.marks;
          } in
          subst (λ (v : Inside). IsIndexed c.remove.new.self v.index) (sym w.self-inside-is)
          (rw (c.remove.ensures, w.self-inside-is) (subst (λ seats. IsKept (record s { seats = seats }) w.move_to.new.self) (sym gone) kept))
      | in-Some+in_default-find w ↦
          let h = some_kept s c.self.inside.index w.in-Some.index w.in-Some.is c.self.invariant in
          subst (λ (v : Inside). IsIndexed c.remove.new.self v.index) (sym w.self-inside-is)
          (rw (c.remove.ensures, w.self-inside-is) (subst (λ seats. IsKept (record s { seats = seats }) w.in-Some.index) (sym (none_goes s.seats t w.in_default-find.ensures)) h))
      | in_default w ↦
          subst (λ (v : Inside). IsIndexed c.remove.new.self v.index) (sym w.self-inside-is)
          (subst (IsIndexed c.remove.new.self) (sym w.in_default.is) (rw (c.remove.ensures, w.self-inside-is) (none_kept s c.self.inside.index w.in_default.is c.self.invariant)))
    ]
