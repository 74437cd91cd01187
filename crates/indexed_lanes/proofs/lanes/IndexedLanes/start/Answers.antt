use Rattle.std.proofs.Common.{◌≡◌, ◌∙◌, ◌<◌, ap, arith, sym, subst, length}
use Rattle.std.specs.Prelude.{None}
use Rattle.shadow_state.proofs.Places.{some_at}
use Rattle.shadow_lanes.specs.Seats.{Seated, fresh_seat, seats_with, find_seat}
use Rattle.shadow_lanes.proofs.Order.{found_number}
use Rattle.index_laws.proofs.Ties.{nothing-noted}
use Rattle.indexed_lanes.specs.Noted.{IsNoted}
use Rattle.indexed_lanes.specs.Wanted.{IsIndexed}
use Rattle.indexed_lanes.proofs.Keeping.{some_kept, some_noted, none_kept}
use Rattle.indexed_lanes.proofs.Shifts.{moved_long, come_settled}
use Rattle.indexed_lanes.proofs.Changes.{comes_at, comes_found, come_noted}
use Rattle.indexed_lanes.specs.declared.lanes.IndexedLanes.TheInside.{Inside}
use Rattle.indexed_lanes.proofs.lanes.IndexedLanes.start.Goals as goal
use Rattle.indexed_lanes.proofs.lanes.IndexedLanes.start.Goals.{in-Some+in-Some-find, in-Some+in_default-find, in_default}

pub move_to-requires-clause-to : goal.move_to-requires-clause-to
move_to-requires-clause-to c =
    let s = c.self.inside.lanes in
    let index = c.in-Some.index in
    let h = some_noted s c.self.inside.index index c.in-Some.is c.self.invariant in
    let room : length s.seats < s.lanes = rw (← c.self.view_is) at c.requires.room in
    let new : find_seat s.seats c.args.number ≡ None = rw (← c.self.view_is) at c.requires.new in
    let x = fresh_seat c.args.number c.args.code.now.nodes s.items in
    let seats = ap (λ (v : Seated). v.seats) c.start.ensures in
    let found = rw c.start.ensures at c.in-Some-find.ensures in
    let y = some_at (seats_with c.args.number c.args.code.now.nodes s.items s.seats) c.in-Some-find.place found.0 in
    let number = found_number (seats_with c.args.number c.args.code.now.nodes s.items s.seats) y.0 c.args.number (sym found.1 ∙ y.1) in
    let at = comes_at x s.seats c.in-Some-find.place y.0 new y.1 number in
    omega (arith, at.1, room, h.many)

pub invariant_of-self : goal.invariant_of-self
invariant_of-self c =
    let s = c.self.inside.lanes in
    let room : length s.seats < s.lanes = rw (← c.self.view_is) at c.requires.room in
    let new : find_seat s.seats c.args.number ≡ None = rw (← c.self.view_is) at c.requires.new in
    let nodes = c.args.code.now.nodes in
    let x = fresh_seat c.args.number nodes s.items in
    elim c.match-self.branch [
      | in-Some+in-Some-find w ↦
          let h = some_kept s c.self.inside.index w.in-Some.index w.in-Some.is c.self.invariant in
          let found = rw c.start.ensures at w.in-Some-find.ensures in
          let y = some_at (seats_with c.args.number nodes s.items s.seats) w.in-Some-find.place found.0 in
          let number = found_number (seats_with c.args.number nodes s.items s.seats) y.0 c.args.number (sym found.1 ∙ y.1) in
          let at = comes_at x s.seats w.in-Some-find.place y.0 new y.1 number in
          subst (λ (v : Inside). IsIndexed v.lanes v.index) (sym w.self-inside-is)
          (rw c.start.ensures (record {
            noted =
                subst (λ seats. IsNoted (record s { seats = seats }) w.move_to.new.self) (sym at.0)
                (come_noted s w.in-Some.index w.move_to.new.self x c.len-free.result w.in-Some-find.place h.noted room (nothing-noted s.items) c.len-free.ensures.len at.1 w.move_to.ensures.items w.move_to.ensures.lanes);
            marks = ap length w.move_to.ensures.marks ∙ moved_long w.in-Some.index.marks c.len-free.result w.in-Some-find.place (omega (arith, h.marks, room, c.len-free.ensures.len)) (omega (arith, h.marks, room, at.1)) ∙ h.marks;
            settled = come_settled s w.in-Some.index w.move_to.new.self c.args.number nodes c.len-free.result w.in-Some-find.place h.settled h.marks room c.len-free.ensures.len at.1 at.0 w.move_to.ensures.marks;
          }))
      | in-Some+in_default-find w ↦ absurd (comes_found x s.seats (subst (λ (v : Seated). find_seat v.seats c.args.number ≡ None) c.start.ensures w.in_default-find.ensures))
      | in_default w ↦
          subst (λ (v : Inside). IsIndexed v.lanes v.index) (sym w.self-inside-is)
          (rw c.start.ensures (subst (IsIndexed _) (sym w.in_default.is) (none_kept s c.self.inside.index w.in_default.is c.self.invariant)))
    ]
