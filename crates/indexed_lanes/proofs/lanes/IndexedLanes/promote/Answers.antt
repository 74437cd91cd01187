use Rattle.std.proofs.Common.{ap, arith, sym, subst}
use Rattle.std.specs.Prelude.{length}
use Rattle.shadow_state.proofs.Places.{some_at, length_at, get_same}
use Rattle.shadow_lanes.specs.Seats.{Seated, promoted_seat}
use Rattle.txn_interp.specs.State.{Held}
use Rattle.index_laws.specs.Noted.{lane_of_run}
use Rattle.indexed_lanes.specs.Wanted.{IsIndexed}
use Rattle.indexed_lanes.proofs.Notes.{first_state}
use Rattle.indexed_lanes.proofs.Keeping.{some_kept, none_kept, promoted_kept}
use Rattle.indexed_lanes.specs.declared.lanes.IndexedLanes.TheInside.{Inside}
use Rattle.indexed_lanes.proofs.lanes.IndexedLanes.promote.Goals as goal
use Rattle.indexed_lanes.proofs.lanes.IndexedLanes.promote.Goals.{in-Some, in_default}

pub state-requires-clause-place : goal.state-requires-clause-place
state-requires-clause-place c =
    let lt = rw (← c.self.view_is) at c.requires.place in
    omega (arith, lt, ap (λ (s : Seated). length s.seats) c.promote.ensures, length_at c.args.place (promoted_seat c.args.code.now.nodes c.self.inside.lanes.items c.args.cut) c.self.inside.lanes.seats)

pub invariant_of-self : goal.invariant_of-self
invariant_of-self c =
    let s = c.self.inside.lanes in
    let f = promoted_seat c.args.code.now.nodes s.items c.args.cut in
    let r = some_at s.seats c.args.place (rw (← c.self.view_is) at c.requires.place) in
    elim c.match-self.branch [
      | in-Some w ↦
          let h = some_kept s c.self.inside.index w.in-Some.index w.in-Some.is c.self.invariant in
          let there = get_same c.args.place f s.seats r.0 r.1 in
          let state = first_state _ c.args.place (f r.0) w.state.result.now there (rw c.promote.ensures at w.state.ensures.state) in
          subst (λ (x : Inside). IsIndexed x.lanes x.index) (sym w.self-inside-is)
          (rw c.promote.ensures (promoted_kept s w.in-Some.index w.note_anew.new.index c.args.place c.args.cut c.args.code.now.nodes r.0 (lane_of_run w.state.result.now.log.reads w.state.result.now.writes) r.1 (ap (λ (x : Held). lane_of_run x.log.reads x.writes) state)
          w.note_anew.ensures.items w.note_anew.ensures.lanes w.note_anew.ensures.marks w.note_anew.ensures.unmoved w.note_anew.ensures.gone h))
      | in_default w ↦
          subst (λ (x : Inside). IsIndexed x.lanes x.index) (sym w.self-inside-is)
          (rw c.promote.ensures (subst (IsIndexed _) (sym w.in_default.is) (none_kept s c.self.inside.index w.in_default.is c.self.invariant)))
    ]
