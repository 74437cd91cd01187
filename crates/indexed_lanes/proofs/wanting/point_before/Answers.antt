use Rattle.std.proofs.Common.{◌≡◌, ℕ, true, false, Option, None, Some, is_some, ap, refl, sym, ◌∙◌}
use Rattle.txn_runs.specs.Run.{Writes, own}
use Rattle.txn_interp.specs.State.{Held}
use Rattle.indexed_lanes.specs.Wanted.{point_with}
use Rattle.indexed_lanes.proofs.Notes.{first_state}
use Rattle.indexed_lanes.proofs.Settled.{point_there}
use Rattle.indexed_lanes.proofs.wanting.point_before.Goals as goal

found : (next : Option ℕ) (position at : ℕ) (ws : Writes) (p : Option ℕ) → Some at ≡ p → Some at ≡ point_with next position ws p
found None position at ws p is = is
found (Some item) position at ws p is = ap (point_with (Some item) position ws) is

unread : (next : Option ℕ) (position : ℕ) (ws : Writes) (p : Option ℕ) → next ≡ None → p ≡ None → None ≡ point_with next position ws p
unread next position ws p nothing is = rw (nothing, is) refl

filled : (next : Option ℕ) (item position at : ℕ) (ws : Writes) (p : Option ℕ) → next ≡ Some item → p ≡ None → is_some (own ws item) ≡ true → at ≡ position → Some at ≡ point_with next position ws p
filled next item position at ws p some is has same = rw (some, is, has, same) refl

unfilled : (next : Option ℕ) (item position : ℕ) (ws : Writes) (p : Option ℕ) → next ≡ Some item → p ≡ None → is_some (own ws item) ≡ false → None ≡ point_with next position ws p
unfilled next item position ws p some is has = rw (some, is, has) refl

pub returns-in-Some : goal.returns-in-Some
returns-in-Some c = λ r u at_r at_u.
    found c.args.next r.optimistic.state.position c.in-Some.at u.optimistic.state.writes _
    (sym c.in-Some.is ∙ c.point_of.ensures ∙ point_there c.args.lanes.now c.args.index.now c.args.place c.args.other r u c.requires.noted at_r at_u)

pub returns-in-None-next : goal.returns-in-None-next
returns-in-None-next c = λ r u at_r at_u.
    unread c.args.next r.optimistic.state.position u.optimistic.state.writes _ c.in-None-next.is
    (sym (point_there c.args.lanes.now c.args.index.now c.args.place c.args.other r u c.requires.noted at_r at_u) ∙ sym c.point_of.ensures ∙ c.in-None.is)

pub returns-then-is_some : goal.returns-then-is_some
returns-then-is_some c = λ r u at_r at_u.
    filled c.args.next c.in-Some-next.item r.optimistic.state.position c.position.result u.optimistic.state.writes _ c.in-Some-next.is
    (sym (point_there c.args.lanes.now c.args.index.now c.args.place c.args.other r u c.requires.noted at_r at_u) ∙ sym c.point_of.ensures ∙ c.in-None.is)
    (ap (λ (x : Held). is_some (own x.writes c.in-Some-next.item)) (sym (first_state c.args.lanes.now.seats c.args.other u c.state.result.now at_u c.state.ensures.state))
    ∙ ap (λ ws. is_some (own ws c.in-Some-next.item)) (sym c.writes.ensures.set) ∙ ap is_some (sym c.get.ensures) ∙ sym c.is_some.ensures ∙ c.if-is_some.true)
    (c.position.ensures ∙ ap (λ (x : Held). x.position) (first_state c.args.lanes.now.seats c.args.place r c.state-then-is_some.result.now at_r c.state-then-is_some.ensures.state))

pub returns-else-is_some : goal.returns-else-is_some
returns-else-is_some c = λ r u at_r at_u.
    unfilled c.args.next c.in-Some-next.item r.optimistic.state.position u.optimistic.state.writes _ c.in-Some-next.is
    (sym (point_there c.args.lanes.now c.args.index.now c.args.place c.args.other r u c.requires.noted at_r at_u) ∙ sym c.point_of.ensures ∙ c.in-None.is)
    (ap (λ (x : Held). is_some (own x.writes c.in-Some-next.item)) (sym (first_state c.args.lanes.now.seats c.args.other u c.state.result.now at_u c.state.ensures.state))
    ∙ ap (λ ws. is_some (own ws c.in-Some-next.item)) (sym c.writes.ensures.set) ∙ ap is_some (sym c.get.ensures) ∙ sym c.is_some.ensures ∙ c.if-is_some.false)
