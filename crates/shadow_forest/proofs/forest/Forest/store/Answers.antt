use Rattle.std.proofs.Common.{◌≤◌, ap, sym, subst, ◌∙◌}
use Rattle.std.specs.Vec.{vec_capacity}
use Rattle.shadow_lanes.specs.Seats.{Seat, Seated, slots_of}
use Rattle.indexed_lanes.specs.Noted.{HasSameLists}
use Rattle.shadow_forest.specs.Bench.{takes, given_answer, after_give}
use Rattle.shadow_forest.specs.View.{with_numbers}
use Rattle.shadow_forest.specs.Kept.{numbers_waiting, forest_of, IsForest}
use Rattle.shadow_forest.proofs.FirstPlaces.{first-within}
use Rattle.shadow_forest.proofs.Placing.{some_same}
use Rattle.shadow_forest.proofs.Stores.{not-started, found-at, none-takes, one-takes, takes-it, is-present}
use Rattle.shadow_forest.proofs.forest.Forest.store.Goals as goal

-- The transaction isn't started.

pub returns-in_default-clause-answer : goal.returns-in_default-clause-answer
returns-in_default-clause-answer c =
    let i = c.self.inside in
    sym (ap given_answer (not-started i.journal i.tables i.txns.items (numbers_waiting i.waiting) i.lanes _ _ c.args.self.now c.self.view_is c.self.invariant.0 c.args.job c.args.state.now c.requires.outside c.requires.room c.in_default.ensures))

pub returns-in_default-clause-next : goal.returns-in_default-clause-next
returns-in_default-clause-next c =
    let i = c.self.inside in
    sym (ap (λ o. with_numbers (after_give c.args.self.now.numbers o) c.args.self.now) (not-started i.journal i.tables i.txns.items (numbers_waiting i.waiting) i.lanes _ _ c.args.self.now c.self.view_is c.self.invariant.0 c.args.job c.args.state.now c.requires.outside c.requires.room c.in_default.ensures))

-- No shadow takes it.

pub returns-in-None-clause-answer : goal.returns-in-None-clause-answer
returns-in-None-clause-answer c =
    let i = c.self.inside in
    let x = found-at i.journal i.tables i.txns.items (numbers_waiting i.waiting) i.lanes _ _ c.args.self.now c.self.view_is c.self.invariant.0 c.args.job c.args.state.now c.requires.outside c.requires.room c.in-Some.place c.in-Some.ensures.0 c.in-Some.ensures.1 in
    sym (ap given_answer (none-takes i.journal i.tables i.txns.items (numbers_waiting i.waiting) i.lanes _ _ c.args.self.now c.self.view_is c.self.invariant.0 c.args.job c.args.state.now c.requires.outside c.requires.room c.in-Some.place x.0 x.1 (sym c.in-None.is ∙ c.slot_out.ensures x.1.seat x.1.there)))

pub returns-in-None-clause-next : goal.returns-in-None-clause-next
returns-in-None-clause-next c =
    let i = c.self.inside in
    let x = found-at i.journal i.tables i.txns.items (numbers_waiting i.waiting) i.lanes _ _ c.args.self.now c.self.view_is c.self.invariant.0 c.args.job c.args.state.now c.requires.outside c.requires.room c.in-Some.place c.in-Some.ensures.0 c.in-Some.ensures.1 in
    sym (ap (λ o. with_numbers (after_give c.args.self.now.numbers o) c.args.self.now) (none-takes i.journal i.tables i.txns.items (numbers_waiting i.waiting) i.lanes _ _ c.args.self.now c.self.view_is c.self.invariant.0 c.args.job c.args.state.now c.requires.outside c.requires.room c.in-Some.place x.0 x.1 (sym c.in-None.is ∙ c.slot_out.ensures x.1.seat x.1.there)))

-- A shadow takes it.

pub store-requires-clause-slot : goal.store-requires-clause-slot
store-requires-clause-slot c = λ r there. first-within (takes c.args.job.from c.args.state.now.log.reads) (slots_of r) c.in-Some-slot_out.slot (sym c.in-Some-slot_out.is ∙ c.slot_out.ensures r there)

pub store-requires-clause-same : goal.store-requires-clause-same
store-requires-clause-same c = λ r is there.
    let i = c.self.inside in
    let x = found-at i.journal i.tables i.txns.items (numbers_waiting i.waiting) i.lanes _ _ c.args.self.now c.self.view_is c.self.invariant.0 c.args.job c.args.state.now c.requires.outside c.requires.room c.in-Some.place c.in-Some.ensures.0 c.in-Some.ensures.1 in
    let y = one-takes i.journal i.tables i.txns.items (numbers_waiting i.waiting) i.lanes _ _ c.args.self.now c.self.view_is c.self.invariant.0 c.args.job c.args.state.now c.requires.outside c.requires.room c.in-Some.place x.0 x.1 c.in-Some-slot_out.slot (sym c.in-Some-slot_out.is ∙ c.slot_out.ensures x.1.seat x.1.there) in
    subst (λ (q : Seat). HasSameLists q.optimistic.state c.args.state.now) (some_same _ _ (sym x.1.there ∙ there)) (y.lists is)

pub invariant_of-self : goal.invariant_of-self
invariant_of-self c =
    let i = c.self.inside in
    let x = found-at i.journal i.tables i.txns.items (numbers_waiting i.waiting) i.lanes _ _ c.args.self.now c.self.view_is c.self.invariant.0 c.args.job c.args.state.now c.requires.outside c.requires.room c.in-Some.place c.in-Some.ensures.0 c.in-Some.ensures.1 in
    let y = one-takes i.journal i.tables i.txns.items (numbers_waiting i.waiting) i.lanes _ _ c.args.self.now c.self.view_is c.self.invariant.0 c.args.job c.args.state.now c.requires.outside c.requires.room c.in-Some.place x.0 x.1 c.in-Some-slot_out.slot (sym c.in-Some-slot_out.is ∙ c.slot_out.ensures x.1.seat x.1.there) in (
      subst (IsForest i.journal i.tables i.txns.items (numbers_waiting i.waiting)) (sym c.store.ensures) y.all,
      subst (λ (l : Seated). l.lanes ≤ vec_capacity i.resumed) (sym c.store.ensures) c.self.invariant.1,
      c.self.invariant.2,
      c.self.invariant.3,
    )

pub returns-in-Some-slot_out-clause-answer : goal.returns-in-Some-slot_out-clause-answer
returns-in-Some-slot_out-clause-answer c =
    let i = c.self.inside in
    let x = found-at i.journal i.tables i.txns.items (numbers_waiting i.waiting) i.lanes _ _ c.args.self.now c.self.view_is c.self.invariant.0 c.args.job c.args.state.now c.requires.outside c.requires.room c.in-Some.place c.in-Some.ensures.0 c.in-Some.ensures.1 in
    let y = one-takes i.journal i.tables i.txns.items (numbers_waiting i.waiting) i.lanes _ _ c.args.self.now c.self.view_is c.self.invariant.0 c.args.job c.args.state.now c.requires.outside c.requires.room c.in-Some.place x.0 x.1 c.in-Some-slot_out.slot (sym c.in-Some-slot_out.is ∙ c.slot_out.ensures x.1.seat x.1.there) in
    sym (ap given_answer (takes-it i.journal i.tables i.txns.items (numbers_waiting i.waiting) i.lanes _ _ c.args.self.now c.self.view_is c.self.invariant.0 c.args.job c.args.state.now c.requires.outside c.requires.room c.in-Some.place x.0 x.1 c.in-Some-slot_out.slot y))

pub returns-in-Some-slot_out-clause-next : goal.returns-in-Some-slot_out-clause-next
returns-in-Some-slot_out-clause-next c =
    let i = c.self.inside in
    let x = found-at i.journal i.tables i.txns.items (numbers_waiting i.waiting) i.lanes _ _ c.args.self.now c.self.view_is c.self.invariant.0 c.args.job c.args.state.now c.requires.outside c.requires.room c.in-Some.place c.in-Some.ensures.0 c.in-Some.ensures.1 in
    let y = one-takes i.journal i.tables i.txns.items (numbers_waiting i.waiting) i.lanes _ _ c.args.self.now c.self.view_is c.self.invariant.0 c.args.job c.args.state.now c.requires.outside c.requires.room c.in-Some.place x.0 x.1 c.in-Some-slot_out.slot (sym c.in-Some-slot_out.is ∙ c.slot_out.ensures x.1.seat x.1.there) in
    ap (with_numbers (forest_of i.journal i.tables c.store.new.self)) c.self.view_is
    ∙ (ap (λ l. with_numbers (forest_of i.journal i.tables l) c.args.self.now) c.store.ensures
    ∙ sym (ap (λ o. with_numbers (after_give c.args.self.now.numbers o) c.args.self.now) (takes-it i.journal i.tables i.txns.items (numbers_waiting i.waiting) i.lanes _ _ c.args.self.now c.self.view_is c.self.invariant.0 c.args.job c.args.state.now c.requires.outside c.requires.room c.in-Some.place x.0 x.1 c.in-Some-slot_out.slot y)))

pub returns-in-Some-slot_out-clause-stored : goal.returns-in-Some-slot_out-clause-stored
returns-in-Some-slot_out-clause-stored c =
    let i = c.self.inside in
    let x = found-at i.journal i.tables i.txns.items (numbers_waiting i.waiting) i.lanes _ _ c.args.self.now c.self.view_is c.self.invariant.0 c.args.job c.args.state.now c.requires.outside c.requires.room c.in-Some.place c.in-Some.ensures.0 c.in-Some.ensures.1 in
    let y = one-takes i.journal i.tables i.txns.items (numbers_waiting i.waiting) i.lanes _ _ c.args.self.now c.self.view_is c.self.invariant.0 c.args.job c.args.state.now c.requires.outside c.requires.room c.in-Some.place x.0 x.1 c.in-Some-slot_out.slot (sym c.in-Some-slot_out.is ∙ c.slot_out.ensures x.1.seat x.1.there) in
    λ is. is-present i.journal i.tables i.txns.items (numbers_waiting i.waiting) i.lanes _ _ c.args.self.now c.self.view_is c.self.invariant.0 c.args.job c.args.state.now c.requires.outside c.requires.room c.in-Some.place x.0 x.1 c.in-Some-slot_out.slot y
