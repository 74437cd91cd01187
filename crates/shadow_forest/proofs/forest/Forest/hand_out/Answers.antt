use Rattle.std.proofs.Common.{◌≡◌, ◌≤◌, [], refl, Some, ap, sym, subst, ◌∙◌, length}
use Rattle.std.specs.Vec.{vec_capacity}
use Rattle.journal_core.specs.Journal.{program_of}
use Rattle.shadow_lanes.specs.Seats.{Seated}
use Rattle.shadow_forest.specs.Bench.{Outside, job_of}
use Rattle.shadow_forest.specs.View.{View, with_numbers}
use Rattle.shadow_forest.specs.Parts.{nodes_at}
use Rattle.shadow_forest.specs.Kept.{numbers_waiting, forest_of}
use Rattle.shadow_forest.proofs.PickedSlot.{row-at, row-nodes, row-run, row-job, row-outside, handed-kept, handed-numbers}
use Rattle.shadow_forest.proofs.forest.Forest.hand_out.Goals as goal

pub state-state-requires-clause-place : goal.state-state-requires-clause-place
state-state-requires-clause-place c =
    let i = c.self.inside in
    let k = row-at i.journal i.tables i.txns.items (numbers_waiting i.waiting) i.lanes _ _ c.place_of-place.result c.args.self.now c.args.row.now c.self.view_is c.self.invariant.0 c.place_of-place.ensures in
    k.v.a.below

pub state-state-requires-clause-slot : goal.state-state-requires-clause-slot
state-state-requires-clause-slot c =
    let i = c.self.inside in
    let k = row-at i.journal i.tables i.txns.items (numbers_waiting i.waiting) i.lanes _ _ c.place_of-place.result c.args.self.now c.args.row.now c.self.view_is c.self.invariant.0 c.place_of-place.ensures in
    k.x.within

pub code_of-requires-clause-least : goal.code_of-requires-clause-least
code_of-requires-clause-least c =
    let i = c.self.inside in
    let k = row-at i.journal i.tables i.txns.items (numbers_waiting i.waiting) i.lanes _ _ c.place_of-place.result c.args.self.now c.args.row.now c.self.view_is c.self.invariant.0 c.place_of-place.ensures in
    k.v.a.least

pub code_of-requires-clause-most : goal.code_of-requires-clause-most
code_of-requires-clause-most c =
    let i = c.self.inside in
    let k = row-at i.journal i.tables i.txns.items (numbers_waiting i.waiting) i.lanes _ _ c.place_of-place.result c.args.self.now c.args.row.now c.self.view_is c.self.invariant.0 c.place_of-place.ensures in
    subst (λ xs. c.args.row.now.txn ≤ length xs) (sym c.deref.ensures.value) k.v.a.most

pub load-requires-clause-outside : goal.load-requires-clause-outside
load-requires-clause-outside c =
    let i = c.self.inside in
    let k = row-at i.journal i.tables i.txns.items (numbers_waiting i.waiting) i.lanes _ _ c.place_of-place.result c.args.self.now c.args.row.now c.self.view_is c.self.invariant.0 c.place_of-place.ensures in
    row-outside i.journal i.tables i.txns.items (numbers_waiting i.waiting) i.lanes _ _ c.place_of-place.result c.args.self.now c.args.row.now c.self.view_is c.self.invariant.0 k c.state-state.result.now c.code_of.result.now.nodes c.position.result (c.code_of.ensures ∙ ap (λ xs. nodes_at xs c.args.row.now.txn) c.deref.ensures.value) c.state-state.ensures.state c.state-state.ensures.room c.position.ensures

pub set_out-requires-clause-place : goal.set_out-requires-clause-place
set_out-requires-clause-place c =
    let i = c.self.inside in
    let k = row-at i.journal i.tables i.txns.items (numbers_waiting i.waiting) i.lanes _ _ c.place_of-place.result c.args.self.now c.args.row.now c.self.view_is c.self.invariant.0 c.place_of-place.ensures in
    k.v.a.below

pub set_out-requires-clause-slot : goal.set_out-requires-clause-slot
set_out-requires-clause-slot c =
    let i = c.self.inside in
    let k = row-at i.journal i.tables i.txns.items (numbers_waiting i.waiting) i.lanes _ _ c.place_of-place.result c.args.self.now c.args.row.now c.self.view_is c.self.invariant.0 c.place_of-place.ensures in
    k.x.within

pub invariant_of-self : goal.invariant_of-self
invariant_of-self c =
    let i = c.self.inside in
    let k = row-at i.journal i.tables i.txns.items (numbers_waiting i.waiting) i.lanes _ _ c.place_of-place.result c.args.self.now c.args.row.now c.self.view_is c.self.invariant.0 c.place_of-place.ensures in
    (handed-kept i.journal i.tables i.txns.items (numbers_waiting i.waiting) i.lanes _ _ c.place_of-place.result c.args.self.now c.args.row.now c.self.view_is c.self.invariant.0 k c.set_out.new.self c.set_out.ensures, subst (λ (x : Seated). x.lanes ≤ vec_capacity i.resumed) (sym c.set_out.ensures) c.self.invariant.1, c.self.invariant.2, c.self.invariant.3)

pub returns-clause-next : goal.returns-clause-next
returns-clause-next c =
    let i = c.self.inside in
    let k = row-at i.journal i.tables i.txns.items (numbers_waiting i.waiting) i.lanes _ _ c.place_of-place.result c.args.self.now c.args.row.now c.self.view_is c.self.invariant.0 c.place_of-place.ensures in
    ap (with_numbers (forest_of i.journal i.tables c.set_out.new.self)) c.self.view_is
    ∙ ap (λ f. with_numbers f c.args.self.now) (handed-numbers i.journal i.tables i.txns.items (numbers_waiting i.waiting) i.lanes _ _ c.place_of-place.result c.args.self.now c.args.row.now c.self.view_is c.self.invariant.0 k c.set_out.new.self c.set_out.ensures)

pub returns-clause-job : goal.returns-clause-job
returns-clause-job c =
    let i = c.self.inside in
    let k = row-at i.journal i.tables i.txns.items (numbers_waiting i.waiting) i.lanes _ _ c.place_of-place.result c.args.self.now c.args.row.now c.self.view_is c.self.invariant.0 c.place_of-place.ensures in
    let state = c.state-state.result.now in
    let x : Outside = record { number = c.args.row.now.txn; from = c.position.result; nodes = c.code_of.result.now.nodes; state = state } in
    let items : state.log.room ≡ c.args.bench.now.items = c.state-state.ensures.room ∙ (c.self.invariant.0.items ∙ (ap (λ (v : View). length v.numbers.tables) c.self.view_is ∙ sym c.requires.items)) in (
      x,
      c.load.ensures ∙ (λ j. record { items = items j; outside = Some x }),
      refl,
      ap (λ n. job_of (program_of c.args.self.now.numbers.journal c.args.row.now.txn) (record { number = c.args.row.now.txn; from = n; nodes = []; state = state })) c.position.ensures
          ∙ row-job i.journal i.tables i.txns.items (numbers_waiting i.waiting) i.lanes _ _ c.place_of-place.result c.args.self.now c.args.row.now c.self.view_is c.self.invariant.0 k state c.state-state.ensures.state,
      record {
        nodes = row-nodes i.journal i.tables i.txns.items (numbers_waiting i.waiting) i.lanes _ _ c.place_of-place.result c.args.self.now c.args.row.now c.self.view_is c.self.invariant.0 k c.code_of.result.now.nodes (c.code_of.ensures ∙ ap (λ xs. nodes_at xs c.args.row.now.txn) c.deref.ensures.value);
        run = row-run i.journal i.tables i.txns.items (numbers_waiting i.waiting) i.lanes _ _ c.place_of-place.result c.args.self.now c.args.row.now c.self.view_is c.self.invariant.0 k state c.state-state.ensures.state;
      },
    )
