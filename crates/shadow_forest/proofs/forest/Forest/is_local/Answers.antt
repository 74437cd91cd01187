use Rattle.std.proofs.Common.{◌≤◌, ap, sym, subst, ◌∙◌, length}
use Rattle.forest_model.specs.Runs.{is_local_kind}
use Rattle.shadow_forest.specs.Parts.{nodes_at}
use Rattle.shadow_forest.specs.Kept.{numbers_waiting}
use Rattle.shadow_forest.proofs.PickedSlot.{row-at, row-runs, row-kind, not-local}
use Rattle.shadow_forest.proofs.forest.Forest.is_local.Goals as goal

pub code_of-code-requires-clause-least : goal.code_of-code-requires-clause-least
code_of-code-requires-clause-least c =
    let i = c.self.inside in
    let k = row-at i.journal i.tables i.txns.items (numbers_waiting i.waiting) i.lanes _ _ c.place_of-place.result c.args.self.now c.args.row.now c.self.view_is c.self.invariant.0 c.place_of-place.ensures in
    k.v.a.least

pub code_of-code-requires-clause-most : goal.code_of-code-requires-clause-most
code_of-code-requires-clause-most c =
    let i = c.self.inside in
    let k = row-at i.journal i.tables i.txns.items (numbers_waiting i.waiting) i.lanes _ _ c.place_of-place.result c.args.self.now c.args.row.now c.self.view_is c.self.invariant.0 c.place_of-place.ensures in
    subst (λ xs. c.args.row.now.txn ≤ length xs) (sym c.deref.ensures.value) k.v.a.most

pub state-requires-clause-place : goal.state-requires-clause-place
state-requires-clause-place c =
    let i = c.self.inside in
    let k = row-at i.journal i.tables i.txns.items (numbers_waiting i.waiting) i.lanes _ _ c.place_of-place.result c.args.self.now c.args.row.now c.self.view_is c.self.invariant.0 c.place_of-place.ensures in
    k.v.a.below

pub state-requires-clause-slot : goal.state-requires-clause-slot
state-requires-clause-slot c =
    let i = c.self.inside in
    let k = row-at i.journal i.tables i.txns.items (numbers_waiting i.waiting) i.lanes _ _ c.place_of-place.result c.args.self.now c.args.row.now c.self.view_is c.self.invariant.0 c.place_of-place.ensures in
    k.x.within

pub next_kind-requires : goal.next_kind-requires
next_kind-requires c =
    let i = c.self.inside in
    let k = row-at i.journal i.tables i.txns.items (numbers_waiting i.waiting) i.lanes _ _ c.place_of-place.result c.args.self.now c.args.row.now c.self.view_is c.self.invariant.0 c.place_of-place.ensures in
    row-runs i.journal i.tables i.txns.items (numbers_waiting i.waiting) i.lanes _ _ c.place_of-place.result c.args.self.now c.args.row.now c.self.view_is c.self.invariant.0 k c.state.result.now c.code_of-code.result.now.nodes
    (c.code_of-code.ensures ∙ ap (λ xs. nodes_at xs c.args.row.now.txn) c.deref.ensures.value) c.state.ensures.state

pub returns-in-Local : goal.returns-in-Local
returns-in-Local c =
    let i = c.self.inside in
    let k = row-at i.journal i.tables i.txns.items (numbers_waiting i.waiting) i.lanes _ _ c.place_of-place.result c.args.self.now c.args.row.now c.self.view_is c.self.invariant.0 c.place_of-place.ensures in
    let kind = row-kind i.journal i.tables i.txns.items (numbers_waiting i.waiting) i.lanes _ _ c.place_of-place.result c.args.self.now c.args.row.now c.self.view_is c.self.invariant.0 k c.state.result.now c.code_of-code.result.now.nodes c.next_kind.result
    (c.code_of-code.ensures ∙ ap (λ xs. nodes_at xs c.args.row.now.txn) c.deref.ensures.value) c.state.ensures.state c.next_kind.ensures.kind
    in
    sym (ap is_local_kind (kind ∙ c.in-Local.is))

pub returns-in_default : goal.returns-in_default
returns-in_default c =
    let i = c.self.inside in
    let k = row-at i.journal i.tables i.txns.items (numbers_waiting i.waiting) i.lanes _ _ c.place_of-place.result c.args.self.now c.args.row.now c.self.view_is c.self.invariant.0 c.place_of-place.ensures in
    let kind = row-kind i.journal i.tables i.txns.items (numbers_waiting i.waiting) i.lanes _ _ c.place_of-place.result c.args.self.now c.args.row.now c.self.view_is c.self.invariant.0 k c.state.result.now c.code_of-code.result.now.nodes c.next_kind.result
    (c.code_of-code.ensures ∙ ap (λ xs. nodes_at xs c.args.row.now.txn) c.deref.ensures.value) c.state.ensures.state c.next_kind.ensures.kind
    in
    sym (ap is_local_kind kind ∙ not-local c.next_kind.result c.in_default.not-Local)
