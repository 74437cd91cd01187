use Rattle.std.proofs.Common.{◌≡◌, ◌≤◌, Bool, true, false, not, length, refl, ap, sym, subst, ◌∙◌}
use Rattle.shadow_forest.specs.View.{View}
use Rattle.shadow_forest.specs.Parts.{nodes_at}
use Rattle.shadow_forest.specs.Kept.{numbers_waiting}
use Rattle.shadow_forest.proofs.Placing.{at_view}
use Rattle.shadow_forest.proofs.OptimisticCall.{IsCall, call_is, first_runs}
use Rattle.shadow_forest.proofs.LeftOthers.{call-read, call-write}
use Rattle.shadow_forest.proofs.forest.Forest.leaves_wants.Goals as goal

pub code_of-code-requires-clause-least : goal.code_of-code-requires-clause-least
code_of-code-requires-clause-least c =
    let i = c.self.inside in
    let v = at_view i.journal i.tables i.txns.items (numbers_waiting i.waiting) i.lanes _ _ c.args.place c.args.txn c.args.self.now c.self.view_is c.self.invariant.0 c.requires.place in
    v.a.least

pub code_of-code-requires-clause-most : goal.code_of-code-requires-clause-most
code_of-code-requires-clause-most c =
    let i = c.self.inside in
    let v = at_view i.journal i.tables i.txns.items (numbers_waiting i.waiting) i.lanes _ _ c.args.place c.args.txn c.args.self.now c.self.view_is c.self.invariant.0 c.requires.place in
    subst (λ xs. c.args.txn ≤ length xs) (sym c.deref.ensures.value) v.a.most

pub state-requires-clause-place : goal.state-requires-clause-place
state-requires-clause-place c =
    let i = c.self.inside in
    let v = at_view i.journal i.tables i.txns.items (numbers_waiting i.waiting) i.lanes _ _ c.args.place c.args.txn c.args.self.now c.self.view_is c.self.invariant.0 c.requires.place in
    v.a.below

pub next_kind-requires : goal.next_kind-requires
next_kind-requires c =
    let i = c.self.inside in
    let v = at_view i.journal i.tables i.txns.items (numbers_waiting i.waiting) i.lanes _ _ c.args.place c.args.txn c.args.self.now c.self.view_is c.self.invariant.0 c.requires.place in
    first_runs i.journal i.tables i.txns.items i.lanes c.args.place c.args.txn c.args.self.now v c.state.result.now c.code_of-code.result.now.nodes c.self.invariant.0.items (c.code_of-code.ensures ∙ ap (λ xs. nodes_at xs c.args.txn) c.deref.ensures.value) c.state.ensures.state

reads : (c : goal.In-TableRead) → IsCall c.self.inside.journal c.self.inside.tables c.self.inside.txns.items (numbers_waiting c.self.inside.waiting) c.self.inside.lanes c.args.place c.args.txn c.args.self.now c.code_of-code.result.now.nodes c.state.result.now c.next_kind.result
reads c =
    let i = c.self.inside in
    let v = at_view i.journal i.tables i.txns.items (numbers_waiting i.waiting) i.lanes _ _ c.args.place c.args.txn c.args.self.now c.self.view_is c.self.invariant.0 c.requires.place in
    call_is i.journal i.tables i.txns.items (numbers_waiting i.waiting) i.lanes c.args.place c.args.txn c.args.self.now c.code_of-code.result.now.nodes c.state.result.now c.next_kind.result c.self.invariant.0 v c.state.ensures.state
    (c.code_of-code.ensures ∙ ap (λ xs. nodes_at xs c.args.txn) c.deref.ensures.value) c.next_kind.ensures.kind c.next_kind.ensures.ended

pub returns-in-TableRead : goal.returns-in-TableRead
returns-in-TableRead c = λ yes.
    let i = c.self.inside in
    call-read i.journal i.tables i.txns.items (numbers_waiting i.waiting) i.lanes c.args.place c.args.txn c.args.self.now c.code_of-code.result.now.nodes c.state.result.now c.next_kind.result (reads c) (ap (λ (v : View). v.numbers) (sym c.self.view_is)) c.in-TableRead.item c.in-TableRead.is

writes : (c : goal.After-is_read_by_others) → IsCall c.self.inside.journal c.self.inside.tables c.self.inside.txns.items (numbers_waiting c.self.inside.waiting) c.self.inside.lanes c.args.place c.args.txn c.args.self.now c.code_of-code.result.now.nodes c.state.result.now c.next_kind.result
writes c =
    let i = c.self.inside in
    let v = at_view i.journal i.tables i.txns.items (numbers_waiting i.waiting) i.lanes _ _ c.args.place c.args.txn c.args.self.now c.self.view_is c.self.invariant.0 c.requires.place in
    call_is i.journal i.tables i.txns.items (numbers_waiting i.waiting) i.lanes c.args.place c.args.txn c.args.self.now c.code_of-code.result.now.nodes c.state.result.now c.next_kind.result c.self.invariant.0 v c.state.ensures.state
    (c.code_of-code.ensures ∙ ap (λ xs. nodes_at xs c.args.txn) c.deref.ensures.value) c.next_kind.ensures.kind c.next_kind.ensures.ended

unread : (b : Bool) → not b ≡ true → b ≡ false
unread true e = sym e
unread false e = refl

pub returns-in-Write : goal.returns-in-Write
returns-in-Write c = λ yes.
    let i = c.self.inside in
    call-write i.journal i.tables i.txns.items (numbers_waiting i.waiting) i.lanes c.args.place c.args.txn c.args.self.now c.code_of-code.result.now.nodes c.state.result.now c.next_kind.result (writes c) (ap (λ (v : View). v.numbers) (sym c.self.view_is)) c.in-Write.item c.in-Write.value c.in-Write.is
    (c.is_read_by_others.ensures (unread c.is_read_by_others.result yes))
