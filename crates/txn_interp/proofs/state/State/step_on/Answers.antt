use Rattle.std.proofs.Common.{arith, ◌≡◌, ◌<◌, pos, Some, length, sym, subst, ◌∙◌}
use Rattle.std.specs.Prelude.{slice_get}
use Rattle.txn_interp.specs.Kind.{HasKind, MakesLocal, StepsOn}
use Rattle.txn_interp.proofs.Stepped.{HasStepped, HasMoved, here_safe, here_kind, undone_goes, undone_kind, has_stepped, told_moved, moves_local}
use Rattle.txn_interp.proofs.state.State.step_on.Goals as goal

pub apply-local-requires-clause-safe : goal.apply-local-requires-clause-safe
apply-local-requires-clause-safe c =
    let s = c.args.self.now in
    let is = subst (λ s. slice_get c.args.code.now.nodes s.node ≡ Some c.node.result.now) c.apply.view_is c.node.ensures.node in
    here_safe c.args.code.now.nodes s _ c.requires.runs is c.node.ensures.shallow

pub apply-local-requires-clause-position : goal.apply-local-requires-clause-position
apply-local-requires-clause-position c = omega (arith, (undone_goes c.args.code.now.nodes c.args.self.now c.requires.runs c.requires.goes).position)

pub at_end-self-inside-requires : goal.at_end-self-inside-requires
at_end-self-inside-requires c =
    let nodes = c.args.code.now.nodes in
    let s = c.args.self.now in
    let is = subst (λ s. slice_get nodes s.node ≡ Some c.node.result.now) c.apply.view_is c.node.ensures.node in
    let made = subst (λ b. MakesLocal c.node.result.now.act c.node.result.now.next c.node.result.now.other s c.apply-local.new.self b) c.if-local.true c.apply-local.ensures in
    let has = here_kind nodes s _ (undone_goes nodes s c.requires.runs c.requires.goes) is in
    let stepped = has_stepped nodes s c.requires.runs _ _ (pos 0) has (undone_kind nodes s c.requires.runs _ c.requires.goes has) is in
    record { within = subst (λ t. t.node < length nodes) (sym made.1) stepped.within }

pub returns-then-local : goal.returns-then-local
returns-then-local c =
    let nodes = c.args.code.now.nodes in
    let s = c.args.self.now in
    let t = c.apply-local.new.self in
    let b = c.at_end-self-inside.result in
    let is = subst (λ s. slice_get nodes s.node ≡ Some c.node.result.now) c.apply.view_is c.node.ensures.node in
    let made = subst (λ b. MakesLocal c.node.result.now.act c.node.result.now.next c.node.result.now.other s t b) c.if-local.true c.apply-local.ensures in
    let has = here_kind nodes s _ (undone_goes nodes s c.requires.runs c.requires.goes) is in
    let stepped = has_stepped nodes s c.requires.runs _ _ (pos 0) has (undone_kind nodes s c.requires.runs _ c.requires.goes has) is in
    let local = subst (HasKind nodes s) made.0 has in
    let moved = told_moved nodes (pos 0) s t b (subst (HasStepped nodes (pos 0) s) (sym made.1) stepped) c.at_end-self-inside.ensures.tracks in
    let seen = subst (λ x. HasMoved nodes (pos 0) s (record x { done = b })) (sym c.self.view_is) moved in
    subst (StepsOn nodes s _) (sym c.if-local.true) (local, moves_local nodes s _ c.requires.runs (pos 0) local seen)

pub returns-else-local : goal.returns-else-local
returns-else-local c =
    let nodes = c.args.code.now.nodes in
    let s = c.args.self.now in
    let t = c.apply-local.new.self in
    let r = c.requires.runs in
    let is = subst (λ s. slice_get nodes s.node ≡ Some c.node.result.now) c.apply.view_is c.node.ensures.node in
    let made = subst (λ b. MakesLocal c.node.result.now.act c.node.result.now.next c.node.result.now.other s t b) c.if-local.false c.apply-local.ensures in
    let has = here_kind nodes s _ (undone_goes nodes s r c.requires.goes) is in
    subst (StepsOn nodes s t) (sym c.if-local.false) ((λ local. made.0 (sym (has r.body r.tables r.over) ∙ local r.body r.tables r.over)), made.1)
