use Rattle.std.proofs.Common.{◌≡◌, Some, true, false, sym, subst, ◌∙◌, arith}
use Rattle.std.specs.Prelude.{slice_get}
use Rattle.txn_code.proofs.Stands.{stands_within}
use Rattle.txn_interp.specs.Kind.{MakesLocal, RunsOn}
use Rattle.txn_interp.proofs.Follows.{node_here}
use Rattle.txn_interp.proofs.Safe.{kind_at}
use Rattle.txn_interp.proofs.Stepped.{undone_goes}
use Rattle.txn_interp.proofs.LocalRun.{Moved, ran_none, ran_safe, ran_more, ran_stops, one_more}
use Rattle.txn_interp.proofs.state.State.run_on.Goals as goal

pub loop-made-init : goal.loop-made-init
loop-made-init g c =
    let nodes = c.args.code.now.nodes in
    let r = c.requires.runs in
    let below = (undone_goes nodes c.args.self.now r c.requires.goes).position in
    ran_none nodes c.args.self.now r c.args.most c.args.steps.now c.requires.goes (stands_within r.over.is.stands) (omega (arith, below))

pub apply-requires-clause-safe : goal.apply-requires-clause-safe
apply-requires-clause-safe g c =
    let nodes = c.args.code.now.nodes in
    let i = c.loop-made.invariant in
    let is = subst (λ s. slice_get nodes s.node ≡ Some c.node.result.now) c.apply.view_is c.node.ensures.node in
    ran_safe nodes c.args.self.now c.loop-made.self c.requires.runs _ i.log i.same is c.node.ensures.shallow

pub returns-then-not-apply-clause-run : goal.returns-then-not-apply-clause-run
returns-then-not-apply-clause-run g c =
    let nodes = c.args.code.now.nodes in
    let s = c.loop-made.self in
    let i = c.loop-made.invariant in
    let node = c.node.result.now in
    let is = subst (λ s. slice_get nodes s.node ≡ Some node) c.apply.view_is c.node.ensures.node in
    let not_made : c.apply-in-loop-made.result ≡ false = c.if-not-apply.true in
    let made = subst (MakesLocal node.act node.next node.other s c.apply-in-loop-made.new.self) not_made c.apply-in-loop-made.ensures in
    let going = c.goes.ensures.goes c.if-goes.true in
    let run = ran_stops nodes c.args.most c.args.self.now s c.loop-made.made c.args.steps.now c.loop-made.steps i (λ body tables over less local.
    made.0 (sym (kind_at nodes body tables s node.act _ _ (node_here nodes s node is) going (i.same body tables over)) ∙ local)) in
    subst (λ t. RunsOn nodes c.args.most c.args.self.now t c.loop-made.made) (sym made.1) run

pub loop-made-preserved : goal.loop-made-preserved
loop-made-preserved g c =
    let nodes = c.args.code.now.nodes in
    let s = c.loop-made.self in
    let i = c.loop-made.invariant in
    let node = c.node.result.now in
    let is = subst (λ s. slice_get nodes s.node ≡ Some node) c.apply.view_is c.node.ensures.node in
    let is_made : c.apply-in-loop-made.result ≡ true = c.if-not-apply.false in
    let made = subst (MakesLocal node.act node.next node.other s c.apply-in-loop-made.new.self) is_made c.apply-in-loop-made.ensures in
    let going = c.goes.ensures.goes c.if-goes.true in
    let moved = subst (Moved nodes c.args.self.now s) (sym made.1) (one_more nodes c.args.self.now s c.requires.runs node i.log i.same going is made.0) in
    let ran = ran_more nodes c.args.self.now s c.apply-in-loop-made.new.self c.loop-made.made c.args.most c.args.steps.now c.loop-made.steps i moved c.loop-made-test.true in
    rw c.tick.ensures ran
