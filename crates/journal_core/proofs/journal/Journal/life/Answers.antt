use Rattle.std.proofs.Common.{◌≡◌, ◌≤◌, ◌<◌, ◌+◌, ◌-◌, length, subst, arith}
use Rattle.journal_core.specs.Journal.{began}
use Rattle.journal_core.specs.Lives.{IsUnbegun, IsLife}
use Rattle.journal_core.proofs.Legal.{counts}
use Rattle.journal_core.proofs.Standing.{no_such, unbegun, life_here}
use Rattle.journal_core.proofs.journal.Journal.life.Goals as goal
use Rattle.journal_core.proofs.journal.Journal.life.Goals.{then-txn-eq0-via-then-txn-eq0, then-txn-eq0-via-else-txn-eq0+then-txn-len}

pub returns-then-txn-eq0 : goal.returns-then-txn-eq0
returns-then-txn-eq0 c =
    let i = c.self.inside in
    let k = counts i.opening i.entries.items c.self.invariant.legal in
    let out : 1 ≤ c.args.txn → c.args.txn ≤ began i.entries.items → ⊥ =
    elim c.then-txn-eq0.branch [
      | then-txn-eq0-via-then-txn-eq0 w ↦ (λ low high. omega (arith, low, w.if-txn-eq0.true))
      | then-txn-eq0-via-else-txn-eq0+then-txn-len w ↦ (λ low high. omega (arith, high, w.if-txn-len.true, w.len.ensures, c.self.invariant.many, i.lives.ok.0))
    ]
    in
    subst (λ v. IsUnbegun v.entries c.args.txn) c.self.view_is (unbegun i.entries.items c.args.txn k (no_such i.entries.items c.args.txn k out))

pub returns : goal.returns
returns c =
    let i = c.self.inside in
    let is : c.args.txn ≡ (c.args.txn - 1) + 1 = omega (arith, c.if-txn-eq0.false) in
    let within : c.args.txn - 1 < length i.lives.items = omega (arith, c.if-txn-eq0.false, c.if-txn-len.false, c.len.ensures, i.lives.ok.0) in
    subst (λ v. IsLife v.entries c.args.txn c.index.result.now) c.self.view_is
    (life_here i.entries.items i.lives.items c.args.txn (c.args.txn - 1) c.index.result.now c.self.invariant.each is within c.index.ensures)
