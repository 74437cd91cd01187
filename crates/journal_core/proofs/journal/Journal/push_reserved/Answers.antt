use Rattle.std.proofs.Common.{◌<◌, sym, ap, subst, arith}
use Rattle.std.specs.Vec.{vec_capacity}
use Rattle.journal_core.specs.Journal.{Continues}
use Rattle.journal_core.proofs.Standing.{end_place, few_commits, kept-began, kept-sealed, kept-committed, kept-withdrawn}
use Rattle.journal_core.proofs.journal.Journal.push_reserved.Goals as goal
use Rattle.journal_core.proofs.journal.Journal.push_reserved.Goals.{in-Began, in-Sealed, in-Committed, in-Withdrawn}

pub overflow_sub-txn : goal.overflow_sub-txn
overflow_sub-txn c =
    let i = c.self.inside in
    let k = subst (λ v. Continues v.opening v.entries c.args.entry) (sym c.self.view_is) c.requires.continues in
    let e = subst (Continues i.opening i.entries.items) c.in-Committed.is k in
    (end_place i.opening i.entries.items i.lives.items i.commits i.sealed i.spare (vec_capacity i.entries) (vec_capacity i.lives) c.self.invariant (omega (arith, c.requires.room, ap (λ v. v.spare) c.self.view_is)) c.in-Committed.txn e.0).0

pub index_mut-requires : goal.index_mut-requires
index_mut-requires c =
    let i = c.self.inside in
    let k = subst (λ v. Continues v.opening v.entries c.args.entry) (sym c.self.view_is) c.requires.continues in
    let e = subst (Continues i.opening i.entries.items) c.in-Committed.is k in
    let at = (end_place i.opening i.entries.items i.lives.items i.commits i.sealed i.spare (vec_capacity i.entries) (vec_capacity i.lives) c.self.invariant (omega (arith, c.requires.room, ap (λ v. v.spare) c.self.view_is)) c.in-Committed.txn e.0).1 in
    omega (arith, at, i.lives.ok.0)

pub overflow_add-self : goal.overflow_add-self
overflow_add-self c =
    let i = c.self.inside in
    let few = few_commits i.opening i.entries.items i.lives.items i.commits i.sealed i.spare (vec_capacity i.entries) (vec_capacity i.lives) c.self.invariant (omega (arith, c.requires.room, ap (λ v. v.spare) c.self.view_is)) in
    omega (arith, few)

pub overflow_sub-txn-in-Withdrawn : goal.overflow_sub-txn-in-Withdrawn
overflow_sub-txn-in-Withdrawn c =
    let i = c.self.inside in
    let k = subst (λ v. Continues v.opening v.entries c.args.entry) (sym c.self.view_is) c.requires.continues in
    let e = subst (Continues i.opening i.entries.items) c.in-Withdrawn.is k in
    (end_place i.opening i.entries.items i.lives.items i.commits i.sealed i.spare (vec_capacity i.entries) (vec_capacity i.lives) c.self.invariant (omega (arith, c.requires.room, ap (λ v. v.spare) c.self.view_is)) c.in-Withdrawn.txn e.0).0

pub index_mut-requires-in-Withdrawn : goal.index_mut-requires-in-Withdrawn
index_mut-requires-in-Withdrawn c =
    let i = c.self.inside in
    let k = subst (λ v. Continues v.opening v.entries c.args.entry) (sym c.self.view_is) c.requires.continues in
    let e = subst (Continues i.opening i.entries.items) c.in-Withdrawn.is k in
    let at = (end_place i.opening i.entries.items i.lives.items i.commits i.sealed i.spare (vec_capacity i.entries) (vec_capacity i.lives) c.self.invariant (omega (arith, c.requires.room, ap (λ v. v.spare) c.self.view_is)) c.in-Withdrawn.txn e.0).1 in
    omega (arith, at, i.lives.ok.0)

pub invariant_of-self : goal.invariant_of-self
invariant_of-self c =
    let i = c.self.inside in
    let room : 0 < i.spare = omega (arith, c.requires.room, ap (λ v. v.spare) c.self.view_is) in
    let k = subst (λ v. Continues v.opening v.entries c.args.entry) (sym c.self.view_is) c.requires.continues in
    elim c.match-entry.branch [
      | in-Began w ↦ (
          let e = subst (Continues i.opening i.entries.items) w.in-Began.is k in
          let kept = kept-began i.opening i.entries.items i.lives.items i.commits i.sealed i.spare (vec_capacity i.entries) (vec_capacity i.lives) c.self.invariant room w.in-Began.txn w.in-Began.deadline w.in-Began.program e in
          rw (c.push_reserved-2.ensures.items, c.push_reserved-2.ensures.capacity, w.self-inside-is, w.in-Began.is, w.push_reserved.ensures.items, w.push_reserved.ensures.capacity) kept)
      | in-Sealed w ↦ (
          let e = subst (Continues i.opening i.entries.items) w.in-Sealed.is k in
          let kept = kept-sealed i.opening i.entries.items i.lives.items i.commits i.sealed i.spare (vec_capacity i.entries) (vec_capacity i.lives) c.self.invariant room e in
          rw (c.push_reserved-2.ensures.items, c.push_reserved-2.ensures.capacity, w.self-inside-is, w.in-Sealed.is) kept)
      | in-Committed w ↦ (
          let e = subst (Continues i.opening i.entries.items) w.in-Committed.is k in
          let kept = kept-committed i.opening i.entries.items i.lives.items i.commits i.sealed i.spare (vec_capacity i.entries) (vec_capacity i.lives) c.self.invariant room w.in-Committed.txn w.in-Committed.outcome e in
          rw (c.push_reserved-2.ensures.items, c.push_reserved-2.ensures.capacity, w.self-inside-is, w.in-Committed.is, w.len-place.ensures, i.entries.ok.0) kept)
      | in-Withdrawn w ↦ (
          let e = subst (Continues i.opening i.entries.items) w.in-Withdrawn.is k in
          let kept = kept-withdrawn i.opening i.entries.items i.lives.items i.commits i.sealed i.spare (vec_capacity i.entries) (vec_capacity i.lives) c.self.invariant room w.in-Withdrawn.txn e in
          rw (c.push_reserved-2.ensures.items, c.push_reserved-2.ensures.capacity, w.self-inside-is, w.in-Withdrawn.is) kept)
    ]
