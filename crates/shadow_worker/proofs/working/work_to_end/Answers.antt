use Rattle.std.proofs.Common.{◌+◌, refl, ◌∙◌, arith}
use Rattle.turn_cell.specs.Passes.{seen_by, turns_of}
use Rattle.shadow_worker.proofs.Listing.{fits-empty, fits-same}
use Rattle.shadow_worker.proofs.WorkTurns.{no_turns, then_turns}
use Rattle.shadow_worker.proofs.working.work_to_end.Goals as goal

pub loop-init : goal.loop-init
loop-init g c = (
  c.requires.cell,
  refl,
  (0, no_turns (seen_by c.args.pass) (turns_of c.args.pass)),
  fits-empty (seen_by c.args.pass) c.args.bench.now c.requires.empty c.requires.items,
  refl,
  omega arith,
)

pub returns-in-Ended-clause-worked : goal.returns-in-Ended-clause-worked
returns-in-Ended-clause-worked g c =
    let w = c.loop.invariant.2 in
    (w.0 + 1, omega arith, then_turns _ _ _ _ _ _ w.0 1 w.1 c.turn_at-next.ensures.worked)

pub loop-preserved : goal.loop-preserved
loop-preserved g c =
    let i = c.loop.invariant in
    let t = c.turn_at-next.ensures in
    let r = c.go_on.ensures in (
      t.cell.0,
      t.cell.1 ∙ i.1,
      (i.2.0 + 1, then_turns _ _ _ _ _ _ i.2.0 1 i.2.1 t.worked),
      fits-same (seen_by c.turn_at-next.result.0) c.turn_at-next.new.bench c.go_on.new.bench r.items r.job t.fits,
      r.items ∙ (t.room ∙ i.4),
      omega (arith, i.5, t.later, r.later),
    )
