use Rattle.std.proofs.Common.{◌≡◌, ℕ, false, ltb, ◌<◌, arith, ltb-true, ◌∙◌}
use Rattle.std.proofs.lemmas.Bool.{cases_Bool}
use Rattle.journal_core.proofs.Lists.{either}
use Rattle.turn_cell.specs.Passes.{seen_by}
use Rattle.shadow_worker.proofs.Listing.{fits-same, same-empty}
use Rattle.shadow_worker.proofs.WorkTurns.{then_turns}
use Rattle.shadow_worker.proofs.working.work_turns.Goals as goal

not_less : (m n : ℕ) → m ≡ n → ltb m n ≡ false
not_less m n e = either (cases_Bool (ltb m n)) (λ b. let less : m < n = ltb-true _ _ b in absurd (omega (arith, e, less))) (λ b. b)

pub loop-turn-preserved : goal.loop-turn-preserved
loop-turn-preserved g c =
    let i = c.loop-turn.invariant in
    let t = c.turn_at-next.ensures in
    let r = c.run_outside.ensures in (
      t.cell.0,
      t.cell.1 ∙ i.1,
      then_turns _ _ _ _ _ _ _ 1 i.2 t.worked,
      fits-same (seen_by c.turn_at-next.result.0) c.turn_at-next.new.bench c.run_outside.new.bench r.items r.job t.fits,
      r.items ∙ (t.room ∙ i.4),
      (λ e. same-empty _ _ r.job (t.last (not_less _ _ e))),
      omega (arith, i.6, t.later, r.ticks),
    )
