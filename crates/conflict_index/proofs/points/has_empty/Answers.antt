use Rattle.std.proofs.Common.{◌≡◌, ◌≢◌, ℕ, ◌+◌, true, false, cond, get_or, is_some, Option, None, sym, ap, ◌∙◌, refl, ◌⊎◌, inl, inr}
use Rattle.std.proofs.lemmas.Bool.{cases_eq, both_ways, ne_eqb}
use Rattle.conflict_index.specs.Masks.{has}
use Rattle.conflict_index.proofs.MaskLaws.{has-none}
use Rattle.conflict_index.proofs.Sweeps.{still-waits}
use Rattle.conflict_index.proofs.points.has_empty.Goals as goal

there : (o : Option ℕ) → is_some o ≡ true → o ≢ None
there o e q = both_ways (is_some o) (ap (λ (p : Option ℕ). is_some p) q) e

pub loop-left-init : goal.loop-left-init
loop-left-init c = record { part = λ u e. e; seen = λ u e f. absurd (both_ways (has c.args.writers u) f e) }

pub loop-left-preserved : goal.loop-left-preserved
loop-left-preserved c = record {
  part = λ u e. c.loop-left.invariant.part u (still-waits c.loop-left.left c.without-left.result c.first-writer.result c.without-left.ensures.lanes u e);
  seen = λ u e f. at u e f (cases_eq u c.first-writer.result);
}
  where
    at : (u : ℕ) → has c.args.writers u ≡ true → has c.without-left.result u ≡ false → (u ≡ c.first-writer.result) ⊎ (u ≢ c.first-writer.result) → get_or c.args.points.now (c.args.start + u) None ≢ None
    at u e f (inl q) = rw q (there (get_or c.args.points.now (c.args.start + c.first-writer.result) None) c.if-is_none.ensures)
    at u e f (inr n) = c.loop-left.invariant.seen u e (sym (ap (λ t. cond t false (has c.loop-left.left u)) (ne_eqb u c.first-writer.result n)) ∙ sym (c.without-left.ensures.lanes u) ∙ f)

pub returns : goal.returns
returns c = ((λ e. absurd (both_ways false refl e)), λ p. absurd (c.loop-left.invariant.seen p.0 p.1 (ap (λ m. has m p.0) c.loop-left-test.false ∙ has-none p.0) p.2))
