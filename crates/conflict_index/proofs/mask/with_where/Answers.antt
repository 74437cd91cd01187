use Rattle.std.proofs.Common.{◌≡◌, ℕ, cond, ◌==◌, ◌⊎◌, inl, inr, sym, ap, ◌∙◌}
use Rattle.std.proofs.lemmas.Bool.{cases_eq, eq-eqb, ne_eqb}
use Rattle.conflict_index.specs.Masks.{has}
use Rattle.conflict_index.proofs.mask.with_where.Goals as goal

unset : (m k i : ℕ) → has m i ≡ cond (i == k) (has m k) (has m i)
unset m k i = go (cases_eq i k)
  where
    go : (i ≡ k) ⊎ (i ≡ k → ⊥) → has m i ≡ cond (i == k) (has m k) (has m i)
    go (inl e) = ap (has m) e ∙ sym (ap (λ t. cond t (has m k) (has m i)) (eq-eqb i k e))
    go (inr n) = sym (ap (λ t. cond t (has m k) (has m i)) (ne_eqb i k n))

pub returns-then-whether : goal.returns-then-whether
returns-then-whether c other = rw c.if-whether.true (c.with.ensures other)

pub returns-else-whether : goal.returns-else-whether
returns-else-whether c other = rw c.if-whether.false (unset c.args.mask c.args.lane other)
