use Rattle.std.proofs.Common.{◌≡◌, ℕ, ◌<◌, ◌≤◌, Bool, true, false, cond, ◌==◌, length, refl, sym, ap, ◌∙◌, arith, ◌⊎◌, inl, inr}
use Rattle.std.proofs.lemmas.Bool.{cases_lt}
use Rattle.std.proofs.lemmas.List.{get_or_past}
use Rattle.conflict_index.specs.Masks.{has}
use Rattle.conflict_index.specs.Kept.{has_item}
use Rattle.conflict_index.proofs.MaskLaws.{has-none}
use Rattle.conflict_index.proofs.mask.without_each.Goals as goal

nothing : (t : Bool) → false ≡ cond t false false
nothing true = refl
nothing false = refl

pub returns : goal.returns
returns c = record { long = c.loop-i.invariant.long; without = λ item other. go item other (cases_lt item (length c.args.masks.now)) }
  where
    past : (item other : ℕ) → length c.args.masks.now ≤ item → has_item c.args.masks.now other item ≡ false
    past item other g = ap (λ m. has m other) (get_or_past c.args.masks.now item 0 g) ∙ has-none other

    gone : (item other : ℕ) → length c.args.masks.now ≤ item → has_item c.loop-i.masks other item ≡ false
    gone item other g = ap (λ m. has m other) (get_or_past c.loop-i.masks item 0 (omega (arith, c.loop-i.invariant.long))) ∙ has-none other

    go : (item other : ℕ) → (item < length c.args.masks.now) ⊎ (length c.args.masks.now ≤ item) → has_item c.loop-i.masks other item ≡ cond (other == c.args.lane) false (has_item c.args.masks.now other item)
    go item other (inl l) = c.loop-i.invariant.done item other (omega arith)
    go item other (inr g) = gone item other g ∙ nothing (other == c.args.lane) ∙ ap (λ t. cond (other == c.args.lane) false t) (sym (past item other g))
