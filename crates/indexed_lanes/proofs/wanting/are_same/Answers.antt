use Rattle.std.proofs.Common.{◌≡◌, ◌<◌, ◌≤◌, ◌+◌, ◌&&◌, ℕ, suc, true, false, List, [], ◌∷◌, length, drop, get_or, refl, ap, sym, ◌∙◌, arith}
use Rattle.std.proofs.lemmas.List.{drop_more, drop_all}
use Rattle.std.proofs.lemmas.Bool.{and_right, and_left, ne_eqb, eq-eqb}
use Rattle.forest_model.specs.Point.{Conflict}
use Rattle.indexed_lanes.specs.Wanted.{same_conflict, same_conflicts}
use Rattle.indexed_lanes.proofs.wanting.are_same.Goals as goal
use Rattle.indexed_lanes.proofs.wanting.are_same.Goals.{then-some-i-via-then-some-i, then-some-i-via-else-some-i+then-some-i-2}

unequal : (xs ys : List Conflict) → (length xs ≡ length ys → ⊥) → false ≡ same_conflicts xs ys
unequal [] [] ne = absurd (ne refl)
unequal [] (y ∷ ys) ne = refl
unequal (x ∷ xs) [] ne = refl
unequal (x ∷ xs) (y ∷ ys) ne = sym (and_right (same_conflict x y) (same_conflicts xs ys) (sym (unequal xs ys (λ e. ne (ap suc e)))))

-- the two that are next, and the others
parted : (xs ys : List Conflict) (i : ℕ) → length xs ≡ length ys → i < length xs → same_conflicts (drop i xs) (drop i ys) ≡ same_conflicts xs ys
    → (same_conflict (get_or xs i (0, 0)) (get_or ys i (0, 0)) && same_conflicts (drop (i + 1) xs) (drop (i + 1) ys)) ≡ same_conflicts xs ys
parted xs ys i same lt h = let lt' : i < length ys = omega arith in rw (drop_more xs i (0, 0) lt, drop_more ys i (0, 0) lt') at h

differ : (xs ys : List Conflict) (i : ℕ) → length xs ≡ length ys → i < length xs → same_conflicts (drop i xs) (drop i ys) ≡ same_conflicts xs ys
    → same_conflict (get_or xs i (0, 0)) (get_or ys i (0, 0)) ≡ false → false ≡ same_conflicts xs ys
differ xs ys i same lt h e = sym (and_left (same_conflict (get_or xs i (0, 0)) (get_or ys i (0, 0))) (same_conflicts (drop (i + 1) xs) (drop (i + 1) ys)) e) ∙ parted xs ys i same lt h

agree : (xs ys : List Conflict) (i : ℕ) → length xs ≡ length ys → i < length xs → same_conflicts (drop i xs) (drop i ys) ≡ same_conflicts xs ys
    → same_conflict (get_or xs i (0, 0)) (get_or ys i (0, 0)) ≡ true → same_conflicts (drop (i + 1) xs) (drop (i + 1) ys) ≡ same_conflicts xs ys
agree xs ys i same lt h e = ap (λ b. b && same_conflicts (drop (i + 1) xs) (drop (i + 1) ys)) (sym e) ∙ parted xs ys i same lt h

pub returns-then-some-other : goal.returns-then-some-other
returns-then-some-other c = unequal c.args.some.now c.args.other.now c.if-some-other.true

pub returns-then-some-i : goal.returns-then-some-i
returns-then-some-i c =
    differ c.args.some.now c.args.other.now c.loop-i.i c.if-some-other.false c.loop-i-test.true c.loop-i.invariant
    (elim c.then-some-i.branch [
      | then-some-i-via-then-some-i w ↦ and_left _ _ (ne_eqb _ _ w.if-some-i.true)
      | then-some-i-via-else-some-i+then-some-i-2 w ↦ and_right _ _ (ne_eqb _ _ w.if-some-i-2.true)
    ])

pub loop-i-preserved : goal.loop-i-preserved
loop-i-preserved c =
    agree c.args.some.now c.args.other.now c.loop-i.i c.if-some-other.false c.loop-i-test.true c.loop-i.invariant
    (rw (eq-eqb _ _ c.if-some-i.false, eq-eqb _ _ c.if-some-i-2.false) refl)

pub returns : goal.returns
returns c =
    let le : length c.args.some.now ≤ c.loop-i.i = omega (arith, c.loop-i-test.false) in
    let le' : length c.args.other.now ≤ c.loop-i.i = omega (arith, c.loop-i-test.false, c.if-some-other.false) in
    rw (drop_all c.loop-i.i c.args.some.now le, drop_all c.loop-i.i c.args.other.now le') at c.loop-i.invariant
