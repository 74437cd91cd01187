-- What holds of all of a list holds of its front, and of its last.
use Rattle.std.proofs.Common.{zero, suc, List, [], ◌∷◌, ◌++◌, arith}
use Rattle.std.specs.List.{All}

pub all_of_front : {X : Type 0} (P : X → Type 0) (xs ys : List X) → All P (xs ++ ys) → All P xs
all_of_front P [] ys h k d below = absurd (omega (arith, below))
all_of_front P (x ∷ xs) ys h zero d below = h zero d (omega (arith, below))
all_of_front P (x ∷ xs) ys h (suc k) d below = all_of_front P xs ys (λ i e small. h (suc i) e (omega (arith, small))) k d (omega (arith, below))

pub all_of_last : {X : Type 0} (P : X → Type 0) (xs : List X) (x : X) → All P (xs ++ x ∷ []) → P x
all_of_last P [] x h = h zero x (omega (arith))
all_of_last P (y ∷ xs) x h = all_of_last P xs x (λ i e small. h (suc i) e (omega (arith, small)))
