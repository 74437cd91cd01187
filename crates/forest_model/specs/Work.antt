-- How much is left to do until a forest is idle: a number that each accepted step lowers.
use Rattle.std.specs.Prelude.{ℕ, suc, ◌+◌, ◌-◌, ◌*◌, List, [], ◌∷◌}
use Rattle.forest_model.specs.Point.{Conflict}
use Rattle.forest_model.specs.Forest.{Shadow, Started, Forest, length_of, wanted}

-- the sum over the started transactions
abbrev pub total : (Started → ℕ) → List Started → ℕ
total g [] = 0
total g (r ∷ rs) = g r + total g rs

-- the steps that the optimistic shadows have left
abbrev pub ahead : Forest → ℕ
ahead f = total (λ r. length_of f r - r.position) f.started

-- the steps from the shadows to their points
abbrev pub gap : List Shadow → List Conflict → ℕ
gap [] ws = 0
gap (s ∷ ss) [] = 0
gap (s ∷ ss) (w ∷ ws) = (w.1 - s.position) + gap ss ws

-- the steps that all the shadows that wait have to their points
abbrev pub waiting : Forest → ℕ
waiting f = total (λ r. gap r.shadows (wanted f r)) f.started

-- the gaps are never more than this
abbrev pub most : Forest → ℕ
most f = total (λ r. f.k * length_of f r) f.started

-- what is left to do: an optimistic step may renew all the others
abbrev pub work : Forest → ℕ
work f = ahead f * suc (most f) + waiting f
