-- What a commit leaves of another transaction's shadows.
use Rattle.std.specs.Prelude.{ℕ, Bool, true, false, not, ◌==◌, nat_lt, nat_le, if◌then◌else◌, List, [], Option, Some, None, filter}
use Rattle.forest_model.specs.Choose.{first_by}
use Rattle.forest_model.specs.Forest.{Shadow, Started}

-- a shadow survives at or before the cut, and everywhere where there is none
abbrev pub survives : Option ℕ → ℕ → Bool
survives None position = true
survives (Some cut) position = nat_le position cut

-- the shadows that survive
abbrev pub survivors : Option ℕ → List Shadow → List Shadow
survivors cut ss = filter (λ s. survives cut s.position) ss

-- x stands further than y
abbrev pub is_further : Shadow → Shadow → Bool
is_further x y = nat_lt y.position x.position

-- the shadow that stands furthest; of several the first in the list
abbrev pub heir : List Shadow → Option Shadow
heir ss = first_by is_further ss

-- the shadows but that for this guard
abbrev pub without_guard : ℕ → List Shadow → List Shadow
without_guard u ss = filter (λ s. not (s.guard == u)) ss

-- the heir is the optimistic shadow from now on; where there is none, a fresh one is
abbrev pub resumed_by : Option Shadow → Started → List Shadow → Started
resumed_by None r ss = record r { position = 0; out = false; shadows = [] }
resumed_by (Some h) r ss = record r { position = h.position; out = h.out; shadows = without_guard h.guard ss }

-- r with the shadows that survive the cut, and with the heir as the optimistic one where that does not
abbrev pub after_cut : Option ℕ → Started → Started
after_cut cut r =
    if survives cut r.position
    then record r { shadows = survivors cut r.shadows }
    else resumed_by (heir (survivors cut r.shadows)) r (survivors cut r.shadows)
