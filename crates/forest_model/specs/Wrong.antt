-- Wrong rules, and for each of them a case out of a worked history in which it breaks a law.
use Rattle.std.specs.Prelude.{◌≡◌, ◌≢◌, ℕ, suc, ◌-◌, false, nat_lt, List, [], ◌∷◌, ◌++◌, Option, Some, None, map, length, find, drop}
use Rattle.txn_runs.specs.Run.{after}
use Rattle.forest_model.specs.Choose.{greatest_up_to, in_order, first_by}
use Rattle.forest_model.specs.Point.{Conflict, is_sooner, wanted_of}
use Rattle.forest_model.specs.Forest.{Shadow, Started}
use Rattle.forest_model.specs.Settle.{stands_for, stay_or_copy, settled_shadows}
use Rattle.forest_model.specs.Cut.{heir, survivors, without_guard, after_cut}
use Rattle.forest_model.specs.Sound.{last_point}
use Rattle.forest_model.specs.Programs.{reader}
use Rattle.forest_model.specs.Worked.{items}

-- a shadow that waits for this guard, and is not out
abbrev pub waiting_for : ℕ → ℕ → Shadow
waiting_for guard position = record { guard = guard; position = position; out = false }

-- a transaction whose optimistic shadow stands here, with these others
abbrev pub standing_at : ℕ → List Shadow → Started
standing_at position shadows = record { number = 1; position = position; out = false; shadows = shadows }

-- a copy is made of the furthest at most one step behind the conflicting read
abbrev pub copied_behind : List ℕ → Conflict → Shadow
copied_behind positions w = waiting_for w.0 (greatest_up_to (suc w.1) positions)

-- in `write_rule` the copy would have made the read, and be no run over the tables that the writer leaves; the copy in front of it is
pub record ForkBehind : Type 0 where
  pub wrong : copied_behind (1 ∷ []) (2, 0) ≡ waiting_for 2 1
  pub breaks : after reader (items 0 0) 1 ≢ after reader (items 5 0) 1
  pub right : stay_or_copy None (1 ∷ []) (2, 0) ≡ waiting_for 2 0
  pub keeps : after reader (items 0 0) 0 ≡ after reader (items 5 0) 0

-- the survivor that stands least far is promoted
abbrev pub least_heir : List Shadow → Option Shadow
least_heir ss = first_by (λ x y. nat_lt x.position y.position) ss

-- in `both_guards` the reader would go back to 0, and its point against the writer is 1
pub record PromoteLeast : Type 0 where
  pub wrong : least_heir (survivors (Some 1) (waiting_for 3 0 ∷ waiting_for 2 1 ∷ [])) ≡ Some (waiting_for 3 0)
  pub right : heir (survivors (Some 1) (waiting_for 3 0 ∷ waiting_for 2 1 ∷ [])) ≡ Some (waiting_for 2 1)
  pub keeps : (after_cut (Some 1) (standing_at 3 (waiting_for 3 0 ∷ waiting_for 2 1 ∷ []))).position ≡ 1

-- copies are made of the optimistic shadow and of those that are made already
abbrev pub settled_from_made : Started → List Shadow → List Conflict → List Shadow
settled_from_made r made [] = made
settled_from_made r made (w ∷ ws) =
    settled_from_made r (made ++ stay_or_copy (find (stands_for w) r.shadows) (r.position ∷ map (λ s. s.position) made) w ∷ []) ws

-- in `refill` the shadow for 3, which goes, stands furthest of those not past the point 2; the copy would start anew
pub record CopyFromMade : Type 0 where
  pub wrong : settled_from_made (standing_at 3 (waiting_for 3 1 ∷ [])) [] ((2, 2) ∷ []) ≡ waiting_for 2 0 ∷ []
  pub right : settled_shadows (Some (standing_at 3 (waiting_for 3 1 ∷ []))) ((2, 2) ∷ []) ≡ waiting_for 2 1 ∷ []

-- in `survivor` 2's shadow survives its commit, and stands furthest of those not past the point 3; without it the copy would be of another
pub record DropCommitted : Type 0 where
  pub wrong : settled_shadows (Some (standing_at 4 (without_guard 2 (waiting_for 4 1 ∷ waiting_for 2 2 ∷ [])))) ((4, 1) ∷ (3, 3) ∷ []) ≡ waiting_for 4 1 ∷ waiting_for 3 1 ∷ []
  pub right : settled_shadows (Some (standing_at 4 (waiting_for 4 1 ∷ waiting_for 2 2 ∷ []))) ((4, 1) ∷ (3, 3) ∷ []) ≡ waiting_for 4 1 ∷ waiting_for 3 2 ∷ []

-- of the conflicts the last k - 1
abbrev pub wanted_late : List Conflict → ℕ → List Conflict
wanted_late conflicts k = drop (length conflicts - (k - 1)) (in_order is_sooner conflicts)

-- in `latest_first` 3's commit cuts at 0: with 2's shadow kept the reader would start anew, and not at the last point that it wants
pub record GiveUpEarliest : Type 0 where
  pub wrong : wanted_late ((2, 1) ∷ (3, 0) ∷ []) 2 ≡ (2, 1) ∷ []
  pub breaks : (after_cut (Some 0) (standing_at 2 (waiting_for 2 1 ∷ []))).position ≢ last_point (wanted_late ((2, 1) ∷ (3, 0) ∷ []) 2)
  pub right : wanted_of ((2, 1) ∷ (3, 0) ∷ []) 2 ≡ (3, 0) ∷ []
  pub keeps : (after_cut (Some 1) (standing_at 2 (waiting_for 3 0 ∷ []))).position ≡ last_point (wanted_of ((2, 1) ∷ (3, 0) ∷ []) 2)
