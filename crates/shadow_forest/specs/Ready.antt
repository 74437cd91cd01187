-- What the parts of a forest need of each other.
use Rattle.std.specs.Prelude.{ℕ, ◌≤◌, List, length}
use Rattle.std.specs.List.{AllByRecursion}
use Rattle.txn_interp.specs.State.{Carries}
use Rattle.shadow_lanes.specs.Seats.{Seat}
use Rattle.shadow_forest.specs.declared.txn.Txn.{Txn}
use Rattle.shadow_forest.specs.Parts.{nodes_at}

-- t is kept, and its nodes are those of a program that fits so many items
pub record IsCarried (items : ℕ) (txns : List Txn) (t : ℕ) : Type 0 where
  pub least : 1 ≤ t
  pub most : t ≤ length txns
  pub carries : Carries (nodes_at txns t) items

-- the transactions that are started are
abbrev pub AreCarried : ℕ → List Txn → List Seat → Type 0
AreCarried items txns seats = AllByRecursion (λ (r : Seat). IsCarried items txns r.number) seats

-- t is kept among so many
pub record IsAmong (many t : ℕ) : Type 0 where
  pub least : 1 ≤ t
  pub most : t ≤ many
