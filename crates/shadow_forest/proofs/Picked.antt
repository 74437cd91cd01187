-- The transaction and the slot of the pick.
use Rattle.std.proofs.Common.{◌≡◌, ℕ, suc, ◌+◌, ◌≤◌, ◌<◌, List, [], ◌∷◌, length, map, filter, flat_map, Option, Some, None, ap, sym, ◌∙◌, arith}
use Rattle.std.specs.Prelude.{slice_get, option_map}
use Rattle.std.specs.List.{AllByRecursion}
use Rattle.block_rule.specs.declared.role.Row.{Row}
use Rattle.forest_model.specs.Point.{Conflict}
use Rattle.forest_model.specs.Forest.{Shadow, Started, Forest, wanted, find_started}
use Rattle.journal_core.specs.Journal.{deadline_of}
use Rattle.forest_model.specs.Pick.{is_ready, is_earlier, guard_rows, rows_of, pick}
use Rattle.forest_model.specs.Sound.{IsSound}
use Rattle.forest_model.proofs.Lists.{all-weaken, all-filter}
use Rattle.forest_model.proofs.StartedLaws.{all-first}
use Rattle.forest_model.proofs.PickLaws.{found-self, all-flat_map}
use Rattle.shadow_lanes.specs.Seats.{Seat, started_of, find_seat}
use Rattle.shadow_forest.proofs.Seen.{find-seat, started-at}

-- a started transaction has the shadow of the row
abbrev pub IsIn : Forest → Row → Type 0
IsIn f row = (r : Started) × (find_started f.started row.txn ≡ Some r) × (row.place ≤ length r.shadows)

guards-in : (f : Forest) (r : Started) → find_started f.started r.number ≡ Some r → (deadline place : ℕ) (ss : List Shadow) (ws : List Conflict) → place + length ss ≤ suc (length r.shadows)
    → AllByRecursion (IsIn f) (guard_rows r.number deadline place ss ws)
guards-in f r found deadline place [] ws few = tt
guards-in f r found deadline place (s ∷ ss) [] few = tt
guards-in f r found deadline place (s ∷ ss) (w ∷ ws) few = ((r, found, omega (arith, few)), guards-in f r found deadline (suc place) ss ws (omega (arith, few)))

rows-in : (f : Forest) (r : Started) → find_started f.started r.number ≡ Some r → AllByRecursion (IsIn f) (rows_of f r)
rows-in f r found = ((r, found, omega arith), guards-in f r found (deadline_of f.journal r.number) 1 r.shadows (wanted f r) (omega arith))

pub pick-in : (f : Forest) (row : Row) → IsSound f → pick f ≡ Some row → IsIn f row
pick-in f row h e =
    let each : AllByRecursion (λ r. AllByRecursion (IsIn f) (rows_of f r)) f.started =
    all-weaken (λ r. find_started f.started r.number ≡ Some r) (λ r. AllByRecursion (IsIn f) (rows_of f r)) (λ r found. rows-in f r found) f.started (found-self f.started h.right.rising)
    in
    all-first (IsIn f) is_earlier (filter is_ready (flat_map (rows_of f) f.started)) row e
    (all-filter (IsIn f) is_ready (flat_map (rows_of f) f.started) (all-flat_map (IsIn f) (rows_of f) f.started each))

-- Where it stands among those that are started.

pub never-none : (seats : List Seat) (t : ℕ) (r : Started) → find_seat seats t ≡ None → find_started (map started_of seats) t ≡ Some r → ⊥
never-none seats t r none found =
    let e : ◌≡◌ {A = Option Started} None (Some r) = ap (option_map started_of) (sym none) ∙ (sym (find-seat seats t) ∙ found) in
    cc

pub place-there : (seats : List Seat) (t place : ℕ) (r : Started) → find_started (map started_of seats) t ≡ Some r → place < length seats → slice_get seats place ≡ find_seat seats t
    → slice_get (map started_of seats) place ≡ Some r
place-there seats t place r found less same =
    let x = started-at seats t place less same in
    x.1 ∙ (sym x.2 ∙ found)
