-- The pick: the shadow that makes the next step.
use Rattle.std.specs.Prelude.{ℕ, suc, Bool, false, not, ◌&&◌, ◌||◌, ◌==◌, nat_lt, List, [], ◌∷◌, Option, Some, None, filter, flat_map}
use Rattle.block_rule.specs.declared.role.Role.{Role}
use Rattle.block_rule.specs.declared.role.Role.TheVariants.{Optimistic, Guard}
use Rattle.block_rule.specs.declared.role.Row.{Row}
use Rattle.block_rule.specs.Standing.{standing, is_runnable}
use Rattle.journal_core.specs.Journal.{deadline_of}
use Rattle.forest_model.specs.Choose.{first_by}
use Rattle.forest_model.specs.Point.{Conflict}
use Rattle.forest_model.specs.Forest.{Shadow, Started, Forest, is_ended, wanted}

-- optimistic shadows come before those that wait
abbrev pub rank : Role → ℕ
rank Optimistic = 0
rank (Guard u) = 1

-- by deadline, by number, optimistic before the others, by place
abbrev pub is_earlier : Row → Row → Bool
is_earlier x y =
    nat_lt x.deadline y.deadline
    || (x.deadline == y.deadline && (nat_lt x.txn y.txn || (x.txn == y.txn && (nat_lt (rank x.role) (rank y.role) || (rank x.role == rank y.role && nat_lt x.place y.place)))))

-- it may make a step, and is not out
abbrev pub is_ready : Row → Bool
is_ready row = is_runnable row.standing && not row.out

-- the first that is ready; of several that are equal in all four the first in the list
abbrev pub pick_of : List Row → Option Row
pick_of rows = first_by is_earlier (filter is_ready rows)

-- the rows of t's shadows that wait, from this place on, each with its conflict
abbrev pub guard_rows : ℕ → ℕ → ℕ → List Shadow → List Conflict → List Row
guard_rows t deadline place [] ws = []
guard_rows t deadline place (s ∷ ss) [] = []
guard_rows t deadline place (s ∷ ss) (w ∷ ws) =
    record { txn = t; deadline = deadline; role = Guard s.guard; place = place; standing = standing (Guard s.guard) s.position (Some w.1) false; out = s.out }
    ∷ guard_rows t deadline (suc place) ss ws

-- the rows of r's shadows, the optimistic one first
abbrev pub rows_of : Forest → Started → List Row
rows_of f r =
    record {
      txn = r.number;
      deadline = deadline_of f.journal r.number;
      role = Optimistic;
      place = 0;
      standing = standing Optimistic r.position None (is_ended f r);
      out = r.out;
    }
    ∷ guard_rows r.number (deadline_of f.journal r.number) 1 r.shadows (wanted f r)

-- the first ready shadow of all
abbrev pub pick : Forest → Option Row
pick f = pick_of (flat_map (rows_of f) f.started)
