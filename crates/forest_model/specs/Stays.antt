-- Which steps leave the pick as it was.
use Rattle.std.specs.Prelude.{◌≡◌, ℕ, suc, ◌+◌, ◌<◌, ◌≤◌, Bool, true, false, ◌==◌, nat_lt, if◌then◌else◌, List, [], ◌∷◌, Option, Some, None}
use Rattle.txn_runs.specs.Run.{after}
use Rattle.forest_model.specs.Runs.{is_local}
use Rattle.forest_model.specs.Point.{Conflict}
use Rattle.forest_model.specs.Forest.{Shadow, Started, Forest, program, wanted}
use Rattle.block_rule.specs.declared.role.Row.{Row}
use Rattle.forest_model.specs.Pick.{pick}
use Rattle.forest_model.specs.Sound.{IsSound}
use Rattle.forest_model.specs.Events.{give_shadows}
use Rattle.forest_model.specs.Drain.{run_idle, first_ended, until_commit}

-- the shadow for this guard is out
abbrev pub out_on : ℕ → List Shadow → List Conflict → Bool
out_on u [] ws = false
out_on u (s ∷ ss) [] = false
out_on u (s ∷ ss) (w ∷ ws) = if s.guard == u then s.out else out_on u ss ws

-- after one step more the shadow for this guard is still before its point
abbrev pub stays_on : ℕ → List Shadow → List Conflict → Bool
stays_on u [] ws = false
stays_on u (s ∷ ss) [] = false
stays_on u (s ∷ ss) (w ∷ ws) = if s.guard == u then nat_lt (suc s.position) w.1 else stays_on u ss ws

-- each of so many steps from r's position on is local
abbrev pub AreLocal : Forest → Started → ℕ → Type 0
AreLocal f r n = (m : ℕ) → m < n → is_local (after (program f r) f.tables (r.position + m)) ≡ true

-- a run from f makes so many steps more than one from g, and both end alike
pub record Leads (run : Forest → ℕ × Forest) (f g : Forest) (n : ℕ) : Type 0 where
  pub made : (run f).0 ≡ n + (run g).0
  pub last : (run f).1 ≡ (run g).1

-- so many steps of the pick lead from f to g, and where nobody had ended in f a drain makes them before its next commit
pub record RunsOn (f g : Forest) (n : ℕ) : Type 0 where
  pub idles : Leads run_idle f g n
  pub drains : first_ended f ≡ None → Leads until_commit f g n

-- in g the pick of f is the pick still, and nobody has ended since
pub record IsStillPicked (f g : Forest) (row : Row) : Type 0 where
  pub sound : IsSound g
  pub picked : pick g ≡ Some row
  pub nobody : first_ended g ≡ first_ended f

-- where the shadow for this guard stands, if there is one
abbrev pub position_on : ℕ → List Shadow → List Conflict → Option ℕ
position_on u [] ws = None
position_on u (s ∷ ss) [] = None
position_on u (s ∷ ss) (w ∷ ws) = if s.guard == u then Some s.position else position_on u ss ws

-- and its point
abbrev pub point_on : ℕ → List Shadow → List Conflict → Option ℕ
point_on u [] ws = None
point_on u (s ∷ ss) [] = None
point_on u (s ∷ ss) (w ∷ ws) = if s.guard == u then Some w.1 else point_on u ss ws

-- the shadows with the one for this guard at this position, not out
abbrev pub placed_on : ℕ → ℕ → List Shadow → List Conflict → List Shadow
placed_on u q [] ws = []
placed_on u q (s ∷ ss) [] = s ∷ ss
placed_on u q (s ∷ ss) (w ∷ ws) = if s.guard == u then record s { position = q; out = false } ∷ ss else s ∷ placed_on u q ss ws

-- in g r's shadow for this guard stands so many steps further than in f, at most at its point, and all else is as it was
pub record GuardRan (f : Forest) (u : ℕ) (r : Started) (g : Forest) (made : ℕ) : Type 0 where
  pub position : ℕ
  pub point : ℕ
  pub at : position_on u r.shadows (wanted f r) ≡ Some position
  pub to : point_on u r.shadows (wanted f r) ≡ Some point
  pub within : position + made ≤ point
  pub next : g ≡ give_shadows r.number (placed_on u (position + made) r.shadows (wanted f r)) f
