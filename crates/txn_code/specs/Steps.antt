-- What a step of a node does, and where it leads.
use Rattle.std.specs.Prelude.{◌≡◌, ◌≢◌, ℕ, zero, suc, nat_eq, Bool, true, false, if◌then◌else◌, List, [], ◌∷◌, ◌++◌, length, slice_get, Some}
use Rattle.txn_runs.specs.declared.outcome.End.TheVariants.{Failed}
use Rattle.txn_runs.specs.Value.{calc, holds}
use Rattle.txn_runs.specs.Run.{Tables, Running, or_fault, put, value_of, item_at, read, write, step}
use Rattle.txn_code.specs.declared.node.Node.{Node}
use Rattle.txn_code.specs.declared.node.Act.{Act}
use Rattle.txn_code.specs.declared.node.Act.TheVariants.{Calc, Move, Read, Write, Test, Turn, Emit, Fail, End}
use Rattle.txn_code.specs.Flow.{Stands}

-- what a node does to all that a run holds beside its rest
abbrev pub done_by : Act → Tables → ℕ → Running → Running
done_by (Calc to left op right) tables n s = or_fault (calc op (value_of s left) (value_of s right)) s (λ v. put to v s)
done_by (Move to from) tables n s = put to (value_of s from) s
done_by (Read to table at) tables n s = or_fault (item_at table (value_of s at)) s (read tables n to s)
done_by (Write table at from) tables n s = or_fault (item_at table (value_of s at)) s (write (value_of s from) s)
done_by (Test left cmp right) tables n s = s
done_by (Turn count depth) tables n s = s
done_by (Emit from) tables n s = record s { emits = s.emits ++ value_of s from ∷ [] }
done_by (Fail code) tables n s = record s { end = Failed (value_of s code) }
done_by End tables n s = s

-- a place, and the turns to go of the loops around it, the innermost first
abbrev pub Spot : Type 0
Spot = ℕ × List ℕ

-- from a loop with so many turns to go: into its body, with one turn less, or past it
abbrev pub turned : ℕ → List ℕ → ℕ → ℕ → Spot
turned zero outer next other = (other, outer)
turned (suc m) outer next other = (next, m ∷ outer)

-- a loop that is come to has all its turns to go, and one that is returned to has what its counter says
abbrev pub led_turn : Bool → ℕ → List ℕ → ℕ → ℕ → Spot
led_turn true count counters next other = turned count counters next other
led_turn false count (m ∷ outer) next other = turned m outer next other
led_turn false count [] next other = (other, [])

-- where a node that does this leads
abbrev pub led : Act → ℕ → ℕ → List ℕ → Running → Spot
led (Test left cmp right) next other counters s = (if holds cmp (value_of s left) (value_of s right) then next else other, counters)
led (Turn count depth) next other counters s = led_turn (nat_eq (length counters) depth) count counters next other
led _ next other counters s = (next, counters)

-- The node at a place, which isn't the end, makes the step of a running state: it does the step's deed, and leads to what
-- stands for the rest after the step.
pub record MakesStep (nodes : List Node) (at : ℕ) (counters : List ℕ) (tables : Tables) (n : ℕ) (s : Running) : Type 0 where
  pub node : Node
  pub is : slice_get nodes at ≡ Some node
  pub going : node.act ≢ End
  pub leads : Stands nodes (led node.act node.next node.other counters s).0 (led node.act node.next node.other counters s).1 (step tables n s).rest
  pub does : step tables n s ≡ record (done_by node.act tables n s) { rest = (step tables n s).rest }

-- the node at a place is the end
pub record IsEnd (nodes : List Node) (at : ℕ) : Type 0 where
  pub node : Node
  pub is : slice_get nodes at ≡ Some node
  pub ends : node.act ≡ End
