-- What a pass knows, and how its steps change that.
use Rattle.std.specs.Prelude.{◌≡◌, ℕ, ◌+◌, ◌-◌, Bool, true, false, nat_lt, List, [], ◌∷◌, ◌++◌, length, if◌then◌else◌}
use Rattle.turn_cell.specs.declared.view.View.{View}
use Rattle.turn_cell.specs.declared.view.Stage.{Stage}
use Rattle.turn_cell.specs.declared.view.Stage.TheVariants.{Idle, Waits, Holds, Joined}

module _ {I : Type 0} where
  -- the pass has drawn the ticket n, and has not passed it on
  abbrev pub HasTicket : Stage I → ℕ → Type 0
  HasTicket Idle n = ⊥
  HasTicket (Waits t) n = t ≡ n
  HasTicket (Holds t found) n = t ≡ n
  HasTicket (Joined a b) n = ⊥

  -- how many tickets a pass has
  abbrev pub tickets_of : Stage I → ℕ
  tickets_of Idle = 0
  tickets_of (Waits t) = 1
  tickets_of (Holds t found) = 1
  tickets_of (Joined a b) = 0

  abbrev pub is_waiting : Stage I → Bool
  is_waiting Idle = false
  is_waiting (Waits t) = true
  is_waiting (Holds t found) = false
  is_waiting (Joined a b) = false

  abbrev pub is_holding : Stage I → Bool
  is_holding Idle = false
  is_holding (Waits t) = false
  is_holding (Holds t found) = true
  is_holding (Joined a b) = false

  -- the list of the value when it was taken
  abbrev pub list_found : Stage I → List I
  list_found Idle = []
  list_found (Waits t) = []
  list_found (Holds t found) = found
  list_found (Joined a b) = []

  -- the view of the first pass, which has all seats
  abbrev pub first_view : List I → ℕ → View I
  first_view list seats = record { seen = list; turns = []; seats = seats; stage = Idle }

  -- the view of a pass that was joined away
  abbrev pub spent : View I
  spent = first_view [] 0

  -- the same pass at another stage
  abbrev pub at_stage : View I → Stage I → View I
  at_stage v stage = record v { stage = stage }

  -- the pass after its turn, which found one list and left another
  abbrev pub after_turn : View I → List I → List I → View I
  after_turn v found left = record { seen = left; turns = v.turns ++ (length found, length left) ∷ []; seats = v.seats; stage = Idle }

  abbrev pub without_one_seat : View I → View I
  without_one_seat v = record v { seats = v.seats - 1 }

  -- a new pass with one seat, which has seen the same
  abbrev pub one_seat_of : View I → View I
  one_seat_of v = first_view v.seen 1

  -- the longer of two lists
  abbrev pub longer : List I → List I → List I
  longer a b = if nat_lt (length a) (length b) then b else a

  -- the pass v once it took in the pass w
  abbrev pub joined : View I → View I → View I
  joined v w = record { seen = longer v.seen w.seen; turns = v.turns; seats = v.seats + w.seats; stage = Joined v.seen w.seen }
