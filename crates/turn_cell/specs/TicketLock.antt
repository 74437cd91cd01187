-- The rule of the turn cell, in four parts. It holds between any two steps, over the words, the slot and the views of all passes.
use Rattle.std.specs.Prelude.{◌≡◌, ◌⊎◌, ℕ, ◌+◌, ◌%◌, ◌^◌, ◌<◌, ◌≤◌, ◌↔◌, true, List, [], ◌∷◌, Option, Some}
use Rattle.std.specs.List.{sum_by}
use mathlib.Core.Option.{some, none}
use mathlib.Core.Option as maybe
use mathlib.Core.List.{IsPrefix}
use lib.ListN.{get_elem?}
use Rattle.atomic_table.specs.Table.{State}
use Rattle.turn_cell.specs.declared.view.View.{View}
use Rattle.turn_cell.specs.declared.view.Stage.{Stage}
use Rattle.turn_cell.specs.declared.view.Stage.TheVariants.{Idle, Waits, Holds, Joined}
use Rattle.turn_cell.specs.Views.{HasTicket, tickets_of, is_holding, spent}

module _ {I : Type 0} where
  -- the pass with this number has this view
  abbrev pub IsViewAt : List (View I) → ℕ → View I → Type 0
  IsViewAt views j v = get_elem? views j ≡ some v

  -- some pass has the ticket n
  abbrev pub IsOutAt : List (View I) → ℕ → Type 0
  IsOutAt views n = (j : ℕ) × (v : View I) × IsViewAt views j v × HasTicket v.stage n

  -- how many tickets all passes have
  abbrev pub tickets_in : List (View I) → ℕ
  tickets_in views = sum_by (λ v. tickets_of v.stage) views

  -- how many seats all passes have
  abbrev pub seats_in : List (View I) → ℕ
  seats_in views = sum_by (λ v. v.seats) views

  -- 1. No two passes have one ticket, and the tickets that passes have are those below `next` that were not passed on
  pub record TicketsInOrder (views : List (View I)) (serving next : ℕ) : Type 0 where
    pub distinct : (i j : ℕ) (v w : View I) (n : ℕ) → IsViewAt views i v → IsViewAt views j w → HasTicket v.stage n → HasTicket w.stage n → i ≡ j
    pub out : (n : ℕ) → IsOutAt views n ↔ ((serving ≤ n) × (n < next))
    -- so there are so many of them
    pub counted : next ≡ serving + tickets_in views

  -- the two lists of a join that has not met yet begin this list
  abbrev pub OldBegin : List I → Stage I → Type 0
  OldBegin list Idle = Unit {0}
  OldBegin list (Waits t) = Unit {0}
  OldBegin list (Holds t found) = Unit {0}
  OldBegin list (Joined a b) = IsPrefix a list × IsPrefix b list

  -- all that any pass has seen begins this list
  abbrev pub AllSeenBegin : List I → List (View I) → Type 0
  AllSeenBegin list views = (j : ℕ) (v : View I) → IsViewAt views j v → IsPrefix v.seen list × OldBegin list v.stage

module _ {V I : Type 0} (items : V → List I) where
  -- 2. The slot is at home with a value, no pass holds it, and all that was seen begins the value's list
  pub record IsHome (homes : List (maybe.Option (Option V))) (views : List (View I)) (list : List I) : Type 0 where
    pub value : (x : V) × (homes ≡ some (Some x) ∷ []) × (items x ≡ list)
    pub unheld : (j : ℕ) (v : View I) → IsViewAt views j v → ¬ (is_holding v.stage ≡ true)
    pub seen : AllSeenBegin list views

module _ {I : Type 0} where
  -- 3. The slot is taken. One pass holds it, the one with the ticket that is served, and all that was seen begins the list that it found
  pub record IsTaken {S : Type 0} (homes : List (maybe.Option S)) (views : List (View I)) (serving : ℕ) (list : List I) : Type 0 where
    pub away : homes ≡ none ∷ []
    pub holder : (j : ℕ) × (v : View I) × IsViewAt views j v × (v.stage ≡ Holds serving list)
    pub alone : (i j : ℕ) (v w : View I) → IsViewAt views i v → IsViewAt views j w → is_holding v.stage ≡ true → is_holding w.stage ≡ true → i ≡ j
    pub seen : AllSeenBegin list views

  -- 4. The seats of all passes are those of the opening, and each pass that was not joined away has one. The tickets out are thus at most as many as the seats
  pub record SeatsAddUp (views : List (View I)) (seats : ℕ) : Type 0 where
    pub total : seats_in views ≡ seats
    pub seated : (j : ℕ) (v : View I) → IsViewAt views j v → (v ≡ spent) ⊎ (0 < v.seats)
    pub few : seats < 2 ^ 32

module _ {V I : Type 0} (items : V → List I) where
  -- The rule whole. Tickets are counted without end here, and modulo 2^64 in the words. `list` is that of the value at home, or the one that was found
  pub record InTurn (seats : ℕ) (s : State (Option V) (View I)) : Type 0 where
    pub serving : ℕ
    pub next : ℕ
    pub list : List I
    pub words : s.words ≡ next % 2 ^ 64 ∷ serving % 2 ^ 64 ∷ []
    pub tickets : TicketsInOrder s.views serving next
    pub slot : IsHome items s.homes s.views list ⊎ IsTaken s.homes s.views serving list
    pub seating : SeatsAddUp s.views seats
