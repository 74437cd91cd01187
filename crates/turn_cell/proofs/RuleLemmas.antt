-- The rule of the cell view by view: what each pass knows of the words, the slot and the list. The steps are proved over this form, which says the same.
use Rattle.std.proofs.Common.{◌≡◌, ◌⊎◌, ℕ, ◌+◌, ◌%◌, ◌^◌, ◌<◌, ◌≤◌, true, List, [], ◌∷◌, sym, refl, ap, ◌∙◌, ⊎_elim, inl, inr, arith, Option, Some}
use mathlib.Core.Bool.{true≢false}
use mathlib.Core.Option.{none, some, some-injective, some-ne-none}
use mathlib.Core.Option as maybe
use mathlib.Core.List.{IsPrefix}
use lib.ListN.{get_elem?}
use Rattle.atomic_table.specs.Table.{State, Me, Allows, Splits, Joins}
use Rattle.turn_cell.specs.declared.view.View.{View}
use Rattle.turn_cell.specs.declared.view.Stage.{Stage}
use Rattle.turn_cell.specs.declared.view.Stage.TheVariants.{Idle, Waits, Holds, Joined}
use Rattle.turn_cell.specs.Views.{spent, HasTicket, is_holding, list_found}
use Rattle.turn_cell.specs.TicketLock.{IsOutAt, tickets_in, seats_in, OldBegin, AllSeenBegin, IsHome, IsTaken, InTurn}

module _ {I : Type 0} where
  abbrev pub ticket_or : Stage I → ℕ
  ticket_or Idle = 0
  ticket_or (Waits k) = k
  ticket_or (Holds k at) = k
  ticket_or (Joined a b) = 0

  module _ {S : Type 0} (homes : List (maybe.Option S)) (serving next : ℕ) (list : List I) where
    abbrev pub Knows : Stage I → Type 0
    Knows Idle = Unit {0}
    Knows (Waits t) = (serving ≤ t) × (t < next)
    Knows (Holds t at) = (t ≡ serving) × (t < next) × (at ≡ list) × (homes ≡ none ∷ [])
    Knows (Joined a b) = IsPrefix a list × IsPrefix b list

    pub record Fits (v : View I) : Type 0 where
      pub seen : IsPrefix v.seen list
      pub stage : Knows v.stage
      -- a view that wasn't joined away has a seat
      pub seated : (v ≡ spent) ⊎ (0 < v.seats)

    pub in_range : (st : Stage I) (n : ℕ) → Knows st → HasTicket st n → (serving ≤ n) × (n < next)
    in_range Idle n k h = absurd h
    in_range (Waits t) n k h = (omega (arith, k.0, h), omega (arith, k.1, h))
    in_range (Holds t at) n k h = (omega (arith, k.0, h), omega (arith, k.1, h))
    in_range (Joined a b) n k h = absurd h

    -- a view that holds the slot has the ticket that is served
    pub serves : (st : Stage I) → is_holding st ≡ true → Knows st → HasTicket st serving
    serves Idle h k = absurd (true≢false (sym h))
    serves (Waits t) h k = absurd (true≢false (sym h))
    serves (Holds t at) h k = k.0
    serves (Joined a b) h k = absurd (true≢false (sym h))

    -- a view that holds the slot found the list, and the slot is empty
    holds : (st : Stage I) → is_holding st ≡ true → Knows st → (st ≡ Holds serving list) × (homes ≡ none ∷ [])
    holds Idle h k = absurd (true≢false (sym h))
    holds (Waits t) h k = absurd (true≢false (sym h))
    holds (Holds t at) h k = ((λ i. Holds (k.0 i) (k.2 i)), k.3)
    holds (Joined a b) h k = absurd (true≢false (sym h))

    old_lists : (st : Stage I) → Knows st → OldBegin list st
    old_lists Idle k = tt
    old_lists (Waits t) k = tt
    old_lists (Holds t at) k = tt
    old_lists (Joined a b) k = k

    -- what a view knows, from its ticket's range, the slot and the old lists
    knows : (st : Stage I) → ((n : ℕ) → HasTicket st n → (serving ≤ n) × (n < next)) → (is_holding st ≡ true → (st ≡ Holds serving list) × (homes ≡ none ∷ [])) → OldBegin list st → Knows st
    knows Idle range slot old = tt
    knows (Waits t) range slot old = range t refl
    knows (Holds t at) range slot old = let is = slot refl in (ap ticket_or is.0, (range t refl).1, ap list_found is.0, is.1)
    knows (Joined a b) range slot old = old

module _ {V I : Type 0} (items : V → List I) (seats : ℕ) where
  pub record ViewByView (s : State (Option V) (View I)) : Type 0 where
    pub serving : ℕ
    pub next : ℕ
    pub list : List I
    pub words : s.words ≡ next % 2 ^ 64 ∷ serving % 2 ^ 64 ∷ []
    pub slot : ((x : V) × (s.homes ≡ some (Some x) ∷ []) × (items x ≡ list)) ⊎ ((s.homes ≡ none ∷ []) × ((j : ℕ) × (v : View I) × (get_elem? s.views j ≡ some v) × (is_holding v.stage ≡ true)))
    pub each : (j : ℕ) (v : View I) → get_elem? s.views j ≡ some v → Fits s.homes serving next list v
    pub out : (n : ℕ) → serving ≤ n → n < next → IsOutAt s.views n
    pub apart : (i j : ℕ) (v w : View I) (n : ℕ) → get_elem? s.views i ≡ some v → get_elem? s.views j ≡ some w → HasTicket v.stage n → HasTicket w.stage n → i ≡ j
    pub drawn : next ≡ serving + tickets_in s.views
    pub seated : seats_in s.views ≡ seats
    pub few : seats < 2 ^ 32

  full : (homes : List (maybe.Option (Option V))) (x : V) → homes ≡ some (Some x) ∷ [] → homes ≡ none ∷ [] → ⊥
  full homes x e f = some-ne-none (Some x) (some-injective (some (Some x)) none (ap (λ (hs : List (maybe.Option (Option V))). get_elem? hs 0) (sym e ∙ f)))

  module _ (s : State (Option V) (View I)) (r : InTurn items seats s) where
    abbrev Slot : Type 0
    Slot = IsHome items s.homes s.views r.list ⊎ IsTaken s.homes s.views r.serving r.list

    seen_in : Slot → AllSeenBegin r.list s.views
    seen_in (inl h) = h.seen
    seen_in (inr h) = h.seen

    slot_in : (j : ℕ) (v : View I) → get_elem? s.views j ≡ some v → Slot → is_holding v.stage ≡ true → (v.stage ≡ Holds r.serving r.list) × (s.homes ≡ none ∷ [])
    slot_in j v e (inl h) held = absurd (h.unheld j v e held)
    slot_in j v e (inr h) held =
        let k = h.holder.0 in
        let u = h.holder.1 in
        let same : k ≡ j = h.alone k j u v h.holder.2 e (ap is_holding h.holder.3) held in
        let one : u ≡ v = some-injective u v (sym h.holder.2 ∙ (ap (get_elem? s.views) same ∙ e)) in
        (ap (λ (z : View I). z.stage) (sym one) ∙ h.holder.3, h.away)

    slot_of : Slot → ((x : V) × (s.homes ≡ some (Some x) ∷ []) × (items x ≡ r.list)) ⊎ ((s.homes ≡ none ∷ []) × ((j : ℕ) × (v : View I) × (get_elem? s.views j ≡ some v) × (is_holding v.stage ≡ true)))
    slot_of (inl h) = inl h.value
    slot_of (inr h) = inr (h.away, (h.holder.0, h.holder.1, h.holder.2, ap is_holding h.holder.3))

    pub view_by_view : ViewByView s
    view_by_view = record {
      serving = r.serving;
      next = r.next;
      list = r.list;
      words = r.words;
      slot = slot_of r.slot;
      each = λ j v e. let seen = seen_in r.slot j v e in record {
        seen = seen.0;
        stage = knows s.homes r.serving r.next r.list v.stage (λ n h. (r.tickets.out n).0 (j, v, e, h)) (slot_in j v e r.slot) seen.1;
        seated = r.seating.seated j v e;
      };
      out = λ n low high. (r.tickets.out n).1 (low, high);
      apart = r.tickets.distinct;
      drawn = r.tickets.counted;
      seated = r.seating.total;
      few = r.seating.few;
    }

  module _ (s : State (Option V) (View I)) (r : ViewByView s) where
    holds_in : (j : ℕ) (v : View I) → get_elem? s.views j ≡ some v → is_holding v.stage ≡ true → (v.stage ≡ Holds r.serving r.list) × (s.homes ≡ none ∷ [])
    holds_in j v e held = holds s.homes r.serving r.next r.list v.stage held (r.each j v e).stage

    serves_in : (j : ℕ) (v : View I) → get_elem? s.views j ≡ some v → is_holding v.stage ≡ true → HasTicket v.stage r.serving
    serves_in j v e held = serves s.homes r.serving r.next r.list v.stage held (r.each j v e).stage

    all_seen : AllSeenBegin r.list s.views
    all_seen j v e = let f = r.each j v e in (f.seen, old_lists s.homes r.serving r.next r.list v.stage f.stage)

    pub rule_of : InTurn items seats s
    rule_of = record {
      serving = r.serving;
      next = r.next;
      list = r.list;
      words = r.words;
      tickets = record {
        distinct = r.apart;
        out = λ n. (λ o. in_range s.homes r.serving r.next r.list o.1.stage n (r.each o.0 o.1 o.2).stage o.3, λ range. r.out n range.0 range.1);
        counted = r.drawn;
      };
      slot = ⊎_elim
          (λ (h : (x : V) × (s.homes ≡ some (Some x) ∷ []) × (items x ≡ r.list)). inl record {
            value = h;
            unheld = λ j v e held. full s.homes h.0 h.1 (holds_in j v e held).1;
            seen = all_seen;
          })
          (λ (h : (s.homes ≡ none ∷ []) × ((j : ℕ) × (v : View I) × (get_elem? s.views j ≡ some v) × (is_holding v.stage ≡ true))). inr record {
            away = h.0;
            holder = (h.1.0, h.1.1, h.1.2, (holds_in h.1.0 h.1.1 h.1.2 h.1.3).0);
            alone = λ i j v w a b hv hw. r.apart i j v w r.serving a b (serves_in i v a hv) (serves_in j w b hw);
            seen = all_seen;
          })
          r.slot;
      seating = record { total = r.seated; seated = λ j v e. (r.each j v e).seated; few = r.few };
    }

-- what a step keeps under one form of a rule it keeps under another that says the same
module _ {S V : Type 0} (P Q : State S V → Type 0) (to : (s : State S V) → P s → Q s) (from : (s : State S V) → Q s → P s) where
  pub allows_of : (slots id : ℕ) (me : Me S V) (word : ℕ) (change : ℕ → ℕ) (tells : ℕ → Me S V → Type 0) → Allows P slots id me word change tells → Allows Q slots id me word change tells
  allows_of slots id me word change tells step s q deep at low = let r = step s (from s q) deep at low in (r.0, r.1, r.2, to _ r.3, r.4)

  pub splits_of : (id : ℕ) (v left right : V) → Splits P id v left right → Splits Q id v left right
  splits_of id v left right step s q at = to _ (step s (from s q) at)

  pub joins_of : (id : ℕ) (v : V) (other : ℕ) (w both left : V) → Joins P id v other w both left → Joins Q id v other w both left
  joins_of id v other w both left step s q at apart theirs = to _ (step s (from s q) at apart theirs)
