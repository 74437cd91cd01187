-- The first by priority, one element more at the end of the list.
use Rattle.std.proofs.Common.{◌≡◌, ℕ, ◌+◌, List, [], ◌∷◌, ◌++◌, length, map, filter, take, Option, Some, None, refl, ap, sym, ◌∙◌, arith, slice_get, IfSome, cond, Bool, true, false, ltb, eqb, ◌||◌, ◌&&◌}
use Rattle.std.specs.Cmp.{IsStrictWeakOrder}
use Rattle.std.specs.List.{AllByRecursion}
use Rattle.std.proofs.lemmas.Bool.{cond_both}
use Rattle.std.proofs.lemmas.Bool.Decides.{nat_tests}
use Rattle.std.proofs.lemmas.List.{map-append, append-nil}
use Rattle.std.proofs.lemmas.List.Elements.{filter-append}
use Rattle.forest_model.specs.Choose.{first_by}
use Rattle.forest_model.proofs.FirstLaws.{first_with, first_by-push, first_by-has}
use Rattle.shadow_forest.specs.declared.txn.Txn.{Txn}
use Rattle.shadow_lanes.specs.Seats.{Seat}
use Rattle.shadow_forest.specs.Parts.{deadline_at, is_prior_at, later_of}
use Rattle.shadow_forest.specs.Ready.{IsCarried, IsAmong}
use Rattle.indexed_lanes.proofs.Passing.{take_more-at}

-- the best so far, of which the one that was there stays where neither comes first
pub first_with-later : {X : Type 0} (before : X → X → Bool) (o : Option X) (x : X) → first_with before o x ≡ Some (later_of before o x)
first_with-later before None x = refl
first_with-later before (Some y) x = refl

pub first_by-later : {X : Type 0} (before : X → X → Bool) → IsStrictWeakOrder before → (xs : List X) (x : X)
    → first_by before (xs ++ x ∷ []) ≡ Some (later_of before (first_by before xs) x)
first_by-later before order xs x = first_by-push before order xs x ∙ first_with-later before (first_by before xs) x

-- the better of two has what both have
pub later_of-has : {X : Type 0} (P : X → Type 0) (before : X → X → Bool) (o : Option X) (x : X) → IfSome o P → P x → P (later_of before o x)
later_of-has P before None x has here = here
later_of-has P before (Some y) x has here = cond_both (before x y) x y P (λ e. here) (λ e. has)

by_deadline : (d : ℕ → ℕ) → IsStrictWeakOrder (λ (t u : ℕ). ltb (d t) (d u) || (eqb (d t) (d u) && ltb t u))
by_deadline d = record { one_way = λ a b h. grind (arith, nat_tests); chain = λ a b c g h. grind (arith, nat_tests) }

pub prior_order : (txns : List Txn) → IsStrictWeakOrder (is_prior_at txns)
prior_order txns = by_deadline (deadline_at txns)

-- the numbers of those whose optimistic shadow has run to its end
abbrev pub ended_numbers : List Seat → List ℕ
ended_numbers seats = map (λ (r : Seat). r.number) (filter (λ (r : Seat). r.optimistic.state.done) seats)

ended_more : (seats : List Seat) (i : ℕ) (r : Seat) → slice_get seats i ≡ Some r
    → ended_numbers (take (i + 1) seats) ≡ ended_numbers (take i seats) ++ cond r.optimistic.state.done (r.number ∷ []) []
ended_more seats i r is =
    ap ended_numbers (take_more-at seats i r is)
    ∙ ap (map (λ (x : Seat). x.number)) (filter-append (λ (x : Seat). x.optimistic.state.done) (take i seats) (r ∷ []))
    ∙ map-append (λ (x : Seat). x.number) (filter (λ (x : Seat). x.optimistic.state.done) (take i seats)) (filter (λ (x : Seat). x.optimistic.state.done) (r ∷ []))
    ∙ ap (λ ts. ended_numbers (take i seats) ++ ts) (cases r.optimistic.state.done)
  where
    cases : (b : Bool) → map (λ (x : Seat). x.number) (cond b (r ∷ []) []) ≡ cond b (r.number ∷ []) []
    cases true = refl
    cases false = refl

-- the next has run to its end
pub first_ended_more : (txns : List Txn) (seats : List Seat) (i : ℕ) (r : Seat) (best : Option ℕ) → slice_get seats i ≡ Some r → r.optimistic.state.done ≡ true
    → best ≡ first_by (is_prior_at txns) (ended_numbers (take i seats)) → Some (later_of (is_prior_at txns) best r.number) ≡ first_by (is_prior_at txns) (ended_numbers (take (i + 1) seats))
first_ended_more txns seats i r best is done e =
    let more : ended_numbers (take (i + 1) seats) ≡ ended_numbers (take i seats) ++ r.number ∷ [] = rw done at (ended_more seats i r is) in
    ap (λ o. Some (later_of (is_prior_at txns) o r.number)) e
    ∙ sym (ap (first_by (is_prior_at txns)) more ∙ first_by-later (is_prior_at txns) (prior_order txns) (ended_numbers (take i seats)) r.number)

-- the next has not
pub first_ended_same : (txns : List Txn) (seats : List Seat) (i : ℕ) (r : Seat) (best : Option ℕ) → slice_get seats i ≡ Some r → r.optimistic.state.done ≡ false
    → best ≡ first_by (is_prior_at txns) (ended_numbers (take i seats)) → best ≡ first_by (is_prior_at txns) (ended_numbers (take (i + 1) seats))
first_ended_same txns seats i r best is done e =
    let more : ended_numbers (take (i + 1) seats) ≡ ended_numbers (take i seats) ++ [] = rw done at (ended_more seats i r is) in
    e ∙ sym (ap (first_by (is_prior_at txns)) (more ∙ append-nil (ended_numbers (take i seats))))

-- one that is carried is among those that are kept
pub among_carried : (items : ℕ) (txns : List Txn) (t : ℕ) → IsCarried items txns t → IsAmong (length txns) t
among_carried items txns t h = record { least = h.least; most = h.most }

pub first_found : {X : Type 0} (P : X → Type 0) (before : X → X → Bool) (xs : List X) (x : X) → first_by before xs ≡ Some x → AllByRecursion P xs → P x
first_found P before xs x is all = rw is at (first_by-has P before xs all)
