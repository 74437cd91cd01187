-- Rows that come behind the pick leave it.
use Rattle.std.proofs.Common.{◌≡◌, ℕ, suc, true, false, List, [], ◌∷◌, ◌++◌, Option, Some, None, option_to_list, refl, ap, sym, ◌∙◌, arith, append-nil, append_assoc}
use Rattle.std.specs.List.{AllByRecursion}
use Rattle.std.proofs.lemmas.Bool.{cases_Bool}
use Rattle.std.proofs.lemmas.Bool.Decides.{nat_tests}
use Rattle.block_rule.specs.declared.role.Row.{Row}
use Rattle.forest_model.specs.Choose.{first_by}
use Rattle.forest_model.specs.Pick.{pick_of, is_earlier, is_ready}
use Rattle.forest_model.proofs.Lists.{either, all-weaken}
use Rattle.ready_order.proofs.Picks.{picks-ready, picks-other}
use Rattle.shadow_lanes.specs.Seats.{Seat, Waiter}
use Rattle.shadow_forest.specs.declared.txn.Txn.{Txn}
use Rattle.shadow_forest.specs.Parts.{deadline_at, waiter_rows, seat_rows, row_comes_before}

-- one row more
later-row : (rows : List Row) (b x : Row) → pick_of rows ≡ Some b → is_earlier x b ≡ false → pick_of (rows ++ x ∷ []) ≡ Some b
later-row rows b x e later =
    either (cases_Bool (is_ready x))
    (λ ready. picks-ready rows x ready ∙ ap (λ o. first_by is_earlier (option_to_list o ++ x ∷ [])) e ∙ rw later refl)
    (λ other. picks-other rows x other ∙ e)

-- and more
later-rows : (rows more : List Row) (b : Row) → pick_of rows ≡ Some b → AllByRecursion (λ x. is_earlier x b ≡ false) more → pick_of (rows ++ more) ≡ Some b
later-rows rows [] b e all = ap pick_of (append-nil rows) ∙ e
later-rows rows (x ∷ xs) b e all = ap pick_of (sym (append_assoc rows (x ∷ []) xs)) ∙ later-rows (rows ++ x ∷ []) xs b (later-row rows b x e all.0) all.1

-- the row is one of t
record IsRowOf (t deadline : ℕ) (x : Row) : Type 0 where
  pub number : x.txn ≡ t
  pub deadline_is : x.deadline ≡ deadline

waiter_rows-of : (t deadline place : ℕ) (ws : List Waiter) → AllByRecursion (IsRowOf t deadline) (waiter_rows t deadline place ws)
waiter_rows-of t deadline place [] = tt
waiter_rows-of t deadline place (w ∷ ws) = (record { number = refl; deadline_is = refl }, waiter_rows-of t deadline (suc place) ws)

behind : (b x : Row) (t deadline : ℕ) → IsRowOf t deadline x → row_comes_before (Some b) t deadline ≡ true → is_earlier x b ≡ false
behind b x t deadline of_t first = let number = of_t.number in let deadline_is = of_t.deadline_is in grind (arith, nat_tests)

-- where it comes before all of r's rows it stays
pub pick-stays : (txns : List Txn) (r : Seat) (best : Option Row) (before : List Row) → best ≡ pick_of before → row_comes_before best r.number (deadline_at txns r.number) ≡ true → best ≡ pick_of (before ++ seat_rows txns r)
pick-stays txns r None before e first = cc
pick-stays txns r (Some b) before e first =
    let deadline : ℕ = deadline_at txns r.number in
    sym
    (later-rows before (seat_rows txns r) b (sym e)
    (all-weaken (IsRowOf r.number deadline) (λ x. is_earlier x b ≡ false) (λ x of_t. behind b x r.number deadline of_t first) (seat_rows txns r)
    (record { number = refl; deadline_is = refl }, waiter_rows-of r.number deadline 1 r.waiters)))
