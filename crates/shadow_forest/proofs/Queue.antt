-- Those that wait, each with its deadline, and their numbers.
use Rattle.std.proofs.Common.{◌≡◌, ℕ, ◌+◌, ◌-◌, ◌<◌, ◌==◌, ◌&&◌, Bool, true, false, not, List, [], ◌∷◌, ◌++◌, length, filter, option_map, refl, ap, sym, ◌∙◌, arith, eqb-true, eq-eqb}
use Rattle.std.specs.Prelude.{slice_get}
use Rattle.std.specs.List.{AllByRecursion}
use Rattle.std.proofs.lemmas.Bool.{cases_Bool}
use Rattle.std.proofs.lemmas.List.{map-append}
use Rattle.wait_list.specs.Waiting.{Waiting, comes_first, is_same}
use Rattle.forest_model.specs.Choose.{first_by}
use Rattle.forest_model.proofs.Lists.{either, all-filter, all-append, all-both, all-weaken, length-map'}
use Rattle.forest_model.proofs.FirstLaws.{first_by-agree, first_by-map}
use Rattle.shadow_forest.specs.declared.txn.Txn.{Txn}
use Rattle.shadow_forest.specs.Parts.{deadline_at, deadline_in, is_prior_at}
use Rattle.shadow_forest.specs.Kept.{numbers_waiting, AreQueued}
use Rattle.shadow_forest.specs.Ready.{IsCarried}
use Rattle.shadow_forest.proofs.Carrying.{all-unmap}
use Rattle.shadow_forest.proofs.Elements.{slice_left, slice_last}

-- as many numbers as wait
pub numbers-many : (ws : List Waiting) → length (numbers_waiting ws) ≡ length ws
numbers-many ws = length-map' (λ (w : Waiting). w.1) ws

-- the numbers with one more
pub numbers-push : (ws : List Waiting) (deadline t : ℕ) → numbers_waiting (ws ++ (deadline, t) ∷ []) ≡ numbers_waiting ws ++ t ∷ []
numbers-push ws deadline t = map-append (λ (w : Waiting). w.1) ws ((deadline, t) ∷ [])

-- the first by the deadlines in the list is the first by those that are kept
pub first_queued : (kept : List Txn) (ws : List Waiting) → AreQueued kept ws → option_map (λ (w : Waiting). w.1) (first_by comes_first ws) ≡ first_by (is_prior_at kept) (numbers_waiting ws)
first_queued kept ws h =
    ap (option_map (λ (w : Waiting). w.1))
    (first_by-agree (λ (w : Waiting). deadline_at kept w.1 ≡ w.0) comes_first (λ x y. is_prior_at kept x.1 y.1) (λ x y of_x of_y. rw (of_x, of_y) refl) ws h)
    ∙ sym (first_by-map (λ (w : Waiting). w.1) (is_prior_at kept) ws)

-- the numbers without one
pub numbers-less : (kept : List Txn) (t deadline : ℕ) (ws : List Waiting) → AreQueued kept ws → deadline ≡ deadline_at kept t
    → numbers_waiting (filter (λ (w : Waiting). not (is_same w (deadline, t))) ws) ≡ filter (λ u. not (u == t)) (numbers_waiting ws)
numbers-less kept t deadline [] h e = refl
numbers-less kept t deadline (w ∷ ws) h e =
    let rest : numbers_waiting (filter (λ (v : Waiting). not (is_same v (deadline, t))) ws) ≡ filter (λ u. not (u == t)) (numbers_waiting ws) = numbers-less kept t deadline ws h.1 e in
    either (cases_Bool (w.1 == t))
    (λ q.
    let same : w.0 ≡ deadline = sym h.0 ∙ ap (deadline_at kept) (eqb-true w.1 t q) ∙ sym e in
    let test : is_same w (deadline, t) ≡ true = rw (eq-eqb w.0 deadline same, q) refl in
    rw (test, q) rest)
    (λ q.
    let test : is_same w (deadline, t) ≡ false = rw q (and_not (w.0 == deadline)) in
    rw (test, q) (ap (λ us. w.1 ∷ us) rest))
  where
    and_not : (b : Bool) → (b && false) ≡ false
    and_not true = refl
    and_not false = refl

-- one less waits with the deadline that is kept of it
pub queued-less : (kept : List Txn) (test : Waiting → Bool) (ws : List Waiting) → AreQueued kept ws → AreQueued kept (filter test ws)
queued-less kept test ws h = all-filter (λ (w : Waiting). deadline_at kept w.1 ≡ w.0) test ws h

-- where one more is kept, the deadlines of the others are as they were
pub queued-kept : (items : ℕ) (kept : List Txn) (x : Txn) (ws : List Waiting) → AllByRecursion (IsCarried items kept) (numbers_waiting ws) → AreQueued kept ws → AreQueued (kept ++ x ∷ []) ws
queued-kept items kept x ws carried h =
    all-both (λ (w : Waiting). IsCarried items kept w.1) (λ (w : Waiting). deadline_at kept w.1 ≡ w.0) (λ (w : Waiting). deadline_at (kept ++ x ∷ []) w.1 ≡ w.0)
    (λ w c e. ap deadline_in (slice_left kept (x ∷ []) (w.1 - 1) (omega (arith, c.least, c.most))) ∙ e) ws
    (all-unmap (IsCarried items kept) (λ (w : Waiting). w.1) ws carried) h

-- and the one more may wait with its own
pub queued-more : (items : ℕ) (kept : List Txn) (x : Txn) (n : ℕ) (ws : List Waiting) → n ≡ length kept + 1 → AllByRecursion (IsCarried items kept) (numbers_waiting ws) → AreQueued kept ws
    → AreQueued (kept ++ x ∷ []) (ws ++ (x.deadline, n) ∷ [])
queued-more items kept x n ws is carried h =
    all-append (λ (w : Waiting). deadline_at (kept ++ x ∷ []) w.1 ≡ w.0) ws ((x.deadline, n) ∷ []) (queued-kept items kept x ws carried h)
    (let place : n - 1 ≡ length kept = omega (arith, is) in ap deadline_in (ap (slice_get (kept ++ x ∷ [])) place ∙ slice_last kept x), tt)

-- all have smaller numbers than one that begins
pub queue-below : (items : ℕ) (kept : List Txn) (n : ℕ) (ws : List Waiting) → length kept < n → AllByRecursion (IsCarried items kept) (numbers_waiting ws) → AllByRecursion (λ (w : Waiting). w.1 < n) ws
queue-below items kept n ws above carried =
    all-weaken (λ (w : Waiting). IsCarried items kept w.1) (λ (w : Waiting). w.1 < n) (λ w c. omega (arith, c.most, above)) ws
    (all-unmap (IsCarried items kept) (λ (w : Waiting). w.1) ws carried)
