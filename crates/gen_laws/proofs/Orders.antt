-- Transfers in an order that names each once.
use Rattle.std.proofs.Common.{◌≡◌, ◌≢◌, ◌≤◌, ◌<◌, ◌↔◌, ℕ, zero, suc, ◌+◌, ◌*◌, ◌==◌, ◌||◌, Bool, true, false, if◌then◌else◌, List, [], ◌∷◌, length, map, replicate, refl, sym, ap, ◌∙◌, subst, arith, eqb-true, eq-eqb, true≢false}
use Rattle.std.specs.Prelude.{ℤ, pos, ◌+ℤ◌, ◌-ℤ◌}
use Rattle.std.specs.List.{AllByRecursion, list_any}
use Rattle.std.proofs.lemmas.Int.{ints}
use Rattle.std.proofs.lemmas.Bool.{eqb-false}
use Rattle.std.proofs.lemmas.List.{length-replicate, length-set}
use Rattle.std.proofs.Math.IntN.{zero-*ℤ, *ℤ_comm}
use Rattle.txn_runs.specs.Run.{Tables, stored}
use Rattle.txn_runs.specs.Serial.{outcomes, last_tables, effect_of, over}
use Rattle.journal_core.specs.Numbered.{AreDistinct, program_named}
use Rattle.report_text.specs.Order.{NamesEachOnce}
use Rattle.report_text.specs.Report.{numbered, in_order}
use Rattle.scc_gen.specs.declared.lines.Transfer.{Transfer}
use Rattle.gen_laws.specs.Programs.{program}
use Rattle.gen_laws.specs.Sums.{sum, weighted_from, weighted, zeros, is_done, shift, shifts, IsNear, AreNear, ComesTo}
use Rattle.gen_laws.proofs.Runs.{IsSmall, all-nearer, set-near, stored-near, near-add, near-sub, taken, moved, told, Moves, moves}
use Rattle.gen_laws.proofs.Tables.{moved-length, moved-sum, moved-weighted}

-- Transfers, one after another.

abbrev pub AreSmall : List Transfer → Type 0
AreSmall ts = AllByRecursion IsSmall ts

-- each comes to its end, and the sums are those of the tables before them and of what they shift
pub record Runs (ts : List Transfer) (d : Tables) (m : ℕ) : Type 0 where
  pub outcomes : outcomes d (map program ts) ≡ map told ts
  pub sum : sum (last_tables d (map program ts)) ≡ sum d
  pub weighted : weighted (last_tables d (map program ts)) ≡ weighted d +ℤ shifts ts
  pub items : length (last_tables d (map program ts)) ≡ length d
  pub near : AreNear (m + 18 * length ts) (last_tables d (map program ts))

moved-near : (t : Transfer) (d : Tables) (m : ℕ) → IsSmall t → length d ≡ 64 → AreNear m d → AreNear (m + 18) (moved t d)
moved-near t d m small many near =
    let f = small.from in
    let o = small.to in
    let a = small.amount in
    let n : ℕ = m + t.amount in
    let less : IsNear n (stored d t.from -ℤ pos t.amount) = near-sub m t.amount (stored d t.from) (stored-near m d t.from (omega (arith, f, many)) near) in
    let first : AreNear n (taken t d) = set-near n d t.from (stored d t.from -ℤ pos t.amount) less (all-nearer m n d (omega arith) near) in
    let wide : length (taken t d) ≡ 64 = length-set d t.from (stored d t.from -ℤ pos t.amount) ∙ many in
    let more : IsNear (n + t.amount) (stored (taken t d) t.to +ℤ pos t.amount) =
    near-add n t.amount (stored (taken t d) t.to) (stored-near n (taken t d) t.to (omega (arith, o, wide)) first) in
    all-nearer (n + t.amount) (m + 18) (moved t d) (omega (arith, a))
    (set-near (n + t.amount) (taken t d) t.to (stored (taken t d) t.to +ℤ pos t.amount) more (all-nearer n (n + t.amount) (taken t d) (omega arith) first))

pub runs : (ts : List Transfer) (d : Tables) (m : ℕ) → AreSmall ts → length d ≡ 64 → AreNear m d → m + 18 * length ts ≤ 900000 → Runs ts d m
runs [] d m small many near few = record { outcomes = refl; sum = refl; weighted = omega (arith, ints); items = refl; near = all-nearer m (m + 0) d (omega arith) near }
runs (t ∷ ts) d m small many near few =
    let one : Moves t d = moves t d m small.0 many near (omega (arith, few)) in
    let next : Tables = over (effect_of (program t) d) d in
    let is : next ≡ moved t d = one.tables in
    let wide : length (moved t d) ≡ 64 = moved-length t d ∙ many in
    let rest : Runs ts (moved t d) (m + 18) = runs ts (moved t d) (m + 18) small.1 wide (moved-near t d m small.0 many near) (omega (arith, few)) in
    let last : last_tables next (map program ts) ≡ last_tables (moved t d) (map program ts) = ap (λ e. last_tables e (map program ts)) is in
    let shifted : weighted (last_tables next (map program ts)) ≡ weighted (moved t d) +ℤ shifts ts = ap weighted last ∙ rest.weighted in
    let before : weighted (moved t d) ≡ weighted d +ℤ shift t = moved-weighted t d small.0 many in
    record {
      outcomes = ap (λ o. o ∷ outcomes next (map program ts)) one.outcome ∙ ap (λ e. told t ∷ outcomes e (map program ts)) is ∙ ap (λ os. told t ∷ os) rest.outcomes;
      sum = ap sum last ∙ rest.sum ∙ moved-sum t d small.0 many;
      weighted = added (weighted d) (shift t) (shifts ts) (weighted (moved t d)) (weighted (last_tables next (map program ts))) before shifted;
      items = ap length last ∙ rest.items ∙ moved-length t d;
      near = subst (AreNear (m + 18 * length (t ∷ ts))) (sym last)
          (all-nearer (m + 18 + 18 * length ts) (m + 18 * length (t ∷ ts)) (last_tables (moved t d) (map program ts)) (omega arith) rest.near);
    }
  where
    added : (a b c e g : ℤ) → e ≡ a +ℤ b → g ≡ e +ℤ c → g ≡ a +ℤ (b +ℤ c)
    added a b c e g first second = omega (arith, ints)

-- Sums over numbers that are there once each.

abbrev sum_of : (ℕ → ℤ) → List ℕ → ℤ
sum_of f [] = pos 0
sum_of f (u ∷ us) = f u +ℤ sum_of f us

-- over so many numbers from this one up
abbrev sum_from : (ℕ → ℤ) → ℕ → ℕ → ℤ
sum_from f n zero = pos 0
sum_from f n (suc m) = f n +ℤ sum_from f (n + 1) m

abbrev has : List ℕ → ℕ → Bool
has us t = list_any (λ u. u == t) us

-- without the first n
abbrev without : ℕ → List ℕ → List ℕ
without n [] = []
without n (u ∷ us) = if u == n then us else u ∷ without n us

sum-without : (f : ℕ → ℤ) (n : ℕ) (us : List ℕ) → has us n ≡ true → sum_of f us ≡ f n +ℤ sum_of f (without n us)
sum-without f n [] h = absurd (true≢false (sym h))
sum-without f n (u ∷ us) h = go (u == n) refl h (sum-without f n us)
  where
    swap : (a b c e : ℤ) → c ≡ b +ℤ e → a +ℤ c ≡ b +ℤ (a +ℤ e)
    swap a b c e is = omega (arith, ints)

    go : (here : Bool) → (u == n) ≡ here → (here || has us n) ≡ true → (has us n ≡ true → sum_of f us ≡ f n +ℤ sum_of f (without n us))
        → f u +ℤ sum_of f us ≡ f n +ℤ sum_of f (if here then us else u ∷ without n us)
    go true is h more = ap (λ k. f k +ℤ sum_of f us) (eqb-true u n is)
    go false is h more = swap (f u) (f n) (sum_of f us) (sum_of f (without n us)) (more h)

-- another number is there as before
has-without : (n t : ℕ) (us : List ℕ) → t ≢ n → has (without n us) t ≡ has us t
has-without n t [] other = refl
has-without n t (u ∷ us) other = go (u == n) refl (has-without n t us other)
  where
    no : u ≡ n → (b : Bool) → (u == t) ≡ b → b ≡ false
    no same true e = absurd (other (sym (eqb-true u t e) ∙ same))
    no same false e = refl

    go : (here : Bool) → (u == n) ≡ here → has (without n us) t ≡ has us t → has (if here then us else u ∷ without n us) t ≡ ((u == t) || has us t)
    go true is more = ap (λ b. b || has us t) (sym (no (eqb-true u n is) (u == t) refl))
    go false is more = ap (λ b. (u == t) || b) more

none-there : (n : ℕ) (us : List ℕ) → AllByRecursion (λ u. u ≢ n) us → has us n ≡ false
none-there n [] h = refl
none-there n (u ∷ us) h = go (u == n) refl (none-there n us h.1)
  where
    go : (here : Bool) → (u == n) ≡ here → has us n ≡ false → (here || has us n) ≡ false
    go true is more = absurd (h.0 (eqb-true u n is))
    go false is more = more

all-without : (P : ℕ → Type 0) (n : ℕ) (us : List ℕ) → AllByRecursion P us → AllByRecursion P (without n us)
all-without P n [] h = tt
all-without P n (u ∷ us) h = go (u == n) (all-without P n us h.1)
  where
    go : (here : Bool) → AllByRecursion P (without n us) → AllByRecursion P (if here then us else u ∷ without n us)
    go true more = h.1
    go false more = (h.0, more)

distinct-without : (n : ℕ) (us : List ℕ) → AreDistinct us → AreDistinct (without n us)
distinct-without n [] h = tt
distinct-without n (u ∷ us) h = go (u == n) (distinct-without n us h.1)
  where
    go : (here : Bool) → AreDistinct (without n us) → AreDistinct (if here then us else u ∷ without n us)
    go true more = h.1
    go false more = (all-without (λ w. w ≢ u) n us h.0, more)

gone : (n : ℕ) (us : List ℕ) → AreDistinct us → has (without n us) n ≡ false
gone n [] h = refl
gone n (u ∷ us) h = go (u == n) refl (gone n us h.1)
  where
    go : (here : Bool) → (u == n) ≡ here → has (without n us) n ≡ false → has (if here then us else u ∷ without n us) n ≡ false
    go true is more = none-there n us (subst (λ k. AllByRecursion (λ w. w ≢ k) us) (eqb-true u n is) h.0)
    go false is more = ap (λ b. b || has (without n us) n) is ∙ more

first-there : (u : ℕ) (us : List ℕ) → has (u ∷ us) u ≡ true
first-there u us = ap (λ b. b || has us u) (eq-eqb u u refl)

pub same-sums : (f : ℕ → ℤ) (m n : ℕ) (us : List ℕ) → AreDistinct us → ((t : ℕ) → (has us t ≡ true) ↔ ((n ≤ t) × (t < n + m))) → sum_of f us ≡ sum_from f n m
same-sums f zero n [] distinct each = refl
same-sums f zero n (u ∷ us) distinct each = let within = (each u).0 (first-there u us) in absurd (omega (arith, within.0, within.1))
same-sums f (suc m) n us distinct each =
    let here : has us n ≡ true = (each n).1 (omega arith, omega arith) in
    let rest : List ℕ = without n us in
    let fewer : (t : ℕ) → (has rest t ≡ true) ↔ ((n + 1 ≤ t) × (t < n + 1 + m)) = λ t. (inside t, outside t) in
    sum-without f n us here ∙ ap (λ z. f n +ℤ z) (same-sums f m (n + 1) rest (distinct-without n us distinct) fewer)
  where
    other : (t : ℕ) → has (without n us) t ≡ true → t ≢ n
    other t there same = true≢false (sym there ∙ ap (has (without n us)) same ∙ gone n us distinct)

    inside : (t : ℕ) → has (without n us) t ≡ true → (n + 1 ≤ t) × (t < n + 1 + m)
    inside t there =
        let not-n = other t there in
        let within = (each t).0 (sym (has-without n t us not-n) ∙ there) in
        let low = within.0 in
        let high = within.1 in
        (omega (arith, low, not-n), omega (arith, high))

    outside : (t : ℕ) → (n + 1 ≤ t) × (t < n + 1 + m) → has (without n us) t ≡ true
    outside t within =
        let low = within.0 in
        let high = within.1 in
        has-without n t us (λ same. absurd (omega (arith, low, same))) ∙ (each t).1 (omega (arith, low), omega (arith, high))

-- Transfers by their numbers.

-- the transfer of this number, where the first has this one
abbrev pick : ℕ → Transfer → List Transfer → ℕ → Transfer
pick n otherwise [] k = otherwise
pick n otherwise (t ∷ ts) k = if n == k then t else pick (n + 1) otherwise ts k

picked : (n k : ℕ) (otherwise : Transfer) (ts : List Transfer) → n ≤ k → k < n + length ts
    → program_named (numbered n (map program ts)) k ≡ program (pick n otherwise ts k)
picked n k otherwise [] low high = absurd (omega (arith, low, high))
picked n k otherwise (t ∷ ts) low high = go (n == k) refl (λ less. picked (n + 1) k otherwise ts less (omega (arith, high)))
  where
    go : (here : Bool) → (n == k) ≡ here → (n + 1 ≤ k → program_named (numbered (n + 1) (map program ts)) k ≡ program (pick (n + 1) otherwise ts k))
        → (if here then program t else program_named (numbered (n + 1) (map program ts)) k) ≡ program (if here then t else pick (n + 1) otherwise ts k)
    go true is more = refl
    go false is more = let not-n = eqb-false n k is in more (omega (arith, low, not-n))

pick-small : (n k : ℕ) (otherwise : Transfer) (ts : List Transfer) → AreSmall ts → n ≤ k → k < n + length ts → IsSmall (pick n otherwise ts k)
pick-small n k otherwise [] small low high = absurd (omega (arith, low, high))
pick-small n k otherwise (t ∷ ts) small low high = go (n == k) refl (λ less. pick-small (n + 1) k otherwise ts small.1 less (omega (arith, high)))
  where
    go : (here : Bool) → (n == k) ≡ here → (n + 1 ≤ k → IsSmall (pick (n + 1) otherwise ts k)) → IsSmall (if here then t else pick (n + 1) otherwise ts k)
    go true is more = small.0
    go false is more = let not-n = eqb-false n k is in more (omega (arith, low, not-n))

sums-alike : (f g : ℕ → ℤ) (n m : ℕ) → ((k : ℕ) → n ≤ k → f k ≡ g k) → sum_from f n m ≡ sum_from g n m
sums-alike f g n zero same = refl
sums-alike f g n (suc m) same = ap (λ z. z +ℤ sum_from f (n + 1) m) (same n (omega arith)) ∙ ap (λ z. g n +ℤ z) (sums-alike f g (n + 1) m (λ k low. same k (omega (arith, low))))

shifts-picked : (n : ℕ) (otherwise : Transfer) (ts : List Transfer) → sum_from (λ k. shift (pick n otherwise ts k)) n (length ts) ≡ shifts ts
shifts-picked n otherwise [] = refl
shifts-picked n otherwise (t ∷ ts) =
    ap (λ b. shift (if b then t else pick (n + 1) otherwise ts n) +ℤ sum_from (λ k. shift (pick n otherwise (t ∷ ts) k)) (n + 1) (length ts)) (eq-eqb n n refl)
    ∙ ap (λ z. shift t +ℤ z) (sums-alike (λ k. shift (pick n otherwise (t ∷ ts) k)) (λ k. shift (pick (n + 1) otherwise ts k)) (n + 1) (length ts) behind ∙ shifts-picked (n + 1) otherwise ts)
  where
    behind : (k : ℕ) → n + 1 ≤ k → shift (pick n otherwise (t ∷ ts) k) ≡ shift (pick (n + 1) otherwise ts k)
    behind k low = go (n == k) refl
      where
        go : (here : Bool) → (n == k) ≡ here → shift (if here then t else pick (n + 1) otherwise ts k) ≡ shift (pick (n + 1) otherwise ts k)
        go true is = let same = eqb-true n k is in absurd (omega (arith, low, same))
        go false is = refl

ones : (n m : ℕ) → sum_from (λ k. pos 1) n m ≡ pos m
ones n zero = refl
ones n (suc m) = ap (λ z. pos 1 +ℤ z) (ones (n + 1) m) ∙ omega (arith, ints)

counted : (us : List ℕ) → sum_of (λ k. pos 1) us ≡ pos (length us)
counted [] = refl
counted (u ∷ us) = ap (λ z. pos 1 +ℤ z) (counted us) ∙ omega (arith, ints)

-- In every order.

pub within : (count : ℕ) (order : List ℕ) → NamesEachOnce count order → (t : ℕ) → (has order t ≡ true) ↔ ((1 ≤ t) × (t < 1 + count))
within count order once t = (
  (λ there. let low = ((once.each t).0 there).0 in let high = ((once.each t).0 there).1 in (low, omega (arith, high))),
  (λ both. let low = both.0 in let high = both.1 in (once.each t).1 (low, omega (arith, high))),
)

pub order-length : (count : ℕ) (order : List ℕ) → NamesEachOnce count order → length order ≡ count
order-length count order once =
    let is : pos (length order) ≡ pos count = sym (counted order) ∙ same-sums (λ k. pos 1) count 1 order once.distinct (within count order once) ∙ ones 1 count in
    omega (arith, ints)

abbrev no_transfer : Transfer
no_transfer = record { from = 0; to = 0; amount = 0; turns = 0; deadline = 0 }

-- the transfers in an order
abbrev pub ordered : List Transfer → List ℕ → List Transfer
ordered ts order = map (pick 1 no_transfer ts) order

abbrev pub AreWithin : ℕ → List ℕ → Type 0
AreWithin count us = AllByRecursion (λ k. (1 ≤ k) × (k < 1 + count)) us

pub all-within : (count : ℕ) (us : List ℕ) → ((t : ℕ) → has us t ≡ true → (1 ≤ t) × (t < 1 + count)) → AreWithin count us
all-within count [] h = tt
all-within count (u ∷ us) h = (h u (first-there u us), all-within count us (λ t there. h t (ap (λ b. (u == t) || b) there ∙ or-true (u == t))))
  where
    or-true : (b : Bool) → (b || true) ≡ true
    or-true true = refl
    or-true false = refl

pub programs-ordered : (ts : List Transfer) (us : List ℕ) → AreWithin (length ts) us → map (program_named (numbered 1 (map program ts))) us ≡ map program (ordered ts us)
programs-ordered ts [] h = refl
programs-ordered ts (u ∷ us) h =
    ap (λ p. p ∷ map (program_named (numbered 1 (map program ts))) us) (picked 1 u no_transfer ts h.0.0 h.0.1)
    ∙ ap (λ ps. program (pick 1 no_transfer ts u) ∷ ps) (programs-ordered ts us h.1)

pub small-ordered : (ts : List Transfer) (us : List ℕ) → AreSmall ts → AreWithin (length ts) us → AreSmall (ordered ts us)
small-ordered ts [] small h = tt
small-ordered ts (u ∷ us) small h = (pick-small 1 u no_transfer ts small h.0.0 h.0.1, small-ordered ts us small h.1)

shifts-ordered : (ts : List Transfer) (us : List ℕ) → shifts (ordered ts us) ≡ sum_of (λ k. shift (pick 1 no_transfer ts k)) us
shifts-ordered ts [] = refl
shifts-ordered ts (u ∷ us) = ap (λ z. shift (pick 1 no_transfer ts u) +ℤ z) (shifts-ordered ts us)

pub length-ordered : (ts : List Transfer) (us : List ℕ) → length (ordered ts us) ≡ length us
length-ordered ts [] = refl
length-ordered ts (u ∷ us) = ap suc (length-ordered ts us)

pub zeros-near : (n : ℕ) → AreNear 0 (replicate n (pos 0))
zeros-near zero = tt
zeros-near (suc n) = (record { low = omega (arith, ints); high = omega (arith, ints) }, zeros-near n)

all-done : (ts : List Transfer) → AllByRecursion (λ outcome. is_done outcome ≡ true) (map told ts)
all-done [] = tt
all-done (t ∷ ts) = (refl, all-done ts)

zeros-weigh : (n place : ℕ) → weighted_from place (replicate n (pos 0)) ≡ pos 0
zeros-weigh zero place = refl
zeros-weigh (suc n) place = omega (arith, ints, *ℤ_comm (pos place) (pos 0), zero-*ℤ (pos place), zeros-weigh n (place + 1))

zeros-sum : (n : ℕ) → sum (replicate n (pos 0)) ≡ pos 0
zeros-sum zero = refl
zeros-sum (suc n) = omega (arith, ints, zeros-sum n)

-- transfers in an order that names each once
pub every-order : (ts : List Transfer) (order : List ℕ) → AreSmall ts → length ts ≤ 20000 → NamesEachOnce (length ts) order → ComesTo ts (in_order (map program ts) order)
every-order ts order small few once =
    let inside : AreWithin (length ts) order = all-within (length ts) order (λ t there. (within (length ts) order once t).0 there) in
    let us : List Transfer = ordered ts order in
    let many : length us ≡ length ts = length-ordered ts order ∙ order-length (length ts) order once in
    let run : Runs us zeros 0 = runs us zeros 0 (small-ordered ts order small inside) (length-replicate 64 (pos 0)) (zeros-near 64) (omega (arith, many, few)) in
    let same : shifts us ≡ shifts ts =
    shifts-ordered ts order ∙ same-sums (λ k. shift (pick 1 no_transfer ts k)) (length ts) 1 order once.distinct (within (length ts) order once) ∙ shifts-picked 1 no_transfer ts in
    let first = zeros-weigh 64 1 in
    subst (ComesTo ts) (sym (programs-ordered ts order inside))
    (record {
      done = subst (λ os. AllByRecursion (λ outcome. is_done outcome ≡ true) os) (sym run.outcomes) (all-done us);
      sum = run.sum ∙ zeros-sum 64;
      weighted = run.weighted ∙ added (weighted zeros) (shifts us) (shifts ts) first same;
      items = run.items ∙ length-replicate 64 (pos 0);
      near = all-nearer (0 + 18 * length us) 400000 (last_tables zeros (map program us)) (omega (arith, many, few)) run.near;
    })
  where
    added : (a b c : ℤ) → a ≡ pos 0 → b ≡ c → a +ℤ b ≡ c
    added a b c none same = omega (arith, ints)

-- transfers in the order in which they are listed
pub line-order : (ts : List Transfer) → AreSmall ts → length ts ≤ 20000 → ComesTo ts (map program ts)
line-order ts small few =
    let run : Runs ts zeros 0 = runs ts zeros 0 small (length-replicate 64 (pos 0)) (zeros-near 64) (omega (arith, few)) in
    let first = zeros-weigh 64 1 in
    record {
      done = subst (λ os. AllByRecursion (λ outcome. is_done outcome ≡ true) os) (sym run.outcomes) (all-done ts);
      sum = run.sum ∙ zeros-sum 64;
      weighted = run.weighted ∙ added (weighted zeros) (shifts ts) first;
      items = run.items ∙ length-replicate 64 (pos 0);
      near = all-nearer (0 + 18 * length ts) 400000 (last_tables zeros (map program ts)) (omega (arith, few)) run.near;
    }
  where
    added : (a b : ℤ) → a ≡ pos 0 → a +ℤ b ≡ b
    added a b none = omega (arith, ints)
