-- Orders of programs by their numbers: each once, and how such an order goes on.
use Rattle.std.proofs.Common.{◌≡◌, ◌≢◌, ℕ, zero, suc, ◌+◌, ◌-◌, ◌<◌, ◌≤◌, ◌==◌, ◌||◌, Bool, true, false, if◌then◌else◌, List, [], ◌∷◌, ◌++◌, length, get_or, refl, sym, ap, ◌∙◌, subst, true≢false, eqb-true, arith}
use Rattle.std.specs.List.{AllByRecursion, list_any}
use Rattle.std.proofs.lemmas.Bool.{ne_eqb}
use Rattle.std.proofs.lemmas.List.Folds.{list_any-append}
use Rattle.txn_runs.specs.declared.program.Program.{Program}
use Rattle.journal_core.specs.Numbered.{AreDistinct, program_named}
use Rattle.report_text.specs.Order.{NamesEachOnce}
use Rattle.report_text.specs.Report.{numbered}

-- whether a number is in the list
abbrev pub is_in : ℕ → List ℕ → Bool
is_in t order = list_any (λ u. u == t) order

-- Lists.

pub all-there : (P : ℕ → Type 0) (xs : List ℕ) (t : ℕ) → AllByRecursion P xs → is_in t xs ≡ true → P t
all-there P [] t h there = absurd (true≢false (sym there))
all-there P (x ∷ xs) t h there = go (x == t) refl (all-there P xs t h.1) there
  where
    go : (b : Bool) → (x == t) ≡ b → (is_in t xs ≡ true → P t) → (b || is_in t xs) ≡ true → P t
    go true is more there = subst P (eqb-true x t is) h.0
    go false is more there = more there

all-append : (P : ℕ → Type 0) (xs ys : List ℕ) → AllByRecursion P xs → AllByRecursion P ys → AllByRecursion P (xs ++ ys)
all-append P [] ys h k = k
all-append P (x ∷ xs) ys h k = (h.0, all-append P xs ys h.1 k)

pub all-more : (P : ℕ → Type 0) (xs : List ℕ) (y : ℕ) → AllByRecursion P xs → P y → AllByRecursion P (xs ++ y ∷ [])
all-more P xs y h k = all-append P xs (y ∷ []) h (k, tt)

all-map : (P Q : ℕ → Type 0) (xs : List ℕ) → ((x : ℕ) → P x → Q x) → AllByRecursion P xs → AllByRecursion Q xs
all-map P Q [] f h = tt
all-map P Q (x ∷ xs) f h = (f x h.0, all-map P Q xs f h.1)

all-behind : (P : ℕ → Type 0) (xs : List ℕ) (y : ℕ) (ys : List ℕ) → AllByRecursion P (xs ++ y ∷ ys) → P y
all-behind P [] y ys h = h.0
all-behind P (x ∷ xs) y ys h = all-behind P xs y ys h.1

or-false : (a b : Bool) → (a || b) ≡ false → (a ≡ false) × (b ≡ false)
or-false true b h = absurd (true≢false h)
or-false false b h = (refl, h)

or-true : (b : Bool) → (b || true) ≡ true
or-true true = refl
or-true false = refl

not-same : (x t : ℕ) → (x == t) ≡ false → t ≢ x
not-same x t h same = true≢false (sym (eq-true x t (sym same)) ∙ h)
  where
    eq-true : (a b : ℕ) → a ≡ b → (a == b) ≡ true
    eq-true a b e = grind (arith)

-- Distinct numbers.

pub distinct-append : (xs ys : List ℕ) → AreDistinct xs → AreDistinct ys → AllByRecursion (λ u. is_in u xs ≡ false) ys → AreDistinct (xs ++ ys)
distinct-append [] ys h k apart = k
distinct-append (x ∷ xs) ys h k apart = (
  all-append (λ u. u ≢ x) xs ys h.0 (all-map (λ u. is_in u (x ∷ xs) ≡ false) (λ u. u ≢ x) ys (λ u none. not-same x u (or-false (x == u) (is_in u xs) none).0) apart),
  distinct-append xs ys h.1 k (all-map (λ u. is_in u (x ∷ xs) ≡ false) (λ u. is_in u xs ≡ false) ys (λ u none. (or-false (x == u) (is_in u xs) none).1) apart),
)

pub distinct-behind : (xs : List ℕ) (t : ℕ) (ys : List ℕ) → AreDistinct (xs ++ t ∷ ys) → is_in t xs ≡ false
distinct-behind [] t ys h = refl
distinct-behind (x ∷ xs) t ys h =
    let apart : t ≢ x = all-behind (λ u. u ≢ x) xs t ys h.0 in
    let here : (x == t) ≡ false = ne_eqb x t (λ same. apart (sym same)) in
    ap (λ b. b || is_in t xs) here ∙ distinct-behind xs t ys h.1

pub in-append : (t : ℕ) (xs ys : List ℕ) → is_in t ys ≡ true → is_in t (xs ++ ys) ≡ true
in-append t xs ys there = list_any-append (λ u. u == t) xs ys ∙ ap (λ b. is_in t xs || b) there ∙ or-true (is_in t xs)

pub in-first : (t : ℕ) (ys : List ℕ) → is_in t (t ∷ ys) ≡ true
in-first t ys = ap (λ b. b || is_in t ys) (same t)
  where
    same : (n : ℕ) → (n == n) ≡ true
    same n = grind (arith)

-- An order that is cut goes on with the numbers that it lacks.

abbrev pub missing : ℕ → List ℕ → List ℕ
missing zero order = []
missing (suc n) order = if is_in (suc n) order then missing n order else suc n ∷ missing n order

-- a number that is missing lies within the count, and isn't in the order
record IsMissing (n : ℕ) (order : List ℕ) (t : ℕ) : Type 0 where
  some : 1 ≤ t
  most : t ≤ n
  apart : is_in t order ≡ false

missing-more : (n : ℕ) (order : List ℕ) (t : ℕ) → IsMissing n order t → IsMissing (suc n) order t
missing-more n order t h = let most = h.most in record { some = h.some; most = omega (arith, most); apart = h.apart }

missing-are : (n : ℕ) (order : List ℕ) → AllByRecursion (IsMissing n order) (missing n order)
missing-are zero order = tt
missing-are (suc n) order = go (is_in (suc n) order) refl (all-map (IsMissing n order) (IsMissing (suc n) order) (missing n order) (missing-more n order) (missing-are n order))
  where
    go : (b : Bool) → is_in (suc n) order ≡ b → AllByRecursion (IsMissing (suc n) order) (missing n order) → AllByRecursion (IsMissing (suc n) order) (if b then missing n order else suc n ∷ missing n order)
    go true is rest = rest
    go false is rest = (record { some = omega arith; most = omega arith; apart = is }, rest)

missing-distinct : (n : ℕ) (order : List ℕ) → AreDistinct (missing n order)
missing-distinct zero order = tt
missing-distinct (suc n) order = go (is_in (suc n) order) (missing-distinct n order)
  where
    go : (b : Bool) → AreDistinct (missing n order) → AreDistinct (if b then missing n order else suc n ∷ missing n order)
    go true rest = rest
    go false rest = (all-map (IsMissing n order) (λ u. u ≢ suc n) (missing n order) (λ u h same. let most = h.most in omega (arith, most, same)) (missing-are n order), rest)

-- what is in the order or is missing
there-or-missing : (n : ℕ) (order : List ℕ) (t : ℕ) → 1 ≤ t → t ≤ n → is_in t order ≡ false → is_in t (missing n order) ≡ true
there-or-missing zero order t some most apart = absurd (omega (arith, some, most))
there-or-missing (suc n) order t some most apart = go (is_in (suc n) order) refl (suc n == t) refl (there-or-missing n order t some)
  where
    go : (b : Bool) → is_in (suc n) order ≡ b → (here : Bool) → (suc n == t) ≡ here → (t ≤ n → is_in t order ≡ false → is_in t (missing n order) ≡ true) → is_in t (if b then missing n order else suc n ∷ missing n order) ≡ true
    go b is true at more = at-last b is (eqb-true (suc n) t at)
      where
        at-last : (b : Bool) → is_in (suc n) order ≡ b → suc n ≡ t → is_in t (if b then missing n order else suc n ∷ missing n order) ≡ true
        at-last true is same = absurd (true≢false (sym is ∙ ap (λ u. is_in u order) same ∙ apart))
        at-last false is same = ap (λ b. b || is_in t (missing n order)) at
    go true is false at more = more (omega (arith, most, not-same (suc n) t at)) apart
    go false is false at more = ap (λ b. b || is_in t (missing n order)) at ∙ more (omega (arith, most, not-same (suc n) t at)) apart

-- nothing is missing where each number is in the order
pub none-missing : (n : ℕ) (order : List ℕ) → ((t : ℕ) → 1 ≤ t → t ≤ n → is_in t order ≡ true) → missing n order ≡ []
none-missing zero order each = refl
none-missing (suc n) order each =
    ap (λ b. if b then missing n order else suc n ∷ missing n order) (each (suc n) (omega arith) (omega arith))
    ∙ none-missing n order (λ t some most. each t some (omega (arith, most)))

abbrev pub AreWithin : ℕ → List ℕ → Type 0
AreWithin n order = AllByRecursion (λ t. (1 ≤ t) × (t ≤ n)) order

pub completed : (n : ℕ) (order : List ℕ) → AreDistinct order → AreWithin n order → NamesEachOnce n (order ++ missing n order)
completed n order distinct within = record {
  distinct = distinct-append order (missing n order) distinct (missing-distinct n order) (all-map (IsMissing n order) (λ u. is_in u order ≡ false) (missing n order) (λ u h. h.apart) (missing-are n order));
  each = λ t. (
    λ there. all-there (λ u. (1 ≤ u) × (u ≤ n)) (order ++ missing n order) t (all-append (λ u. (1 ≤ u) × (u ≤ n)) order (missing n order) within (all-map (IsMissing n order) (λ u. (1 ≤ u) × (u ≤ n)) (missing n order) (λ u h. (h.some, h.most)) (missing-are n order))) there,
    λ is. either t (is_in t order) refl is,
  );
}
  where
    either : (t : ℕ) (b : Bool) → is_in t order ≡ b → (1 ≤ t) × (t ≤ n) → is_in t (order ++ missing n order) ≡ true
    either t true there is = list_any-append (λ u. u == t) order (missing n order) ∙ ap (λ b. b || is_in t (missing n order)) there
    either t false apart is = in-append t order (missing n order) (there-or-missing n order t is.0 is.1 apart)

pub whole-once : (n : ℕ) (order : List ℕ) → AreDistinct order → AreWithin n order → ((t : ℕ) → 1 ≤ t → t ≤ n → is_in t order ≡ true) → NamesEachOnce n order
whole-once n order distinct within each =
    record { distinct = distinct; each = λ t. (all-there (λ u. (1 ≤ u) × (u ≤ n)) order t within, λ is. each t is.0 is.1) }

-- Programs by their numbers.

pub program-at : (k : ℕ) (programs : List Program) (t : ℕ) → k ≤ t → t < k + length programs → program_named (numbered k programs) t ≡ get_or programs (t - k) []
program-at k [] t low high = absurd (omega (arith, low, high))
program-at k (p ∷ programs) t low high = go (k == t) refl (program-at (k + 1) programs t)
  where
    go : (b : Bool) → (k == t) ≡ b → (k + 1 ≤ t → t < k + 1 + length programs → program_named (numbered (k + 1) programs) t ≡ get_or programs (t - (k + 1)) []) → (if b then p else program_named (numbered (k + 1) programs) t) ≡ get_or (p ∷ programs) (t - k) []
    go true is more = let zero-is : 0 ≡ t - k = omega (arith, eqb-true k t is) in ap (λ i. get_or (p ∷ programs) i []) zero-is
    go false is more =
        let apart = not-same k t is in
        let next : suc (t - (k + 1)) ≡ t - k = omega (arith, low, apart) in
        more (omega (arith, low, apart)) (omega (arith, high)) ∙ ap (λ i. get_or (p ∷ programs) i []) next
