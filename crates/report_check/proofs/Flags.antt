-- Flags, and how many of them are set.
use Rattle.std.proofs.Common.{◌≡◌, ℕ, zero, suc, ◌+◌, ◌<◌, ◌≤◌, Bool, true, false, cond, List, [], ◌∷◌, length, get_or, set, replicate, refl, ap, arith}
use Rattle.std.specs.List.{count_by}
use Rattle.std.proofs.lemmas.List.{length-set}
use Rattle.std.proofs.lemmas.List.Sums.{sum_by-set, sum_by-cons, count_by-le-length}

abbrev flag : Bool → ℕ
flag b = cond b 1 0

abbrev pub count_set : List Bool → ℕ
count_set flags = count_by (λ b. b) flags

pub none-set : (n : ℕ) → count_set (replicate n false) ≡ 0
none-set zero = refl
none-set (suc n) = omega (arith, none-set n, sum_by-cons flag false (replicate n false))

pub one-more-set : (flags : List Bool) (i : ℕ) → i < length flags → get_or flags i false ≡ false → count_set (set flags i true) ≡ count_set flags + 1
one-more-set flags i within free =
    let both = sum_by-set flag flags i true false within in
    let before : flag (get_or flags i false) ≡ 0 = ap flag free in
    omega (arith, both, before)

pub room-for-one : (flags : List Bool) (i : ℕ) → i < length flags → get_or flags i false ≡ false → count_set flags + 1 ≤ length flags
room-for-one flags i within free = omega (arith, one-more-set flags i within free, count_by-le-length (λ b. b) (set flags i true), length-set flags i true)

pub all-set : (flags : List Bool) (i : ℕ) → count_set flags ≡ length flags → i < length flags → get_or flags i false ≡ true
all-set [] i full within = absurd (omega (arith, within))
all-set (true ∷ flags) zero full within = refl
all-set (true ∷ flags) (suc i) full within =
    all-set flags i (omega (arith, full, sum_by-cons flag true flags)) (omega (arith, within))
all-set (false ∷ flags) i full within =
    absurd (omega (arith, full, sum_by-cons flag false flags, count_by-le-length (λ b. b) flags))

pub set-all : (flags : List Bool) → ((i : ℕ) → i < length flags → get_or flags i false ≡ true) → count_set flags ≡ length flags
set-all [] each = refl
set-all (b ∷ flags) each =
    let here : flag b ≡ 1 = ap flag (each 0 (omega arith)) in
    let rest = set-all flags (λ i within. each (suc i) (omega (arith, within))) in
    omega (arith, here, rest, sum_by-cons flag b flags)
