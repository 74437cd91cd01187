-- Sums over tables, and how a transfer changes them.
use Rattle.std.proofs.Common.{◌≡◌, ◌<◌, ℕ, zero, suc, ◌+◌, [], ◌∷◌, length, ap, ◌∙◌, arith}
use Rattle.std.specs.Prelude.{ℤ, pos, ◌+ℤ◌, ◌-ℤ◌, ◌*ℤ◌, slice_set}
use Rattle.std.proofs.lemmas.Int.{ints}
use Rattle.std.proofs.lemmas.List.{length-set}
use Rattle.std.proofs.Math.IntN.{suc_ℤ-*ℤ, zero-*ℤ, *ℤ_comm}
use Rattle.txn_runs.specs.Run.{Tables, stored}
use Rattle.scc_gen.specs.declared.lines.Transfer.{Transfer}
use Rattle.gen_laws.specs.Sums.{sum, weighted_from, weighted, shift}
use Rattle.gen_laws.proofs.Runs.{IsSmall, taken, moved}

-- Products.

pub times-add : (m : ℕ) (a b : ℤ) → pos m *ℤ (a +ℤ b) ≡ (pos m *ℤ a) +ℤ (pos m *ℤ b)
times-add zero a b = omega (arith, ints, zero-*ℤ (a +ℤ b), zero-*ℤ a, zero-*ℤ b)
times-add (suc m) a b = omega (arith, ints, suc_ℤ-*ℤ (pos m) (a +ℤ b), suc_ℤ-*ℤ (pos m) a, suc_ℤ-*ℤ (pos m) b, times-add m a b)

pub times-sub : (m : ℕ) (a b : ℤ) → pos m *ℤ (a -ℤ b) ≡ (pos m *ℤ a) -ℤ (pos m *ℤ b)
times-sub zero a b = omega (arith, ints, zero-*ℤ (a -ℤ b), zero-*ℤ a, zero-*ℤ b)
times-sub (suc m) a b = omega (arith, ints, suc_ℤ-*ℤ (pos m) (a -ℤ b), suc_ℤ-*ℤ (pos m) a, suc_ℤ-*ℤ (pos m) b, times-sub m a b)

pub times-less : (m : ℕ) (v : ℤ) → pos m *ℤ (pos 0 -ℤ v) ≡ pos 0 -ℤ (pos m *ℤ v)
times-less m v = times-sub m (pos 0) v ∙ ap (λ z. z -ℤ (pos m *ℤ v)) (*ℤ_comm (pos m) (pos 0) ∙ zero-*ℤ (pos m))

-- One value is set.

pub sum-set : (d : Tables) (i : ℕ) (v : ℤ) → i < length d → sum (slice_set d i v) ≡ sum d +ℤ (v -ℤ stored d i)
sum-set [] i v within = absurd (omega (arith, within))
sum-set (u ∷ d) zero v within = omega (arith, ints)
sum-set (u ∷ d) (suc i) v within = omega (arith, ints, sum-set d i v (omega (arith, within)))

pub weighted-set : (d : Tables) (place i : ℕ) (v : ℤ) → i < length d → weighted_from place (slice_set d i v) ≡ weighted_from place d +ℤ (pos (place + i) *ℤ (v -ℤ stored d i))
weighted-set [] place i v within = absurd (omega (arith, within))
weighted-set (u ∷ d) place zero v within =
    omega (arith, ints, times-sub place v u, ap (λ p. pos p *ℤ (v -ℤ u)) same)
  where
    same : place + zero ≡ place
    same = omega arith
weighted-set (u ∷ d) place (suc i) v within =
    omega (arith, ints, weighted-set d (place + 1) i v (omega (arith, within)), ap (λ p. pos p *ℤ (v -ℤ stored d i)) same)
  where
    same : place + 1 + i ≡ place + suc i
    same = omega arith

-- A transfer.

pub moved-length : (t : Transfer) (d : Tables) → length (moved t d) ≡ length d
moved-length t d = length-set (taken t d) t.to (stored (taken t d) t.to +ℤ pos t.amount) ∙ length-set d t.from (stored d t.from -ℤ pos t.amount)

pub moved-sum : (t : Transfer) (d : Tables) → IsSmall t → length d ≡ 64 → sum (moved t d) ≡ sum d
moved-sum t d small many =
    let f = small.from in
    let o = small.to in
    let e : Tables = taken t d in
    let x : ℤ = stored d t.from in
    let y : ℤ = stored e t.to in
    let first : sum e ≡ sum d +ℤ ((x -ℤ pos t.amount) -ℤ x) = sum-set d t.from (x -ℤ pos t.amount) (omega (arith, f, many)) in
    let second : sum (moved t d) ≡ sum e +ℤ ((y +ℤ pos t.amount) -ℤ y) =
    sum-set e t.to (y +ℤ pos t.amount) (omega (arith, o, many, length-set d t.from (x -ℤ pos t.amount))) in
    balance (sum d) (sum e) (sum (moved t d)) x y (pos t.amount) first second
  where
    balance : (a b c x y v : ℤ) → b ≡ a +ℤ ((x -ℤ v) -ℤ x) → c ≡ b +ℤ ((y +ℤ v) -ℤ y) → c ≡ a
    balance a b c x y v first second = omega (arith, ints)

pub moved-weighted : (t : Transfer) (d : Tables) → IsSmall t → length d ≡ 64 → weighted (moved t d) ≡ weighted d +ℤ shift t
moved-weighted t d small many =
    let f = small.from in
    let o = small.to in
    let e : Tables = taken t d in
    let v : ℤ = pos t.amount in
    let x : ℤ = stored d t.from in
    let y : ℤ = stored e t.to in
    let first : weighted e ≡ weighted d +ℤ (pos (1 + t.from) *ℤ ((x -ℤ v) -ℤ x)) = weighted-set d 1 t.from (x -ℤ v) (omega (arith, f, many)) in
    let second : weighted (moved t d) ≡ weighted e +ℤ (pos (1 + t.to) *ℤ ((y +ℤ v) -ℤ y)) =
    weighted-set e 1 t.to (y +ℤ v) (omega (arith, o, many, length-set d t.from (x -ℤ v))) in
    balance (weighted d) (weighted e) (weighted (moved t d)) first second (place-less t.from x v) (place-more t.to y v) (times-sub t.amount (pos t.to) (pos t.from)) (*ℤ_comm (pos t.amount) (pos t.to)) (*ℤ_comm (pos t.amount) (pos t.from))
  where
    place-less : (p : ℕ) (x v : ℤ) → pos (1 + p) *ℤ ((x -ℤ v) -ℤ x) ≡ pos 0 -ℤ ((pos p *ℤ v) +ℤ v)
    place-less p x v =
        let left : (x -ℤ v) -ℤ x ≡ pos 0 -ℤ v = omega (arith, ints) in
        let next : 1 + p ≡ suc p = omega arith in
        ap (λ z. pos (1 + p) *ℤ z) left ∙ ap (λ k. pos k *ℤ (pos 0 -ℤ v)) next ∙ times-less (suc p) v ∙ ap (λ z. pos 0 -ℤ z) (suc_ℤ-*ℤ (pos p) v)

    place-more : (p : ℕ) (y v : ℤ) → pos (1 + p) *ℤ ((y +ℤ v) -ℤ y) ≡ (pos p *ℤ v) +ℤ v
    place-more p y v =
        let left : (y +ℤ v) -ℤ y ≡ v = omega (arith, ints) in
        let next : 1 + p ≡ suc p = omega arith in
        ap (λ z. pos (1 + p) *ℤ z) left ∙ ap (λ k. pos k *ℤ v) next ∙ suc_ℤ-*ℤ (pos p) v

    balance : (a b c : ℤ) → b ≡ a +ℤ (pos (1 + t.from) *ℤ ((stored d t.from -ℤ pos t.amount) -ℤ stored d t.from))
        → c ≡ b +ℤ (pos (1 + t.to) *ℤ ((stored (taken t d) t.to +ℤ pos t.amount) -ℤ stored (taken t d) t.to))
        → pos (1 + t.from) *ℤ ((stored d t.from -ℤ pos t.amount) -ℤ stored d t.from) ≡ pos 0 -ℤ ((pos t.from *ℤ pos t.amount) +ℤ pos t.amount)
        → pos (1 + t.to) *ℤ ((stored (taken t d) t.to +ℤ pos t.amount) -ℤ stored (taken t d) t.to) ≡ (pos t.to *ℤ pos t.amount) +ℤ pos t.amount
        → shift t ≡ (pos t.amount *ℤ pos t.to) -ℤ (pos t.amount *ℤ pos t.from)
        → pos t.amount *ℤ pos t.to ≡ pos t.to *ℤ pos t.amount → pos t.amount *ℤ pos t.from ≡ pos t.from *ℤ pos t.amount
        → c ≡ a +ℤ shift t
    balance a b c first second third fourth fifth sixth seventh = omega (arith, ints)
