-- The first read of a written item is the least one.
use Rattle.std.specs.Prelude.{◌≡◌, ℕ, zero, suc, ◌<◌, ◌≤◌, ℤ, true, false, List, [], ◌∷◌, Option, None, Some, is_some, slice_get}
use Rattle.std.proofs.Common.{refl, sym, ap, ◌∙◌, subst, arith}
use Rattle.txn_runs.specs.Run.{Read, Writes, own}
use Rattle.txn_runs.specs.Reads.{IsFirst, IsLog}
use Rattle.access_sets.specs.Log.{IsHit, IsLeastHit, first_by, first_in}

-- a read behind another one stands at a greater position
later : (r : Read) (xs : List Read) (k p item : ℕ) (v : ℤ) → IsFirst r xs → slice_get xs k ≡ Some (p, item, v) → r.0 < p
later r [] k p item v h is = cc
later r (x ∷ xs) zero p item v h is = let e : x ≡ (p, item, v) = cc in subst (λ n. r.0 < n) (ap (λ q. q.0) e) h.0
later r (x ∷ xs) (suc k) p item v h is = later r xs k p item v h.2 is

hit_at : (r : Read) (xs : List Read) (writes : Writes) (other k item : ℕ) (v : ℤ) → IsFirst r xs → slice_get (r ∷ xs) k ≡ Some (other, item, v) → r.0 ≤ other
hit_at r xs writes other zero item v h is = let e : r ≡ (other, item, v) = cc in omega (arith, ap (λ q. q.0) e)
hit_at r xs writes other (suc k) item v h is = omega (arith, later r xs k other item v h is)

tail_hit : (r : Read) (xs : List Read) (writes : Writes) (other : ℕ) → IsHit xs writes other → IsHit (r ∷ xs) writes other
tail_hit r xs writes other h = record { place = suc h.place; item = h.item; value = h.value; is = h.is; written = h.written }

not_first : (r : Read) (xs : List Read) (writes : Writes) (other k item : ℕ) (v : ℤ) → own writes r.1 ≡ None → slice_get (r ∷ xs) k ≡ Some (other, item, v) → is_some (own writes item) ≡ true → IsHit xs writes other
not_first r xs writes other zero item v none is written =
    let e : r ≡ (other, item, v) = cc in
    let gone : is_some (own writes item) ≡ false = ap (λ q. is_some (own writes q.1)) (sym e) ∙ ap is_some none in
    cc
not_first r xs writes other (suc k) item v none is written = record { place = k; item = item; value = v; is = is; written = written }

rest_least : (r : Read) (xs : List Read) (writes : Writes) (found : Option ℕ) → own writes r.1 ≡ None → IsLeastHit xs writes found → IsLeastHit (r ∷ xs) writes found
rest_least r xs writes (Some p) none h = (tail_hit r xs writes p h.0, λ other hit. h.1 other (not_first r xs writes other hit.place hit.item hit.value none hit.is hit.written))
rest_least r xs writes None none h = λ other hit. h other (not_first r xs writes other hit.place hit.item hit.value none hit.is hit.written)

least_by : (r : Read) (xs : List Read) (writes : Writes) (o : Option ℤ) → own writes r.1 ≡ o → IsFirst r xs → IsLeastHit xs writes (first_in xs writes) → IsLeastHit (r ∷ xs) writes (first_by o r.0 (first_in xs writes))
least_by r xs writes (Some v) is h rest =
    (record { place = zero; item = r.1; value = r.2; is = refl; written = ap is_some is }, λ other hit. hit_at r xs writes other hit.place hit.item hit.value h hit.is)
least_by r xs writes None is h rest = rest_least r xs writes (first_in xs writes) is rest

pub first_is_least : (xs : List Read) (writes : Writes) → IsLog xs → IsLeastHit xs writes (first_in xs writes)
first_is_least [] writes h = λ other hit. let is = hit.is in cc
first_is_least (r ∷ xs) writes h = least_by r xs writes (own writes r.1) refl h.0 (first_is_least xs writes h.1)
