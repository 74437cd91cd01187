-- The length of a run is the least number of steps after which it has ended.
use Rattle.std.specs.Prelude.{◌≡◌, ◌≢◌, ℕ, zero, suc, ◌+◌, ◌≤◌, Bool, true, false, if◌then◌else◌, List, [], ◌∷◌, length, replicate, None}
use Rattle.std.proofs.Common.{refl, ap, ◌∙◌, arith}
use Rattle.txn_runs.specs.declared.program.Stmt.{Stmt}
use Rattle.txn_runs.specs.declared.outcome.End.{End}
use Rattle.txn_runs.specs.declared.outcome.End.TheVariants.{Going, Failed, Fault}
use Rattle.txn_runs.specs.Run.{Tables, Writes, after}
use Rattle.txn_runs.specs.Bounds.{steps_max}
use Rattle.txn_runs.specs.Serial.{has_ended, first_end, run_length, last_state, effect_by, effect_of, over}

end_by : (body : List Stmt) (d : Tables) (more n : ℕ) (b : Bool) → first_end body d more (n + 1) ≤ n + 1 + more → (if b then n else first_end body d more (n + 1)) ≤ n + suc more
end_by body d more n true le = omega arith
end_by body d more n false le = omega (arith, le)

end_within : (body : List Stmt) (d : Tables) (more n : ℕ) → first_end body d more n ≤ n + more
end_within body d zero n = omega arith
end_within body d (suc more) n = end_by body d more n (has_ended (after body d n)) (end_within body d more (n + 1))

pub length_within : (body : List Stmt) (d : Tables) → run_length body d ≤ steps_max body
length_within body d = omega (arith, end_within body d (steps_max body) 0)

differ : (body : List Stmt) (d : Tables) (n m : ℕ) → has_ended (after body d n) ≡ false → has_ended (after body d m) ≡ true → n ≡ m → ⊥
differ body d n m a b e = let c : has_ended (after body d n) ≡ true = ap (λ k. has_ended (after body d k)) e ∙ b in cc

less_by : (body : List Stmt) (d : Tables) (n m : ℕ) → has_ended (after body d n) ≡ false → n ≤ m → has_ended (after body d m) ≡ true → n + 1 ≤ m
less_by body d n m is le ended = let ne : n ≢ m = differ body d n m is ended in omega (arith, ne, le)

least_by : (body : List Stmt) (d : Tables) (more n m : ℕ) (b : Bool) → has_ended (after body d n) ≡ b → n ≤ m → has_ended (after body d m) ≡ true → (n + 1 ≤ m → first_end body d more (n + 1) ≤ m) → (if b then n else first_end body d more (n + 1)) ≤ m
least_by body d more n m true is le ended next = le
least_by body d more n m false is le ended next = next (less_by body d n m is le ended)

end_least : (body : List Stmt) (d : Tables) (more n m : ℕ) → n ≤ m → has_ended (after body d m) ≡ true → first_end body d more n ≤ m
end_least body d zero n m le ended = le
end_least body d (suc more) n m le ended = least_by body d more n m (has_ended (after body d n)) refl le ended (λ less. end_least body d more (n + 1) m less ended)

pub length_least : (body : List Stmt) (d : Tables) (m : ℕ) → has_ended (after body d m) ≡ true → run_length body d ≤ m
length_least body d m ended = end_least body d (steps_max body) 0 m (omega arith) ended

-- writes of no item change no table
pub over_nothing : (n : ℕ) (d : Tables) → over (replicate n None) d ≡ d
over_nothing n [] = refl
over_nothing zero (v ∷ d) = refl
over_nothing (suc n) (v ∷ d) = ap (λ x. v ∷ x) (over_nothing n d)

effect_nothing : (end : End) (writes : Writes) (d : Tables) → end ≢ Going → over (effect_by end writes) d ≡ d
effect_nothing Going writes d differs = absurd (differs refl)
effect_nothing (Failed code) writes d differs = over_nothing (length writes) d
effect_nothing (Fault kind) writes d differs = over_nothing (length writes) d

pub no_effect : (body : List Stmt) (d : Tables) → (last_state body d).end ≢ Going → over (effect_of body d) d ≡ d
no_effect body d differs = effect_nothing (last_state body d).end (last_state body d).writes d differs
