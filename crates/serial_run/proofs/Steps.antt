-- A run makes a step only below its length, and no more than its program's bound.
use Rattle.std.proofs.Common.{◌≡◌, ℕ, ◌+◌, ◌<◌, ◌≤◌, true, false, List, [], ◌∷◌, replicate, length, refl, sym, ap, ◌∙◌, inl, inr, arith, zero, suc, None, subst, ℤ}
use Rattle.std.proofs.lemmas.Bool.{cases_lt}
use Rattle.txn_runs.specs.declared.program.Stmt.{Stmt}
use Rattle.txn_runs.specs.declared.kind.Kind.TheVariants.{Local}
use Rattle.txn_runs.specs.declared.outcome.End.{End}
use Rattle.txn_runs.specs.declared.outcome.End.TheVariants.{Going, Failed, Fault}
use Rattle.txn_runs.specs.Run.{Tables, Running, after}
use Rattle.txn_runs.specs.Kind.{kind_of, kind_from}
use Rattle.txn_runs.specs.Serial.{ended_at, has_ended, run_length, last_state}
use Rattle.txn_runs.proofs.Within.{after_within}
use Rattle.txn_runs.proofs.Last.{last_ended, length_stays}
use Rattle.txn_runs.proofs.Ending.{length_within}
use Rattle.txn_code.specs.declared.node.Node.{Node}
use Rattle.txn_interp.specs.State.{Held, Runs, RunsOver}
use Rattle.txn_runs.specs.declared.outcome.Outcome.{Outcome}
use Rattle.txn_runs.specs.Run.{Writes}
use Rattle.txn_runs.specs.Serial.{outcome_by, outcome_of, effect_by, effect_of}
use Rattle.txn_runs.specs.Bounds.{emits_max}
use Rattle.txn_runs.proofs.Last.{ended_last}
use Rattle.txn_runs.proofs.Ending.{length_least}
use Rattle.serial_run.specs.Ran.{is_done, effect_if}

-- a run that has not ended is below its length
pub goes-below : (body : List Stmt) (d : Tables) (n : ℕ) → has_ended (after body d n) ≡ false → n < run_length body d
goes-below body d n goes =
    elim (cases_lt n (run_length body d)) [
      | inl below ↦ below
      | inr past ↦ let ended : has_ended (after body d n) ≡ true = ap has_ended (length_stays body d n past) ∙ last_ended body d in cc
    ]

local-goes : (end : End) (rest : List Stmt) (s : Running) → kind_from end rest s ≡ Local → ended_at end rest ≡ false
local-goes Going (first ∷ rest) s is = refl
local-goes Going [] s is = cc
local-goes (Failed code) rest s is = cc
local-goes (Fault kind) rest s is = cc

-- a run whose next step is local has not ended
pub local-below : (body : List Stmt) (d : Tables) (n : ℕ) → kind_of (after body d n) ≡ Local → n < run_length body d
local-below body d n is = goes-below body d n (local-goes (after body d n).end (after body d n).rest (after body d n) is)

-- so many local steps end no further than at the length
pub locals-below : (body : List Stmt) (d : Tables) (from made : ℕ) → from ≤ run_length body d → ((n : ℕ) → n < made → kind_of (after body d (from + n)) ≡ Local) → from + made ≤ run_length body d
locals-below body d from zero within local = omega arith
locals-below body d from (suc made) within local = let last = local-below body d (from + made) (local made (omega arith)) in omega (arith, last)

-- a state that isn't at its end has made fewer steps than any program has
pub few-steps : (nodes : List Node) (s : Held) → Runs nodes s → s.done ≡ false → s.position < 100000
few-steps nodes s r goes =
    let below = goes-below r.body r.tables s.position (sym r.over.done ∙ goes) in
    let within = length_within r.body r.tables in
    let most = r.program.steps in
    omega (arith, below, within, most)

-- The state of a run that has ended has its emits and its writes.

pub last-of : (nodes : List Node) (body : List Stmt) (d : Tables) (s : Held) → RunsOver nodes body d s → s.done ≡ true → after body d s.position ≡ last_state body d
last-of nodes body d s over done = ended_last body d s.position (sym over.done ∙ done)

-- it is at the run's length where it is no further
pub at-length : (nodes : List Node) (body : List Stmt) (d : Tables) (s : Held) → RunsOver nodes body d s → s.done ≡ true → s.position ≤ run_length body d → s.position ≡ run_length body d
at-length nodes body d s over done within = let least = length_least body d s.position (sym over.done ∙ done) in omega (arith, least, within)

done-effect : (end : End) (emits : List ℤ) (writes : Writes) (o : Outcome) → outcome_by end emits ≡ o → effect_if (is_done o) writes ≡ effect_by end writes
done-effect Going emits writes o is = subst (λ x. effect_if (is_done x) writes ≡ writes) is refl
done-effect (Failed code) emits writes o is = subst (λ x. effect_if (is_done x) writes ≡ replicate (length writes) None) is refl
done-effect (Fault kind) emits writes o is = subst (λ x. effect_if (is_done x) writes ≡ replicate (length writes) None) is refl

-- its effect is what it has written, where it is done
pub effect-kept : (nodes : List Node) (body : List Stmt) (d : Tables) (s : Held) → RunsOver nodes body d s → s.done ≡ true → effect_if (is_done (outcome_of body d)) s.writes ≡ effect_of body d
effect-kept nodes body d s over done =
    let last = last-of nodes body d s over done in
    let same : s.writes ≡ (last_state body d).writes = sym (ap (λ (r : Running). r.writes) over.is.is) ∙ ap (λ (r : Running). r.writes) last in
    ap (effect_if (is_done (outcome_of body d))) same ∙ done-effect (last_state body d).end (last_state body d).emits (last_state body d).writes (outcome_of body d) refl

-- it has emitted no more than its program's bound
pub few-emits : (nodes : List Node) (body : List Stmt) (d : Tables) (s : Held) → RunsOver nodes body d s → length s.emits ≤ emits_max body
few-emits nodes body d s over =
    let within = (after_within body d s.position).emits in
    let same : length s.emits ≡ length (after body d s.position).emits = sym (ap (λ (r : Running). length r.emits) over.is.is) in
    omega (arith, within, same)
