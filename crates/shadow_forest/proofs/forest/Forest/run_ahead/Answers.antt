use Rattle.std.proofs.Common.{◌≡◌, ◌⊎◌, inl, inr, ℕ, ◌+◌, ◌==◌, List, Some, true, is_ok, refl, ap, sym, subst, ◌∙◌}
use Rattle.block_rule.specs.declared.role.Row.{Row}
use Rattle.block_rule.specs.declared.role.Role.TheVariants.{Guard}
use Rattle.std.proofs.lemmas.Bool.{cond_both}
use Rattle.journal_core.specs.Journal.{is_live}
use Rattle.forest_model.specs.Forest.{Shadow, Started, Forest, wanted, find_started}
use Rattle.forest_model.specs.Sound.{IsSound}
use Rattle.forest_model.specs.Pick.{pick}
use Rattle.forest_model.specs.Events.{moved_to, given_shadows, step}
use Rattle.forest_model.specs.Stays.{RunsOn, IsStillPicked, GuardRan, placed_on}
use Rattle.forest_model.proofs.StepLaws.{moved_to-number}
use Rattle.shadow_forest.specs.Staying.{IsPlaced}
use Rattle.shadow_forest.proofs.StillFirst.{placed-mapped, found-live}
use Rattle.forest_model.proofs.GuardLaws.{guard-still, guard-runs, guard-picked}
use Rattle.forest_model.proofs.StayLaws.{local-runs, local-picked, no-runs, none-on}
use Rattle.shadow_forest.specs.View.{View, with_numbers}
use Rattle.shadow_forest.proofs.forest.Forest.run_ahead.Goals as goal

-- The optimistic shadow.

pub returns-in-Optimistic-clause-none : goal.returns-in-Optimistic-clause-none
returns-in-Optimistic-clause-none g c = λ none.
    let x = c.requires.place in
    c.run_local.ensures.next x.0 x.2
    ∙ ap (λ f. with_numbers f c.args.self.now) (no-runs c.run_local.result c.args.self.now.numbers c.args.row.now x.0 c.requires.sound c.requires.pick c.in-Optimistic.is x.2 none)

pub returns-in-Optimistic-clause-runs : goal.returns-in-Optimistic-clause-runs
returns-in-Optimistic-clause-runs g c =
    let x = c.requires.place in
    subst (λ (v : View). RunsOn c.args.self.now.numbers v.numbers c.run_local.result) (sym (c.run_local.ensures.next x.0 x.2))
    (local-runs c.run_local.result c.args.self.now.numbers c.args.row.now x.0 c.requires.sound c.requires.pick c.in-Optimistic.is x.2 (c.run_local.ensures.local x.0 x.2))

pub returns-in-Optimistic-clause-stays : goal.returns-in-Optimistic-clause-stays
returns-in-Optimistic-clause-stays g c = λ ok.
    let x = c.requires.place in
    local-picked c.run_local.result c.args.self.now.numbers c.run_local.new.self.numbers c.args.row.now x.0 c.requires.sound c.requires.pick c.in-Optimistic.is x.2 (c.run_local.ensures.local x.0 x.2)
    (ap (λ (v : View). v.numbers) (c.run_local.ensures.next x.0 x.2)) ok

pub returns-in-Optimistic-clause-told : goal.returns-in-Optimistic-clause-told
returns-in-Optimistic-clause-told g c =
    let x = c.requires.place in
    let e = c.run_local.ensures.next x.0 x.2 in
    e ∙ ap (λ f. with_numbers f c.args.self.now) (sym (ap (λ (v : View). v.numbers) e))

-- A shadow that waits.

module _ (f h : Forest) (row : Row) (u : ℕ) (r : Started) (n : ℕ) (sound : IsSound f) (e : pick f ≡ Some row) (role : row.role ≡ Guard u) (found : find_started f.started row.txn ≡ Some r) where
  either_still : GuardRan f u r h n ⊎ ((n ≡ 0) × (h ≡ f)) → n ≡ 0 → h ≡ f
  either_still (inl ran) none = guard-still f h row u r n sound e role found ran none
  either_still (inr same) none = same.1

  either_runs : GuardRan f u r h n ⊎ ((n ≡ 0) × (h ≡ f)) → RunsOn f h n
  either_runs (inl ran) = guard-runs n f h row u r sound e role found ran
  either_runs (inr same) = subst (λ m. RunsOn f h m) (sym same.0) (subst (λ x. RunsOn f x 0) (sym same.1) (none-on f))

  either_stays : GuardRan f u r h n ⊎ ((n ≡ 0) × (h ≡ f)) → is_ok (step h row.txn row.role) ≡ true → IsStillPicked f h row
  either_stays (inl ran) ok = guard-picked f h row u r n sound e role found ran ok
  either_stays (inr same) ok = subst (λ x. IsStillPicked f x row) (sym same.1) (record { sound = sound; picked = e; nobody = refl })

pub returns-in-Guard-clause-none : goal.returns-in-Guard-clause-none
returns-in-Guard-clause-none g c = λ none.
    let x = c.requires.place in
    c.run_guard.ensures.told
    ∙ ap (λ f. with_numbers f c.args.self.now)
    (either_still c.args.self.now.numbers c.run_guard.new.self.numbers c.args.row.now c.in-Guard.guard x.0 c.run_guard.result c.requires.sound c.requires.pick c.in-Guard.is x.2 (c.run_guard.ensures.ran x.0 x.2) none)

pub returns-in-Guard-clause-runs : goal.returns-in-Guard-clause-runs
returns-in-Guard-clause-runs g c =
    let x = c.requires.place in
    either_runs c.args.self.now.numbers c.run_guard.new.self.numbers c.args.row.now c.in-Guard.guard x.0 c.run_guard.result c.requires.sound c.requires.pick c.in-Guard.is x.2 (c.run_guard.ensures.ran x.0 x.2)

pub returns-in-Guard-clause-stays : goal.returns-in-Guard-clause-stays
returns-in-Guard-clause-stays g c = λ ok.
    let x = c.requires.place in
    either_stays c.args.self.now.numbers c.run_guard.new.self.numbers c.args.row.now c.in-Guard.guard x.0 c.run_guard.result c.requires.sound c.requires.pick c.in-Guard.is x.2 (c.run_guard.ensures.ran x.0 x.2) ok

-- It stands at its place still.

pub returns-in-Optimistic-clause-place : goal.returns-in-Optimistic-clause-place
returns-in-Optimistic-clause-place g c =
    let x = c.requires.place in
    let q = x.0.position + c.run_local.result in
    subst (λ (v : View). IsPlaced v.numbers.started c.args.place c.args.row.now.txn) (sym (c.run_local.ensures.next x.0 x.2))
    (placed-mapped (moved_to c.args.row.now.txn q) (moved_to-number c.args.row.now.txn q) c.args.self.now.numbers.started c.args.place c.args.row.now.txn x)

pub returns-in-Optimistic-clause-live : goal.returns-in-Optimistic-clause-live
returns-in-Optimistic-clause-live g c =
    let x = c.requires.place in
    subst (λ (v : View). is_live v.numbers.journal c.args.row.now.txn ≡ true) (sym (c.run_local.ensures.next x.0 x.2)) (found-live c.args.self.now.numbers c.args.row.now.txn x.0 c.requires.sound x.2)

either_placed : (f h : Forest) (u : ℕ) (r : Started) (n place t : ℕ) → GuardRan f u r h n ⊎ ((n ≡ 0) × (h ≡ f)) → IsPlaced f.started place t → IsPlaced h.started place t
either_placed f h u r n place t (inr same) there = subst (λ x. IsPlaced x.started place t) (sym same.1) there
either_placed f h u r n place t (inl ran) there =
    let ss : List Shadow = placed_on u (ran.position + n) r.shadows (wanted f r) in
    subst (λ x. IsPlaced x.started place t) (sym ran.next)
    (placed-mapped (given_shadows r.number ss) (λ y. cond_both (y.number == r.number) (record y { shadows = ss }) y (λ z. z.number ≡ y.number) (λ e. refl) (λ e. refl)) f.started place t there)

either_live : (f h : Forest) (u : ℕ) (r : Started) (n t : ℕ) → GuardRan f u r h n ⊎ ((n ≡ 0) × (h ≡ f)) → is_live f.journal t ≡ true → is_live h.journal t ≡ true
either_live f h u r n t (inr same) live = subst (λ x. is_live x.journal t ≡ true) (sym same.1) live
either_live f h u r n t (inl ran) live = subst (λ x. is_live x.journal t ≡ true) (sym ran.next) live

pub returns-in-Guard-clause-place : goal.returns-in-Guard-clause-place
returns-in-Guard-clause-place g c =
    let x = c.requires.place in
    either_placed c.args.self.now.numbers c.run_guard.new.self.numbers c.in-Guard.guard x.0 c.run_guard.result c.args.place c.args.row.now.txn (c.run_guard.ensures.ran x.0 x.2) x

pub returns-in-Guard-clause-live : goal.returns-in-Guard-clause-live
returns-in-Guard-clause-live g c =
    let x = c.requires.place in
    either_live c.args.self.now.numbers c.run_guard.new.self.numbers c.in-Guard.guard x.0 c.run_guard.result c.args.row.now.txn (c.run_guard.ensures.ran x.0 x.2) (found-live c.args.self.now.numbers c.args.row.now.txn x.0 c.requires.sound x.2)
