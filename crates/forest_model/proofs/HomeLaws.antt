-- A step leaves at home what was at home, and a recall brings all home.
use Rattle.std.proofs.Common.{◌≡◌, ℕ, suc, ◌==◌, false, List, [], ◌∷◌, find, map, Option, Some, None, Result, Ok, Err, IfOk, refl}
use Rattle.std.specs.List.{AllByRecursion}
use Rattle.std.proofs.lemmas.Bool.{cond_both}
use Rattle.block_rule.specs.Standing.{unless_ended, up_to_point}
use Rattle.journal_core.specs.Journal.{is_live}
use Rattle.block_rule.specs.declared.role.Role.{Role}
use Rattle.block_rule.specs.declared.role.Role.TheVariants.{Optimistic, Guard}
use Rattle.forest_model.specs.Point.{Conflict}
use Rattle.forest_model.specs.Forest.{is_ended, Shadow, Started, Forest, wanted, find_started}
use Rattle.forest_model.specs.Settle.{shadows_in, positions_in, stands_for, stay_or_copy, settled_shadows, resettled, settle}
use Rattle.forest_model.specs.Sound.{IsHome}
use Rattle.forest_model.specs.Events.{Refusal, step, step_role, step_guard, put_first, with_shadows, moved_to, move_to, given_shadows, give_shadows}
use Rattle.forest_model.specs.Jobs.{set_out, recalled, recall}
use Rattle.forest_model.proofs.StepLaws.{if_runnable-all, if_started-all}
use Rattle.forest_model.proofs.Lists.{all-weaken, all-map, all-everywhere, all-found}

abbrev pub Home : List Shadow → Type 0
Home ss = AllByRecursion (λ s. s.out ≡ false) ss

pub settled-home : (old : Option Started) (ws : List Conflict) → Home (shadows_in old) → Home (settled_shadows old ws)
settled-home old [] h = tt
settled-home old (w ∷ ws) h = (go (find (stands_for w) (shadows_in old)) refl, settled-home old ws h)
  where
    go : (o : Option Shadow) → find (stands_for w) (shadows_in old) ≡ o → (stay_or_copy o (positions_in old) w).out ≡ false
    go None e = refl
    go (Some s) e = all-found (λ x. x.out ≡ false) (stands_for w) (shadows_in old) s e h

pub before-home : (before : List Started) → AllByRecursion (λ r. Home r.shadows) before → (n : ℕ) → Home (shadows_in (find_started before n))
before-home before h n = go (find_started before n) refl
  where
    go : (o : Option Started) → find_started before n ≡ o → Home (shadows_in o)
    go None e = tt
    go (Some r) e = all-found (λ x. Home x.shadows) (λ x. x.number == n) before r e h

move-home : (f : Forest) (n p : ℕ) → IsHome f → IsHome (settle f.started (move_to n p f))
move-home f n p h = record {
  optimistic =
      all-map (λ r. r.out ≡ false) (resettled f.started (move_to n p f)) (map (moved_to n p) f.started)
      (all-map (λ r. r.out ≡ false) (moved_to n p) f.started
      (all-weaken (λ r. r.out ≡ false) (λ r. (moved_to n p r).out ≡ false)
      (λ r old. cond_both {A = Started} (r.number == n) _ r (λ x. x.out ≡ false) (λ e. refl) (λ e. old)) f.started h.optimistic));
  others =
      all-map (λ r. Home r.shadows) (resettled f.started (move_to n p f)) (map (moved_to n p) f.started)
      (all-everywhere (λ r. Home (resettled f.started (move_to n p f) r).shadows)
      (λ r. settled-home (find_started f.started r.number) (wanted (move_to n p f) r) (before-home f.started h.others r.number))
      (map (moved_to n p) f.started));
}

give-home : (f : Forest) (n : ℕ) (ss : List Shadow) → Home ss → IsHome f → IsHome (give_shadows n ss f)
give-home f n ss hs h = record {
  optimistic =
      all-map (λ r. r.out ≡ false) (given_shadows n ss) f.started
      (all-weaken (λ r. r.out ≡ false) (λ r. (given_shadows n ss r).out ≡ false)
      (λ r old. cond_both {A = Started} (r.number == n) _ r (λ x. x.out ≡ false) (λ e. old) (λ e. old)) f.started h.optimistic);
  others =
      all-map (λ r. Home r.shadows) (given_shadows n ss) f.started
      (all-weaken (λ r. Home r.shadows) (λ r. Home (given_shadows n ss r).shadows)
      (λ r old. cond_both {A = Started} (r.number == n) _ r (λ x. Home x.shadows) (λ e. hs) (λ e. old)) f.started h.others);
}

put_first-home : (s : Shadow) (o : Result (ℕ × List Shadow) Refusal) → s.out ≡ false → IfOk o (λ new. Home new.1) → IfOk (put_first s o) (λ new. Home new.1)
put_first-home s (Ok new) h all = (h, all)
put_first-home s (Err refusal) h all = tt

step_guard-home : (u : ℕ) (ss : List Shadow) (ws : List Conflict) → Home ss → IfOk (step_guard u ss ws) (λ new. Home new.1)
step_guard-home u [] ws h = tt
step_guard-home u (s ∷ ss) [] h = tt
step_guard-home u (s ∷ ss) (w ∷ ws) h =
    cond_both {A = Result (ℕ × List Shadow) Refusal} (s.guard == u) _ _ (λ o. IfOk o (λ new. Home new.1))
    (λ e. if_runnable-all (up_to_point s.position w.1) _ (λ new. Home new.1) (λ run. (refl, h.1)))
    (λ e. put_first-home s (step_guard u ss ws) h.0 (step_guard-home u ss ws h.1))

with_shadows-home : (f : Forest) (r : Started) (o : Result (ℕ × List Shadow) Refusal) → IfOk o (λ new. Home new.1) → IsHome f → IfOk (with_shadows f r o) (λ a. IsHome a.1)
with_shadows-home f r (Ok new) hs h = give-home f r.number new.1 hs h
with_shadows-home f r (Err refusal) hs h = tt

step_role-home : (f : Forest) (role : Role) (t : ℕ) (r : Started) → find_started f.started t ≡ Some r → IsHome f → IfOk (step_role f role r) (λ a. IsHome a.1)
step_role-home f Optimistic t r found h =
    if_runnable-all (unless_ended (is_ended f r)) _ (λ a. IsHome a.1) (λ run. move-home f r.number (suc r.position) h)
step_role-home f (Guard u) t r found h =
    with_shadows-home f r (step_guard u r.shadows (wanted f r)) (step_guard-home u r.shadows (wanted f r) (all-found (λ x. Home x.shadows) (λ x. x.number == t) f.started r found h.others)) h

pub step-home : (f : Forest) (t : ℕ) (role : Role) → IsHome f → IfOk (step f t role) (λ a. IsHome a.1)
step-home f t role h =
    cond_both {A = Result (ℕ × Forest) Refusal} (is_live f.journal t) _ _ (λ o. IfOk o (λ a. IsHome a.1))
    (λ e. if_started-all (λ a. IsHome a.1) (find_started f.started t) (step_role f role) (λ r found. step_role-home f role t r found h)) (λ e. tt)

all-home : (ss : List Shadow) → Home (map (set_out false) ss)
all-home [] = tt
all-home (s ∷ ss) = (refl, all-home ss)

pub recall-home : (f : Forest) → IsHome (recall f)
recall-home f = record {
  optimistic = all-map (λ r. r.out ≡ false) recalled f.started (all-everywhere (λ r. (recalled r).out ≡ false) (λ r. refl) f.started);
  others = all-map (λ r. Home r.shadows) recalled f.started (all-everywhere (λ r. Home (recalled r).shadows) (λ r. all-home r.shadows) f.started);
}
