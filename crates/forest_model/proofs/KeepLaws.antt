-- What a begin, a guard's step and a stored job leave as it was, and that a withdrawal takes nobody back.
use Rattle.std.proofs.Common.{◌≡◌, ◌≢◌, ℕ, ◌+◌, ◌==◌, false, ltb, List, Option, Some, None, option_map, Result, Ok, Err, IfOk, length, refl, ap, sym, ◌∙◌, subst, eq-eqb}
use Rattle.std.proofs.lemmas.Bool.{cases_Bool, cond_both, ne_eqb}
use Rattle.txn_runs.specs.declared.program.Program.{Program}
use Rattle.block_rule.specs.declared.role.Role.TheVariants.{Guard}
use Rattle.journal_core.specs.Journal.{began, is_sealed, is_live}
use Rattle.journal_core.specs.declared.entry.Entry.TheVariants.{Began}
use Rattle.forest_model.specs.Forest.{Shadow, Started, Forest, program, wanted, find_started, is_started}
use Rattle.forest_model.specs.Settle.{resettled}
use Rattle.forest_model.specs.Start.{fresh, start, without, next_to_start, start_some}
use Rattle.forest_model.specs.Sound.{IsSound, KeepsStarted, KeepsOthers}
use Rattle.forest_model.specs.Events.{Refusal, with_entry, begin, given_shadows, give_shadows, step_guard, with_shadows, step_role, step, IsSealed, Unknown, gone, withdrawn, withdraw}
use Rattle.forest_model.specs.Jobs.{Job, same_reads, is_out_at, moved, stored_in, give}
use Rattle.forest_model.specs.Runs.{reads}
use Rattle.forest_model.specs.Laws.{StandsAt}
use Rattle.forest_model.proofs.Lists.{either}
use Rattle.forest_model.proofs.StartedLaws.{found-number}
use Rattle.forest_model.proofs.EventLaws.{not_started}
use Rattle.forest_model.proofs.StepLaws.{if_started-all}
use Rattle.forest_model.proofs.AfterLaws.{find-mapped, find-without, find-put, find-started, started-found}
use Rattle.std.proofs.Common.{true≢false, ltb-true}

-- A begin.

starts-keep : (f : Forest) (t : ℕ) (v : ℕ) (r : Started) → t ≢ v → find_started f.started v ≡ Some r → find_started (start t f).started v ≡ Some r
starts-keep f t v r ne found = find-put (λ (x : Started). x.number == v) (λ x y. ltb x.number y.number) (fresh t) f.started (ne_eqb t v ne) ∙ found

pub begin-keeps : (f : Forest) (p : Program) (deadline : ℕ) → IsSound f → IfOk (begin f p deadline) (λ a. KeepsStarted f a.1)
begin-keeps f p deadline h =
    cond_both (is_sealed f.journal) _ _ (λ r. IfOk r (λ a. KeepsStarted f a.1)) (λ e. tt)
    (λ unsealed. cond_both (ltb (began f.journal) 20000) _ _ (λ r. IfOk r (λ a. KeepsStarted f a.1))
    (λ room. cond_both (ltb (length f.started) f.lanes) _ _ (KeepsStarted f)
    (λ lane v r found. starts-keep (with_entry (Began (began f.journal + 1) deadline p) f) (began f.journal + 1) v r
    (λ q. true≢false (sym (started-found f.started v r found) ∙ sym (ap (is_started f.started) q) ∙ not_started f h deadline p unsealed (ltb-true _ _ room))) found)
    (λ none v r found. found))
    (λ e. tt))

-- New shadows for one transaction.

given-number : (t : ℕ) (ss : List Shadow) (x : Started) → (given_shadows t ss x).number ≡ x.number
given-number t ss x = cond_both (x.number == t) _ x (λ z. z.number ≡ x.number) (λ e. refl) (λ e. refl)

given-others : (f : Forest) (t : ℕ) (ss : List Shadow) → KeepsOthers t f (give_shadows t ss f)
given-others f t ss v r ne found =
    let other : r.number == t ≡ false = ne_eqb r.number t (λ q. ne (sym (found-number f.started v r found) ∙ q)) in
    let same : given_shadows t ss r ≡ r = rw other refl in
    find-mapped (given_shadows t ss) (given-number t ss) f.started v r found ∙ ap (λ x. Some x) same

given-one : (f : Forest) (r : Started) (ss : List Shadow) → find_started f.started r.number ≡ Some r → find_started (give_shadows r.number ss f).started r.number ≡ Some (record r { shadows = ss })
given-one f r ss found =
    let same : given_shadows r.number ss r ≡ record r { shadows = ss } = rw (eq-eqb r.number r.number refl) refl in
    find-mapped (given_shadows r.number ss) (given-number r.number ss) f.started r.number r found ∙ ap (λ x. Some x) same

with_shadows-others : (f : Forest) (r : Started) (o : Result (ℕ × List Shadow) Refusal) → IfOk (with_shadows f r o) (λ a. KeepsOthers r.number f a.1)
with_shadows-others f r (Ok new) = given-others f r.number new.1
with_shadows-others f r (Err refusal) = tt

pub guard-keeps : (f : Forest) (t u : ℕ) → IfOk (step f t (Guard u)) (λ a. KeepsOthers t f a.1)
guard-keeps f t u =
    cond_both {A = Result (ℕ × Forest) Refusal} (is_live f.journal t) _ _ (λ x. IfOk x (λ a. KeepsOthers t f a.1))
    (λ live. if_started-all (λ a. KeepsOthers t f a.1) (find_started f.started t) (step_role f (Guard u))
    (λ r found. subst (λ n. IfOk (with_shadows f r (step_guard u r.shadows (wanted f r))) (λ a. KeepsOthers n f a.1)) (found-number f.started t r found) (with_shadows-others f r (step_guard u r.shadows (wanted f r)))))
    (λ e. tt)

-- A job that is stored in a shadow that waits.

module _ (f g : Forest) (job : Job) (r : Started) (found : find_started f.started job.number ≡ Some r) where
  -- the job's transaction has these shadows now, and the others stand as they stood
  abbrev Moved : Option (List Shadow) → Type 0
  Moved o = (find_started g.started job.number ≡ option_map (λ ss. record r { shadows = ss }) o) × KeepsOthers job.number f g

  number_r : r.number ≡ job.number
  number_r = found-number f.started job.number r found

  in_list : (o : Option (List Shadow)) → stored_in f r o ≡ Some g → Moved o
  in_list None h = cc
  in_list (Some ss) h =
      let is : give_shadows r.number ss f ≡ g = cc in
      let found_r : find_started f.started r.number ≡ Some r = ap (find_started f.started) number_r ∙ found in
      let one : find_started (give_shadows r.number ss f).started job.number ≡ Some (record r { shadows = ss }) =
      subst (λ n. find_started (give_shadows r.number ss f).started n ≡ Some (record r { shadows = ss })) number_r (given-one f r ss found_r)
      in
      let others : KeepsOthers job.number f (give_shadows r.number ss f) = subst (λ n. KeepsOthers n f (give_shadows r.number ss f)) number_r (given-others f r.number ss) in
      (subst (λ x. find_started x.started job.number ≡ Some (record r { shadows = ss })) is one, subst (KeepsOthers job.number f) is others)

pub give-moves : (f g : Forest) (job : Job) (r : Started) → find_started f.started job.number ≡ Some r → is_out_at job.from r.position r.out ≡ false → give f job ≡ Some g
    → (find_started g.started job.number ≡ option_map (λ ss. record r { shadows = ss }) (moved job.from job.reached r.shadows)) × KeepsOthers job.number f g
give-moves f g job r found home e =
    either (cases_Bool (same_reads (reads (program f r) f.tables job.from) job.reads))
    (λ q. let some : stored_in f r (moved job.from job.reached r.shadows) ≡ Some g = rw (found, q, home) at e in in_list f g job r found (moved job.from job.reached r.shadows) some)
    (λ q. let none : None ≡ Some g = rw (found, q) at e in cc)

-- A withdrawal.

withdrawn-is : (f g : Forest) (t : ℕ) → withdraw f t ≡ Ok g → withdrawn f t ≡ g
withdrawn-is f g t h =
    either (cases_Bool (is_live f.journal t))
    (λ live. either (cases_Bool (is_sealed f.journal))
    (λ e. let no : Err IsSealed ≡ Ok g = rw (live, e) at h in cc)
    (λ e. let ok : Ok (withdrawn f t) ≡ Ok g = rw (live, e) at h in cc))
    (λ dead. let no : Err Unknown ≡ Ok g = rw dead at h in cc)

pub withdraw-stands : (f g : Forest) (t v : ℕ) (r : Started) → withdraw f t ≡ Ok g → find_started f.started v ≡ Some r → v ≢ t → StandsAt g v r.position
withdraw-stands f g t v r h found ne =
    let left : find_started (without t f.started) v ≡ Some r = find-without t v f.started ne ∙ found in
    let with_next : find_started (start_some (next_to_start (gone f t)) (gone f t)).started v ≡ Some r = find-started (gone f t) (next_to_start (gone f t)) v r refl left in
    subst (λ x. StandsAt x v r.position) (withdrawn-is f g t h)
    (ap (option_map (λ (x : Started). x.position))
    (find-mapped (resettled f.started (start_some (next_to_start (gone f t)) (gone f t))) (λ x. refl) (start_some (next_to_start (gone f t)) (gone f t)).started v r with_next))
