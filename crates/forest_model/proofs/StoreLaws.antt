-- What a job that is stored leaves as it is; lists that settling leaves; and how many shadows there are.
use Rattle.std.proofs.Common.{◌≡◌, ℕ, suc, ◌-◌, ◌≤◌, ◌==◌, true, false, List, [], ◌∷◌, length, map, filter_map, Option, Some, None, Result, Ok, Err, IfOk, if◌then◌else◌, refl, ap, sym, ◌∙◌, subst, arith, eqb-true}
use Rattle.std.specs.List.{AllByRecursion, AllZip}
use Rattle.std.proofs.lemmas.Bool.{cases_Bool, cond_both}
use Rattle.txn_runs.specs.Run.{after}
use Rattle.block_rule.specs.Standing.{unless_ended}
use Rattle.block_rule.specs.declared.role.Role.TheVariants.{Optimistic}
use Rattle.journal_core.specs.Journal.{program_of, is_live, is_sealed}
use Rattle.forest_model.specs.Runs.{reads, writes}
use Rattle.forest_model.specs.Choose.{in_order}
use Rattle.forest_model.specs.Point.{Conflict, point, is_sooner, wanted_of}
use Rattle.forest_model.specs.Forest.{is_ended, length_of, Shadow, Started, Forest, program, reads_of, writes_of, conflict_at, against, wanted, find_started}
use Rattle.forest_model.specs.Start.{start_waiting}
use Rattle.forest_model.specs.Settle.{settled_shadows, resettled, settle}
use Rattle.forest_model.specs.Sound.{IsRising, StandsFor, IsSound, LeavesLists}
use Rattle.forest_model.specs.Events.{Refusal, NotEnded, moved_to, move_to, give_shadows, step_role, step, others_cut, laid, committed, commit, gone, withdraw}
use Rattle.forest_model.specs.Jobs.{Job, same_reads, is_out_at, moved, stored_in, given, give}
use Rattle.forest_model.specs.World.{Held, IsHeld}
use Rattle.forest_model.proofs.Lists.{either, all-weaken, all-both, map-map, map-agree, filter_map-map, filter_map-agree}
use Rattle.forest_model.proofs.StartedLaws.{number, found-number, found-alone}
use Rattle.forest_model.proofs.SettleLaws.{wanted-mapped}
use Rattle.forest_model.proofs.StepLaws.{moved_to-number, if_runnable-all, runnable-going, if_started-all, move_to-sound}
use Rattle.forest_model.proofs.CommitLaws.{withdrawn-sound, committed-sound}
use Rattle.forest_model.proofs.RestLaws.{settle-untouched}
use Rattle.forest_model.proofs.PickLaws.{found-self}
use Rattle.forest_model.proofs.GiveLaws.{same_reads-true, job-lands, quiet, quiet-writes, is_out_at-position}
use Rattle.forest_model.proofs.WorldLaws.{tables-size}
use Rattle.forest_model.proofs.WorkLaws.{length-take-le}

-- How many.

zip-length : (ss : List Shadow) (ws : List Conflict) → AllZip StandsFor ss ws → length ss ≡ length ws
zip-length [] [] h = refl
zip-length [] (w ∷ ws) h = absurd h
zip-length (s ∷ ss) [] h = absurd h
zip-length (s ∷ ss) (w ∷ ws) h = ap suc (zip-length ss ws h.1)

-- with its optimistic shadow a started transaction has at most k
pub few-shadows : (f : Forest) → IsSound f → 1 ≤ f.k → AllByRecursion (λ r. suc (length r.shadows) ≤ f.k) f.started
few-shadows f h k =
    all-weaken (λ r. AllZip StandsFor r.shadows (wanted f r)) (λ r. suc (length r.shadows) ≤ f.k)
    (λ r fits.
    let same : length r.shadows ≡ length (wanted f r) = zip-length r.shadows (wanted f r) fits in
    omega (arith, length-take-le (f.k - 1) (in_order is_sooner (filter_map (against f r) f.started))))
    f.started h.settled

-- Jobs that are stored.

module _ (f g : Forest) (job : Job) where
  -- the journal and the tables stay, and the present run has read what the job has
  pub record IsStored : Type 0 where
    pub journal : g.journal ≡ f.journal
    pub tables : g.tables ≡ f.tables
    pub same : reads (program_of f.journal job.number) f.tables job.from ≡ job.reads

  in_list : (r : Started) (o : Option (List Shadow)) → stored_in f r o ≡ Some g → (g.journal ≡ f.journal) × (g.tables ≡ f.tables)
  in_list r None h = cc
  in_list r (Some ss) h = let e : give_shadows r.number ss f ≡ g = cc in (ap (λ x. x.journal) (sym e), ap (λ x. x.tables) (sym e))

  from_given : (o : Option Started) → find_started f.started job.number ≡ o → given f job o ≡ Some g → IsStored
  from_given None found h = cc
  from_given (Some r) found h =
      either (cases_Bool (same_reads (reads (program f r) f.tables job.from) job.reads))
      (λ e.
      let here : reads (program_of f.journal job.number) f.tables job.from ≡ job.reads =
      subst (λ n. reads (program_of f.journal n) f.tables job.from ≡ job.reads) (found-number f.started job.number r found) (same_reads-true _ _ e)
      in
      either (cases_Bool (is_out_at job.from r.position r.out))
      (λ out.
      let some : Some (settle f.started (move_to r.number job.reached f)) ≡ Some g = rw (e, out) at h in
      let is : settle f.started (move_to r.number job.reached f) ≡ g = cc in
      record { journal = ap (λ x. x.journal) (sym is); tables = ap (λ x. x.tables) (sym is); same = here })
      (λ other.
      let some : stored_in f r (moved job.from job.reached r.shadows) ≡ Some g = rw (e, other) at h in
      let is : (g.journal ≡ f.journal) × (g.tables ≡ f.tables) = in_list r (moved job.from job.reached r.shadows) some in
      record { journal = is.0; tables = is.1; same = here }))
      (λ e. let none : None ≡ Some g = rw e at h in cc)

  pub is_stored : give f job ≡ Some g → IsStored
  is_stored h = from_given (find_started f.started job.number) refl h

-- a job that is stored has the state of the present run at its position
pub stored-lands : (f g : Forest) (x : Held) → IsSound f → IsHeld f x → give f x.job ≡ Some g
    → after x.job.program x.tables x.job.reached ≡ after (program_of g.journal x.job.number) g.tables x.job.reached
stored-lands f g x h held e =
    let s : IsStored f g x.job = is_stored f g x.job e in
    let same : reads x.job.program f.tables x.job.from ≡ x.job.reads = subst (λ p. reads p f.tables x.job.from ≡ x.job.reads) held.program s.same in
    job-lands x.job x.tables held.job f.tables (tables-size f h ∙ sym held.size) same
    ∙ ap (λ p. after p f.tables x.job.reached) (sym held.program)
    ∙ sym (rw (s.journal, s.tables) refl)

-- A change that keeps the numbers, and what each has read and written, keeps what each wants.

pub wanted-kept : (f : Forest) (m : Started → Started) → ((x : Started) → (m x).number ≡ x.number)
    → AllByRecursion (λ x. (reads_of f (m x) ≡ reads_of f x) × (writes_of f (m x) ≡ writes_of f x)) f.started
    → AllByRecursion (λ x. wanted (record f { started = map m f.started }) (m x) ≡ wanted f x) f.started
wanted-kept f m counts same =
    all-weaken (λ x. (reads_of f (m x) ≡ reads_of f x) × (writes_of f (m x) ≡ writes_of f x)) (λ x. wanted (record f { started = map m f.started }) (m x) ≡ wanted f x)
    (λ x of_x.
    ap (λ pairs. wanted_of pairs f.k)
    (filter_map-map (against (record f { started = map m f.started }) (m x)) m f.started
    ∙ filter_map-agree (λ u. against (record f { started = map m f.started }) (m x) (m u)) (against f x) f.started
    (all-weaken (λ u. (reads_of f (m u) ≡ reads_of f u) × (writes_of f (m u) ≡ writes_of f u)) (λ u. against (record f { started = map m f.started }) (m x) (m u) ≡ against f x u)
    (λ u of_u. pair x u of_x.0 of_u.1) f.started same)))
    f.started same
  where
    pair : (x u : Started) → reads_of f (m x) ≡ reads_of f x → writes_of f (m u) ≡ writes_of f u → against (record f { started = map m f.started }) (m x) (m u) ≡ against f x u
    pair x u rs ws =
        let points : point (reads_of f (m x)) (writes_of f (m u)) ≡ point (reads_of f x) (writes_of f u) = rw (rs, ws) refl in
        ap (λ p. if (m u).number == (m x).number then None else conflict_at (m u).number p) points ∙ rw (counts u, counts x) refl

-- Lists that settling leaves.

find-unmapped : (m : Started → Started) → ((x : Started) → (m x).number ≡ x.number) → (xs : List Started) (v : ℕ) (new : Started) → find_started (map m xs) v ≡ Some new
    → (r : Started) × (find_started xs v ≡ Some r) × (m r ≡ new)
find-unmapped m same [] v new h = cc
find-unmapped m same (x ∷ xs) v new h =
    either (cases_Bool (x.number == v))
    (λ e.
    let there : (m x).number == v ≡ true = ap (λ n. n == v) (same x) ∙ e in
    let hit : Some (m x) ≡ Some new = rw there at h in
    (x, rw e refl, cc))
    (λ e.
    let there : (m x).number == v ≡ false = ap (λ n. n == v) (same x) ∙ e in
    let more : (r : Started) × (find_started xs v ≡ Some r) × (m r ≡ new) = find-unmapped m same xs v new (rw there at h) in
    (more.0, rw e more.1, more.2))

pub sound-leaves : (before : List Started) (f : Forest) → IsSound (settle before f) → LeavesLists before (settle before f)
sound-leaves before f h v old new found_old found_new fits =
    let was : (r : Started) × (find_started f.started v ≡ Some r) × (resettled before f r ≡ new) = find-unmapped (resettled before f) (λ x. refl) f.started v new found_new in
    let rising : IsRising (map number f.started) = subst IsRising (map-map number (resettled before f) f.started) h.right.rising in
    let wants : wanted (settle before f) new ≡ wanted f was.0 = ap (wanted (settle before f)) (sym was.2) ∙ wanted-mapped f (resettled before f) (λ x. refl) (λ x. refl) was.0 in
    let there : find_started before was.0.number ≡ Some old = ap (find_started before) (found-number f.started v was.0 was.1) ∙ found_old in
    ap (λ (x : Started). x.shadows) (sym was.2)
    ∙ ap (λ o. settled_shadows o (wanted f was.0)) there
    ∙ settle-untouched f old was.0 rising (subst (AllZip StandsFor old.shadows) wants fits)

pub step-leaves : (f : Forest) (t : ℕ) → IsSound f → IfOk (step f t Optimistic) (λ a. LeavesLists f.started a.1)
step-leaves f t h =
    cond_both {A = Result (ℕ × Forest) Refusal} (is_live f.journal t) _ _ (λ x. IfOk x (λ a. LeavesLists f.started a.1))
    (λ live. if_started-all (λ a. LeavesLists f.started a.1) (find_started f.started t) (step_role f Optimistic)
    (λ r found. if_runnable-all (unless_ended (is_ended f r)) _ (λ a. LeavesLists f.started a.1)
    (λ run. sound-leaves f.started (move_to r.number (suc r.position) f) (move_to-sound f r (suc r.position) (runnable-going r.position (length_of f r) run) h))))
    (λ e. tt)

pub withdraw-leaves : (f : Forest) (t : ℕ) → IsSound f → IfOk (withdraw f t) (λ g. LeavesLists f.started g)
withdraw-leaves f t h =
    cond_both {A = Result Forest Refusal} (is_live f.journal t) _ _ (λ x. IfOk x (λ g. LeavesLists f.started g))
    (λ live. cond_both {A = Result Forest Refusal} (is_sealed f.journal) _ _ (λ x. IfOk x (λ g. LeavesLists f.started g)) (λ e. tt)
    (λ unsealed. sound-leaves f.started (start_waiting (gone f t)) (withdrawn-sound f h t live unsealed)))
    (λ e. tt)

-- those that survive the cut of a commit stay, where they stand for what is wanted
pub commit-leaves : (f : Forest) (t : ℕ) (u : Started) → IsSound f → find_started f.started t ≡ Some u → IfOk (commit f t) (λ g. LeavesLists (others_cut f u) g)
commit-leaves f t u h found =
    cond_both {A = Result Forest Refusal} (is_live f.journal t) _ _ (λ x. IfOk x (λ g. LeavesLists (others_cut f u) g))
    (λ live. rw found
    (cond_both {A = Result Forest Refusal} (is_ended f u) (Ok (committed f u)) (Err NotEnded) (λ x. IfOk x (λ g. LeavesLists (others_cut f u) g))
    (λ e. sound-leaves (others_cut f u) (start_waiting (laid f u)) (committed-sound f h u (subst (λ n. find_started f.started n ≡ Some u) (sym (found-number f.started t u found)) found)))
    (λ e. tt)))
    (λ e. tt)

-- A job that is stored in an optimistic shadow changes no list.

module _ (f : Forest) (x : Held) (r : Started) (h : IsSound f) (held : IsHeld f x) (found : find_started f.started x.job.number ≡ Some r)
    (out : is_out_at x.job.from r.position r.out ≡ true) where
  moves : Started → Started
  moves = moved_to r.number x.job.reached

  is_program : program f r ≡ x.job.program
  is_program = ap (program_of f.journal) (found-number f.started x.job.number r found) ∙ held.program

  module _ (same : reads x.job.program f.tables x.job.from ≡ x.job.reads) where
    size : length f.tables ≡ length x.tables
    size = tables-size f h ∙ sym held.size

    here : r.position ≡ x.job.from
    here = is_out_at-position x.job.from r.position r.out out

    forward : x.job.from ≤ x.job.reached
    forward = held.job.forward

    reads_stay : reads (program f r) f.tables x.job.reached ≡ reads (program f r) f.tables r.position
    reads_stay =
        subst (λ p. reads p f.tables x.job.reached ≡ reads p f.tables r.position) (sym is_program)
        (quiet x.job x.tables held.job f.tables size same x.job.reached forward (omega arith) ∙ ap (reads x.job.program f.tables) (sym here))

    writes_stay : writes (program f r) f.tables x.job.reached ≡ writes (program f r) f.tables r.position
    writes_stay =
        subst (λ p. writes p f.tables x.job.reached ≡ writes p f.tables r.position) (sym is_program)
        (quiet-writes x.job x.tables held.job f.tables size same x.job.reached forward (omega arith) ∙ ap (writes x.job.program f.tables) (sym here))

    each_stays : AllByRecursion (λ y. (reads_of f (moved_to r.number x.job.reached y) ≡ reads_of f y) × (writes_of f (moved_to r.number x.job.reached y) ≡ writes_of f y)) f.started
    each_stays =
        all-weaken (λ y. y.number ≡ r.number → y ≡ r) (λ y. (reads_of f (moved_to r.number x.job.reached y) ≡ reads_of f y) × (writes_of f (moved_to r.number x.job.reached y) ≡ writes_of f y))
        (λ y alone.
        cond_both {A = Started} (y.number == r.number) _ y (λ z. (reads_of f z ≡ reads_of f y) × (writes_of f z ≡ writes_of f y))
        (λ e. let one : y ≡ r = alone (eqb-true _ _ e) in rw one (reads_stay, writes_stay))
        (λ e. (refl, refl)))
        f.started (found-alone f.started x.job.number r h.right.rising found)

    lists_stay : map (λ (y : Started). y.shadows) (settle f.started (move_to r.number x.job.reached f)).started ≡ map (λ (y : Started). y.shadows) f.started
    lists_stay =
        map-map (λ (y : Started). y.shadows) (resettled f.started (move_to r.number x.job.reached f)) (map (moved_to r.number x.job.reached) f.started)
        ∙ map-map (λ y. (resettled f.started (move_to r.number x.job.reached f) y).shadows) (moved_to r.number x.job.reached) f.started
        ∙ map-agree (λ y. (resettled f.started (move_to r.number x.job.reached f) (moved_to r.number x.job.reached y)).shadows) (λ (y : Started). y.shadows) f.started
        (all-both (λ y. find_started f.started y.number ≡ Some y) (λ y. (wanted (move_to r.number x.job.reached f) (moved_to r.number x.job.reached y) ≡ wanted f y) × AllZip StandsFor y.shadows (wanted f y))
        (λ y. (resettled f.started (move_to r.number x.job.reached f) (moved_to r.number x.job.reached y)).shadows ≡ y.shadows)
        (λ y self b.
        rw (moved_to-number r.number x.job.reached y, self, b.0) (settle-untouched f y y h.right.rising b.1))
        f.started (found-self f.started h.right.rising)
        (all-both (λ y. wanted (move_to r.number x.job.reached f) (moved_to r.number x.job.reached y) ≡ wanted f y) (λ y. AllZip StandsFor y.shadows (wanted f y))
        (λ y. (wanted (move_to r.number x.job.reached f) (moved_to r.number x.job.reached y) ≡ wanted f y) × AllZip StandsFor y.shadows (wanted f y))
        (λ y a b. (a, b)) f.started (wanted-kept f (moved_to r.number x.job.reached) (moved_to-number r.number x.job.reached) each_stays) h.settled))

pub stored-lists : (f g : Forest) (x : Held) (r : Started) → IsSound f → IsHeld f x → find_started f.started x.job.number ≡ Some r → is_out_at x.job.from r.position r.out ≡ true → give f x.job ≡ Some g
    → map (λ (y : Started). y.shadows) g.started ≡ map (λ (y : Started). y.shadows) f.started
stored-lists f g x r h held found out e =
    either (cases_Bool (same_reads (reads (program f r) f.tables x.job.from) x.job.reads))
    (λ q.
    let some : Some (settle f.started (move_to r.number x.job.reached f)) ≡ Some g = rw (found, q, out) at e in
    let is : settle f.started (move_to r.number x.job.reached f) ≡ g = cc in
    let same : reads x.job.program f.tables x.job.from ≡ x.job.reads = subst (λ p. reads p f.tables x.job.from ≡ x.job.reads) held.program (is_stored f g x.job e).same in
    subst (λ y. map (λ (z : Started). z.shadows) y.started ≡ map (λ (z : Started). z.shadows) f.started) is (lists_stay f x r h held found out same))
    (λ q. let none : None ≡ Some g = rw (found, q) at e in cc)
