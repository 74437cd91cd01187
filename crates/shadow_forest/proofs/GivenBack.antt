-- A job that is given back.
use Rattle.std.proofs.Common.{◌≡◌, ℕ, zero, suc, ◌+◌, ◌-◌, ◌≤◌, ◌<◌, ◌==◌, Bool, true, false, List, [], ◌∷◌, length, map, Option, Some, None, refl, ap, sym, subst, ◌∙◌, arith, eqb-true, zero-add, suc-add}
use Rattle.std.specs.Prelude.{IfSome, if◌then◌else◌}
use Rattle.std.specs.List.{AllByRecursion}
use Rattle.std.proofs.lemmas.Bool.{cases_Bool, cond_both}
use Rattle.txn_runs.specs.Run.{Tables, Running, after}
use Rattle.txn_runs.specs.Serial.{has_ended}
use Rattle.txn_runs.specs.declared.program.Program.{Program}
use Rattle.txn_runs.specs.declared.program.Stmt.{Stmt}
use Rattle.txn_code.specs.Nodes.{nodes_of}
use Rattle.txn_code.proofs.Alike.{nodes_tell}
use Rattle.txn_interp.specs.State.{Held, Is, RunsOver}
use Rattle.journal_core.specs.Recorded.{Recorded}
use Rattle.journal_core.specs.Journal.{program_of}
use Rattle.journal_core.proofs.Legal.{begun-live}
use Rattle.forest_model.specs.Runs.{reads, writes, is_local}
use Rattle.forest_model.specs.Forest.{Shadow, Started, Forest, program, reads_of, writes_of, wanted}
use Rattle.forest_model.specs.Settle.{resettled, settle}
use Rattle.forest_model.specs.Events.{moved_to, move_to, give_shadows}
use Rattle.forest_model.specs.Jobs.{Job, IsJobOver, same_reads, is_out_at, put_found, moved, stored_in, given, give}
use Rattle.forest_model.specs.World.{IsHeld}
use Rattle.forest_model.specs.Sound.{IsSound}
use Rattle.forest_model.proofs.Lists.{either, all-map, all-weaken, all-both}
use Rattle.forest_model.proofs.StartedLaws.{found-alone}
use Rattle.forest_model.proofs.StepLaws.{moved_to-number}
use Rattle.forest_model.proofs.RunLaws.{local-reads}
use Rattle.forest_model.proofs.GiveLaws.{same_reads-true, job-lands, quiet, quiet-writes, is_out_at-position, give-sound}
use Rattle.forest_model.proofs.StoreLaws.{wanted-kept, stored-lists}
use Rattle.shadow_state.specs.Bank.{Slot, at_place}
use Rattle.shadow_lanes.specs.Seats.{Waiter, Seat, Seated, conflicts_of, shadow_of, started_of, stepped_slot, slots_of, waiter_with, seat_with}
use Rattle.indexed_lanes.specs.Noted.{HasSameLists}
use Rattle.shadow_forest.specs.declared.txn.Txn.{Txn}
use Rattle.shadow_forest.specs.Bench.{Outside, job_of, IsOutside, takes}
use Rattle.shadow_forest.specs.Parts.{further_slot, first_place}
use Rattle.shadow_forest.specs.Kept.{forest_of, SlotStands, SeatStands, IsForest}
use Rattle.shadow_forest.proofs.Keeping.{at_number, at_number_keeps, place_is_number, changed}
use Rattle.shadow_forest.proofs.Placing.{IsAt}
use Rattle.shadow_forest.proofs.SettledForest.{all_unmapped}
use Rattle.shadow_forest.proofs.Stepping.{IsWaitStep, stepped_shadows, wait_seats, wait_forest, wait_change}

-- Lists.

never-first : (o : Option ℕ) → further_slot o ≡ Some 0 → ⊥
never-first None e = cc
never-first (Some n) e = cc

one-less : (o : Option ℕ) (n : ℕ) → further_slot o ≡ Some (suc n) → o ≡ Some n
one-less None n e = cc
one-less (Some m) n e = cc

never-later : (n : ℕ) → Some 0 ≡ Some (suc n) → ⊥
never-later n e = cc

further-none : (o : Option ℕ) → further_slot o ≡ None → o ≡ None
further-none None e = refl
further-none (Some n) e = cc

all-fail : {X : Type 0} (test : X → Bool) (xs : List X) → AllByRecursion (λ x. test x ≡ false) xs → first_place test xs ≡ None
all-fail test [] h = refl
all-fail test (x ∷ xs) h = rw (h.0, all-fail test xs h.1) refl

-- a change of lists that leaves them all changes nothing
unsettled : (g : Started → Started) → ((y : Started) → g y ≡ record y { shadows = (g y).shadows }) → (xs : List Started)
    → map (λ (y : Started). y.shadows) (map g xs) ≡ map (λ (y : Started). y.shadows) xs → map g xs ≡ xs
unsettled g each [] e = refl
unsettled g each (x ∷ xs) e =
    let head : (g x).shadows ≡ x.shadows = cc in
    let tail : map (λ (y : Started). y.shadows) (map g xs) ≡ map (λ (y : Started). y.shadows) xs = cc in
    let same : g x ≡ x = each x ∙ ap (λ ss. with_shadows x ss) head in
    λ i. same i ∷ unsettled g each xs tail i
  where
    with_shadows : Started → List Shadow → Started
    with_shadows y ss = record y { shadows = ss }

moved-shadows : (t q : ℕ) (xs : List Started) → map (λ (y : Started). y.shadows) (map (moved_to t q) xs) ≡ map (λ (y : Started). y.shadows) xs
moved-shadows t q [] = refl
moved-shadows t q (x ∷ xs) =
    let here : (moved_to t q x).shadows ≡ x.shadows = cond_both {A = Started} (x.number == t) (record x { position = q; out = false }) x (λ y. y.shadows ≡ x.shadows) (λ e. refl) (λ e. refl) in
    λ i. here i ∷ moved-shadows t q xs i

-- the state outside, as its bench has it
abbrev pub it : Recorded → ℕ → ℕ → Held → Outside
it journal t from st = record { number = t; from = from; nodes = nodes_of (program_of journal.entries t); state = st }

module _ (journal : Recorded) (d : Tables) (kept : List Txn) (queue : List ℕ) (s : Seated) (at t : ℕ) (r : Started) (from : ℕ) (st : Held) (h : IsForest journal d kept queue s)
    (a : IsAt journal d kept s at t r) (o : IsOutside (it journal t from st)) (room : st.log.room ≡ length d) where
  abbrev f : Forest
  f = forest_of journal d s

  abbrev p : Program
  p = program_of journal.entries t

  abbrev job : Job
  job = job_of p (it journal t from st)

  abbrev same : Bool
  same = same_reads (reads p d from) st.log.reads

  abbrev test : Slot → Bool
  test = takes from st.log.reads

  number_is : r.number ≡ t
  number_is = ap (λ (x : Started). x.number) (sym a.is) ∙ a.number

  -- The job is one over the tables of its run.

  body_is : o.body ≡ p
  body_is = sym (nodes_tell p o.body o.over.code)

  over_p : RunsOver (nodes_of p) p o.tables st
  over_p = subst (λ (b : List Stmt). RunsOver (nodes_of p) b o.tables st) body_is o.over

  local_p : (n : ℕ) → from ≤ n → n < st.position → is_local (after p o.tables n) ≡ true
  local_p n low high = subst (λ (b : List Stmt). is_local (after b o.tables n) ≡ true) body_is (o.local n low high)

  reads_stay : (k : ℕ) → k + from ≤ st.position → reads p o.tables (k + from) ≡ reads p o.tables from
  reads_stay zero le = rw zero-add refl
  reads_stay (suc k) le = rw suc-add (local-reads p o.tables (k + from) (local_p (k + from) (omega arith) (omega arith)) ∙ reads_stay k (omega arith))

  seen : st.log.reads ≡ reads p o.tables from
  seen =
      let forward : from ≤ st.position = o.forward in
      let is : (st.position - from) + from ≡ st.position = omega arith in
      sym (ap (λ (x : Running). x.reads) over_p.is.is) ∙ subst (λ n. reads p o.tables n ≡ reads p o.tables from) is (reads_stay (st.position - from) (omega arith))

  over_job : IsJobOver o.tables job
  over_job = record { forward = o.forward; seen = seen; local = local_p }

  size : length d ≡ length o.tables
  size = sym room ∙ sym o.over.items

  held : IsHeld f (record { job = job; tables = o.tables })
  held = record { begun = begun-live journal.entries t a.live; program = refl; size = sym size ∙ h.size; job = over_job }

  sound_after : IfSome (give f job) IsSound
  sound_after = give-sound f job o.tables refl over_job (sym size) h.sound

  -- Which slots take it.

  reads_there : (x : Slot) → SlotStands p d x → x.state.position ≡ from → x.state.log.reads ≡ reads p d from
  reads_there x stands e = sym (ap (λ (y : Running). y.reads) stands.is.is) ∙ ap (reads p d) e

  test_out : (x : Slot) → SlotStands p d x → same ≡ true → test x ≡ is_out_at from x.state.position x.out
  test_out x stands e =
      either (cases_Bool (is_out_at from x.state.position x.out))
      (λ out. rw out (ap (λ xs. same_reads xs st.log.reads) (reads_there x stands (is_out_at-position from x.state.position x.out out)) ∙ e))
      (λ not_out. rw not_out refl)

  test_none : (x : Slot) → SlotStands p d x → same ≡ false → test x ≡ false
  test_none x stands e =
      either (cases_Bool (is_out_at from x.state.position x.out))
      (λ out. rw out (ap (λ xs. same_reads xs st.log.reads) (reads_there x stands (is_out_at-position from x.state.position x.out out)) ∙ e))
      (λ not_out. rw not_out refl)

  slots_stand : AllByRecursion (SlotStands p d) (slots_of a.seat)
  slots_stand = (a.stands.optimistic, all-map (SlotStands p d) (λ (w : Waiter). w.slot) a.seat.waiters a.stands.waiters)

  waiters_none : same ≡ true → (ws : List Waiter) → AllByRecursion (λ (w : Waiter). SlotStands p d w.slot) ws → first_place test (map (λ (w : Waiter). w.slot) ws) ≡ None → moved from st.position (map shadow_of ws) ≡ None
  waiters_none e [] all none = refl
  waiters_none e (w ∷ ws) all none =
      either (cases_Bool (test w.slot))
      (λ yes. let no : Some 0 ≡ None = rw yes at none in cc)
      (λ no.
      let out : is_out_at from w.slot.state.position w.slot.out ≡ false = sym (test_out w.slot all.0 e) ∙ no in
      let rest : further_slot (first_place test (map (λ (x : Waiter). x.slot) ws)) ≡ None = rw no at none in
      rw (out, waiters_none e ws all.1 (further-none _ rest)) refl)

  waiters_some : same ≡ true → (ws : List Waiter) (n : ℕ) → AllByRecursion (λ (w : Waiter). SlotStands p d w.slot) ws → first_place test (map (λ (w : Waiter). w.slot) ws) ≡ Some n
      → moved from st.position (map shadow_of ws) ≡ Some (map shadow_of (at_place n (waiter_with (stepped_slot st)) ws))
  waiters_some e [] n all some = cc
  waiters_some e (w ∷ ws) zero all some =
      either (cases_Bool (test w.slot))
      (λ yes. let out : is_out_at from w.slot.state.position w.slot.out ≡ true = sym (test_out w.slot all.0 e) ∙ yes in rw out refl)
      (λ no. let later : further_slot (first_place test (map (λ (x : Waiter). x.slot) ws)) ≡ Some 0 = rw no at some in absurd (never-first _ later))
  waiters_some e (w ∷ ws) (suc n) all some =
      either (cases_Bool (test w.slot))
      (λ yes. let first : Some 0 ≡ Some (suc n) = rw yes at some in absurd (never-later n first))
      (λ no.
      let out : is_out_at from w.slot.state.position w.slot.out ≡ false = sym (test_out w.slot all.0 e) ∙ no in
      let later : further_slot (first_place test (map (λ (x : Waiter). x.slot) ws)) ≡ Some (suc n) = rw no at some in
      rw out (ap (put_found (shadow_of w)) (waiters_some e ws n all.1 (one-less _ n later))))

  -- What is given, in numbers.

  program_is : program f r ≡ p
  program_is = ap (program_of journal.entries) number_is

  give_same : same ≡ true → give f job ≡ (if is_out_at from r.position r.out then Some (settle f.started (move_to r.number st.position f)) else stored_in f r (moved from st.position r.shadows))
  give_same e =
      let here : same_reads (reads (program f r) f.tables from) st.log.reads ≡ true = ap (λ q. same_reads (reads q d from) st.log.reads) program_is ∙ e in
      ap (given f job) a.found ∙ rw here refl

  give_none : same ≡ false → give f job ≡ None
  give_none e =
      let here : same_reads (reads (program f r) f.tables from) st.log.reads ≡ false = ap (λ q. same_reads (reads q d from) st.log.reads) program_is ∙ e in
      ap (given f job) a.found ∙ rw here refl

  -- no slot takes it
  pub gone : None ≡ first_place test (slots_of a.seat) → give f job ≡ None
  gone none =
      either (cases_Bool same)
      (λ e.
      either (cases_Bool (test a.seat.optimistic))
      (λ yes. let no : None ≡ Some 0 = rw yes at none in cc)
      (λ no.
      let out : is_out_at from r.position r.out ≡ false = subst (λ (y : Started). is_out_at from y.position y.out ≡ false) a.is (sym (test_out a.seat.optimistic a.stands.optimistic e) ∙ no) in
      let rest : None ≡ further_slot (first_place test (map (λ (x : Waiter). x.slot) a.seat.waiters)) = rw no at none in
      let all : moved from st.position r.shadows ≡ None = subst (λ (y : Started). moved from st.position y.shadows ≡ None) a.is (waiters_none e a.seat.waiters a.stands.waiters (further-none _ (sym rest))) in
      give_same e ∙ rw (out, all) refl))
      (λ e. give_none e)

  -- A slot takes it.

  -- the tables of now have what the job has read
  present : same ≡ true → reads p d from ≡ st.log.reads
  present e = same_reads-true _ _ e

  lands : same ≡ true → SlotStands p d (record { state = st; out = false })
  lands e =
      let run : after p o.tables st.position ≡ after p d st.position = job-lands job o.tables over_job d size (present e) in
      record { code = refl; items = sym room; is = subst (Is (nodes_of p) st) run over_p.is; done = over_p.done ∙ ap has_ended run }

  -- up to where it has come, the run of now makes the same steps
  present_job : same ≡ true → IsJobOver d job
  present_job e = record {
    forward = o.forward;
    seen = sym (present e);
    local =
        λ n low high.
        let part : IsJobOver o.tables (record job { reached = n }) = record { forward = low; seen = seen; local = λ m ge lt. local_p m ge (omega (arith, lt, high)) } in
        subst (λ (y : Running). is_local y ≡ true) (job-lands (record job { reached = n }) o.tables part d size (present e)) (local_p n low high);
  }

  -- the transactions after the slot has taken it
  abbrev pub after_it : ℕ → Seated
  after_it slot = record s { seats = at_place at (seat_with slot (stepped_slot st)) s.seats }

  pub record IsStored (slot : ℕ) : Type 0 where
    pub all : IsForest journal d kept queue (after_it slot)
    pub gives : give f job ≡ Some (forest_of journal d (after_it slot))
    pub run : SlotStands p d (record { state = st; out = false })
    pub over : IsJobOver d job
    pub lists : slot ≡ 0 → HasSameLists a.seat.optimistic.state st

  -- A shadow that waits.

  waits_sound : (n : ℕ) → give f job ≡ Some (give_shadows a.seat.number (stepped_shadows a.seat n st) f) → IsSound (give_shadows a.seat.number (stepped_shadows a.seat n st) f)
  waits_sound n e = subst (λ (x : Option Forest). IfSome x IsSound) e sound_after

  wait_stored : same ≡ true → (n : ℕ) → give f job ≡ Some (give_shadows a.seat.number (stepped_shadows a.seat n st) f) → IsStored (suc n)
  wait_stored e n gives =
      let step : IsWaitStep journal d s at a.seat n st =
      record { rising = a.rising; there = a.there; stands = subst (λ m. SlotStands (program_of journal.entries m) d (record { state = st; out = false })) (sym a.number) (lands e) }
      in
      let numbers : forest_of journal d (after_it (suc n)) ≡ give_shadows a.seat.number (stepped_shadows a.seat n st) f =
      ap (λ (xs : List Seat). forest_of journal d (record s { seats = xs })) (wait_seats journal d s at a.seat n st step) ∙ wait_forest journal d s at a.seat n st step
      in
      record {
        all = wait_change journal d kept queue s at a.seat n st step h (waits_sound n gives);
        gives = gives ∙ ap (λ g. Some g) (sym numbers);
        run = lands e;
        over = present_job e;
        lists = λ is. absurd (grind (arith, is));
      }

  -- The optimistic one.

  abbrev mid : Seat → Seat
  mid = at_number t (seat_with zero (stepped_slot st))

  abbrev moves : Started → Started
  moves = moved_to t st.position

  mid_is : (x : Seat) → started_of (mid x) ≡ moves (started_of x)
  mid_is x = either (cases_Bool (x.number == t)) (λ e. rw e refl) (λ e. rw e refl)

  mid_all : (xs : List Seat) → map started_of (map mid xs) ≡ map moves (map started_of xs)
  mid_all [] = refl
  mid_all (x ∷ xs) = rw (mid_is x, mid_all xs) refl

  mid_forest : forest_of journal d (record s { seats = map mid s.seats }) ≡ move_to t st.position f
  mid_forest = ap (λ (rs : List Started). with_started rs) (mid_all s.seats)
    where
      with_started : List Started → Forest
      with_started rs = record f { started = rs }

  mid_seats : at_place at (seat_with zero (stepped_slot st)) s.seats ≡ map mid s.seats
  mid_seats = place_is_number s.seats at a.seat (seat_with zero (stepped_slot st)) a.rising a.there ∙ ap (λ n. map (at_number n (seat_with zero (stepped_slot st))) s.seats) a.number

  module _ (e : same ≡ true) (out : is_out_at from r.position r.out ≡ true) where
    gives_settled : give f job ≡ Some (settle f.started (move_to t st.position f))
    gives_settled = give_same e ∙ (rw out refl ∙ ap (λ n. Some (settle f.started (move_to n st.position f))) number_is)

    -- settling changes nothing
    quiet_settle : settle f.started (move_to t st.position f) ≡ move_to t st.position f
    quiet_settle =
        let lists = stored-lists f (settle f.started (move_to t st.position f)) (record { job = job; tables = o.tables }) r h.sound held a.found out gives_settled in
        ap (λ (rs : List Started). with_started rs) (unsettled (resettled f.started (move_to t st.position f)) (λ y. refl) (map moves f.started) (lists ∙ sym (moved-shadows t st.position f.started)))
      where
        with_started : List Started → Forest
        with_started rs = record f { started = rs }

    sound_moved : IsSound (move_to t st.position f)
    sound_moved = subst IsSound quiet_settle (subst (λ (x : Option Forest). IfSome x IsSound) gives_settled sound_after)

    here : r.position ≡ from
    here = is_out_at-position from r.position r.out out

    same_reads_of : reads p d st.position ≡ reads p d r.position
    same_reads_of = quiet job o.tables over_job d size (present e) st.position o.forward (omega arith) ∙ ap (reads p d) (sym here)

    same_writes_of : writes p d st.position ≡ writes p d r.position
    same_writes_of = quiet-writes job o.tables over_job d size (present e) st.position o.forward (omega arith) ∙ ap (writes p d) (sym here)

    -- nobody has read or written anything else
    each_stays : AllByRecursion (λ (y : Started). (reads_of f (moves y) ≡ reads_of f y) × (writes_of f (moves y) ≡ writes_of f y)) f.started
    each_stays =
        all-weaken (λ (y : Started). y.number ≡ r.number → y ≡ r) (λ (y : Started). (reads_of f (moves y) ≡ reads_of f y) × (writes_of f (moves y) ≡ writes_of f y))
        (λ y only.
        either (cases_Bool (y.number == t))
        (λ q.
        let is : y ≡ r = only (eqb-true _ _ q ∙ sym number_is) in
        let of_p : program f y ≡ p = ap (program_of journal.entries) (eqb-true _ _ q) in
        let stood : r.position ≡ y.position = ap (λ (z : Started). z.position) (sym is) in
        rw q (
          (ap (λ b. reads b d st.position) of_p ∙ (same_reads_of ∙ (ap (reads p d) stood ∙ ap (λ b. reads b d y.position) (sym of_p)))),
          (ap (λ b. writes b d st.position) of_p ∙ (same_writes_of ∙ (ap (writes p d) stood ∙ ap (λ b. writes b d y.position) (sym of_p)))),
        ))
        (λ q. rw q (refl, refl)))
        f.started (found-alone f.started t r h.sound.right.rising a.found)

    wants_kept : AllByRecursion (λ (x : Seat). wanted (move_to t st.position f) (moves (started_of x)) ≡ wanted f (started_of x)) s.seats
    wants_kept = all_unmapped (λ (y : Started). wanted (move_to t st.position f) (moves y) ≡ wanted f y) started_of s.seats (wanted-kept f moves (moved_to-number t st.position) each_stays)

    mid_conflicts : (x : Seat) → conflicts_of (mid x) ≡ conflicts_of x
    mid_conflicts x = cond_both {A = Seat} (x.number == t) (seat_with zero (stepped_slot st) x) x (λ y. conflicts_of y ≡ conflicts_of x) (λ q. refl) (λ q. refl)

    mid_stands : (x : Seat) → SeatStands (program_of journal.entries x.number) d x → SeatStands (program_of journal.entries (mid x).number) d (mid x)
    mid_stands x old =
        either (cases_Bool (x.number == t))
        (λ q. rw q (record { optimistic = subst (λ n. SlotStands (program_of journal.entries n) d (record { state = st; out = false })) (sym (eqb-true _ _ q)) (lands e); waiters = old.waiters }))
        (λ q. rw q old)

    mid_kept : IsForest journal d kept queue (record s { seats = map mid s.seats })
    mid_kept =
        changed journal d kept queue s mid
        (record {
          same_number = at_number_keeps t (seat_with zero (stepped_slot st)) (λ x. refl);
          sound = subst IsSound (sym mid_forest) sound_moved;
          stand = all-weaken (λ (x : Seat). SeatStands (program_of journal.entries x.number) d x) (λ (x : Seat). SeatStands (program_of journal.entries (mid x).number) d (mid x)) mid_stands s.seats h.stand;
          noted =
              all-both (λ (x : Seat). conflicts_of x ≡ wanted f (started_of x)) (λ (x : Seat). wanted (move_to t st.position f) (moves (started_of x)) ≡ wanted f (started_of x))
              (λ (x : Seat). conflicts_of (mid x) ≡ wanted (forest_of journal d (record s { seats = map mid s.seats })) (started_of (mid x)))
              (λ x noted wants.
              mid_conflicts x ∙ (noted ∙ (sym wants ∙ (ap (λ g. wanted g (moves (started_of x))) (sym mid_forest) ∙ ap (wanted (forest_of journal d (record s { seats = map mid s.seats }))) (sym (mid_is x))))))
              s.seats h.noted wants_kept;
        })
        h

    first_stored : IsStored 0
    first_stored = record {
      all = subst (λ (xs : List Seat). IsForest journal d kept queue (record s { seats = xs })) (sym mid_seats) mid_kept;
      gives =
          gives_settled
          ∙ ap (λ g. Some g) (quiet_settle ∙ (sym mid_forest ∙ ap (λ (xs : List Seat). forest_of journal d (record s { seats = xs })) (sym mid_seats)));
      run = lands e;
      over = present_job e;
      lists = λ is. record {
        reads = sym (ap (λ (x : Running). x.reads) (lands e).is.is) ∙ same_reads_of ∙ ap (reads p d) stood ∙ ap (λ (x : Running). x.reads) a.stands.optimistic.is.is;
        writes = sym (ap (λ (x : Running). x.writes) (lands e).is.is) ∙ same_writes_of ∙ ap (writes p d) stood ∙ ap (λ (x : Running). x.writes) a.stands.optimistic.is.is;
      };
    }
      where
        stood : r.position ≡ a.seat.optimistic.state.position
        stood = ap (λ (y : Started). y.position) (sym a.is)

  -- the first slot that takes it has stored it
  pub stored : (slot : ℕ) → Some slot ≡ first_place test (slots_of a.seat) → IsStored slot
  stored slot some =
      either (cases_Bool same)
      (λ e.
      either (cases_Bool (test a.seat.optimistic))
      (λ yes.
      let out : is_out_at from r.position r.out ≡ true = subst (λ (y : Started). is_out_at from y.position y.out ≡ true) a.is (sym (test_out a.seat.optimistic a.stands.optimistic e) ∙ yes) in
      let first : Some slot ≡ Some 0 = rw yes at some in
      let zero_is : 0 ≡ slot = cc in
      subst IsStored zero_is (first_stored e out))
      (λ no.
      let out : is_out_at from r.position r.out ≡ false = subst (λ (y : Started). is_out_at from y.position y.out ≡ false) a.is (sym (test_out a.seat.optimistic a.stands.optimistic e) ∙ no) in
      let later : Some slot ≡ further_slot (first_place test (map (λ (x : Waiter). x.slot) a.seat.waiters)) = rw no at some in
      waits e out slot (sym later)))
      (λ e.
      let none : first_place test (slots_of a.seat) ≡ None = all-fail test (slots_of a.seat) (all-weaken (SlotStands p d) (λ x. test x ≡ false) (λ x stands. test_none x stands e) (slots_of a.seat) slots_stand) in
      let no : Some slot ≡ None = some ∙ none in
      cc)
    where
      waits : same ≡ true → is_out_at from r.position r.out ≡ false → (slot : ℕ) → further_slot (first_place test (map (λ (x : Waiter). x.slot) a.seat.waiters)) ≡ Some slot → IsStored slot
      waits e out zero later = absurd (never-first _ later)
      waits e out (suc n) later =
          let all : moved from st.position r.shadows ≡ Some (stepped_shadows a.seat n st) =
          subst (λ (y : Started). moved from st.position y.shadows ≡ Some (stepped_shadows a.seat n st)) a.is (waiters_some e a.seat.waiters n a.stands.waiters (one-less _ n later))
          in
          wait_stored e n
          (give_same e ∙ (rw (out, all) refl ∙ ap (λ m. Some (give_shadows m (stepped_shadows a.seat n st) f)) (number_is ∙ sym a.number)))
