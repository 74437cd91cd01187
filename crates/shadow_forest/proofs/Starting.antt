-- Who starts is who starts in numbers, and all is kept but the shadows that are wanted.
use Rattle.std.proofs.Common.{◌≡◌, ℕ, suc, ◌-◌, ◌≤◌, ◌==◌, Bool, true, false, not, ◌&&◌, ◌||◌, ltb, List, [], ◌∷◌, map, filter, filter_map, length, Option, Some, None, refl, ap, sym, subst, ◌∙◌, arith, eqb-true, eq-eqb, true≢false}
use Rattle.std.specs.List.{AllByRecursion, AllZip}
use Rattle.std.proofs.lemmas.Bool.{cases_Bool, cond_both, ne_eqb, and_parts, or_parts, not-true}
use Rattle.std.proofs.Math.Seq.{take-nil}
use Rattle.txn_runs.specs.Run.{Tables}
use Rattle.txn_code.specs.declared.node.Node.{Node}
use Rattle.journal_core.specs.Recorded.{Recorded}
use Rattle.journal_core.specs.Journal.{is_live, is_sealed, program_of, IsLegal}
use Rattle.forest_model.specs.Choose.{put_in_order, first_by, earlier_of}
use Rattle.forest_model.specs.Point.{Conflict, point, wanted_of}
use Rattle.forest_model.specs.Forest.{Started, Forest, conflict_at, against, wanted, writes_of, find_started, is_started}
use Rattle.forest_model.specs.Settle.{settled_shadows, settle}
use Rattle.forest_model.specs.Start.{fresh, start, waits, numbers, is_prior, first_waiting, next_to_start, start_some, start_waiting}
use Rattle.forest_model.specs.Sound.{IsSound, StandsFor}
use Rattle.forest_model.proofs.Lists.{either, all-weaken, filter-passes, length-map'}
use Rattle.forest_model.proofs.FirstLaws.{first_by-agree}
use Rattle.forest_model.proofs.RestLaws.{IsApart}
use Rattle.forest_model.proofs.RunLaws.{reads-zero}
use Rattle.forest_model.proofs.StartedLaws.{below, all-put, length-put, is_started-put, length-filter-le, all-first}
use Rattle.shadow_lanes.specs.Seats.{Seat, Seated, conflicts_of, shadow_of, started_of, find_seat, comes_before, fresh_seat}
use Rattle.shadow_forest.specs.declared.txn.Txn.{Txn}
use Rattle.shadow_forest.specs.Answers.{IsWithin}
use Rattle.shadow_forest.specs.Parts.{nodes_at, is_prior_at, next_of, seats_with_some, still_waiting}
use Rattle.shadow_forest.specs.Ready.{IsCarried}
use Rattle.shadow_forest.specs.Kept.{forest_of, SeatStands, AllStand, AreTxns, owed}
use Rattle.shadow_forest.proofs.Begun.{IsBegun, live_is_begun, is_carried}
use Rattle.shadow_forest.proofs.Seating.{fresh_stands}
use Rattle.shadow_forest.proofs.RenewedForest.{IsOld, IsUnsettled}

-- Lists.

-- without the first there is at least one less
first_gone : (before : ℕ → ℕ → Bool) (xs : List ℕ) (t : ℕ) → first_by before xs ≡ Some t → suc (length (filter (λ u. not (u == t)) xs)) ≤ length xs
first_gone before [] t h = cc
first_gone before (x ∷ xs) t h =
    let is : earlier_of before x (first_by before xs) ≡ t = cc in
    either (cases_Bool (x == t))
    (λ e. rw e (omega (arith, length-filter-le (λ u. not (u == t)) xs)))
    (λ e. rw e (let less : suc (length (filter (λ u. not (u == t)) xs)) ≤ length xs = first_gone before xs t (later (first_by before xs) is e) in omega (arith, less)))
  where
    later : (o : Option ℕ) → earlier_of before x o ≡ t → x == t ≡ false → o ≡ Some t
    later None is e = absurd (true≢false (sym (eq-eqb x t is) ∙ e))
    later (Some y) is e =
        either (cases_Bool (before y x))
        (λ q. let same : y ≡ t = rw q at is in ap Some same)
        (λ q. let same : x ≡ t = rw q at is in absurd (true≢false (sym (eq-eqb x t same) ∙ e)))

pub filter_twice : {X : Type 0} (p q r : X → Bool) → ((x : X) → (q x && p x) ≡ r x) → (xs : List X) → filter q (filter p xs) ≡ filter r xs
filter_twice p q r h [] = refl
filter_twice p q r h (x ∷ xs) =
    either (cases_Bool (p x))
    (λ e.
    either (cases_Bool (q x))
    (λ k. let t : r x ≡ true = sym (h x) ∙ rw (e, k) refl in rw (e, k, t) (ap (λ ys. x ∷ ys) (filter_twice p q r h xs)))
    (λ k. let t : r x ≡ false = sym (h x) ∙ rw (e, k) refl in rw (e, k, t) (filter_twice p q r h xs)))
    (λ e. let t : r x ≡ false = sym (h x) ∙ rw e (grind arith) in rw (e, t) (filter_twice p q r h xs))

-- one more in order, in numbers
put_numbers : (x : Seat) (xs : List Seat) → map started_of (put_in_order comes_before x xs) ≡ put_in_order below (started_of x) (map started_of xs)
put_numbers x [] = refl
put_numbers x (y ∷ ys) =
    either (cases_Bool (ltb y.number x.number))
    (λ e. rw e (ap (λ zs. started_of y ∷ zs) (put_numbers x ys)))
    (λ e. rw e refl)

-- who is not started has no seat
no_seat : (xs : List Seat) (t : ℕ) → is_started (map started_of xs) t ≡ false → find_seat xs t ≡ None
no_seat [] t h = refl
no_seat (x ∷ xs) t h =
    let parts : (x.number == t ≡ false) × (is_started (map started_of xs) t ≡ false) = or_parts _ _ h in
    rw parts.0 (no_seat xs t parts.1)

-- who has read nothing wants nothing
pub nothing_wanted : (f : Forest) (t : ℕ) → wanted f (fresh t) ≡ []
nothing_wanted f t = ap (λ pairs. wanted_of pairs f.k) (none f.started) ∙ take-nil (f.k - 1)
  where
    apart : (u : Started) → against f (fresh t) u ≡ None
    apart u =
        cond_both {A = Option Conflict} (u.number == t) None _ (λ o. o ≡ None) (λ e. refl)
        (λ e. ap (λ rs. conflict_at u.number (point rs (writes_of f u))) (reads-zero (program_of f.journal t) f.tables))

    none : (us : List Started) → filter_map (against f (fresh t)) us ≡ []
    none [] = refl
    none (u ∷ us) = rw (apart u) (none us)

-- who is started has its shadows, which stand for what it has noted, and is as it was before
pub record IsSelf (before : List Started) (r : Seat) : Type 0 where
  pub apart : IsApart (conflicts_of r)
  pub fits : AllZip StandsFor (map shadow_of r.waiters) (conflicts_of r)
  pub found : find_started before r.number ≡ Some (started_of r)

-- what the fields of a forest keep before one that waits may start
pub record IsUnstarted (journal : Recorded) (d : Tables) (kept : List Txn) (queue : List ℕ) (s : Seated) (before : List Started) : Type 0 where
  pub sound : IsSound (settle before (start_waiting (forest_of journal d s)))
  pub least : 1 ≤ s.most
  pub most : s.most ≤ 8
  pub items : s.items ≡ length d
  pub size : length d ≡ length journal.opening
  pub within : AllByRecursion (IsWithin s.items) journal.entries
  pub stand : AllStand journal.entries d s.seats
  pub each : AllByRecursion (IsSelf before) s.seats
  pub txns : AreTxns s.items journal.entries kept
  pub waiting : queue ≡ filter (waits (forest_of journal d s)) (numbers journal.entries)
  pub spare : owed (length s.seats) (length queue) (is_sealed journal.entries) ≤ journal.spare

legal_of : (before : List Started) (g : Forest) (o : Option ℕ) → IsSound (settle before (start_some o g)) → IsLegal g.opening g.journal
legal_of before g None h = h.right.legal
legal_of before g (Some t) h = h.right.legal

old_of : (before : List Started) (g : Forest) (r : Seat) → IsSelf before r → IsOld before g r
old_of before g r h = record { apart = h.apart; fits = h.fits; found = ap (λ o. settled_shadows o (wanted g (started_of r))) h.found }

new_old : (before : List Started) (g : Forest) (t : ℕ) (nodes : List Node) (items : ℕ) → IsOld before g (fresh_seat t nodes items)
new_old before g t nodes items =
    let none : wanted g (started_of (fresh_seat t nodes items)) ≡ [] = nothing_wanted g t in
    record {
      apart = tt;
      fits = tt;
      found =
          ap (settled_shadows (find_started before t)) none ∙ sym (ap (settled_shadows (Some (started_of (fresh_seat t nodes items)))) none);
    }

pub swapped : (t u : ℕ) → (t == u) ≡ (u == t)
swapped t u =
    either (cases_Bool (t == u))
    (λ e. e ∙ sym (eq-eqb u t (sym (eqb-true t u e))))
    (λ e. e ∙ sym (ne_eqb u t (λ q. true≢false (sym (eq-eqb t u (sym q)) ∙ e))))

-- who waits where one more is started
pub waits_less : (live a b : Bool) → (not a && (live && not b)) ≡ (live && not (a || b))
waits_less true true b = refl
waits_less true false b = refl
waits_less false true b = refl
waits_less false false b = refl

module _ (journal : Recorded) (d : Tables) (kept : List Txn) (queue : List ℕ) (s : Seated) (before : List Started) (h : IsUnstarted journal d kept queue s before) where
  begun_all : AllByRecursion (IsBegun s.items journal.entries kept) queue
  begun_all =
      subst (AllByRecursion (IsBegun s.items journal.entries kept)) (sym h.waiting)
      (all-weaken (λ t. waits (forest_of journal d s) t ≡ true) (IsBegun s.items journal.entries kept)
      (λ t w. live_is_begun journal.opening s.items journal.entries kept t (legal_of before (forest_of journal d s) (next_to_start (forest_of journal d s)) h.sound) h.txns (and_parts _ _ w).0)
      (filter (waits (forest_of journal d s)) (numbers journal.entries)) (filter-passes (waits (forest_of journal d s)) (numbers journal.entries)))

  -- those that wait are kept
  pub queue_carried : AllByRecursion (IsCarried s.items kept) queue
  queue_carried = all-weaken (IsBegun s.items journal.entries kept) (IsCarried s.items kept) (is_carried s.items journal.entries kept) queue begun_all

  -- and have no seat
  pub queue_apart : AllByRecursion (λ t. find_seat s.seats t ≡ None) queue
  queue_apart =
      subst (AllByRecursion (λ t. find_seat s.seats t ≡ None)) (sym h.waiting)
      (all-weaken (λ t. waits (forest_of journal d s) t ≡ true) (λ t. find_seat s.seats t ≡ None)
      (λ t w. no_seat s.seats t (not-true _ (and_parts _ _ w).1))
      (filter (waits (forest_of journal d s)) (numbers journal.entries)) (filter-passes (waits (forest_of journal d s)) (numbers journal.entries)))

  same_first : first_by (is_prior_at kept) queue ≡ first_waiting (forest_of journal d s)
  same_first =
      first_by-agree (IsBegun s.items journal.entries kept) (is_prior_at kept) (is_prior journal.entries) (λ x y of_x of_y. rw (of_x.deadline, of_y.deadline) refl) queue begun_all
      ∙ ap (first_by (is_prior journal.entries)) h.waiting

  -- the next is the next in numbers
  pub next_is : next_of kept (length s.seats) s.lanes queue ≡ next_to_start (forest_of journal d s)
  next_is = rw (length-map' started_of s.seats, same_first) refl

  started_forest : (o : Option ℕ) → forest_of journal d (record s { seats = seats_with_some kept s.items o s.seats }) ≡ start_some o (forest_of journal d s)
  started_forest None = refl
  started_forest (Some t) = ap (λ rs. record (forest_of journal d s) { started = rs }) (put_numbers (fresh_seat t (nodes_at kept t) s.items) s.seats)

  first_of : (t : ℕ) → next_of kept (length s.seats) s.lanes queue ≡ Some t → first_by (is_prior_at kept) queue ≡ Some t
  first_of t e =
      either (cases_Bool (ltb (length s.seats) s.lanes))
      (λ lane. rw lane at e)
      (λ none. let no : None ≡ Some t = rw none at e in cc)

  still : (t : ℕ) → filter (λ u. not (u == t)) queue ≡ filter (waits (start t (forest_of journal d s))) (numbers journal.entries)
  still t =
      ap (filter (λ u. not (u == t))) h.waiting
      ∙ filter_twice (waits (forest_of journal d s)) (λ u. not (u == t)) (waits (start t (forest_of journal d s)))
      (λ u.
      ap (λ b. not b && waits (forest_of journal d s) u) (swapped u t)
      ∙ waits_less (is_live journal.entries u) (t == u) (is_started (map started_of s.seats) u)
      ∙ ap (λ b. is_live journal.entries u && not b) (sym (is_started-put (fresh t) (map started_of s.seats) u)))
      (numbers journal.entries)

  start_at : (o : Option ℕ) → next_of kept (length s.seats) s.lanes queue ≡ o → IsUnsettled journal d kept (still_waiting o queue) (record s { seats = seats_with_some kept s.items o s.seats }) before
  start_at None e = record {
    sound = subst (λ o. IsSound (settle before (start_some o (forest_of journal d s)))) (sym next_is ∙ e) h.sound;
    least = h.least;
    most = h.most;
    items = h.items;
    size = h.size;
    within = h.within;
    stand = h.stand;
    each = all-weaken (IsSelf before) (IsOld before (forest_of journal d s)) (old_of before (forest_of journal d s)) s.seats h.each;
    txns = h.txns;
    waiting = h.waiting;
    spare = h.spare;
  }
  start_at (Some t) e =
      let g : Forest = forest_of journal d (record s { seats = seats_with_some kept s.items (Some t) s.seats }) in
      let is : g ≡ start t (forest_of journal d s) = started_forest (Some t) in
      let first : first_by (is_prior_at kept) queue ≡ Some t = first_of t e in
      let b : IsBegun s.items journal.entries kept t = all-first (IsBegun s.items journal.entries kept) (is_prior_at kept) queue t first begun_all in
      let less : suc (length (filter (λ u. not (u == t)) queue)) ≤ length queue = first_gone (is_prior_at kept) queue t first in
      let sound : IsSound (settle before (start t (forest_of journal d s))) = subst (λ o. IsSound (settle before (start_some o (forest_of journal d s)))) (sym next_is ∙ e) h.sound in
      record {
        sound = subst (λ f. IsSound (settle before f)) (sym is) sound;
        least = h.least;
        most = h.most;
        items = h.items;
        size = h.size;
        within = h.within;
        stand =
            all-put (λ (r : Seat). SeatStands (program_of journal.entries r.number) d r) comes_before (fresh_seat t (nodes_at kept t) s.items) s.seats
            (record { optimistic = fresh_stands (program_of journal.entries t) d (nodes_at kept t) s.items b.code h.items; waiters = tt }) h.stand;
        each =
            all-put (IsOld before g) comes_before (fresh_seat t (nodes_at kept t) s.items) s.seats (new_old before g t (nodes_at kept t) s.items)
            (all-weaken (IsSelf before) (IsOld before g) (old_of before g) s.seats h.each);
        txns = h.txns;
        waiting = still t ∙ ap (λ f. filter (waits f) (numbers journal.entries)) (sym is);
        spare = let room : owed (length s.seats) (length queue) (is_sealed journal.entries) ≤ journal.spare = h.spare in rw length-put (omega (arith, less, room));
      }

-- what the code makes of those that wait and of the seats: o starts
pub record IsFilled (kept : List Txn) (queue : List ℕ) (s : Seated) (o : Option ℕ) (queue' : List ℕ) (s' : Seated) : Type 0 where
  pub next : o ≡ next_of kept (length s.seats) s.lanes queue
  pub seats_are : s' ≡ record s { seats = seats_with_some kept s.items o s.seats }
  pub queue_is : queue' ≡ still_waiting o queue

pub filled_keeps : (journal : Recorded) (d : Tables) (kept : List Txn) (queue : List ℕ) (s : Seated) (before : List Started) (o : Option ℕ) (queue' : List ℕ) (s' : Seated) → IsUnstarted journal d kept queue s before
    → IsFilled kept queue s o queue' s' → IsUnsettled journal d kept queue' s' before
filled_keeps journal d kept queue s before o queue' s' h is = rw (is.seats_are, is.queue_is) (start_at journal d kept queue s before h o (sym is.next))

pub filled_forest : (journal : Recorded) (d : Tables) (kept : List Txn) (queue : List ℕ) (s : Seated) (before : List Started) (o : Option ℕ) (queue' : List ℕ) (s' : Seated) → IsUnstarted journal d kept queue s before
    → IsFilled kept queue s o queue' s' → forest_of journal d s' ≡ start_waiting (forest_of journal d s)
filled_forest journal d kept queue s before o queue' s' h is =
    ap (forest_of journal d) is.seats_are ∙ started_forest journal d kept queue s before h o ∙ ap (λ p. start_some p (forest_of journal d s)) (is.next ∙ next_is journal d kept queue s before h)
