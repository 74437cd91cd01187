-- What a commit leaves of another transaction, in numbers and as states over the new tables.
use Rattle.std.proofs.Common.{◌≡◌, ◌≢◌, ℕ, suc, ◌≤◌, ◌<◌, ◌==◌, Bool, true, false, leb, List, [], ◌∷◌, map, filter, length, Option, Some, None, refl, ap, sym, subst, ◌∙◌, arith, true≢false, leb-true, eq-eqb}
use Rattle.std.specs.Prelude.{if◌then◌else◌}
use Rattle.std.specs.List.{AllByRecursion, AllZip}
use Rattle.std.proofs.lemmas.Bool.{cases_Bool, cond_both, ne_eqb}
use Rattle.block_rule.specs.declared.role.Origin.{Origin}
use Rattle.block_rule.specs.declared.role.Origin.TheVariants.{Keep, From, Fresh}
use Rattle.txn_runs.specs.Run.{Tables, Read, Writes, own, after}
use Rattle.txn_runs.specs.Serial.{has_ended, run_length, outcome_of, effect_of, over}
use Rattle.txn_runs.proofs.Shape.{after_reach}
use Rattle.txn_runs.specs.declared.program.Program.{Program}
use Rattle.txn_code.specs.declared.node.Node.{Node}
use Rattle.txn_code.specs.Nodes.{nodes_of}
use Rattle.journal_core.specs.declared.entry.Entry.{Entry}
use Rattle.journal_core.specs.Journal.{program_of}
use Rattle.forest_model.specs.Runs.{writes, is_done}
use Rattle.forest_model.specs.Point.{Conflict, is_changed, point}
use Rattle.forest_model.specs.Choose.{least}
use Rattle.forest_model.specs.Forest.{Shadow, Started, Forest, program, reads_of}
use Rattle.forest_model.specs.Cut.{survives, survivors, after_cut}
use Rattle.forest_model.specs.Origin.{placed_of, successor}
use Rattle.forest_model.specs.Sound.{StandsFor}
use Rattle.forest_model.specs.Events.{cut, resumes}
use Rattle.forest_model.proofs.Lists.{either, all-weaken}
use Rattle.forest_model.proofs.RestLaws.{IsApart}
use Rattle.forest_model.proofs.RunLaws.{reads-below, length-over, effect-done, effect-undone, ended-from_length}
use Rattle.forest_model.proofs.PointLaws.{all-point, after-survives}
use Rattle.shadow_state.specs.Bank.{Slot}
use Rattle.shadow_lanes.specs.Seats.{Waiter, Seat, conflict_of, conflicts_of, shadow_of, started_of, stays, promoted_by, promoted_seat}
use Rattle.shadow_forest.specs.declared.txn.Txn.{Txn}
use Rattle.shadow_forest.specs.Parts.{nodes_at, cut_seat, seat_cut, seat_after, back_to, taken_back}
use Rattle.shadow_forest.specs.Kept.{SlotStands, SeatStands}
use Rattle.shadow_forest.proofs.Seating.{promoted_numbers}
use Rattle.shadow_forest.proofs.Moving.{SameRuns, IsBehind, seat_moves, promoted_stands}
use Rattle.shadow_forest.proofs.Wanting.{reads_are, writes_are}

-- The one that is committed.

-- its optimistic state is that of its whole run
pub record IsWhole (p : Program) (d : Tables) (o : Slot) : Type 0 where
  pub stands : SlotStands p d o
  pub position : o.state.position ≡ run_length p d

pub whole_done : (p : Program) (d : Tables) (o : Slot) → IsWhole p d o → o.state.done ≡ true
whole_done p d o h = h.stands.done ∙ ap (λ n. has_ended (after p d n)) h.position ∙ ended-from_length p d (run_length p d) (omega arith)

pub whole_room : (p : Program) (d : Tables) (o : Slot) → IsWhole p d o → length d ≡ length o.state.writes
whole_room p d o h = sym (after_reach p d o.state.position).writes ∙ ap length (writes_are p d o h.stands)

-- where it is done, its writes are its effect
pub whole_effect : (p : Program) (d : Tables) (o : Slot) → IsWhole p d o → is_done (outcome_of p d) ≡ true → effect_of p d ≡ o.state.writes
whole_effect p d o h done = effect-done p d done ∙ ap (writes p d) (sym h.position) ∙ writes_are p d o h.stands

nothing_over : (ws : Writes) (d : Tables) → ((i : ℕ) → own ws i ≡ None) → over ws d ≡ d
nothing_over [] d h = nothing_written d
  where
    nothing_written : (xs : Tables) → over [] xs ≡ xs
    nothing_written [] = refl
    nothing_written (x ∷ xs) = refl
nothing_over (w ∷ ws) [] h = refl
nothing_over (w ∷ ws) (v ∷ d) h =
    let none : w ≡ None = h 0 in
    rw (none, nothing_over ws d (λ i. h (suc i))) refl

-- where it is not, the tables stay
pub undone_over : (p : Program) (d : Tables) → is_done (outcome_of p d) ≡ false → over (effect_of p d) d ≡ d
undone_over p d undone = nothing_over (effect_of p d) d (λ i. effect-undone p d i undone)

no_point : (rs : List Read) (ws : Writes) → ((i : ℕ) → own ws i ≡ None) → point rs ws ≡ None
no_point rs ws h = ap (λ (xs : List Read). least (map (λ (r : Read). r.0) xs)) (none rs)
  where
    none : (xs : List Read) → filter (is_changed ws) xs ≡ []
    none [] = refl
    none (x ∷ xs) = rw (h x.1) (none xs)

-- and none is cut
pub undone_cut : (f : Forest) (u r : Started) → is_done (outcome_of (program f u) f.tables) ≡ false → cut f u r ≡ None
undone_cut f u r undone = no_point (reads_of f r) (effect_of (program f u) f.tables) (λ i. effect-undone (program f u) f.tables i undone)

-- One of the others.

-- what is kept of it before the commit
pub record IsKeptSeat (journal : List Entry) (d : Tables) (r : Seat) : Type 0 where
  pub stands : SeatStands (program_of journal r.number) d r
  pub apart : IsApart (conflicts_of r)
  pub fits : AllZip StandsFor (map shadow_of r.waiters) (conflicts_of r)
  pub behind : IsBehind r

-- what is kept of it afterwards, over the tables e: x was cut down to y, and that is told
pub record IsCutTo (f : Forest) (u : Started) (e : Tables) (x y : Seat) (told : Option (ℕ × ℕ)) : Type 0 where
  pub number : y.number ≡ x.number
  pub started : started_of y ≡ after_cut (cut f u (started_of x)) (started_of x)
  pub stands : SeatStands (program_of f.journal x.number) e y
  pub apart : IsApart (conflicts_of y)
  pub fits : AllZip StandsFor (map shadow_of y.waiters) (conflicts_of y)
  pub told_is : resumes f u (started_of x) ≡ told

-- shadows that stand for what is wanted are behind the optimistic one
pub behind_of : (n : ℕ) (ws : List Waiter) (cs : List Conflict) → AllZip StandsFor (map shadow_of ws) cs → AllByRecursion (λ (c : Conflict). c.1 < n) cs
    → AllByRecursion (λ (w : Waiter). w.slot.state.position ≤ n) ws
behind_of n [] cs fits below = tt
behind_of n (w ∷ ws) [] fits below = absurd fits
behind_of n (w ∷ ws) (c ∷ cs) fits below = (let le : w.slot.state.position ≤ c.1 = fits.0.1 in let lt : c.1 < n = below.0 in omega arith, behind_of n ws cs fits.1 below.1)

all_survive : (ss : List Shadow) → survivors None ss ≡ ss
all_survive [] = refl
all_survive (s ∷ ss) = ap (λ xs. s ∷ xs) (all_survive ss)

apart_filter : (test : Waiter → Bool) (ws : List Waiter) → IsApart (map conflict_of ws) → IsApart (map conflict_of (filter test ws))
apart_filter test [] h = tt
apart_filter test (w ∷ ws) h =
    cond_both {A = List Waiter} (test w) (w ∷ filter test ws) (filter test ws) (λ xs. IsApart (map conflict_of xs))
    (λ e. (others ws h.0, apart_filter test ws h.1)) (λ e. apart_filter test ws h.1)
  where
    others : (xs : List Waiter) → AllByRecursion (λ (c : Conflict). w.guard ≢ c.0) (map conflict_of xs) → AllByRecursion (λ (c : Conflict). w.guard ≢ c.0) (map conflict_of (filter test xs))
    others [] all = tt
    others (x ∷ xs) all =
        cond_both {A = List Waiter} (test x) (x ∷ filter test xs) (filter test xs) (λ ys. AllByRecursion (λ (c : Conflict). w.guard ≢ c.0) (map conflict_of ys))
        (λ e. (all.0, others xs all.1)) (λ e. others xs all.1)

fits_filter : (test : Waiter → Bool) (ws : List Waiter) → AllZip StandsFor (map shadow_of ws) (map conflict_of ws) → AllZip StandsFor (map shadow_of (filter test ws)) (map conflict_of (filter test ws))
fits_filter test [] h = tt
fits_filter test (w ∷ ws) h =
    cond_both {A = List Waiter} (test w) (w ∷ filter test ws) (filter test ws) (λ xs. AllZip StandsFor (map shadow_of xs) (map conflict_of xs))
    (λ e. (h.0, fits_filter test ws h.1)) (λ e. fits_filter test ws h.1)

promoted_apart : (nodes : List Node) (items c : ℕ) (r : Seat) (o : Origin) → IsApart (conflicts_of r) → IsApart (conflicts_of (promoted_by o nodes items c r))
promoted_apart nodes items c r Keep h = h
promoted_apart nodes items c r (From heir) h = apart_filter (stays c heir) r.waiters h
promoted_apart nodes items c r Fresh h = tt

promoted_fits : (nodes : List Node) (items c : ℕ) (r : Seat) (o : Origin) → AllZip StandsFor (map shadow_of r.waiters) (conflicts_of r)
    → AllZip StandsFor (map shadow_of (promoted_by o nodes items c r).waiters) (conflicts_of (promoted_by o nodes items c r))
promoted_fits nodes items c r Keep h = h
promoted_fits nodes items c r (From heir) h = fits_filter (stays c heir) r.waiters h
promoted_fits nodes items c r Fresh h = tt

promoted_number : (nodes : List Node) (items c : ℕ) (r : Seat) (o : Origin) → (promoted_by o nodes items c r).number ≡ r.number
promoted_number nodes items c r Keep = refl
promoted_number nodes items c r (From heir) = refl
promoted_number nodes items c r Fresh = refl

-- what is told of a cut
abbrev told_by : Option ℕ → Started → Option (ℕ × ℕ)
told_by o r = if survives o r.position then None else Some (r.number, (after_cut o r).position)

told_past : (c : ℕ) (r : Started) → leb r.position c ≡ false → told_by (Some c) r ≡ Some (r.number, (after_cut (Some c) r).position)
told_past c r past =
    cond_both {A = Option (ℕ × ℕ)} (leb r.position c) None (Some (r.number, (after_cut (Some c) r).position)) (λ o. o ≡ Some (r.number, (after_cut (Some c) r).position))
    (λ q. absurd (true≢false (sym q ∙ past))) (λ q. refl)

module _ (f : Forest) (u : Started) (x : Seat) (items : ℕ) (nodes : List Node) (h : IsKeptSeat f.journal f.tables x) (size : items ≡ length f.tables) (code : nodes ≡ nodes_of (program_of f.journal x.number)) where
  same_runs : (o : Option ℕ) → cut f u (started_of x) ≡ o → SameRuns (program_of f.journal x.number) f.tables (over (effect_of (program f u) f.tables) f.tables) x.optimistic.state.position (λ q. survives o q)
  same_runs o e = record {
    size = length-over (effect_of (program f u) f.tables) f.tables;
    same = λ q le there.
        after-survives (program_of f.journal x.number) f.tables x.optimistic.state.position q (effect_of (program f u) f.tables) le (subst (λ k. survives k q ≡ true) (sym e) there);
  }

  -- a cut lies below the optimistic shadow
  past_cut : (c : ℕ) → cut f u (started_of x) ≡ Some c → leb x.optimistic.state.position c ≡ false
  past_cut c e =
      let below : c < x.optimistic.state.position =
      all-point (λ n. n < x.optimistic.state.position) (reads_of f (started_of x)) (effect_of (program f u) f.tables) c e
      (reads-below (program_of f.journal x.number) f.tables x.optimistic.state.position)
      in
      either (cases_Bool (leb x.optimistic.state.position c))
      (λ q. let le : x.optimistic.state.position ≤ c = leb-true _ _ q in absurd (omega arith))
      (λ q. q)

  cut_none : cut f u (started_of x) ≡ None → IsCutTo f u (over (effect_of (program f u) f.tables) f.tables) x x None
  cut_none e = record {
    number = refl;
    started = rw (e, all_survive (map shadow_of x.waiters)) refl;
    stands =
        seat_moves (program_of f.journal x.number) f.tables (over (effect_of (program f u) f.tables) f.tables) (λ q. survives None q) x (same_runs None e) h.behind (λ q. refl) h.stands;
    apart = h.apart;
    fits = h.fits;
    told_is = rw e refl;
  }

  cut_some : (c : ℕ) → cut f u (started_of x) ≡ Some c
      → IsCutTo f u (over (effect_of (program f u) f.tables) f.tables) x (promoted_seat nodes items c x) (Some (x.number, (promoted_seat nodes items c x).optimistic.state.position))
  cut_some c e =
      let past : leb x.optimistic.state.position c ≡ false = past_cut c e in
      let numbers : started_of (promoted_seat nodes items c x) ≡ after_cut (Some c) (started_of x) = promoted_numbers nodes items c x h.apart past in
      let size' : items ≡ length (over (effect_of (program f u) f.tables) f.tables) = size ∙ sym (length-over (effect_of (program f u) f.tables) f.tables) in
      record {
        number = promoted_number nodes items c x (successor (placed_of (started_of x)) c);
        started = numbers ∙ ap (λ o. after_cut o (started_of x)) (sym e);
        stands =
            promoted_stands (program_of f.journal x.number) f.tables (over (effect_of (program f u) f.tables) f.tables) nodes items c x code size' h.apart (same_runs (Some c) e) h.behind h.stands;
        apart = promoted_apart nodes items c x (successor (placed_of (started_of x)) c) h.apart;
        fits = promoted_fits nodes items c x (successor (placed_of (started_of x)) c) h.fits;
        told_is = ap (λ o. told_by o (started_of x)) e ∙ told_past c (started_of x) past ∙ ap (λ (n : ℕ). Some (x.number, n)) (ap (λ (r : Started). r.position) (sym numbers));
      }

  -- what a cut, if there is one, leaves
  pub cut_by : (o : Option ℕ) → cut f u (started_of x) ≡ o
      → IsCutTo f u (over (effect_of (program f u) f.tables) f.tables) x (cut_seat nodes items o x) (back_to x.number o (cut_seat nodes items o x))
  cut_by None e = cut_none e
  cut_by (Some c) e = cut_some c e

-- All.

-- each of the others was cut down, and that is told; of the one that is committed nothing is told
pub record AreCut (f : Forest) (u : Started) (e : Tables) (g : Seat → Seat) (told : Seat → Option (ℕ × ℕ)) (seats : List Seat) : Type 0 where
  pub number : (x : Seat) → (g x).number ≡ x.number
  pub others : AllByRecursion (λ (x : Seat). x.number ≢ u.number → IsCutTo f u e x (g x) (told x)) seats
  pub self : (x : Seat) → x.number ≡ u.number → told x ≡ None

pub cut_number : (nodes : List Node) (items : ℕ) (o : Option ℕ) (r : Seat) → (cut_seat nodes items o r).number ≡ r.number
cut_number nodes items None r = refl
cut_number nodes items (Some c) r = promoted_number nodes items c r (successor (placed_of (started_of r)) c)

-- what is kept of it, and its code
pub record IsCoded (items : ℕ) (kept : List Txn) (f : Forest) (r : Seat) : Type 0 where
  pub seat : IsKeptSeat f.journal f.tables r
  pub code : nodes_at kept r.number ≡ nodes_of (program_of f.journal r.number)

module _ (f : Forest) (items : ℕ) (kept : List Txn) (us : Seat) (seats : List Seat) (size : items ≡ length f.tables) (all : AllByRecursion (IsCoded items kept f) seats) where
  undone_one : is_done (outcome_of (program_of f.journal us.number) f.tables) ≡ false → (x : Seat) → IsCoded items kept f x
      → IsCutTo f (started_of us) (over (effect_of (program_of f.journal us.number) f.tables) f.tables) x x None
  undone_one undone x h = cut_by f (started_of us) x items (nodes_at kept x.number) h.seat size h.code None (undone_cut f (started_of us) (started_of x) undone)

  -- where the outcome is a failure none is cut
  pub undone_all : is_done (outcome_of (program_of f.journal us.number) f.tables) ≡ false → AreCut f (started_of us) (over (effect_of (program_of f.journal us.number) f.tables) f.tables) (λ x. x) (λ x. None) seats
  undone_all undone = record {
    number = λ x. refl;
    others =
        all-weaken (IsCoded items kept f) (λ (x : Seat). x.number ≢ us.number → IsCutTo f (started_of us) (over (effect_of (program_of f.journal us.number) f.tables) f.tables) x x None)
        (λ x h ne. undone_one undone x h) seats all;
    self = λ x same. refl;
  }

  same_cut : (x : Seat) → IsWhole (program_of f.journal us.number) f.tables us.optimistic → is_done (outcome_of (program_of f.journal us.number) f.tables) ≡ true → IsCoded items kept f x
      → cut f (started_of us) (started_of x) ≡ seat_cut us x
  same_cut x whole done h =
      ap (λ rs. point rs (effect_of (program_of f.journal us.number) f.tables)) (reads_are (program_of f.journal x.number) f.tables x.optimistic h.seat.stands.optimistic)
      ∙ ap (point x.optimistic.state.log.reads) (whole_effect (program_of f.journal us.number) f.tables us.optimistic whole done)

  done_one : IsWhole (program_of f.journal us.number) f.tables us.optimistic → is_done (outcome_of (program_of f.journal us.number) f.tables) ≡ true → (x : Seat) → IsCoded items kept f x → x.number ≢ us.number
      → IsCutTo f (started_of us) (over (effect_of (program_of f.journal us.number) f.tables) f.tables) x (seat_after items kept us x) (taken_back items kept us x)
  done_one whole done x h ne =
      let nodes = nodes_at kept x.number in
      let e : Tables = over (effect_of (program_of f.journal us.number) f.tables) f.tables in
      let o = seat_cut us x in
      let y = cut_seat nodes items o x in
      let apart : x.number == us.number ≡ false = ne_eqb _ _ ne in
      let after_is : seat_after items kept us x ≡ y = rw apart refl in
      let told_is : taken_back items kept us x ≡ back_to x.number o y = rw apart refl in
      let is : IsCutTo f (started_of us) e x y (back_to x.number o y) = cut_by f (started_of us) x items nodes h.seat size h.code o (same_cut x whole done h) in
      subst (λ z. IsCutTo f (started_of us) e x z (taken_back items kept us x)) (sym after_is)
      (subst (IsCutTo f (started_of us) e x y) (sym told_is) is)

  -- where it is not, the others are cut
  pub done_all : IsWhole (program_of f.journal us.number) f.tables us.optimistic → is_done (outcome_of (program_of f.journal us.number) f.tables) ≡ true
      → AreCut f (started_of us) (over (effect_of (program_of f.journal us.number) f.tables) f.tables) (seat_after items kept us) (taken_back items kept us) seats
  done_all whole done = record {
    number = λ x. cond_both {A = Seat} (x.number == us.number) x (cut_seat (nodes_at kept x.number) items (seat_cut us x) x) (λ y. y.number ≡ x.number) (λ e. refl) (λ e. cut_number (nodes_at kept x.number) items (seat_cut us x) x);
    others =
        all-weaken (IsCoded items kept f) (λ (x : Seat). x.number ≢ us.number → IsCutTo f (started_of us) (over (effect_of (program_of f.journal us.number) f.tables) f.tables) x (seat_after items kept us x) (taken_back items kept us x))
        (done_one whole done) seats all;
    self = λ x same. let e : x.number == us.number ≡ true = eq-eqb _ _ same in rw e refl;
  }
