-- What a read changes of what its transaction wants.
use Rattle.std.specs.Prelude.{◌≡◌, ◌<◌, min, ℕ, length, if◌then◌else◌, List, [], ◌∷◌, ◌++◌, is_some, slice_get, Option, None, Some}
use Rattle.std.specs.List.{AllByRecursion}
use Rattle.std.proofs.Common.{refl, sym, ap, ap₂, subst, arith, ◌∙◌, inr}
use Rattle.std.proofs.lemmas.Bool.{cases_Bool, cond_both}
use Rattle.std.proofs.lemmas.Option.{same_Some}
use Rattle.txn_runs.specs.Run.{Tables, Read, Writes, own, stored}
use Rattle.txn_runs.specs.declared.kind.Kind.TheVariants.{TableRead}
use Rattle.txn_code.specs.declared.node.Node.{Node}
use Rattle.txn_interp.specs.State.{Held}
use Rattle.txn_interp.specs.Kind.{HasKind}
use Rattle.forest_model.specs.Choose.{less_or}
use Rattle.forest_model.specs.Point.{Conflict, is_changed, point, wanted_of}
use Rattle.forest_model.specs.Runs.{reads}
use Rattle.forest_model.proofs.Lists.{either}
use Rattle.forest_model.proofs.RunLaws.{reads-below}
use Rattle.shadow_state.specs.Bank.{Slot, at_place}
use Rattle.shadow_state.proofs.Places.{length_at, get_same, at_twice, all_get}
use Rattle.shadow_lanes.specs.Seats.{Seat, Seated, IsSeat, AreSeats, slot_at, seat_with, stepped_slot, StepsOver}
use Rattle.conflict_index.specs.Index.{Lane, Index, lane_at, lanes_with, with_read}
use Rattle.index_laws.specs.Noted.{lane_of_run}
use Rattle.indexed_lanes.specs.Noted.{RunsHere}
use Rattle.indexed_lanes.specs.Placed.{AreUnmoved}
use Rattle.indexed_lanes.specs.Wanted.{point_with, conflict_between, wanted_among, renewed, IsKept, IsIndexed}
use Rattle.indexed_lanes.proofs.Notes.{first_slot, noted_at}
use Rattle.indexed_lanes.proofs.Steps.{read_step, held_reads, step_adds}
use Rattle.indexed_lanes.proofs.Renewed.{renewed_conflicts, renewed_number, renewed_optimistic, one_still}
use Rattle.indexed_lanes.proofs.Keeping.{none_kept, changed_kept}
use Rattle.indexed_lanes.proofs.Settled.{conflict_numbers, pairs_agree, at_either, in_place, point_against}

-- The point after one read more.

less_small : (n m : ℕ) → n < m → min m n ≡ n
less_small n m h = omega (arith, h)

pub point_cons : (x : Read) (ws : Writes) (rs : List Read) → point (x ∷ rs) ws ≡ (if is_changed ws x then Some (less_or (point rs ws) x.0) else point rs ws)
point_cons x ws rs = either (cases_Bool (is_changed ws x)) (λ e. rw e refl) (λ e. rw e refl)

with_less : (item position : ℕ) (ws : Writes) (o : Option ℕ) (n : ℕ) → n < position → less_or (point_with (Some item) position ws o) n ≡ less_or o n
with_less item position ws None n lt =
    cond_both {A = Option ℕ} (is_some (own ws item)) (Some position) None (λ o. less_or o n ≡ n) (λ e. less_small n position lt) (λ e. refl)
with_less item position ws (Some m) n lt = refl

-- a read behind all others gives the point where there was none, if its item was written
pub point_push : (item position : ℕ) (v : _) (ws : Writes) (rs : List Read) → AllByRecursion (λ (r : Read). r.0 < position) rs → point (rs ++ (position, item, v) ∷ []) ws ≡ point_with (Some item) position ws (point rs ws)
point_push item position v ws [] h =
    point_cons (position, item, v) ws []
point_push item position v ws (x ∷ rs) h =
    point_cons x ws (rs ++ (position, item, v) ∷ [])
    ∙ ap (λ o. if is_changed ws x then Some (less_or o x.0) else o) (point_push item position v ws rs h.1)
    ∙ cond_both {A = Option ℕ} (is_changed ws x) (Some (less_or (point_with (Some item) position ws (point rs ws)) x.0)) (point_with (Some item) position ws (point rs ws))
    (λ o. o ≡ point_with (Some item) position ws (if is_changed ws x then Some (less_or (point rs ws) x.0) else point rs ws))
    (λ e. rw e (ap Some (with_less item position ws (point rs ws) x.0 h.0)))
    (λ e. rw e refl)
    ∙ sym (ap (point_with (Some item) position ws) (point_cons x ws rs))

-- What is wanted.

-- the read that a step of this kind adds, which is behind all others
pub record Adds (d : Tables) (item : ℕ) (old new : Held) : Type 0 where
  pub reads : new.log.reads ≡ old.log.reads ++ (old.position, item, stored d item) ∷ []
  pub behind : AllByRecursion (λ (x : Read). x.0 < old.position) old.log.reads

pub read_adds : (nodes : List Node) (d : Tables) (item : ℕ) (old new : Held) → RunsHere nodes d old → HasKind nodes old (TableRead item) → StepsOver nodes d old new → Adds d item old new
read_adds nodes d item old new h has step =
    let p = h.body in
    let n = old.position in
    let before = held_reads nodes p d old h.over in
    record {
      reads =
          sym (held_reads nodes p d new (step.same p h.over)) ∙ ap (reads p d) step.position ∙ (read_step p d n item (has p d h.over)).0
          ∙ ap (λ rs. rs ++ (n, item, stored d item) ∷ []) before;
      behind = subst (AllByRecursion (λ (x : Read). x.0 < n)) before (reads-below p d n);
    }

-- what the transaction at a place wants after it is what it wants where it is about to read
pub read_wanted : (s : Seated) (place : ℕ) (r : Seat) (f : Seat → Seat) (d : Tables) (item : ℕ) → slice_get s.seats place ≡ Some r → (f r).number ≡ r.number → Adds d item r.optimistic.state (f r).optimistic.state
    → wanted_among s.most None (at_place place f s.seats) (f r) ≡ wanted_among s.most (Some item) s.seats r
read_wanted s place r f d item is number adds =
    ap (λ pairs. wanted_of pairs s.most)
    (pairs_agree (conflict_between (Some item) r) (conflict_between None (f r)) s.seats (at_place place f s.seats) (length_at place f s.seats)
    (λ q u u' at at'.
    let keeps : (x : Seat) → slice_get s.seats place ≡ Some x → (f x).number ≡ x.number = λ x there. subst (λ y. (f y).number ≡ y.number) (same_Some r x (sym is ∙ there)) number in
    conflict_numbers u.number u'.number r.number (f r).number
    (point_with (Some item) r.optimistic.state.position u.optimistic.state.writes (point_against r u)) (point_against (f r) u')
    ((in_place s place f keeps).numbers q u u' at at') number
    (λ differ.
    either (at_either place q f s.seats u u' at at')
    (λ e. absurd (differ (ap (λ (x : Seat). x.number) (same_Some u r (sym (subst (λ n. slice_get s.seats n ≡ Some u) e.0 at) ∙ is)))))
    (λ e.
    ap (point_against (f r)) e
    ∙ ap (λ rs. point rs u.optimistic.state.writes) adds.reads
    ∙ point_push item r.optimistic.state.position (stored d item) u.optimistic.state.writes r.optimistic.state.log.reads adds.behind))))

-- The whole call.

-- the transaction at a place gets the shadows that it wants after the read, and then makes it
abbrev pub reading : List Node → ℕ → List Conflict → Held → Seat → Seat
reading nodes items ws st r = seat_with 0 (stepped_slot st) (renewed nodes items ws r)

-- before the step it has the shadows that it wants after it
abbrev pub IsReady : Seated → ℕ → ℕ → List Node → Seat → Seated → Type 0
IsReady s place item nodes r mid = mid ≡ record s { seats = at_place place (renewed nodes s.items (wanted_among s.most (Some item) s.seats r)) s.seats }

pub ready_none : (s mid : Seated) (o : Option Index) (place item : ℕ) (nodes : List Node) (r : Seat) → mid ≡ s → o ≡ None → IsIndexed s o → AreSeats s → slice_get s.seats place ≡ Some r → IsReady s place item nodes r mid
ready_none s mid o place item nodes r is none h all at =
    is ∙ ap (λ (seats : List Seat). record s { seats = seats }) (one_still s place nodes (Some item) r (none_kept s o none h) (all_get (IsSeat s.most s.items) s.seats place r all.each at) at)

pub ready_below : (s : Seated) (place item : ℕ) (nodes : List Node) (r : Seat) (mid : Seated) → place < length s.seats → IsReady s place item nodes r mid → place < length mid.seats
ready_below s place item nodes r mid lt is =
    omega (arith, lt, ap (λ (y : Seated). length y.seats) is, length_at place (renewed nodes s.items (wanted_among s.most (Some item) s.seats r)) s.seats)

-- and then it makes it
pub record IsRead (s : Seated) (place item : ℕ) (nodes : List Node) (d : Tables) (r : Seat) (x : Slot) (st : Held) (mid new : Seated) : Type 0 where
  pub there : slice_get s.seats place ≡ Some r
  pub runs : RunsHere nodes d r.optimistic.state
  pub kind : HasKind nodes r.optimistic.state (TableRead item)
  pub within : item < length d
  pub mid_is : IsReady s place item nodes r mid
  pub slot : slot_at mid.seats place 0 ≡ Some x
  pub new_is : new ≡ record mid { seats = at_place place (seat_with 0 (stepped_slot st)) mid.seats }
  pub steps : StepsOver nodes d x.state st

-- the optimistic one is still what it was before the step
pub renewed_slot : (s mid : Seated) (place : ℕ) (nodes : List Node) (ws : List Conflict) (r : Seat) (x : Slot) → slice_get s.seats place ≡ Some r
    → mid ≡ record s { seats = at_place place (renewed nodes s.items ws) s.seats } → slot_at mid.seats place 0 ≡ Some x → x ≡ r.optimistic
renewed_slot s mid place nodes ws r x there mid_is slot =
    let at : slot_at mid.seats place 0 ≡ Some (renewed nodes s.items ws r).optimistic =
    ap (λ (y : Seated). slot_at y.seats place 0) mid_is ∙ first_slot (at_place place (renewed nodes s.items ws) s.seats) place 0 (renewed nodes s.items ws r) (get_same place (renewed nodes s.items ws) s.seats r there) refl
    in
    same_Some x (renewed nodes s.items ws r).optimistic (sym slot ∙ at) ∙ renewed_optimistic nodes s.items ws r

module _ (s : Seated) (place item : ℕ) (nodes : List Node) (d : Tables) (r : Seat) (x : Slot) (st : Held) (mid new : Seated) (h : IsRead s place item nodes d r x st mid new) where
  abbrev ws : List Conflict
  ws = wanted_among s.most (Some item) s.seats r

  abbrev f : Seat → Seat
  f = reading nodes s.items ws st

  steps_on : StepsOver nodes d r.optimistic.state st
  steps_on = subst (λ (y : Slot). StepsOver nodes d y.state st) (renewed_slot s mid place nodes ws r x h.there h.mid_is h.slot) h.steps

  -- the event
  pub read_event : (new ≡ record s { seats = at_place place (seat_with 0 (stepped_slot st)) (at_place place (renewed nodes s.items (wanted_among s.most (Some item) s.seats r)) s.seats) }) × StepsOver nodes d r.optimistic.state st
  read_event = (h.new_is ∙ ap (λ (y : Seated). record y { seats = at_place place (seat_with 0 (stepped_slot st)) y.seats }) h.mid_is, steps_on)

  read_seats : new ≡ record s { seats = at_place place f s.seats }
  read_seats = read_event.0 ∙ ap (λ (seats : List Seat). record s { seats = seats }) (at_twice place (seat_with 0 (stepped_slot st)) (renewed nodes s.items ws) s.seats)

  f_number : (f r).number ≡ r.number
  f_number = renewed_number nodes s.items ws r

  -- what is kept with the read noted
  pub read_kept : (i j : Index) (position : ℕ) → position ≡ r.optimistic.state.position → j.items ≡ i.items → j.lanes ≡ lanes_with i place (with_read (lane_at i place) (position, item)) → length j.marks ≡ length i.marks
      → AreUnmoved i j → IsKept s i → IsKept new j
  read_kept i j position is items lanes long unmoved kept =
      let before : lane_at i place ≡ lane_of_run r.optimistic.state.log.reads r.optimistic.state.writes = noted_at s i place r kept.noted h.there in
      let adds : with_read (lane_at i place) (position, item) ≡ lane_of_run st.log.reads st.writes =
      ap₂ (λ (l : Lane) (n : ℕ). with_read l (n, item)) before is ∙ step_adds nodes d r.optimistic.state st (TableRead item) h.runs h.kind (λ e. cc) h.within steps_on
      in
      subst (λ (y : Seated). IsKept y j) (sym read_seats)
      (changed_kept s i j place r f (with_read (lane_at i place) (position, item)) h.there f_number adds items lanes long unmoved
      (λ none has. inr (renewed_conflicts nodes s.items ws r ∙ sym (read_wanted s place r f d item h.there f_number (read_adds nodes d item r.optimistic.state st h.runs h.kind steps_on)))) kept)
