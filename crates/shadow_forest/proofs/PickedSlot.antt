-- The slot of the pick, and the state in it.
use Rattle.std.proofs.Common.{◌≡◌, ℕ, zero, suc, ◌≤◌, ◌<◌, true, false, List, [], ◌∷◌, length, map, Option, Some, refl, ap, sym, subst, ◌∙◌, arith}
use Rattle.std.specs.Prelude.{slice_get, option_map}
use Rattle.txn_runs.specs.Bounds.{reach}
use Rattle.txn_runs.specs.declared.program.Program.{Program}
use Rattle.txn_runs.specs.Run.{Tables, Running, after}
use Rattle.txn_runs.specs.Kind.{kind_of}
use Rattle.txn_runs.specs.declared.kind.Kind.{Kind}
use Rattle.txn_runs.specs.declared.kind.Kind.TheVariants.{Local, TableRead, Write, Ended}
use Rattle.txn_code.specs.declared.node.Node.{Node}
use Rattle.txn_code.specs.Nodes.{nodes_of}
use Rattle.txn_interp.specs.State.{Held, Runs, RunsOver, IsRun}
use Rattle.txn_interp.specs.Kind.{HasKind}
use Rattle.journal_core.specs.Recorded.{Recorded}
use Rattle.journal_core.specs.Journal.{program_of}
use Rattle.block_rule.specs.declared.role.Row.{Row}
use Rattle.forest_model.specs.Runs.{reads, is_local_kind}
use Rattle.forest_model.specs.Forest.{Started, find_started}
use Rattle.forest_model.specs.Jobs.{position_in, position_at, taken}
use Rattle.forest_model.specs.Jobs as jobs
use Rattle.forest_model.specs.Drain.{state_of}
use Rattle.forest_model.proofs.Lists.{length-map'}
use Rattle.shadow_state.specs.Bank.{Slot, at_place, marked_slot}
use Rattle.shadow_lanes.specs.Seats.{Waiter, Seat, Seated, shadow_of, started_of, slots_of, slot_at, seat_with}
use Rattle.shadow_forest.specs.declared.txn.Txn.{Txn}
use Rattle.shadow_forest.specs.Bench.{IsOutside, job_of}
use Rattle.shadow_forest.specs.View.{View}
use Rattle.shadow_forest.specs.Parts.{nodes_at}
use Rattle.shadow_forest.specs.Kept.{forest_of, SlotStands, IsForest}
use Rattle.shadow_forest.proofs.Elements.{placed, mapped-is}
use Rattle.shadow_forest.proofs.Keeping.{at_number, place_is_number}
use Rattle.shadow_forest.proofs.Taking.{mark, marked_forest, marked_kept}
use Rattle.shadow_forest.proofs.Slots.{slot-found}
use Rattle.shadow_forest.proofs.Looks.{stands-there}
use Rattle.shadow_forest.proofs.Placing.{IsAt, IsAtView, at_view, some_same, nodes_are, runs}

waiter-position : (ws : List Waiter) (n : ℕ) (x : Slot) → slice_get (map (λ (w : Waiter). w.slot) ws) n ≡ Some x → position_in n (map shadow_of ws) ≡ x.state.position
waiter-position [] n x e = cc
waiter-position (w ∷ ws) zero x e = let same : w.slot ≡ x = cc in ap (λ (y : Slot). y.state.position) same
waiter-position (w ∷ ws) (suc n) x e = waiter-position ws n x e

slot-position : (r : Seat) (slot : ℕ) (x : Slot) → slice_get (slots_of r) slot ≡ Some x → position_at slot (Some (started_of r)) ≡ x.state.position
slot-position r zero x e = let same : r.optimistic ≡ x = cc in ap (λ (y : Slot). y.state.position) same
slot-position r (suc n) x e = waiter-position r.waiters n x e

-- a slot of the transaction at a place, and what stands in it
pub record IsSlotAt (journal : Recorded) (d : Tables) (s : Seated) (at t : ℕ) (r : Started) (seat : Seat) (slot : ℕ) : Type 0 where
  pub cell : Slot
  pub there : slice_get (slots_of seat) slot ≡ Some cell
  pub found : slot_at s.seats at slot ≡ Some cell
  pub position : position_at slot (Some r) ≡ cell.state.position
  pub stands : SlotStands (program_of journal.entries t) d cell
  pub within : (x : Seat) → slice_get s.seats at ≡ Some x → slot < length (slots_of x)

module _ (journal : Recorded) (d : Tables) (kept : List Txn) (s : Seated) (at t : ℕ) (r : Started) (a : IsAt journal d kept s at t r) where
  pub slot-of : (slot : ℕ) → slot ≤ length r.shadows → IsSlotAt journal d s at t r a.seat slot
  slot-of slot few =
      let many : length r.shadows ≡ length a.seat.waiters = ap (λ (y : Started). length y.shadows) (sym a.is) ∙ length-map' shadow_of a.seat.waiters in
      let less : slot < length (slots_of a.seat) = omega (arith, few, many, length-map' (λ (w : Waiter). w.slot) a.seat.waiters) in
      let x = placed (slots_of a.seat) slot less in
      record {
        cell = x.0;
        there = x.1;
        found = slot-found s.seats at slot a.seat x.0 a.there x.1;
        position = subst (λ (y : Started). position_at slot (Some y) ≡ x.0.state.position) a.is (slot-position a.seat slot x.0 x.1);
        stands = stands-there (program_of journal.entries t) d a.seat slot x.0 x.1 a.stands;
        within = λ y there. subst (λ (z : Seat). slot < length (slots_of z)) (some_same a.seat y (sym a.there ∙ there)) less;
      }

  -- what was lent is the state in it
  pub lent-is : (slot : ℕ) (x : IsSlotAt journal d s at t r a.seat slot) (state : Held) → option_map (λ (y : Slot). y.state) (slot_at s.seats at slot) ≡ Some state → state ≡ x.cell.state
  lent-is slot x state e = mapped-is (λ (y : Slot). y.state) (slot_at s.seats at slot) x.cell state e x.found

  -- it may make a step
  pub lent-runs : (slot : ℕ) (x : IsSlotAt journal d s at t r a.seat slot) (state : Held) (nodes : List Node) → s.items ≡ length d → nodes ≡ nodes_at kept t → state ≡ x.cell.state → Runs nodes state
  lent-runs slot x state nodes size is same = subst (Runs nodes) (sym same) (runs journal d kept s at t r a nodes x.cell size is x.stands)

  -- the kind of its next step
  pub kind-is : (slot : ℕ) (x : IsSlotAt journal d s at t r a.seat slot) (state : Held) (nodes : List Node) (kind : Kind) → nodes ≡ nodes_at kept t → state ≡ x.cell.state → HasKind nodes state kind
      → kind_of (after (program_of journal.entries t) d (position_at slot (find_started (map started_of s.seats) t))) ≡ kind
  kind-is slot x state nodes kind is same has =
      let code : nodes_of (program_of journal.entries t) ≡ nodes = sym (is ∙ nodes_are journal d kept s at t r a) in
      let over : RunsOver nodes (program_of journal.entries t) d state = subst (λ (h : Held). RunsOver nodes (program_of journal.entries t) d h) (sym same) (subst (λ ns. RunsOver ns (program_of journal.entries t) d x.cell.state) code x.stands) in
      let position : position_at slot (find_started (map started_of s.seats) t) ≡ state.position = ap (position_at slot) a.found ∙ (x.position ∙ ap (λ (h : Held). h.position) (sym same)) in
      ap (λ n. kind_of (after (program_of journal.entries t) d n)) position ∙ has (program_of journal.entries t) d over

-- The same of a forest as its user sees it.

-- the transaction of a row at its place, and the slot of the row
pub record IsRowAt (journal : Recorded) (d : Tables) (kept : List Txn) (s : Seated) (at : ℕ) (now : View) (row : Row) : Type 0 where
  pub v : IsAtView journal d kept s at row.txn now
  pub x : IsSlotAt journal d s at row.txn v.started v.a.seat row.place

module _ (journal : Recorded) (d : Tables) (kept : List Txn) (queue : List ℕ) (s : Seated) (resumed : List (ℕ × ℕ)) (starts : Option ℕ) (at : ℕ) (now : View) (row : Row)
    (view : record { numbers = forest_of journal d s; resumed = resumed; starts = starts } ≡ now) (h : IsForest journal d kept queue s) where
  pub row-at : (r : Started) × (slice_get now.numbers.started at ≡ Some r) × (find_started now.numbers.started row.txn ≡ Some r) × (row.place ≤ length r.shadows) → IsRowAt journal d kept s at now row
  row-at e =
      let v = at_view journal d kept queue s resumed starts at row.txn now view h (e.0, e.1, e.2) in
      record { v = v; x = slot-of journal d kept s at row.txn v.started v.a row.place (subst (λ (y : Started). row.place ≤ length y.shadows) (v.only e.0 e.2) e.3) }

  pub row-state : (k : IsRowAt journal d kept s at now row) (state : Held) → option_map (λ (y : Slot). y.state) (slot_at s.seats at row.place) ≡ Some state → state ≡ k.x.cell.state
  row-state k state e = lent-is journal d kept s at row.txn k.v.started k.v.a row.place k.x state e

  pub row-runs : (k : IsRowAt journal d kept s at now row) (state : Held) (nodes : List Node) → nodes ≡ nodes_at kept row.txn → option_map (λ (y : Slot). y.state) (slot_at s.seats at row.place) ≡ Some state → Runs nodes state
  row-runs k state nodes is e = lent-runs journal d kept s at row.txn k.v.started k.v.a row.place k.x state nodes h.items is (row-state k state e)

  pub row-kind : (k : IsRowAt journal d kept s at now row) (state : Held) (nodes : List Node) (kind : Kind) → nodes ≡ nodes_at kept row.txn → option_map (λ (y : Slot). y.state) (slot_at s.seats at row.place) ≡ Some state
      → HasKind nodes state kind → kind_of (state_of now.numbers row) ≡ kind
  row-kind k state nodes kind is e has =
      subst (λ (w : View). kind_of (state_of w.numbers row) ≡ kind) view
      (kind-is journal d kept s at row.txn k.v.started k.v.a row.place k.x state nodes kind is (row-state k state e) has)

  pub row-nodes : (k : IsRowAt journal d kept s at now row) (nodes : List Node) → nodes ≡ nodes_at kept row.txn → nodes ≡ nodes_of (program_of now.numbers.journal row.txn)
  row-nodes k nodes is = subst (λ (w : View). nodes ≡ nodes_of (program_of w.numbers.journal row.txn)) view (is ∙ nodes_are journal d kept s at row.txn k.v.started k.v.a)

  pub row-run : (k : IsRowAt journal d kept s at now row) (state : Held) → option_map (λ (y : Slot). y.state) (slot_at s.seats at row.place) ≡ Some state → IsRun (program_of now.numbers.journal row.txn) now.numbers.tables state
  row-run k state e =
      subst (λ (w : View). IsRun (program_of w.numbers.journal row.txn) w.numbers.tables state) view
      (subst (λ (y : Held). IsRun (program_of journal.entries row.txn) d y) (sym (row-state k state e)) k.x.stands)

  -- the job of the row, by the state that was lent
  pub row-job : (k : IsRowAt journal d kept s at now row) (state : Held) → option_map (λ (y : Slot). y.state) (slot_at s.seats at row.place) ≡ Some state
      → job_of (program_of now.numbers.journal row.txn) (record { number = row.txn; from = state.position; nodes = []; state = state }) ≡ jobs.job_of now.numbers row
  row-job k state e =
      let p : Program = program_of now.numbers.journal row.txn in
      let run : IsRun p now.numbers.tables state = row-run k state e in
      let position : position_at row.place (find_started now.numbers.started row.txn) ≡ state.position =
      subst (λ (w : View). position_at row.place (find_started w.numbers.started row.txn) ≡ state.position) view (ap (position_at row.place) k.v.a.found ∙ (k.x.position ∙ ap (λ (h : Held). h.position) (sym (row-state k state e))))
      in
      let read : reads p now.numbers.tables state.position ≡ state.log.reads = ap (λ (r : Running). r.reads) run.is.is in
      (λ i. record { number = row.txn; program = p; from = state.position; reads = sym read i; reached = state.position })
      ∙ ap (λ n. jobs.job_at now.numbers row.txn n) (sym position)

  -- what is handed out
  pub row-outside : (k : IsRowAt journal d kept s at now row) (state : Held) (nodes : List Node) (from : ℕ) → nodes ≡ nodes_at kept row.txn → option_map (λ (y : Slot). y.state) (slot_at s.seats at row.place) ≡ Some state
      → state.log.room ≡ s.items → from ≡ state.position → IsOutside (record { number = row.txn; from = from; nodes = nodes; state = state })
  row-outside k state nodes from is e room stood =
      let p : Program = program_of journal.entries row.txn in
      let code : nodes_of p ≡ nodes = sym (is ∙ nodes_are journal d kept s at row.txn k.v.started k.v.a) in
      record {
        body = p;
        tables = d;
        program = k.v.a.of_txn.program;
        fits = subst (λ n. reach p ≤ n) (sym room) k.v.a.of_txn.fits;
        over = subst (λ ns. RunsOver ns p d state) code (subst (λ (y : Held). IsRun p d y) (sym (row-state k state e)) k.x.stands);
        forward = omega (arith, stood);
        local = λ n ge lt. absurd (omega (arith, stood, ge, lt));
      }

  -- the forest in which its shadow is out
  seats-marked : (k : IsRowAt journal d kept s at now row) → at_place at (seat_with row.place (marked_slot true)) s.seats ≡ map (mark row) s.seats
  seats-marked k =
      let f : Seat → Seat = seat_with row.place (marked_slot true) in
      place_is_number s.seats at k.v.a.seat f k.v.a.rising k.v.a.there ∙ ap (λ n. map (at_number n f) s.seats) k.v.a.number

  module _ (k : IsRowAt journal d kept s at now row) (new : Seated) (e : new ≡ record s { seats = at_place at (seat_with row.place (marked_slot true)) s.seats }) where
    marked-seats : new ≡ record s { seats = map (mark row) s.seats }
    marked-seats = e ∙ ap (λ (xs : List Seat). record s { seats = xs }) (seats-marked k)

    pub handed-kept : IsForest journal d kept queue new
    handed-kept = subst (IsForest journal d kept queue) (sym marked-seats) (marked_kept row journal d kept queue s h)

    pub handed-numbers : forest_of journal d new ≡ taken now.numbers (Some row)
    handed-numbers = ap (forest_of journal d) marked-seats ∙ (marked_forest row journal d s ∙ ap (λ (w : View). taken w.numbers (Some row)) view)

-- a kind that isn't local
pub not-local : (k : Kind) → (k ≡ Local → ⊥) → is_local_kind k ≡ false
not-local Local never = absurd (never refl)
not-local (TableRead item) never = refl
not-local (Write item value) never = refl
not-local Ended never = refl
