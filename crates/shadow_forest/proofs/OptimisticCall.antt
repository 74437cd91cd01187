-- The call that makes a step of an optimistic shadow.
use Rattle.std.proofs.Common.{◌≡◌, ◌≢◌, ℕ, suc, ◌+◌, ◌≤◌, true, false, ℤ, List, map, length, Some, Result, Ok, Err, refl, ap, sym, subst, ◌∙◌, arith, true≢false, ltb, ltb-true}
use Rattle.std.specs.Prelude.{slice_get, option_map, option_and_then, IsTrue, ◌↔◌}
use Rattle.std.proofs.lemmas.Bool.{cases_Bool}
use Rattle.block_rule.specs.declared.role.Role.TheVariants.{Optimistic}
use Rattle.txn_runs.specs.Run.{Tables, after}
use Rattle.txn_runs.specs.Kind.{kind_of}
use Rattle.txn_runs.specs.Bounds.{steps_max}
use Rattle.txn_runs.specs.Serial.{run_length, has_ended}
use Rattle.txn_runs.specs.declared.kind.Kind.{Kind}
use Rattle.txn_runs.specs.declared.kind.Kind.TheVariants.{Local, TableRead, Write, Ended}
use Rattle.txn_runs.specs.declared.program.Program.{Program}
use Rattle.txn_runs.proofs.Ending.{length_within}
use Rattle.txn_code.specs.declared.node.Node.{Node}
use Rattle.txn_code.specs.Nodes.{nodes_of}
use Rattle.txn_interp.specs.State.{Held, Runs, RunsOver}
use Rattle.txn_interp.specs.Kind.{HasKind}
use Rattle.journal_core.specs.Recorded.{Recorded}
use Rattle.journal_core.specs.Journal.{program_of}
use Rattle.forest_model.specs.Forest.{Started, Forest, find_started}
use Rattle.forest_model.specs.Settle.{settle}
use Rattle.forest_model.specs.Events.{Refusal, HasEnded, move_to, step_role}
use Rattle.forest_model.proofs.Lists.{either}
use Rattle.forest_model.proofs.RunLaws.{going-below_length}
use Rattle.shadow_state.specs.Bank.{Slot, at_place}
use Rattle.shadow_lanes.specs.Seats.{Seat, Seated, slots_of, slot_at, started_of, stepped_slot, seat_with, StepsOver}
use Rattle.shadow_forest.specs.View.{View}
use Rattle.indexed_lanes.specs.Noted.{RunsHere}
use Rattle.shadow_forest.specs.declared.txn.Txn.{Txn}
use Rattle.shadow_forest.specs.Parts.{nodes_at, all_renewed}
use Rattle.indexed_lanes.specs.Wanted.{renewed, wanted_among}
use Rattle.shadow_forest.specs.Ready.{AreCarried}
use Rattle.forest_model.specs.Point.{Conflict}
use Rattle.shadow_forest.specs.Kept.{forest_of, IsForest}
use Rattle.shadow_forest.proofs.Placing.{IsAtView, some_same, nodes_are, runs, runs_here}
use Rattle.shadow_forest.proofs.Optimistic.{IsNext, IsStepOf, event_is, next_is, local_done, read_done, write_done, write_carried}

-- the call has found the transaction at a place, its optimistic state, and what its next step is
pub record IsCall (journal : Recorded) (d : Tables) (kept : List Txn) (queue : List ℕ) (s : Seated) (at t : ℕ) (now : View) (nodes : List Node) (state : Held) (kind : Kind) : Type 0 where
  pub all : IsForest journal d kept queue s
  pub v : IsAtView journal d kept s at t now
  pub state_is : state ≡ v.a.seat.optimistic.state
  pub code : nodes ≡ nodes_at kept t
  pub kind_is : kind_of (after (program_of journal.entries t) d v.started.position) ≡ kind
  pub ended : (kind ≡ Ended) ↔ IsTrue v.a.seat.optimistic.state.done

-- slot 0 of a transaction is its optimistic one
pub first_slot : (s : Seated) (at : ℕ) (seat : Seat) → slice_get s.seats at ≡ Some seat → slot_at s.seats at 0 ≡ Some seat.optimistic
first_slot s at seat there = ap (option_and_then (λ (xs : List Slot). slice_get xs 0)) (ap (option_map slots_of) there)

pub first_state : (s : Seated) (at : ℕ) (seat : Seat) (state : Held) → slice_get s.seats at ≡ Some seat → option_map (λ (x : Slot). x.state) (slot_at s.seats at 0) ≡ Some state → state ≡ seat.optimistic.state
first_state s at seat state there is = some_same _ _ (sym is ∙ ap (option_map (λ (x : Slot). x.state)) (first_slot s at seat there))

pub call_is : (journal : Recorded) (d : Tables) (kept : List Txn) (queue : List ℕ) (s : Seated) (at t : ℕ) (now : View) (nodes : List Node) (state : Held) (kind : Kind) → IsForest journal d kept queue s
    → IsAtView journal d kept s at t now → option_map (λ (x : Slot). x.state) (slot_at s.seats at 0) ≡ Some state → nodes ≡ nodes_at kept t → HasKind nodes state kind → ((kind ≡ Ended) ↔ IsTrue state.done)
    → IsCall journal d kept queue s at t now nodes state kind
call_is journal d kept queue s at t now nodes state kind h v lent code has ended =
    let p : Program = program_of journal.entries t in
    let state_is : state ≡ v.a.seat.optimistic.state = first_state s at v.a.seat state v.a.there lent in
    let of_p : nodes ≡ nodes_of p = code ∙ nodes_are journal d kept s at t v.started v.a in
    let run : RunsOver nodes p d state = subst (λ (x : Held). RunsOver nodes p d x) (sym state_is) (subst (λ ns. RunsOver ns p d v.a.seat.optimistic.state) (sym of_p) v.a.stands.optimistic) in
    let at_is : state.position ≡ v.started.position = ap (λ (x : Held). x.position) state_is ∙ ap (λ (y : Started). y.position) v.a.is in
    record {
      all = h;
      v = v;
      state_is = state_is;
      code = code;
      kind_is = ap (λ n. kind_of (after p d n)) (sym at_is) ∙ has p d run;
      ended = subst (λ (x : Held). (kind ≡ Ended) ↔ IsTrue x.done) state_is ended;
    }

module _ (journal : Recorded) (d : Tables) (kept : List Txn) (queue : List ℕ) (s : Seated) (at t : ℕ) (now : View) (nodes : List Node) (state : Held) (kind : Kind) (c : IsCall journal d kept queue s at t now nodes state kind) where
  -- a step that is one is made before the end
  pub not_done : kind ≢ Ended → c.v.a.seat.optimistic.state.done ≡ false
  not_done other = either (cases_Bool c.v.a.seat.optimistic.state.done) (λ e. absurd (other (c.ended.1 e))) (λ e. e)

  pub may_go : kind ≢ Ended → (x : Slot) → slot_at s.seats at 0 ≡ Some x → RunsHere nodes d x.state × (x.state.done ≡ false)
  may_go other x there =
      let same : x ≡ c.v.a.seat.optimistic = some_same _ _ (sym there ∙ first_slot s at c.v.a.seat c.v.a.there) in
      rw same (runs_here journal d kept s at t c.v.started c.v.a nodes c.v.a.seat.optimistic c.all.items c.code c.v.a.stands.optimistic, not_done other)

  -- at its end it does not step
  pub has_ended_is : kind ≡ Ended → (r : Started) → find_started now.numbers.started t ≡ Some r → now.numbers ≡ forest_of journal d s → step_role now.numbers Optimistic r ≡ Err HasEnded
  has_ended_is is r found seen =
      let number : c.v.started.number ≡ t = ap (λ (y : Started). y.number) (sym c.v.a.is) ∙ c.v.a.number in
      let at_is : c.v.a.seat.optimistic.state.position ≡ c.v.started.position = ap (λ (y : Started). y.position) c.v.a.is in
      let done : c.v.a.seat.optimistic.state.done ≡ true = c.ended.0 is in
      let ended : has_ended (after (program_of journal.entries t) d c.v.started.position) ≡ true =
      ap (λ n. has_ended (after (program_of journal.entries t) d n)) (sym at_is) ∙ sym c.v.a.stands.optimistic.done ∙ done
      in
      let past : ltb c.v.started.position (run_length (program_of journal.entries c.v.started.number) d) ≡ false =
      ap (λ n. ltb c.v.started.position (run_length (program_of journal.entries n) d)) number
      ∙ either (cases_Bool (ltb c.v.started.position (run_length (program_of journal.entries t) d)))
      (λ e. absurd (true≢false (sym ended ∙ going-below_length (program_of journal.entries t) d c.v.started.position (ltb-true _ _ e))))
      (λ e. e)
      in
      ap (step_role now.numbers Optimistic) (c.v.only r found) ∙ ap (λ f. step_role f Optimistic c.v.started) seen ∙ rw past refl

-- the forest after the event, and what it is answered
pub record IsOptimisticStep (journal : Recorded) (d : Tables) (kept : List Txn) (queue : List ℕ) (t : ℕ) (now : View) (position : ℕ) (new : Seated) : Type 0 where
  pub kept_all : IsForest journal d kept queue new
  pub result : (r : Started) → find_started now.numbers.started t ≡ Some r → step_role now.numbers Optimistic r ≡ Ok (position + 1, forest_of journal d new)

pub answered : (journal : Recorded) (d : Tables) (kept : List Txn) (queue : List ℕ) (s : Seated) (at t : ℕ) (now : View) (v : IsAtView journal d kept s at t now) (st : Held) (h : IsNext journal d kept queue s at t v.started st) (position : ℕ) (new : Seated)
    → position ≡ v.a.seat.optimistic.state.position → now.numbers ≡ forest_of journal d s → IsStepOf journal d kept queue s at t v.started st h new → IsOptimisticStep journal d kept queue t now position new
answered journal d kept queue s at t now v st h position new at_is seen done =
    let one : suc v.started.position ≡ position + 1 = (let e : v.a.seat.optimistic.state.position ≡ v.started.position = ap (λ (y : Started). y.position) v.a.is in omega (arith, e, at_is)) in
    record {
      kept_all = done.kept_all;
      result = λ r found.
          ap (step_role now.numbers Optimistic) (v.only r found) ∙ ap (λ f. step_role f Optimistic v.started) seen
          ∙ event_is journal d kept queue s at t v.started st h
          ∙ ap (λ n. ok_pair n (settle (map started_of s.seats) (move_to v.started.number (suc v.started.position) (forest_of journal d s)))) one
          ∙ ap (ok_pair (position + 1)) (sym done.forest);
    }
  where
    ok_pair : ℕ → Forest → Result (ℕ × Forest) Refusal
    ok_pair n f = Ok (n, f)

-- The same before the kind is known.

pub first_low : (journal : Recorded) (d : Tables) (kept : List Txn) (s : Seated) (at t : ℕ) (now : View) (v : IsAtView journal d kept s at t now) (state : Held) → option_map (λ (x : Slot). x.state) (slot_at s.seats at 0) ≡ Some state → state.position ≤ 100000
first_low journal d kept s at t now v state lent =
    let number : v.started.number ≡ t = ap (λ (y : Started). y.number) (sym v.a.is) ∙ v.a.number in
    let at_is : state.position ≡ v.started.position = ap (λ (x : Held). x.position) (first_state s at v.a.seat state v.a.there lent) ∙ ap (λ (y : Started). y.position) v.a.is in
    let within : v.started.position ≤ run_length (program_of journal.entries t) d = subst (λ n. v.started.position ≤ run_length (program_of journal.entries n) d) number v.a.within in
    let most : run_length (program_of journal.entries t) d ≤ steps_max (program_of journal.entries t) = length_within (program_of journal.entries t) d in
    let steps : steps_max (program_of journal.entries t) ≤ 100000 = v.a.of_txn.program.steps in
    omega (arith, at_is, within, most, steps)

pub first_runs : (journal : Recorded) (d : Tables) (kept : List Txn) (s : Seated) (at t : ℕ) (now : View) (v : IsAtView journal d kept s at t now) (state : Held) (nodes : List Node) → s.items ≡ length d → nodes ≡ nodes_at kept t
    → option_map (λ (x : Slot). x.state) (slot_at s.seats at 0) ≡ Some state → Runs nodes state
first_runs journal d kept s at t now v state nodes size code lent =
    subst (Runs nodes) (sym (first_state s at v.a.seat state v.a.there lent)) (runs journal d kept s at t v.started v.a nodes v.a.seat.optimistic size code v.a.stands.optimistic)

-- A step of each kind, in the words of the call.

module _ (journal : Recorded) (d : Tables) (kept : List Txn) (queue : List ℕ) (s : Seated) (at t : ℕ) (now : View) (nodes : List Node) (state : Held) (kind : Kind) (c : IsCall journal d kept queue s at t now nodes state kind) (position : ℕ) where
  next_of : (old : Slot) (st : Held) → kind ≢ Ended → old ≡ c.v.a.seat.optimistic → StepsOver nodes d old.state st → IsNext journal d kept queue s at t c.v.started st
  next_of old st other same steps =
      next_is journal d kept queue s at t c.v.started nodes st c.v.a c.all (not_done journal d kept queue s at t now nodes state kind c other)
      (subst (λ (x : Slot). StepsOver nodes d x.state st) same steps) c.code

  from_state : position ≡ state.position → position ≡ c.v.a.seat.optimistic.state.position
  from_state at_is = at_is ∙ ap (λ (x : Held). x.position) c.state_is

  pub local_call : (old : Slot) (st : Held) (new : Seated) → kind ≡ Local → position ≡ state.position → now.numbers ≡ forest_of journal d s → slot_at s.seats at 0 ≡ Some old
      → new ≡ record s { seats = at_place at (seat_with 0 (stepped_slot st)) s.seats } → StepsOver nodes d old.state st → IsOptimisticStep journal d kept queue t now position new
  local_call old st new is at_is seen there new_is steps =
      let same : old ≡ c.v.a.seat.optimistic = some_same _ _ (sym there ∙ first_slot s at c.v.a.seat c.v.a.there) in
      let next = next_of old st (λ e. let q : Local ≡ Ended = sym is ∙ e in cc) same steps in
      answered journal d kept queue s at t now c.v st next position new (from_state at_is) seen
      (local_done journal d kept queue s at t c.v.started st next new (c.kind_is ∙ is) new_is)

  -- what is asked of a read
  pub read_may : (item : ℕ) → kind ≡ TableRead item → HasKind nodes state kind → (x : Seat) → slice_get s.seats at ≡ Some x
      → RunsHere nodes d x.optimistic.state × HasKind nodes x.optimistic.state (TableRead item) × (x.optimistic.state.done ≡ false)
  read_may item is has x there =
      let same : x ≡ c.v.a.seat = some_same _ _ (sym there ∙ c.v.a.there) in
      let go = may_go journal d kept queue s at t now nodes state kind c (λ e. let q : TableRead item ≡ Ended = sym is ∙ e in cc) x.optimistic (first_slot s at x there) in
      let of_x : state ≡ x.optimistic.state = c.state_is ∙ ap (λ (y : Seat). y.optimistic.state) (sym same) in
      (go.0, subst (λ (y : Held). HasKind nodes y (TableRead item)) of_x (subst (HasKind nodes state) is has), go.1)

  pub read_call : (item : ℕ) (x : Seat) (st : Held) (new : Seated) → kind ≡ TableRead item → position ≡ state.position → now.numbers ≡ forest_of journal d s → slice_get s.seats at ≡ Some x
      → new ≡ record s { seats = at_place at (seat_with 0 (stepped_slot st)) (at_place at (renewed nodes s.items (wanted_among s.most (Some item) s.seats x)) s.seats) } → StepsOver nodes d x.optimistic.state st
      → IsOptimisticStep journal d kept queue t now position new
  read_call item x st new is at_is seen there new_is steps =
      let same : x ≡ c.v.a.seat = some_same _ _ (sym there ∙ c.v.a.there) in
      let next = next_of x.optimistic st (λ e. let q : TableRead item ≡ Ended = sym is ∙ e in cc) (ap (λ (y : Seat). y.optimistic) same) steps in
      let ws : List Conflict = wanted_among s.most (Some item) s.seats x in
      answered journal d kept queue s at t now c.v st next position new (from_state at_is) seen
      (read_done journal d kept queue s at t c.v.started st next (record s { seats = at_place at (renewed nodes s.items ws) s.seats }) new nodes ws item c.code (c.kind_is ∙ is) (ap (wanted_among s.most (Some item) s.seats) (some_same x next.a.seat (sym there ∙ next.a.there))) refl new_is)

  pub write_call : (item : ℕ) (v : ℤ) (first : Seated) (old : Slot) (st : Held) (new : Seated) → kind ≡ Write item v → position ≡ state.position → now.numbers ≡ forest_of journal d s
      → slot_at s.seats at 0 ≡ Some old → first ≡ record s { seats = at_place at (seat_with 0 (stepped_slot st)) s.seats } → StepsOver nodes d old.state st
      → new ≡ record first { seats = all_renewed first.most first.items kept first.seats } → IsOptimisticStep journal d kept queue t now position new
  write_call item v first old st new is at_is seen there step_is steps new_is =
      let same : old ≡ c.v.a.seat.optimistic = some_same _ _ (sym there ∙ first_slot s at c.v.a.seat c.v.a.there) in
      let next = next_of old st (λ e. let q : Write item v ≡ Ended = sym is ∙ e in cc) same steps in
      answered journal d kept queue s at t now c.v st next position new (from_state at_is) seen
      (write_done journal d kept queue s at t c.v.started st next first new item v (c.kind_is ∙ is) step_is new_is)

  pub write_all_carried : (old : Slot) (st : Held) (first : Seated) → kind ≢ Ended → slot_at s.seats at 0 ≡ Some old → StepsOver nodes d old.state st
      → first ≡ record s { seats = at_place at (seat_with 0 (stepped_slot st)) s.seats } → AreCarried first.items kept first.seats
  write_all_carried old st first other there steps step_is =
      let same : old ≡ c.v.a.seat.optimistic = some_same _ _ (sym there ∙ first_slot s at c.v.a.seat c.v.a.there) in
      write_carried journal d kept queue s at t c.v.started st (next_of old st other same steps) first step_is
