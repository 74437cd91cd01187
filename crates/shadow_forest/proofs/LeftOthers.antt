-- Steps of an optimistic shadow that leave what the others want.
use Rattle.std.proofs.Common.{◌≡◌, ◌≢◌, ◌⊎◌, inl, inr, ℕ, suc, ◌==◌, ℤ, false, List, [], map, filter_map, is_some, Some, refl, ap, sym, subst, ◌∙◌, eqb-true, eq-eqb, true≢false}
use Rattle.std.specs.List.{AllByRecursion}
use Rattle.std.proofs.lemmas.Bool.{cases_Bool, ne_eqb}
use Rattle.txn_runs.specs.Run.{Tables, after, logged}
use Rattle.txn_runs.specs.Kind.{kind_of}
use Rattle.txn_runs.specs.declared.kind.Kind.{Kind}
use Rattle.txn_runs.specs.declared.kind.Kind.TheVariants.{TableRead, Write}
use Rattle.txn_code.specs.declared.node.Node.{Node}
use Rattle.txn_interp.specs.State.{Held}
use Rattle.journal_core.specs.Recorded.{Recorded}
use Rattle.journal_core.specs.Journal.{program_of}
use Rattle.forest_model.specs.Runs.{writes}
use Rattle.forest_model.specs.Point.{Conflict, point, wanted_of}
use Rattle.forest_model.specs.Forest.{Started, Forest, program, reads_of, writes_of, against, wanted, find_started}
use Rattle.forest_model.specs.Sound.{IsSound}
use Rattle.forest_model.specs.Events.{moved_to, move_to}
use Rattle.forest_model.proofs.Lists.{either, all-weaken, all-both, all-map, all-found}
use Rattle.forest_model.proofs.StartedLaws.{found-alone}
use Rattle.forest_model.proofs.StepLaws.{moved_to-number}
use Rattle.shadow_lanes.specs.Seats.{Seat, Seated, started_of}
use Rattle.shadow_forest.specs.declared.txn.Txn.{Txn}
use Rattle.shadow_forest.specs.Parts.{has_read}
use Rattle.shadow_forest.specs.Staying.{LeavesOthers}
use Rattle.shadow_forest.specs.View.{View}
use Rattle.shadow_forest.specs.Kept.{forest_of, SeatStands, IsForest}
use Rattle.shadow_forest.proofs.OptimisticCall.{IsCall}
use Rattle.shadow_forest.proofs.Wanting.{reads_are}
use Rattle.indexed_lanes.proofs.Steps.{read_step, write_step}
use Rattle.shadow_forest.proofs.StepWants.{point_unread, wants_points, wants_same}

none_of : (xs : List Conflict) (k : ℕ) → k ≡ 1 → wanted_of xs k ≡ []
none_of xs k e = rw e refl

-- with one shadow a transaction nobody wants another
pub one-leaves : (f : Forest) (r : Started) → f.k ≡ 1 → LeavesOthers f r
one-leaves f r one = λ x found apart.
    none_of (filter_map (against (move_to r.number (suc r.position) f) x) (move_to r.number (suc r.position) f).started) f.k one
    ∙ sym (none_of (filter_map (against f x) f.started) f.k one)

module _ (f : Forest) (t : ℕ) (r : Started) (h : IsSound f) (found : find_started f.started t ≡ Some r) where
  abbrev mover : Started → Started
  mover = moved_to r.number (suc r.position)

  moved_self : mover r ≡ record r { position = suc r.position; out = false }
  moved_self = rw (eq-eqb r.number r.number refl) refl

  other : (x : Started) → x.number ≢ r.number → mover x ≡ x
  other x apart = rw (ne_eqb x.number r.number apart) refl

  alone : AllByRecursion (λ x. x.number ≡ r.number → x ≡ r) f.started
  alone = found-alone f.started t r h.right.rising found

  moved_wants : (x : Started) → x.number ≢ r.number → wanted (record f { started = map mover f.started }) (mover x) ≡ wanted f x → wanted (move_to r.number (suc r.position) f) x ≡ wanted f x
  moved_wants x apart e = ap (wanted (move_to r.number (suc r.position) f)) (sym (other x apart)) ∙ e

  -- a read
  pub read-leaves : (item : ℕ) → kind_of (after (program f r) f.tables r.position) ≡ TableRead item → LeavesOthers f r
  read-leaves item kind = λ x self apart.
      moved_wants x apart
      (wants_same f mover x (moved_to-number r.number (suc r.position)) (ap (reads_of f) (other x apart))
      (all-weaken (λ u. u.number ≡ r.number → u ≡ r) (λ u. u.number ≢ x.number → writes_of f (mover u) ≡ writes_of f u)
      (λ u is ne.
      either (cases_Bool (u.number == r.number))
      (λ e. subst (λ y. writes_of f (mover y) ≡ writes_of f y) (sym (is (eqb-true _ _ e))) (ap (writes_of f) moved_self ∙ (read_step (program f r) f.tables r.position item kind).1))
      (λ e. ap (writes_of f) (other u (λ q. true≢false (sym (eq-eqb _ _ q) ∙ e)))))
      f.started alone))

  -- a write of what no other has read
  pub write-leaves : (item : ℕ) (v : ℤ) → kind_of (after (program f r) f.tables r.position) ≡ Write item v → ((x : Started) → find_started f.started x.number ≡ Some x → x.number ≢ r.number → is_some (logged (reads_of f x) item) ≡ false)
      → LeavesOthers f r
  write-leaves item v kind unread = λ x self apart.
      moved_wants x apart
      (wants_points f mover x (moved_to-number r.number (suc r.position))
      (all-weaken (λ u. u.number ≡ r.number → u ≡ r) (λ u. u.number ≢ x.number → point (reads_of f (mover x)) (writes_of f (mover u)) ≡ point (reads_of f x) (writes_of f u))
      (λ u is ne.
      ap (λ y. point (reads_of f y) (writes_of f (mover u))) (other x apart)
      ∙ either (cases_Bool (u.number == r.number))
      (λ e. subst (λ y. point (reads_of f x) (writes_of f (mover y)) ≡ point (reads_of f x) (writes_of f y)) (sym (is (eqb-true _ _ e))) (written x (unread x self apart)))
      (λ e. ap (λ y. point (reads_of f x) (writes_of f y)) (other u (λ q. true≢false (sym (eq-eqb _ _ q) ∙ e)))))
      f.started alone))
    where
      written : (x : Started) → is_some (logged (reads_of f x) item) ≡ false → point (reads_of f x) (writes_of f (mover r)) ≡ point (reads_of f x) (writes_of f r)
      written x none =
          ap (point (reads_of f x)) (ap (writes_of f) moved_self ∙ (write_step (program f r) f.tables r.position item v kind).1)
          ∙ point_unread item v (writes (program f r) f.tables r.position) (reads_of f x) none

-- what no seat has read no started transaction has
pub unread-seats : (journal : Recorded) (d : Tables) (kept : List Txn) (queue : List ℕ) (s : Seated) (t item : ℕ) → IsForest journal d kept queue s
    → AllByRecursion (λ (y : Seat). y.number ≢ t → has_read item y ≡ false) s.seats
    → AllByRecursion (λ (x : Started). x.number ≢ t → is_some (logged (reads_of (forest_of journal d s) x) item) ≡ false) (map started_of s.seats)
unread-seats journal d kept queue s t item h all =
    all-map (λ (x : Started). x.number ≢ t → is_some (logged (reads_of (forest_of journal d s) x) item) ≡ false) started_of s.seats
    (all-both (λ (y : Seat). SeatStands (program_of journal.entries y.number) d y) (λ (y : Seat). y.number ≢ t → has_read item y ≡ false)
    (λ (y : Seat). y.number ≢ t → is_some (logged (reads_of (forest_of journal d s) (started_of y)) item) ≡ false)
    (λ y stands unread apart. ap (λ rs. is_some (logged rs item)) (reads_are (program_of journal.entries y.number) d y.optimistic stands.optimistic) ∙ unread apart)
    s.seats h.stand all)

-- As the call has it.

module _ (journal : Recorded) (d : Tables) (kept : List Txn) (queue : List ℕ) (s : Seated) (at t : ℕ) (now : View) (nodes : List Node) (state : Held) (kind : Kind) (c : IsCall journal d kept queue s at t now nodes state kind) (seen : now.numbers ≡ forest_of journal d s) where
  number : c.v.started.number ≡ t
  number = ap (λ (y : Started). y.number) (sym c.v.a.is) ∙ c.v.a.number

  kind-here : (k : Kind) → kind ≡ k → kind_of (after (program (forest_of journal d s) c.v.started) d c.v.started.position) ≡ k
  kind-here k is = ap (λ n. kind_of (after (program_of journal.entries n) d c.v.started.position)) number ∙ c.kind_is ∙ is

  told : LeavesOthers (forest_of journal d s) c.v.started → (r : Started) → find_started now.numbers.started t ≡ Some r → LeavesOthers now.numbers r
  told leaves r found = subst (λ f. LeavesOthers f r) (sym seen) (subst (LeavesOthers (forest_of journal d s)) (sym (c.v.only r found)) leaves)

  pub call-read : (item : ℕ) → kind ≡ TableRead item → (r : Started) → find_started now.numbers.started t ≡ Some r → LeavesOthers now.numbers r
  call-read item is = told (read-leaves (forest_of journal d s) t c.v.started c.all.sound c.v.a.found item (kind-here (TableRead item) is))

  pub call-write : (item : ℕ) (v : ℤ) → kind ≡ Write item v → (s.most ≡ 1) ⊎ AllByRecursion (λ (y : Seat). y.number ≢ t → has_read item y ≡ false) s.seats → (r : Started) → find_started now.numbers.started t ≡ Some r
      → LeavesOthers now.numbers r
  call-write item v is (inl one) = told (one-leaves (forest_of journal d s) c.v.started one)
  call-write item v is (inr all) =
      told (write-leaves (forest_of journal d s) t c.v.started c.all.sound c.v.a.found item v (kind-here (Write item v) is)
      (λ x self apart.
      all-found (λ (y : Started). y.number ≢ t → is_some (logged (reads_of (forest_of journal d s) y) item) ≡ false) (λ y. y.number == x.number) (map started_of s.seats) x self
      (unread-seats journal d kept queue s t item c.all all) (λ q. apart (q ∙ sym number))))
