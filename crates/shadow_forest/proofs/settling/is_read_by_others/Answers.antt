use Rattle.std.proofs.Common.{◌≡◌, ◌≢◌, ℕ, ◌≤◌, ◌<◌, ◌&&◌, ◌==◌, Bool, false, not, inr, [], ◌∷◌, take, length, Some, sym, subst, arith}
use Rattle.std.specs.Prelude.{slice_get}
use Rattle.std.specs.List.{AllByRecursion}
use Rattle.std.proofs.lemmas.Bool.{ne_eqb}
use Rattle.std.proofs.lemmas.List.{take_all}
use Rattle.forest_model.proofs.Lists.{all-append}
use Rattle.shadow_lanes.specs.Seats.{Seat}
use Rattle.shadow_forest.specs.Parts.{has_read}
use Rattle.shadow_forest.proofs.Places.{slice_get-some}
use Rattle.indexed_lanes.proofs.Passing.{take_more-at}
use Rattle.shadow_forest.proofs.settling.is_read_by_others.Goals as goal

pub returns-then-is_reader : goal.returns-then-is_reader
returns-then-is_reader c = λ e. cc

-- what is not a reader has not read the item, unless it is the writer
unread : (number writer : ℕ) (has : Bool) → false ≡ (not (number == writer) && has) → number ≢ writer → has ≡ false
unread number writer has e ne = let apart : number == writer ≡ false = ne_eqb number writer ne in sym (rw apart at e)

pub loop-place-preserved : goal.loop-place-preserved
loop-place-preserved c =
    let seats = c.args.lanes.now.seats in
    let lt : c.loop-place.place < length seats = omega (arith, c.loop-place-test.true, c.len-place-end.ensures.len) in
    let here : (r : Seat) × (slice_get seats c.loop-place.place ≡ Some r) = slice_get-some seats c.loop-place.place lt in
    subst (AllByRecursion (λ (r : Seat). r.number ≢ c.args.writer → has_read c.args.item r ≡ false)) (sym (take_more-at seats c.loop-place.place here.0 here.1))
    (all-append (λ (r : Seat). r.number ≢ c.args.writer → has_read c.args.item r ≡ false) (take c.loop-place.place seats) (here.0 ∷ []) c.loop-place.invariant
    (unread here.0.number c.args.writer (has_read c.args.item here.0) (c.if-is_reader.ensures here.0 here.1), tt))

pub returns : goal.returns
returns c = λ e.
    let seats = c.args.lanes.now.seats in
    let le : length seats ≤ c.loop-place.place = omega (arith, c.loop-place-test.false, c.len-place-end.ensures.len) in
    inr (subst (AllByRecursion (λ (r : Seat). r.number ≢ c.args.writer → has_read c.args.item r ≡ false)) (take_all c.loop-place.place seats le) c.loop-place.invariant)
