-- A withdrawal.
use Rattle.std.proofs.Common.{◌≡◌, ℕ, suc, ◌+◌, ◌≤◌, ◌==◌, true, false, not, List, [], map, filter, length, Some, refl, ap, sym, subst, ◌∙◌, arith}
use Rattle.std.specs.List.{AllByRecursion, AllZip, list_any}
use Rattle.std.proofs.lemmas.Bool.{cases_Bool, and_from, not_from_false}
use Rattle.txn_runs.specs.Run.{Tables}
use Rattle.journal_core.specs.declared.entry.Entry.TheVariants.{Withdrawn}
use Rattle.journal_core.specs.Recorded.{Recorded}
use Rattle.journal_core.specs.Journal.{is_live, is_sealed, program_of}
use Rattle.forest_model.specs.Forest.{Started, Forest, wanted, find_started, is_started}
use Rattle.forest_model.specs.Settle.{settle}
use Rattle.forest_model.specs.Start.{waits, numbers, next_to_start, start_waiting}
use Rattle.forest_model.specs.Events.{gone, withdrawn}
use Rattle.forest_model.specs.Sound.{IsSound, StandsFor}
use Rattle.forest_model.proofs.Lists.{either, all-both, all-filter}
use Rattle.forest_model.proofs.RestLaws.{wanted-apart}
use Rattle.forest_model.proofs.StartedLaws.{is_started-without, length-filter-le}
use Rattle.forest_model.proofs.CommitLaws.{withdrawn-sound}
use Rattle.shadow_lanes.specs.Seats.{Seat, Seated, conflicts_of, shadow_of, started_of, seats_without}
use Rattle.shadow_forest.specs.declared.txn.Txn.{Txn}
use Rattle.shadow_forest.specs.View.{View, withdraw_view}
use Rattle.shadow_forest.specs.Kept.{forest_of, SeatStands, IsForest, owed}
use Rattle.shadow_forest.proofs.SettledForest.{all_unmapped, found_each}
use Rattle.shadow_forest.proofs.Starting.{IsSelf, IsUnstarted}
use Rattle.shadow_forest.proofs.BeginningEntry.{pushed, txns_other}
use Rattle.shadow_forest.proofs.Ending.{Ends, withdrawal_ends, IsOneLess, fewer, within_more, sealed_same, stand_same, waiting_less, among_waiting, without_numbers, seats_fewer}

-- each transaction of a forest has its shadows, which stand for what it has noted
pub record IsFit (r : Seat) : Type 0 where
  pub fits : AllZip StandsFor (map shadow_of r.waiters) (conflicts_of r)

pub selves : (journal : Recorded) (d : Tables) (kept : List Txn) (queue : List ℕ) (s : Seated) → IsForest journal d kept queue s → AllByRecursion (IsSelf (map started_of s.seats)) s.seats
selves journal d kept queue s h =
    let f : Forest = forest_of journal d s in
    let fit : AllByRecursion IsFit s.seats =
    all-both (λ (x : Seat). conflicts_of x ≡ wanted f (started_of x)) (λ (x : Seat). AllZip StandsFor (map shadow_of x.waiters) (wanted f (started_of x))) IsFit
    (λ x noted fits. record { fits = subst (AllZip StandsFor (map shadow_of x.waiters)) (sym noted) fits }) s.seats h.noted
    (all_unmapped (λ (r : Started). AllZip StandsFor r.shadows (wanted f r)) started_of s.seats h.sound.settled)
    in
    all-both (λ (x : Seat). conflicts_of x ≡ wanted f (started_of x)) (λ (x : Seat). IsFit x × (find_started (map started_of s.seats) x.number ≡ Some (started_of x))) (IsSelf (map started_of s.seats))
    (λ x noted both. record { apart = rw noted (wanted-apart f (started_of x) h.sound.right.rising); fits = both.0.fits; found = both.1 }) s.seats h.noted
    (all-both IsFit (λ (x : Seat). find_started (map started_of s.seats) x.number ≡ Some (started_of x)) (λ (x : Seat). IsFit x × (find_started (map started_of s.seats) x.number ≡ Some (started_of x)))
    (λ x a b. (a, b)) s.seats fit (found_each s.seats h.sound.right.rising))

module _ (journal : Recorded) (d : Tables) (kept : List Txn) (queue : List ℕ) (s : Seated) (t spare : ℕ) (h : IsForest journal d kept queue s) (live : is_live journal.entries t ≡ true) (open_yet : is_sealed journal.entries ≡ false) (room : spare + 1 ≡ journal.spare) where
  -- in numbers the transaction is gone
  pub left_forest : forest_of (pushed journal (Withdrawn t) spare) d (record s { seats = seats_without t s.seats }) ≡ gone (forest_of journal d s) t
  left_forest = ap (λ rs. record (forest_of (pushed journal (Withdrawn t) spare) d s) { started = rs }) (without_numbers t s.seats)

  left_less : IsOneLess t (Withdrawn t) (forest_of journal d s) (gone (forest_of journal d s) t)
  left_less = record { ends = withdrawal_ends t; journal_is = refl; others = λ u ne. is_started-without t u (map started_of s.seats) ne }

  left_owed : suc (length (seats_without t s.seats) + length (filter (λ u. not (u == t)) queue)) ≤ length s.seats + length queue
  left_owed =
      either (cases_Bool (is_started (map started_of s.seats) t))
      (λ started. let less : suc (length (seats_without t s.seats)) ≤ length s.seats = seats_fewer t s.seats started in omega (arith, less, length-filter-le (λ u. not (u == t)) queue))
      (λ idle.
      let w : waits (forest_of journal d s) t ≡ true = and_from _ _ live (not_from_false _ idle) in
      let here : list_any (λ n. n == t) queue ≡ true = rw h.waiting (among_waiting (forest_of journal d s) t w live) in
      let less : suc (length (filter (λ u. not (u == t)) queue)) ≤ length queue = fewer (λ u. u == t) queue here in
      omega (arith, less, length-filter-le (λ (r : Seat). not (r.number == t)) s.seats))

  pub left_keeps : IsUnstarted (pushed journal (Withdrawn t) spare) d kept (filter (λ u. not (u == t)) queue) (record s { seats = seats_without t s.seats }) (map started_of s.seats)
  left_keeps =
      let f : Forest = forest_of journal d s in
      let ends : Ends t (Withdrawn t) = withdrawal_ends t in
      let sound : IsSound (settle f.started (start_waiting (gone f t))) = withdrawn-sound f h.sound t live open_yet in
      record {
        sound = subst (λ g. IsSound (settle (map started_of s.seats) (start_waiting g))) (sym left_forest) sound;
        least = h.least;
        most = h.most;
        items = h.items;
        size = h.size;
        within = within_more s.items t journal.entries (Withdrawn t) ends h.within;
        stand = stand_same t journal.entries (Withdrawn t) d (seats_without t s.seats) ends (all-filter (λ (r : Seat). SeatStands (program_of journal.entries r.number) d r) (λ (r : Seat). not (r.number == t)) s.seats h.stand);
        each = all-filter (IsSelf (map started_of s.seats)) (λ (r : Seat). not (r.number == t)) s.seats (selves journal d kept queue s h);
        txns = txns_other s.items journal.entries (Withdrawn t) kept ends.begin ends.begins h.txns;
        waiting = ap (filter (λ u. not (u == t))) h.waiting ∙ waiting_less t (Withdrawn t) f (gone f t) left_less ∙ ap (λ (g : Forest). filter (waits g) (numbers g.journal)) (sym left_forest);
        spare =
            let old : owed (length s.seats) (length queue) (is_sealed journal.entries) ≤ journal.spare = h.spare in
            rw (sealed_same t journal.entries (Withdrawn t) ends) (omega (arith, old, left_owed, room));
      }

-- the view after an accepted withdrawal
pub withdraw_view_is : (v : View) (t : ℕ) → is_live v.numbers.journal t ≡ true → is_sealed v.numbers.journal ≡ false
    → withdraw_view v t ≡ record { numbers = withdrawn v.numbers t; resumed = []; starts = next_to_start (gone v.numbers t) }
withdraw_view_is v t live open_yet = rw (live, open_yet) refl
