-- One more started transaction, at its start.
use Rattle.std.proofs.Common.{◌≡◌, ℕ, ◌==◌, Bool, false, List, [], ◌∷◌, length, map, None, refl, sym, ◌∙◌}
use Rattle.std.proofs.lemmas.Bool.{cases_Bool, or_parts}
use Rattle.txn_runs.specs.Run.{Tables}
use Rattle.txn_code.specs.declared.node.Node.{Node}
use Rattle.txn_code.specs.Nodes.{nodes_of}
use Rattle.journal_core.specs.declared.entry.Entry.{Entry}
use Rattle.journal_core.specs.Recorded.{Recorded}
use Rattle.journal_core.specs.Journal.{program_of}
use Rattle.forest_model.specs.Choose.{put_in_order}
use Rattle.forest_model.specs.Forest.{Forest, wanted, is_started}
use Rattle.forest_model.specs.Start.{fresh}
use Rattle.forest_model.proofs.Lists.{either, all-both}
use Rattle.forest_model.proofs.StartedLaws.{below, all-put}
use Rattle.shadow_lanes.specs.Seats.{Seat, Seated, conflicts_of, started_of, find_seat, comes_before, fresh_seat, seats_with}
use Rattle.indexed_lanes.proofs.Renewed.{nothing_wanted, wanted_with}
use Rattle.shadow_forest.specs.Kept.{forest_of, SeatStands, AllStand, AllNoted}
use Rattle.shadow_forest.proofs.Seating.{fresh_stands}
use Rattle.shadow_forest.proofs.Wanting.{wanted_are}

-- what is put in order is put in order in another view of the elements, where the orders agree
pub map_put : {X Y : Type 0} (g : X → Y) (before : X → X → Bool) (before' : Y → Y → Bool) → ((x y : X) → before' (g x) (g y) ≡ before x y) → (x : X) (xs : List X)
    → map g (put_in_order before x xs) ≡ put_in_order before' (g x) (map g xs)
map_put g before before' h x [] = refl
map_put g before before' h x (y ∷ ys) =
    either (cases_Bool (before y x))
    (λ e. rw (e, h y x ∙ e, map_put g before before' h x ys) refl)
    (λ e. rw (e, h y x ∙ e) refl)

-- in numbers it is at its start
pub started_with : (t : ℕ) (nodes : List Node) (items : ℕ) (seats : List Seat) → map started_of (seats_with t nodes items seats) ≡ put_in_order below (fresh t) (map started_of seats)
started_with t nodes items seats = map_put started_of comes_before below (λ x y. refl) (fresh_seat t nodes items) seats

-- who is not started has no seat
pub not_found : (seats : List Seat) (t : ℕ) → is_started (map started_of seats) t ≡ false → find_seat seats t ≡ None
not_found [] t h = refl
not_found (x ∷ seats) t h =
    let parts = or_parts (x.number == t) (is_started (map started_of seats) t) h in
    let other : x.number == t ≡ false = parts.0 in
    rw other (not_found seats t parts.1)

-- all states stand with its state
pub stand_with : (journal : List Entry) (d : Tables) (t : ℕ) (nodes : List Node) (items : ℕ) (seats : List Seat) → nodes ≡ nodes_of (program_of journal t) → items ≡ length d → AllStand journal d seats
    → AllStand journal d (seats_with t nodes items seats)
stand_with journal d t nodes items seats code size stand =
    all-put (λ (r : Seat). SeatStands (program_of journal r.number) d r) comes_before (fresh_seat t nodes items) seats
    (record { optimistic = fresh_stands (program_of journal t) d nodes items code size; waiters = tt }) stand

-- and all have noted what they want: it wants nothing
pub noted_with : (journal : Recorded) (d : Tables) (s : Seated) (t : ℕ) (nodes : List Node) → nodes ≡ nodes_of (program_of journal.entries t) → s.items ≡ length d → AllStand journal.entries d s.seats
    → AllNoted (forest_of journal d s) s.seats → AllNoted (forest_of journal d (record s { seats = seats_with t nodes s.items s.seats })) (seats_with t nodes s.items s.seats)
noted_with journal d s t nodes code size stand noted =
    let s' : Seated = record s { seats = seats_with t nodes s.items s.seats } in
    let f' : Forest = forest_of journal d s' in
    let stand' : AllStand journal.entries d s'.seats = stand_with journal.entries d t nodes s.items s.seats code size stand in
    all-put (λ (r : Seat). conflicts_of r ≡ wanted f' (started_of r)) comes_before (fresh_seat t nodes s.items) s.seats
    (sym (nothing_wanted s.most t nodes s.items s'.seats) ∙ wanted_are journal d s' (fresh_seat t nodes s.items) stand' (fresh_stands (program_of journal.entries t) d nodes s.items code size))
    (all-both (λ (r : Seat). SeatStands (program_of journal.entries r.number) d r) (λ (r : Seat). conflicts_of r ≡ wanted (forest_of journal d s) (started_of r)) (λ (r : Seat). conflicts_of r ≡ wanted f' (started_of r))
    (λ r of_r old. old ∙ sym (wanted_are journal d s r stand of_r.optimistic) ∙ sym (wanted_with s.most t nodes s.items s.seats r) ∙ wanted_are journal d s' r stand' of_r.optimistic)
    s.seats stand noted)
