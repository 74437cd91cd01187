-- What a forest keeps where one more entry ends a transaction.
use Rattle.std.proofs.Common.{◌≡◌, ◌≢◌, ℕ, suc, ◌≤◌, ◌==◌, Bool, true, false, not, ◌&&◌, List, [], ◌∷◌, ◌++◌, map, filter, length, None, refl, ap, sym, ◌∙◌, arith, eqb-true, eq-eqb, true≢false}
use Rattle.std.specs.List.{AllByRecursion, list_any}
use Rattle.std.proofs.lemmas.Bool.{cases_Bool, ne_eqb, or_cases, or_right}
use Rattle.txn_runs.specs.Run.{Tables}
use Rattle.txn_runs.specs.declared.outcome.Outcome.{Outcome}
use Rattle.journal_core.specs.declared.entry.Entry.{Entry}
use Rattle.journal_core.specs.declared.entry.Entry.TheVariants.{Withdrawn, Committed}
use Rattle.journal_core.specs.Journal.{is_begin, is_begin_of, is_end_of, is_seal, is_live, is_sealed, program_of}
use Rattle.journal_core.proofs.Legal.{is_sealed-push, begun-live, program_of-other, live-other, live-ended}
use Rattle.forest_model.specs.Forest.{Started, Forest, is_started}
use Rattle.forest_model.specs.Start.{number_in, numbers, waits, without}
use Rattle.forest_model.proofs.Lists.{either, all-weaken, all-append, list_any-map}
use Rattle.forest_model.proofs.StartedLaws.{length-filter-le}
use Rattle.forest_model.proofs.CommitLaws.{numbers_begun}
use Rattle.forest_model.proofs.DrainLaws.{numbers-push}
use Rattle.shadow_lanes.specs.Seats.{Seat, started_of, seats_without}
use Rattle.shadow_forest.specs.Answers.{IsWithin}
use Rattle.shadow_forest.specs.Kept.{SeatStands, AllStand}
use Rattle.shadow_forest.proofs.Starting.{filter_twice}

-- the entry ends t, and does nothing else
pub record Ends (t : ℕ) (e : Entry) : Type 0 where
  pub begins : (u : ℕ) → is_begin_of u e ≡ false
  pub begin : is_begin e ≡ false
  pub ends : (u : ℕ) → is_end_of u e ≡ (t == u)
  pub number : number_in e ≡ None
  pub seal : is_seal e ≡ false
  pub within : (items : ℕ) → IsWithin items e

pub withdrawal_ends : (t : ℕ) → Ends t (Withdrawn t)
withdrawal_ends t = record { begins = λ u. refl; begin = refl; ends = λ u. refl; number = refl; seal = refl; within = λ items. tt }

pub commit_ends : (t : ℕ) (reply : Outcome) → Ends t (Committed t reply)
commit_ends t reply = record { begins = λ u. refl; begin = refl; ends = λ u. refl; number = refl; seal = refl; within = λ items. tt }

-- One less.

pub fewer : {X : Type 0} (test : X → Bool) (xs : List X) → list_any test xs ≡ true → suc (length (filter (λ x. not (test x)) xs)) ≤ length xs
fewer test [] h = cc
fewer test (x ∷ xs) h =
    either (cases_Bool (test x))
    (λ e. rw e (omega (arith, length-filter-le (λ y. not (test y)) xs)))
    (λ e. let rest : list_any test xs ≡ true = rw e at h in rw e (let less : suc (length (filter (λ y. not (test y)) xs)) ≤ length xs = fewer test xs rest in omega (arith, less)))

among_filter : (p : ℕ → Bool) (t : ℕ) (ns : List ℕ) → p t ≡ true → list_any (λ n. n == t) ns ≡ true → list_any (λ n. n == t) (filter p ns) ≡ true
among_filter p t [] passes h = cc
among_filter p t (n ∷ ns) passes h =
    either (or_cases (n == t) (list_any (λ m. m == t) ns) h)
    (λ here. let same : p n ≡ true = ap p (eqb-true n t here) ∙ passes in rw (same, here) refl)
    (λ later.
    let more : list_any (λ m. m == t) (filter p ns) ≡ true = among_filter p t ns passes later in
    either (cases_Bool (p n)) (λ e. rw e (or_right _ _ more)) (λ e. rw e more))

-- The entries.

pub within_more : (items t : ℕ) (journal : List Entry) (e : Entry) → Ends t e → AllByRecursion (IsWithin items) journal → AllByRecursion (IsWithin items) (journal ++ e ∷ [])
within_more items t journal e h all = all-append (IsWithin items) journal (e ∷ []) all (h.within items, tt)

pub sealed_same : (t : ℕ) (journal : List Entry) (e : Entry) → Ends t e → is_sealed (journal ++ e ∷ []) ≡ is_sealed journal
sealed_same t journal e h = rw (is_sealed-push, h.seal) (grind arith)

pub stand_same : (t : ℕ) (journal : List Entry) (e : Entry) (d : Tables) (seats : List Seat) → Ends t e → AllStand journal d seats → AllStand (journal ++ e ∷ []) d seats
stand_same t journal e d seats ends h =
    all-weaken (λ (r : Seat). SeatStands (program_of journal r.number) d r) (λ (r : Seat). SeatStands (program_of (journal ++ e ∷ []) r.number) d r)
    (λ r stands. rw (program_of-other journal e r.number (ends.begins r.number)) stands) seats h

-- Those that wait.

-- in g t is not started any more, and has ended
pub record IsOneLess (t : ℕ) (e : Entry) (f g : Forest) : Type 0 where
  pub ends : Ends t e
  pub journal_is : g.journal ≡ f.journal ++ e ∷ []
  pub others : (u : ℕ) → t ≢ u → is_started g.started u ≡ is_started f.started u

waits_other : (t : ℕ) (e : Entry) (f g : Forest) (u : ℕ) → IsOneLess t e f g → t ≢ u → waits g u ≡ waits f u
waits_other t e f g u h ne =
    let live : is_live g.journal u ≡ is_live f.journal u = ap (λ j. is_live j u) h.journal_is ∙ live-other f.journal e u (h.ends.begins u) (h.ends.ends u ∙ ne_eqb t u ne) in
    rw (live, h.others u ne) refl

ended_waits_not : (t : ℕ) (e : Entry) (f g : Forest) → IsOneLess t e f g → waits g t ≡ false
ended_waits_not t e f g h =
    let dead : is_live g.journal t ≡ false = ap (λ j. is_live j t) h.journal_is ∙ live-ended f.journal e t (h.ends.ends t ∙ eq-eqb t t refl) in
    rw dead refl

one_waits_less : (t : ℕ) (e : Entry) (f g : Forest) (u : ℕ) → IsOneLess t e f g → (not (u == t) && waits f u) ≡ waits g u
one_waits_less t e f g u h =
    either (cases_Bool (u == t))
    (λ q. let no : waits g u ≡ false = ap (waits g) (eqb-true u t q) ∙ ended_waits_not t e f g h in rw (q, no) refl)
    (λ q. rw q (sym (waits_other t e f g u h (λ z. true≢false (sym (eq-eqb u t (sym z)) ∙ q)))))

numbers_same : (t : ℕ) (e : Entry) (f g : Forest) → IsOneLess t e f g → numbers g.journal ≡ numbers f.journal
numbers_same t e f g h = ap numbers h.journal_is ∙ numbers-push f.journal e h.ends.number

-- all but t wait as they did
pub waiting_less : (t : ℕ) (e : Entry) (f g : Forest) → IsOneLess t e f g → filter (λ u. not (u == t)) (filter (waits f) (numbers f.journal)) ≡ filter (waits g) (numbers g.journal)
waiting_less t e f g h =
    filter_twice (waits f) (λ u. not (u == t)) (waits g) (λ u. one_waits_less t e f g u h) (numbers f.journal)
    ∙ ap (filter (waits g)) (sym (numbers_same t e f g h))

started_waits : (t : ℕ) (e : Entry) (f g : Forest) (u : ℕ) → IsOneLess t e f g → is_started f.started t ≡ true → waits f u ≡ waits g u
started_waits t e f g u h started =
    either (cases_Bool (u == t))
    (λ q.
    let idle : waits f u ≡ false = ap (waits f) (eqb-true u t q) ∙ rw started (grind arith) in
    let no : waits g u ≡ false = ap (waits g) (eqb-true u t q) ∙ ended_waits_not t e f g h in
    idle ∙ sym no)
    (λ q. sym (waits_other t e f g u h (λ z. true≢false (sym (eq-eqb u t (sym z)) ∙ q))))

filter_like : (p q : ℕ → Bool) → ((x : ℕ) → p x ≡ q x) → (xs : List ℕ) → filter p xs ≡ filter q xs
filter_like p q h [] = refl
filter_like p q h (x ∷ xs) = rw (h x, filter_like p q h xs) refl

-- where t was started the same wait
pub waiting_same : (t : ℕ) (e : Entry) (f g : Forest) → IsOneLess t e f g → is_started f.started t ≡ true → filter (waits f) (numbers f.journal) ≡ filter (waits g) (numbers g.journal)
waiting_same t e f g h started =
    filter_like (waits f) (waits g) (λ u. started_waits t e f g u h started) (numbers f.journal)
    ∙ ap (filter (waits g)) (sym (numbers_same t e f g h))

-- who waits is among those that wait
pub among_waiting : (f : Forest) (t : ℕ) → waits f t ≡ true → is_live f.journal t ≡ true → list_any (λ n. n == t) (filter (waits f) (numbers f.journal)) ≡ true
among_waiting f t w live = among_filter (waits f) t (numbers f.journal) w (numbers_begun f.journal t (begun-live f.journal t live))

-- The seats.

-- in numbers the others are left
pub without_numbers : (t : ℕ) (xs : List Seat) → map started_of (seats_without t xs) ≡ without t (map started_of xs)
without_numbers t [] = refl
without_numbers t (x ∷ xs) =
    either (cases_Bool (x.number == t))
    (λ e. rw e (without_numbers t xs))
    (λ e. rw e (ap (λ ys. started_of x ∷ ys) (without_numbers t xs)))

-- one seat less
pub seats_fewer : (t : ℕ) (xs : List Seat) → is_started (map started_of xs) t ≡ true → suc (length (seats_without t xs)) ≤ length xs
seats_fewer t xs h = fewer (λ (r : Seat). r.number == t) xs (sym (list_any-map (λ (r : Started). r.number == t) started_of xs) ∙ h)
