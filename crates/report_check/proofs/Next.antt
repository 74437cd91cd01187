-- Which lines may follow those that were taken in.
use Rattle.std.proofs.Common.{◌≡◌, ◌⊎◌, inl, inr, ℕ, zero, suc, ◌+◌, ◌-◌, ◌<◌, ◌≤◌, ◌^◌, true, false, List, [], ◌∷◌, ◌++◌, length, map, take, drop, get_or, Some, slice_get, refl, sym, ap, ◌∙◌, subst, append_assoc, length-append, arith, true≢false}
use Rattle.std.specs.List.{zip}
use Rattle.std.proofs.lemmas.List.{append-nil, append_cancel_left, take-append-drop}
use Rattle.std.proofs.lemmas.List.Elements.{filter_map-append}
use Rattle.txn_runs.specs.Run.{Tables}
use Rattle.txn_runs.specs.Serial.{outcome_of, effect_of, over, outcomes, last_tables}
use Rattle.txn_runs.specs.declared.program.Program.{Program}
use Rattle.txn_names.specs.Tables.{Named, IsNames}
use Rattle.scc_text.specs.Lines.{lines_of}
use Rattle.journal_core.specs.Numbered.{program_named}
use Rattle.report_text.specs.Order.{commit_number, NamesEachOnce, NumbersFit}
use Rattle.report_text.specs.Report.{numbered, in_order, report}
use Rattle.report_text.specs.Rows.{commit_row, commit_rows, final_rows, end_row, order_rows, last_rows, report_rows}
use Rattle.report_text.proofs.Told.{commits-named, last-named, rows-named, report-lines}
use Rattle.report_text.proofs.Fits.{tables-fit, once-fits}
use Rattle.report_check.specs.Judging.{IsBegun}
use Rattle.report_check.specs.Reports.{named_in, AreReport}
use Rattle.report_check.specs.Checked.{Held, IsSound, Stands, IsNext, IsLast}
use Rattle.report_check.proofs.Flags.{all-set, set-all}
use Rattle.report_check.proofs.Orders.{is_in, AreWithin, distinct-behind, in-append, in-first, program-at}

-- Commits of an order and of what comes behind it.

pub last-append : (tables : Tables) (f : ℕ → Program) (xs ys : List ℕ) → last_tables tables (map f (xs ++ ys)) ≡ last_tables (last_tables tables (map f xs)) (map f ys)
last-append tables f [] ys = refl
last-append tables f (x ∷ xs) ys = last-append (over (effect_of (f x) tables) tables) f xs ys

pub commits-append : (tables : Tables) (f : ℕ → Program) (xs ys : List ℕ) → commit_rows (zip (xs ++ ys) (outcomes tables (map f (xs ++ ys))))
    ≡ commit_rows (zip xs (outcomes tables (map f xs))) ++ commit_rows (zip ys (outcomes (last_tables tables (map f xs)) (map f ys)))
commits-append tables f [] ys = refl
commits-append tables f (x ∷ xs) ys = ap (λ rows. commit_row x (outcome_of (f x) tables) ∷ rows) (commits-append (over (effect_of (f x) tables) tables) f xs ys)

-- the lines of a report behind those of the commits that its order begins with
abbrev pub rows_behind : List Named → Tables → List Program → ℕ → List ℕ → List (List ℕ)
rows_behind names tables programs before behind = order_rows tables programs behind ++ last_rows names (last_tables tables (in_order programs behind)) (before + length behind)

pub report-append : (names : List Named) (opening : Tables) (programs : List Program) (xs ys : List ℕ)
    → report_rows names opening programs (xs ++ ys) ≡ order_rows opening programs xs ++ rows_behind names (last_tables opening (in_order programs xs)) programs (length xs) ys
report-append names opening programs xs ys =
    let f : ℕ → Program = program_named (numbered 1 programs) in
    let mid : Tables = last_tables opening (map f xs) in
    let last : Tables = last_tables mid (map f ys) in
    ap (λ rows. rows ++ last_rows names (last_tables opening (map f (xs ++ ys))) (length (xs ++ ys))) (commits-append opening f xs ys)
    ∙ ap (λ t. (order_rows opening programs xs ++ order_rows mid programs ys) ++ last_rows names t (length (xs ++ ys))) (last-append opening f xs ys)
    ∙ ap (λ n. (order_rows opening programs xs ++ order_rows mid programs ys) ++ last_rows names last n) (length-append xs ys)
    ∙ append_assoc (order_rows opening programs xs) (order_rows mid programs ys) (last_rows names last (length xs + length ys))

-- how many lines come behind the commits

finals-many : (tables : Tables) (base : ℕ) (names : List Named) → length (final_rows tables base names) ≡ length names
finals-many tables base [] = refl
finals-many tables base (t ∷ names) = ap suc (finals-many tables (base + t.1) names)

pub last-many : (names : List Named) (tables : Tables) (n : ℕ) → length (last_rows names tables n) ≡ length names + 1
last-many names tables n = length-append (final_rows tables 0 names) (end_row n ∷ []) ∙ ap (λ k. k + 1) (finals-many tables 0 names)

-- Reports.

pub reports : (names : List Named) (opening : Tables) (programs : List Program) (order : List ℕ) (rows : List (List ℕ)) → IsNames names → length programs < 2 ^ 32 → NamesEachOnce (length programs) order
    → rows ≡ report_rows names opening programs order → AreReport names opening programs rows
reports names opening programs order rows plain few once is =
    let small : NumbersFit order = once-fits (length programs) order (omega (arith, few)) once in
    let named : named_in rows ≡ order = ap named_in is ∙ rows-named names opening programs order small in
    record {
      whole = is ∙ sym (report-lines names opening programs order (tables-fit names plain.tables)) ∙ ap (λ o. lines_of (report names opening programs o)) (sym named);
      once = subst (NamesEachOnce (length programs)) (sym named) once;
    }

nothing-first : {A : Type 0} (xs ys : List A) → xs ++ ys ≡ [] → xs ≡ []
nothing-first [] ys e = refl
nothing-first (x ∷ xs) ys e = absurd (cc)

-- lines that name nothing, cut
unnamed-take : (n : ℕ) (rows : List (List ℕ)) → named_in rows ≡ [] → named_in (take n rows) ≡ []
unnamed-take n rows none =
    nothing-first (named_in (take n rows)) (named_in (drop n rows)) (sym (filter_map-append commit_number (take n rows) (drop n rows)) ∙ ap named_in (take-append-drop n rows) ∙ none)

-- What stands, and lines behind it that make a report of it: the order goes on.
pub record Onward (names : List Named) (programs : List Program) (h : Held) (order : List ℕ) (more : List (List ℕ)) : Type 0 where
  pub behind : List ℕ
  pub once : NamesEachOnce (length programs) (order ++ behind)
  pub rows : take h.told (last_rows names h.table (length order)) ++ more ≡ rows_behind names h.table programs (length order) behind

pub onward : (names : List Named) (opening : Tables) (programs : List Program) (h : Held) (lines more : List (List ℕ)) → IsNames names → length programs < 2 ^ 32
    → (s : Stands names opening programs h lines) → AreReport names opening programs (lines ++ more) → Onward names programs h s.order more
onward names opening programs h lines more plain few s r =
    let order : List ℕ = s.order in
    let f : ℕ → Program = program_named (numbered 1 programs) in
    let told : List (List ℕ) = take h.told (last_rows names h.table (length order)) in
    let behind : List ℕ = named_in more in
    let small : NumbersFit order = within-fits order s.within in
    let here : named_in lines ≡ order =
    ap named_in s.rows ∙ commits-named opening f order told small ∙ ap (λ x. order ++ x) (unnamed-take h.told (last_rows names h.table (length order)) (last-named names h.table (length order))) ∙ append-nil order in
    let all : named_in (lines ++ more) ≡ order ++ behind = filter_map-append commit_number lines more ∙ ap (λ x. x ++ behind) here in
    let whole : lines ++ more ≡ report_rows names opening programs (order ++ behind) =
    r.whole ∙ report-lines names opening programs (named_in (lines ++ more)) (tables-fit names plain.tables) ∙ ap (report_rows names opening programs) all in
    let cut : order_rows opening programs order ++ (told ++ more) ≡ order_rows opening programs order ++ rows_behind names h.table programs (length order) behind =
    sym (append_assoc (order_rows opening programs order) told more) ∙ ap (λ x. x ++ more) (sym s.rows) ∙ whole ∙ report-append names opening programs order behind
    ∙ ap (λ t. order_rows opening programs order ++ rows_behind names t programs (length order) behind) (sym s.serial) in
    record {
      behind = behind;
      once = subst (NamesEachOnce (length programs)) all r.once;
      rows = append_cancel_left (order_rows opening programs order) (told ++ more) (rows_behind names h.table programs (length order) behind) cut;
    }
  where
    within-fits : (order : List ℕ) → AreWithin (length programs) order → NumbersFit order
    within-fits [] w = tt
    within-fits (t ∷ order) w = (let most = w.0.1 in omega (arith, most, few), within-fits order w.1)

-- All programs are committed exactly where each number is in the order.

pub all-in : (names : List Named) (opening : Tables) (programs : List Program) (h : Held) (lines : List (List ℕ)) → IsSound names programs h → (s : Stands names opening programs h lines)
    → h.commits ≡ length programs → (t : ℕ) → 1 ≤ t → t ≤ length programs → is_in t s.order ≡ true
all-in names opening programs h lines sound s all t some most =
    let many = sound.many in
    sym (s.each t some most) ∙ all-set h.taken (t - 1) (omega (arith, sound.counted, all, many)) (omega (arith, some, most, many))

in-all : (names : List Named) (opening : Tables) (programs : List Program) (h : Held) (lines : List (List ℕ)) → IsSound names programs h → (s : Stands names opening programs h lines)
    → ((t : ℕ) → 1 ≤ t → t ≤ length programs → is_in t s.order ≡ true) → h.commits ≡ length h.taken
in-all names opening programs h lines sound s each =
    let many = sound.many in
    let flags = set-all h.taken (λ i within.
    let same : i + 1 - 1 ≡ i = omega arith in
    sym (ap (λ k. get_or h.taken k false) same) ∙ s.each (i + 1) (omega arith) (omega (arith, within, many)) ∙ each (i + 1) (omega arith) (omega (arith, within, many))) in
    omega (arith, sound.counted, flags)

-- The next line.

get-next : (rows more : List (List ℕ)) (line : List ℕ) (n : ℕ) → n ≤ length rows → take n rows ++ line ∷ more ≡ rows → slice_get rows n ≡ Some line
get-next [] more line zero within e = absurd (cc)
get-next (r ∷ rows) more line zero within e = cc
get-next [] more line (suc n) within e = absurd (omega (arith, within))
get-next (r ∷ rows) more line (suc n) within e = get-next rows more line n (omega (arith, within)) (cc)

-- Lines that begin a report: the next one is the commit of a program that isn't committed yet, or comes behind those of all.
pub next-of : (names : List Named) (opening : Tables) (programs : List Program) (h : Held) (lines : List (List ℕ)) (line : List ℕ) → IsNames names → IsSound names programs h → (s : Stands names opening programs h lines)
    → IsBegun (AreReport names opening programs) (lines ++ line ∷ []) → ((h.told ≡ 0) × ((t : ℕ) × IsNext programs h line t)) ⊎ IsLast names h line
next-of names opening programs h lines line plain sound s begun =
    let report : AreReport names opening programs (lines ++ line ∷ begun.0) = subst (AreReport names opening programs) (append_assoc lines (line ∷ []) begun.0) begun.1 in
    let o = onward names opening programs h lines (line ∷ begun.0) plain sound.few s report in
    by o.behind o.once o.rows
  where
    by : (behind : List ℕ) → NamesEachOnce (length programs) (s.order ++ behind) → take h.told (last_rows names h.table (length s.order)) ++ line ∷ begun.0 ≡ rows_behind names h.table programs (length s.order) behind
        → ((h.told ≡ 0) × ((t : ℕ) × IsNext programs h line t)) ⊎ IsLast names h line
    by [] once rows =
        let each : (t : ℕ) → 1 ≤ t → t ≤ length programs → is_in t s.order ≡ true =
        λ t some most. ap (is_in t) (sym (append-nil s.order)) ∙ (once.each t).1 (some, most) in
        let size : length s.order + 0 ≡ length s.order = omega arith in
        let last : take h.told (last_rows names h.table (length s.order)) ++ line ∷ begun.0 ≡ last_rows names h.table (length s.order) = rows ∙ ap (last_rows names h.table) size in
        inr (record {
          all = in-all names opening programs h lines sound s each;
          row = ap (λ n. slice_get (last_rows names h.table n) h.told) s.count ∙ get-next (last_rows names h.table (length s.order)) begun.0 line h.told (let told = sound.told in omega (arith, told, last-many names h.table (length s.order))) last;
        })
    by (t ∷ behind) once rows =
        let there : is_in t (s.order ++ t ∷ behind) ≡ true = in-append t s.order (t ∷ behind) (in-first t behind) in
        let within = (once.each t).0 there in
        let apart : is_in t s.order ≡ false = distinct-behind s.order t behind once.distinct in
        let start : h.told ≡ 0 = none-told h.told (λ some. true≢false (sym (all-in names opening programs h lines sound s (s.ripe some) t within.0 within.1) ∙ apart)) in
        let first : line ∷ begun.0 ≡ rows_behind names h.table programs (length s.order) (t ∷ behind) = ap (λ n. take n (last_rows names h.table (length s.order)) ++ line ∷ begun.0) (sym start) ∙ rows in
        let named : program_named (numbered 1 programs) t ≡ get_or programs (t - 1) [] = program-at 1 programs t within.0 (let most = within.1 in omega (arith, most)) in
        inl (
          start,
          (
            t,
            record {
              some = within.0;
              most = within.1;
              free = s.each t within.0 within.1 ∙ apart;
              row = first-of line begun.0 _ _ first ∙ ap (λ p. commit_row t (outcome_of p h.table)) named;
            },
          ),
        )
      where
        none-told : (n : ℕ) → (0 < n → ⊥) → n ≡ 0
        none-told zero h = refl
        none-told (suc n) h = absurd (h (omega arith))

        first-of : (a : List ℕ) (x : List (List ℕ)) (b : List ℕ) (y : List (List ℕ)) → a ∷ x ≡ b ∷ y → a ≡ b
        first-of a x b y e = cc
