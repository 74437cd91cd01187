-- The final lines, one table after another.
use Rattle.std.proofs.Common.{◌≡◌, ℕ, suc, ◌+◌, ◌≤◌, ◌++◌, List, [], ◌∷◌, take, drop, refl, ap, sym, ◌∙◌, slice_range, Option, None, Some, add-one, arith}
use Rattle.std.specs.Option.{option_map}
use Rattle.txn_runs.specs.declared.program.TableRef.{TableRef}
use Rattle.std.proofs.Math.Seq.{drop-cons, take-suc}
use Rattle.std.specs.List.{slice_get}
use Rattle.std.proofs.lemmas.Option.{slice_get_within, get_or_from_slice_get}
use Rattle.std.proofs.lemmas.List.Sums.{sum_by-append, sum_by-take-le}
use Rattle.txn_runs.specs.Run.{Tables}
use Rattle.txn_names.specs.Tables.{Named, items_of, table_at}
use Rattle.scc_replies.specs.Finals.{final_lines}
use Rattle.scc_replies.specs.Lines.{final_line}

-- the lines of the tables from this number on
abbrev pub finals_from : Tables → List Named → ℕ → List ℕ
finals_from tables names number = final_lines tables (items_of (take number names)) (drop number names)

take-next : (names : List Named) (n : ℕ) (table : Named) → slice_get names n ≡ Some table → take (n + 1) names ≡ take n names ++ table ∷ []
take-next names n table is =
    rw add-one (take-suc names n table (slice_get_within names n table is) ∙ ap (λ t. take n names ++ t ∷ []) (get_or_from_slice_get names n table table is))

drop-next : (names : List Named) (n : ℕ) (table : Named) → slice_get names n ≡ Some table → drop n names ≡ table ∷ drop (n + 1) names
drop-next names n table is =
    rw add-one (drop-cons names n table (slice_get_within names n table is) ∙ ap (λ t. t ∷ drop (suc n) names) (get_or_from_slice_get names n table table is))

pub items-take-next : (names : List Named) (n : ℕ) (table : Named) → slice_get names n ≡ Some table → items_of (take (n + 1) names) ≡ items_of (take n names) + table.1
items-take-next names n table is =
    let both = ap items_of (take-next names n table is) ∙ sum_by-append (λ (t : Named). t.1) (take n names) (table ∷ []) in
    omega (arith, both)

pub finals-step : (tables : Tables) (names : List Named) (n : ℕ) (table : Named) → slice_get names n ≡ Some table →
    finals_from tables names n ≡ final_line table.0 (slice_range tables (items_of (take n names)) (items_of (take n names) + table.1)) ++ finals_from tables names (n + 1)
finals-step tables names n table is =
    ap (final_lines tables (items_of (take n names))) (drop-next names n table is)
    ∙ ap (λ m. final_line table.0 (slice_range tables (items_of (take n names)) (items_of (take n names) + table.1)) ++ final_lines tables m (drop (n + 1) names)) (sym (items-take-next names n table is))

at-entry : (tables : Tables) (names : List Named) (n : ℕ) (table : TableRef) (name : List ℕ) (found : Option Named) → slice_get names n ≡ found →
    option_map (λ (t : Named). record { number = n; base = items_of (take n names); size = t.1 }) found ≡ Some table → option_map (λ (t : Named). t.0) found ≡ Some name →
    finals_from tables names n ≡ final_line name (slice_range tables table.base (table.base + table.size)) ++ finals_from tables names (n + 1)
at-entry tables names n table name None found is_table is_name = absurd (cc)
at-entry tables names n table name (Some entry) found is_table is_name =
    let name_is : entry.0 ≡ name = cc in
    let table_is : record { number = n; base = items_of (take n names); size = entry.1 } ≡ table = cc in
    let base_is = ap (λ (t : TableRef). t.base) table_is in
    let size_is = ap (λ (t : TableRef). t.size) table_is in
    let line : final_line entry.0 (slice_range tables (items_of (take n names)) (items_of (take n names) + entry.1)) ≡ final_line name (slice_range tables table.base (table.base + table.size)) = rw (name_is, base_is, size_is) refl in
    finals-step tables names n entry found ∙ ap (λ l. l ++ finals_from tables names (n + 1)) line

-- the line of a table by its number, and those of the tables behind it
pub finals-at : (tables : Tables) (names : List Named) (n : ℕ) (table : TableRef) (name : List ℕ) → table_at names n ≡ Some table → option_map (λ (t : Named). t.0) (slice_get names n) ≡ Some name →
    finals_from tables names n ≡ final_line name (slice_range tables table.base (table.base + table.size)) ++ finals_from tables names (n + 1)
finals-at tables names n table name is_table is_name = at-entry tables names n table name (slice_get names n) refl is_table is_name

within-entry : (names : List Named) (n : ℕ) (table : TableRef) (found : Option Named) → slice_get names n ≡ found →
    option_map (λ (t : Named). record { number = n; base = items_of (take n names); size = t.1 }) found ≡ Some table → table.base + table.size ≤ items_of names
within-entry names n table None found is = absurd (cc)
within-entry names n table (Some entry) found is =
    let table_is : record { number = n; base = items_of (take n names); size = entry.1 } ≡ table = cc in
    let base_is = ap (λ (t : TableRef). t.base) table_is in
    let size_is = ap (λ (t : TableRef). t.size) table_is in
    omega (arith, base_is, size_is, items-take-next names n entry found, sum_by-take-le (λ (t : Named). t.1) names (n + 1))

-- a table lies within the items of all
pub table_at-within : (names : List Named) (n : ℕ) (table : TableRef) → table_at names n ≡ Some table → table.base + table.size ≤ items_of names
table_at-within names n table is = within-entry names n table (slice_get names n) refl is
