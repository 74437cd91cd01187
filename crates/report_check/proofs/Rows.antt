-- The lines behind the commits, by their places.
use Rattle.std.proofs.Common.{◌≡◌, ℕ, zero, suc, ◌+◌, List, [], ◌∷◌, ◌++◌, length, take, slice_range, Option, Some, None, slice_get, Result, refl, ap, ◌∙◌, arith}
use Rattle.std.specs.Option.{option_map}
use Rattle.std.specs.Result.{OnOk}
use Rattle.std.proofs.lemmas.Result.{on_ok_weaker}
use Rattle.std.proofs.lemmas.Option.{same_Some}
use Rattle.std.proofs.lemmas.List.Sums.{sum_by-cons}
use Rattle.txn_runs.specs.declared.program.TableRef.{TableRef}
use Rattle.txn_runs.specs.Run.{Tables}
use Rattle.txn_names.specs.Tables.{Named, items_of, table_at}
use Rattle.report_text.specs.Rows.{final_row, final_rows, end_row, last_rows}

final-by : (tables : Tables) (names : List Named) (base n : ℕ) (end : List (List ℕ)) (named : Named) → slice_get names n ≡ Some named
    → slice_get (final_rows tables base names ++ end) n ≡ Some (final_row named.0 (slice_range tables (base + items_of (take n names)) (base + items_of (take n names) + named.1)))
final-by tables [] base n end named is = absurd (cc)
final-by tables (t ∷ names) base zero end named is =
    let first : base ≡ base + 0 = omega arith in
    ap (λ (u : Named). Some (final_row u.0 (slice_range tables base (base + u.1)))) (same_Some t named is)
    ∙ ap (λ b. Some (final_row named.0 (slice_range tables b (b + named.1)))) first
final-by tables (t ∷ names) base (suc n) end named is =
    let next : base + t.1 + items_of (take n names) ≡ base + items_of (take (suc n) (t ∷ names)) = omega (arith, sum_by-cons (λ (u : Named). u.1) t (take n names)) in
    final-by tables names (base + t.1) n end named is ∙ ap (λ b. Some (final_row named.0 (slice_range tables b (b + named.1)))) next

at-entry : (tables : Tables) (names : List Named) (n commits : ℕ) (table : TableRef) (name : List ℕ) (found : Option Named) → slice_get names n ≡ found
    → option_map (λ (t : Named). record { number = n; base = items_of (take n names); size = t.1 }) found ≡ Some table → option_map (λ (t : Named). t.0) found ≡ Some name
    → slice_get (last_rows names tables commits) n ≡ Some (final_row name (slice_range tables table.base (table.base + table.size)))
at-entry tables names n commits table name None found is_table is_name = absurd (cc)
at-entry tables names n commits table name (Some entry) found is_table is_name =
    let name_is : entry.0 ≡ name = cc in
    let table_is : record { number = n; base = items_of (take n names); size = entry.1 } ≡ table = cc in
    let base_is = ap (λ (t : TableRef). t.base) table_is in
    let size_is = ap (λ (t : TableRef). t.size) table_is in
    let base : 0 + items_of (take n names) ≡ table.base = omega (arith, base_is) in
    final-by tables names 0 n (end_row commits ∷ []) entry found
    ∙ ap (λ b. Some (final_row entry.0 (slice_range tables b (b + entry.1)))) base
    ∙ ap (λ s. Some (final_row entry.0 (slice_range tables table.base (table.base + s)))) size_is
    ∙ ap (λ m. Some (final_row m (slice_range tables table.base (table.base + table.size)))) name_is

-- that of a table
pub final-at : (tables : Tables) (names : List Named) (n commits : ℕ) (table : TableRef) (name : List ℕ) → table_at names n ≡ Some table → option_map (λ (t : Named). t.0) (slice_get names n) ≡ Some name
    → slice_get (last_rows names tables commits) n ≡ Some (final_row name (slice_range tables table.base (table.base + table.size)))
final-at tables names n commits table name is_table is_name = at-entry tables names n commits table name (slice_get names n) refl is_table is_name

-- the last one
pub end-at : (tables : Tables) (names : List Named) (n commits : ℕ) → n ≡ length names → slice_get (last_rows names tables commits) n ≡ Some (end_row commits)
end-at tables names n commits is = ap (slice_get (last_rows names tables commits)) is ∙ go names 0
  where
    go : (names : List Named) (base : ℕ) → slice_get (final_rows tables base names ++ end_row commits ∷ []) (length names) ≡ Some (end_row commits)
    go [] base = refl
    go (t ∷ names) base = go names (base + t.1)

-- the line that was made is that of a place
pub made-at : {T E : Type 0} (r : Result T E) (rows : List (List ℕ)) (n : ℕ) (row made text : List ℕ) → slice_get rows n ≡ Some row → made ≡ row ++ 10 ∷ [] → OnOk r (text ≡ made)
    → OnOk r ((row : List ℕ) × (slice_get rows n ≡ Some row) × (text ≡ row ++ 10 ∷ []))
made-at r rows n row made text there is told =
    let has : text ≡ made → (row : List ℕ) × (slice_get rows n ≡ Some row) × (text ≡ row ++ 10 ∷ []) = λ now. (row, there, now ∙ is) in
    on_ok_weaker r has told
