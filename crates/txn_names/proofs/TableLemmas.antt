-- What a table's place says, and what one more table changes.
use Rattle.std.proofs.Common.{◌≡◌, ◌≢◌, ℕ, zero, suc, ◌+◌, ◌<◌, ◌≤◌, Bool, true, false, cond, List, [], ◌∷◌, length, get_or, None, Some, refl, sym, ap, arith, length-append}
use Rattle.std.specs.Str.{bytes_eq}
use Rattle.std.proofs.lemmas.List.Elements.{All-append, All-cons}
use Rattle.std.proofs.lemmas.List.Quantifiers.{all_pairs_push}
use Rattle.std.proofs.lemmas.List.Sums.{sum_by-cons}
use Rattle.std.proofs.lemmas.Slice.Eq.{bytes_eq-Decides}
use Rattle.txn_runs.specs.declared.program.TableRef.{TableRef}
use Rattle.txn_names.specs.Tables.{Named, items_of, table_from, table_named, added, IsTable, IsNames, CanAdd}

pub items_of-cons : (table : Named) (tables : List Named) → items_of (table ∷ tables) ≡ table.1 + items_of tables
items_of-cons table tables = sum_by-cons (λ (table : Named). table.1) table tables

pub items_of-added : (names : List Named) (name : List ℕ) (size : ℕ) → items_of (added name size names) ≡ items_of names + size
items_of-added [] name size = omega arith
items_of-added (table ∷ tables) name size = omega (arith, items_of-added tables name size, items_of-cons table tables, items_of-cons table (added name size tables))

-- a table that isn't found first has another name, and none that follows has the name
module _ (name : List ℕ) (number base : ℕ) (table : Named) (tables : List Named) (d : Named)
    (rest : table_from (number + 1) (base + table.1) tables name ≡ None → (k : ℕ) → k < length tables → (get_or tables k d).0 ≢ name) where
  none_of : (found : Bool) → bytes_eq name table.0 ≡ found → cond found (Some (record { number = number; base = base; size = table.1 })) (table_from (number + 1) (base + table.1) tables name) ≡ None → (k : ℕ) → k < length (table ∷ tables) → (get_or (table ∷ tables) k d).0 ≢ name
  none_of true is none k lt same = cc
  none_of false is none zero lt same = let equal : bytes_eq name table.0 ≡ true = (bytes_eq-Decides name table.0).1 (sym same) in cc
  none_of false is none (suc k) lt same = rest none k (omega arith) same

-- no table of a list has a name that isn't found in it
none_has : (name : List ℕ) (number base : ℕ) (names : List Named) → table_from number base names name ≡ None → (k : ℕ) (d : Named) → k < length names → (get_or names k d).0 ≢ name
none_has name number base [] none k d lt = absurd (omega arith)
none_has name number base (table ∷ tables) none k d lt =
    none_of name number base table tables d (λ none' k' lt'. none_has name (number + 1) (base + table.1) tables none' k' d lt') (bytes_eq name table.0) refl none k lt

module _ (name : List ℕ) (number base : ℕ) (first : Named) (tables : List Named) (table : TableRef)
    (rest : table_from (number + 1) (base + first.1) tables name ≡ Some table → table.base + table.size ≤ base + first.1 + items_of tables) where
  within_of : (is : Bool) → cond is (Some (record { number = number; base = base; size = first.1 })) (table_from (number + 1) (base + first.1) tables name) ≡ Some table → table.base + table.size ≤ base + items_of (first ∷ tables)
  within_of true found =
      let here : record { number = number; base = base; size = first.1 } ≡ table = cc in
      omega (arith, ap (λ (t : TableRef). t.base + t.size) here, items_of-cons first tables)
  within_of false found = omega (arith, rest found, items_of-cons first tables)

-- a table that is found lies within the items
found_within : (name : List ℕ) (number base : ℕ) (names : List Named) (table : TableRef) → table_from number base names name ≡ Some table → table.base + table.size ≤ base + items_of names
found_within name number base [] table found = cc
found_within name number base (first ∷ tables) table found =
    within_of name number base first tables table (λ later. found_within name (number + 1) (base + first.1) tables table later) (bytes_eq name first.0) found

pub table_named_within : (names : List Named) (name : List ℕ) (table : TableRef) → table_named names name ≡ Some table → table.base + table.size ≤ items_of names
table_named_within names name table found = omega (arith, found_within name 0 0 names table found)

pub IsNames-added : (names : List Named) (name : List ℕ) (size : ℕ) → IsNames names → CanAdd names name size → IsNames (added name size names)
IsNames-added names name size old can = record {
  tables = All-append IsTable names ((name, size) ∷ []) old.tables (All-cons IsTable (name, size) [] (record { name = can.allowed; some = can.some; most = can.most }) (λ k d lt. absurd (omega arith)));
  distinct = all_pairs_push (λ (a b : Named). a.0 ≢ b.0) names (name, size) old.distinct (λ k d lt. none_has name 0 0 names can.free k d lt);
  count = omega (arith, can.room, length-append names ((name, size) ∷ []));
  items = omega (arith, can.items, items_of-added names name size);
}
