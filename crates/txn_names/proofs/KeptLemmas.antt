-- The entries that are kept for the tables.
use Rattle.std.proofs.Common.{◌≡◌, ℕ, zero, suc, ◌+◌, cond, List, [], ◌∷◌, ◌++◌, length, take, slice_get, None, Some, refl, sym, ap, ◌∙◌, subst, arith}
use Rattle.std.specs.Map.{lookup}
use Rattle.std.specs.Str.{bytes_eq}
use Rattle.std.specs.Option.{option_map}
use Rattle.std.proofs.lemmas.List.{map-append, length-map}
use Rattle.txn_runs.specs.declared.program.TableRef.{TableRef}
use Rattle.txn_names.specs.Tables.{Named, items_of, table_at, table_from, table_named, added, IsNames, CanAdd}
use Rattle.txn_names.specs.Kept.{Entry, named, names_of, AreLaid, IsKept}
use Rattle.txn_names.proofs.TableLemmas.{IsNames-added, items_of-cons, items_of-added}
use Rattle.std.specs.declared.alloc.Global.{Global}
use Rattle.std.specs.declared.hash.FoldHasher.{FoldHasher}
use Rattle.std.specs.declared.hash.BuildHasherDefault.{BuildHasherDefault}
use Rattle.indexmap.specs.IndexMap.{IndexMap, insert_entry}
use Rattle.indexmap.proofs.CallerLemmas.{insert_entry-new}
use Rattle.std.specs.declared.vec.Vec.{Vec}

-- a name is looked up among the entries as among the tables
pub lookup_laid : (name : List ℕ) (number base : ℕ) (entries : List Entry) → AreLaid number base entries → lookup (λ (key : Vec ℕ Global). bytes_eq name key.items) entries ≡ table_from number base (names_of entries) name
lookup_laid name number base [] laid = refl
lookup_laid name number base (entry ∷ entries) laid =
    let rest = lookup_laid name (number + 1) (base + entry.1.size) entries laid.1 in
    λ i. cond (bytes_eq name entry.0.items) (Some (laid.0 i)) (rest i)

pub names_of-append : (entries : List Entry) (entry : Entry) → names_of (entries ++ entry ∷ []) ≡ added entry.0.items entry.1.size (names_of entries)
names_of-append entries entry = map-append named entries (entry ∷ [])

AreLaid-append : (number base : ℕ) (entries : List Entry) (entry : Entry) → AreLaid number base entries
    → entry.1 ≡ record { number = number + length entries; base = base + items_of (names_of entries); size = entry.1.size }
    → AreLaid number base (entries ++ entry ∷ [])
AreLaid-append number base [] entry laid is =
    let place : (number + 0 ≡ number) × (base + 0 ≡ base) = (omega arith, omega arith) in
    (is ∙ (λ i. record { number = place.0 i; base = place.1 i; size = entry.1.size }), tt)
AreLaid-append number base (first ∷ entries) entry laid is =
    let count : number + length (first ∷ entries) ≡ number + 1 + length entries = omega arith in
    let items : base + items_of (names_of (first ∷ entries)) ≡ base + first.1.size + items_of (names_of entries) = omega (arith, items_of-cons (named first) (names_of entries)) in
    (laid.0, AreLaid-append (number + 1) (base + first.1.size) entries entry laid.1 (is ∙ (λ i. record { number = count i; base = items i; size = entry.1.size })))

-- one entry more
pub IsKept-append : (entries : List Entry) (total : ℕ) (entry : Entry) → IsKept entries total
    → CanAdd (names_of entries) entry.0.items entry.1.size
    → entry.1 ≡ record { number = length (names_of entries); base = items_of (names_of entries); size = entry.1.size }
    → IsKept (entries ++ entry ∷ []) (total + entry.1.size)
IsKept-append entries total entry kept can is =
    let number : length (names_of entries) ≡ 0 + length entries = length-map entries named ∙ omega arith in
    let base : items_of (names_of entries) ≡ 0 + items_of (names_of entries) = omega arith in
    let names = IsNames-added (names_of entries) entry.0.items entry.1.size kept.names can in
    record {
      laid = AreLaid-append 0 0 entries entry kept.laid (is ∙ (λ i. record { number = number i; base = base i; size = entry.1.size }));
      names = subst IsNames (sym (names_of-append entries entry)) names;
      items = ap (λ n. n + entry.1.size) kept.items ∙ sym (items_of-added (names_of entries) entry.0.items entry.1.size) ∙ ap items_of (sym (names_of-append entries entry));
    }

-- the entries after an insertion of a name that is free
pub insert_entry-free : (m : IndexMap (Vec ℕ Global) TableRef (BuildHasherDefault FoldHasher)) (key : Vec ℕ Global) (table : TableRef) → AreLaid 0 0 m.entries
    → table_named (names_of m.entries) key.items ≡ None
    → insert_entry (λ (a b : Vec ℕ Global). bytes_eq a.items b.items) m.entries key table ≡ m.entries ++ (key, table) ∷ []
insert_entry-free m key table laid free =
    insert_entry-new (λ (a b : Vec ℕ Global). bytes_eq a.items b.items) m key table (lookup_laid key.items 0 0 m.entries laid ∙ free)

-- the table of an entry
laid_at : (number base : ℕ) (entries : List Entry) → AreLaid number base entries → (k : ℕ) (entry : Entry) → slice_get entries k ≡ Some entry
    → option_map (λ (table : Named). record { number = number + k; base = base + items_of (take k (names_of entries)); size = table.1 }) (slice_get (names_of entries) k) ≡ Some entry.1
laid_at number base [] laid k entry at = cc
laid_at number base (first ∷ entries) laid zero entry at =
    let same : first ≡ entry = cc in
    let place : (number + 0 ≡ number) × (base + 0 ≡ base) = (omega arith, omega arith) in
    (λ i. Some (record { number = place.0 i; base = place.1 i; size = first.1.size })) ∙ (λ i. Some (sym laid.0 i)) ∙ ap (λ (e : Entry). Some e.1) same
laid_at number base (first ∷ entries) laid (suc k) entry at =
    let count : number + suc k ≡ number + 1 + k = omega arith in
    let items : base + items_of (take (suc k) (names_of (first ∷ entries))) ≡ base + first.1.size + items_of (take k (names_of entries)) = omega (arith, items_of-cons (named first) (take k (names_of entries))) in
    (λ i. option_map (λ (table : Named). record { number = count i; base = items i; size = table.1 }) (slice_get (names_of entries) k))
    ∙ laid_at (number + 1) (base + first.1.size) entries laid.1 k entry at

pub table_at-kept : (entries : List Entry) (total : ℕ) → IsKept entries total → (k : ℕ) (entry : Entry) → slice_get entries k ≡ Some entry → table_at (names_of entries) k ≡ Some entry.1
table_at-kept entries total kept k entry at =
    let number : k ≡ 0 + k = omega arith in
    let base : items_of (take k (names_of entries)) ≡ 0 + items_of (take k (names_of entries)) = omega arith in
    (λ i. option_map (λ (table : Named). record { number = number i; base = base i; size = table.1 }) (slice_get (names_of entries) k))
    ∙ laid_at 0 0 entries kept.laid k entry at
