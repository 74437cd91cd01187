-- A table that isn't refused may be added.
use Rattle.std.proofs.Common.{refl, ◌≡◌, ◌<◌, ◌≤◌, ℕ, ◌+◌, ◌==◌, ◌||◌, Bool, true, false, not, IsTrue, nat_lt, if◌then◌else◌, List, length, Option, None, Some, is_some, arith}
use Rattle.std.proofs.lemmas.Bool.{ltb-false}
use Rattle.std.proofs.lemmas.Bool.Decides.{nat_tests}
use Rattle.txn_runs.specs.declared.program.TableRef.{TableRef}
use Rattle.txn_names.specs.declared.refusal.NameRefusal.TheVariants.{Name, Twice, Full}
use Rattle.txn_names.specs.Word.{is_table_name}
use Rattle.txn_names.specs.Tables.{Named, items_of, table_named, CanAdd}
use Rattle.txn_names.specs.Refusal.{add_refusal}

-- none of the reasons applies
no_reason : (a b c d : Bool) → (if not a then Some Name else (if b then Some Twice else (if c || d then Some Full else None))) ≡ None
    → IsTrue a × (b ≡ false) × (c ≡ false) × (d ≡ false)
no_reason true false false false is = (refl, refl, refl, refl)
no_reason true false false true is = absurd (cc)
no_reason true false true d is = absurd (cc)
no_reason true true c d is = absurd (cc)
no_reason false b c d is = absurd (cc)

-- its items are within the limit
pub fits : (names : List Named) (name : List ℕ) (size : ℕ) → add_refusal names name size ≡ None → items_of names + size ≤ 1024
fits names name size is =
    let none = no_reason (is_table_name name) (is_some (table_named names name)) (length names == 16) (nat_lt 1024 (items_of names + size)) is in
    ltb-false 1024 (items_of names + size) none.3

not_there : (found : Option TableRef) → is_some found ≡ false → found ≡ None
not_there None is = refl
not_there (Some table) is = absurd (cc)

not_full : (count : ℕ) → (count == 16) ≡ false → count ≤ 16 → count < 16
not_full count is most = grind (arith, nat_tests)

pub can_add : (names : List Named) (name : List ℕ) (size : ℕ) → add_refusal names name size ≡ None → length names ≤ 16 → 1 ≤ size → size ≤ 1024 → CanAdd names name size
can_add names name size is count some most =
    let none = no_reason (is_table_name name) (is_some (table_named names name)) (length names == 16) (nat_lt 1024 (items_of names + size)) is in
    record {
      allowed = none.0;
      free = not_there (table_named names name) none.1;
      room = not_full (length names) none.2 count;
      some = some;
      most = most;
      items = fits names name size is;
    }
