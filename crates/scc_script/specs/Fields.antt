-- What is shown of a run.
use Rattle.std.specs.Prelude.{ℕ, zero, suc, ◌-◌, ℤ, pos, nat_lt, if◌then◌else◌, List, [], ◌∷◌, ◌++◌, slice_index_or, codes, decimal}
use Rattle.std.specs.Ordering.{int_eq}
use Rattle.std.specs.Fmt.{signed_decimal}
use Rattle.txn_runs.specs.Run.{Writes}
use Rattle.txn_names.specs.Tables.{Named}
use Rattle.access_sets.specs.Entries.{entries}

-- a register that isn't 0
abbrev pub register_field : ℕ → ℤ → List ℕ
register_field n value = if int_eq value (pos 0) then [] else codes " r" ++ decimal n ++ codes "=" ++ signed_decimal value

-- so many registers from this one on, ascending, but those that are 0
unfoldable pub register_fields : List ℤ → (n many : ℕ) → List ℕ
register_fields registers n zero = []
register_fields registers n (suc many) = register_field n (slice_index_or registers n (pos 0)) ++ register_fields registers (suc n) many

-- a table's name and a place in it
abbrev pub place_name : List ℕ → ℕ → List ℕ
place_name name place = name ++ codes "[" ++ decimal place ++ codes "]"

-- an item is told by its table's name and its place in it
unfoldable pub item_name : List Named → ℕ → List ℕ
item_name [] item = []
item_name (table ∷ names) item =
    if nat_lt item table.1 then place_name table.0 item else item_name names (item - table.1)

-- an item and the value that was written
abbrev pub item_field : List Named → ℕ × ℤ → List ℕ
item_field names entry = codes " " ++ item_name names entry.0 ++ codes "=" ++ signed_decimal entry.1

-- the same for these items
abbrev pub item_fields : List Named → List (ℕ × ℤ) → List ℕ
item_fields names [] = []
item_fields names (entry ∷ entries) = item_field names entry ++ item_fields names entries

-- each emitted number
abbrev pub emit_fields : List ℤ → List ℕ
emit_fields [] = []
emit_fields (value ∷ values) = codes " emit=" ++ signed_decimal value ++ emit_fields values

-- the registers that aren't 0, the written items in ascending order, and the emitted numbers
unfoldable pub fields : List Named → List ℤ → Writes → List ℤ → List ℕ
fields names registers writes emits = register_fields registers 0 16 ++ item_fields names (entries 0 writes) ++ emit_fields emits

-- a transaction that waits for a lane
abbrev pub waiting_line : ℕ → List ℕ
waiting_line txn = codes "show " ++ decimal txn ++ codes " waiting\n"
