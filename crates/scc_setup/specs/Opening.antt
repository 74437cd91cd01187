-- The tables before the forest is opened: `table` and `put` lines.
use Rattle.std.specs.Prelude.{◌≡◌, ℕ, ◌+◌, ◌≤◌, ℤ, pos, nat_lt, length, if◌then◌else◌, List, [], ◌++◌, replicate, slice_range, slice_set, Option, Some, None, Result, Ok, Err}
use Rattle.scc_text.specs.declared.command.Command.{Command}
use Rattle.scc_text.specs.declared.command.Command.TheVariants.{Table, Put}
use Rattle.scc_text.specs.declared.words.Span.{Span}
use Rattle.scc_text.specs.Command.{IsInRange}
use Rattle.txn_runs.specs.Run.{Tables}
use Rattle.txn_runs.specs.declared.program.TableRef.{TableRef}
use Rattle.txn_names.specs.Tables.{Named, items_of, table_named, added}
use Rattle.txn_names.specs.Refusal.{add_refusal}
use Rattle.txn_names.specs.declared.refusal.NameRefusal.{NameRefusal}
use Rattle.txn_names.specs.declared.refusal.NameRefusal.TheVariants.{Name, Twice}
use Rattle.scc_setup.specs.declared.setup.SetupRefusal.{SetupRefusal}
use Rattle.scc_setup.specs.declared.setup.SetupRefusal.TheVariants.{Code, OutOfMemory}

-- the tables' names and sizes, and the value of each item
pub record Opening : Type 0 where
  pub names : List Named
  pub tables : Tables

-- as many items as the tables have, at most 1,024
pub record IsOpening (names : List Named) (tables : Tables) : Type 0 where
  pub items : length tables ≡ items_of names
  pub small : items_of names ≤ 1024

-- before the first line
abbrev pub no_tables : Opening
no_tables = record { names = []; tables = [] }

-- the bytes of a line that a span points at
abbrev pub text_at : List ℕ → Span → List ℕ
text_at line span = slice_range line span.from span.to

-- the number of the refusal of a name or a size; want of memory is no reason to refuse one, and never comes here
abbrev pub name_code : NameRefusal → ℕ
name_code Name = 18
name_code Twice = 19
name_code other = 20

-- one table more, whose items are 0, unless it is refused
abbrev pub table_by : Opening → List ℕ → ℕ → Option NameRefusal → Result Opening ℕ
table_by o name size None = Ok (record { names = added name size o.names; tables = o.tables ++ replicate size (pos 0) })
table_by o name size (Some refusal) = Err (name_code refusal)

-- `table NAME SIZE`
abbrev pub table_after : Opening → List ℕ → ℕ → Result Opening ℕ
table_after o name size = table_by o name size (add_refusal o.names name size)

-- an item of this table has another value, unless there is no such table or item
abbrev pub put_by : Opening → ℕ → ℤ → Option TableRef → Result Opening ℕ
put_by o index value None = Err 22
put_by o index value (Some table) =
    if nat_lt index table.size then Ok (record o { tables = slice_set o.tables (table.base + index) value }) else Err 31

-- `put NAME INDEX VALUE`
abbrev pub put_after : Opening → List ℕ → ℕ → ℤ → Result Opening ℕ
put_after o name index value = put_by o index value (table_named o.names name)

-- the tables after a `table` or `put` line, or the number of its refusal; no other line changes them
abbrev pub opening_after : Opening → List ℕ → Command → Result Opening ℕ
opening_after o line (Table name size) = table_after o (text_at line name) size
opening_after o line (Put name index value) = put_after o (text_at line name) index value
opening_after o line other = Ok o

-- a `table` or `put` command of a line of this length
abbrev pub IsSetting : ℕ → Command → Type 0
IsSetting end (Table name size) = IsInRange end (Table name size)
IsSetting end (Put name index value) = IsInRange end (Put name index value)
IsSetting end other = ⊥

-- the number is the one by which the line is refused; memory is wanting only where the line isn't refused
abbrev pub IsReason : SetupRefusal → Result Opening ℕ → Type 0
IsReason (Code code) after = after ≡ Err code
IsReason OutOfMemory after = (o : Opening) × (after ≡ Ok o)
