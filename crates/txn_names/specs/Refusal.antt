-- When a table isn't added.
use Rattle.std.specs.Prelude.{◌≡◌, ℕ, ◌+◌, ◌==◌, ◌||◌, not, if◌then◌else◌, List, Option, None, Some, is_some, Result, Err, IfErr, length, nat_lt}
use Rattle.txn_names.specs.declared.refusal.NameRefusal.{NameRefusal}
use Rattle.txn_names.specs.declared.refusal.NameRefusal.TheVariants.{Name, Twice, Full, OutOfMemory}
use Rattle.txn_names.specs.Word.{is_table_name}
use Rattle.txn_names.specs.Tables.{Named, items_of, table_named}

-- the first reason not to add a table
abbrev pub add_refusal : List Named → List ℕ → ℕ → Option NameRefusal
add_refusal names name size =
    if not (is_table_name name) then Some Name
    else (if is_some (table_named names name) then Some Twice
    else (if (length names == 16) || nat_lt 1024 (items_of names + size) then Some Full
    else None))

-- the answer is this refusal; where there is none, only want of memory can be one
abbrev pub IsRefusedBy : {T : Type 0} → Option NameRefusal → Result T NameRefusal → Type 0
IsRefusedBy (Some refusal) answer = answer ≡ Err refusal
IsRefusedBy None answer = IfErr answer (λ refusal. refusal ≡ OutOfMemory)
