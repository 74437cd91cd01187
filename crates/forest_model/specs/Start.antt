-- Who starts: a free lane goes to the first that waits.
use Rattle.std.specs.Prelude.{ℕ, Bool, false, not, ◌&&◌, ◌||◌, ◌==◌, nat_lt, if◌then◌else◌, List, [], Option, Some, None, filter, filter_map, length}
use Rattle.journal_core.specs.Journal.{is_live, deadline_of}
use Rattle.journal_core.specs.declared.entry.Entry.{Entry}
use Rattle.journal_core.specs.declared.entry.Entry.TheVariants.{Began, Sealed, Committed, Withdrawn}
use Rattle.forest_model.specs.Choose.{put_in_order, first_by}
use Rattle.forest_model.specs.Forest.{Started, Forest, is_started}

-- a transaction that starts has one shadow, at its start
abbrev pub fresh : ℕ → Started
fresh t = record { number = t; position = 0; out = false; shadows = [] }

-- t is started, in the order of numbers
abbrev pub start : ℕ → Forest → Forest
start t f = record f { started = put_in_order (λ x y. nat_lt x.number y.number) (fresh t) f.started }

-- t is live and not started
abbrev pub waits : Forest → ℕ → Bool
waits f t = is_live f.journal t && not (is_started f.started t)

-- the smaller deadline comes first, and of equal ones the smaller number
abbrev pub is_prior : List Entry → ℕ → ℕ → Bool
is_prior journal t u = nat_lt (deadline_of journal t) (deadline_of journal u) || (deadline_of journal t == deadline_of journal u && nat_lt t u)

-- the transaction that the entry begins
abbrev pub number_in : Entry → Option ℕ
number_in (Began txn deadline program) = Some txn
number_in Sealed = None
number_in (Committed txn outcome) = None
number_in (Withdrawn txn) = None

-- the transactions that began
abbrev pub numbers : List Entry → List ℕ
numbers journal = filter_map number_in journal

-- the first by priority of those that wait
abbrev pub first_waiting : Forest → Option ℕ
first_waiting f = first_by (is_prior f.journal) (filter (waits f) (numbers f.journal))

-- who starts where a lane is free
abbrev pub next_to_start : Forest → Option ℕ
next_to_start f = if nat_lt (length f.started) f.lanes then first_waiting f else None

-- who is named is started
abbrev pub start_some : Option ℕ → Forest → Forest
start_some None f = f
start_some (Some t) f = start t f

-- a free lane is given to the first that waits
abbrev pub start_waiting : Forest → Forest
start_waiting f = start_some (next_to_start f) f

-- the started transactions but one
abbrev pub without : ℕ → List Started → List Started
without t started = filter (λ r. not (r.number == t)) started
