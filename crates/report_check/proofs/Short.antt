-- No line of a report is longer than a line may be.
use Rattle.std.proofs.Common.{◌≡◌, ℕ, zero, suc, ◌+◌, ◌-◌, ◌*◌, ◌<◌, ◌≤◌, ◌^◌, ℤ, Bool, true, false, ◌&&◌, nat_le, true≢false, List, [], ◌∷◌, ◌++◌, length, take, drop, get_or, Some, slice_get, slice_range, refl, sym, subst, arith, length-append}
use Rattle.std.specs.Prelude.{codes, decimal}
use Rattle.std.specs.Fmt.{signed_decimal}
use Rattle.std.specs.List.{AllByRecursion}
use Rattle.std.proofs.lemmas.Fmt.{length-decimal-le, length_signed_le}
use Rattle.std.proofs.lemmas.List.{length-take}
use Rattle.std.proofs.lemmas.Bool.Decides.{nat_tests}
use Rattle.txn_names.specs.Word.{is_name}
use Rattle.txn_runs.specs.declared.outcome.FaultKind.{FaultKind}
use Rattle.txn_runs.specs.declared.outcome.FaultKind.TheVariants.{Overflow, Zero, Range}
use Rattle.txn_runs.specs.declared.outcome.End.{End}
use Rattle.txn_runs.specs.declared.outcome.End.TheVariants as ends
use Rattle.txn_runs.specs.declared.program.Program.{Program}
use Rattle.txn_runs.specs.Bounds.{IsProgram}
use Rattle.txn_runs.specs.Run.{Tables, after}
use Rattle.txn_runs.specs.Serial.{outcome_of, outcome_by, run_length}
use Rattle.txn_runs.proofs.Within.{after_within}
use Rattle.txn_names.specs.Tables.{Named, IsTable, IsNames}
use Rattle.scc_text.specs.Number.{numbers}
use Rattle.journal_core.specs.Reply.{outcome_words, fault_word}
use Rattle.report_text.specs.Rows.{commit_row, final_row, final_rows, end_row, last_rows}
use Rattle.report_check.specs.Checked.{Held, IsSound, IsNext, IsLast}
use Rattle.report_check.specs.Limits.{IsNarrow, AreNarrowTables, AreLimited}
use Rattle.report_check.proofs.Narrow.{IsNarrowEnd, after-narrow}

-- Numbers.

short-signed : (v : ℤ) → IsNarrow v → length (signed_decimal v) ≤ 20
short-signed v narrow = length_signed_le 19 v (omega (arith, narrow)) narrow

short-numbers : (vs : List ℤ) → AllByRecursion IsNarrow vs → length (numbers vs) ≤ 21 * length vs
short-numbers [] h = omega arith
short-numbers (v ∷ vs) h = omega (arith, length-append (signed_decimal v) (numbers vs), short-signed v h.0, short-numbers vs h.1)

short-decimal : (n : ℕ) → n < 2 ^ 32 → length (decimal n) ≤ 10
short-decimal n small = length-decimal-le 10 n (omega arith) (omega (arith, small)) (omega (arith, small))

-- Outcomes.

short-fault : (kind : FaultKind) → length (fault_word kind) ≤ 8
short-fault Overflow = omega arith
short-fault Zero = omega arith
short-fault Range = omega arith

short-words : (end : End) (emits : List ℤ) → IsNarrowEnd end → AllByRecursion IsNarrow emits → length emits ≤ 64 → length (outcome_words (outcome_by end emits)) ≤ 2000
short-words ends.Going emits h narrow few = omega (arith, length-append (codes "done") (numbers emits), short-numbers emits narrow, few)
short-words (ends.Failed code) emits h narrow few = omega (arith, length-append (codes "failed ") (signed_decimal code), short-signed code h)
short-words (ends.Fault kind) emits h narrow few = omega (arith, length-append (codes "fault ") (fault_word kind), short-fault kind)

short-outcome : (p : Program) (d : Tables) → IsProgram p → AreNarrowTables d → length (outcome_words (outcome_of p d)) ≤ 2000
short-outcome p d limits tables =
    let n : ℕ = run_length p d in
    let narrow = after-narrow p d n tables limits.literals in
    let few = (after_within p d n).emits in
    let most = limits.emits in
    short-words (after p d n).end (after p d n).emits narrow.end narrow.emits (omega (arith, few, most))

short-commit : (t : ℕ) (p : Program) (d : Tables) → t < 2 ^ 32 → IsProgram p → AreNarrowTables d → length (commit_row t (outcome_of p d)) ≤ 32768
short-commit t p d small limits tables =
    let words : List ℕ = outcome_words (outcome_of p d) in
    omega (arith, length-append (codes "commit " ++ decimal t ++ codes " ") words, length-append (codes "commit " ++ decimal t) (codes " "), length-append (codes "commit ") (decimal t), short-decimal t small, short-outcome p d limits tables)

-- Last values.

all-narrow : (d : Tables) → AreNarrowTables d → AllByRecursion IsNarrow d
all-narrow [] h = tt
all-narrow (v ∷ d) h = (h 0, all-narrow d (λ i. h (suc i)))

all-take : (n : ℕ) (vs : List ℤ) → AllByRecursion IsNarrow vs → AllByRecursion IsNarrow (take n vs)
all-take zero vs h = tt
all-take (suc n) [] h = tt
all-take (suc n) (v ∷ vs) h = (h.0, all-take n vs h.1)

all-drop : (n : ℕ) (vs : List ℤ) → AllByRecursion IsNarrow vs → AllByRecursion IsNarrow (drop n vs)
all-drop zero vs h = h
all-drop (suc n) [] h = tt
all-drop (suc n) (v ∷ vs) h = all-drop n vs h.1

short-name : (t : Named) → IsTable t → length t.0 ≤ 16
short-name t h = go (is_name t.0) (nat_le (length t.0) 16) refl h.name
  where
    go : (a b : Bool) → nat_le (length t.0) 16 ≡ b → (a && b) ≡ true → length t.0 ≤ 16
    go true true le e = grind (arith, nat_tests)
    go true false le e = absurd (true≢false (sym e))
    go false b le e = absurd (true≢false (sym e))

short-final : (t : Named) (d : Tables) (base : ℕ) → IsTable t → AreNarrowTables d → length (final_row t.0 (slice_range d base (base + t.1))) ≤ 32768
short-final t d base h tables =
    let values : List ℤ = slice_range d base (base + t.1) in
    let narrow : AllByRecursion IsNarrow values = all-take (base + t.1 - base) (drop base d) (all-drop base d (all-narrow d tables)) in
    let few : length values ≤ 1024 = let most = h.most in omega (arith, length-take (base + t.1 - base) (drop base d), most) in
    omega (arith, length-append (codes "final ") (t.0 ++ numbers values), length-append t.0 (numbers values), short-name t h, short-numbers values narrow, few)

abbrev IsShort : List ℕ → Type 0
IsShort row = length row ≤ 32768

short-finals : (d : Tables) (base : ℕ) (names : List Named) (end : List ℕ) → AreNarrowTables d → ((k : ℕ) (t : Named) → k < length names → IsTable (get_or names k t)) → IsShort end → AllByRecursion IsShort (final_rows d base names ++ end ∷ [])
short-finals d base [] end tables plain h = (h, tt)
short-finals d base (t ∷ names) end tables plain h =
    (short-final t d base (plain 0 t (omega arith)) tables, short-finals d (base + t.1) names end tables (λ k u within. plain (suc k) u (omega (arith, within))) h)

get-short : (rows : List (List ℕ)) (n : ℕ) (row : List ℕ) → AllByRecursion IsShort rows → slice_get rows n ≡ Some row → IsShort row
get-short [] n row h is = absurd (cc)
get-short (r ∷ rows) zero row h is = let same : r ≡ row = cc in subst IsShort same h.0
get-short (r ∷ rows) (suc n) row h is = get-short rows n row h.1 is

pub short-next : (programs : List Program) (h : Held) (line : List ℕ) (t : ℕ) → length programs < 2 ^ 32 → AreLimited programs → AreNarrowTables h.table → IsNext programs h line t → length line ≤ 32768
short-next programs h line t few limits tables next =
    let some = next.some in
    let most = next.most in
    subst IsShort (sym next.row) (short-commit t (get_or programs (t - 1) []) h.table (omega (arith, most, few)) (limits (t - 1) (omega (arith, some, most))) tables)

pub short-last : (names : List Named) (programs : List Program) (h : Held) (line : List ℕ) → IsNames names → IsSound names programs h → AreNarrowTables h.table → IsLast names h line → length line ≤ 32768
short-last names programs h line plain sound tables last =
    let all = last.all in
    let many = sound.many in
    let few = sound.few in
    let end : IsShort (end_row h.commits) = omega (arith, length-append (codes "end ") (decimal h.commits), short-decimal h.commits (omega (arith, all, many, few))) in
    get-short (last_rows names h.table h.commits) h.told line (short-finals h.table 0 names (end_row h.commits) tables plain.tables end) last.row
