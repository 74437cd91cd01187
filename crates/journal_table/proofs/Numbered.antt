-- A live transaction has the number that is written of it.
use Rattle.std.proofs.Common.{◌≡◌, ◌≤◌, ◌<◌, ◌^◌, ℕ, List, length, true, arith}
use Rattle.std.specs.Prelude.{decimal}
use Rattle.std.proofs.lemmas.Fmt.{decimal_injective}
use Rattle.std.proofs.lemmas.List.Sums.{count_by-le-length}
use Rattle.txn_runs.specs.Run.{Tables}
use Rattle.journal_core.specs.declared.entry.Entry.{Entry}
use Rattle.txn_names.specs.Tables.{Named}
use Rattle.journal_core.specs.declared.entry.Entry.TheVariants.{Began, Sealed, Committed, Withdrawn}
use Rattle.journal_core.specs.Reply.{outcome_words}
use Rattle.journal_core.specs.Journal.{is_begin, is_live, began, Continues, IsLegal}
use Rattle.journal_table.specs.Judged.{IsNone}
use Rattle.journal_table.specs.Spelled.{Spells}
use Rattle.journal_core.proofs.Legal.{counts, begun-live}

pub live-within : (opening : Tables) (entries : List Entry) (u : ℕ) → IsLegal opening entries → is_live entries u ≡ true → u ≤ length entries
live-within opening entries u legal is =
    let most = (counts opening entries legal).bounded u (begun-live entries u is) in
    let few = count_by-le-length is_begin entries in
    omega (arith, most, few)

pub live-same : (opening : Tables) (entries : List Entry) (u txn : ℕ) → IsLegal opening entries → length entries < 2 ^ 32 → txn < 2 ^ 64 → decimal u ≡ decimal txn → is_live entries u ≡ true → u ≡ txn
live-same opening entries u txn legal few small same is =
    let within = live-within opening entries u legal is in
    decimal_injective u txn (omega (arith, within, few)) small same

-- a row of no entry whose number has 64 bits is of none that may follow
pub none-follows : (names : List Named) (opening : Tables) (entries : List Entry) (fields : List (List ℕ)) (e : Entry) → IsNone fields → IsLegal opening entries → began entries < 2 ^ 32 → Spells names e fields → Continues opening entries e → ⊥
none-follows names opening entries fields (Began t deadline program) none legal few spells next = let is = next.0 in none.began t deadline spells.0 (omega (arith, is, few)) spells.2 spells.1
none-follows names opening entries fields Sealed none legal few spells next = none.sealed spells
none-follows names opening entries fields (Committed t outcome) none legal few spells next =
    let most = (counts opening entries legal).bounded t (begun-live entries t next.0) in
    none.committed t (outcome_words outcome) (omega (arith, most, few)) spells
none-follows names opening entries fields (Withdrawn t) none legal few spells next =
    let most = (counts opening entries legal).bounded t (begun-live entries t next.0) in
    none.withdrawn t (omega (arith, most, few)) spells
