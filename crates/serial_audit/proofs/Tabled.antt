-- The verdict on the rows of a journal.
use Rattle.std.proofs.Common.{◌≡◌, ◌≢◌, ◌<◌, ◌^◌, ℕ, ◌+◌, List, [], ◌∷◌, ◌++◌, length, take, true, refl, sym, ap, subst, ◌∙◌, arith, inl, inr, append_assoc, length-append}
use Rattle.std.specs.Prelude.{decimal}
use Rattle.std.proofs.lemmas.List.{append-nil, take_at}
use Rattle.std.proofs.lemmas.List.Sums.{count_by-le-length}
use Rattle.std.proofs.lemmas.Fmt.{decimal_injective}
use Rattle.txn_runs.specs.Run.{Tables}
use Rattle.txn_runs.specs.Serial.{outcome_of}
use Rattle.txn_names.specs.Tables.{Named}
use Rattle.journal_core.specs.declared.entry.Entry.{Entry}
use Rattle.journal_core.specs.declared.entry.Entry.TheVariants.{Began, Sealed, Committed, Withdrawn}
use Rattle.journal_core.specs.Journal.{is_begin, is_live, program_of, tables_after, Continues, IsLegal, IsLegalFrom}
use Rattle.journal_core.specs.Reply.{outcome_words}
use Rattle.journal_core.proofs.Legal.{counts, begun-live, legal-push}
use Rattle.journal_table.specs.Rows.{Row, heading}
use Rattle.journal_table.specs.Spelled.{Spells, AreSpelled}
use Rattle.journal_table.proofs.Only.{only-began, only-committed, only-withdrawn, only-sealed}
use Rattle.report_check.specs.Judging.{IsFirstWrong}
use Rattle.serial_audit.specs.Tables.{IsTable}

-- an empty journal
bare : (names : List Named) (opening : Tables) → IsTable names opening (heading ∷ [])
bare names opening = record { entries = []; entry_rows = []; all = refl; spelled = refl; legal = tt }

-- no row at all
pub first-none : (names : List Named) (opening : Tables) (rows : List Row) → rows ≡ [] → IsFirstWrong (IsTable names opening) rows 0
first-none names opening rows none = subst (λ rs. IsFirstWrong (IsTable names opening) rs 0) (sym none) (record {
  before = (heading ∷ [], bare names opening);
  wrong = inr (refl, λ t. let is = t.all in cc);
})

-- another row in place of the heading
pub first-other : (names : List Named) (opening : Tables) (rows more : List Row) (row : Row) → rows ≡ row ∷ more → row ≢ heading → IsFirstWrong (IsTable names opening) rows 0
first-other names opening rows more row is other = subst (λ rs. IsFirstWrong (IsTable names opening) rs 0) (sym is) (record {
  before = (heading ∷ [], bare names opening);
  wrong = inl (omega arith, λ b. other (let same = b.1.all in cc));
})

live-few : (opening : Tables) (entries : List Entry) (t : ℕ) → IsLegal opening entries → length entries < 2 ^ 64 → is_live entries t ≡ true → t < 2 ^ 64
live-few opening entries t legal few is =
    let most = (counts opening entries legal).bounded t (begun-live entries t is) in
    let within = count_by-le-length is_begin entries in
    omega (arith, most, within, few)

-- one row spells one entry that may follow
same-entry : (names : List Named) (opening : Tables) (journal : List Entry) (row : Row) (e d : Entry) → IsLegal opening journal → length journal < 2 ^ 64 → Spells names e row → Spells names d row → Continues opening journal e → Continues opening journal d → e ≡ d
same-entry names opening journal row (Began t deadline program) d legal few spells other continues follows =
    let says = only-began names d (decimal t) (decimal deadline) spells.0 (subst (Spells names d) spells.1 other) in
    let next : Continues opening journal (Began says.txn says.deadline says.program) = subst (Continues opening journal) says.is follows in
    let number : says.txn ≡ t = next.0 ∙ sym continues.0 in
    let here = spells.2 in
    let there = says.limit in
    let time : says.deadline ≡ deadline = decimal_injective says.deadline deadline (omega (arith, there)) (omega (arith, here)) says.time in
    let program : says.program ≡ program = let a = says.read in let b = spells.3 in cc in
    let is = says.is in
    cc
same-entry names opening journal row Sealed d legal few spells other continues follows = sym (only-sealed names d (subst (Spells names d) spells other))
same-entry names opening journal row (Committed t outcome) d legal few spells other continues follows =
    let says = only-committed names d (decimal t) (outcome_words outcome) (subst (Spells names d) spells other) in
    let next : Continues opening journal (Committed says.txn says.outcome) = subst (Continues opening journal) says.is follows in
    let number : says.txn ≡ t = decimal_injective says.txn t (live-few opening journal says.txn legal few next.0) (live-few opening journal t legal few continues.0) says.number in
    let told : says.outcome ≡ outcome = next.1 ∙ ap (λ u. outcome_of (program_of journal u) (tables_after opening journal)) number ∙ sym continues.1 in
    let is = says.is in
    cc
same-entry names opening journal row (Withdrawn t) d legal few spells other continues follows =
    let says = only-withdrawn names d (decimal t) (subst (Spells names d) spells other) in
    let next : Continues opening journal (Withdrawn says.txn) = subst (Continues opening journal) says.is follows in
    let number : says.txn ≡ t = decimal_injective says.txn t (live-few opening journal says.txn legal few next.0) (live-few opening journal t legal few continues.0) says.number in
    let is = says.is in
    cc

-- what other entries, whose rows begin with these, have behind them
record Tail (names : List Named) (opening : Tables) (journal entries others : List Entry) (more : List Row) : Type 0 where
  tail : List Entry
  spelled : AreSpelled names tail more
  legal : IsLegalFrom opening (journal ++ entries) tail

tail-of : (names : List Named) (opening : Tables) (journal entries others : List Entry) (rows more : List Row) → IsLegal opening journal → length journal + length rows < 2 ^ 64 → IsLegalFrom opening journal entries → IsLegalFrom opening journal others
    → AreSpelled names entries rows → AreSpelled names others (rows ++ more) → Tail names opening journal entries others more
tail-of names opening journal [] others rows more legal few here there spelled other = record {
  tail = others;
  spelled = subst (λ rs. AreSpelled names others (rs ++ more)) spelled other;
  legal = subst (λ j. IsLegalFrom opening j others) (sym (append-nil journal)) there;
}
tail-of names opening journal (e ∷ entries) others [] more legal few here there spelled other = absurd spelled
tail-of names opening journal (e ∷ entries) [] (row ∷ rows) more legal few here there spelled other = cc
tail-of names opening journal (e ∷ entries) (d ∷ others) (row ∷ rows) more legal few here there spelled other =
    let short : length journal < 2 ^ 64 = omega (arith, few) in
    let same : d ≡ e = sym (same-entry names opening journal row e d legal short spelled.0 other.0 here.0 there.0) in
    let longer : length (journal ++ e ∷ []) ≡ length journal + 1 = length-append journal (e ∷ []) in
    let rest = tail-of names opening (journal ++ e ∷ []) entries others rows more (legal-push opening journal e legal here.0) (omega (arith, few, longer)) here.1 (subst (λ x. IsLegalFrom opening (journal ++ x ∷ []) others) same there.1) spelled.1 other.1 in
    record {
      tail = rest.tail;
      spelled = rest.spelled;
      legal = subst (λ j. IsLegalFrom opening j rest.tail) (append_assoc journal (e ∷ []) entries) rest.legal;
    }

-- one entry more, with its row
pub spelled-more : (names : List Named) (entries : List Entry) (rows : List Row) (e : Entry) (row : Row) → AreSpelled names entries rows → Spells names e row → AreSpelled names (entries ++ e ∷ []) (rows ++ row ∷ [])
spelled-more names [] rows e row all one = subst (λ rs. AreSpelled names (e ∷ []) (rs ++ row ∷ [])) (sym all) (one, refl)
spelled-more names (d ∷ entries) [] e row all one = absurd all
spelled-more names (d ∷ entries) (r ∷ rows) e row all one = (all.0, spelled-more names entries rows e row all.1 one)

-- the rows are those of a legal journal, and the next is of no entry that may follow
pub first-bad : (names : List Named) (opening : Tables) (all : List Row) (entries : List Entry) (rows more : List Row) (bad : Row) → all ≡ (heading ∷ rows ++ bad ∷ []) ++ more → AreSpelled names entries rows → IsLegal opening entries → length rows < 2 ^ 64
    → ((e : Entry) → Spells names e bad → Continues opening entries e → ⊥) → IsFirstWrong (IsTable names opening) all (length rows + 1)
first-bad names opening all entries rows more bad is spelled legal few none = subst (λ rs. IsFirstWrong (IsTable names opening) rs (length rows + 1)) (sym is) (record {
  before = ([], subst (IsTable names opening) (sym (append-nil (take (length rows + 1) ((heading ∷ rows ++ bad ∷ []) ++ more)) ∙ front)) (record { entries = entries; entry_rows = rows; all = refl; spelled = spelled; legal = legal }));
  wrong = inl (within, λ b. wrong b.0 (subst (λ rs. IsTable names opening (rs ++ b.0)) whole b.1));
})
  where
    parts : (heading ∷ rows ++ bad ∷ []) ++ more ≡ (heading ∷ rows) ++ bad ∷ more
    parts = append_assoc (heading ∷ rows) (bad ∷ []) more

    front : take (length rows + 1) ((heading ∷ rows ++ bad ∷ []) ++ more) ≡ heading ∷ rows
    front = ap (take (length rows + 1)) parts ∙ take_at (heading ∷ rows) (bad ∷ more) (length rows + 1) (omega arith)

    size : length (heading ∷ rows ++ bad ∷ []) ≡ length rows + 1 + 1
    size = length-append (heading ∷ rows) (bad ∷ []) ∙ omega arith

    whole : take (length rows + 1 + 1) ((heading ∷ rows ++ bad ∷ []) ++ more) ≡ heading ∷ rows ++ bad ∷ []
    whole = take_at (heading ∷ rows ++ bad ∷ []) more (length rows + 1 + 1) size

    within : length rows + 1 < length ((heading ∷ rows ++ bad ∷ []) ++ more)
    within = let s = size in let l = length-append (heading ∷ rows ++ bad ∷ []) more in omega (arith, s, l)

    next : (tail : List Entry) (m : List Row) → AreSpelled names tail (bad ∷ m) → IsLegalFrom opening entries tail → ⊥
    next [] m s l = cc
    next (e ∷ tail) m s l = none e s.0 l.0

    wrong : (m : List Row) → IsTable names opening ((heading ∷ rows ++ bad ∷ []) ++ m) → ⊥
    wrong m t =
        let same : t.entry_rows ≡ rows ++ bad ∷ m = let a = t.all in let p = append_assoc (heading ∷ rows) (bad ∷ []) m in cc in
        let rest = tail-of names opening [] entries t.entries rows (bad ∷ m) tt (omega (arith, few)) legal t.legal spelled (subst (AreSpelled names t.entries) same t.spelled) in
        next rest.tail m rest.spelled rest.legal
