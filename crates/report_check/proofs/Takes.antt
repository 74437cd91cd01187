-- What becomes of a line: it is taken in, or no report has it behind those before it.
use Rattle.std.proofs.Common.{◌≡◌, ◌≢◌, inl, inr, ℕ, zero, suc, ◌-◌, ◌<◌, ◌^◌, Bool, true, false, List, [], ◌∷◌, ◌++◌, length, get_or, Option, Some, None, slice_get, refl, sym, ap, ◌∙◌, subst, arith}
use Rattle.std.specs.Prelude.{min, option_map}
use Rattle.std.specs.List.{cons_option}
use Rattle.std.proofs.lemmas.Option.{same_Some}
use Rattle.txn_runs.specs.Run.{Tables}
use Rattle.txn_runs.specs.Serial.{outcome_of}
use Rattle.txn_runs.specs.declared.program.Program.{Program}
use Rattle.txn_names.specs.Tables.{Named, IsNames}
use Rattle.report_text.specs.Order.{commit_number}
use Rattle.report_text.specs.Rows.{last_rows}
use Rattle.report_text.proofs.Rows.{commit-named}
use Rattle.report_text.proofs.Told.{last-named}
use Rattle.report_check.specs.Reports.{named_in}
use Rattle.report_check.specs.Checked.{Held, IsSound, Stands, IsNext, IsLast, Commits, Tells, Takes, Differs}
use Rattle.report_check.specs.Limits.{AreLimited, AreNarrowTables}
use Rattle.report_check.proofs.Next.{next-of}
use Rattle.report_check.proofs.Short.{short-next, short-last}
use Rattle.report_check.proofs.Taking.{sound-commit, stands-commit, sound-last, stands-last}

-- Which number a line names.

unnamed-at : (rows : List (List ℕ)) (n : ℕ) (line : List ℕ) → named_in rows ≡ [] → slice_get rows n ≡ Some line → commit_number line ≡ None
unnamed-at [] n line none is = absurd (cc)
unnamed-at (r ∷ rows) n line none is = by n (commit_number r) refl none is (λ k. unnamed-at rows k line)
  where
    by : (n : ℕ) (o : Option ℕ) → commit_number r ≡ o → cons_option o (named_in rows) ≡ [] → slice_get (r ∷ rows) n ≡ Some line
        → ((k : ℕ) → named_in rows ≡ [] → slice_get rows k ≡ Some line → commit_number line ≡ None) → commit_number line ≡ None
    by n (Some t) named none is behind = absurd (cc)
    by zero None named none is behind = ap commit_number (sym (same_Some r line is)) ∙ named
    by (suc n) None named none is behind = behind n none is

-- a line behind the commits names none
last-unnamed : (names : List Named) (h : Held) (line : List ℕ) → IsLast names h line → commit_number line ≡ None
last-unnamed names h line last = unnamed-at (last_rows names h.table h.commits) h.told line (last-named names h.table h.commits) last.row

-- the next commit names its program
next-named : (programs : List Program) (h : Held) (line : List ℕ) (t : ℕ) → length programs < 2 ^ 32 → IsNext programs h line t → commit_number line ≡ Some t
next-named programs h line t few next =
    let most = next.most in
    ap commit_number next.row ∙ commit-named t (outcome_of (get_or programs (t - 1) []) h.table) (omega (arith, most, few))

-- it is the number that was read
pub next-number : (programs : List Program) (h : Held) (line : List ℕ) (t n : ℕ) → length programs < 2 ^ 32 → option_map (λ n. min n (2 ^ 64 - 1)) (commit_number line) ≡ Some n → IsNext programs h line t → t ≡ n
next-number programs h line t n few read next =
    let most = next.most in
    let small : min t (2 ^ 64 - 1) ≡ t = omega (arith, most, few) in
    let both : Some (min t (2 ^ 64 - 1)) ≡ Some n = ap (option_map (λ n. min n (2 ^ 64 - 1))) (sym (next-named programs h line t few next)) ∙ read in
    sym small ∙ same_Some _ _ both

-- A line that may be a commit, and one that is none.

pub takes-commit : (names : List Named) (programs : List Program) (old new : Held) (line : List ℕ) (goes : Bool) → IsNames names → IsSound names programs old → old.told ≡ 0 → commit_number line ≢ None
    → Commits programs old new line goes → Takes names programs old new line goes
takes-commit names programs old new line true plain sound start named (t, next, is) =
    subst (λ (h : Held). IsSound names programs h × ((opening : Tables) (lines : List (List ℕ)) → Stands names opening programs old lines → Stands names opening programs h (lines ++ line ∷ []))) (sym is) (
      sound-commit names programs old line t sound next,
      λ opening lines s. stands-commit names opening programs old lines line t sound start next s,
    )
takes-commit names programs old new line false plain sound start named none =
    λ opening lines s begun. elim (next-of names opening programs old lines line plain sound s begun) [ inl next ↦ none next.1.0 next.1.1 | inr last ↦ named (last-unnamed names old line last) ]

pub takes-last : (names : List Named) (programs : List Program) (old new : Held) (line : List ℕ) (goes : Bool) → IsNames names → IsSound names programs old → (old.told ≡ 0 → commit_number line ≡ None)
    → Tells names old new line goes → Takes names programs old new line goes
takes-last names programs old new line true plain sound other (last, is) =
    subst (λ (h : Held). IsSound names programs h × ((opening : Tables) (lines : List (List ℕ)) → Stands names opening programs old lines → Stands names opening programs h (lines ++ line ∷ []))) (sym is) (
      sound-last names programs old line sound last,
      λ opening lines s. stands-last names opening programs old lines line sound last s,
    )
takes-last names programs old new line false plain sound other none =
    λ opening lines s begun. elim (next-of names opening programs old lines line plain sound s begun) [
      | inl next ↦ (let here = next-named programs old line next.1.0 sound.few next.1.1 in let none = other next.0 in absurd (cc))
      | inr last ↦ none last
    ]

-- A line that is too long.

pub long-differs : (names : List Named) (programs : List Program) (h : Held) (line : List ℕ) → IsNames names → IsSound names programs h → AreLimited programs → AreNarrowTables h.table → 32768 < length line → Differs names programs h line
long-differs names programs h line plain sound limits tables long =
    λ opening lines s begun. elim (next-of names opening programs h lines line plain sound s begun) [
      | inl next ↦ absurd (omega (arith, long, short-next programs h line next.1.0 sound.few limits tables next.1.1))
      | inr last ↦ absurd (omega (arith, long, short-last names programs h line plain sound tables last))
    ]

-- What is kept is the same, where the tables are and the room is.
pub held-same : (table table' : Tables) (taken : List Bool) (commits told room room' : ℕ) → table ≡ table' → room ≡ room'
    → ◌≡◌ {A = Held} (record { table = table; taken = taken; commits = commits; told = told; room = room }) (record { table = table'; taken = taken; commits = commits; told = told; room = room' })
held-same table table' taken commits told room room' tables rooms = cc

-- where no number was read, the line names none
pub unread-number : (line : List ℕ) → option_map (λ n. min n (2 ^ 64 - 1)) (commit_number line) ≡ None → commit_number line ≡ None
unread-number line none = go (commit_number line) none
  where
    go : (o : Option ℕ) → option_map (λ n. min n (2 ^ 64 - 1)) o ≡ None → o ≡ None
    go None none = refl
    go (Some n) none = absurd (cc)
