-- What a replay keeps when an entry comes.
use Rattle.std.proofs.Common.{◌≡◌, ◌≤◌, ◌<◌, ℕ, zero, suc, ◌+◌, ◌-◌, List, [], ◌∷◌, ◌++◌, length, Some, None, false, true, refl, sym, ap, subst, ◌∙◌, arith, get_or, inl, inr, length-append, add-zero, eq-eqb}
use Rattle.std.specs.List.{slice_get}
use Rattle.std.proofs.lemmas.Bool.{cases_lt}
use Rattle.std.proofs.lemmas.List.{get_or_append_left, get_or_default}
use Rattle.std.proofs.Math.Seq.{get_or-append_seam}
use Rattle.txn_runs.specs.Run.{Tables, Writes}
use Rattle.txn_runs.specs.Serial.{over, effect_of}
use Rattle.txn_runs.specs.Bounds.{reach}
use Rattle.txn_runs.specs.declared.program.Program.{Program}
use Rattle.txn_runs.specs.declared.outcome.Outcome.{Outcome}
use Rattle.journal_core.specs.declared.entry.Entry.{Entry}
use Rattle.journal_core.specs.declared.entry.Entry.TheVariants.{Began, Committed}
use Rattle.journal_core.specs.Journal.{is_begin, began, has_begun, is_live, program_of, commit_in, Continues}
use Rattle.journal_core.proofs.Legal.{began-push, begun-live, begun-more, program_of-push, program_of-begun, has_begun-push, legal-push, counts, next_new, tables_after-other, tables_after-commit}
use Rattle.journal_table.specs.Replayed.{IsBegin, IsKept}

got-longer : {A : Type 0} (xs ys : List A) (k : ℕ) (x : A) → slice_get xs k ≡ Some x → slice_get (xs ++ ys) k ≡ Some x
got-longer [] ys k x is = cc
got-longer (y ∷ xs) ys zero x is = is
got-longer (y ∷ xs) ys (suc k) x is = got-longer xs ys k x is

got-last : {A : Type 0} (xs : List A) (x : A) → slice_get (xs ++ x ∷ []) (length xs) ≡ Some x
got-last [] x = refl
got-last (y ∷ xs) x = got-last xs x

begin-longer : (entries : List Entry) (e : Entry) (items t place : ℕ) → IsBegin entries items t place → IsBegin (entries ++ e ∷ []) items t place
begin-longer entries e items t place b = record {
  deadline = b.deadline;
  program = b.program;
  there = got-longer entries (e ∷ []) place (Began t b.deadline b.program) b.there;
  begun = begun-more entries e t b.begun;
  is = program_of-push entries e t b.begun ∙ b.is;
  fits = b.fits;
}

over-length : (ws : Writes) (d : Tables) → length (over ws d) ≡ length d
over-length ws [] = refl
over-length [] (v ∷ d) = refl
over-length (w ∷ ws) (v ∷ d) = ap suc (over-length ws d)

-- an entry that begins and commits nobody
pub kept-other : (opening : Tables) (entries : List Entry) (begins : List ℕ) (tables : Tables) (items : ℕ) (e : Entry) → IsKept opening entries begins tables items → Continues opening entries e → is_begin e ≡ false → commit_in e ≡ None → IsKept opening (entries ++ e ∷ []) begins tables items
kept-other opening entries begins tables items e k continues begins_none commits_none = record {
  legal = legal-push opening entries e k.legal continues;
  many = k.many ∙ sym (began-push entries e ∙ rw (begins_none, add-zero) refl);
  each = λ i lt. begin-longer entries e items (i + 1) (get_or begins i 0) (k.each i lt);
  serial = k.serial ∙ sym (tables_after-other opening entries e (counts opening entries k.legal) commits_none);
  opened = k.opened;
  sized = k.sized;
}

-- a begin, whose place is noted
pub kept-begin : (opening : Tables) (entries : List Entry) (begins : List ℕ) (tables : Tables) (items t deadline : ℕ) (program : Program) → IsKept opening entries begins tables items → Continues opening entries (Began t deadline program) → reach program ≤ items
    → IsKept opening (entries ++ Began t deadline program ∷ []) (begins ++ length entries ∷ []) tables items
kept-begin opening entries begins tables items t deadline program k continues fits =
    let e : Entry = Began t deadline program in
    let fresh = next_new entries t (counts opening entries k.legal) continues.0 in
    let many : length (begins ++ length entries ∷ []) ≡ length begins + 1 = length-append begins (length entries ∷ []) in
    let count : began (entries ++ e ∷ []) ≡ began entries + 1 = began-push entries e in
    let here : t ≡ length begins + 1 = continues.0 ∙ ap (λ n. n + 1) (sym k.many) in
    let last : IsBegin (entries ++ e ∷ []) items t (length entries) = record {
      deadline = deadline;
      program = program;
      there = got-last entries e;
      begun = has_begun-push entries e t ∙ rw fresh (eq-eqb t t refl);
      is = program_of-begun entries t deadline program fresh;
      fits = fits;
    } in
    record {
      legal = legal-push opening entries e k.legal continues;
      many = many ∙ ap (λ n. n + 1) k.many ∙ sym count;
      each = λ i lt. elim (cases_lt i (length begins)) [
        | inl below ↦ subst (IsBegin (entries ++ e ∷ []) items (i + 1)) (sym (get_or_append_left begins (length entries ∷ []) 0 i below)) (begin-longer entries e items (i + 1) (get_or begins i 0) (k.each i below))
        | inr past ↦
            let at : i ≡ length begins = omega (arith, lt, many, past) in
            let number : t ≡ i + 1 = here ∙ ap (λ n. n + 1) (sym at) in
            let place : length entries ≡ get_or (begins ++ length entries ∷ []) i 0 = sym (ap (λ n. get_or (begins ++ length entries ∷ []) n 0) at ∙ get_or-append_seam begins (length entries) [] 0) in
            subst (λ n. IsBegin (entries ++ e ∷ []) items n (get_or (begins ++ length entries ∷ []) i 0)) number (subst (IsBegin (entries ++ e ∷ []) items t) place last)
      ];
      serial = k.serial ∙ sym (tables_after-other opening entries e (counts opening entries k.legal) refl);
      opened = k.opened;
      sized = k.sized;
    }

-- a commit, whose effect is laid over the tables
pub kept-commit : (opening : Tables) (entries : List Entry) (begins : List ℕ) (tables : Tables) (items t : ℕ) (outcome : Outcome) → IsKept opening entries begins tables items → Continues opening entries (Committed t outcome) → has_begun entries t ≡ true
    → IsKept opening (entries ++ Committed t outcome ∷ []) begins (over (effect_of (program_of entries t) tables) tables) items
kept-commit opening entries begins tables items t outcome k continues begun =
    let e : Entry = Committed t outcome in
    record {
      legal = legal-push opening entries e k.legal continues;
      many = k.many ∙ sym (began-push entries e ∙ add-zero (began entries));
      each = λ i lt. begin-longer entries e items (i + 1) (get_or begins i 0) (k.each i lt);
      serial = ap (λ ts. over (effect_of (program_of entries t) ts) ts) k.serial ∙ sym (tables_after-commit opening entries t outcome (counts opening entries k.legal) begun);
      opened = k.opened;
      sized = over-length (effect_of (program_of entries t) tables) tables ∙ k.sized;
    }

-- where a live transaction began
pub record Begun (opening : Tables) (entries : List Entry) (begins : List ℕ) (items t : ℕ) : Type 0 where
  pub some : 1 ≤ t
  pub within : t - 1 < length begins
  pub begun : has_begun entries t ≡ true
  pub at : (place : ℕ) → place ≡ get_or begins (t - 1) place → IsBegin entries items t place

pub begun-here : (opening : Tables) (entries : List Entry) (begins : List ℕ) (tables : Tables) (items t : ℕ) → IsKept opening entries begins tables items → is_live entries t ≡ true → Begun opening entries begins items t
begun-here opening entries begins tables items t k is =
    let c = counts opening entries k.legal in
    let begun = begun-live entries t is in
    let some = c.positive t begun in
    let most = c.bounded t begun in
    let many = k.many in
    let within : t - 1 < length begins = omega (arith, some, most, many) in
    let number : t - 1 + 1 ≡ t = omega (arith, some) in
    record {
      some = some;
      within = within;
      begun = begun;
      at = λ place is.
          let same : get_or begins (t - 1) 0 ≡ place = get_or_default begins (t - 1) 0 place within ∙ sym is in
          subst (IsBegin entries items t) same (subst (λ n. IsBegin entries items n (get_or begins (t - 1) 0)) number (k.each (t - 1) within));
    }
