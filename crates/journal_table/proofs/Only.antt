-- Which entry a row of a kind spells.
use Rattle.std.proofs.Common.{◌≡◌, ◌≤◌, ℕ, get_or, List, [], ◌∷◌, Ok, refl, sym, ap, ◌∙◌, arith}
use Rattle.std.specs.Prelude.{codes, decimal}
use Rattle.txn_names.specs.Tables.{Named}
use Rattle.txn_runs.specs.declared.program.Program.{Program}
use Rattle.txn_runs.specs.declared.outcome.Outcome.{Outcome}
use Rattle.txn_syntax.specs.Reads.{read_of}
use Rattle.journal_core.specs.declared.entry.Entry.{Entry}
use Rattle.journal_core.specs.declared.entry.Entry.TheVariants.{Began, Sealed, Committed, Withdrawn}
use Rattle.journal_core.specs.Reply.{outcome_words}
use Rattle.journal_table.specs.Spelled.{Spells}

heads-same : (a b : List ℕ) (xs ys : List (List ℕ)) → a ∷ xs ≡ b ∷ ys → get_or a 0 0 ≡ get_or b 0 0
heads-same a b xs ys e = let same : a ≡ b = cc in ap (λ l. get_or l 0 0) same

committed-withdrawn : (xs ys : List (List ℕ)) → codes "committed" ∷ xs ≡ codes "withdrawn" ∷ ys → ⊥
committed-withdrawn xs ys e = let first : 99 ≡ 119 = heads-same (codes "committed") (codes "withdrawn") xs ys e in omega (arith, first)

pub record SaysBegan (names : List Named) (e : Entry) (first second spelling : List ℕ) : Type 0 where
  pub txn : ℕ
  pub deadline : ℕ
  pub program : Program
  pub is : e ≡ Began txn deadline program
  pub number : decimal txn ≡ first
  pub time : decimal deadline ≡ second
  pub limit : deadline ≤ 1000000000000
  pub read : read_of names spelling ≡ Ok program

pub only-began : (names : List Named) (e : Entry) (n d s : List ℕ) → Spells names e (codes "began" ∷ n ∷ d ∷ s ∷ []) → SaysBegan names e n d s
only-began names (Began txn deadline program) n d s h =
    let is = h.1 in
    let spelling : s ≡ h.0 = cc in
    record {
      txn = txn;
      deadline = deadline;
      program = program;
      is = refl;
      number = cc;
      time = cc;
      limit = h.2;
      read = ap (read_of names) spelling ∙ h.3;
    }
only-began names Sealed n d s h = let no : ⊥ = cc in absurd no
only-began names (Committed txn outcome) n d s h = let no : ⊥ = cc in absurd no
only-began names (Withdrawn txn) n d s h = let no : ⊥ = cc in absurd no

pub record SaysCommitted (e : Entry) (first last : List ℕ) : Type 0 where
  pub txn : ℕ
  pub outcome : Outcome
  pub is : e ≡ Committed txn outcome
  pub number : decimal txn ≡ first
  pub words : outcome_words outcome ≡ last

pub only-committed : (names : List Named) (e : Entry) (n w : List ℕ) → Spells names e (codes "committed" ∷ n ∷ [] ∷ w ∷ []) → SaysCommitted e n w
only-committed names (Began txn deadline program) n w h = let is = h.1 in let no : ⊥ = cc in absurd no
only-committed names Sealed n w h = let no : ⊥ = cc in absurd no
only-committed names (Committed txn outcome) n w h = record { txn = txn; outcome = outcome; is = refl; number = cc; words = cc }
only-committed names (Withdrawn txn) n w h = absurd (committed-withdrawn (n ∷ [] ∷ w ∷ []) (decimal txn ∷ [] ∷ [] ∷ []) h)

pub record SaysWithdrawn (e : Entry) (first : List ℕ) : Type 0 where
  pub txn : ℕ
  pub is : e ≡ Withdrawn txn
  pub number : decimal txn ≡ first

pub only-withdrawn : (names : List Named) (e : Entry) (n : List ℕ) → Spells names e (codes "withdrawn" ∷ n ∷ [] ∷ [] ∷ []) → SaysWithdrawn e n
only-withdrawn names (Began txn deadline program) n h = let is = h.1 in let no : ⊥ = cc in absurd no
only-withdrawn names Sealed n h = let no : ⊥ = cc in absurd no
only-withdrawn names (Committed txn outcome) n h = absurd (committed-withdrawn (decimal txn ∷ [] ∷ outcome_words outcome ∷ []) (n ∷ [] ∷ [] ∷ []) (sym h))
only-withdrawn names (Withdrawn txn) n h = record { txn = txn; is = refl; number = cc }

pub only-sealed : (names : List Named) (e : Entry) → Spells names e (codes "sealed" ∷ [] ∷ [] ∷ [] ∷ []) → e ≡ Sealed
only-sealed names (Began txn deadline program) h = let is = h.1 in let no : ⊥ = cc in absurd no
only-sealed names Sealed h = refl
only-sealed names (Committed txn outcome) h = let no : ⊥ = cc in absurd no
only-sealed names (Withdrawn txn) h = let no : ⊥ = cc in absurd no
