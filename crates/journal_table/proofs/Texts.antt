-- Texts that are put together, and taken apart again.
use Rattle.std.proofs.Common.{◌≡◌, ℕ, ◌+◌, ◌-◌, ◌≤◌, List, [], ◌∷◌, ◌++◌, length, take, drop, refl, sym, ap, ◌∙◌, append_assoc, arith, length-append}
use Rattle.std.proofs.Common.{add-one, subst, Option, Some, None}
use Rattle.std.specs.Prelude.{codes, decimal}
use Rattle.std.specs.List.{slice_get}
use Rattle.std.specs.Io.KnownBytes.{Appends}
use Rattle.std.proofs.Math.Seq.{take-suc}
use Rattle.std.proofs.lemmas.Option.{slice_get_within, get_or_from_slice_get}
use Rattle.std.proofs.lemmas.Grind.{flat_map-append}
use Rattle.csv.specs.declared.writer.Writer.{Writer}
use Rattle.csv.specs.Writing.{default_writer, row_text, is_blank, text_written}
use Rattle.txn_names.specs.Tables.{Named}
use Rattle.journal_core.specs.declared.entry.Entry.{Entry}
use Rattle.journal_core.specs.declared.entry.Entry.TheVariants.{Began, Sealed, Committed, Withdrawn}
use Rattle.journal_table.specs.Rows.{Row, row_of, record_text}
use Rattle.journal_table.specs.Writes.{IsBetween, PutsRows}
use Rattle.std.proofs.lemmas.List.{append-nil, take-append-le}
use Rattle.std.proofs.Math.Seq.{take-length}
use Rattle.std.proofs.Common.{lit<}
use Rattle.std.proofs.lemmas.Fmt.{decimal_digit}
use Rattle.txn_runs.specs.declared.outcome.Outcome.{Outcome}
use Rattle.journal_core.specs.Reply.{outcome_words}

-- a text without its last byte
pub last-off : (xs : List ℕ) (b n : ℕ) → n ≡ length (xs ++ b ∷ []) → take (n - 1) (xs ++ b ∷ []) ≡ xs
last-off xs b n e =
    let size = length-append xs (b ∷ []) in
    let at : n - 1 ≡ length xs = omega (arith, size) in
    let within : n - 1 ≤ length xs = omega (arith, at) in
    rw take-append-le (ap (λ k. take k xs) at ∙ take-length xs)

-- what a call of `pop` leaves of a text, by its clauses
pub popped : (old new gone front : List ℕ) (b n m : ℕ) → old ≡ new ++ gone → m + length gone ≡ n → length new ≡ m → new ≡ take (n - 1) old → old ≡ front ++ b ∷ [] → new ≡ front
popped old new gone front b n m parts count left rest is =
    let whole : length old ≡ length new + length gone = ap length parts ∙ length-append new gone in
    let size : n ≡ length (front ++ b ∷ []) = let same = ap length is in omega (arith, whole, count, left, same) in
    rest ∙ ap (take (n - 1)) is ∙ last-off front b n size

-- the words of a commit line behind a number of one digit
pub words-behind : (o : Outcome) → drop 9 (codes "commit " ++ decimal 0 ++ codes " " ++ outcome_words o) ≡ outcome_words o
words-behind o = ap (λ d. drop 9 (codes "commit " ++ d ++ codes " " ++ outcome_words o)) (decimal_digit 0 (lit< tt))

-- the first elements of a list, with one more
pub take-more : {A : Type 0} (xs : List A) (n : ℕ) (x : A) → slice_get xs n ≡ Some x → take (n + 1) xs ≡ take n xs ++ x ∷ []
take-more xs n x is = rw add-one (take-suc xs n x (slice_get_within xs n x is) ∙ ap (λ y. take n xs ++ y ∷ []) (get_or_from_slice_get xs n x x is))

-- Writers.

appends-none : (a : Option (List ℕ)) → Appends a a []
appends-none None = tt
appends-none (Some a) = sym (append-nil a)

-- no row leaves a writer as it is
pub puts-none : {W : Type 0} (contents : W → Option (List ℕ)) (w : Writer W) → IsBetween w → PutsRows contents w w []
puts-none contents w between = record { between = between; text = appends-none (text_written contents w) }

appends-more : (a b c : Option (List ℕ)) (xs ys : List ℕ) → Appends a b xs → Appends b c ys → Appends a c (xs ++ ys)
appends-more None b c xs ys h k = tt
appends-more (Some a) None c xs ys h k = absurd h
appends-more (Some a) (Some b) None xs ys h k = k
appends-more (Some a) (Some b) (Some c) xs ys h k = k ∙ ap (λ l. l ++ ys) h ∙ append_assoc a xs ys

-- rows, and then more of them
pub puts-more : {W : Type 0} (contents : W → Option (List ℕ)) (a b c : Writer W) (rows more : List Row) → PutsRows contents a b rows → PutsRows contents b c more → PutsRows contents a c (rows ++ more)
puts-more contents a b c rows more h k = record {
  between = k.between;
  text = subst (Appends (text_written contents a) (text_written contents c)) (sym (flat_map-append (row_text default_writer) rows more)) (appends-more (text_written contents a) (text_written contents b) (text_written contents c) _ _ h.text k.text);
}

-- Rows.

-- a row of four fields ends with a newline alone
pub row-ends : (names : List Named) (e : Entry) → row_text default_writer (row_of names e) ≡ record_text names e ++ 10 ∷ []
unfolding is_blank
row-ends names (Began txn deadline program) = refl
row-ends names Sealed = refl
row-ends names (Committed txn outcome) = refl
row-ends names (Withdrawn txn) = refl

-- what was written where there was nothing
pub wrote-one : {W : Type 0} (contents : W → Option (List ℕ)) (old new : Writer W) (row : Row) (text : List ℕ) → text_written contents old ≡ Some [] → text_written contents new ≡ Some text → PutsRows contents old new (row ∷ []) → text ≡ row_text default_writer row
wrote-one contents old new row text none all h =
    let grown : Appends (text_written contents old) (text_written contents new) (row_text default_writer row ++ []) = h.text in
    let from : Appends (Some []) (text_written contents new) (row_text default_writer row ++ []) = subst (λ a. Appends a (text_written contents new) (row_text default_writer row ++ [])) none grown in
    let to : Appends (Some []) (Some text) (row_text default_writer row ++ []) = subst (λ b. Appends (Some []) b (row_text default_writer row ++ [])) all from in
    to ∙ append-nil (row_text default_writer row)
