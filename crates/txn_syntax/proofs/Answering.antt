-- Reading answers as the grammar says, and no other answer is right.
use Rattle.std.proofs.Common.{◌≡◌, ℕ, List, [], ◌∷◌, ◌++◌, map, Option, None, Some, Result, Ok, Err, ◌⊎◌, inl, inr, refl, sym, ap, ◌∙◌, subst, append_assoc, length}
use Rattle.std.proofs.lemmas.List.{append-nil, map-append}
use Rattle.txn_runs.specs.declared.program.Stmt.{Stmt}
use Rattle.txn_names.specs.Tables.{Named}
use Rattle.txn_tokens.specs.declared.token.Token.{Token}
use Rattle.txn_tokens.specs.declared.token.Placed.{Placed}
use Rattle.txn_tokens.specs.Tokens.{tokens}
use Rattle.txn_syntax.specs.declared.refusal.Which.{Which}
use Rattle.txn_syntax.specs.declared.refusal.ReadRefusal.{ReadRefusal}
use Rattle.txn_syntax.specs.declared.refusal.ReadRefusal.TheVariants.{Syntax, UnknownTable, Limit, OutOfMemory}
use Rattle.txn_syntax.specs.Grammar.{Text, program}
use Rattle.txn_syntax.specs.Meaning.{meant, broken}
use Rattle.txn_syntax.specs.Reading.{Progress, Before, Within, Behind, progress_step, going_on, reading}
use Rattle.txn_syntax.specs.Reads.{token_of, place_of, text_from, first_unknown, within_limits, with_tables, judged, read_of}
use Rattle.txn_syntax.specs.Answers.{Spells, Begins, EndsWith, IsSyntaxError, IsAnswer}
use Rattle.txn_syntax.proofs.SoFar.{so_far, IsFair}
use Rattle.txn_syntax.proofs.Moves.{goes_on}
use Rattle.txn_syntax.proofs.Complete.{read, read_program}
use Rattle.txn_syntax.proofs.TokensRead.{Same, same_read, Tells, tells}

read_append_on : (o : Option Progress) (x : Token) (xs ys : List Token) (q : Progress) → ((p : Progress) → read p xs ≡ Ok q → read p (xs ++ ys) ≡ read q ys) → going_on o (Err (x ∷ xs)) (λ p. read p xs) ≡ Ok q → going_on o (Err (x ∷ (xs ++ ys))) (λ p. read p (xs ++ ys)) ≡ read q ys
read_append_on None x xs ys q each h = cc
read_append_on (Some p) x xs ys q each h = each p h

ok_same : {A E : Type 0} (x y : A) → ◌≡◌ {A = Result A E} (Ok x) (Ok y) → x ≡ y
ok_same x y h = cc

-- tokens are read one after the other
read_append : (xs ys : List Token) (p q : Progress) → read p xs ≡ Ok q → read p (xs ++ ys) ≡ read q ys
read_append [] ys p q h = ap (λ v. read v ys) (ok_same p q h)
read_append (x ∷ xs) ys p q h = read_append_on (progress_step p x) x xs ys q (λ v is. read_append xs ys v q is) h

stuck : (q : Progress) (token : Token) (more : List Token) → progress_step q token ≡ None → read q (token ∷ more) ≡ Err (token ∷ more)
stuck q token more is = ap (λ o. going_on o (Err (token ∷ more)) (λ p. read p more)) is

-- where a token doesn't go on, no program begins with it
dead : (front : List Placed) (x : Placed) (q : Progress) → reading token_of Before front ≡ Ok q → progress_step q x.token ≡ None → Begins (map token_of front ++ x.token ∷ []) → ⊥
dead front x q reads none (more, text, is) =
    let plain : read Before (map token_of front) ≡ Ok q = subst (λ r. Same token_of r (read Before (map token_of front))) reads (same_read token_of Before front) in
    let all : read Before (program text) ≡ Err (x.token ∷ more) = ap (read Before) (is ∙ append_assoc (map token_of front) (x.token ∷ []) more) ∙ read_append (map token_of front) (x.token ∷ more) Before q plain ∙ stuck q x.token more none in
    let whole = read_program text in
    cc

-- what has been read is a whole program only at its end
ends_behind : (ts : List Placed) (p : Progress) (text : Text) → reading token_of Before ts ≡ Ok p → Spells ts text → p ≡ Behind text
ends_behind ts p text reads spells =
    let plain : read Before (map token_of ts) ≡ Ok p = subst (λ r. Same token_of r (read Before (map token_of ts))) reads (same_read token_of Before ts) in
    ok_same p (Behind text) (sym plain ∙ ap (read Before) (sym spells) ∙ read_program text)

begins_here : (ts : List Placed) (p : Progress) → IsFair p → so_far p ≡ map token_of ts → Begins (map token_of ts)
begins_here ts p fair all = subst Begins all (goes_on p fair)

too_early : (names : List Named) (bytes : List ℕ) (p : Progress) → ((text : Text) → p ≡ Behind text → ⊥) → reading token_of Before (tokens names bytes) ≡ Ok p → IsFair p → so_far p ≡ map token_of (tokens names bytes) → IsSyntaxError (tokens names bytes) (length bytes) (length bytes)
too_early names bytes p open_still reads fair all =
    record {
      front = tokens names bytes;
      rest = [];
      parts = sym (append-nil (tokens names bytes));
      begins = begins_here (tokens names bytes) p fair all;
      stops = λ text spells. open_still text (ends_behind (tokens names bytes) p text reads spells);
      place = refl;
    }

limits_answer : (names : List Named) (bytes : List ℕ) (text : Text) (which : Option Which) → broken text ≡ which → Spells (tokens names bytes) text → first_unknown (tokens names bytes) ≡ None → IsAnswer names bytes (within_limits which (meant text))
limits_answer names bytes text None is spells known = (text, spells, known, is, refl)
limits_answer names bytes text (Some which) is spells known = (text, spells, known, is)

tables_answer : (names : List Named) (bytes : List ℕ) (text : Text) (unknown : Option ℕ) → first_unknown (tokens names bytes) ≡ unknown → Spells (tokens names bytes) text → IsAnswer names bytes (with_tables unknown text)
tables_answer names bytes text None is spells = limits_answer names bytes text (broken text) refl spells is
tables_answer names bytes text (Some at) is spells = (text, spells, is)

answer_by : (names : List Named) (bytes : List ℕ) (r : Result Progress (List Placed)) → reading token_of Before (tokens names bytes) ≡ r → Tells token_of [] Before (tokens names bytes) r → IsAnswer names bytes (judged (first_unknown (tokens names bytes)) (text_from (length bytes) r))
answer_by names bytes (Ok Before) reads (fair, all) = too_early names bytes Before (λ text is. cc) reads fair all
answer_by names bytes (Ok (Within place b)) reads (fair, all) = too_early names bytes (Within place b) (λ text is. cc) reads fair all
answer_by names bytes (Ok (Behind text)) reads (fair, all) = tables_answer names bytes text (first_unknown (tokens names bytes)) refl all
answer_by names bytes (Err rest) reads (front, x, more, rest_is, parts, q, fair, all, front_reads, none) =
    record {
      front = front;
      rest = rest;
      parts = parts;
      begins = begins_here front q fair all;
      stops = subst (EndsWith front) (sym rest_is) (dead front x q front_reads none);
      place = refl;
    }

-- the answer that is read is the grammar's
pub read_answers : (names : List Named) (bytes : List ℕ) → IsAnswer names bytes (read_of names bytes)
read_answers names bytes = answer_by names bytes (reading token_of Before (tokens names bytes)) refl (tells token_of Before (tokens names bytes) tt)

whole_by : (ts : List Placed) (text : Text) (r : Result Progress (List Placed)) → reading token_of Before ts ≡ r → Spells ts text → r ≡ Ok (Behind text)
whole_by ts text (Ok p) reads spells = ap (λ v. Ok v) (ends_behind ts p text reads spells)
whole_by ts text (Err rest) reads spells =
    let plain : read Before (map token_of ts) ≡ Err (map token_of rest) = subst (λ r. Same token_of r (read Before (map token_of ts))) reads (same_read token_of Before ts) in
    let whole : read Before (map token_of ts) ≡ Ok (Behind text) = ap (read Before) (sym spells) ∙ read_program text in
    cc

-- bytes that spell a text are read as it
spelled_read : (names : List Named) (bytes : List ℕ) (text : Text) → Spells (tokens names bytes) text → read_of names bytes ≡ with_tables (first_unknown (tokens names bytes)) text
spelled_read names bytes text spells = ap (λ r. judged (first_unknown (tokens names bytes)) (text_from (length bytes) r)) (whole_by (tokens names bytes) text (reading token_of Before (tokens names bytes)) refl spells)

-- two ways to cut a list
abbrev Cuts : List Placed → List Placed → List Placed → List Placed → Type 0
Cuts f r g s = (r ≡ s) ⊎ (((x : Placed) × (xs : List Placed) × (m : List Placed) × (r ≡ x ∷ xs) × (g ≡ f ++ x ∷ m)) ⊎ ((x : Placed) × (xs : List Placed) × (m : List Placed) × (s ≡ x ∷ xs) × (f ≡ g ++ x ∷ m)))

cuts_more : (y z : Placed) (f r g s : List Placed) → y ≡ z → Cuts f r g s → Cuts (y ∷ f) r (z ∷ g) s
cuts_more y z f r g s same (inl is) = inl is
cuts_more y z f r g s same (inr (inl (x, xs, m, is, longer))) = inr (inl (x, xs, m, is, ap (λ v. v ∷ g) (sym same) ∙ ap (λ vs. y ∷ vs) longer))
cuts_more y z f r g s same (inr (inr (x, xs, m, is, longer))) = inr (inr (x, xs, m, is, ap (λ v. v ∷ f) same ∙ ap (λ vs. z ∷ vs) longer))

cuts : (f r g s : List Placed) → f ++ r ≡ g ++ s → Cuts f r g s
cuts [] r [] s h = inl h
cuts [] r (z ∷ g) s h = inr (inl (z, g ++ s, g, h, refl))
cuts (y ∷ f) r [] s h = inr (inr (y, f ++ r, f, sym h, refl))
cuts (y ∷ f) r (z ∷ g) s h =
    let heads : y ≡ z = cc in
    let tails : f ++ r ≡ g ++ s = cc in
    cuts_more y z f r g s heads (cuts f r g s tails)

-- a program that begins so begins with less
shorter : (front m : List Placed) (x : Placed) → Begins (map token_of (front ++ x ∷ m)) → Begins (map token_of front ++ x.token ∷ [])
shorter front m x (more, text, is) =
    (map token_of m ++ more, text, is ∙ ap (λ ts. ts ++ more) (map-append token_of front (x ∷ m)) ∙ append_assoc (map token_of front) (x.token ∷ map token_of m) more ∙ sym (append_assoc (map token_of front) (x.token ∷ []) (map token_of m ++ more)))

-- only one token is the first that doesn't go on
same_error : (ts : List Placed) (end at other : ℕ) → IsSyntaxError ts end at → IsSyntaxError ts end other → at ≡ other
same_error ts end at other h k =
    elim (cuts h.front h.rest k.front k.rest (sym h.parts ∙ k.parts)) [
      | inl is ↦ h.place ∙ ap (place_of end) is ∙ sym k.place
      | inr (inl (x, xs, m, is, longer)) ↦ absurd (subst (EndsWith h.front) is h.stops (shorter h.front m x (subst (λ ys. Begins (map token_of ys)) longer k.begins)))
      | inr (inr (x, xs, m, is, longer)) ↦ absurd (subst (EndsWith k.front) is k.stops (shorter k.front m x (subst (λ ys. Begins (map token_of ys)) longer h.begins)))
    ]

-- a program has no error
no_error : (ts rest front : List Placed) (text : Text) → Spells ts text → ts ≡ front ++ rest → EndsWith front rest → ⊥
no_error ts [] front text spells parts stops = stops text (spells ∙ ap (map token_of) (parts ∙ append-nil front))
no_error ts (x ∷ rest) front text spells parts stops = stops (shorter front rest x ([], text, spells ∙ ap (map token_of) parts ∙ sym (append-nil (map token_of (front ++ x ∷ rest)))))

error_only : (names : List Named) (bytes : List ℕ) (at : ℕ) (answer : Result (List Stmt) ReadRefusal) → IsSyntaxError (tokens names bytes) (length bytes) at → IsAnswer names bytes answer → answer ≡ Err (Syntax at)
error_only names bytes at (Ok body) h (text, spells, known, fits, is) = absurd (no_error (tokens names bytes) h.rest h.front text spells h.parts h.stops)
error_only names bytes at (Err (Syntax other)) h k = ap (λ n. Err (Syntax n)) (same_error (tokens names bytes) (length bytes) other at k h)
error_only names bytes at (Err (UnknownTable other)) h (text, spells, more) = absurd (no_error (tokens names bytes) h.rest h.front text spells h.parts h.stops)
error_only names bytes at (Err (Limit which)) h (text, spells, known, breaks) = absurd (no_error (tokens names bytes) h.rest h.front text spells h.parts h.stops)
error_only names bytes at (Err OutOfMemory) h k = absurd k

-- the grammar's answer is the one that is read
pub answers_read : (names : List Named) (bytes : List ℕ) (answer : Result (List Stmt) ReadRefusal) → IsAnswer names bytes answer → read_of names bytes ≡ answer
answers_read names bytes (Ok body) (text, spells, known, fits, is) = spelled_read names bytes text spells ∙ ap (λ u. with_tables u text) known ∙ ap (λ w. within_limits w (meant text)) fits ∙ ap (λ b. Ok b) (sym is)
answers_read names bytes (Err (Syntax at)) h = error_only names bytes at (read_of names bytes) h (read_answers names bytes)
answers_read names bytes (Err (UnknownTable at)) (text, spells, unknown) = spelled_read names bytes text spells ∙ ap (λ u. with_tables u text) unknown
answers_read names bytes (Err (Limit which)) (text, spells, known, breaks) = spelled_read names bytes text spells ∙ ap (λ u. with_tables u text) known ∙ ap (λ w. within_limits w (meant text)) breaks
answers_read names bytes (Err OutOfMemory) h = absurd h
