-- What is read and breaks no limit is a program.
use Rattle.std.proofs.Common.{◌≡◌, ℕ, ◌≤◌, List, [], ◌∷◌, map, Bool, true, false, Option, None, Some, Result, Ok, Err, refl, sym, ap, ◌∙◌, subst, length, add-zero}
use Rattle.std.specs.Prelude.{if◌then◌else◌, nat_lt, not}
use Rattle.std.proofs.lemmas.Bool.{ltb-false}
use Rattle.txn_runs.specs.Bounds.{IsProgram, registers_used, reach, greatest_count, size, depth, steps_max, emits_max}
use Rattle.txn_names.specs.Tables.{Named, items_of}
use Rattle.txn_tokens.specs.declared.token.Token.TheVariants as t
use Rattle.txn_tokens.specs.declared.token.Placed.{Placed}
use Rattle.txn_tokens.specs.Tokens.{tokens}
use Rattle.txn_syntax.specs.declared.refusal.Which.{Which}
use Rattle.txn_syntax.specs.declared.refusal.Which.TheVariants as w
use Rattle.txn_syntax.specs.declared.body.Body.{Body}
use Rattle.txn_syntax.specs.Grammar.{Text, spelled, program}
use Rattle.txn_syntax.specs.Meaning.{meant, literals_fit, broken}
use Rattle.txn_syntax.specs.Measures.{broken_by}
use Rattle.txn_syntax.specs.Bodies.{Fits, IsBody}
use Rattle.txn_syntax.specs.Reading.{Progress, Before, Within, Behind, reading}
use Rattle.txn_syntax.specs.Reads.{token_of, text_from, text_of}
use Rattle.txn_syntax.proofs.TokensRead.{Tells, tells}
use Rattle.txn_syntax.proofs.Measured.{broken_is}
use Rattle.txn_syntax.proofs.SoundTokens.{AreSound, tokens_sound, sound_front}
use Rattle.txn_syntax.proofs.SoundPrograms.{text_within}
use Rattle.txn_syntax.proofs.Narrow.{text_narrow}

pub from_text : (end : ℕ) (r : Result Progress (List Placed)) (text : Text) → text_from end r ≡ Ok text → r ≡ Ok (Behind text)
from_text end (Ok (Behind x)) text h = let same : x ≡ text = cc in ap (λ v. Ok (Behind v)) same
from_text end (Ok Before) text h = cc
from_text end (Ok (Within place b)) text h = cc
from_text end (Err rest) text h = cc

-- the tokens of bytes that are read are those of the text
pub read_tokens : (names : List Named) (bytes : List ℕ) (text : Text) → text_of names bytes ≡ Ok text → program text ≡ map token_of (tokens names bytes)
read_tokens names bytes text h =
    let ts = tokens names bytes in
    (subst (Tells token_of [] Before ts) (from_text (length bytes) (reading token_of Before ts) text h) (tells token_of Before ts tt)).1

unbroken : (b : Bool) (which : Which) (later : Option Which) → (if b then Some which else later) ≡ None → (b ≡ false) × (later ≡ None)
unbroken true which later h = cc
unbroken false which later h = (refl, h)

not_false : (b : Bool) → not b ≡ false → b ≡ true
not_false true h = refl
not_false false h = cc

-- a text that breaks no limit
record Unbroken (text : Text) : Type 0 where
  fits : Fits 0 text
  steps : steps_max (meant text) ≤ 100000
  emits : emits_max (meant text) ≤ 64

is_unbroken : (text : Text) → broken text ≡ None → Unbroken text
is_unbroken text h =
    let a = unbroken (not (literals_fit text)) w.Literal _ h in
    let b = unbroken (nat_lt 1000 (greatest_count (meant text))) w.Loops _ a.1 in
    let c = unbroken (nat_lt 256 (size (meant text))) w.Statements _ b.1 in
    let d = unbroken (nat_lt 8 (depth (meant text))) w.Depth _ c.1 in
    let e = unbroken (nat_lt 100000 (steps_max (meant text))) w.Steps _ d.1 in
    let f = unbroken (nat_lt 64 (emits_max (meant text))) w.Emits None e.1 in
    record {
      fits = record { literals = not_false (literals_fit text) a.0; counts = ltb-false 1000 (greatest_count (meant text)) b.0; statements = ltb-false 256 (size (meant text)) c.0; depth = rw add-zero (ltb-false 8 (depth (meant text)) d.0) };
      steps = ltb-false 100000 (steps_max (meant text)) e.0;
      emits = ltb-false 64 (emits_max (meant text)) f.0;
    }

pub within_of : (names : List Named) (bytes : List ℕ) (text : Text) → text_of names bytes ≡ Ok text → (registers_used (meant text) ≤ 16) × (reach (meant text) ≤ items_of names)
within_of names bytes text h =
    let all : AreSound names (program text) = subst (AreSound names) (sym (read_tokens names bytes text h)) (tokens_sound names 0 0 bytes) in
    text_within names text (sound_front names (spelled text) (t.CloseBlock ∷ []) all.1)

-- what is kept of a text is a program over the tables, where no limit is broken
pub is_program : (names : List Named) (bytes : List ℕ) (body : Body) → (text : Text) × (text_of names bytes ≡ Ok text) × IsBody 0 body text → broken_by body.measure ≡ None → IsProgram body.stmts.items × (reach body.stmts.items ≤ items_of names)
is_program names bytes body (x, is_x, keeps) none =
    let u = is_unbroken x (sym (broken_is body.measure x keeps.measure) ∙ none) in
    let means : body.stmts.items ≡ meant x = keeps.stmts u.fits in
    let w = within_of names bytes x is_x in
    subst (λ b. IsProgram b × (reach b ≤ items_of names)) (sym means) (record { literals = text_narrow x u.fits.literals; registers = w.0; loops = u.fits.counts; statements = u.fits.statements; deep = rw add-zero at u.fits.depth; steps = u.steps; emits = u.emits }, w.1)

pub none_of : {A : Type 0} (o : Option A) → ((x : A) → o ≡ Some x → ⊥) → o ≡ None
none_of None h = refl
none_of (Some x) h = absurd (h x refl)
