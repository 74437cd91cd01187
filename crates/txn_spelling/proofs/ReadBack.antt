-- The canonical spelling is read as the program that it spells.
use Rattle.std.proofs.Common.{◌≡◌, ℕ, ◌+◌, ◌≤◌, Bool, true, false, cond, not, List, [], ◌∷◌, ◌++◌, Option, None, Some, Ok, refl, sym, ap, ◌∙◌, subst}
use Rattle.std.specs.Prelude.{nat_lt}
use Rattle.std.proofs.lemmas.Bool.{le-ltb}
use Rattle.std.proofs.lemmas.List.{append-nil}
use Rattle.txn_runs.specs.declared.program.Stmt.{Stmt}
use Rattle.txn_runs.specs.Bounds.{size, depth, steps_max, emits_max, greatest_count, IsProgram}
use Rattle.txn_names.specs.Tables.{Named, IsNames}
use Rattle.txn_tokens.specs.declared.token.Token.TheVariants as t
use Rattle.txn_tokens.specs.Tokens.{tokens}
use Rattle.txn_syntax.specs.declared.refusal.Which.{Which}
use Rattle.txn_syntax.specs.declared.refusal.Which.TheVariants as w
use Rattle.txn_syntax.specs.Grammar.{Text, spelled}
use Rattle.txn_syntax.specs.Meaning.{meant, literals_fit, broken}
use Rattle.txn_syntax.specs.Reads.{read_of}
use Rattle.txn_syntax.specs.Answers.{Spells}
use Rattle.txn_syntax.proofs.Answering.{answers_read}
use Rattle.txn_spelling.specs.Canonical.{canonical, stmts_text}
use Rattle.txn_spelling.specs.Strangers.{strangers}
use Rattle.txn_spelling.proofs.Known.{AreKnown, known_append, none_unknown}
use Rattle.txn_spelling.proofs.Lexing.{Goes, goes_then}
use Rattle.txn_spelling.proofs.Spelling.{Spelling, spelling}

pass : (b : Bool) (x y z : Option Which) → b ≡ false → y ≡ z → cond b x y ≡ z
pass true x y z differs is = cc
pass false x y z differs is = is

-- a text that means a program breaks no limit
none_broken : (text : Text) (body : List Stmt) → IsProgram body → meant text ≡ body → literals_fit text ≡ true → broken text ≡ None
none_broken text body good means fits =
    pass (not (literals_fit text)) (Some w.Literal) _ None (ap not fits)
    (pass (nat_lt 1000 (greatest_count (meant text))) (Some w.Loops) _ None (le-ltb 1000 _ (subst (λ b. greatest_count b ≤ 1000) (sym means) good.loops))
    (pass (nat_lt 256 (size (meant text))) (Some w.Statements) _ None (le-ltb 256 _ (subst (λ b. size b ≤ 256) (sym means) good.statements))
    (pass (nat_lt 8 (depth (meant text))) (Some w.Depth) _ None (le-ltb 8 _ (subst (λ b. depth b ≤ 8) (sym means) good.deep))
    (pass (nat_lt 100000 (steps_max (meant text))) (Some w.Steps) _ None (le-ltb 100000 _ (subst (λ b. steps_max b ≤ 100000) (sym means) good.steps))
    (pass (nat_lt 64 (emits_max (meant text))) (Some w.Emits) None None (le-ltb 64 _ (subst (λ b. emits_max b ≤ 64) (sym means) good.emits)) refl)))))

module _ (names : List Named) where
  opens : (rest : List ℕ) → Goes names (123 ∷ 32 ∷ rest) rest (t.OpenBlock ∷ [])
  opens rest = record { go = λ at. (at + 1 + 1, refl) }

  closes : Goes names (125 ∷ []) [] (t.CloseBlock ∷ [])
  closes = record { go = λ at. (at + 1, refl) }

  pub read_back : (body : List Stmt) → IsNames names → IsProgram body → strangers names body ≡ 0 → read_of names (canonical names body) ≡ Ok body
  read_back body good program own =
      let spelt : Spelling names good body = spelling names good body (record { registers = program.registers; loops = program.loops; own = own; narrow = program.literals }) in
      let whole = goes_then names (opens (stmts_text names body ++ 125 ∷ [])) (goes_then names (spelt.goes (125 ∷ [])) closes) in
      let spells : Spells (tokens names (canonical names body)) spelt.text = sym ((whole.go 0).1 ∙ append-nil (t.OpenBlock ∷ (spelled spelt.text ++ t.CloseBlock ∷ []))) in
      let known = none_unknown names (tokens names (canonical names body)) (subst (AreKnown names) spells (tt, known_append names (spelled spelt.text) (t.CloseBlock ∷ []) spelt.known (tt, tt))) in
      answers_read names (canonical names body) (Ok body) (spelt.text, spells, known, none_broken spelt.text body program spelt.means spelt.fits, sym spelt.means)
