-- The tokens of statements.
use Rattle.std.proofs.Common.{◌≡◌, ℕ, suc, ◌+◌, ◌<◌, ◌≤◌, ◌^◌, Bool, true, false, cond, List, [], ◌∷◌, ◌++◌, codes, decimal, Some, refl, sym, ap, ◌∙◌, subst, arith, append_assoc}
use Rattle.std.specs.Prelude.{pos, negsuc}
use Rattle.std.proofs.lemmas.Bool.{ltb-true, le-leb}
use Rattle.txn_runs.specs.declared.program.TableRef.{TableRef}
use Rattle.txn_runs.specs.declared.program.Operand.{Operand}
use Rattle.txn_runs.specs.declared.program.Operand.TheVariants.{Reg, Lit}
use Rattle.txn_runs.specs.declared.program.Op.{Op}
use Rattle.txn_runs.specs.declared.program.Op.TheVariants.{Add, Sub, Mul, Div, Rem, Min, Max}
use Rattle.txn_runs.specs.declared.program.Cmp.{Cmp}
use Rattle.txn_runs.specs.declared.program.Cmp.TheVariants.{Eq, Ne, Lt, Le, Gt, Ge}
use Rattle.txn_runs.specs.Bounds.{after_register}
use Rattle.txn_names.specs.Tables.{Named, IsNames}
use Rattle.txn_tokens.specs.declared.token.Token.{Token}
use Rattle.txn_tokens.specs.declared.token.Token.TheVariants as t
use Rattle.txn_syntax.specs.declared.place.Plain.TheVariants as p
use Rattle.txn_syntax.specs.Grammar.{operand, simple, opened_if, opened_loop}
use Rattle.txn_syntax.specs.Meaning.{term_fits}
use Rattle.txn_spelling.specs.Canonical.{operand_text, op_text, cmp_text, name_text, place_text, target_text, calc_text, move_text, read_text, write_text, test_text, turns_text, emit_text, fail_text}
use Rattle.txn_spelling.specs.Strangers.{stranger}
use Rattle.txn_runs.specs.Bounds.{is_narrow, wide}
use Rattle.txn_spelling.proofs.Lexing.{Goes, goes_then, goes_open_index}
use Rattle.txn_spelling.proofs.Operands.{IsStop, IsFit, term_of, goes_operand, goes_register, goes_decimal}
use Rattle.txn_spelling.proofs.NamesFound.{goes_table}

blank_stop : IsStop 32
blank_stop = record { word = refl; digit = refl }

end_stop : IsStop 59
end_stop = record { word = refl; digit = refl }

index_stop : IsStop 93
index_stop = record { word = refl; digit = refl }

narrow_if : (b : Bool) → ◌≡◌ {A = ℕ} (cond b 0 1) 0 → b ≡ true
narrow_if true is = refl
narrow_if false is = absurd (omega (arith, is))

fits_term : (x : Operand) → is_narrow x ≡ true → term_fits (term_of x) ≡ true
fits_term (Reg r) is = refl
fits_term (Lit (pos n)) is = is
fits_term (Lit (negsuc n)) is = let lt = ltb-true n (2 ^ 63) is in le-leb (suc n) (2 ^ 63) (omega (arith, lt))

pub fit : (x : Operand) → after_register x ≤ 16 → wide x ≡ 0 → IsFit x
fit x register narrow = record { register = register; literal = fits_term x (narrow_if (is_narrow x) narrow) }

pub three : (a b c d : List ℕ) → a ++ b ++ c ++ d ≡ a ++ (b ++ (c ++ d))
three a b c d = simp append_assoc refl

placed : (n o r : List ℕ) → n ++ codes "[" ++ o ++ codes "]" ++ r ≡ n ++ 91 ∷ (o ++ 93 ∷ r)
placed n o r = simp append_assoc refl

module _ (names : List Named) where
  goes_assign : (rest : List ℕ) → Goes names (32 ∷ 61 ∷ 32 ∷ rest) rest (t.Assign ∷ [])
  goes_assign rest = record { go = λ at. (at + 1 + 1 + 1, refl) }

  goes_end : (rest : List ℕ) → Goes names (59 ∷ 32 ∷ rest) rest (t.Semicolon ∷ [])
  goes_end rest = record { go = λ at. (at + 1 + 1, refl) }

  goes_close_end : (rest : List ℕ) → Goes names (93 ∷ 59 ∷ 32 ∷ rest) rest (t.CloseIndex ∷ t.Semicolon ∷ [])
  goes_close_end rest = record { go = λ at. (at + 1 + 1 + 1, refl) }

  goes_close_assign : (rest : List ℕ) → Goes names (93 ∷ 32 ∷ 61 ∷ 32 ∷ rest) rest (t.CloseIndex ∷ t.Assign ∷ [])
  goes_close_assign rest = record { go = λ at. (at + 1 + 1 + 1 + 1, refl) }

  goes_op : (op : Op) (rest : List ℕ) → Goes names (32 ∷ (op_text op ++ 32 ∷ rest)) rest (t.Op op ∷ [])
  goes_op Add rest = record { go = λ at. (at + 1 + 1 + 1, refl) }
  goes_op Sub rest = record { go = λ at. (at + 1 + 1 + 1, refl) }
  goes_op Mul rest = record { go = λ at. (at + 1 + 1 + 1, refl) }
  goes_op Div rest = record { go = λ at. (at + 1 + 1 + 1, refl) }
  goes_op Rem rest = record { go = λ at. (at + 1 + 1 + 1, refl) }
  goes_op Min rest = record { go = λ at. (at + 1 + 1 + 1 + 1 + 1, refl) }
  goes_op Max rest = record { go = λ at. (at + 1 + 1 + 1 + 1 + 1, refl) }

  goes_cmp : (cmp : Cmp) (rest : List ℕ) → Goes names (32 ∷ (cmp_text cmp ++ 32 ∷ rest)) rest (t.Cmp cmp ∷ [])
  goes_cmp Eq rest = record { go = λ at. (at + 1 + 1 + 1 + 1, refl) }
  goes_cmp Ne rest = record { go = λ at. (at + 1 + 1 + 1 + 1, refl) }
  goes_cmp Lt rest = record { go = λ at. (at + 1 + 1 + 1, refl) }
  goes_cmp Le rest = record { go = λ at. (at + 1 + 1 + 1 + 1, refl) }
  goes_cmp Gt rest = record { go = λ at. (at + 1 + 1 + 1, refl) }
  goes_cmp Ge rest = record { go = λ at. (at + 1 + 1 + 1 + 1, refl) }

  goes_open : (rest : List ℕ) → Goes names (32 ∷ 123 ∷ 32 ∷ rest) rest (t.OpenBlock ∷ [])
  goes_open rest = record { go = λ at. (at + 1 + 1 + 1, refl) }

  pub goes_close : (rest : List ℕ) → Goes names (125 ∷ 32 ∷ rest) rest (t.CloseBlock ∷ [])
  goes_close rest = record { go = λ at. (at + 1 + 1, refl) }

  pub goes_else : (rest : List ℕ) → Goes names (125 ∷ (codes " else { " ++ rest)) rest (t.CloseBlock ∷ t.Else ∷ t.OpenBlock ∷ [])
  goes_else rest = record { go = λ at. (at + 1 + 1 + 1 + 1 + 1 + 1 + 1 + 1 + 1, refl) }

  goes_if : (rest : List ℕ) → Goes names (105 ∷ 102 ∷ 32 ∷ rest) rest (t.If ∷ [])
  goes_if rest = record { go = λ at. (at + 1 + 1 + 1, refl) }

  goes_loop : (rest : List ℕ) → Goes names (codes "loop " ++ rest) rest (t.Loop ∷ [])
  goes_loop rest = record { go = λ at. (at + 1 + 1 + 1 + 1 + 1, refl) }

  goes_emit : (rest : List ℕ) → Goes names (codes "emit " ++ rest) rest (t.Emit ∷ [])
  goes_emit rest = record { go = λ at. (at + 1 + 1 + 1 + 1 + 1, refl) }

  goes_fail : (rest : List ℕ) → Goes names (codes "fail " ++ rest) rest (t.Fail ∷ [])
  goes_fail rest = record { go = λ at. (at + 1 + 1 + 1 + 1 + 1, refl) }

  -- other spellings of the bytes and of the tokens
  spelt : {a b rest : List ℕ} {s u : List Token} → b ≡ a → s ≡ u → Goes names a rest s → Goes names b rest u
  spelt {b = b} {rest = rest} {s = s} same tokens go = subst (λ ts. Goes names b rest ts) tokens (subst (λ bytes. Goes names bytes rest s) (sym same) go)

  goes_target : (to : ℕ) (rest : List ℕ) → to < 16 → Goes names (114 ∷ (decimal to ++ 32 ∷ 61 ∷ 32 ∷ rest)) rest (t.Register to ∷ t.Assign ∷ [])
  goes_target to rest lt = goes_then names (goes_register names to 32 (61 ∷ 32 ∷ rest) lt blank_stop) (goes_assign rest)

  pub goes_calc : (to : ℕ) (left : Operand) (op : Op) (right : Operand) (rest : List ℕ) → to < 16 → IsFit left → IsFit right → Goes names (calc_text to left op right ++ 32 ∷ rest) rest (simple (p.Calc to (term_of left) op (term_of right)))
  unfolding simple
  goes_calc to left op right rest lt fl fr =
      spelt (simp append_assoc refl) (simp append_assoc refl)
      (goes_then names (goes_target to (operand_text left ++ 32 ∷ (op_text op ++ 32 ∷ (operand_text right ++ 59 ∷ 32 ∷ rest))) lt)
      (goes_then names (goes_operand names left 32 (op_text op ++ 32 ∷ (operand_text right ++ 59 ∷ 32 ∷ rest)) fl blank_stop)
      (goes_then names (goes_op op (operand_text right ++ 59 ∷ 32 ∷ rest))
      (goes_then names (goes_operand names right 59 (32 ∷ rest) fr end_stop) (goes_end rest)))))

  pub goes_move : (to : ℕ) (from : Operand) (rest : List ℕ) → to < 16 → IsFit from → Goes names (move_text to from ++ 32 ∷ rest) rest (simple (p.Move to (term_of from)))
  unfolding simple
  goes_move to from rest lt f =
      spelt (simp append_assoc refl) refl
      (goes_then names (goes_target to (operand_text from ++ 59 ∷ 32 ∷ rest) lt) (goes_then names (goes_operand names from 59 (32 ∷ rest) f end_stop) (goes_end rest)))

  goes_place : (table : TableRef) (at : Operand) (rest : List ℕ) → IsNames names → stranger names table ≡ 0 → IsFit at → Goes names (name_text names table ++ 91 ∷ (operand_text at ++ 93 ∷ rest)) (93 ∷ rest) (t.Name (Some table) ∷ t.OpenIndex ∷ operand (term_of at))
  goes_place table at rest good known f =
      goes_then names (goes_table names table (operand_text at ++ 93 ∷ rest) good known) (goes_then names (goes_open_index names (operand_text at ++ 93 ∷ rest)) (goes_operand names at 93 rest f index_stop))

  pub goes_read : (to : ℕ) (table : TableRef) (at : Operand) (rest : List ℕ) → IsNames names → stranger names table ≡ 0 → to < 16 → IsFit at → Goes names (read_text names to table at ++ 32 ∷ rest) rest (simple (p.Read to (Some table) (term_of at)))
  unfolding simple
  goes_read to table at rest good known lt f =
      spelt (three (target_text to) (place_text names table at) (codes ";") (32 ∷ rest) ∙ ap (λ w. target_text to ++ w) (placed (name_text names table) (operand_text at) (59 ∷ 32 ∷ rest)) ∙ append_assoc (114 ∷ decimal to) (codes " = ") (name_text names table ++ 91 ∷ (operand_text at ++ 93 ∷ 59 ∷ 32 ∷ rest))) refl
      (goes_then names (goes_target to (name_text names table ++ 91 ∷ (operand_text at ++ 93 ∷ 59 ∷ 32 ∷ rest)) lt) (goes_then names (goes_place table at (59 ∷ 32 ∷ rest) good known f) (goes_close_end rest)))

  pub goes_write : (table : TableRef) (at from : Operand) (rest : List ℕ) → IsNames names → stranger names table ≡ 0 → IsFit at → IsFit from → Goes names (write_text names table at from ++ 32 ∷ rest) rest (simple (p.Write (Some table) (term_of at) (term_of from)))
  unfolding simple
  goes_write table at from rest good known fa ff =
      spelt (simp append_assoc refl) (simp append_assoc refl)
      (goes_then names (goes_place table at (32 ∷ 61 ∷ 32 ∷ (operand_text from ++ 59 ∷ 32 ∷ rest)) good known fa) (goes_then names (goes_close_assign (operand_text from ++ 59 ∷ 32 ∷ rest)) (goes_then names (goes_operand names from 59 (32 ∷ rest) ff end_stop) (goes_end rest))))

  pub goes_emitted : (from : Operand) (rest : List ℕ) → IsFit from → Goes names (emit_text from ++ 32 ∷ rest) rest (simple (p.Emit (term_of from)))
  unfolding simple
  goes_emitted from rest f =
      spelt (simp append_assoc refl) refl
      (goes_then names (goes_emit (operand_text from ++ 59 ∷ 32 ∷ rest)) (goes_then names (goes_operand names from 59 (32 ∷ rest) f end_stop) (goes_end rest)))

  pub goes_failed : (code : Operand) (rest : List ℕ) → IsFit code → Goes names (fail_text code ++ 32 ∷ rest) rest (simple (p.Fail (term_of code)))
  unfolding simple
  goes_failed code rest f =
      spelt (simp append_assoc refl) refl
      (goes_then names (goes_fail (operand_text code ++ 59 ∷ 32 ∷ rest)) (goes_then names (goes_operand names code 59 (32 ∷ rest) f end_stop) (goes_end rest)))

  pub goes_test : (left : Operand) (cmp : Cmp) (right : Operand) (rest : List ℕ) → IsFit left → IsFit right → Goes names (test_text left cmp right ++ 123 ∷ 32 ∷ rest) rest (opened_if (record { left = term_of left; cmp = cmp; right = term_of right }))
  unfolding opened_if
  goes_test left cmp right rest fl fr =
      spelt (simp append_assoc refl) (simp append_assoc refl)
      (goes_then names (goes_if (operand_text left ++ 32 ∷ (cmp_text cmp ++ 32 ∷ (operand_text right ++ 32 ∷ 123 ∷ 32 ∷ rest))))
      (goes_then names (goes_operand names left 32 (cmp_text cmp ++ 32 ∷ (operand_text right ++ 32 ∷ 123 ∷ 32 ∷ rest)) fl blank_stop)
      (goes_then names (goes_cmp cmp (operand_text right ++ 32 ∷ 123 ∷ 32 ∷ rest))
      (goes_then names (goes_operand names right 32 (123 ∷ 32 ∷ rest) fr blank_stop) (goes_open rest)))))

  pub goes_turns : (count : ℕ) (rest : List ℕ) → count < 2 ^ 64 → Goes names (turns_text count ++ 123 ∷ 32 ∷ rest) rest (opened_loop count)
  goes_turns count rest lt =
      spelt (simp append_assoc refl) refl
      (goes_then names (goes_loop (decimal count ++ 32 ∷ 123 ∷ 32 ∷ rest)) (goes_then names (goes_decimal names count 32 (123 ∷ 32 ∷ rest) lt blank_stop) (goes_open rest)))
