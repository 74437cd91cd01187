-- A text of sound tokens keeps within the registers and the tables.
use Rattle.std.proofs.Common.{◌+◌, ◌≤◌, List, [], ◌∷◌, ◌++◌, Option, None, Some, arith}
use Rattle.std.specs.Prelude.{max}
use Rattle.txn_runs.specs.declared.program.TableRef.{TableRef}
use Rattle.txn_runs.proofs.Folds.{of_if_is, of_loop_is}
use Rattle.txn_runs.specs.Bounds.{greater, register_row, reach_row, after_register, registers_used, reach}
use Rattle.txn_names.specs.Tables.{Named, items_of}
use Rattle.txn_tokens.specs.declared.token.Token.{Token}
use Rattle.txn_tokens.specs.declared.token.Token.TheVariants as t
use Rattle.txn_tokens.specs.Sound.{IsSound}
use Rattle.txn_syntax.specs.declared.place.Term.{Term}
use Rattle.txn_syntax.specs.declared.place.Term.TheVariants as e
use Rattle.txn_syntax.specs.declared.place.Plain.{Plain}
use Rattle.txn_syntax.specs.declared.place.Plain.TheVariants as p
use Rattle.txn_syntax.specs.declared.place.Test.{Test}
use Rattle.txn_syntax.specs.Grammar.{Text, Nothing, Simple, If, IfElse, Loop, operand, simple, opened_if, spelled}
use Rattle.txn_syntax.specs.Meaning.{operand_of, table_of, meant}
use Rattle.txn_syntax.proofs.Measured.{leaf, leaf_is}
use Rattle.txn_syntax.proofs.SoundTokens.{AreSound, sound_front, sound_back}

module _ (names : List Named) where
  operand_within : (x : Term) → AreSound names (operand x) → after_register (operand_of x) ≤ 16
  operand_within (e.Register r) h = omega (arith, h.0)
  operand_within (e.Number n) h = omega arith
  operand_within (e.Minus n) h = omega arith

  table_within : (table : Option TableRef) → IsSound (items_of names) (t.Name table) → (table_of table).base + (table_of table).size ≤ items_of names
  table_within None h = omega arith
  table_within (Some table) h = h

  record Within (plain : Plain) : Type 0 where
    registers : register_row (leaf plain) ≤ 16
    tables : reach_row (leaf plain) ≤ items_of names

  plain_within : (plain : Plain) → AreSound names (simple plain) → Within plain
  unfolding simple
  plain_within (p.Calc to left op right) h =
      let both = sound_front names (operand left ++ t.Op op ∷ operand right) (t.Semicolon ∷ []) h.1.1 in
      record {
        registers = omega (arith, h.0, operand_within left (sound_front names (operand left) (t.Op op ∷ operand right) both), operand_within right (sound_back names (operand left) (t.Op op ∷ operand right) both).1);
        tables = omega arith;
      }
  plain_within (p.Move to from) h = record { registers = omega (arith, h.0, operand_within from (sound_front names (operand from) (t.Semicolon ∷ []) h.1.1)); tables = omega arith }
  plain_within (p.Read to table at) h = record { registers = omega (arith, h.0, operand_within at (sound_front names (operand at) (t.CloseIndex ∷ t.Semicolon ∷ []) h.1.1.1.1)); tables = omega (arith, table_within table h.1.1.0) }
  plain_within (p.Write table at from) h =
      let both = sound_front names (operand at ++ t.CloseIndex ∷ t.Assign ∷ operand from) (t.Semicolon ∷ []) h.1.1 in
      record {
        registers = omega (arith, operand_within at (sound_front names (operand at) (t.CloseIndex ∷ t.Assign ∷ operand from) both), operand_within from (sound_back names (operand at) (t.CloseIndex ∷ t.Assign ∷ operand from) both).1.1);
        tables = omega (arith, table_within table h.0);
      }
  plain_within (p.Emit from) h = record { registers = omega (arith, operand_within from (sound_front names (operand from) (t.Semicolon ∷ []) h.1)); tables = omega arith }
  plain_within (p.Fail code) h = record { registers = omega (arith, operand_within code (sound_front names (operand code) (t.Semicolon ∷ []) h.1)); tables = omega arith }

  test_within : (test : Test) → AreSound names (opened_if test) → max (after_register (operand_of test.left)) (after_register (operand_of test.right)) ≤ 16
  unfolding opened_if
  test_within test h =
      let both = sound_front names (operand test.left ++ t.Cmp test.cmp ∷ operand test.right) (t.OpenBlock ∷ []) h.1 in
      omega (arith, operand_within test.left (sound_front names (operand test.left) (t.Cmp test.cmp ∷ operand test.right) both), operand_within test.right (sound_back names (operand test.left) (t.Cmp test.cmp ∷ operand test.right) both).1)

  abbrev AreWithin : Text → Type 0
  AreWithin x = (registers_used (meant x) ≤ 16) × (reach (meant x) ≤ items_of names)

  pub text_within : (x : Text) → AreSound names (spelled x) → AreWithin x
  text_within Nothing h = (omega arith, omega arith)
  text_within (Simple plain rest) h =
      let w = plain_within plain (sound_front names (simple plain) (spelled rest) h) in
      let r = text_within rest (sound_back names (simple plain) (spelled rest) h) in
      (omega (arith, leaf_is register_row greater plain, w.registers, r.0), omega (arith, leaf_is reach_row greater plain, w.tables, r.1))
  text_within (If test first rest) h =
      let inner = sound_back names (opened_if test) (spelled first ++ t.CloseBlock ∷ spelled rest) h in
      let w = test_within test (sound_front names (opened_if test) (spelled first ++ t.CloseBlock ∷ spelled rest) h) in
      let f = text_within first (sound_front names (spelled first) (t.CloseBlock ∷ spelled rest) inner) in
      let r = text_within rest (sound_back names (spelled first) (t.CloseBlock ∷ spelled rest) inner).1 in
      (omega (arith, of_if_is register_row greater (operand_of test.left) (operand_of test.right) test.cmp (record { stmts = meant first }) (record { stmts = [] }), w, f.0, r.0), omega (arith, of_if_is reach_row greater (operand_of test.left) (operand_of test.right) test.cmp (record { stmts = meant first }) (record { stmts = [] }), f.1, r.1))
  text_within (IfElse test first second rest) h =
      let tail : List Token = t.CloseBlock ∷ t.Else ∷ t.OpenBlock ∷ (spelled second ++ t.CloseBlock ∷ spelled rest) in
      let inner = sound_back names (opened_if test) (spelled first ++ tail) h in
      let w = test_within test (sound_front names (opened_if test) (spelled first ++ tail) h) in
      let f = text_within first (sound_front names (spelled first) tail inner) in
      let last = (sound_back names (spelled first) tail inner).1.1.1 in
      let g = text_within second (sound_front names (spelled second) (t.CloseBlock ∷ spelled rest) last) in
      let r = text_within rest (sound_back names (spelled second) (t.CloseBlock ∷ spelled rest) last).1 in
      (omega (arith, of_if_is register_row greater (operand_of test.left) (operand_of test.right) test.cmp (record { stmts = meant first }) (record { stmts = meant second }), w, f.0, g.0, r.0), omega (arith, of_if_is reach_row greater (operand_of test.left) (operand_of test.right) test.cmp (record { stmts = meant first }) (record { stmts = meant second }), f.1, g.1, r.1))
  text_within (Loop n body rest) h =
      let inner = h.1.1.1 in
      let f = text_within body (sound_front names (spelled body) (t.CloseBlock ∷ spelled rest) inner) in
      let r = text_within rest (sound_back names (spelled body) (t.CloseBlock ∷ spelled rest) inner).1 in
      (omega (arith, of_loop_is register_row greater n (record { stmts = meant body }), f.0, r.0), omega (arith, of_loop_is reach_row greater n (record { stmts = meant body }), f.1, r.1))
