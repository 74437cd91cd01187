-- The literals of a text whose literals fit have 64 bits.
use Rattle.std.proofs.Common.{◌≡◌, ℕ, zero, suc, ◌+◌, ◌&&◌, ◌^◌, Bool, true, cond, [], refl, ap, arith}
use Rattle.std.proofs.lemmas.Bool.{leb-true, lt-ltb}
use Rattle.txn_runs.proofs.Folds.{of_if_is, of_loop_is}
use Rattle.txn_runs.specs.Bounds.{plus, wide, wide_row, wides}
use Rattle.txn_syntax.specs.declared.place.Term.{Term}
use Rattle.txn_syntax.specs.declared.place.Term.TheVariants.{Register, Number, Minus}
use Rattle.txn_syntax.specs.declared.place.Plain.{Plain}
use Rattle.txn_syntax.specs.declared.place.Plain.TheVariants as p
use Rattle.txn_syntax.specs.Grammar.{Text, Nothing, Simple, If, IfElse, Loop}
use Rattle.txn_syntax.specs.Meaning.{operand_of, meant, term_fits, plain_fits, test_fits, literals_fit}
use Rattle.txn_syntax.proofs.Measured.{both_true, leaf, leaf_is}

abbrev count : Bool → ℕ
count fits = cond fits 0 1

term_narrow : (x : Term) → term_fits x ≡ true → wide (operand_of x) ≡ 0
term_narrow (Register r) fits = refl
term_narrow (Number n) fits = ap count fits
term_narrow (Minus zero) fits = refl
term_narrow (Minus (suc n)) fits = let le = leb-true (suc n) (2 ^ 63) fits in ap count (lt-ltb n (2 ^ 63) (omega (arith, le)))

two_narrow : (left right : Term) → (term_fits left && term_fits right) ≡ true → wide (operand_of left) + wide (operand_of right) ≡ 0
two_narrow left right fits =
    let both = both_true (term_fits left) (term_fits right) fits in
    omega (arith, term_narrow left both.0, term_narrow right both.1)

plain_narrow : (plain : Plain) → plain_fits plain ≡ true → wide_row (leaf plain) ≡ 0
plain_narrow (p.Calc to left op right) fits = two_narrow left right fits
plain_narrow (p.Move to from) fits = term_narrow from fits
plain_narrow (p.Read to table at) fits = term_narrow at fits
plain_narrow (p.Write table at from) fits = two_narrow at from fits
plain_narrow (p.Emit from) fits = term_narrow from fits
plain_narrow (p.Fail code) fits = term_narrow code fits

pub text_narrow : (x : Text) → literals_fit x ≡ true → wides (meant x) ≡ 0
text_narrow Nothing fits = refl
text_narrow (Simple plain rest) fits =
    let both = both_true (plain_fits plain) (literals_fit rest) fits in
    omega (arith, leaf_is wide_row plus plain, plain_narrow plain both.0, text_narrow rest both.1)
text_narrow (If test first rest) fits =
    let both = both_true (test_fits test && literals_fit first) (literals_fit rest) fits in
    let head = both_true (test_fits test) (literals_fit first) both.0 in
    omega (arith, of_if_is wide_row plus (operand_of test.left) (operand_of test.right) test.cmp (record { stmts = meant first }) (record { stmts = [] }), two_narrow test.left test.right head.0, text_narrow first head.1, text_narrow rest both.1)
text_narrow (IfElse test first second rest) fits =
    let both = both_true (test_fits test && (literals_fit first && literals_fit second)) (literals_fit rest) fits in
    let head = both_true (test_fits test) (literals_fit first && literals_fit second) both.0 in
    let blocks = both_true (literals_fit first) (literals_fit second) head.1 in
    omega (arith, of_if_is wide_row plus (operand_of test.left) (operand_of test.right) test.cmp (record { stmts = meant first }) (record { stmts = meant second }), two_narrow test.left test.right head.0, text_narrow first blocks.0, text_narrow second blocks.1, text_narrow rest both.1)
text_narrow (Loop n body rest) fits =
    let both = both_true (literals_fit body) (literals_fit rest) fits in
    omega (arith, of_loop_is wide_row plus n (record { stmts = meant body }), text_narrow body both.0, text_narrow rest both.1)
