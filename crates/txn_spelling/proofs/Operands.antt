-- Registers, numbers, names and operands at the front of bytes.
use Rattle.std.proofs.Common.{rules, ◌≡◌, ℕ, suc, ◌+◌, ◌-◌, ◌/◌, ◌%◌, ◌<◌, ◌≤◌, ◌==◌, ◌&&◌, ◌||◌, ◌^◌, inl, inr, Bool, true, false, cond, min, List, [], ◌∷◌, ◌++◌, length, decimal, Option, None, Some, refl, sym, ap, ◌∙◌, subst, arith}
use Rattle.std.specs.Prelude.{nat_le, pos, negsuc}
use Rattle.std.specs.Char.{is_ascii_lowercase, is_ascii_digit}
use Rattle.std.specs.List.{list_all}
use Rattle.std.specs.Option.{option_map_or}
use Rattle.std.proofs.lemmas.Bool.{cases_lt, leb-true, ltb-true, le-leb}
use Rattle.std.proofs.lemmas.Fmt.{decimal_digit, decimal_step, decimal_nonempty, digits_decimal, digits_value-decimal}
use Rattle.std.proofs.lemmas.Str.Parse.{IsNumeralModel, numerals_by_fold}
use Rattle.txn_runs.specs.declared.program.Operand.{Operand}
use Rattle.txn_runs.specs.declared.program.Operand.TheVariants.{Reg, Lit}
use Rattle.txn_runs.specs.declared.program.Op.TheVariants.{Sub}
use Rattle.txn_runs.specs.Bounds.{after_register}
use Rattle.txn_names.specs.Word.{is_word_byte, is_reserved, register_of}
use Rattle.txn_names.specs.Tables.{Named, table_named}
use Rattle.txn_tokens.specs.declared.token.Token.TheVariants as t
use Rattle.txn_tokens.specs.Number.{number_from, number_of, capped_number}
use Rattle.txn_tokens.specs.Front.{word_token, other_word}
use Rattle.txn_syntax.specs.declared.place.Term.{Term}
use Rattle.txn_syntax.specs.declared.place.Term.TheVariants.{Register, Number, Minus}
use Rattle.txn_syntax.specs.Grammar.{operand}
use Rattle.txn_syntax.specs.Meaning.{operand_of, term_fits}
use Rattle.txn_spelling.specs.Canonical.{operand_text}
use Rattle.txn_spelling.proofs.Lexing.{Goes, goes_then, goes_word, goes_number, goes_minus}

own : IsNumeralModel (λ ds. list_all is_ascii_digit ds ≡ true) number_of
own = numerals_by_fold _ (search rules) number_from (search rules)

-- a byte that ends registers and numbers
pub record IsStop (d : ℕ) : Type 0 where
  pub word : is_word_byte d ≡ false
  pub digit : is_ascii_digit d ≡ false

digit_is : (n : ℕ) → 48 ≤ n → n ≤ 57 → is_ascii_digit n ≡ true
digit_is n low high = ap (λ b. b && nat_le n 57) (le-leb 48 n low) ∙ le-leb n 57 high

or_true : (a b c : Bool) → b ≡ true → (a || b || c) ≡ true
or_true true b c is = refl
or_true false b c is = ap (λ x. x || c) is

word_digit : (n : ℕ) → is_ascii_digit n ≡ true → is_word_byte n ≡ true
word_digit n is = or_true (is_ascii_lowercase n) (is_ascii_digit n) (n == 95) is

module _ (names : List Named) where
  -- digits of a number
  goes_digits : (n : ℕ) (ds : List ℕ) (d : ℕ) (rest : List ℕ) → decimal n ≡ ds → n < 2 ^ 64 → IsStop d → Goes names (ds ++ d ∷ rest) (d ∷ rest) (t.Number n ∷ [])
  goes_digits n [] d rest is lt stop = absurd (omega (arith, ap length is, decimal_nonempty n lt))
  goes_digits n (first ∷ more) d rest is lt stop =
      let all : list_all is_ascii_digit (first ∷ more) ≡ true = subst (λ ds. list_all is_ascii_digit ds ≡ true) is (digits_decimal own n lt) in
      let value : number_of (first ∷ more) ≡ n = ap number_of (sym is) ∙ digits_value-decimal own n lt in
      let capped : capped_number (first ∷ more) ≡ n = ap (λ v. min v (2 ^ 64 - 1)) value ∙ omega (arith, lt) in
      subst (λ v. Goes names (first ∷ (more ++ d ∷ rest)) (d ∷ rest) (t.Number v ∷ [])) capped (goes_number names first more d rest all stop.digit)

  pub goes_decimal : (n d : ℕ) (rest : List ℕ) → n < 2 ^ 64 → IsStop d → Goes names (decimal n ++ d ∷ rest) (d ∷ rest) (t.Number n ∷ [])
  goes_decimal n d rest lt stop = goes_digits n (decimal n) d rest refl lt stop

  -- a word with this register is it
  register_found : (word : List ℕ) (o : Option ℕ) (n : ℕ) → register_of word ≡ o → o ≡ Some n → other_word names word ≡ t.Register n
  register_found word o n is some = ap (λ r. option_map_or t.Register r (cond (is_reserved word) t.Stray (t.Name (table_named names word)))) (is ∙ some)

  register_one : (digit : ℕ) → is_ascii_digit digit ≡ true → word_token names (114 ∷ digit ∷ []) ≡ t.Register (digit - 48)
  register_one digit is = register_found (114 ∷ digit ∷ []) (register_of (114 ∷ digit ∷ [])) (digit - 48) refl (ap (λ b. cond b (Some (digit - 48)) None) is)

  register_two : (digit : ℕ) → 48 ≤ digit → digit ≤ 53 → word_token names (114 ∷ 49 ∷ digit ∷ []) ≡ t.Register (digit - 38)
  register_two digit low high =
      register_found (114 ∷ 49 ∷ digit ∷ []) (register_of (114 ∷ 49 ∷ digit ∷ [])) (digit - 38) refl (ap (λ b. cond (b && nat_le digit 53) (Some (digit - 38)) None) (le-leb 48 digit low) ∙ ap (λ b. cond b (Some (digit - 38)) None) (le-leb digit 53 high))

  pub goes_register : (r d : ℕ) (rest : List ℕ) → r < 16 → IsStop d → Goes names (114 ∷ (decimal r ++ d ∷ rest)) (d ∷ rest) (t.Register r ∷ [])
  goes_register r d rest lt stop = elim (cases_lt r 10) [
    | inl one ↦ (
        let digit = digit_is (48 + r) (omega arith) (omega (arith, one)) in
        let all : list_all is_word_byte (114 ∷ (48 + r) ∷ []) ≡ true = ap (λ b. b && true) (word_digit (48 + r) digit) in
        let token : word_token names (114 ∷ (48 + r) ∷ []) ≡ t.Register r = register_one (48 + r) digit ∙ ap t.Register (omega arith) in
        subst (λ ds. Goes names (114 ∷ (ds ++ d ∷ rest)) (d ∷ rest) (t.Register r ∷ [])) (sym (decimal_digit r one))
        (subst (λ k. Goes names (114 ∷ (48 + r) ∷ d ∷ rest) (d ∷ rest) (k ∷ [])) token (goes_word names 114 ((48 + r) ∷ []) d rest refl all stop.word)))
    | inr two ↦ (
        let tens : r / 10 ≡ 1 = omega (arith, two, lt) in
        let ones : 48 + r % 10 ≡ 38 + r = omega (arith, two, lt) in
        let ds : decimal r ≡ 49 ∷ (38 + r) ∷ [] = decimal_step r two (omega (arith, lt)) ∙ ap (λ n. decimal n ++ (48 + r % 10) ∷ []) tens ∙ ap (λ xs. xs ++ (48 + r % 10) ∷ []) (decimal_digit 1 (omega arith)) ∙ ap (λ n. 49 ∷ n ∷ []) ones in
        let digit = digit_is (38 + r) (omega (arith, two)) (omega (arith, lt)) in
        let all : list_all is_word_byte (114 ∷ 49 ∷ (38 + r) ∷ []) ≡ true = ap (λ b. b && true) (word_digit (38 + r) digit) in
        let token : word_token names (114 ∷ 49 ∷ (38 + r) ∷ []) ≡ t.Register r = register_two (38 + r) (omega (arith, two)) (omega (arith, lt)) ∙ ap t.Register (omega arith) in
        subst (λ ds. Goes names (114 ∷ (ds ++ d ∷ rest)) (d ∷ rest) (t.Register r ∷ [])) (sym ds)
        (subst (λ k. Goes names (114 ∷ 49 ∷ (38 + r) ∷ d ∷ rest) (d ∷ rest) (k ∷ [])) token (goes_word names 114 (49 ∷ (38 + r) ∷ []) d rest refl all stop.word)))
  ]

  -- the digits of a negative literal
  goes_negative : (n d : ℕ) (rest : List ℕ) → n < 2 ^ 64 → IsStop d → Goes names (45 ∷ (decimal n ++ d ∷ rest)) (d ∷ rest) (t.Op Sub ∷ t.Number n ∷ [])
  goes_negative n d rest lt stop = goes_then names (goes_minus names (decimal n ++ d ∷ rest)) (goes_decimal n d rest lt stop)

-- an operand as it is written
abbrev pub term_of : Operand → Term
term_of (Reg r) = Register r
term_of (Lit (pos n)) = Number n
term_of (Lit (negsuc n)) = Minus (suc n)

pub term_means : (x : Operand) → operand_of (term_of x) ≡ x
term_means (Reg r) = refl
term_means (Lit (pos n)) = refl
term_means (Lit (negsuc n)) = refl

-- a register is below 16, and a literal has 64 bits
pub record IsFit (x : Operand) : Type 0 where
  pub register : after_register x ≤ 16
  pub literal : term_fits (term_of x) ≡ true

pub goes_operand : (names : List Named) (x : Operand) (d : ℕ) (rest : List ℕ) → IsFit x → IsStop d → Goes names (operand_text x ++ d ∷ rest) (d ∷ rest) (operand (term_of x))
goes_operand names (Reg r) d rest fit stop = goes_register names r d rest (omega (arith, fit.register)) stop
goes_operand names (Lit (pos n)) d rest fit stop = goes_decimal names n d rest (let lt = ltb-true n (2 ^ 63) fit.literal in omega (arith, lt)) stop
goes_operand names (Lit (negsuc n)) d rest fit stop = goes_negative names (suc n) d rest (let le = leb-true (suc n) (2 ^ 63) fit.literal in omega (arith, le)) stop
