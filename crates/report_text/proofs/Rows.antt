-- The lines of a report, and what each names.
use Rattle.std.proofs.Common.{◌≡◌, ◌<◌, ◌^◌, ℕ, ◌+◌, ◌*◌, ◌-◌, ◌==◌, ◌&&◌, Bool, true, false, nat_lt, if◌then◌else◌, List, [], ◌∷◌, ◌++◌, length, Some, None, refl, ap, ◌∙◌, append_assoc, arith, eqb-true, lt-ltb, le-ltb, le-leb}
use Rattle.std.specs.Prelude.{decimal}
use Rattle.std.specs.Char.{digit_value}
use Rattle.std.specs.Str.Parse.{digits_value_after}
use Rattle.std.specs.List.{AllByRecursion, list_all}
use Rattle.std.specs.Char.{is_ascii_digit}
use Rattle.std.proofs.lemmas.Fmt.{decimal_is_IsNumeral, decimal_nonempty}
use Rattle.txn_runs.specs.Run.{Tables}
use Rattle.txn_runs.specs.declared.outcome.Outcome.{Outcome}
use Rattle.scc_text.specs.Number.{natural_of, is_natural, number_of, number_from}
use Rattle.journal_core.specs.Reply.{outcome_words}
use Rattle.report_text.proofs.Cuts.{IsDigit, IsWithout, decimal-digits, decimal-without}
use Rattle.report_text.specs.Order.{first_word, commit_number}
use Rattle.report_text.specs.Rows.{commit_row, final_row, end_row}

-- Numbers read back.

digit-value : (b : ℕ) → IsDigit b → digit_value b ≡ b - 48
digit-value b d =
    let low : nat_lt b 48 ≡ false = le-ltb b 48 d.0 in
    let high : nat_lt b 58 ≡ true = lt-ltb b 58 (let most = d.1 in omega (arith, most)) in
    rw (low, high) refl

number-value : (n : ℕ) (ds : List ℕ) → AllByRecursion IsDigit ds → number_from n ds ≡ digits_value_after 10 n ds
number-value n [] h = refl
number-value n (d ∷ ds) h =
    let same : 10 * n + (d - 48) ≡ n * 10 + digit_value d = let v = digit-value d h.0 in omega (arith, v) in
    ap (λ k. number_from k ds) same ∙ number-value (n * 10 + digit_value d) ds h.1

all-digits : (ds : List ℕ) → AllByRecursion IsDigit ds → list_all is_ascii_digit ds ≡ true
all-digits [] h = refl
all-digits (d ∷ ds) h =
    let least = h.0.0 in
    let most = h.0.1 in
    let here : is_ascii_digit d ≡ true = grind (arith, least, most, le-leb) in
    ap (λ b. b && list_all is_ascii_digit ds) here ∙ all-digits ds h.1

natural-digits : (ds : List ℕ) → 0 < length ds → AllByRecursion IsDigit ds → is_natural ds ≡ true
natural-digits [] some h = absurd (omega (arith, some))
natural-digits (d ∷ ds) some h = all-digits (d ∷ ds) h

pub natural-decimal : (n : ℕ) → n < 2 ^ 64 → natural_of (decimal n) ≡ Some n
unfolding natural_of
natural-decimal n small =
    let is : is_natural (decimal n) ≡ true = natural-digits (decimal n) (decimal_nonempty n small) (decimal-digits n) in
    let value : number_of (decimal n) ≡ n = number-value 0 (decimal n) (decimal-digits n) ∙ (decimal_is_IsNumeral n small).1 in
    ap (λ b. if b then Some (number_of (decimal n)) else None) is ∙ ap (λ k. Some k) value

-- Words.

first-word : (word rest : List ℕ) → IsWithout 32 word → first_word (word ++ 32 ∷ rest) ≡ word
first-word [] rest h = refl
first-word (b ∷ word) rest h = go (b == 32) refl (first-word word rest h.1)
  where
    go : (here : Bool) → (b == 32) ≡ here → first_word (word ++ 32 ∷ rest) ≡ word → (if here then [] else b ∷ first_word (word ++ 32 ∷ rest)) ≡ b ∷ word
    go true is more = absurd (h.0 (eqb-true b 32 is))
    go false is more = ap (λ w. b ∷ w) more

pub commit-named : (t : ℕ) (o : Outcome) → t < 2 ^ 64 → commit_number (commit_row t o) ≡ Some t
commit-named t o small =
    let words : List ℕ = outcome_words o in
    let rest : first_word (decimal t ++ 32 ∷ [] ++ words) ≡ decimal t = ap first_word (append_assoc (decimal t) (32 ∷ []) words) ∙ first-word (decimal t) words (decimal-without 32 t (omega arith)) in
    ap natural_of rest ∙ natural-decimal t small

pub final-named : (name : List ℕ) (values : Tables) → commit_number (final_row name values) ≡ None
final-named name values = refl

pub end-named : (n : ℕ) → commit_number (end_row n) ≡ None
end-named n = refl
