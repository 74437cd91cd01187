-- A number that is written is read back.
use Rattle.std.proofs.Common.{◌≡◌, ◌<◌, ◌^◌, ◌-◌, ℕ, min, Some, Option, true, List, ap, ◌∙◌, arith, rules}
use Rattle.std.specs.Prelude.{decimal, option_map}
use Rattle.std.specs.Char.{is_ascii_digit}
use Rattle.std.specs.List.{list_all}
use Rattle.std.proofs.lemmas.Fmt.{decimal_nonempty, digits_decimal, digits_value-decimal}
use Rattle.std.proofs.lemmas.Str.Parse.{IsNumeralModel, numerals_by_fold}
use Rattle.scc_text.specs.Number.{natural_of, number_from}
use Rattle.scc_text.proofs.Numbers.{natural_of-digits}

own : IsNumeralModel (λ ds. list_all is_ascii_digit ds ≡ true) (number_from 0)
own = numerals_by_fold _ (search rules) number_from (search rules)

pub natural-decimal : (n : ℕ) → n < 2 ^ 64 → natural_of (decimal n) ≡ Some n
natural-decimal n small = natural_of-digits (decimal n) (decimal_nonempty n small) (digits_decimal own n small) ∙ ap (λ k. Some k) (digits_value-decimal own n small)

-- the number that is read of a field, where it is at most the greatest one of 64 bits
pub read-decimal : (field : List ℕ) (n : ℕ) (read : Option ℕ) → read ≡ option_map (λ k. min k (2 ^ 64 - 1)) (natural_of field) → field ≡ decimal n → n < 2 ^ 64 → read ≡ Some n
read-decimal field n read is spelled small =
    let same : min n (2 ^ 64 - 1) ≡ n = omega arith in
    is ∙ ap (λ f. option_map (λ k. min k (2 ^ 64 - 1)) (natural_of f)) spelled ∙ ap (option_map (λ k. min k (2 ^ 64 - 1))) (natural-decimal n small) ∙ ap (λ k. Some k) same
