use Rattle.std.proofs.Common.{◌≡◌, ◌+◌, ◌-◌, ◌*◌, min, drop, get_or, sym, ◌∙◌, ap, arith}
use Rattle.std.proofs.lemmas.List.{drop_more}
use Rattle.txn_tokens.specs.Number.{number_from}
use Rattle.txn_tokens.proofs.Numbers.{number_from-min}
use Rattle.txn_tokens.proofs.number.number_of.Goals as goal

pub loop-digit-preserved : goal.loop-digit-preserved
loop-digit-preserved c =
    let i = c.loop-digit.digit-index in
    let digits = c.args.digits.now in
    let digit = get_or digits i 0 in
    let rest = drop (i + 1) digits in
    let next = drop_more digits i 0 c.loop-digit-test.true in
    let so_far = c.loop-digit.invariant in
    let step : c.saturating_add-number.result ≡ min (10 * c.loop-digit.number + (digit - 48)) 18446744073709551615 =
    omega (arith, c.saturating_add-number.ensures, c.saturating_mul.ensures) in
    record {
      value = ap (λ n. min (number_from n rest) 18446744073709551615) step ∙ number_from-min (10 * c.loop-digit.number + (digit - 48)) 18446744073709551615 rest
          ∙ sym (ap (λ xs. min (number_from c.loop-digit.number xs) 18446744073709551615) next) ∙ so_far.value;
      fits = omega arith;
    }
