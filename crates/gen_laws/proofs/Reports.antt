-- How long the report of transfers is.
use Rattle.std.proofs.Common.{◌≡◌, ◌≤◌, ◌<◌, ◌^◌, ℕ, zero, suc, ◌+◌, ◌*◌, List, [], ◌∷◌, ◌++◌, length, map, take, drop, slice_range, refl, sym, ap, ◌∙◌, subst, arith, length-append}
use Rattle.std.specs.Prelude.{ℤ, pos, negsuc, codes, decimal}
use Rattle.std.specs.Int.Signed.{mag}
use Rattle.std.specs.Fmt.{signed_decimal}
use Rattle.std.specs.List.{AllByRecursion, zip}
use Rattle.std.proofs.lemmas.Int.{ints}
use Rattle.std.proofs.lemmas.Fmt.{length-decimal-le, length_signed_le}
use Rattle.std.proofs.lemmas.List.{length-take, length-replicate}
use Rattle.txn_runs.specs.Run.{Tables}
use Rattle.txn_runs.specs.Serial.{outcomes, last_tables}
use Rattle.journal_core.specs.Reply.{outcome_words, commit_line}
use Rattle.scc_text.specs.Number.{numbers}
use Rattle.scc_replies.specs.Finals.{final_lines}
use Rattle.scc_replies.specs.Lines.{end_line}
use Rattle.report_text.specs.Order.{NamesEachOnce}
use Rattle.report_text.specs.Report.{numbered, in_order, commit_lines, report}
use Rattle.scc_gen.specs.declared.lines.Transfer.{Transfer}
use Rattle.gen_laws.specs.Programs.{names, program}
use Rattle.gen_laws.specs.Sums.{zeros, IsNear, AreNear}
use Rattle.gen_laws.proofs.Runs.{IsSmall, told}
use Rattle.gen_laws.proofs.Orders.{AreSmall, AreWithin, Runs, runs, within, all-within, ordered, order-length, programs-ordered, small-ordered, length-ordered, zeros-near}

-- Numbers.

near-narrow : (m : ℕ) (v : ℤ) → m ≤ 900000 → IsNear m v → mag v ≤ 900000
near-narrow m (pos n) le h = let high = h.high in omega (arith, ints)
near-narrow m (negsuc n) le h = let low = h.low in omega (arith, ints)

short-signed : (m : ℕ) (v : ℤ) → m ≤ 900000 → IsNear m v → length (signed_decimal v) ≤ 20
short-signed m v le near = let narrow = near-narrow m v le near in length_signed_le 19 v (omega (arith, narrow)) (omega (arith, narrow))

short-numbers : (m : ℕ) (vs : List ℤ) → m ≤ 900000 → AreNear m vs → length (numbers vs) ≤ 21 * length vs
short-numbers m [] le h = omega arith
short-numbers m (v ∷ vs) le h = omega (arith, length-append (signed_decimal v) (numbers vs), short-signed m v le h.0, short-numbers m vs le h.1)

short-decimal : (n : ℕ) → n < 2 ^ 32 → length (decimal n) ≤ 10
short-decimal n small = length-decimal-le 10 n (omega arith) (omega (arith, small)) (omega (arith, small))

amount-near : (t : Transfer) → IsSmall t → IsNear 9 (pos t.amount)
amount-near t small = let a = small.amount in record { low = omega (arith, ints); high = omega (arith, ints) }

-- Lines.

five-parts : (a b c d e : List ℕ) → length (a ++ b ++ c ++ d ++ e) ≡ length a + length b + length c + length d + length e
five-parts a b c d e =
    length-append (a ++ b ++ c ++ d) e
    ∙ ap (λ n. n + length e) (length-append (a ++ b ++ c) d ∙ ap (λ n. n + length d) (length-append (a ++ b) c ∙ ap (λ n. n + length c) (length-append a b)))

line-size : (number words : List ℕ) → length (codes "commit " ++ number ++ codes " " ++ words ++ codes "\n") ≡ 7 + length number + 1 + length words + 1
line-size number words = five-parts (codes "commit ") number (codes " ") words (codes "\n")

said : (t : Transfer) → IsSmall t → length (outcome_words (told t)) ≤ 25
said t small = omega (arith, short-numbers 9 (pos t.amount ∷ []) (omega arith) (amount-near t small, tt))

short-line : (k : ℕ) (t : Transfer) → k < 2 ^ 32 → IsSmall t → length (commit_line k (told t)) ≤ 100
short-line k t few small =
    subst (λ n. n ≤ 100) (sym (line-size (decimal k) (outcome_words (told t)))) (summed (length (decimal k)) (length (outcome_words (told t))) (short-decimal k few) (said t small))
  where
    summed : (a b : ℕ) → a ≤ 10 → b ≤ 25 → 7 + a + 1 + b + 1 ≤ 100
    summed a b first second = omega (arith, first, second)

short-commits : (count : ℕ) (order : List ℕ) (ts : List Transfer) → count ≤ 20000 → AreWithin count order → AreSmall ts → length (commit_lines (zip order (map told ts))) ≤ 100 * length order
short-commits count [] ts few inside small = omega arith
short-commits count (k ∷ order) [] few inside small = omega arith
short-commits count (k ∷ order) (t ∷ ts) few inside small =
    let high = inside.0.1 in
    omega (arith, length-append (commit_line k (told t)) (commit_lines (zip order (map told ts))), short-line k t (omega (arith, few, high)) small.0, short-commits count order ts few inside.1 small.1)

near-take : (m n : ℕ) (vs : List ℤ) → AreNear m vs → AreNear m (take n vs)
near-take m zero vs h = tt
near-take m (suc n) [] h = tt
near-take m (suc n) (v ∷ vs) h = (h.0, near-take m n vs h.1)

short-finals : (m : ℕ) (d : Tables) → m ≤ 900000 → AreNear m d → length (final_lines d 0 names) ≤ 2000
short-finals m d le near =
    let values : List ℤ = slice_range d 0 (0 + 64) in
    let some : AreNear m values = near-take m 64 d near in
    let few : length values ≤ 64 = omega (arith, length-take 64 d) in
    omega (
      arith,
      short-numbers m values le some,
      few,
      length-append (numbers values) (10 ∷ []),
      length-append (codes "acct") (numbers values ++ 10 ∷ []),
      length-append (codes "final ") (codes "acct" ++ numbers values ++ 10 ∷ []),
      length-append (codes "final " ++ codes "acct" ++ numbers values ++ 10 ∷ []) [],
    )

short-end : (n : ℕ) → n < 2 ^ 32 → length (end_line n) ≤ 20
short-end n few = omega (arith, short-decimal n few, length-append (codes "end ") (decimal n ++ 10 ∷ []), length-append (decimal n) (10 ∷ []))

three-parts : (a b c : List ℕ) (n : ℕ) → length a ≤ 100 * n → n ≤ 20000 → length b ≤ 2000 → length c ≤ 20 → length (a ++ b ++ c) ≤ 67108864
three-parts a b c n first few second third = omega (arith, length-append (a ++ b) c, length-append a b, first, few, second, third)

pub short-report : (ts : List Transfer) (order : List ℕ) → AreSmall ts → length ts ≤ 20000 → NamesEachOnce (length ts) order → length (report names zeros (map program ts) order) ≤ 67108864
unfolding report
short-report ts order small few once =
    let inside : AreWithin (length ts) order = all-within (length ts) order (λ t there. (within (length ts) order once t).0 there) in
    let us : List Transfer = ordered ts order in
    let many : length order ≡ length ts = order-length (length ts) order once in
    let all : length us ≡ length ts = length-ordered ts order ∙ many in
    let smaller : AreSmall us = small-ordered ts order small inside in
    let run : Runs us zeros 0 = runs us zeros 0 smaller (length-replicate 64 (pos 0)) (zeros-near 64) (omega (arith, all, few)) in
    let same : in_order (map program ts) order ≡ map program us = programs-ordered ts order inside in
    let first : List ℕ = commit_lines (zip order (outcomes zeros (in_order (map program ts) order))) in
    let second : List ℕ = final_lines (last_tables zeros (in_order (map program ts) order)) 0 names in
    let third : List ℕ = end_line (length order) in
    let short-first : length first ≤ 100 * length order =
    subst (λ os. length (commit_lines (zip order os)) ≤ 100 * length order) (sym (ap (outcomes zeros) same ∙ run.outcomes)) (short-commits (length ts) order us few inside smaller) in
    let short-second : length second ≤ 2000 =
    subst (λ d. length (final_lines d 0 names) ≤ 2000) (sym (ap (last_tables zeros) same)) (short-finals (0 + 18 * length us) (last_tables zeros (map program us)) (omega (arith, all, few)) run.near) in
    three-parts first second third (length order) short-first (omega (arith, many, few)) short-second (short-end (length order) (omega (arith, many, few)))
