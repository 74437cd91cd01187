-- The text of the transfers so far, and of one more.
use Rattle.std.proofs.Common.{◌≡◌, ℕ, zero, suc, ◌+◌, ◌*◌, ◌%◌, ◌++◌, List, [], ◌∷◌, refl, ap, sym, ◌∙◌, flat_map, codes, append_assoc, arith}
use Rattle.std.proofs.lemmas.List.{append-nil}
use Rattle.std.proofs.lemmas.Grind.{flat_map-append}
use Rattle.std.proofs.lemmas.List.FromFn.{map-range_with_len_more}
use Rattle.scc_gen.specs.declared.lines.Transfer.{Transfer}
use Rattle.scc_gen.specs.Generated.{behind, drawn, transfer, transfer_line, transfers, gen_text}
use Rattle.scc_gen.specs.Grown.{HasGrown}

-- draws behind draws
pub drawn-behind : (seed m n : ℕ) → drawn (drawn seed m) n ≡ drawn seed (m + n)
drawn-behind seed m zero = let same : m ≡ m + zero = omega arith in ap (drawn seed) same
drawn-behind seed m (suc n) = let same : suc (m + n) ≡ m + suc n = omega arith in ap behind (drawn-behind seed m n) ∙ ap (drawn seed) same

-- the transfer that these draws give
abbrev made : ℕ → ℕ → ℕ → ℕ → ℕ → Transfer
made a b c d e = record { from = a % 64; to = b % 64; amount = 1 + c % 9; turns = d % 4; deadline = e % 1000 }

same-made : (a b c d e v w x y z : ℕ) → a ≡ v → b ≡ w → c ≡ x → d ≡ y → e ≡ z → made a b c d e ≡ made v w x y z
same-made a b c d e v w x y z h i j k l = rw (h, i, j, k, l) refl

transfer-behind : (seed m : ℕ) → transfer (drawn seed m) 0 ≡ transfer seed m
transfer-behind seed m =
    let x : ℕ = drawn seed m in
    same-made (drawn x 1) (drawn x 2) (drawn x 3) (drawn x 4) (drawn x 5) (drawn seed (m + 1)) (drawn seed (m + 2)) (drawn seed (m + 3)) (drawn seed (m + 4)) (drawn seed (m + 5))
    (drawn-behind seed m 1) (drawn-behind seed m 2) (drawn-behind seed m 3) (drawn-behind seed m 4) (drawn-behind seed m 5)

one-more : (seed n : ℕ) → gen_text seed (n + 1) ≡ gen_text seed n ++ transfer_line (transfer seed (5 * n))
unfolding gen_text
one-more seed n =
    let f : ℕ → Transfer = λ i. transfer seed (5 * i) in
    let more = ap (flat_map transfer_line) (map-range_with_len_more f 0 n n (omega arith)) ∙ flat_map-append transfer_line (transfers seed n) (f n ∷ []) in
    let last : flat_map transfer_line (f n ∷ []) ≡ transfer_line (f n) = append-nil (transfer_line (f n)) in
    ap (λ t. codes "table acct 64\n" ++ t) (more ∙ ap (λ t. flat_map transfer_line (transfers seed n) ++ t) last)
    ∙ sym (append_assoc (codes "table acct 64\n") (flat_map transfer_line (transfers seed n)) (transfer_line (f n)))

-- one more line behind the text of so many transfers
pub next-text : (seed n last : ℕ) (old out new : List ℕ) (t : Transfer) → last ≡ drawn seed (5 * n) → t ≡ transfer last 0 → out ≡ old ++ gen_text seed n → new ≡ out ++ transfer_line t
    → new ≡ old ++ gen_text seed (n + 1)
next-text seed n last old out new t last_is t_is so_far line =
    let same : transfer_line t ≡ transfer_line (transfer seed (5 * n)) = ap transfer_line (t_is ∙ ap (λ x. transfer x 0) last_is ∙ transfer-behind seed (5 * n)) in
    line ∙ ap (λ o. o ++ transfer_line t) so_far ∙ append_assoc old (gen_text seed n) (transfer_line t)
    ∙ ap (λ x. old ++ x) (ap (λ x. gen_text seed n ++ x) same ∙ sym (one-more seed n))

-- what was appended in two goes
pub grown-on : (a b c : List ℕ) → HasGrown a b → HasGrown b c → HasGrown a c
grown-on a b c h k = record { more = h.more ++ k.more; is = k.is ∙ ap (λ x. x ++ k.more) h.is ∙ append_assoc a h.more k.more }

-- three texts appended one after another
pub three : (old one two new a b c : List ℕ) → one ≡ old ++ a → two ≡ one ++ b → new ≡ two ++ c → new ≡ old ++ (a ++ b ++ c)
three old one two new a b c h i j =
    j ∙ ap (λ x. x ++ c) (i ∙ ap (λ x. x ++ b) h ∙ append_assoc old a b) ∙ append_assoc old (a ++ b) c
