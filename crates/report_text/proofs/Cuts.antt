-- Texts cut into lines. A text can be cut into lines in one way alone.
use Rattle.std.proofs.Common.{◌≡◌, ◌≢◌, ◌≤◌, ◌<◌, ◌^◌, ℕ, zero, suc, ◌+◌, ◌/◌, ◌%◌, ◌==◌, Bool, true, false, nat_lt, if◌then◌else◌, List, [], ◌∷◌, ◌++◌, refl, sym, ap, ◌∙◌, arith, append_assoc, ltb-false, eq-eqb, true≢false}
use Rattle.std.specs.Prelude.{ℤ, pos, negsuc, decimal}
use Rattle.std.specs.Fmt.{digits, digits_onto, digit_glyph, signed_decimal}
use Rattle.std.specs.List.{AllByRecursion}
use Rattle.scc_text.specs.Number.{numbers}
use Rattle.std.proofs.lemmas.Nat.{mod_below}
use Rattle.std.proofs.lemmas.Fmt.{decimal_is_IsNumeral}
use Rattle.std.specs.Str.Parse.{digits_value}

-- The bytes of numbers.

abbrev pub IsDigit : ℕ → Type 0
IsDigit b = (48 ≤ b) × (b ≤ 57)

glyph : (n : ℕ) → IsDigit (digit_glyph false (n % 10))
glyph n = go (nat_lt (n % 10) 10) refl
  where
    low : n % 10 < 10
    low = mod_below n 10 (omega arith)

    go : (b : Bool) → nat_lt (n % 10) 10 ≡ b → IsDigit (if b then 48 + n % 10 else (if false then 55 + n % 10 else 87 + n % 10))
    go true e = let l = low in (omega (arith, l), omega (arith, l))
    go false e = let high : 10 ≤ n % 10 = ltb-false _ _ e in let l = low in absurd (omega (arith, high, l))

onto : (k n : ℕ) (acc : List ℕ) → AllByRecursion IsDigit acc → AllByRecursion IsDigit (digits_onto k 10 false n acc)
onto zero n acc h = h
onto (suc k) n acc h = go (n / 10 == 0) (onto k (n / 10) (digit_glyph false (n % 10) ∷ acc) (glyph n, h))
  where
    go : (b : Bool) → AllByRecursion IsDigit (digits_onto k 10 false (n / 10) (digit_glyph false (n % 10) ∷ acc)) → AllByRecursion IsDigit (if b then digit_glyph false (n % 10) ∷ acc else digits_onto k 10 false (n / 10) (digit_glyph false (n % 10) ∷ acc))
    go true more = (glyph n, h)
    go false more = more

pub decimal-digits : (n : ℕ) → AllByRecursion IsDigit (decimal n)
unfolding digits
decimal-digits n = onto 64 n [] tt

pub decimal-same : (m n : ℕ) → m ≤ 20000 → n ≤ 20000 → decimal m ≡ decimal n → m ≡ n
decimal-same m n hm hn e =
    sym (decimal_is_IsNumeral m (below m hm)).1 ∙ ap (digits_value 10) e ∙ (decimal_is_IsNumeral n (below n hn)).1
  where
    below : (k : ℕ) → k ≤ 20000 → k < 2 ^ 64
    below k h = omega arith

-- Pieces.

-- none of these bytes is s
abbrev pub IsWithout : ℕ → List ℕ → Type 0
IsWithout s bs = AllByRecursion (λ b. b ≢ s) bs

unfoldable pub head : List ℕ → ℕ
head [] = 0
head (b ∷ bs) = b

unfoldable pub tail : List ℕ → List ℕ
tail [] = []
tail (b ∷ bs) = bs

heads : (a b : ℕ) (x y : List ℕ) → a ∷ x ≡ b ∷ y → a ≡ b
unfolding head
heads a b x y e = ap head e

tails : (a b : ℕ) (x y : List ℕ) → a ∷ x ≡ b ∷ y → x ≡ y
unfolding tail
tails a b x y e = ap tail e

-- up to the first s both pieces are the same, and so is what follows it
pub first-piece : (s : ℕ) (a b x y : List ℕ) → IsWithout s a → IsWithout s b → a ++ s ∷ x ≡ b ++ s ∷ y → (a ≡ b) × (x ≡ y)
first-piece s [] [] x y ha hb e = (refl, tails s s x y e)
first-piece s [] (d ∷ b) x y ha hb e = absurd (hb.0 (sym (heads s d x (b ++ s ∷ y) e)))
first-piece s (c ∷ a) [] x y ha hb e = absurd (ha.0 (heads c s (a ++ s ∷ x) y e))
first-piece s (c ∷ a) (d ∷ b) x y ha hb e =
    let rest = first-piece s a b x y ha.1 hb.1 (tails c d (a ++ s ∷ x) (b ++ s ∷ y) e) in
    (ap (λ l. l ∷ a) (heads c d (a ++ s ∷ x) (b ++ s ∷ y) e) ∙ ap (λ l. d ∷ l) rest.0, rest.1)

none-some : (l x : List ℕ) → [] ≡ l ++ 10 ∷ x → ⊥
none-some [] x e = absurd (cc)
none-some (c ∷ l) x e = absurd (cc)

-- Lines.

-- lines, each with its newline
abbrev pub unlines : List (List ℕ) → List ℕ
unlines [] = []
unlines (l ∷ ls) = l ++ 10 ∷ unlines ls

abbrev pub AreLines : List (List ℕ) → Type 0
AreLines ls = AllByRecursion (IsWithout 10) ls

pub unlines-append : (a b : List (List ℕ)) → unlines (a ++ b) ≡ unlines a ++ unlines b
unlines-append [] b = refl
unlines-append (l ∷ a) b = ap (λ x. l ++ 10 ∷ x) (unlines-append a b) ∙ sym (append_assoc l (10 ∷ unlines a) (unlines b))

pub lines-same : (a b : List (List ℕ)) → AreLines a → AreLines b → unlines a ≡ unlines b → a ≡ b
lines-same [] [] ha hb e = refl
lines-same [] (m ∷ b) ha hb e = absurd (none-some m (unlines b) e)
lines-same (l ∷ a) [] ha hb e = absurd (none-some l (unlines a) (sym e))
lines-same (l ∷ a) (m ∷ b) ha hb e =
    let both = first-piece 10 l m (unlines a) (unlines b) ha.0 hb.0 e in
    ap (λ k. k ∷ a) both.0 ∙ ap (λ k. m ∷ k) (lines-same a b ha.1 hb.1 both.1)

pub lines-append : (a b : List (List ℕ)) → AreLines a → AreLines b → AreLines (a ++ b)
lines-append [] b ha hb = hb
lines-append (l ∷ a) b ha hb = (ha.0, lines-append a b ha.1 hb)

-- Bytes that are no newline.

pub without-append : (s : ℕ) (a b : List ℕ) → IsWithout s a → IsWithout s b → IsWithout s (a ++ b)
without-append s [] b ha hb = hb
without-append s (c ∷ a) b ha hb = (ha.0, without-append s a b ha.1 hb)

-- bytes that aren't s, by looking at each
unfoldable pub lacks : ℕ → List ℕ → Bool
lacks s [] = true
lacks s (b ∷ bs) = if b == s then false else lacks s bs

pub lacking : (s : ℕ) (bs : List ℕ) → lacks s bs ≡ true → IsWithout s bs
unfolding lacks
lacking s [] e = tt
lacking s (b ∷ bs) e = go (b == s) refl (lacking s bs) e
  where
    go : (here : Bool) → (b == s) ≡ here → (lacks s bs ≡ true → IsWithout s bs) → (if here then false else lacks s bs) ≡ true → (b ≢ s) × IsWithout s bs
    go true is more e = absurd (true≢false (sym e))
    go false is more e = (λ same. true≢false (sym (eq-eqb b s same) ∙ is), more e)

pub digits-without : (s : ℕ) → s < 48 → (bs : List ℕ) → AllByRecursion IsDigit bs → IsWithout s bs
digits-without s low [] h = tt
digits-without s low (b ∷ bs) h = (λ same. let least : 48 ≤ b = h.0.0 in absurd (omega (arith, low, least, same)), digits-without s low bs h.1)

pub decimal-without : (s n : ℕ) → s < 48 → IsWithout s (decimal n)
decimal-without s n low = digits-without s low (decimal n) (decimal-digits n)

pub signed-without : (v : ℤ) → IsWithout 10 (signed_decimal v)
signed-without (pos n) = decimal-without 10 n (omega arith)
signed-without (negsuc n) = (λ same. absurd (omega (arith, same)), decimal-without 10 (suc n) (omega arith))

pub numbers-without : (vs : List ℤ) → IsWithout 10 (numbers vs)
numbers-without [] = tt
numbers-without (v ∷ vs) = (λ same. absurd (omega (arith, same)), without-append 10 (signed_decimal v) (numbers vs) (signed-without v) (numbers-without vs))
