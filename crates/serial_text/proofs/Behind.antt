-- The lines that follow a reply's first line. No reply begins with one of them but that to `dump` of a table of such a name.
use Rattle.std.proofs.Common.{◌≡◌, ◌≢◌, ◌≤◌, ◌<◌, ℕ, suc, ◌==◌, ◌&&◌, ◌||◌, Bool, true, false, not, if◌then◌else◌, List, [], ◌∷◌, ◌++◌, refl, sym, ap, ◌∙◌, arith, append_assoc, true≢false}
use Rattle.std.specs.Prelude.{ℤ, pos, negsuc, codes, decimal}
use Rattle.std.specs.Fmt.{signed_decimal}
use Rattle.std.specs.List.{AllByRecursion}
use Rattle.std.specs.Char.{is_ascii_lowercase}
use Rattle.std.proofs.lemmas.Bool.{eqb-true, ne_eqb}
use Rattle.scc_text.specs.Number.{numbers}
use Rattle.report_text.proofs.Cuts.{IsDigit, IsWithout, decimal-digits, decimal-without, head, tail}

-- The first three bytes.

unfoldable pub letters : ℕ → ℕ → ℕ → Bool
letters a b c =
    if c == 115 then (a == 114) && (b == 101) else (if c == 97 then (a == 115) && ((b == 116) || (b == 104)) else false)

-- the line begins `res`, `sta` or `sha`
unfoldable pub three : List ℕ → Bool
three bs = letters (head bs) (head (tail bs)) (head (tail (tail bs)))

letters-high : (a b c : ℕ) → letters a b c ≡ true → 97 ≤ c
unfolding letters
letters-high a b c = first (c == 115) refl
  where
    second : (is : Bool) → (c == 97) ≡ is → (if is then (a == 115) && ((b == 116) || (b == 104)) else false) ≡ true → 97 ≤ c
    second true e h = let same : c ≡ 97 = eqb-true c 97 e in omega (arith, same)
    second false e h = absurd (true≢false (sym h))

    first : (is : Bool) → (c == 115) ≡ is → (if is then (a == 114) && (b == 101) else (if c == 97 then (a == 115) && ((b == 116) || (b == 104)) else false)) ≡ true → 97 ≤ c
    first true e h = let same : c ≡ 115 = eqb-true c 115 e in omega (arith, same)
    first false e h = second (c == 97) refl h

-- they are there
low-letter : (a b c : ℕ) → c < 64 → letters a b c ≡ true → ⊥
low-letter a b c low h = let high : 97 ≤ c = letters-high a b c h in absurd (omega (arith, low, high))

pub three-more : (r z : List ℕ) → three r ≡ true → three (r ++ z) ≡ true
unfolding three head tail
three-more [] z h = absurd (low-letter 0 0 0 (omega arith) h)
three-more (a ∷ []) z h = absurd (low-letter a 0 0 (omega arith) h)
three-more (a ∷ b ∷ []) z h = absurd (low-letter a b 0 (omega arith) h)
three-more (a ∷ b ∷ c ∷ r) z h = h

-- The rows of a journal.

-- the first byte that is no lower-case letter
unfoldable pub past_word : List ℕ → ℕ
past_word [] = 0
past_word (b ∷ bs) = if is_ascii_lowercase b then past_word bs else b

-- the text begins with a word and a comma, and not with an `e`, as the heading does
unfoldable pub row_start : List ℕ → Bool
row_start bs = not (head bs == 101) && (past_word bs == 44)

past-line : (line z : List ℕ) → (past_word (line ++ 10 ∷ z) == 44) ≡ (past_word line == 44)
unfolding past_word
past-line [] z = refl
past-line (b ∷ line) z = go (is_ascii_lowercase b) (past-line line z)
  where
    go : (letter : Bool) → (past_word (line ++ 10 ∷ z) == 44) ≡ (past_word line == 44) → ((if letter then past_word (line ++ 10 ∷ z) else b) == 44) ≡ ((if letter then past_word line else b) == 44)
    go true more = more
    go false more = refl

-- a text begins with a row where its first line does
pub line-apart : (line z : List ℕ) → row_start line ≡ false → row_start (line ++ 10 ∷ z) ≡ false
unfolding row_start past_word head
line-apart [] z h = refl
line-apart (b ∷ line) z h = ap (λ x. not (b == 101) && x) (past-line (b ∷ line) z) ∙ h

past-name : (name : List ℕ) (vs : List ℤ) → IsWithout 44 name → (past_word (name ++ numbers vs) == 44) ≡ false
unfolding past_word
past-name [] [] h = refl
past-name [] (v ∷ vs) h = refl
past-name (b ∷ name) vs h = go (is_ascii_lowercase b) (past-name name vs h.1)
  where
    go : (letter : Bool) → (past_word (name ++ numbers vs) == 44) ≡ false → ((if letter then past_word (name ++ numbers vs) else b) == 44) ≡ false
    go true more = more
    go false more = ne_eqb b 44 h.0

and-false : (x : Bool) → (x && false) ≡ false
and-false true = refl
and-false false = refl

-- no line of `dump` begins so
pub name-apart : (name : List ℕ) (vs : List ℤ) → IsWithout 44 name → row_start (name ++ numbers vs) ≡ false
unfolding row_start
name-apart name vs h = ap (λ x. not (head (name ++ numbers vs) == 101) && x) (past-name name vs h) ∙ and-false (not (head (name ++ numbers vs) == 101))

-- The byte behind the second blank.

unfoldable pub past_blank : List ℕ → List ℕ
past_blank [] = []
past_blank (b ∷ bs) = if b == 32 then bs else past_blank bs

unfoldable pub third : List ℕ → ℕ
third bs = head (past_blank (past_blank bs))

-- a byte of a number or a blank
abbrev IsLow : ℕ → Type 0
IsLow b = b < 64

low-append : (a b : List ℕ) → AllByRecursion IsLow a → AllByRecursion IsLow b → AllByRecursion IsLow (a ++ b)
low-append [] b ha hb = hb
low-append (c ∷ a) b ha hb = (ha.0, low-append a b ha.1 hb)

low-digits : (bs : List ℕ) → AllByRecursion IsDigit bs → AllByRecursion IsLow bs
low-digits [] h = tt
low-digits (b ∷ bs) h = (let most : b ≤ 57 = h.0.1 in omega (arith, most), low-digits bs h.1)

low-signed : (v : ℤ) → AllByRecursion IsLow (signed_decimal v)
low-signed (pos n) = low-digits (decimal n) (decimal-digits n)
low-signed (negsuc n) = (omega arith, low-digits (decimal (suc n)) (decimal-digits (suc n)))

low-numbers : (vs : List ℤ) → AllByRecursion IsLow (numbers vs)
low-numbers [] = tt
low-numbers (v ∷ vs) = (omega arith, low-append (signed_decimal v) (numbers vs) (low-signed v) (low-numbers vs))

low-head : (bs : List ℕ) → AllByRecursion IsLow bs → head bs < 64
unfolding head
low-head [] h = omega arith
low-head (b ∷ bs) h = h.0

low-tail : (bs : List ℕ) → AllByRecursion IsLow bs → AllByRecursion IsLow (tail bs)
unfolding tail
low-tail [] h = tt
low-tail (b ∷ bs) h = h.1

low-past : (bs : List ℕ) → AllByRecursion IsLow bs → AllByRecursion IsLow (past_blank bs)
unfolding past_blank
low-past [] h = tt
low-past (b ∷ bs) h = go (b == 32) (low-past bs h.1)
  where
    go : (is : Bool) → AllByRecursion IsLow (past_blank bs) → AllByRecursion IsLow (if is then bs else past_blank bs)
    go true more = h.1
    go false more = more

-- over bytes without a blank
past-over : (a b : List ℕ) → IsWithout 32 a → past_blank (a ++ b) ≡ past_blank b
unfolding past_blank
past-over [] b h = refl
past-over (c ∷ a) b h = go (c == 32) refl (past-over a b h.1)
  where
    go : (is : Bool) → (c == 32) ≡ is → past_blank (a ++ b) ≡ past_blank b → (if is then a ++ b else past_blank (a ++ b)) ≡ past_blank b
    go true e more = absurd (h.0 (eqb-true c 32 e))
    go false e more = more

past-none : (a : List ℕ) → IsWithout 32 a → past_blank a ≡ []
unfolding past_blank
past-none [] h = refl
past-none (c ∷ a) h = go (c == 32) refl (past-none a h.1)
  where
    go : (is : Bool) → (c == 32) ≡ is → past_blank a ≡ [] → (if is then a else past_blank a) ≡ []
    go true e more = absurd (h.0 (eqb-true c 32 e))
    go false e more = more

past-blank : (a b : List ℕ) → IsWithout 32 a → past_blank (a ++ 32 ∷ b) ≡ b
unfolding past_blank
past-blank a b h = past-over a (32 ∷ b) h

-- A byte is behind the second blank.
pub record HasThird (byte : ℕ) (bs : List ℕ) : Type 0 where
  pub more : List ℕ
  pub is : past_blank (past_blank bs) ≡ byte ∷ more

past-more : (x y : List ℕ) (c : ℕ) (r : List ℕ) → past_blank x ≡ c ∷ r → past_blank (x ++ y) ≡ c ∷ r ++ y
unfolding past_blank
past-more [] y c r e = absurd (cc)
past-more (b ∷ x) y c r e = go (b == 32) (past-more x y c r) e
  where
    go : (is : Bool) → (past_blank x ≡ c ∷ r → past_blank (x ++ y) ≡ c ∷ r ++ y) → (if is then x else past_blank x) ≡ c ∷ r → (if is then x ++ y else past_blank (x ++ y)) ≡ c ∷ r ++ y
    go true more e = ap (λ z. z ++ y) e
    go false more e = more e

pub third-more : (byte : ℕ) (x y : List ℕ) → HasThird byte x → HasThird byte (x ++ y)
unfolding past_blank
third-more byte x y h = go (past_blank x) refl
  where
    go : (p : List ℕ) → past_blank x ≡ p → HasThird byte (x ++ y)
    go [] e = let no : [] ≡ byte ∷ h.more = ap past_blank (sym e) ∙ h.is in absurd (cc)
    go (c ∷ r) e = record {
      more = h.more ++ y;
      is = ap past_blank (past-more x y c r e) ∙ past-more (c ∷ r) y byte h.more (ap past_blank (sym e) ∙ h.is);
    }

pub third-is : (byte : ℕ) (x : List ℕ) → HasThird byte x → third x ≡ byte
unfolding third head
third-is byte x h = ap head h.is

-- The lines.

pub record IsBehind (line : List ℕ) : Type 0 where
  pub letters : three line ≡ true
  pub other : third line ≢ 111

low-other : (n : ℕ) → n < 64 → n ≢ 111
low-other n low e = omega (arith, low, e)

-- whether a line of `dump` is one of them its table's name decides
pub row-behind : (name : List ℕ) (vs ws : List ℤ) → IsWithout 32 name → IsBehind (name ++ numbers vs) → IsBehind (name ++ numbers ws)
unfolding third three head tail
row-behind name vs ws h b = record {
  letters = same name b.letters;
  other = low-other (third (name ++ numbers ws)) (low name h);
}
  where
    low : (name : List ℕ) → IsWithout 32 name → head (past_blank (past_blank (name ++ numbers ws))) < 64
    low name h = rw (past-over name (numbers ws) h) (low-head _ (low-past _ (low-past _ (low-numbers ws))))

    same : (name : List ℕ) → three (name ++ numbers vs) ≡ true → three (name ++ numbers ws) ≡ true
    same [] e = absurd (low-letter _ _ _ (low-head _ (low-tail _ (low-tail _ (low-numbers vs)))) e)
    same (a ∷ []) e = absurd (low-letter _ _ _ (low-head _ (low-tail _ (low-numbers vs))) e)
    same (a ∷ b ∷ []) e = absurd (low-letter _ _ _ (low-head _ (low-numbers vs)) e)
    same (a ∷ b ∷ c ∷ r) e = e

pub resume-behind : (t position : ℕ) → IsBehind ((codes "resume " ++ decimal t) ++ (codes " " ++ decimal position))
unfolding third past_blank three letters head tail
resume-behind t position = record {
  letters = refl;
  other = λ e. low-other (head (decimal position)) (low-head (decimal position) (low-digits (decimal position) (decimal-digits position)))
      (ap head (sym (past-blank (decimal t) (decimal position) (decimal-without 32 t (omega arith)))) ∙ e);
}

pub start-behind : (t : ℕ) → IsBehind (codes "start " ++ decimal t)
unfolding third past_blank three letters head tail
start-behind t = record {
  letters = refl;
  other = λ e. low-other 0 (omega arith) (ap head (sym (past-none (decimal t) (decimal-without 32 t (omega arith)))) ∙ e);
}

-- the front of a line of `show`
abbrev pub shown_front : ℕ → List ℕ → List ℕ
shown_front t word = codes "shadow " ++ decimal t ++ codes " " ++ word ++ codes " at "

-- of the optimistic shadow
pub optimistic-third : (t : ℕ) → HasThird 111 (shown_front t (codes "o"))
unfolding past_blank
optimistic-third t = third-more 111 (codes "shadow " ++ decimal t ++ codes " " ++ codes "o") (codes " at ") (record {
  more = [];
  is = ap past_blank (append_assoc (decimal t) (32 ∷ []) (111 ∷ [])) ∙ past-blank (decimal t) (111 ∷ []) (decimal-without 32 t (omega arith));
})

-- of one that waits
pub guard-third : (t guard : ℕ) → (byte : ℕ) × (byte ≢ 111) × HasThird byte (shown_front t (decimal guard))
unfolding past_blank
guard-third t guard = go (decimal guard) (decimal-digits guard) refl
  where
    stands : (g : List ℕ) → past_blank (past_blank (shown_front t g)) ≡ g ++ codes " at "
    stands g =
        ap past_blank (append_assoc (decimal t ++ 32 ∷ []) g (codes " at ") ∙ append_assoc (decimal t) (32 ∷ []) (g ++ codes " at "))
        ∙ past-blank (decimal t) (g ++ codes " at ") (decimal-without 32 t (omega arith))

    go : (bs : List ℕ) → AllByRecursion IsDigit bs → decimal guard ≡ bs → (byte : ℕ) × (byte ≢ 111) × HasThird byte (shown_front t (decimal guard))
    go [] h e = (32, (λ same. omega (arith, same)), record { more = codes "at "; is = stands (decimal guard) ∙ ap (λ g. g ++ codes " at ") e })
    go (b ∷ bs) h e = (b, (λ same. let most : b ≤ 57 = h.0.1 in omega (arith, most, same)), record { more = bs ++ codes " at "; is = stands (decimal guard) ∙ ap (λ g. g ++ codes " at ") e })

pub third-other : (byte : ℕ) (x : List ℕ) → byte ≢ 111 → HasThird byte x → third x ≢ 111
third-other byte x other h e = other (sym (third-is byte x h) ∙ e)
