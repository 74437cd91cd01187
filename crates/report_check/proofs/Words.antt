-- The bytes before the first blank, found byte by byte; and a line with its newline.
use Rattle.std.proofs.Common.{◌≡◌, ℕ, zero, suc, ◌+◌, ◌<◌, ◌≤◌, ◌==◌, ◌↔◌, add-one, true, false, if◌then◌else◌, List, [], ◌∷◌, ◌++◌, length, take, drop, get_or, refl, ap, ◌∙◌, sym, arith}
use Rattle.std.proofs.lemmas.List.{append_cancel_right}
use Rattle.report_text.specs.Order.{first_word}

-- a byte that is no blank is one of them
word-more : (bytes : List ℕ) (i : ℕ) → i < length bytes → (get_or bytes i 0 == 32) ≡ false → take i bytes ++ first_word (drop i bytes) ≡ take (suc i) bytes ++ first_word (drop (suc i) bytes)
word-more [] i within other = absurd (omega (arith, within))
word-more (b ∷ bytes) zero within other = ap (λ here. if here then [] else b ∷ first_word bytes) other
word-more (b ∷ bytes) (suc i) within other = ap (λ xs. b ∷ xs) (word-more bytes i (omega (arith, within)) other)

pub word-next : (bytes : List ℕ) (i : ℕ) → i < length bytes → (get_or bytes i 0 == 32) ≡ false → take i bytes ++ first_word (drop i bytes) ≡ take (i + 1) bytes ++ first_word (drop (i + 1) bytes)
word-next bytes i within other = rw add-one (word-more bytes i within other)

-- at a blank they end
pub word-ends : (bytes : List ℕ) (i : ℕ) → (get_or bytes i 0 == 32) ≡ true → first_word (drop i bytes) ≡ []
word-ends [] zero is = refl
word-ends [] (suc i) is = refl
word-ends (b ∷ bytes) zero is = ap (λ here. if here then [] else b ∷ first_word bytes) is
word-ends (b ∷ bytes) (suc i) is = word-ends bytes i is

-- behind the last byte they end
pub word-over : (bytes : List ℕ) (i : ℕ) → length bytes ≤ i → first_word (drop i bytes) ≡ []
word-over [] zero over = refl
word-over [] (suc i) over = refl
word-over (b ∷ bytes) zero over = absurd (omega (arith, over))
word-over (b ∷ bytes) (suc i) over = word-over bytes i (omega (arith, over))

-- a text whose last byte is a newline is a line's, where its front is the line
pub line-of : (text line front : List ℕ) (last : ℕ) (P : Type 0) → text ≡ front ++ last ∷ [] → last ≡ 10 → P ↔ (front ≡ line) → P ↔ (text ≡ line ++ 10 ∷ [])
line-of text line front last P is newline same =
    let whole : text ≡ front ++ 10 ∷ [] = is ∙ ap (λ b. front ++ b ∷ []) newline in
    (λ p. whole ∙ ap (λ l. l ++ 10 ∷ []) (same.0 p), λ e. same.1 (append_cancel_right front line (10 ∷ []) (sym whole ∙ e)))
