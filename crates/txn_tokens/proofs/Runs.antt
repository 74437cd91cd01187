-- Runs of bytes of one kind, and what follows them.
use Rattle.std.proofs.Common.{◌≡◌, ℕ, zero, suc, ◌+◌, ◌-◌, ◌<◌, ◌≤◌, ◌&&◌, ◌==◌, Bool, true, false, cond, IsTrue, List, [], ◌∷◌, length, get_or, take, drop, refl, sym, ap, ◌∙◌, subst, arith}
use Rattle.std.specs.Char.{is_ascii_digit}
use Rattle.std.specs.List.{prefix_len, list_all}
use Rattle.std.proofs.lemmas.Bool.{eqb-true}
use Rattle.txn_names.specs.Tables.{Named}
use Rattle.txn_tokens.specs.declared.front.Front.{Front}
use Rattle.txn_tokens.specs.Bytes.{is_blank}
use Rattle.txn_tokens.specs.Front.{front_of}
use Rattle.txn_tokens.specs.Tokens.{tokens_from}

one_more : (n : ℕ) → 1 + n ≡ suc n
one_more n = omega arith

module _ (p : ℕ → Bool) (byte : ℕ) (bytes : List ℕ) (rest : list_all p (take (prefix_len p bytes) bytes) ≡ true) where
  all_of : (is : Bool) → p byte ≡ is → list_all p (take (cond is (1 + prefix_len p bytes) 0) (byte ∷ bytes)) ≡ true
  all_of true is_so =
      ap (λ n. list_all p (take n (byte ∷ bytes))) (one_more (prefix_len p bytes)) ∙ ap (λ b. b && list_all p (take (prefix_len p bytes) bytes)) is_so ∙ rest
  all_of false is_not = refl

-- the bytes of a run all pass
all_of_run : (p : ℕ → Bool) (bytes : List ℕ) → list_all p (take (prefix_len p bytes) bytes) ≡ true
all_of_run p [] = refl
all_of_run p (byte ∷ bytes) = all_of p byte bytes (all_of_run p bytes) (p byte) refl

pub digits_of_run : (bytes : List ℕ) → IsTrue (list_all is_ascii_digit (take (prefix_len is_ascii_digit bytes) bytes))
digits_of_run bytes = all_of_run is_ascii_digit bytes

-- bytes of a token are passed over
passed_over : (names : List Named) (at taken : ℕ) (bytes : List ℕ) → taken ≤ length bytes → tokens_from names at taken bytes ≡ tokens_from names (at + taken) 0 (drop taken bytes)
passed_over names at zero bytes le = ap (λ n. tokens_from names n 0 bytes) (omega arith)
passed_over names at (suc taken) [] le = absurd (omega arith)
passed_over names at (suc taken) (byte ∷ bytes) le =
    let place : at + 1 + taken ≡ at + suc taken = omega arith in
    passed_over names (at + 1) taken bytes (omega arith) ∙ ap (λ n. tokens_from names n 0 (drop taken bytes)) place

module _ (names : List Named) (at : ℕ) (byte : ℕ) (bytes : List ℕ)
    (rest : tokens_from names (at + 1) 0 bytes ≡ tokens_from names (at + 1 + prefix_len is_blank bytes) 0 (drop (prefix_len is_blank bytes) bytes)) where
  blanks_of : (is : Bool) → is_blank byte ≡ is → tokens_from names at 0 (byte ∷ bytes) ≡ tokens_from names (at + cond is (1 + prefix_len is_blank bytes) 0) 0 (drop (cond is (1 + prefix_len is_blank bytes) 0) (byte ∷ bytes))
  blanks_of true is_so =
      let place : at + 1 + prefix_len is_blank bytes ≡ at + (1 + prefix_len is_blank bytes) = omega arith in
      ap (λ b. cond b (tokens_from names (at + 1) 0 bytes) (record { at = at; token = (front_of names byte bytes).token } ∷ tokens_from names (at + 1) ((front_of names byte bytes).len - 1) bytes)) is_so
      ∙ rest ∙ ap (λ n. tokens_from names n 0 (drop (prefix_len is_blank bytes) bytes)) place ∙ ap (λ n. tokens_from names (at + (1 + prefix_len is_blank bytes)) 0 (drop n (byte ∷ bytes))) (sym (one_more (prefix_len is_blank bytes)))
  blanks_of false is_not = ap (λ n. tokens_from names n 0 (byte ∷ bytes)) (omega arith)

-- blanks before a token are passed over
pub blanks_before : (names : List Named) (at : ℕ) (bytes : List ℕ) → tokens_from names at 0 bytes ≡ tokens_from names (at + prefix_len is_blank bytes) 0 (drop (prefix_len is_blank bytes) bytes)
blanks_before names at [] = refl
blanks_before names at (byte ∷ bytes) = blanks_of names at byte bytes (blanks_before names (at + 1) bytes) (is_blank byte) refl

module _ (byte : ℕ) (bytes : List ℕ) (rest : (first : ℕ) (after : List ℕ) → drop (prefix_len is_blank bytes) bytes ≡ first ∷ after → is_blank first ≡ false) where
  none_of : (is : Bool) → is_blank byte ≡ is → (first : ℕ) (after : List ℕ) → drop (cond is (1 + prefix_len is_blank bytes) 0) (byte ∷ bytes) ≡ first ∷ after → is_blank first ≡ false
  none_of true is_so first after is = rest first after (ap (λ n. drop n (byte ∷ bytes)) (sym (one_more (prefix_len is_blank bytes))) ∙ is)
  none_of false is_not first after is = let same : byte ≡ first = cc in sym (ap is_blank same) ∙ is_not

-- what follows blanks is none
blank_after : (bytes : List ℕ) (first : ℕ) (after : List ℕ) → drop (prefix_len is_blank bytes) bytes ≡ first ∷ after → is_blank first ≡ false
blank_after [] first after is = cc
blank_after (byte ∷ bytes) first after is = none_of byte bytes (blank_after bytes) (is_blank byte) refl first after is

-- a token at the front
first_token : (names : List Named) (at first : ℕ) (after : List ℕ) → is_blank first ≡ false → 1 ≤ (front_of names first after).len → (front_of names first after).len ≤ length (first ∷ after)
    → tokens_from names at 0 (first ∷ after) ≡ record { at = at; token = (front_of names first after).token } ∷ tokens_from names (at + (front_of names first after).len) 0 (drop (front_of names first after).len (first ∷ after))
first_token names at first after is_not some within =
    let len = (front_of names first after).len in
    let place : at + 1 + (len - 1) ≡ at + len = omega arith in
    let count : len ≡ suc (len - 1) = omega arith in
    ap (λ b. cond b (tokens_from names (at + 1) 0 after) (record { at = at; token = (front_of names first after).token } ∷ tokens_from names (at + 1) (len - 1) after)) is_not
    ∙ ap (λ ts. record { at = at; token = (front_of names first after).token } ∷ ts)
    (passed_over names (at + 1) (len - 1) after (omega arith) ∙ ap (λ n. tokens_from names n 0 (drop (len - 1) after)) place ∙ ap (λ n. tokens_from names (at + len) 0 (drop n (first ∷ after))) (sym count))

-- a test that a list is empty
pub length_none : (xs : List ℕ) → (length xs == 0) ≡ true → xs ≡ []
length_none [] is = refl
length_none (x ∷ xs) is = let none : length (x ∷ xs) ≡ 0 = eqb-true (length (x ∷ xs)) 0 is in absurd (omega arith)

length_some : (xs : List ℕ) → (length xs == 0) ≡ false → 0 < length xs
length_some [] is = cc
length_some (x ∷ xs) is = omega arith

-- nothing but blanks has no token
pub next_none : (names : List Named) (at : ℕ) (bytes : List ℕ) (blanks : ℕ) (rest : List ℕ) → blanks ≡ prefix_len is_blank bytes → rest ≡ drop blanks bytes → (length rest == 0) ≡ true → tokens_from names at 0 bytes ≡ []
next_none names at bytes blanks rest run is empty =
    let n = at + prefix_len is_blank bytes in
    let nothing : drop (prefix_len is_blank bytes) bytes ≡ [] = ap (λ k. drop k bytes) (sym run) ∙ sym is ∙ length_none rest empty in
    blanks_before names at bytes ∙ ap (λ xs. tokens_from names n 0 xs) nothing

some_of : (names : List Named) (at : ℕ) (bytes rest : List ℕ) → drop (prefix_len is_blank bytes) bytes ≡ rest → (front : Front) → 0 < length rest
    → front ≡ front_of names (get_or rest 0 0) (drop 1 rest) → 1 ≤ front.len → front.len ≤ length rest
    → tokens_from names at 0 bytes ≡ record { at = at + prefix_len is_blank bytes; token = front.token } ∷ tokens_from names (at + prefix_len is_blank bytes + front.len) 0 (drop front.len rest)
some_of names at bytes [] is front lt value least within = absurd (omega arith)
some_of names at bytes (first ∷ after) is front lt value least within =
    let n = at + prefix_len is_blank bytes in
    blanks_before names at bytes ∙ ap (λ xs. tokens_from names n 0 xs) is
    ∙ subst (λ (f : Front). tokens_from names n 0 (first ∷ after) ≡ record { at = n; token = f.token } ∷ tokens_from names (n + f.len) 0 (drop f.len (first ∷ after))) (sym value)
    (first_token names n first after (blank_after bytes first after is) (subst (λ (f : Front). 1 ≤ f.len) value least) (subst (λ (f : Front). f.len ≤ length (first ∷ after)) value within))

-- the first token behind blanks
pub next_some : (names : List Named) (at : ℕ) (bytes : List ℕ) (blanks : ℕ) (rest : List ℕ) (front : Front) → blanks ≡ prefix_len is_blank bytes → rest ≡ drop blanks bytes
    → (length rest == 0) ≡ false → front ≡ front_of names (get_or rest 0 0) (drop 1 rest) → 1 ≤ front.len → front.len ≤ length rest
    → tokens_from names at 0 bytes ≡ record { at = at + blanks; token = front.token } ∷ tokens_from names (at + blanks + front.len) 0 (drop front.len rest)
next_some names at bytes blanks rest front run is some value least within =
    some_of names at bytes rest (ap (λ k. drop k bytes) (sym run) ∙ sym is) front (length_some rest some) value least within
    ∙ ap (λ k. record { at = at + k; token = front.token } ∷ tokens_from names (at + k + front.len) 0 (drop front.len rest)) (sym run)
