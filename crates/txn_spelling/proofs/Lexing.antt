-- The token at the front of bytes that a byte of another kind ends.
use Rattle.std.proofs.Common.{◌≡◌, ℕ, ◌+◌, ◌<◌, ◌≤◌, ◌==◌, ◌&&◌, ◌||◌, Bool, true, false, cond, List, [], ◌∷◌, ◌++◌, length, take, drop, map, None, refl, sym, ap, ◌∙◌, subst, arith, append_assoc, length-append}
use Rattle.std.specs.Prelude.{nat_le}
use Rattle.std.specs.Char.{is_ascii_lowercase, is_ascii_digit}
use Rattle.std.specs.List.{prefix_len, list_all}
use Rattle.std.specs.Option.{option_map_or}
use Rattle.std.proofs.lemmas.Bool.{leb-true, ne_eqb}
use Rattle.std.proofs.lemmas.List.{take_at, drop_at}
use Rattle.txn_names.specs.Word.{is_word_byte}
use Rattle.txn_names.specs.Tables.{Named}
use Rattle.txn_tokens.specs.declared.front.Front.{Front}
use Rattle.txn_tokens.specs.declared.token.Token.{Token}
use Rattle.txn_tokens.specs.declared.token.Token.TheVariants as t
use Rattle.txn_tokens.specs.Bytes.{is_blank}
use Rattle.txn_tokens.specs.Number.{capped_number}
use Rattle.txn_tokens.specs.Front.{word_token, sign_front, short_sign, long_sign, word_front, number_front, front_of}
use Rattle.txn_tokens.specs.Tokens.{tokens_from}
use Rattle.txn_tokens.proofs.Runs.{next_some}
use Rattle.txn_syntax.specs.Reads.{token_of}
use Rattle.txn_syntax.proofs.Measured.{both_true}

-- no blank is as great
not_blank : (byte : ℕ) → 33 ≤ byte → is_blank byte ≡ false
not_blank byte le =
    ap (λ b. b || (byte == 13) || (byte == 32)) (ne_eqb byte 9 (λ e. omega (arith, e, le))) ∙ ap (λ b. b || (byte == 32)) (ne_eqb byte 13 (λ e. omega (arith, e, le))) ∙ ne_eqb byte 32 (λ e. omega (arith, e, le))

lower_by : (byte : ℕ) (b : Bool) → nat_le 97 byte ≡ b → byte < 97 → (b && nat_le byte 122) ≡ false
lower_by byte true is lt = let le = leb-true 97 byte is in absurd (omega (arith, le, lt))
lower_by byte false is lt = refl

not_lower : (byte : ℕ) → byte < 97 → is_ascii_lowercase byte ≡ false
not_lower byte lt = lower_by byte (nat_le 97 byte) refl lt

-- a run ends where a byte of another kind follows
run_len : (p : ℕ → Bool) (xs : List ℕ) (d : ℕ) (rest : List ℕ) → list_all p xs ≡ true → p d ≡ false → prefix_len p (xs ++ d ∷ rest) ≡ length xs
run_len p [] d rest all stop = ap (λ b. cond b (1 + prefix_len p rest) 0) stop
run_len p (x ∷ xs) d rest all stop =
    let both = both_true (p x) (list_all p xs) all in
    ap (λ b. cond b (1 + prefix_len p (xs ++ d ∷ rest)) 0) both.0 ∙ omega (arith, run_len p xs d rest both.1 stop)

module _ (names : List Named) where
  -- what bytes spell
  abbrev pub kinds : ℕ → List ℕ → List Token
  kinds at bytes = map token_of (tokens_from names at 0 bytes)

  -- bytes begin with tokens, and go on with the rest
  pub record Goes (bytes rest : List ℕ) (ts : List Token) : Type 0 where
    pub go : (at : ℕ) → (next : ℕ) × (kinds at bytes ≡ ts ++ kinds next rest)

  pub goes_then : {a b c : List ℕ} {s u : List Token} → Goes a b s → Goes b c u → Goes a c (s ++ u)
  goes_then {c = c} {s = s} {u = u} first second =
      record {
        go = λ at.
            let one = first.go at in
            let two = second.go one.0 in
            (two.0, one.1 ∙ ap (λ ts. s ++ ts) two.1 ∙ sym (append_assoc s u (kinds two.0 c)));
      }

  front_token : (first : ℕ) (after : List ℕ) (front : Front) → is_blank first ≡ false → front ≡ front_of names first after → 1 ≤ front.len → front.len ≤ length (first ∷ after) → Goes (first ∷ after) (drop front.len (first ∷ after)) (front.token ∷ [])
  front_token first after front is_not value least within =
      let none : 0 ≡ prefix_len is_blank (first ∷ after) = sym (ap (λ b. cond b (1 + prefix_len is_blank after) 0) is_not) in
      record { go = λ at. (at + 0 + front.len, ap (map token_of) (next_some names at (first ∷ after) 0 (first ∷ after) front none refl (ne_eqb (length (first ∷ after)) 0 (λ e. omega (arith, e))) value least within)) }

  -- a word
  pub goes_word : (first : ℕ) (more : List ℕ) (d : ℕ) (rest : List ℕ) → is_ascii_lowercase first ≡ true → list_all is_word_byte (first ∷ more) ≡ true → is_word_byte d ≡ false → Goes (first ∷ (more ++ d ∷ rest)) (d ∷ rest) (word_token names (first ∷ more) ∷ [])
  goes_word first more d rest lower all stop =
      let xs : List ℕ = first ∷ more in
      let bytes : List ℕ = first ∷ (more ++ d ∷ rest) in
      let run : prefix_len is_word_byte bytes ≡ length xs = run_len is_word_byte xs d rest all stop in
      let front : Front = record { token = word_token names xs; len = length xs } in
      let least = leb-true 97 first (both_true (nat_le 97 first) (nat_le first 122) lower).0 in
      let taken : take (length xs) bytes ≡ xs = take_at xs (d ∷ rest) (length xs) refl in
      let value : front ≡ front_of names first (more ++ d ∷ rest) =
      sym (ap (λ b. cond b (word_front names bytes) (cond (is_ascii_digit first) (number_front bytes) (sign_front first (more ++ d ∷ rest)))) lower
      ∙ ap {A = ℕ} {B = Front} (λ n. record { token = word_token names (take n bytes); len = n }) run
      ∙ ap {A = List ℕ} {B = Front} (λ w. record { token = word_token names w; len = length xs }) taken) in
      subst (λ ys. Goes bytes ys (word_token names xs ∷ [])) (drop_at xs (d ∷ rest) (length xs) refl)
      (front_token first (more ++ d ∷ rest) front (not_blank first (omega (arith, least))) value (omega arith) (omega (arith, length-append xs (d ∷ rest))))

  -- a number
  pub goes_number : (first : ℕ) (more : List ℕ) (d : ℕ) (rest : List ℕ) → list_all is_ascii_digit (first ∷ more) ≡ true → is_ascii_digit d ≡ false → Goes (first ∷ (more ++ d ∷ rest)) (d ∷ rest) (t.Number (capped_number (first ∷ more)) ∷ [])
  goes_number first more d rest all stop =
      let xs : List ℕ = first ∷ more in
      let bytes : List ℕ = first ∷ (more ++ d ∷ rest) in
      let run : prefix_len is_ascii_digit bytes ≡ length xs = run_len is_ascii_digit xs d rest all stop in
      let front : Front = record { token = t.Number (capped_number xs); len = length xs } in
      let digit = (both_true (is_ascii_digit first) (list_all is_ascii_digit more) all).0 in
      let range = both_true (nat_le 48 first) (nat_le first 57) digit in
      let low = leb-true 48 first range.0 in
      let high = leb-true first 57 range.1 in
      let taken : take (length xs) bytes ≡ xs = take_at xs (d ∷ rest) (length xs) refl in
      let value : front ≡ front_of names first (more ++ d ∷ rest) =
      sym (ap (λ b. cond b (word_front names bytes) (cond (is_ascii_digit first) (number_front bytes) (sign_front first (more ++ d ∷ rest)))) (not_lower first (omega (arith, high)))
      ∙ ap (λ b. cond b (number_front bytes) (sign_front first (more ++ d ∷ rest))) digit
      ∙ ap {A = ℕ} {B = Front} (λ n. record { token = t.Number (capped_number (take n bytes)); len = n }) run
      ∙ ap {A = List ℕ} {B = Front} (λ w. record { token = t.Number (capped_number w); len = length xs }) taken) in
      subst (λ ys. Goes bytes ys (t.Number (capped_number xs) ∷ [])) (drop_at xs (d ∷ rest) (length xs) refl)
      (front_token first (more ++ d ∷ rest) front (not_blank first (omega (arith, low))) value (omega arith) (omega (arith, length-append xs (d ∷ rest))))

  -- a sign that `=` doesn't make longer
  short : (first : ℕ) (rest : List ℕ) → long_sign first ≡ None → sign_front first rest ≡ record { token = short_sign first; len = 1 }
  short first [] is = refl
  short first (second ∷ rest) is = by (second == 61)
    where
      by : (b : Bool) → option_map_or {U = Front} (λ (token : Token). record { token = token; len = 2 }) (cond b (long_sign first) None) (record { token = short_sign first; len = 1 }) ≡ record { token = short_sign first; len = 1 }
      by true = ap (λ o. option_map_or {U = Front} (λ (token : Token). record { token = token; len = 2 }) o (record { token = short_sign first; len = 1 })) is
      by false = refl

  pub goes_open_index : (rest : List ℕ) → Goes (91 ∷ rest) rest (t.OpenIndex ∷ [])
  goes_open_index rest = front_token 91 rest (record { token = t.OpenIndex; len = 1 }) refl (sym (short 91 rest refl)) (omega arith) (omega arith)

  pub goes_minus : (rest : List ℕ) → Goes (45 ∷ rest) rest (short_sign 45 ∷ [])
  goes_minus rest = front_token 45 rest (record { token = short_sign 45; len = 1 }) refl (sym (short 45 rest refl)) (omega arith) (omega arith)
