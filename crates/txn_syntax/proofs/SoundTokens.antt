-- Each token of bytes is sound.
use Rattle.std.proofs.Common.{◌≡◌, ℕ, zero, suc, ◌+◌, ◌-◌, ◌≤◌, ◌<◌, List, [], ◌∷◌, ◌++◌, map, take, Bool, true, false, Option, None, Some, refl, arith}
use Rattle.std.specs.Prelude.{◌==◌, ◌&&◌, if◌then◌else◌, nat_le, codes}
use Rattle.std.specs.Char.{is_ascii_lowercase, is_ascii_digit}
use Rattle.std.specs.List.{prefix_len}
use Rattle.std.specs.Str.{bytes_eq}
use Rattle.std.specs.Option.{option_map_or}
use Rattle.std.proofs.lemmas.Bool.{leb-true}
use Rattle.std.proofs.lemmas.List.Sums.{sum_by-cons}
use Rattle.txn_runs.specs.declared.program.TableRef.{TableRef}
use Rattle.txn_names.specs.Word.{is_word_byte, is_reserved, register_number, register_of}
use Rattle.txn_names.specs.Tables.{Named, items_of, table_from, table_named}
use Rattle.txn_tokens.specs.declared.token.Token.{Token}
use Rattle.txn_tokens.specs.declared.token.Token.TheVariants as t
use Rattle.txn_tokens.specs.declared.token.Placed.{Placed}
use Rattle.txn_tokens.specs.declared.front.Front.{Front}
use Rattle.txn_tokens.specs.Bytes.{is_blank}
use Rattle.txn_tokens.specs.Front.{word_token, long_sign, mark, short_sign, sign_front, front_of}
use Rattle.txn_tokens.specs.Tokens.{tokens_from}
use Rattle.txn_tokens.specs.Sound.{IsSound}
use Rattle.txn_syntax.specs.Reads.{token_of}

both_true : (a b : Bool) → (a && b) ≡ true → (a ≡ true) × (b ≡ true)
both_true true b h = (refl, h)
both_true false b h = cc

one_digit : (digit n : ℕ) (b : Bool) → is_ascii_digit digit ≡ b → (if b then Some (digit - 48) else None) ≡ Some n → n < 16
one_digit digit n true is h =
    let below : digit ≤ 57 = leb-true digit 57 (both_true (nat_le 48 digit) (nat_le digit 57) is).1 in
    let same : digit - 48 ≡ n = cc in
    omega arith
one_digit digit n false is h = cc

two_digits : (tens digit n : ℕ) (b : Bool) → ((tens == 49) && nat_le 48 digit && nat_le digit 53) ≡ b → (if b then Some (digit - 38) else None) ≡ Some n → n < 16
two_digits tens digit n true is h =
    let below : digit ≤ 53 = leb-true digit 53 (both_true ((tens == 49) && nat_le 48 digit) (nat_le digit 53) is).1 in
    let same : digit - 38 ≡ n = cc in
    omega arith
two_digits tens digit n false is h = cc

small_number : (digits : List ℕ) (n : ℕ) → register_number digits ≡ Some n → n < 16
small_number [] n h = cc
small_number (digit ∷ []) n h = one_digit digit n (is_ascii_digit digit) refl h
small_number (tens ∷ digit ∷ []) n h = two_digits tens digit n ((tens == 49) && nat_le 48 digit && nat_le digit 53) refl h
small_number (a ∷ b ∷ d ∷ ds) n h = cc

small_if : (b : Bool) (digits : List ℕ) (n : ℕ) → (if b then register_number digits else None) ≡ Some n → n < 16
small_if true digits n h = small_number digits n h
small_if false digits n h = cc

small_register : (word : List ℕ) (n : ℕ) → register_of word ≡ Some n → n < 16
small_register [] n h = cc
small_register (byte ∷ digits) n h = small_if (byte == 114) digits n h

table_if : (b : Bool) (here : TableRef) (later : Option TableRef) (table : TableRef) (most : ℕ) → here.base + here.size ≤ most → (later ≡ Some table → table.base + table.size ≤ most) → (if b then Some here else later) ≡ Some table → table.base + table.size ≤ most
table_if true here later table most one more h = let same : here ≡ table = cc in rw same at one
table_if false here later table most one more h = more h

table_within : (number base : ℕ) (tables : List Named) (name : List ℕ) (table : TableRef) → table_from number base tables name ≡ Some table → table.base + table.size ≤ base + items_of tables
table_within number base [] name table h = cc
table_within number base (first ∷ tables) name table h =
    table_if (bytes_eq name first.0) (record { number = number; base = base; size = first.1 }) (table_from (number + 1) (base + first.1) tables name) table (base + items_of (first ∷ tables)) (omega (arith, sum_by-cons (λ (table : Named). table.1) first tables))
    (λ later. omega (arith, sum_by-cons (λ (table : Named). table.1) first tables, table_within (number + 1) (base + first.1) tables name table later)) h

module _ (names : List Named) where
  if_sound : (b : Bool) (x y : Token) → IsSound (items_of names) x → IsSound (items_of names) y → IsSound (items_of names) (if b then x else y)
  if_sound true x y h k = h
  if_sound false x y h k = k

  name_sound : (table : Option TableRef) (word : List ℕ) → table_named names word ≡ table → IsSound (items_of names) (t.Name table)
  name_sound None word is = tt
  name_sound (Some table) word is = omega (arith, table_within 0 0 names word table is)

  other_sound : (register : Option ℕ) (word : List ℕ) → register_of word ≡ register → IsSound (items_of names) (option_map_or t.Register register (if is_reserved word then t.Stray else t.Name (table_named names word)))
  other_sound None word is = if_sound (is_reserved word) t.Stray (t.Name (table_named names word)) tt (name_sound (table_named names word) word refl)
  other_sound (Some n) word is = small_register word n is

  word_sound : (word : List ℕ) → IsSound (items_of names) (word_token names word)
  word_sound word =
      if_sound (bytes_eq word (codes "if")) _ _ tt
      (if_sound (bytes_eq word (codes "else")) _ _ tt
      (if_sound (bytes_eq word (codes "loop")) _ _ tt
      (if_sound (bytes_eq word (codes "emit")) _ _ tt
      (if_sound (bytes_eq word (codes "fail")) _ _ tt
      (if_sound (bytes_eq word (codes "min")) _ _ tt
      (if_sound (bytes_eq word (codes "max")) _ _ tt
      (other_sound (register_of word) word refl)))))))

  mark_sound : (byte : ℕ) → IsSound (items_of names) (mark byte)
  mark_sound byte =
      if_sound (byte == 123) _ _ tt (if_sound (byte == 125) _ _ tt (if_sound (byte == 91) _ _ tt (if_sound (byte == 93) _ _ tt (if_sound (byte == 59) _ _ tt (if_sound (byte == 61) _ _ tt tt)))))

  short_sound : (byte : ℕ) → IsSound (items_of names) (short_sign byte)
  short_sound byte =
      if_sound (byte == 43) _ _ tt (if_sound (byte == 45) _ _ tt (if_sound (byte == 42) _ _ tt (if_sound (byte == 47) _ _ tt (if_sound (byte == 37) _ _ tt (if_sound (byte == 60) _ _ tt (if_sound (byte == 62) _ _ tt (mark_sound byte)))))))

  abbrev MaybeSound : Option Token → Type 0
  MaybeSound None = Unit {0}
  MaybeSound (Some token) = IsSound (items_of names) token

  if_maybe : (b : Bool) (x y : Option Token) → MaybeSound x → MaybeSound y → MaybeSound (if b then x else y)
  if_maybe true x y h k = h
  if_maybe false x y h k = k

  long_sound : (byte : ℕ) → MaybeSound (long_sign byte)
  long_sound byte = if_maybe (byte == 61) _ _ tt (if_maybe (byte == 33) _ _ tt (if_maybe (byte == 60) _ _ tt (if_maybe (byte == 62) _ _ tt tt)))

  two_sound : (found : Option Token) (first : ℕ) → MaybeSound found → IsSound (items_of names) (option_map_or {U = Front} (λ (token : Token). record { token = token; len = 2 }) found (record { token = short_sign first; len = 1 })).token
  two_sound None first h = short_sound first
  two_sound (Some token) first h = h

  sign_sound : (first : ℕ) (bytes : List ℕ) → IsSound (items_of names) (sign_front first bytes).token
  sign_sound first [] = short_sound first
  sign_sound first (second ∷ bytes) = two_sound (if second == 61 then long_sign first else None) first (if_maybe (second == 61) _ _ (long_sound first) tt)

  front_if : (b : Bool) (x y : Front) → IsSound (items_of names) x.token → IsSound (items_of names) y.token → IsSound (items_of names) (if b then x else y).token
  front_if true x y h k = h
  front_if false x y h k = k

  front_sound : (first : ℕ) (bytes : List ℕ) → IsSound (items_of names) (front_of names first bytes).token
  front_sound first bytes =
      front_if (is_ascii_lowercase first) _ _ (word_sound (take (prefix_len is_word_byte (first ∷ bytes)) (first ∷ bytes)))
      (front_if (is_ascii_digit first) _ _ tt (sign_sound first bytes))

  -- each of a list of tokens is sound
  abbrev pub AreSound : List Token → Type 0
  AreSound [] = Unit {0}
  AreSound (token ∷ rest) = IsSound (items_of names) token × AreSound rest

  tokens_if : (b : Bool) (x y : List Placed) → AreSound (map token_of x) → AreSound (map token_of y) → AreSound (map token_of (if b then x else y))
  tokens_if true x y h k = h
  tokens_if false x y h k = k

  pub tokens_sound : (at taken : ℕ) (bytes : List ℕ) → AreSound (map token_of (tokens_from names at taken bytes))
  tokens_sound at taken [] = tt
  tokens_sound at (suc taken) (byte ∷ bytes) = tokens_sound (at + 1) taken bytes
  tokens_sound at zero (byte ∷ bytes) = tokens_if (is_blank byte) _ _ (tokens_sound (at + 1) 0 bytes) (front_sound byte bytes, tokens_sound (at + 1) ((front_of names byte bytes).len - 1) bytes)

  pub sound_front : (xs ys : List Token) → AreSound (xs ++ ys) → AreSound xs
  sound_front [] ys h = tt
  sound_front (x ∷ xs) ys h = (h.0, sound_front xs ys h.1)

  pub sound_back : (xs ys : List Token) → AreSound (xs ++ ys) → AreSound ys
  sound_back [] ys h = h
  sound_back (x ∷ xs) ys h = sound_back xs ys h.1
