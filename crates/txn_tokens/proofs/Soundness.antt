-- The tokens of bytes are sound.
use Rattle.std.proofs.Common.{◌≡◌, ℕ, zero, suc, ◌+◌, ◌-◌, ◌<◌, ◌≤◌, ◌==◌, ◌&&◌, Bool, true, false, cond, nat_le, List, [], ◌∷◌, take, map, codes, Option, None, Some, refl, subst, arith}
use Rattle.std.specs.Char.{is_ascii_digit}
use Rattle.std.specs.List.{prefix_len}
use Rattle.std.specs.Option.{option_map_or}
use Rattle.std.specs.Str.{bytes_eq}
use Rattle.std.specs.Char.{is_ascii_lowercase}
use Rattle.std.proofs.lemmas.Bool.{leb-true}
use Rattle.txn_runs.specs.declared.program.TableRef.{TableRef}
use Rattle.txn_runs.specs.declared.program.Op.TheVariants.{Add, Sub, Mul, Div, Rem, Min, Max}
use Rattle.txn_runs.specs.declared.program.Cmp.TheVariants.{Eq, Ne, Lt, Le, Gt, Ge}
use Rattle.txn_names.specs.Word.{is_word_byte, is_reserved, register_number, register_of}
use Rattle.txn_names.specs.Tables.{Named, items_of, table_named}
use Rattle.txn_names.proofs.TableLemmas.{table_named_within}
use Rattle.txn_tokens.specs.declared.front.Front.{Front}
use Rattle.txn_tokens.specs.declared.token.Token.{Token}
use Rattle.txn_tokens.specs.declared.token.Token.TheVariants.{Register, Name, Op, Cmp, If, Else, Loop, Emit, Fail, OpenBlock, CloseBlock, OpenIndex, CloseIndex, Semicolon, Assign, Stray}
use Rattle.txn_tokens.specs.declared.token.Placed.{Placed}
use Rattle.txn_tokens.specs.Bytes.{is_blank}
use Rattle.txn_tokens.specs.Front.{other_word, word_token, long_sign, mark, short_sign, sign_front, word_front, number_front, front_of}
use Rattle.txn_tokens.specs.Sound.{IsSound, AreSound}
use Rattle.txn_tokens.specs.Tokens.{tokens_from, tokens}

abbrev no_token : Option Token
no_token = None

both : (a b : Bool) → (a && b) ≡ true → (a ≡ true) × (b ≡ true)
both true b is = (refl, is)
both false b is = cc

some_if : (b : Bool) (n m : ℕ) → cond b (Some n) None ≡ Some m → (b ≡ true) × (n ≡ m)
some_if true n m is = (refl, cc)
some_if false n m is = cc

number_below : (digits : List ℕ) (n : ℕ) → register_number digits ≡ Some n → n < 16
number_below [] n is = cc
number_below (digit ∷ []) n is =
    let s = some_if (is_ascii_digit digit) (digit - 48) n is in
    let range = both (nat_le 48 digit) (nat_le digit 57) s.0 in
    omega (arith, s.1, leb-true digit 57 range.1)
number_below (tens ∷ digit ∷ []) n is =
    let s = some_if ((tens == 49) && nat_le 48 digit && nat_le digit 53) (digit - 38) n is in
    let range = both ((tens == 49) && nat_le 48 digit) (nat_le digit 53) s.0 in
    omega (arith, s.1, leb-true digit 53 range.1)
number_below (a ∷ b ∷ c ∷ digits) n is = cc

register_below : (word : List ℕ) (n : ℕ) → register_of word ≡ Some n → n < 16
register_below [] n is = cc
register_below (byte ∷ digits) n is = by (byte == 114) is
  where
    by : (b : Bool) → cond b (register_number digits) None ≡ Some n → n < 16
    by true is = number_below digits n is
    by false is = cc

module _ (items : ℕ) where
  if_sound : (b : Bool) (x y : Token) → IsSound items x → IsSound items y → IsSound items (cond b x y)
  if_sound true x y hx hy = hx
  if_sound false x y hx hy = hy

  register_sound : (o : Option ℕ) (other : Token) → ((n : ℕ) → o ≡ Some n → n < 16) → IsSound items other → IsSound items (option_map_or Register o other)
  register_sound None other below h = h
  register_sound (Some n) other below h = below n refl

  name_sound : (o : Option TableRef) → ((table : TableRef) → o ≡ Some table → table.base + table.size ≤ items) → IsSound items (Name o)
  name_sound None within = tt
  name_sound (Some table) within = within table refl

  mark_sound : (byte : ℕ) → IsSound items (mark byte)
  mark_sound byte =
      if_sound (byte == 123) OpenBlock _ tt (if_sound (byte == 125) CloseBlock _ tt (if_sound (byte == 91) OpenIndex _ tt (if_sound (byte == 93) CloseIndex _ tt (if_sound (byte == 59) Semicolon _ tt (if_sound (byte == 61) Assign Stray tt tt)))))

module _ (names : List Named) where
  word_sound : (word : List ℕ) → IsSound (items_of names) (other_word names word)
  word_sound word =
      register_sound (items_of names) (register_of word) _ (register_below word)
      (if_sound (items_of names) (is_reserved word) Stray (Name (table_named names word)) tt (name_sound (items_of names) (table_named names word) (table_named_within names word)))

  text_sound : (word : List ℕ) → IsSound (items_of names) (word_token names word)
  text_sound word =
      let items = items_of names in
      if_sound items (bytes_eq word (codes "if")) If _ tt
      (if_sound items (bytes_eq word (codes "else")) Else _ tt
      (if_sound items (bytes_eq word (codes "loop")) Loop _ tt
      (if_sound items (bytes_eq word (codes "emit")) Emit _ tt
      (if_sound items (bytes_eq word (codes "fail")) Fail _ tt
      (if_sound items (bytes_eq word (codes "min")) (Op Min) _ tt (if_sound items (bytes_eq word (codes "max")) (Op Max) _ tt (word_sound word)))))))

  sign_sound : (first : ℕ) → IsSound (items_of names) (short_sign first)
  sign_sound first =
      let items = items_of names in
      if_sound items (first == 43) (Op Add) _ tt
      (if_sound items (first == 45) (Op Sub) _ tt
      (if_sound items (first == 42) (Op Mul) _ tt
      (if_sound items (first == 47) (Op Div) _ tt
      (if_sound items (first == 37) (Op Rem) _ tt (if_sound items (first == 60) (Cmp Lt) _ tt (if_sound items (first == 62) (Cmp Gt) (mark first) tt (mark_sound items first)))))))

  long_sound : (o : Option Token) (first : ℕ) → ((token : Token) → o ≡ Some token → IsSound (items_of names) token)
      → IsSound (items_of names) (option_map_or {U = Front} (λ (token : Token). record { token = token; len = 2 }) o (record { token = short_sign first; len = 1 })).token
  long_sound None first h = sign_sound first
  long_sound (Some token) first h = h token refl

  option_sound : (b : Bool) (x : Token) (o : Option Token) → IsSound (items_of names) x → ((token : Token) → o ≡ Some token → IsSound (items_of names) token) → (token : Token) → cond b (Some x) o ≡ Some token → IsSound (items_of names) token
  option_sound true x o hx ho token is = let same : x ≡ token = cc in subst (IsSound (items_of names)) same hx
  option_sound false x o hx ho token is = ho token is

  none_sound : (token : Token) → no_token ≡ Some token → IsSound (items_of names) token
  none_sound token is = cc

  long_sign_sound : (first : ℕ) (token : Token) → long_sign first ≡ Some token → IsSound (items_of names) token
  long_sign_sound first =
      option_sound (first == 61) (Cmp Eq) _ tt (option_sound (first == 33) (Cmp Ne) _ tt (option_sound (first == 60) (Cmp Le) _ tt (option_sound (first == 62) (Cmp Ge) no_token tt none_sound)))

  only_if : (b : Bool) (o : Option Token) → ((token : Token) → o ≡ Some token → IsSound (items_of names) token) → (token : Token) → cond b o no_token ≡ Some token → IsSound (items_of names) token
  only_if true o h token is = h token is
  only_if false o h token is = cc

  sign_front_sound : (first : ℕ) (bytes : List ℕ) → IsSound (items_of names) (sign_front first bytes).token
  sign_front_sound first [] = sign_sound first
  sign_front_sound first (second ∷ bytes) = long_sound (cond (second == 61) (long_sign first) no_token) first (only_if (second == 61) (long_sign first) (long_sign_sound first))

  front_if : (b : Bool) (x y : Front) → IsSound (items_of names) x.token → IsSound (items_of names) y.token → IsSound (items_of names) (cond b x y).token
  front_if true x y hx hy = hx
  front_if false x y hx hy = hy

  front_sound : (first : ℕ) (bytes : List ℕ) → IsSound (items_of names) (front_of names first bytes).token
  front_sound first bytes =
      front_if (is_ascii_lowercase first) (word_front names (first ∷ bytes)) _ (text_sound (take (prefix_len is_word_byte (first ∷ bytes)) (first ∷ bytes)))
      (front_if (is_ascii_digit first) (number_front (first ∷ bytes)) (sign_front first bytes) tt (sign_front_sound first bytes))

  abbrev kinds : List Placed → List Token
  kinds placed = map (λ (p : Placed). p.token) placed

  sound_if : (b : Bool) (xs ys : List Placed) → AreSound (items_of names) (kinds xs) → AreSound (items_of names) (kinds ys) → AreSound (items_of names) (kinds (cond b xs ys))
  sound_if true xs ys hx hy = hx
  sound_if false xs ys hx hy = hy

  from_sound : (at taken : ℕ) (bytes : List ℕ) → AreSound (items_of names) (kinds (tokens_from names at taken bytes))
  from_sound at taken [] = tt
  from_sound at (suc taken) (byte ∷ bytes) = from_sound (at + 1) taken bytes
  from_sound at zero (byte ∷ bytes) =
      sound_if (is_blank byte) (tokens_from names (at + 1) 0 bytes) _ (from_sound (at + 1) 0 bytes) (front_sound byte bytes, from_sound (at + 1) ((front_of names byte bytes).len - 1) bytes)

-- the tokens of bytes are sound over the tables that they may speak of
pub tokens_sound : (names : List Named) (bytes : List ℕ) → AreSound (items_of names) (map (λ (p : Placed). p.token) (tokens names bytes))
tokens_sound names bytes = from_sound names 0 0 bytes
