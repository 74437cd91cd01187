-- Words of the program text: names, registers and reserved words.
use Rattle.std.specs.Prelude.{ℕ, ◌-◌, ◌==◌, ◌&&◌, ◌||◌, Bool, false, not, if◌then◌else◌, List, [], ◌∷◌, Option, None, Some, length, nat_le, codes}
use Rattle.std.specs.Char.{is_ascii_lowercase, is_ascii_digit}
use Rattle.std.specs.List.{list_all, list_any}
use Rattle.std.specs.Str.{bytes_eq}

-- what may stand in a word after its first byte: a lower-case letter, a digit or `_`
abbrev pub is_word_byte : ℕ → Bool
is_word_byte byte = is_ascii_lowercase byte || is_ascii_digit byte || (byte == 95)

-- a lower-case letter, then lower-case letters, digits and `_`
abbrev pub is_word : List ℕ → Bool
is_word [] = false
is_word (byte ∷ bytes) = is_ascii_lowercase byte && list_all is_word_byte bytes

-- the words that mean something of their own
abbrev pub keywords : List (List ℕ)
keywords = codes "if" ∷ codes "else" ∷ codes "loop" ∷ codes "emit" ∷ codes "fail" ∷ codes "min" ∷ codes "max" ∷ codes "sum" ∷ []

abbrev pub is_keyword : List ℕ → Bool
is_keyword word = list_any (bytes_eq word) keywords

-- `r`, then one digit or more and nothing else
abbrev pub is_numbered : List ℕ → Bool
is_numbered [] = false
is_numbered (byte ∷ []) = false
is_numbered (byte ∷ digit ∷ digits) = (byte == 114) && list_all is_ascii_digit (digit ∷ digits)

-- the number that a register's digits spell: 0 to 9 by one digit, 10 to 15 by two
abbrev pub register_number : List ℕ → Option ℕ
register_number (digit ∷ []) = if is_ascii_digit digit then Some (digit - 48) else None
register_number (tens ∷ digit ∷ []) = if (tens == 49) && nat_le 48 digit && nat_le digit 53 then Some (digit - 38) else None
register_number digits = None

-- the register that a word spells: `r0` to `r15` in exactly these spellings
abbrev pub register_of : List ℕ → Option ℕ
register_of [] = None
register_of (byte ∷ digits) = if byte == 114 then register_number digits else None

-- a word that can't name a table
abbrev pub is_reserved : List ℕ → Bool
is_reserved word = is_keyword word || is_numbered word

abbrev pub is_name : List ℕ → Bool
is_name bytes = is_word bytes && not (is_reserved bytes)

-- a name that a table may have: one of 1 to 16 bytes
abbrev pub is_table_name : List ℕ → Bool
is_table_name bytes = is_name bytes && nat_le (length bytes) 16
