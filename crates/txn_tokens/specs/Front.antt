-- The longest token at the front of bytes.
use Rattle.std.specs.Prelude.{ℕ, ◌==◌, if◌then◌else◌, List, [], ◌∷◌, Option, None, Some, take, codes}
use Rattle.std.specs.Char.{is_ascii_lowercase, is_ascii_digit}
use Rattle.std.specs.List.{prefix_len}
use Rattle.std.specs.Option.{option_map_or}
use Rattle.std.specs.Str.{bytes_eq}
use Rattle.txn_runs.specs.declared.program.Op.TheVariants.{Add, Sub, Mul, Div, Rem, Min, Max}
use Rattle.txn_runs.specs.declared.program.Cmp.TheVariants.{Eq, Ne, Lt, Le, Gt, Ge}
use Rattle.txn_names.specs.Word.{is_word_byte, is_reserved, register_of}
use Rattle.txn_names.specs.Tables.{Named, table_named}
use Rattle.txn_tokens.specs.declared.front.Front.{Front}
use Rattle.txn_tokens.specs.declared.token.Token.{Token}
use Rattle.txn_tokens.specs.declared.token.Token.TheVariants.{Register, Name, Number, Op, Cmp, If, Else, Loop, Emit, Fail, OpenBlock, CloseBlock, OpenIndex, CloseIndex, Semicolon, Assign, Stray}
use Rattle.txn_tokens.specs.Number.{capped_number}

-- a word that is no keyword: a register, a reserved word with no use, or a name
abbrev pub other_word : List Named → List ℕ → Token
other_word names word = option_map_or Register (register_of word) (if is_reserved word then Stray else Name (table_named names word))

-- what a word spells
abbrev pub word_token : List Named → List ℕ → Token
word_token names word =
    if bytes_eq word (codes "if") then If
    else (if bytes_eq word (codes "else") then Else
    else (if bytes_eq word (codes "loop") then Loop
    else (if bytes_eq word (codes "emit") then Emit
    else (if bytes_eq word (codes "fail") then Fail
    else (if bytes_eq word (codes "min") then Op Min
    else (if bytes_eq word (codes "max") then Op Max
    else other_word names word))))))

-- the signs of two bytes end in `=`: these are they by their first bytes = ! < >
abbrev pub long_sign : ℕ → Option Token
long_sign first =
    if first == 61 then Some (Cmp Eq)
    else (if first == 33 then Some (Cmp Ne)
    else (if first == 60 then Some (Cmp Le)
    else (if first == 62 then Some (Cmp Ge)
    else None)))

-- the signs of one byte: { } [ ] ; =
abbrev pub mark : ℕ → Token
mark byte =
    if byte == 123 then OpenBlock
    else (if byte == 125 then CloseBlock
    else (if byte == 91 then OpenIndex
    else (if byte == 93 then CloseIndex
    else (if byte == 59 then Semicolon
    else (if byte == 61 then Assign
    else Stray)))))

-- and + - * / % < >
abbrev pub short_sign : ℕ → Token
short_sign byte =
    if byte == 43 then Op Add
    else (if byte == 45 then Op Sub
    else (if byte == 42 then Op Mul
    else (if byte == 47 then Op Div
    else (if byte == 37 then Op Rem
    else (if byte == 60 then Cmp Lt
    else (if byte == 62 then Cmp Gt
    else mark byte))))))

-- a sign has two bytes where it can; a byte that begins no token is a stray one
abbrev pub sign_front : ℕ → List ℕ → Front
sign_front first [] = record { token = short_sign first; len = 1 }
sign_front first (second ∷ bytes) =
    option_map_or (λ (token : Token). record { token = token; len = 2 }) (if second == 61 then long_sign first else None)
    (record { token = short_sign first; len = 1 })

-- a word that goes on while bytes of words follow
abbrev pub word_front : List Named → List ℕ → Front
word_front names bytes = let len = prefix_len is_word_byte bytes in record { token = word_token names (take len bytes); len = len }

-- a number that goes on while digits follow
abbrev pub number_front : List ℕ → Front
number_front bytes = let len = prefix_len is_ascii_digit bytes in record { token = Number (capped_number (take len bytes)); len = len }

-- the token that begins with a byte
abbrev pub front_of : List Named → ℕ → List ℕ → Front
front_of names first bytes =
    if is_ascii_lowercase first then word_front names (first ∷ bytes)
    else (if is_ascii_digit first then number_front (first ∷ bytes)
    else sign_front first bytes)
