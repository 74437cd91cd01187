-- Kinds of bytes.
use Rattle.std.specs.Prelude.{ℕ, ◌==◌, ◌||◌, Bool}
use Rattle.std.specs.Char.{is_ascii_digit}
use Rattle.txn_names.specs.Word.{is_word_byte}
use Rattle.txn_tokens.specs.declared.byte_kind.ByteKind.{ByteKind}
use Rattle.txn_tokens.specs.declared.byte_kind.ByteKind.TheVariants.{Blank, Digit, Word}

-- what may stand between two tokens: a tab, a carriage return or a space
abbrev pub is_blank : ℕ → Bool
is_blank byte = (byte == 9) || (byte == 13) || (byte == 32)

abbrev pub is_of : ByteKind → ℕ → Bool
is_of Blank byte = is_blank byte
is_of Digit byte = is_ascii_digit byte
is_of Word byte = is_word_byte byte
