-- The bytes behind lines.
use Rattle.std.specs.Prelude.{ℕ, zero, suc, ◌==◌, List, [], ◌∷◌, if◌then◌else◌}

-- the bytes behind the first newline
unfoldable pub past_newline : List ℕ → List ℕ
past_newline [] = []
past_newline (byte ∷ bytes) = if byte == 10 then bytes else past_newline bytes

-- the bytes behind so many lines
unfoldable pub past_lines : ℕ → List ℕ → List ℕ
past_lines zero bytes = bytes
past_lines (suc n) bytes = past_lines n (past_newline bytes)
