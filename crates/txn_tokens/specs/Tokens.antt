-- The tokens of bytes.
use Rattle.std.specs.Prelude.{ℕ, zero, suc, ◌+◌, ◌-◌, if◌then◌else◌, List, [], ◌∷◌}
use Rattle.txn_names.specs.Tables.{Named}
use Rattle.txn_tokens.specs.declared.token.Placed.{Placed}
use Rattle.txn_tokens.specs.Bytes.{is_blank}
use Rattle.txn_tokens.specs.Front.{front_of}

-- the tokens of bytes that begin at a place, of which the first few belong to a token before them
abbrev pub tokens_from : List Named → ℕ → ℕ → List ℕ → List Placed
tokens_from names at taken [] = []
tokens_from names at (suc taken) (byte ∷ bytes) = tokens_from names (at + 1) taken bytes
tokens_from names at zero (byte ∷ bytes) =
    if is_blank byte then tokens_from names (at + 1) 0 bytes
    else record { at = at; token = (front_of names byte bytes).token } ∷ tokens_from names (at + 1) ((front_of names byte bytes).len - 1) bytes

-- the tokens of bytes, each as long as it can be, with blanks between them
abbrev pub tokens : List Named → List ℕ → List Placed
tokens names bytes = tokens_from names 0 0 bytes
