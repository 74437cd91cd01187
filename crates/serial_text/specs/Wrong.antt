-- Texts that are refused.
use Rattle.std.specs.Prelude.{ℕ, List, [], ◌∷◌, codes}
use Rattle.serial_text.specs.Notes.{Notes, no_notes, AreNoted}
use Rattle.serial_text.specs.Serial.{IsSerial}

-- no reader can take these replies and these last lines for those of a serial run
abbrev pub IsRefusedText : List (List ℕ × List ℕ) → List ℕ → Type 0
IsRefusedText answers last = (notes : Notes) → AreNoted no_notes answers notes → IsSerial notes last → ⊥

-- one commit too many at the end
abbrev pub TooMany : Type 0
TooMany = IsRefusedText [] (codes "end 1\n")

-- an outcome that the program doesn't have
abbrev pub OtherOutcome : Type 0
OtherOutcome = IsRefusedText ((codes "begin 0 { }", codes "begin 1 started\n") ∷ (codes "commit 1", codes "commit 1 failed 3\n") ∷ []) (codes "end 1\n")

-- final lines with the values before the commit
abbrev pub OpeningFinals : Type 0
OpeningFinals =
    IsRefusedText ((codes "table a 1", codes "table a 1\n") ∷ (codes "begin 0 { a[0] = 5; }", codes "begin 1 started\n") ∷ (codes "commit 1", codes "commit 1 done\n") ∷ [])
    (codes "final a 0\nend 1\n")
