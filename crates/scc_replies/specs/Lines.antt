-- Lines that several modes write. Each ends with a newline.
use Rattle.std.specs.Prelude.{ℕ, ℤ, List, [], ◌∷◌, ◌++◌, codes, decimal}
use Rattle.scc_text.specs.Number.{numbers}

-- a word and a number
abbrev pub number_line : List ℕ → ℕ → List ℕ
number_line word number = word ++ decimal number ++ 10 ∷ []

-- a table's name and values
abbrev pub row_line : List ℕ → List ℤ → List ℕ
row_line name values = name ++ numbers values ++ 10 ∷ []

-- `final` and a table's name and values
abbrev pub final_line : List ℕ → List ℤ → List ℕ
final_line name values = codes "final " ++ row_line name values

-- `end` and the number of commits
abbrev pub end_line : ℕ → List ℕ
end_line commits = number_line (codes "end ") commits

-- `refuse` and the number of the refusal
abbrev pub refuse_line : ℕ → List ℕ
refuse_line code = number_line (codes "refuse ") code
