-- The text that the generator makes. It is an input for batches: each of its programs moves an amount from one item to another.
use Rattle.std.specs.Prelude.{ℕ, zero, suc, ◌+◌, ◌*◌, ◌%◌, List, ◌++◌, map, flat_map, codes, decimal}
use Rattle.std.specs.List.{range_with_len}
use Rattle.scc_gen.specs.declared.lines.Transfer.{Transfer}

-- the number that is drawn behind another
abbrev pub behind : ℕ → ℕ
behind x = (75 * x + 74) % 65537

-- the last of so many draws, of which the seed stands before the first
abbrev pub drawn : ℕ → ℕ → ℕ
drawn seed zero = seed
drawn seed (suc n) = behind (drawn seed n)

-- the transfer that the five draws behind so many give
abbrev pub transfer : ℕ → ℕ → Transfer
transfer seed n = record {
  from = drawn seed (n + 1) % 64;
  to = drawn seed (n + 2) % 64;
  amount = 1 + drawn seed (n + 3) % 9;
  turns = drawn seed (n + 4) % 4;
  deadline = drawn seed (n + 5) % 1000;
}

-- a number between two texts
unfoldable pub part : List ℕ → ℕ → List ℕ → List ℕ
part before number behind = before ++ decimal number ++ behind

-- its program takes the amount from the one item
unfoldable pub taking : Transfer → List ℕ
taking t = part (codes " r0 = acct[") t.from (codes "];") ++ part (codes " r1 = r0 - ") t.amount (codes ";") ++ part (codes " acct[") t.from (codes "] = r1;")

-- and gives it to the other
unfoldable pub giving : Transfer → List ℕ
giving t = part (codes " r2 = acct[") t.to (codes "];") ++ part (codes " r3 = r2 + ") t.amount (codes ";") ++ part (codes " acct[") t.to (codes "] = r3;")

-- the line that begins it
unfoldable pub transfer_line : Transfer → List ℕ
transfer_line t = part (codes "begin ") t.deadline (codes " {") ++ taking t ++ giving t
    ++ part (codes " loop ") t.turns (codes " { r4 = r4 + 1; }") ++ part (codes " emit ") t.amount (codes "; }\n")

-- so many transfers; each takes the five draws behind those of the transfers before it
abbrev pub transfers : ℕ → ℕ → List Transfer
transfers seed count = map (λ i. transfer seed (5 * i)) (range_with_len 0 count)

-- a table, and a line for each transfer
unfoldable pub gen_text : ℕ → ℕ → List ℕ
gen_text seed count = codes "table acct 64\n" ++ flat_map transfer_line (transfers seed count)
