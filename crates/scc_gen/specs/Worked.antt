-- Texts and draws that were worked out by hand.
use Rattle.std.specs.Prelude.{◌≡◌, [], ◌∷◌, ◌++◌, map, codes}
use Rattle.std.specs.List.{range_with_len}
use Rattle.scc_gen.specs.Generated.{drawn, gen_text}

-- ten draws behind the seed 7
abbrev pub TenDraws : Type 0
TenDraws = map (drawn 7) (range_with_len 1 10) ≡ 599 ∷ 44999 ∷ 32612 ∷ 21105 ∷ 10061 ∷ 33742 ∷ 40318 ∷ 9222 ∷ 36354 ∷ 39607 ∷ []

-- the two programs of the seed 7
abbrev pub TwoPrograms : Type 0
TwoPrograms = gen_text 7 2 ≡ codes "table acct 64\n"
    ++ codes "begin 61 { r0 = acct[23]; r1 = r0 - 6; acct[23] = r1; r2 = acct[7]; r3 = r2 + 6; acct[7] = r3; loop 1 { r4 = r4 + 1; } emit 6; }\n"
    ++ codes "begin 607 { r0 = acct[14]; r1 = r0 - 7; acct[14] = r1; r2 = acct[62]; r3 = r2 + 7; acct[62] = r3; loop 2 { r4 = r4 + 1; } emit 7; }\n"
