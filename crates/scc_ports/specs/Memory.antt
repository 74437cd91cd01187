-- A source and a sink in memory, some of whose calls fail.
use Rattle.std.specs.Prelude.{◌≡◌, ℕ, ◌+◌, ◌-◌, ◌^◌, ◌==◌, ◌&&◌, nat_le, not, min, List, ◌++◌, length, take, drop, Bool, Result, MatchResult, is_ok}
use Rattle.std.specs.List.{list_any}

-- a count that stays at the greatest number of 64 bits
abbrev pub one_more : ℕ → ℕ
one_more count = min (count + 1) (2 ^ 64 - 1)

-- whether the call of this number is one of those that fail
abbrev pub is_failing : List ℕ → ℕ → Bool
is_failing fails call = list_any (λ n. n == call) fails

-- a source in memory
pub record Memory : Type 0 where
  -- the bytes that are left
  pub left : List ℕ
  -- how many bytes a call gives at most
  pub most : ℕ
  -- the numbers of the calls that fail, from 1
  pub fails : List ℕ
  -- how many calls were made
  pub calls : ℕ
  -- how many of them failed
  pub faults : ℕ

-- how many bytes a call gives that asks for this many
abbrev pub given : ℕ → List ℕ → ℕ → ℕ
given most left asked = min most (min (length left) asked)

-- A read for this many bytes: it fails exactly where its number is among those that fail, and else it gives all that it may.
pub record ReadsMemory {E : Type 0} (old new : Memory) (asked : ℕ) (result : Result ℕ E) : Type 0 where
  pub fails : is_ok result ≡ not (is_failing old.fails (one_more old.calls))
  pub gives : MatchResult result
      (λ n. (n ≡ given old.most old.left asked) × (new ≡ record old { left = drop n old.left; calls = one_more old.calls }))
      (λ _. new ≡ record old { calls = one_more old.calls; faults = one_more old.faults })

-- a sink in memory
pub record Room : Type 0 where
  -- the bytes that were written
  pub written : List ℕ
  -- how many bytes there may be
  pub room : ℕ
  -- how many bytes a call takes at most
  pub most : ℕ
  -- the numbers of the calls that fail, from 1
  pub fails : List ℕ
  -- how many calls were made
  pub calls : ℕ
  -- how many of them failed
  pub faults : ℕ

-- whether a write of this many bytes is taken: its number isn't among those that fail, and the bytes fit the room
abbrev pub is_taken : Room → ℕ → Bool
is_taken sink count = not (is_failing sink.fails (one_more sink.calls)) && nat_le (length sink.written + count) sink.room

-- A write takes all that a call may take of the piece, or fails.
pub record WritesMemory {E : Type 0} (old new : Room) (piece : List ℕ) (result : Result ℕ E) : Type 0 where
  pub fails : is_ok result ≡ is_taken old (min old.most (length piece))
  pub takes : MatchResult result
      (λ n. (n ≡ min old.most (length piece)) × (new ≡ record old { written = old.written ++ take n piece; calls = one_more old.calls }))
      (λ _. new ≡ record old { calls = one_more old.calls; faults = one_more old.faults })
