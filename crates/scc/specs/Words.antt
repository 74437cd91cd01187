-- The words of a command line.
use Rattle.std.specs.Prelude.{◌≡◌, ℕ, ◌≤◌, List, [], ◌∷◌, length, codes, Some}
use Rattle.scc_text.specs.Number.{natural_of}
use Rattle.scc.specs.declared.words.Mode.{Mode}
use Rattle.scc.specs.declared.words.Mode.TheVariants.{Script, Batch, Audit, Gen}

-- a number among the words: 1 to 10 digits, within a range
pub record SpellsNumber (word : List ℕ) (least most number : ℕ) : Type 0 where
  pub short : length word ≤ 10
  pub value : natural_of word ≡ Some number
  pub above : least ≤ number
  pub below : number ≤ most

-- `script K LANES`: 1 to 8 shadows a transaction, and 1 to 64 lanes
pub record SpellsScript (words : List (List ℕ)) (k lanes : ℕ) : Type 0 where
  pub first : List ℕ
  pub second : List ℕ
  pub spelled : words ≡ codes "script" ∷ first ∷ second ∷ []
  pub shadows : SpellsNumber first 1 8 k
  pub width : SpellsNumber second 1 64 lanes

-- `batch K LANES WORKERS`: 1 to 8 shadows a transaction, 1 to 64 lanes, and 1 to 16 workers
pub record SpellsBatch (words : List (List ℕ)) (k lanes workers : ℕ) : Type 0 where
  pub first : List ℕ
  pub second : List ℕ
  pub third : List ℕ
  pub spelled : words ≡ codes "batch" ∷ first ∷ second ∷ third ∷ []
  pub shadows : SpellsNumber first 1 8 k
  pub width : SpellsNumber second 1 64 lanes
  pub threads : SpellsNumber third 1 16 workers

-- `audit`, and no more words
abbrev pub SpellsAudit : List (List ℕ) → Type 0
SpellsAudit words = words ≡ codes "audit" ∷ []

-- `gen SEED COUNT`: a seed of at most 65,536, and 1 to 20,000 programs
pub record SpellsGen (words : List (List ℕ)) (seed count : ℕ) : Type 0 where
  pub first : List ℕ
  pub second : List ℕ
  pub spelled : words ≡ codes "gen" ∷ first ∷ second ∷ []
  pub start : SpellsNumber first 0 65536 seed
  pub programs : SpellsNumber second 1 20000 count

-- the words name this mode
abbrev pub Spells : List (List ℕ) → Mode → Type 0
Spells words (Script k lanes) = SpellsScript words k lanes
Spells words (Batch k lanes workers) = SpellsBatch words k lanes workers
Spells words Audit = SpellsAudit words
Spells words (Gen seed count) = SpellsGen words seed count

-- the words name this mode, and it needs one thread alone
abbrev pub SpellsAlone : List (List ℕ) → Mode → Type 0
SpellsAlone words (Script k lanes) = SpellsScript words k lanes
SpellsAlone words (Batch k lanes workers) = ⊥
SpellsAlone words Audit = SpellsAudit words
SpellsAlone words (Gen seed count) = SpellsGen words seed count
