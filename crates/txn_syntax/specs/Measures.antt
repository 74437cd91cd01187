-- Numbers of a text, each counted up to the greatest of 64 bits.
use Rattle.std.specs.Prelude.{◌≡◌, ℕ, ◌+◌, ◌-◌, ◌*◌, ◌^◌, min, max, Bool, true, ◌&&◌, not, nat_lt, nat_le, if◌then◌else◌, Option, None, Some}
use Rattle.txn_runs.specs.Bounds.{greatest_count, size, depth, steps_max, emits_max}
use Rattle.txn_syntax.specs.declared.place.Plain.{Plain}
use Rattle.txn_syntax.specs.declared.place.Plain.TheVariants.{Emit}
use Rattle.txn_syntax.specs.declared.place.Test.{Test}
use Rattle.txn_syntax.specs.declared.refusal.Which.{Which}
use Rattle.txn_syntax.specs.declared.refusal.Which.TheVariants as w
use Rattle.txn_syntax.specs.declared.measure.Measure.{Measure}
use Rattle.txn_syntax.specs.Grammar.{Text}
use Rattle.txn_syntax.specs.Meaning.{meant, plain_fits, test_fits, literals_fit}

-- a number, counted up to the greatest of 64 bits
abbrev pub capped : ℕ → ℕ
capped n = min n (2 ^ 64 - 1)

-- no statement
abbrev pub none : Measure
none = record { literals = true; count = 0; statements = 0; depth = 0; steps = 0; emits = 0 }

-- statements, and then others
abbrev pub then_of : Measure → Measure → Measure
then_of a b =
    record {
      literals = a.literals && b.literals;
      count = max a.count b.count;
      statements = capped (a.statements + b.statements);
      depth = max a.depth b.depth;
      steps = capped (a.steps + b.steps);
      emits = capped (a.emits + b.emits);
    }

-- how many numbers a statement without blocks emits
abbrev pub emits_of : Plain → ℕ
emits_of (Emit from) = 1
emits_of _ = 0

-- a statement without blocks
abbrev pub of_plain : Plain → Measure
of_plain plain = record { literals = plain_fits plain; count = 0; statements = 1; depth = 0; steps = 1; emits = emits_of plain }

-- an `if` over two blocks
abbrev pub of_choice : Test → Measure → Measure → Measure
of_choice test a b =
    record {
      literals = test_fits test && (a.literals && b.literals);
      count = max a.count b.count;
      statements = capped (capped (1 + a.statements) + b.statements);
      depth = capped (1 + max a.depth b.depth);
      steps = capped (1 + max a.steps b.steps);
      emits = max a.emits b.emits;
    }

-- a loop over a block
abbrev pub of_turns : ℕ → Measure → Measure
of_turns count b =
    record {
      literals = b.literals;
      count = max count b.count;
      statements = capped (1 + b.statements);
      depth = capped (1 + b.depth);
      steps = capped (1 + capped (count * capped (1 + b.steps)));
      emits = capped (count * b.emits);
    }

-- inside so many blocks: the limits hold that say which statements are kept
abbrev pub is_kept : ℕ → Measure → Bool
is_kept level m = m.literals && (nat_le m.count 1000 && (nat_le m.statements 256 && nat_le (capped (m.depth + level)) 8))

-- a measure is that of a text
pub record IsMeasure (m : Measure) (text : Text) : Type 0 where
  pub literals : m.literals ≡ literals_fit text
  pub count : m.count ≡ greatest_count (meant text)
  pub statements : m.statements ≡ capped (size (meant text))
  pub depth : m.depth ≡ capped (depth (meant text))
  pub steps : m.steps ≡ capped (steps_max (meant text))
  pub emits : m.emits ≡ capped (emits_max (meant text))

-- the first limit that a measure breaks
abbrev pub broken_by : Measure → Option Which
broken_by m =
    if not m.literals then Some w.Literal
    else (if nat_lt 1000 m.count then Some w.Loops
    else (if nat_lt 256 m.statements then Some w.Statements
    else (if nat_lt 8 m.depth then Some w.Depth
    else (if nat_lt 100000 m.steps then Some w.Steps
    else (if nat_lt 64 m.emits then Some w.Emits
    else None)))))
