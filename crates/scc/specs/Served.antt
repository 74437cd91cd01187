-- What the calls that do all that the program does promise.
use Rattle.std.specs.Prelude.{◌≡◌, ◌≢◌, ◌⊎◌, ℕ, List, Option}
use Rattle.scc_ports.specs.Ports.{Rose}
use Rattle.scc_replies.specs.declared.status.Status.{Status}
use Rattle.scc_replies.specs.declared.status.Status.TheVariants.{BadWords, BadInput, ReadFault, WriteFault, AuditNo}
use Rattle.scc_script.specs.Ran.{ScriptRan}
use Rattle.serial_text.specs.Told.{PrintedSerially}
use Rattle.scc.specs.declared.words.Mode.{Mode}
use Rattle.scc.specs.declared.words.Mode.TheVariants.{Script, Batch, Audit, Gen}
use Rattle.scc_batch.specs.Told.{Batched}
use Rattle.scc_audit.specs.Told.{AuditTold}
use Rattle.scc.specs.Generated.{HasGenerated}

-- what a source, a sink and a counter of steps tell at one time
pub record Outside : Type 0 where
  pub left : Option (List ℕ)
  pub read_faults : ℕ
  pub written : Option (List ℕ)
  pub write_faults : ℕ
  pub steps : ℕ

abbrev pub outside : Option (List ℕ) → ℕ → Option (List ℕ) → ℕ → ℕ → Outside
outside left read_faults written write_faults steps =
    record { left = left; read_faults = read_faults; written = written; write_faults = write_faults; steps = steps }

-- A call of words that name a mode where `spells` says so, which ended so.
pub record Served (spells : Mode → Type 0) (status : Status) (before after : Outside) : Type 0 where
  -- `script K LANES`: there are bytes that were read, and each end says what was written and how many steps were made. What was written
  -- is the text of a serial run: the printed commits, run alone in printed order from the values that were put, give the printed
  -- outcomes and final lines.
  pub script : (k lanes : ℕ) → spells (Script k lanes)
      → (read : List ℕ) × ScriptRan k lanes status read before.left after.left before.written after.written before.steps after.steps
      × PrintedSerially status read before.written after.written
  -- `batch K LANES WORKERS`: there are bytes that were read, and each end says what they make, and what was written: the report of their
  -- programs in the order that it names itself, each once, or the first refused line
  pub batch : (k lanes workers : ℕ) → spells (Batch k lanes workers)
      → (read : List ℕ) × Batched status read before.left after.left before.written after.written
  -- `audit`: there are bytes that were read, and each end says what they make, and what was written: the verdict on what stands behind
  -- their tables and programs, or the first refused line
  pub audit : spells Audit → (read : List ℕ) × AuditTold status read before.left after.left before.written after.written
  -- `gen SEED COUNT`: the generator's text, or a front of it where writing failed; nothing is read, and no step is made
  pub gen : (seed count : ℕ) → spells (Gen seed count)
      → HasGenerated status seed count before.written after.written
      × (after.left ≡ before.left) × (after.read_faults ≡ before.read_faults) × (after.steps ≡ before.steps)
  -- bad words are exactly those that name no mode
  pub bad_words : status ≡ BadWords → (mode : Mode) → ¬ spells mode
  pub good_words : (mode : Mode) → spells mode → status ≢ BadWords
  pub other_words : ((mode : Mode) → ¬ spells mode) → status ≡ BadWords
  -- a fault is told only where the count of that object rose meanwhile, or can rise no more
  pub read_fault : status ≡ ReadFault → Rose before.read_faults after.read_faults
  pub write_fault : status ≡ WriteFault → Rose before.write_faults after.write_faults
  -- a refused line ends a batch or an audit alone
  pub bad_input : (line : ℕ) → status ≡ BadInput line → ((k : ℕ) × (lanes : ℕ) × (workers : ℕ) × spells (Batch k lanes workers)) ⊎ spells Audit
  -- and a wrong report or journal ends an audit alone
  pub audit_no : (line : ℕ) → status ≡ AuditNo line → spells Audit
