-- What each mode has done is what the top calls promise of it.
use Rattle.std.proofs.Common.{◌≡◌, ◌≢◌, inl, inr, ℕ, List, [], length, get_or, Option, Some, None, sym, ap, ◌∙◌, subst, arith}
use Rattle.scc_ports.specs.Ports.{Rose}
use Rattle.scc_replies.specs.declared.status.Status.{Status}
use Rattle.scc_replies.specs.declared.status.Status.TheVariants as status
use Rattle.scc_text.specs.Number.{natural_of}
use Rattle.line_loop.specs.declared.ending.Ending.{Ending}
use Rattle.line_loop.specs.declared.ending.Ending.TheVariants as ending
use Rattle.scc_script.specs.Ran.{ScriptRan, status_of}
use Rattle.serial_text.specs.Told.{PrintedSerially}
use Rattle.scc_batch.specs.Told.{Batched}
use Rattle.scc_batch.proofs.Ends.{never-bad-words, never-audit}
use Rattle.scc_audit.specs.Told.{Tells, AuditTold}
use Rattle.scc.specs.declared.words.Mode.TheVariants as mode
use Rattle.scc.specs.Generated.{HasGenerated}
use Rattle.scc.specs.Words.{SpellsNumber, SpellsScript, SpellsBatch, SpellsAudit, SpellsGen, Spells, SpellsAlone}
use Rattle.scc.specs.Served.{Outside, Served}

-- Words name one mode alone.

abbrev value_of : Option ℕ → ℕ
value_of None = 0
value_of (Some n) = n

-- a word among words, by its place, or none
abbrev word_at : ℕ → List (List ℕ) → List ℕ
word_at place words = get_or words place []

same-number : (word word' : List ℕ) (least most n n' : ℕ) → word ≡ word' → SpellsNumber word least most n → SpellsNumber word' least most n' → n ≡ n'
same-number word word' least most n n' same a b = ap value_of (sym a.value ∙ ap natural_of same ∙ b.value)

same-sizes : (words : List (List ℕ)) (k lanes k' lanes' : ℕ) → SpellsScript words k lanes → SpellsScript words k' lanes' → (k ≡ k') × (lanes ≡ lanes')
same-sizes words k lanes k' lanes' a b =
    let is = sym a.spelled ∙ b.spelled in
    (same-number a.first b.first 1 8 k k' (ap (word_at 1) is) a.shadows b.shadows, same-number a.second b.second 1 64 lanes lanes' (ap (word_at 2) is) a.width b.width)

same-batch : (words : List (List ℕ)) (k lanes workers k' lanes' workers' : ℕ) → SpellsBatch words k lanes workers → SpellsBatch words k' lanes' workers'
    → (k ≡ k') × (lanes ≡ lanes') × (workers ≡ workers')
same-batch words k lanes workers k' lanes' workers' a b =
    let is = sym a.spelled ∙ b.spelled in (
      same-number a.first b.first 1 8 k k' (ap (word_at 1) is) a.shadows b.shadows,
      same-number a.second b.second 1 64 lanes lanes' (ap (word_at 2) is) a.width b.width,
      same-number a.third b.third 1 16 workers workers' (ap (word_at 3) is) a.threads b.threads,
    )

same-gen : (words : List (List ℕ)) (seed count seed' count' : ℕ) → SpellsGen words seed count → SpellsGen words seed' count' → (seed ≡ seed') × (count ≡ count')
same-gen words seed count seed' count' a b =
    let is = sym a.spelled ∙ b.spelled in
    (same-number a.first b.first 0 65536 seed seed' (ap (word_at 1) is) a.start b.start, same-number a.second b.second 1 20000 count count' (ap (word_at 2) is) a.programs b.programs)

script-no-gen : (words : List (List ℕ)) (k lanes seed count : ℕ) → SpellsScript words k lanes → ¬ SpellsGen words seed count
script-no-gen words k lanes seed count a b = omega (arith, ap (λ ws. length (word_at 0 ws)) (sym a.spelled ∙ b.spelled))

script-no-batch : (words : List (List ℕ)) (k lanes k' lanes' workers : ℕ) → SpellsScript words k lanes → ¬ SpellsBatch words k' lanes' workers
script-no-batch words k lanes k' lanes' workers a b = omega (arith, ap length (sym a.spelled ∙ b.spelled))

gen-no-batch : (words : List (List ℕ)) (seed count k lanes workers : ℕ) → SpellsGen words seed count → ¬ SpellsBatch words k lanes workers
gen-no-batch words seed count k lanes workers a b = omega (arith, ap length (sym a.spelled ∙ b.spelled))

script-no-audit : (words : List (List ℕ)) (k lanes : ℕ) → SpellsScript words k lanes → ¬ SpellsAudit words
script-no-audit words k lanes a b = omega (arith, ap length (sym a.spelled ∙ b))

batch-no-audit : (words : List (List ℕ)) (k lanes workers : ℕ) → SpellsBatch words k lanes workers → ¬ SpellsAudit words
batch-no-audit words k lanes workers a b = omega (arith, ap length (sym a.spelled ∙ b))

gen-no-audit : (words : List (List ℕ)) (seed count : ℕ) → SpellsGen words seed count → ¬ SpellsAudit words
gen-no-audit words seed count a b = omega (arith, ap length (sym a.spelled ∙ b))

-- Ends that a mode never has.

script-bad_words : (ending : Ending) → status_of ending ≢ status.BadWords
script-bad_words ending.Done is = cc
script-bad_words ending.Stopped is = cc
script-bad_words ending.ReadFault is = cc
script-bad_words ending.WriteFault is = cc
script-bad_words ending.OutOfMemory is = cc
script-bad_words ending.InputLimit is = cc

script-bad_input : (ending : Ending) (line : ℕ) → status_of ending ≢ status.BadInput line
script-bad_input ending.Done line is = cc
script-bad_input ending.Stopped line is = cc
script-bad_input ending.ReadFault line is = cc
script-bad_input ending.WriteFault line is = cc
script-bad_input ending.OutOfMemory line is = cc
script-bad_input ending.InputLimit line is = cc

script-audit_no : (ending : Ending) (line : ℕ) → status_of ending ≢ status.AuditNo line
script-audit_no ending.Done line is = cc
script-audit_no ending.Stopped line is = cc
script-audit_no ending.ReadFault line is = cc
script-audit_no ending.WriteFault line is = cc
script-audit_no ending.OutOfMemory line is = cc
script-audit_no ending.InputLimit line is = cc

-- The calls of each mode.

pub script-served : (words : List (List ℕ)) (k lanes : ℕ) (answer : Status) (before after : Outside) → SpellsScript words k lanes
    → ((read : List ℕ) × ScriptRan k lanes answer read before.left after.left before.written after.written before.steps after.steps × PrintedSerially answer read before.written after.written)
    → (answer ≡ status.ReadFault → Rose before.read_faults after.read_faults) → (answer ≡ status.WriteFault → Rose before.write_faults after.write_faults)
    → Served (SpellsAlone words) answer before after
script-served words k lanes answer before after spelled ran read_fault write_fault =
    let is = ran.1.status in
    let end = ran.1.ending in
    record {
      script = λ k' lanes' spelled'.
          let same = same-sizes words k lanes k' lanes' spelled spelled' in
          subst (λ k. (read : List ℕ) × ScriptRan k lanes' answer read before.left after.left before.written after.written before.steps after.steps × PrintedSerially answer read before.written after.written) same.0
          (subst (λ lanes. (read : List ℕ) × ScriptRan k lanes answer read before.left after.left before.written after.written before.steps after.steps × PrintedSerially answer read before.written after.written) same.1 ran);
      batch = λ _ _ _ none. absurd none;
      audit = λ other. absurd (script-no-audit words k lanes spelled other);
      gen = λ seed count other. absurd (script-no-gen words k lanes seed count spelled other);
      bad_words = λ bad. absurd (script-bad_words end (sym is ∙ bad));
      good_words = λ _ _ bad. script-bad_words end (sym is ∙ bad);
      other_words = λ none. absurd (none (mode.Script k lanes) spelled);
      read_fault = read_fault;
      write_fault = write_fault;
      bad_input = λ line bad. absurd (script-bad_input end line (sym is ∙ bad));
      audit_no = λ line no. absurd (script-audit_no end line (sym is ∙ no));
    }

pub gen-served : (words : List (List ℕ)) (seed count : ℕ) (answer : Status) (before after : Outside) → SpellsGen words seed count
    → HasGenerated answer seed count before.written after.written → (after.left ≡ before.left) → (after.read_faults ≡ before.read_faults) → (after.steps ≡ before.steps)
    → (answer ≡ status.WriteFault → Rose before.write_faults after.write_faults)
    → Served (SpellsAlone words) answer before after
gen-served words seed count answer before after spelled made left faults steps write_fault =
    let never : (end : Status) → (HasGenerated end seed count before.written after.written → ⊥) → answer ≢ end =
    λ end none is. none (subst (λ s. HasGenerated s seed count before.written after.written) is made) in
    record {
      script = λ k lanes other. absurd (script-no-gen words k lanes seed count other spelled);
      batch = λ _ _ _ none. absurd none;
      audit = λ other. absurd (gen-no-audit words seed count spelled other);
      gen = λ seed' count' spelled'.
          let same = same-gen words seed count seed' count' spelled spelled' in (
            subst (λ seed. HasGenerated answer seed count' before.written after.written) same.0
                (subst (λ count. HasGenerated answer seed count before.written after.written) same.1 made),
            left,
            faults,
            steps,
          );
      bad_words = λ bad. absurd (never status.BadWords (λ none. none) bad);
      good_words = λ _ _ bad. never status.BadWords (λ none. none) bad;
      other_words = λ none. absurd (none (mode.Gen seed count) spelled);
      read_fault = λ bad. absurd (never status.ReadFault (λ none. none) bad);
      write_fault = write_fault;
      bad_input = λ line bad. absurd (never (status.BadInput line) (λ none. none) bad);
      audit_no = λ line no. absurd (never (status.AuditNo line) (λ none. none) no);
    }

pub batch-served : (words : List (List ℕ)) (k lanes workers : ℕ) (answer : Status) (before after : Outside) → SpellsBatch words k lanes workers
    → ((read : List ℕ) × Batched answer read before.left after.left before.written after.written)
    → (answer ≡ status.ReadFault → Rose before.read_faults after.read_faults) → (answer ≡ status.WriteFault → Rose before.write_faults after.write_faults)
    → Served (Spells words) answer before after
batch-served words k lanes workers answer before after spelled ran read_fault write_fault =
    let never : (end : Status) → (Batched end ran.0 before.left after.left before.written after.written → ⊥) → answer ≢ end =
    λ end none is. none (subst (λ s. Batched s ran.0 before.left after.left before.written after.written) is ran.1) in
    let no-bad_words : answer ≢ status.BadWords = never status.BadWords (never-bad-words ran.0 before.left after.left before.written after.written) in
    record {
      script = λ k' lanes' other. absurd (script-no-batch words k' lanes' k lanes workers other spelled);
      batch = λ _ _ _ _. ran;
      audit = λ other. absurd (batch-no-audit words k lanes workers spelled other);
      gen = λ seed count other. absurd (gen-no-batch words seed count k lanes workers other spelled);
      bad_words = λ bad. absurd (no-bad_words bad);
      good_words = λ _ _. no-bad_words;
      other_words = λ none. absurd (none (mode.Batch k lanes workers) spelled);
      read_fault = read_fault;
      write_fault = write_fault;
      bad_input = λ line bad. inl (k, lanes, workers, spelled);
      audit_no = λ line no. absurd (never (status.AuditNo line) (never-audit line ran.0 before.left after.left before.written after.written) no);
    }

pub audit-served : (words : List (List ℕ)) (answer : Status) (before after : Outside) → SpellsAudit words
    → ((read : List ℕ) × AuditTold answer read before.left after.left before.written after.written)
    → (answer ≡ status.ReadFault → Rose before.read_faults after.read_faults) → (answer ≡ status.WriteFault → Rose before.write_faults after.write_faults)
    → Served (SpellsAlone words) answer before after
audit-served words answer before after spelled told read_fault write_fault =
    let no-bad_words : answer ≢ status.BadWords =
    λ is. subst (λ s. Tells s told.0 after.left before.written after.written) is told.1.told in
    record {
      script = λ k lanes other. absurd (script-no-audit words k lanes other spelled);
      batch = λ _ _ _ none. absurd none;
      audit = λ _. told;
      gen = λ seed count other. absurd (gen-no-audit words seed count other spelled);
      bad_words = λ bad. absurd (no-bad_words bad);
      good_words = λ _ _. no-bad_words;
      other_words = λ none. absurd (none mode.Audit spelled);
      read_fault = read_fault;
      write_fault = write_fault;
      bad_input = λ _ _. inr spelled;
      audit_no = λ _ _. spelled;
    }
