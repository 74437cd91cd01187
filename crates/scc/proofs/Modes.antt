-- Modes that need one thread alone, and those that need more.
use Rattle.std.proofs.Common.{◌≡◌, ◌≢◌, ◌⊎◌, inl, inr, ℕ, List, length, sym, ap, ◌∙◌, arith}
use Rattle.scc_replies.specs.declared.status.Status.{Status}
use Rattle.scc_replies.specs.declared.status.Status.TheVariants.{BadWords}
use Rattle.scc.specs.declared.words.Mode.{Mode}
use Rattle.scc.specs.declared.words.Mode.TheVariants.{Script, Batch, Audit, Gen}
use Rattle.scc.specs.Served.{Outside, Served}
use Rattle.scc.specs.Words.{Spells, SpellsAlone, SpellsBatch}

pub alone-spells : (words : List (List ℕ)) (mode : Mode) → SpellsAlone words mode → Spells words mode
alone-spells words (Script k lanes) spelled = spelled
alone-spells words (Batch k lanes workers) spelled = absurd spelled
alone-spells words Audit spelled = spelled
alone-spells words (Gen seed count) spelled = spelled

pub batch-needs-threads : (words : List (List ℕ)) (k lanes workers : ℕ) → SpellsBatch words k lanes workers → (mode : Mode) → ¬ SpellsAlone words mode
batch-needs-threads words k lanes workers batch (Script k' lanes') spelled = omega (arith, ap length (sym batch.spelled ∙ spelled.spelled))
batch-needs-threads words k lanes workers batch (Batch k' lanes' workers') spelled = spelled
batch-needs-threads words k lanes workers batch Audit spelled = omega (arith, ap length (sym batch.spelled ∙ spelled))
batch-needs-threads words k lanes workers batch (Gen seed count) spelled = omega (arith, ap length (sym batch.spelled ∙ spelled.spelled))

-- What one thread has served was served, where the words ask for no batch.

bad : (words : List (List ℕ)) (P : Type 0) → ((k lanes workers : ℕ) → ¬ SpellsBatch words k lanes workers) → (P → (mode : Mode) → ¬ SpellsAlone words mode)
    → P → (mode : Mode) → ¬ Spells words mode
bad words P none alone is (Script k lanes) spelled = alone is (Script k lanes) spelled
bad words P none alone is (Batch k lanes workers) spelled = none k lanes workers spelled
bad words P none alone is Audit spelled = alone is Audit spelled
bad words P none alone is (Gen seed count) spelled = alone is (Gen seed count) spelled

good : (words : List (List ℕ)) (P : Type 0) → ((k lanes workers : ℕ) → ¬ SpellsBatch words k lanes workers) → ((mode : Mode) → SpellsAlone words mode → P)
    → (mode : Mode) → Spells words mode → P
good words P none alone (Script k lanes) spelled = alone (Script k lanes) spelled
good words P none alone (Batch k lanes workers) spelled = absurd (none k lanes workers spelled)
good words P none alone Audit spelled = alone Audit spelled
good words P none alone (Gen seed count) spelled = alone (Gen seed count) spelled

pub served-alone : (words : List (List ℕ)) (status : Status) (before after : Outside) → ((k lanes workers : ℕ) → ¬ SpellsBatch words k lanes workers)
    → Served (SpellsAlone words) status before after → Served (Spells words) status before after
served-alone words status before after none alone = record {
  script = alone.script;
  batch = λ k lanes workers spelled. absurd (none k lanes workers spelled);
  audit = alone.audit;
  gen = alone.gen;
  bad_words = bad words (status ≡ BadWords) none alone.bad_words;
  good_words = good words (status ≢ BadWords) none alone.good_words;
  other_words = λ no-mode. alone.other_words (λ mode spelled. no-mode mode (alone-spells words mode spelled));
  read_fault = alone.read_fault;
  write_fault = alone.write_fault;
  bad_input = λ line is. elim (alone.bad_input line is) [ inl batch ↦ absurd batch.3 | inr audit ↦ inr audit ];
  audit_no = alone.audit_no;
}
