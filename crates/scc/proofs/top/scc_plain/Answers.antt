use Rattle.std.proofs.Common.{map, refl, subst}
use Rattle.std.specs.Prelude.{string_bytes}
use Rattle.scc.specs.declared.words.Mode.TheVariants.{Script, Audit, Gen}
use Rattle.scc.specs.Words.{Spells}
use Rattle.scc.proofs.Modes.{alone-spells}
use Rattle.scc.proofs.Serving.{script-served, audit-served, gen-served}
use Rattle.scc.proofs.top.scc_plain.Goals as goal

pub returns-in-Ok-Script-clause-served : goal.returns-in-Ok-Script-clause-served
returns-in-Ok-Script-clause-served g c =
    let run = c.serial_script.ensures in
    script-served (map string_bytes c.args.words.now) c.in-Ok-Script.k c.in-Ok-Script.lanes _ _ _ (subst (Spells (map string_bytes c.args.words.now)) c.in-Ok-Script.field-0-is c.in-Ok-Script.ensures.ok) run.ran run.read_fault run.write_fault

pub returns-in-Ok-Audit-clause-served : goal.returns-in-Ok-Audit-clause-served
returns-in-Ok-Audit-clause-served g c =
    let audited = c.audit_input.ensures in
    audit-served (map string_bytes c.args.words.now) _ _ _ (subst (Spells (map string_bytes c.args.words.now)) c.in-Ok-Audit.field-0-is c.in-Ok-Audit.ensures.ok) audited.told audited.read_fault audited.write_fault

pub returns-in-Ok-Gen-clause-served : goal.returns-in-Ok-Gen-clause-served
returns-in-Ok-Gen-clause-served g c =
    gen-served (map string_bytes c.args.words.now) c.in-Ok-Gen.seed c.in-Ok-Gen.count _ _ _ (subst (Spells (map string_bytes c.args.words.now)) c.in-Ok-Gen.field-0-is c.in-Ok-Gen.ensures.ok) c.generate.ensures.text refl refl refl c.generate.ensures.write_fault

pub returns-in-Err-clause-served : goal.returns-in-Err-clause-served
returns-in-Err-clause-served g c =
    let none = c.in-Err.ensures.err in
    record {
      script = λ k lanes spelled. absurd (none (Script k lanes) spelled);
      batch = λ k lanes workers spelled. absurd spelled;
      audit = λ spelled. absurd (none Audit spelled);
      gen = λ seed count spelled. absurd (none (Gen seed count) spelled);
      bad_words = λ _ mode spelled. none mode (alone-spells _ mode spelled);
      good_words = λ mode spelled. absurd (none mode (alone-spells _ mode spelled));
      other_words = λ _. refl;
      read_fault = λ is. absurd (cc);
      write_fault = λ is. absurd (cc);
      bad_input = λ line is. absurd (cc);
      audit_no = λ line is. absurd (cc);
    }
