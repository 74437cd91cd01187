-- What `gen` has written at each end of it, where its sink tells it.
use Rattle.std.specs.Prelude.{ℕ, List, [], Option}
use Rattle.scc_ports.specs.Ports.{Gains, GainsPrefix}
use Rattle.scc_replies.specs.declared.status.Status.{Status}
use Rattle.scc_replies.specs.declared.status.Status.TheVariants.{Done, BadWords, BadInput, ReadFault, WriteFault, OutOfMemory, InputLimit, AuditNo}
use Rattle.scc_gen.specs.Generated.{gen_text}

-- the whole text, a front of it where writing failed, or nothing where memory ran out; there is no other end
abbrev pub HasGenerated : Status → ℕ → ℕ → Option (List ℕ) → Option (List ℕ) → Type 0
HasGenerated Done seed count written_old written_new = Gains written_old written_new (gen_text seed count)
HasGenerated WriteFault seed count written_old written_new = GainsPrefix written_old written_new (gen_text seed count)
HasGenerated OutOfMemory seed count written_old written_new = Gains written_old written_new []
HasGenerated BadWords seed count written_old written_new = ⊥
HasGenerated (BadInput line) seed count written_old written_new = ⊥
HasGenerated ReadFault seed count written_old written_new = ⊥
HasGenerated InputLimit seed count written_old written_new = ⊥
HasGenerated (AuditNo line) seed count written_old written_new = ⊥
