-- A `begin` line whose bytes are no program.
use Rattle.std.proofs.Common.{ℕ, Result, Err, refl, ap, sym, ◌∙◌}
use Rattle.txn_runs.specs.declared.program.Program.{Program}
use Rattle.txn_syntax.specs.declared.refusal.ReadRefusal.{ReadRefusal}
use Rattle.txn_syntax.specs.declared.refusal.ReadRefusal.TheVariants.{Syntax, UnknownTable, Limit, OutOfMemory}
use Rattle.txn_syntax.specs.Reads.{Gives}
use Rattle.batch_input.specs.declared.taking.LineRefusal.{LineRefusal}
use Rattle.batch_input.specs.declared.taking.LineRefusal.TheVariants as refusals
use Rattle.batch_input.specs.Input.{Batch, after_begin}
use Rattle.batch_input.specs.Taking.{IsCodeOf, IsReason}

-- it is refused by the number of that, unless memory ran out
pub begin-refused : (b : Batch) (deadline : ℕ) (result : LineRefusal) (refusal : ReadRefusal) (read : Result Program ReadRefusal) → Gives (Err refusal) read → IsCodeOf result refusal
    → IsReason result (after_begin b deadline read)
begin-refused b deadline refusals.OutOfMemory refusal read gives code = tt
begin-refused b deadline (refusals.Code code) (Syntax at) read gives is = ap (after_begin b deadline) gives ∙ ap (λ n. Err n) (sym is.0)
begin-refused b deadline (refusals.Code code) (UnknownTable at) read gives is = ap (after_begin b deadline) gives ∙ ap (λ n. Err n) (sym is.0)
begin-refused b deadline (refusals.Code code) (Limit which) read gives is = ap (after_begin b deadline) gives ∙ ap (λ n. Err n) (sym is.0)
begin-refused b deadline (refusals.Code code) OutOfMemory read gives is = absurd (is.1 refl)
