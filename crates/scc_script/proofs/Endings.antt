-- An end of the loop over lines is an end of the script.
use Rattle.std.proofs.Common.{◌≡◌, ℕ, List, Option, subst}
use Rattle.scc_text.specs.declared.command.Dialect.TheVariants as dialect
use Rattle.line_loop.specs.Meaning.{Ran}
use Rattle.line_loop.specs.declared.ending.Ending.{Ending}
use Rattle.scc_replies.specs.declared.status.Status.{Status}
use Rattle.scc_script.specs.Text.{Script, meaning, opening_script}
use Rattle.scc_script.specs.Ran.{status_of, ScriptRan}

-- where the machine begins as the script before its first line
pub script_ran : {left_old left_new written_old written_new : Option (List ℕ)} {steps_old steps_new : ℕ} (k lanes : ℕ) (machine : Script) (ending : Ending) {status : Status}
    → status ≡ status_of ending → machine ≡ opening_script k lanes
    → (read : List ℕ) × Ran (meaning dialect.Script) machine ending read left_old left_new written_old written_new steps_old steps_new
    → (read : List ℕ) × ScriptRan k lanes status read left_old left_new written_old written_new steps_old steps_new
script_ran {left_old} {left_new} {written_old} {written_new} {steps_old} {steps_new} k lanes machine ending told is r =
    (r.0, record { ending = ending; status = told; ran = subst (λ s. Ran (meaning dialect.Script) s ending r.0 left_old left_new written_old written_new steps_old steps_new) is r.1 })
