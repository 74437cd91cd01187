-- How a script ended, and what was written by then.
use Rattle.std.specs.Prelude.{◌≡◌, ℕ, List, Option}
use Rattle.scc_text.specs.declared.command.Dialect.TheVariants as dialect
use Rattle.line_loop.specs.Meaning.{Ran}
use Rattle.line_loop.specs.declared.ending.Ending.{Ending}
use Rattle.line_loop.specs.declared.ending.Ending.TheVariants as ending
use Rattle.scc_replies.specs.declared.status.Status.{Status}
use Rattle.scc_replies.specs.declared.status.Status.TheVariants as status
use Rattle.scc_script.specs.Text.{meaning, opening_script}

-- an end of the loop over lines, as a run's status; a script never stops before the end of its input
abbrev pub status_of : Ending → Status
status_of ending.Done = status.Done
status_of ending.Stopped = status.Done
status_of ending.ReadFault = status.ReadFault
status_of ending.WriteFault = status.WriteFault
status_of ending.OutOfMemory = status.OutOfMemory
status_of ending.InputLimit = status.InputLimit

-- a script for so many shadows and lanes that read these bytes and ended so
pub record ScriptRan (k lanes : ℕ) (answer : Status) (read : List ℕ) (left_old left_new written_old written_new : Option (List ℕ)) (steps_old steps_new : ℕ) : Type 0 where
  pub ending : Ending
  pub status : answer ≡ status_of ending
  pub ran : Ran (meaning dialect.Script) (opening_script k lanes) ending read left_old left_new written_old written_new steps_old steps_new
