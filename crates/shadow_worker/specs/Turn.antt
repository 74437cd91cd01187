-- A turn as a function of the forest and the bench's job: the job comes back, a step is made under the gate, and the pick leaves if more work is wanted.
use Rattle.std.specs.Prelude.{◌≡◌, Bool, true, false, Option, Some, None, option_map}
use Rattle.txn_code.specs.Nodes.{nodes_of}
use Rattle.journal_core.specs.Journal.{program_of}
use Rattle.forest_model.specs.declared.did.Did.{Did}
use Rattle.forest_model.specs.Forest.{Forest}
use Rattle.forest_model.specs.Pick.{pick}
use Rattle.forest_model.specs.Jobs.{Job, job_of, give, take_pick}
use Rattle.forest_model.specs.Drain.{gate_step}
use Rattle.shadow_forest.specs.View.{View, with_numbers, gate_step_view}
use Rattle.shadow_forest.specs.Bench.{Outside, job_in, after_give}

-- the job is of the program that the journal has for its transaction
abbrev pub IsOfProgram : Forest → Outside → Type 0
IsOfProgram f x = x.nodes ≡ nodes_of (program_of f.journal x.number)

-- after the job, if there is one, was given back
abbrev pub given_view : View → Option Outside → View
given_view v None = v
given_view v (Some x) = with_numbers (after_give v.numbers (give v.numbers (job_in v.numbers x))) v

-- after that and a step under the gate
abbrev pub gated_view : View → Option Outside → View
gated_view v outside = gate_step_view (given_view v outside)

-- what that step did
abbrev pub turn_did : View → Option Outside → Did
turn_did v outside = (gate_step (given_view v outside).numbers).0

-- after the pick was taken, where more is asked for
abbrev pub taken_view : Bool → View → View
taken_view true v = with_numbers (take_pick v.numbers) v
taken_view false v = v

-- the job that is taken: that of the pick, where more is asked for
abbrev pub taken_job : Bool → Forest → Option Job
taken_job true f = option_map (job_of f) (pick f)
taken_job false f = None

-- after a turn
abbrev pub turn_view : View → Option Outside → Bool → View
turn_view v outside more = taken_view more (gated_view v outside)

-- the job that a turn takes
abbrev pub turn_job : View → Option Outside → Bool → Option Job
turn_job v outside more = taken_job more (gated_view v outside).numbers
