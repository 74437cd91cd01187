-- The machine that takes in the lines that make tables.
use Rattle.std.specs.Prelude.{◌≡◌, ℕ, [], Result, Ok, Err}
use Rattle.line_loop.specs.Account.{Behaviour}
use Rattle.line_loop.specs.declared.flow.Flow.{Flow}
use Rattle.line_loop.specs.declared.flow.Flow.TheVariants.{GoOn, Stop}
use Rattle.line_loop.specs.declared.ending.Ending.{Ending}
use Rattle.line_loop.specs.declared.ending.Ending.TheVariants as endings
use Rattle.table_input.specs.declared.read.Reading.{Reading}
use Rattle.batch_input.specs.declared.read.Unread.{Unread}
use Rattle.batch_input.specs.declared.read.Unread.TheVariants as ends
use Rattle.scc_setup.specs.Opening.{Opening}
use Rattle.table_input.specs.Tables.{after_line}

-- a line that leads to these tables is gone on from; at one that is refused the reading stops, and keeps the number
abbrev pub IsTaken : Result Opening ℕ → Flow → Reading → Type 0
IsTaken (Ok after) flow new = (flow ≡ GoOn) × (new.setup ≡ after)
IsTaken (Err code) flow new = (flow ≡ Stop) × (new.refusal ≡ code)

-- it answers nothing and makes no step
abbrev pub behaviour : Behaviour Reading
behaviour = record {
  answers = λ old line flow reply steps new. IsTaken (after_line old.setup line) flow new × (reply ≡ []) × (steps ≡ 0);
  works = λ old steps new. (steps ≡ 0) × (new ≡ old);
  fails = λ old line steps new. steps ≡ 0;
  ends = λ reading text. text ≡ [];
}

-- what a reading that ended so has made, where so many lines were taken in or refused
abbrev pub made : Ending → Reading → ℕ → Result Opening Unread
made endings.Done reading number = Ok reading.setup
made endings.Stopped reading number = Err (ends.Bad number reading.refusal)
made endings.ReadFault reading number = Err ends.ReadFault
made endings.WriteFault reading number = Err ends.WriteFault
made endings.OutOfMemory reading number = Err ends.OutOfMemory
made endings.InputLimit reading number = Err ends.InputLimit
