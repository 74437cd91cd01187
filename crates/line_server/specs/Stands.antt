-- A session between two lines, and what an answer, work and want of memory do to it.
use Rattle.std.specs.Prelude.{◌≡◌, ◌⊎◌, ℕ, Bool, true, false, List, [], ◌∷◌, ◌++◌, length, map, Option, Some, None}
use mathlib.Core.List.{IsPrefix}
use Rattle.atomic_table.specs.Seated.{TableId}
use Rattle.turn_cell.specs.declared.Kept.{Ghosts}
use Rattle.turn_cell.specs.declared.cell.Pass.{Pass}
use Rattle.turn_cell.specs.Passes.{seen_by, turns_of, seats_of}
use Rattle.shadow_forest.specs.declared.forest.Forest.{Forest}
use Rattle.line_loop.specs.declared.ending.Ending.{Ending}
use Rattle.line_loop.specs.declared.ending.Ending.TheVariants as ending
use Rattle.line_server.specs.declared.end.SessionEnd.{SessionEnd}
use Rattle.line_server.specs.declared.end.SessionEnd.TheVariants as end
use Rattle.line_loop.specs.declared.flow.Flow.{Flow}
use Rattle.line_loop.specs.declared.flow.Flow.TheVariants.{GoOn, WorkOn, Stop}
use Rattle.txn_names.specs.Tables.{Named}
use Rattle.journal_core.specs.declared.entry.Entry.{Entry}
use Rattle.shadow_forest.specs.Listed.{happened}
use Rattle.shadow_forest.specs.declared.kept.Item.{Item}
use Rattle.shadow_worker.specs.Worked.{HasWorked}
use Rattle.line_server.specs.Answers.{line_command, is_blank, is_quit}
use Rattle.line_server.specs.Talks.{answer_at}

-- The names of the tables, how many turns it works behind a line, and of its pass: the seats, the cell, what it has seen and its turns.
pub record Stand : Type 0 where
  pub names : List Named
  pub help : ℕ
  pub seats : ℕ
  pub cell : Option TableId
  pub seen : List Item
  pub turns : List (ℕ × ℕ)

-- what the pass knows, if it is there; else nothing
module _ {g : Ghosts Forest Item} where
  abbrev pub seats_in : Option (Pass Forest Item g) → ℕ
  seats_in None = 0
  seats_in (Some pass) = seats_of pass

  abbrev pub cell_in : Option (Pass Forest Item g) → Option TableId
  cell_in None = None
  cell_in (Some pass) = Some pass.seat.table_id

  abbrev pub seen_in : Option (Pass Forest Item g) → List Item
  seen_in None = []
  seen_in (Some pass) = seen_by pass

  abbrev pub turns_in : Option (Pass Forest Item g) → List (ℕ × ℕ)
  turns_in None = []
  turns_in (Some pass) = turns_of pass

  -- where a session stands
  abbrev pub stand : List Named → ℕ → Option (Pass Forest Item g) → Stand
  stand names help pass = record { names = names; help = help; seats = seats_in pass; cell = cell_in pass; seen = seen_in pass; turns = turns_in pass }

-- what no line changes
pub record IsSameSession (old new : Stand) : Type 0 where
  pub names : new.names ≡ old.names
  pub help : new.help ≡ old.help
  pub seats : new.seats ≡ old.seats
  pub cell : new.cell ≡ old.cell

-- the pass has seen no more, and has taken no turn
pub record IsStill (old new : Stand) : Type 0 where
  pub seen : new.seen ≡ old.seen
  pub turns : new.turns ≡ old.turns

-- one turn was taken, which found this list and added these entries
pub record HasTurned (seen : List Item) (turns : List (ℕ × ℕ)) (found : List Item) (adds : List Entry) (seen' : List Item) (turns' : List (ℕ × ℕ)) : Type 0 where
  pub began : IsPrefix seen found
  pub left : seen' ≡ found ++ map happened adds
  pub turned : turns' ≡ turns ++ (length found, length seen') ∷ []

-- the same of a turn whose line found no memory: it added these entries, or none
abbrev pub HasTurnedOr : List Item → List (ℕ × ℕ) → List Item → List Entry → List Item → List (ℕ × ℕ) → Type 0
HasTurnedOr seen turns found adds seen' turns' = HasTurned seen turns found adds seen' turns' ⊎ HasTurned seen turns found [] seen' turns'

-- what comes behind the reply to a line
abbrev pub flow_of : Bool → Flow
flow_of true = Stop
flow_of false = WorkOn

-- a line that isn't blank was answered in a turn
pub record HasSpoken (old : Stand) (line : List ℕ) (flow : Flow) (reply : List ℕ) (new : Stand) : Type 0 where
  pub found : List Item
  pub turned : HasTurned old.seen old.turns found (answer_at old.names found line).adds new.seen new.turns
  pub reply_is : reply ≡ (answer_at old.names found line).reply
  pub flow_is : flow ≡ flow_of (is_quit (line_command line))

-- a blank line was passed over
pub record HasPassed (old : Stand) (flow : Flow) (reply : List ℕ) (new : Stand) : Type 0 where
  pub still : IsStill old new
  pub reply_is : reply ≡ []
  pub flow_is : flow ≡ GoOn

abbrev pub AnswersBy : Bool → Stand → List ℕ → Flow → List ℕ → Stand → Type 0
AnswersBy true old line flow reply new = HasPassed old flow reply new
AnswersBy false old line flow reply new = HasSpoken old line flow reply new

-- a line was answered
abbrev pub Answers : Stand → List ℕ → Flow → List ℕ → Stand → Type 0
Answers old line flow reply new = AnswersBy (is_blank (line_command line)) old line flow reply new

-- a line found no memory: no turn was taken, or one that added what the line adds, or nothing
abbrev pub Fails : Stand → List ℕ → Stand → Type 0
Fails old line new =
    IsStill old new ⊎ ((is_blank (line_command line) ≡ false) × (found : List Item) × HasTurnedOr old.seen old.turns found (answer_at old.names found line).adds new.seen new.turns)

-- the end of a session by that of its loop over lines
abbrev pub end_of : Ending → SessionEnd
end_of ending.Done = end.End
end_of ending.Stopped = end.Quit
end_of ending.ReadFault = end.ReadFault
end_of ending.WriteFault = end.WriteFault
end_of ending.OutOfMemory = end.OutOfMemory
end_of ending.InputLimit = end.InputLimit

-- work was done behind a reply
abbrev pub Works : Stand → Stand → Type 0
Works old new = HasWorked old.seen old.turns old.help new.seen new.turns

-- the reference to a bench is the same, and so is the bench
abbrev pub IsSameBench : {N B : Type 0} → N → N → B → B → Type 0
IsSameBench old_name new_name old new = (new_name ≡ old_name) × (new ≡ old)
