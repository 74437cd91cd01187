-- A forest as its user sees it: lines, and what each of them is answered.
use Rattle.std.specs.Prelude.{◌≡◌, ℕ, false, if◌then◌else◌, List, [], ◌∷◌, Option, Some, None, Result, Ok, Err, length, drop}
use Rattle.txn_runs.specs.Run.{Tables}
use Rattle.txn_runs.specs.Serial.{outcome_of}
use Rattle.txn_runs.specs.declared.outcome.Outcome.{Outcome}
use Rattle.block_rule.specs.declared.role.Role.{Role}
use Rattle.block_rule.specs.declared.role.Role.TheVariants.{Optimistic, Guard}
use Rattle.block_rule.specs.declared.standing.Standing.{Standing}
use Rattle.block_rule.specs.Standing.{standing}
use Rattle.journal_core.specs.Journal.{commits}
use Rattle.journal_core.specs.declared.entry.Entry.{Entry}
use Rattle.forest_model.specs.Point.{Conflict}
use Rattle.forest_model.specs.Forest.{Shadow, Started, Forest, program, is_ended, wanted, find_started, is_started}
use Rattle.forest_model.specs.Start.{next_to_start}
use Rattle.forest_model.specs.Events.{Refusal, begin, step, commit, withdraw, resumed, laid, gone}
use Rattle.forest_model.specs.World.{World, Event, Begin, Step, Commit, Withdraw, happens}
use Rattle.forest_model.specs.Drain.{run_idle, drain}

-- a shadow as it is shown: its role, where it stands, its point where it waits, and whether it may make a step
abbrev pub Look : Type 0
Look = Role × (ℕ × (Option ℕ × Standing))

-- an event; steps of the pick as long as there is one; a drain; or a look at the shadows of t
pub data Line : Type 0 where
  Happens : Event → Line
  Run Drain : Line
  Show : (t : ℕ) → Line

-- what a line is answered
pub data Reply : Type 0 where
  Fine : Reply
  Refused : Refusal → Reply
  Starts Waits : (t : ℕ) → Reply
  At : (position : ℕ) → Reply
  Ends : Outcome → (resumed : List (ℕ × ℕ)) → (starts : Option ℕ) → Reply
  Leaves : (starts : Option ℕ) → Reply
  Makes : (steps : ℕ) → Reply
  Drains : (commits : List ℕ) → Reply
  Looks : List Look → Reply

-- the shadows that wait, each with its point
abbrev pub waiting_looks : List Shadow → List Conflict → List Look
waiting_looks [] ws = []
waiting_looks (s ∷ ss) [] = []
waiting_looks (s ∷ ss) (w ∷ ws) = (Guard s.guard, (s.position, (Some w.1, standing (Guard s.guard) s.position (Some w.1) false))) ∷ waiting_looks ss ws

-- the shadows of a transaction, the optimistic one first; none where it is not started
abbrev pub looks : Forest → Option Started → List Look
looks f None = []
looks f (Some r) = (Optimistic, (r.position, (None, standing Optimistic r.position None (is_ended f r)))) ∷ waiting_looks r.shadows (wanted f r)

-- a begin tells the number, and whether a lane was free
abbrev pub told_begin : Result (ℕ × Forest) Refusal → Reply
told_begin (Err refusal) = Refused refusal
told_begin (Ok answer) = if is_started answer.1.started answer.0 then Starts answer.0 else Waits answer.0

-- a step tells the new position
abbrev pub told_step : Result (ℕ × Forest) Refusal → Reply
told_step (Err refusal) = Refused refusal
told_step (Ok answer) = At answer.0

-- a commit tells the outcome, whom it takes back and where to, and who starts
abbrev pub told_commit : Forest → Option Started → Result Forest Refusal → Reply
told_commit f u (Err refusal) = Refused refusal
told_commit f None (Ok g) = Fine
told_commit f (Some u) (Ok g) = Ends (outcome_of (program f u) f.tables) (resumed f u) (next_to_start (laid f u))

-- a withdrawal tells who starts
abbrev pub told_withdraw : Forest → ℕ → Result Forest Refusal → Reply
told_withdraw f t (Err refusal) = Refused refusal
told_withdraw f t (Ok g) = Leaves (next_to_start (gone f t))

-- what an event is answered
abbrev pub told_event : Forest → Event → Reply
told_event f (Begin p deadline) = told_begin (begin f p deadline)
told_event f (Step t role) = told_step (step f t role)
told_event f (Commit t) = told_commit f (find_started f.started t) (commit f t)
told_event f (Withdraw t) = told_withdraw f t (withdraw f t)
told_event f _ = Fine

-- what a line is answered: a run tells its steps, a drain its commits
abbrev pub told : Forest → Line → Reply
told f (Happens event) = told_event f event
told f Run = Makes (run_idle f).0
told f Drain = Drains (drop (length (commits f.journal)) (commits (drain f).1.journal))
told f (Show t) = Looks (looks f (find_started f.started t))

-- the world after a line
abbrev pub after_line : World → Line → World
after_line w (Happens event) = happens w event
after_line w Run = record w { forest = (run_idle w.forest).1 }
after_line w Drain = record w { forest = (drain w.forest).1 }
after_line w (Show t) = w

-- the world after these lines
abbrev pub after_lines : List Line → World → World
after_lines [] w = w
after_lines (l ∷ ls) w = after_lines ls (after_line w l)

-- what these lines are answered
abbrev pub all_told : List Line → World → List Reply
all_told [] w = []
all_told (l ∷ ls) w = told w.forest l ∷ all_told ls (after_line w l)

-- from this world on, the lines are answered so, and this is the journal and these are the tables at the end
pub record IsTold (w : World) (lines : List Line) (replies : List Reply) (journal : List Entry) (tables : Tables) : Type 0 where
  pub told_all : all_told lines w ≡ replies
  pub last_journal : (after_lines lines w).forest.journal ≡ journal
  pub last_tables : (after_lines lines w).forest.tables ≡ tables
