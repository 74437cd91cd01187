-- What a machine may do, the account of a loop over lines, and how each end of the loop comes.
use Rattle.std.specs.Prelude.{◌≡◌, ◌⊎◌, ◌↔◌, ℕ, ◌+◌, ◌≤◌, List, [], ◌∷◌, ◌++◌, length, Option}
use Rattle.std.specs.Io.KnownBytes.{Consumes, IsAtEnd}
use Rattle.scc_ports.specs.Ports.{Gains, GainsPrefix, Rose}
use Rattle.scc_text.specs.Lines.{lines_of, whole_lines, within_limit}
use Rattle.scc_text.specs.Reader.{Reader}
use Rattle.scc_text.specs.LinesRead.{LinesRead}
use Rattle.line_loop.specs.declared.flow.Flow.{Flow}
use Rattle.line_loop.specs.declared.flow.Flow.TheVariants.{GoOn, WorkOn, Stop}
use Rattle.line_loop.specs.declared.ending.Ending.{Ending}
use Rattle.line_loop.specs.declared.ending.Ending.TheVariants.{Done, Stopped, ReadFault, WriteFault, OutOfMemory, InputLimit}

-- a machine, by what it may do: answer a line, work on behind a written reply, run out of memory at a line, end with lines
pub record Behaviour (M : Type 0) : Type 1 where
  pub answers : M → List ℕ → Flow → List ℕ → ℕ → M → Type 0
  pub works : M → ℕ → M → Type 0
  pub fails : M → List ℕ → ℕ → M → Type 0
  pub ends : M → List ℕ → Type 0

-- A line that was answered, with the reply that was written: the steps of the answer and of the work behind it, and the machine
-- after each.
pub record Exchange (M : Type 0) : Type 0 where
  pub line : List ℕ
  pub flow : Flow
  pub reply : List ℕ
  pub steps : ℕ
  pub answered : M
  pub work : ℕ
  pub next : M

-- the lines that were answered
abbrev pub lines_in : {M : Type 0} → List (Exchange M) → List (List ℕ)
lines_in [] = []
lines_in (exchange ∷ exchanges) = exchange.line ∷ lines_in exchanges

-- the replies, in order
abbrev pub replies_in : {M : Type 0} → List (Exchange M) → List ℕ
replies_in [] = []
replies_in (exchange ∷ exchanges) = exchange.reply ++ replies_in exchanges

-- the steps in all
abbrev pub steps_in : {M : Type 0} → List (Exchange M) → ℕ
steps_in [] = 0
steps_in (exchange ∷ exchanges) = exchange.steps + exchange.work + steps_in exchanges

-- what lies between an answer and the next line
abbrev pub Follows : {M : Type 0} → Behaviour M → Flow → M → ℕ → M → Type 0
Follows m GoOn answered work next = (work ≡ 0) × (next ≡ answered)
Follows m WorkOn answered work next = m.works answered work next
Follows m Stop answered work next = ⊥

-- From the one state on these lines were answered, and the machine went on behind each, to the other state.
abbrev pub GoesThrough : {M : Type 0} → Behaviour M → M → List (Exchange M) → M → Type 0
GoesThrough m start [] now = now ≡ start
GoesThrough m start (exchange ∷ exchanges) now = m.answers start exchange.line exchange.flow exchange.reply exchange.steps exchange.answered × Follows m exchange.flow exchange.answered exchange.work exchange.next × GoesThrough m exchange.next exchanges now

-- a line that was answered so, and its reply was written
abbrev pub Replied : {M : Type 0} → (M → List ℕ → Flow → List ℕ → ℕ → M → Type 0) → Flow → M → List ℕ → ℕ → M → Option (List ℕ) → Option (List ℕ) → Type 0
Replied answers flow old line steps new written_old written_new = (reply : List ℕ) × answers old line flow reply steps new × Gains written_old written_new reply

-- a line at which the sink failed, with a front of the reply written, or memory ran out, with nothing written
abbrev pub Broke : {M : Type 0} → (M → List ℕ → Flow → List ℕ → ℕ → M → Type 0) → (M → List ℕ → ℕ → M → Type 0) → Ending → M → List ℕ → ℕ → M → Option (List ℕ) → Option (List ℕ) → Type 0
Broke answers fails WriteFault old line steps new written_old written_new = (flow : Flow) × (reply : List ℕ) × answers old line flow reply steps new × GainsPrefix written_old written_new reply
Broke answers fails OutOfMemory old line steps new written_old written_new = fails old line steps new × Gains written_old written_new []
Broke answers fails Done old line steps new written_old written_new = ⊥
Broke answers fails Stopped old line steps new written_old written_new = ⊥
Broke answers fails ReadFault old line steps new written_old written_new = ⊥
Broke answers fails InputLimit old line steps new written_old written_new = ⊥

-- the same at the end of the input
abbrev pub EndBroke : {M : Type 0} → (M → List ℕ → Type 0) → Ending → M → Option (List ℕ) → Option (List ℕ) → Type 0
EndBroke ends WriteFault machine written_old written_new = (text : List ℕ) × ends machine text × GainsPrefix written_old written_new text
EndBroke ends OutOfMemory machine written_old written_new = Gains written_old written_new []
EndBroke ends Done machine written_old written_new = ⊥
EndBroke ends Stopped machine written_old written_new = ⊥
EndBroke ends ReadFault machine written_old written_new = ⊥
EndBroke ends InputLimit machine written_old written_new = ⊥

-- a reply couldn't be written: the sink has counted a fault, or memory ran out
abbrev pub IsBreak : ℕ → ℕ → Ending → Type 0
IsBreak before now WriteFault = Rose before now
IsBreak before now OutOfMemory = Unit {0}
IsBreak before now Done = ⊥
IsBreak before now Stopped = ⊥
IsBreak before now ReadFault = ⊥
IsBreak before now InputLimit = ⊥

-- the reader has answered these lines and then this one, and may go on
abbrev pub AtLine : Reader → Option (List ℕ) → Option (List ℕ) → List ℕ → List (List ℕ) → List ℕ → Type 0
AtLine reader left_old left read done line = (pending : List ℕ) × LinesRead reader left_old left read (done ++ line ∷ []) pending

-- the input was read to its end, and these are its lines
abbrev pub AtEnd : Option (List ℕ) → Option (List ℕ) → List ℕ → List (List ℕ) → Type 0
AtEnd left_old left read done = Consumes left_old left read × IsAtEnd left × (lines_of read ≡ done)

-- the source failed, or more bytes came than count: these are the lines whose newline is among the bytes that count
abbrev pub AtWhole : Option (List ℕ) → Option (List ℕ) → List ℕ → List (List ℕ) → Type 0
AtWhole left_old left read done = Consumes left_old left read × (whole_lines (within_limit read) ≡ done)

-- How each end came behind the lines that were answered and gone on from. There the machine was `from` and is `to` now, so many
-- steps were made, and the sink told the first and tells the second.
abbrev pub Closes : {M : Type 0} → Behaviour M → Ending → M → M → ℕ → Option (List ℕ) → Option (List ℕ) → Reader → Option (List ℕ) → Option (List ℕ) → List ℕ → List (List ℕ) → Type 0
Closes m Done from to steps told written reader left_old left read done =
    AtEnd left_old left read done × (to ≡ from) × (steps ≡ 0) × ((text : List ℕ) × m.ends to text × Gains told written text)
Closes m Stopped from to steps told written reader left_old left read done =
    (line : List ℕ) × AtLine reader left_old left read done line × Replied m.answers Stop from line steps to told written
Closes m ReadFault from to steps told written reader left_old left read done = AtWhole left_old left read done × (to ≡ from) × (steps ≡ 0) × (written ≡ told)
Closes m InputLimit from to steps told written reader left_old left read done = AtWhole left_old left read done × (to ≡ from) × (steps ≡ 0) × (written ≡ told)
Closes m WriteFault from to steps told written reader left_old left read done =
    ((line : List ℕ) × AtLine reader left_old left read done line × Broke m.answers m.fails WriteFault from line steps to told written)
    ⊎ (AtEnd left_old left read done × (to ≡ from) × (steps ≡ 0) × EndBroke m.ends WriteFault to told written)
Closes m OutOfMemory from to steps told written reader left_old left read done =
    ((line : List ℕ) × AtLine reader left_old left read done line × Broke m.answers m.fails OutOfMemory from line steps to told written)
    ⊎ (AtEnd left_old left read done × (to ≡ from) × (steps ≡ 0) × EndBroke m.ends OutOfMemory to told written)

-- A loop that began with a reader that had answered these lines, and ended so.
pub record Looped {M : Type 0} (m : Behaviour M) (start now : M) (status : Ending) (reader : Reader) (left_old left : Option (List ℕ)) (done : List (List ℕ)) (written_old written : Option (List ℕ)) (steps_old steps : ℕ) : Type 0 where
  -- all bytes that were read, those before the loop too
  pub read : List ℕ
  pub few : length read ≤ 67108865
  pub limit : (status ≡ InputLimit) ↔ (length read ≡ 67108865)
  -- the lines that were answered and gone on from, and where the machine and the sink were behind them
  pub exchanges : List (Exchange M)
  pub from : M
  pub told : Option (List ℕ)
  pub more : ℕ
  pub went : GoesThrough m start exchanges from
  pub wrote : Gains written_old told (replies_in exchanges)
  pub ticked : steps ≡ steps_old + steps_in exchanges + more
  pub closes : Closes m status from now more told written reader left_old left read (done ++ lines_in exchanges)
