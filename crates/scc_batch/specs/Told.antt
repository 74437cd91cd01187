-- What a batch has read and written at each end of it.
use Rattle.std.specs.Prelude.{◌≡◌, ◌⊎◌, ◌↔◌, ◌≤◌, ℕ, List, [], length, Option, Result, Ok, Err}
use Rattle.std.specs.Io.KnownBytes.{Consumes, IsAtEnd}
use Rattle.scc_ports.specs.Ports.{Gains, GainsPrefix}
use Rattle.scc_replies.specs.declared.status.Status.{Status}
use Rattle.scc_replies.specs.declared.status.Status.TheVariants as status
use Rattle.txn_runs.specs.Run.{Tables}
use Rattle.txn_names.specs.Tables.{Named}
use Rattle.batch_input.specs.declared.request.Request.{Request}
use Rattle.batch_input.specs.Input.{Batch, Bad, batch_input}
use Rattle.batch_input.specs.Unread.{IsReadThrough}
use Rattle.refused_input.specs.Refused.{HasRefused}
use Rattle.report_text.specs.Order.{order_of, NamesEachOnce}
use Rattle.report_text.specs.Report.{report}
use Rattle.scc_batch.specs.Opened.{programs_of}

-- A text is the full report of these programs over these tables in the order that its commit lines name, and they name each once.
pub record IsReport (names : List Named) (tables : Tables) (requests : List Request) (text : List ℕ) : Type 0 where
  pub whole : text ≡ report names tables (programs_of requests) (order_of text)
  pub once : NamesEachOnce (length requests) (order_of text)

-- a report of a batch
abbrev pub IsReportOf : Batch → List ℕ → Type 0
IsReportOf batch text = IsReport batch.opening.names batch.opening.tables batch.requests text

-- a batch that was read to its end and ended so: a report was written, or the front of one, or nothing
abbrev pub HasRun : Status → Batch → Option (List ℕ) → Option (List ℕ) → Type 0
HasRun status.Done batch old new = (text : List ℕ) × IsReportOf batch text × Gains old new text
HasRun status.WriteFault batch old new = (text : List ℕ) × IsReportOf batch text × GainsPrefix old new text
HasRun status.OutOfMemory batch old new = Gains old new []
HasRun status.BadWords batch old new = ⊥
HasRun (status.BadInput line) batch old new = ⊥
HasRun status.ReadFault batch old new = ⊥
HasRun status.InputLimit batch old new = ⊥
HasRun (status.AuditNo line) batch old new = ⊥

-- what these bytes make was run, or refused
abbrev pub HasAnswered : Status → Result Batch Bad → List ℕ → Option (List ℕ) → Option (List ℕ) → Option (List ℕ) → Type 0
HasAnswered status (Ok batch) read left old new = IsAtEnd left × HasRun status batch old new
HasAnswered status (Err bad) read left old new = IsReadThrough read bad.line left × HasRefused status bad.line bad.code old new

-- the reading ended so before the input was known, and nothing was written
abbrev pub HasStopped : Status → Option (List ℕ) → Option (List ℕ) → Type 0
HasStopped status.ReadFault old new = Gains old new []
HasStopped status.InputLimit old new = Gains old new []
HasStopped status.WriteFault old new = Gains old new []
HasStopped status.OutOfMemory old new = Gains old new []
HasStopped status.Done old new = ⊥
HasStopped status.BadWords old new = ⊥
HasStopped (status.BadInput line) old new = ⊥
HasStopped (status.AuditNo line) old new = ⊥

-- A batch that read these bytes, and ended so.
pub record Batched (answer : Status) (read : List ℕ) (left_old left_new written_old written_new : Option (List ℕ)) : Type 0 where
  pub took : Consumes left_old left_new read
  pub few : length read ≤ 67108865
  pub limit : (answer ≡ status.InputLimit) ↔ (length read ≡ 67108865)
  pub told : HasAnswered answer (batch_input read) read left_new written_old written_new ⊎ HasStopped answer written_old written_new
