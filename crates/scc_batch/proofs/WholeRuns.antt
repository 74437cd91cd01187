-- What a batch that was read to its end and run tells of the whole.
use Rattle.std.proofs.Common.{ℕ, List, [], take, Option, Result, Ok, Err, inl, sym, subst}
use Rattle.scc_ports.specs.Ports.{Gains, GainsPrefix}
use Rattle.scc_ports.proofs.Gained.{Gains-append}
use Rattle.scc_replies.specs.declared.status.Status.{Status}
use Rattle.scc_replies.specs.declared.status.Status.TheVariants as status
use Rattle.batch_input.specs.Input.{Batch}
use Rattle.batch_input.specs.Unread.{ReadInput}
use Rattle.batch_input.specs.declared.read.Unread.{Unread}
use Rattle.scc_batch.specs.Told.{Batched, HasAnswered, HasRun}

abbrev IsMade : Result Batch Unread → Type 0
IsMade (Ok batch) = Unit {0}
IsMade (Err end) = ⊥

-- nothing was written before
has-run : (answer : Status) (batch : Batch) (old middle new : Option (List ℕ)) → Gains old middle [] → HasRun answer batch middle new → HasRun answer batch old new
has-run status.Done batch old middle new silent ran = (ran.0, ran.1, Gains-append old middle new [] ran.0 silent ran.2)
has-run status.WriteFault batch old middle new silent ran =
    let front : GainsPrefix middle new ran.0 = ran.2 in
    (ran.0, ran.1, (front.0, Gains-append old middle new [] (take front.0 ran.0) silent front.1))
has-run status.OutOfMemory batch old middle new silent ran = Gains-append old middle new [] [] silent ran
has-run status.BadWords batch old middle new silent ran = ran
has-run (status.BadInput line) batch old middle new silent ran = ran
has-run status.ReadFault batch old middle new silent ran = ran
has-run status.InputLimit batch old middle new silent ran = ran
has-run (status.AuditNo line) batch old middle new silent ran = ran

pub batched : (answer : Status) (batch : Batch) (read : List ℕ) (left_old left_new old middle new : Option (List ℕ)) → ReadInput (Ok batch) read left_old left_new → Gains old middle []
    → HasRun answer batch middle new → Batched answer read left_old left_new old new
batched answer batch read left_old left_new old middle new reading silent ran = record {
  took = reading.took;
  few = reading.few;
  limit = ((λ is. absurd (subst (λ a. HasRun a batch middle new) is ran)), (λ many. absurd (subst IsMade (reading.limit.1 many) tt)));
  told = inl (subst (λ made. HasAnswered answer made read left_new old new) (sym reading.told.1) (reading.told.0, has-run answer batch old middle new silent ran));
}
