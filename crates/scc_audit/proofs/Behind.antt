-- How an input is judged, behind its head.
use Rattle.std.proofs.Common.{◌≡◌, ◌≢◌, ◌↔◌, ◌<◌, ◌≤◌, ℕ, ◌+◌, Bool, true, false, List, [], ◌∷◌, ◌++◌, length, drop, Option, Result, Ok, Err, refl, sym, ap, ◌∙◌, subst, append-nil, length-append, arith}
use Rattle.std.proofs.lemmas.List.{drop_at}
use Rattle.std.specs.Io.KnownBytes.{Consumes, IsAtEnd}
use Rattle.scc_text.specs.Lines.{lines_of}
use Rattle.scc_text.specs.Reader.{Reader, Rests}
use Rattle.scc_text.specs.declared.next.Rest.{Rest}
use Rattle.scc_text.specs.declared.next.Rest.TheVariants as rest
use Rattle.scc_text.proofs.Asked.{Consumes-append}
use Rattle.std.specs.List.{All}
use Rattle.std.proofs.Math.ListN.{get_or}
use Rattle.std.proofs.lemmas.List.Elements.{All-map}
use Rattle.scc_ports.specs.Ports.{Rose}
use Rattle.txn_runs.specs.Run.{Tables}
use Rattle.txn_runs.specs.Bounds.{reach}
use Rattle.txn_runs.specs.declared.program.Program.{Program}
use Rattle.txn_names.specs.Tables.{Named, items_of}
use Rattle.batch_input.specs.declared.request.Request.{Request}
use Rattle.batch_input.specs.Taking.{IsFit}
use Rattle.batch_input.specs.Input.{Batch, programs_of}
use Rattle.audit_head.specs.declared.form.Form.{Form}
use Rattle.audit_head.specs.declared.form.Form.TheVariants as forms
use Rattle.audit_head.specs.declared.form.HeadEnd.{HeadEnd}
use Rattle.audit_head.specs.declared.form.HeadEnd.TheVariants as ends
use Rattle.audit_head.specs.Head.{Head, head_of, input_head}
use Rattle.audit_head.specs.Behind.{past_lines}
use Rattle.audit_head.specs.Reading.{IsHeadRead, HeadRead}
use Rattle.journal_table.specs.Spelled.{rows_in}
use Rattle.report_check.specs.declared.verdict.Verdict.{Verdict}
use Rattle.report_check.specs.declared.verdict.AuditEnd.{AuditEnd}
use Rattle.report_check.specs.declared.verdict.AuditEnd.TheVariants as audit_ends
use Rattle.report_check.specs.Reports.{IsReportVerdict}
use Rattle.report_check.specs.Audited.{Says, Audited}
use Rattle.serial_audit.specs.Tables.{IsTableVerdict}
use Rattle.scc_audit.specs.Told.{IsInputVerdict}
use Rattle.scc_audit.specs.Judged.{IsJudged, InputJudged, end_by}

-- the same answer, with the end of the input
abbrev pub with_end : Result Verdict AuditEnd → Result Verdict HeadEnd
with_end (Ok verdict) = Ok verdict
with_end (Err end) = Err (end_by end)

-- the limit is told exactly where one byte too many was taken
limit-report : (result : Result Verdict AuditEnd) (size : ℕ) → (result ≡ Err audit_ends.InputLimit) ↔ (size ≡ 67108865) → (with_end result ≡ Err ends.InputLimit) ↔ (size ≡ 67108865)
limit-report (Ok verdict) size limit = (λ is. absurd (cc), λ is. absurd (let e = limit.1 is in cc))
limit-report (Err audit_ends.ReadFault) size limit = (λ is. absurd (cc), λ is. absurd (let e = limit.1 is in cc))
limit-report (Err audit_ends.InputLimit) size limit = (λ _. limit.0 refl, λ _. refl)
limit-report (Err audit_ends.OutOfMemory) size limit = (λ is. absurd (cc), λ is. absurd (let e = limit.1 is in cc))

said-report : (batch : Batch) (goes_on : Bool) (reader : Reader) (left mid left_new : Option (List ℕ)) (before read : List ℕ) (result : Result Verdict AuditEnd) (h : IsHeadRead (batch, forms.Report, goes_on) reader left mid before)
    → Says batch.opening.names batch.opening.tables (programs_of batch.requests) h.done read left_new result → IsJudged (with_end result) read left_new
said-report batch goes_on reader left mid left_new before read (Ok verdict) h says =
    let behind : drop (length h.done) (lines_of read) ≡ says.0 = ap (drop (length h.done)) says.1 ∙ drop_at h.done says.0 (length h.done) refl in
    record {
      head = record { batch = batch; form = forms.Report; lines = length h.done };
      begins = ap head_of says.1 ∙ h.head says.0;
      judged = subst (λ lines. IsReportVerdict batch.opening.names batch.opening.tables (programs_of batch.requests) (length h.done) lines verdict) (sym behind) says.2;
      far = says.3;
    }
said-report batch goes_on reader left mid left_new before read (Err audit_ends.ReadFault) h says = tt
said-report batch goes_on reader left mid left_new before read (Err audit_ends.InputLimit) h says = tt
said-report batch goes_on reader left mid left_new before read (Err audit_ends.OutOfMemory) h says = tt

-- A report was audited behind the head.
pub judged-report : (batch : Batch) (goes_on : Bool) (reader : Reader) (left mid left_new : Option (List ℕ)) (before : List ℕ) (result : Result Verdict AuditEnd) (h : IsHeadRead (batch, forms.Report, goes_on) reader left mid before)
    → Audited batch.opening.names batch.opening.tables (programs_of batch.requests) h.done left left_new result → (read : List ℕ) × InputJudged (with_end result) read left left_new
judged-report batch goes_on reader left mid left_new before result h audited = (
  audited.read,
  record {
    took = audited.took;
    few = audited.few;
    limit = limit-report result (length audited.read) audited.limit;
    judged = said-report batch goes_on reader left mid left_new before audited.read result h audited.says;
  },
)

-- Nothing was read behind the head, for want of memory.
pub judged-not : (made : Batch × Form × Bool) (reader : Reader) (left mid : Option (List ℕ)) (before : List ℕ) → reader.taken ≤ 67108864 → IsHeadRead made reader left mid before
    → (read : List ℕ) × InputJudged (Err ends.OutOfMemory) read left mid
judged-not made reader left mid before room h = (
  before,
  record {
    took = h.lines.took;
    few = omega (arith, h.lines.count);
    limit = (λ is. absurd (cc), λ many. absurd (omega (arith, h.lines.count, many)));
    judged = tt;
  },
)

-- these bytes are behind the head of a journal, and the source has no more
pub record IsBehind (batch : Batch) (left left_new : Option (List ℕ)) (bytes : List ℕ) : Type 0 where
  pub read : List ℕ
  pub took : Consumes left left_new read
  pub few : length read ≤ 67108864
  pub lines : ℕ
  pub begins : input_head read ≡ Ok (record { batch = batch; form = forms.Journal; lines = lines })
  pub behind : past_lines lines read ≡ bytes
  pub ended : IsAtEnd left_new

-- a journal without a row
behind-none : (batch : Batch) (reader : Reader) (left mid : Option (List ℕ)) (before : List ℕ) → reader.taken ≤ 67108864 → IsHeadRead (batch, forms.Journal, false) reader left mid before → IsBehind batch left mid []
behind-none batch reader left mid before room h =
    let over = h.all refl in
    let tail = h.tail [] (λ _. refl) in
    record {
      read = before;
      took = h.lines.took;
      few = omega (arith, h.lines.count);
      lines = length h.done;
      begins = ap input_head (sym (append-nil before)) ∙ ap head_of tail.0 ∙ h.head (lines_of (h.pending ++ []));
      behind = ap (past_lines (length h.done)) (sym (append-nil before)) ∙ tail.1 ∙ ap (λ xs. xs ++ []) over.1;
      ended = over.0;
    }

-- what is behind the head was read to its end
behind-rest : (batch : Batch) (old new : Reader) (left mid left_new : Option (List ℕ)) (before got bytes : List ℕ) → new.taken ≤ 67108864 → IsHeadRead (batch, forms.Journal, true) old left mid before
    → Rests rest.End old new mid left_new [] bytes got → IsBehind batch left left_new bytes
behind-rest batch old new left mid left_new before got bytes room h rests =
    let tail = h.tail got (λ is. absurd (cc)) in
    record {
      read = before ++ got;
      took = Consumes-append left mid left_new before got h.lines.took rests.took;
      few = omega (arith, h.lines.count, rests.count, length-append before got);
      lines = length h.done;
      begins = ap head_of tail.0 ∙ h.head (lines_of (h.pending ++ got));
      behind = tail.1 ∙ sym (rests.appends h.pending h.lines.held);
      ended = (rests.at_end refl).1 h.lines.at_end;
    }

not-past : (taken : ℕ) → taken ≤ 67108865 → (rest.End ≡ rest.InputLimit) ↔ (taken ≡ 67108865) → taken ≤ 67108864
not-past taken most limit = let ne : taken ≢ 67108865 = λ is. (let e = limit.1 is in cc) in omega (arith, most, ne)

-- The reader went on behind the head.
pub behind-read : (batch : Batch) (goes_on : Bool) (old new : Reader) (left mid left_new : Option (List ℕ)) (before got out bytes : List ℕ) → goes_on ≡ true → out ≡ [] → new.taken ≤ 67108865
    → (rest.End ≡ rest.InputLimit) ↔ (new.taken ≡ 67108865) → IsHeadRead (batch, forms.Journal, goes_on) old left mid before → Rests rest.End old new mid left_new out bytes got → IsBehind batch left left_new bytes
behind-read batch goes_on old new left mid left_new before got out bytes goes empty room limit h rests =
    behind-rest batch old new left mid left_new before got bytes (not-past new.taken room limit)
    (subst (λ b. IsHeadRead (batch, forms.Journal, b) old left mid before) goes h)
    (subst (λ xs. Rests rest.End old new mid left_new xs bytes got) empty rests)

-- Nothing can follow the head.
pub behind-over : (batch : Batch) (goes_on : Bool) (reader : Reader) (left mid : Option (List ℕ)) (before bytes : List ℕ) → goes_on ≡ false → bytes ≡ [] → reader.taken ≤ 67108864
    → IsHeadRead (batch, forms.Journal, goes_on) reader left mid before → IsBehind batch left mid bytes
behind-over batch goes_on reader left mid before bytes over empty room h =
    subst (IsBehind batch left mid) (sym empty) (behind-none batch reader left mid before room (subst (λ b. IsHeadRead (batch, forms.Journal, b) reader left mid before) over h))

-- A journal was audited.
pub judged-rows : (batch : Batch) (left left_new : Option (List ℕ)) (bytes : List ℕ) (verdict : Verdict) → IsBehind batch left left_new bytes
    → IsTableVerdict batch.opening.names batch.opening.tables (rows_in bytes) verdict → (read : List ℕ) × InputJudged (Ok verdict) read left left_new
judged-rows batch left left_new bytes verdict b is = (
  b.read,
  record {
    took = b.took;
    few = omega (arith, b.few);
    limit = (λ is. absurd (cc), λ many. absurd (omega (arith, b.few, many)));
    judged = record {
      head = record { batch = batch; form = forms.Journal; lines = b.lines };
      begins = b.begins;
      judged = subst (λ xs. IsTableVerdict batch.opening.names batch.opening.tables (rows_in xs) verdict) (sym b.behind) is;
      far = b.ended;
    };
  },
)

-- A journal was read, but not audited, for want of memory.
pub judged-unread : (batch : Batch) (left left_new : Option (List ℕ)) (bytes : List ℕ) → IsBehind batch left left_new bytes → (read : List ℕ) × InputJudged (Err ends.OutOfMemory) read left left_new
judged-unread batch left left_new bytes b = (
  b.read,
  record {
    took = b.took;
    few = omega (arith, b.few);
    limit = (λ is. absurd (cc), λ many. absurd (omega (arith, b.few, many)));
    judged = tt;
  },
)

-- the end of an input by the end of its bytes, where it isn't over
abbrev pub rest_end : Rest → HeadEnd
rest_end rest.End = ends.OutOfMemory
rest_end rest.ReadFault = ends.ReadFault
rest_end rest.InputLimit = ends.InputLimit
rest_end rest.OutOfMemory = ends.OutOfMemory

-- an end with nothing made
abbrev without : (A : Type 0) → HeadEnd → Result A HeadEnd
without A end = Err end

limit-rest : (answer : Rest) (size : ℕ) → (answer ≡ rest.InputLimit) ↔ (size ≡ 67108865) → (without Verdict (rest_end answer) ≡ without Verdict ends.InputLimit) ↔ (size ≡ 67108865)
limit-rest rest.End size limit = (λ is. absurd (cc), λ is. absurd (let e = limit.1 is in cc))
limit-rest rest.ReadFault size limit = (λ is. absurd (cc), λ is. absurd (let e = limit.1 is in cc))
limit-rest rest.InputLimit size limit = (λ _. limit.0 refl, λ _. refl)
limit-rest rest.OutOfMemory size limit = (λ is. absurd (cc), λ is. absurd (let e = limit.1 is in cc))

stopped-rest : (answer : Rest) (read : List ℕ) (left : Option (List ℕ)) → IsJudged (Err (rest_end answer)) read left
stopped-rest rest.End read left = tt
stopped-rest rest.ReadFault read left = tt
stopped-rest rest.InputLimit read left = tt
stopped-rest rest.OutOfMemory read left = tt

-- What is behind a head was not read to its end.
pub judged-rest : (answer : Rest) (made : Batch × Form × Bool) (old new : Reader) (left mid left_new : Option (List ℕ)) (before got out_old out_new : List ℕ) → (answer ≡ rest.InputLimit) ↔ (new.taken ≡ 67108865) → new.taken ≤ 67108865
    → IsHeadRead made old left mid before → Rests answer old new mid left_new out_old out_new got → (read : List ℕ) × InputJudged (Err (rest_end answer)) read left left_new
judged-rest answer made old new left mid left_new before got out_old out_new limit room h rests =
    let count : new.taken ≡ length (before ++ got) = omega (arith, h.lines.count, rests.count, length-append before got) in (
      before ++ got,
      record {
        took = Consumes-append left mid left_new before got h.lines.took rests.took;
        few = omega (arith, count);
        limit = limit-rest answer (length (before ++ got)) (subst (λ n. (answer ≡ rest.InputLimit) ↔ (n ≡ 67108865)) count limit);
        judged = stopped-rest answer (before ++ got) left_new;
      },
    )

-- The head wasn't read to its end.
stopped-head : (end : HeadEnd) (reader : Reader) (left left_new : Option (List ℕ)) (h : HeadRead (Err end) reader left left_new) → IsJudged (Err end) h.read left_new
stopped-head (ends.Bad line code) reader left left_new h = record { refused = h.told.0; far = h.told.1 }
stopped-head ends.ReadFault reader left left_new h = tt
stopped-head ends.InputLimit reader left left_new h = tt
stopped-head ends.OutOfMemory reader left left_new h = tt

limit-head : (A B : Type 0) (end : HeadEnd) (size taken : ℕ) → taken ≡ size → (without A end ≡ without A ends.InputLimit) ↔ (taken ≡ 67108865) → (without B end ≡ without B ends.InputLimit) ↔ (size ≡ 67108865)
limit-head A B (ends.Bad line code) size taken same limit = (λ is. absurd (cc), λ is. absurd (let e = limit.1 (same ∙ is) in cc))
limit-head A B ends.ReadFault size taken same limit = (λ is. absurd (cc), λ is. absurd (let e = limit.1 (same ∙ is) in cc))
limit-head A B ends.InputLimit size taken same limit = (λ _. sym same ∙ limit.0 refl, λ _. refl)
limit-head A B ends.OutOfMemory size taken same limit = (λ is. absurd (cc), λ is. absurd (let e = limit.1 (same ∙ is) in cc))

pub judged-head : (end : HeadEnd) (reader : Reader) (left left_new : Option (List ℕ)) → HeadRead (Err end) reader left left_new → (without (Batch × Form × Bool) end ≡ without (Batch × Form × Bool) ends.InputLimit) ↔ (reader.taken ≡ 67108865)
    → reader.taken ≤ 67108865 → (read : List ℕ) × InputJudged (Err end) read left left_new
judged-head end reader left left_new h limit room = (
  h.read,
  record {
    took = h.took;
    few = omega (arith, h.count);
    limit = limit-head (Batch × Form × Bool) Verdict end (length h.read) reader.taken h.count limit;
    judged = stopped-head end reader left left_new h;
  },
)

-- What callees say of parts, said of the whole.

pub rows-same : (names names' : List Named) (tables tables' : Tables) (bytes bytes' : List ℕ) (verdict : Verdict) → names ≡ names' → tables ≡ tables' → bytes ≡ bytes'
    → IsTableVerdict names tables (rows_in bytes) verdict → IsTableVerdict names' tables' (rows_in bytes') verdict
rows-same names names' tables tables' bytes bytes' verdict n t b is =
    subst (λ ns. IsTableVerdict ns tables' (rows_in bytes') verdict) n
    (subst (λ ts. IsTableVerdict names ts (rows_in bytes') verdict) t (subst (λ xs. IsTableVerdict names tables (rows_in xs) verdict) b is))

pub audited-same : (names names' : List Named) (tables tables' : Tables) (programs programs' : List Program) (done : List (List ℕ)) (left left_new : Option (List ℕ)) (result : Result Verdict AuditEnd) → names ≡ names' → tables ≡ tables' → programs ≡ programs'
    → Audited names tables programs done left left_new result → Audited names' tables' programs' done left left_new result
audited-same names names' tables tables' programs programs' done left left_new result n t p is =
    subst (λ ns. Audited ns tables' programs' done left left_new result) n
    (subst (λ ts. Audited names ts programs' done left left_new result) t (subst (λ ps. Audited names tables ps done left left_new result) p is))

-- programs that fit the names fit tables with as many items
pub all-reach : (names : List Named) (tables : Tables) (requests : List Request) → length tables ≡ items_of names → All (IsFit names) requests → All (λ p. reach p ≤ length tables) (programs_of requests)
all-reach names tables requests items fit =
    All-map (λ p. reach p ≤ length tables) (λ (r : Request). r.program) requests (λ k d lt. subst (λ n. reach (get_or requests k d).program ≤ n) (sym items) (fit k d lt).reach)

-- what rose since later than before rose since before too
pub rose-since : (before mid now : ℕ) → before ≤ mid → Rose mid now → Rose before now
rose-since before mid now le rose = grind (arith, le, rose)
