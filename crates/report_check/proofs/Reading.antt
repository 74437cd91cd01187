-- What an audit has read between two lines, and what each answer of the reader makes of it.
use Rattle.std.proofs.Common.{◌≡◌, ◌≢◌, ◌↔◌, inl, inr, ℕ, ◌+◌, ◌<◌, ◌≤◌, Bool, true, false, List, [], ◌∷◌, ◌++◌, length, Option, Result, Ok, Err, refl, sym, ap, ◌∙◌, subst, append_assoc, length-append, arith}
use Rattle.std.proofs.lemmas.List.{append-nil}
use Rattle.scc_text.specs.Lines.{lines_of, whole_lines}
use Rattle.scc_text.specs.Reader.{Reader, Answers}
use Rattle.scc_text.specs.LinesRead.{LinesRead}
use Rattle.scc_text.specs.declared.next.Next.{Next}
use Rattle.scc_text.specs.declared.next.Next.TheVariants as next
use Rattle.scc_text.proofs.LinesRead.{read_line, read_too_long, read_end, read_fault, read_limit}
use Rattle.batch_input.specs.Unread.{IsReadThrough}
use Rattle.txn_runs.specs.Run.{Tables}
use Rattle.txn_runs.specs.declared.program.Program.{Program}
use Rattle.txn_names.specs.Tables.{Named, IsNames}
use Rattle.report_check.specs.declared.verdict.Verdict.{Verdict}
use Rattle.report_check.specs.declared.verdict.Verdict.TheVariants.{Yes, No}
use Rattle.report_check.specs.declared.verdict.AuditEnd.{AuditEnd}
use Rattle.report_check.specs.declared.verdict.AuditEnd.TheVariants as ends
use Rattle.report_check.specs.Judging.{IsBegun}
use Rattle.report_check.specs.Reports.{AreReport, IsReportVerdict}
use Rattle.report_check.specs.Audited.{IsReadFor, Audited}
use Rattle.report_check.specs.Checked.{Held, IsSound, Stands, Takes}
use Rattle.report_check.proofs.Taking.{begins}
use Rattle.report_check.proofs.First.{first-bad}

-- an audit between two lines
pub record Passed (names : List Named) (opening : Tables) (programs : List Program) (h : Held) (reader : Reader) (left_old left : Option (List ℕ)) (done : List (List ℕ)) : Type 0 where
  pub read : List ℕ
  pub lines : List (List ℕ)
  pub pending : List ℕ
  pub cut : LinesRead reader left_old left read (done ++ lines) pending
  pub stands : Stands names opening programs h lines

-- a reader that isn't past the limit
pub room_left : (given : Next) (taken : ℕ) → (given ≡ next.InputLimit) ↔ (taken ≡ 67108865) → (given ≡ next.InputLimit → ⊥) → taken ≤ 67108865 → taken ≤ 67108864
room_left given taken limit other most = let differs : taken ≢ 67108865 = λ is. other (limit.1 is) in omega arith

-- what comes behind the lines before, with one line more
behind : (done lines : List (List ℕ)) (line : List ℕ) (more : List (List ℕ)) → ((done ++ lines) ++ line ∷ []) ++ more ≡ done ++ (lines ++ line ∷ more)
behind done lines line more = append_assoc (done ++ lines) (line ∷ []) more ∙ append_assoc done lines (line ∷ more)

-- how long a line may be is no matter of what was read
pub other-most : (reader now : Reader) (most : ℕ) (left_old left : Option (List ℕ)) (read : List ℕ) (done : List (List ℕ)) (pending : List ℕ)
    → now ≡ record reader { most = most } → LinesRead reader left_old left read done pending → LinesRead now left_old left read done pending
other-most reader now most left_old left read done pending is lines = subst (λ (r : Reader). LinesRead r left_old left read done pending) (sym is) (record {
  took = lines.took;
  count = lines.count;
  number = lines.number;
  held = record { front = lines.held.front; whole = lines.held.whole; before = lines.held.before; kept = lines.held.kept; long = lines.held.long };
  cut = lines.cut;
  at_end = lines.at_end;
})

-- before the first line
pub passed-none : (names : List Named) (opening : Tables) (programs : List Program) (h : Held) (reader : Reader) (left_old left : Option (List ℕ)) (read : List ℕ) (done : List (List ℕ)) (pending : List ℕ)
    → LinesRead reader left_old left read done pending → Stands names opening programs h [] → Passed names opening programs h reader left_old left done
passed-none names opening programs h reader left_old left read done pending cut stands = record {
  read = read;
  lines = [];
  pending = pending;
  cut = subst (λ xs. LinesRead reader left_old left read xs pending) (sym (append-nil done)) cut;
  stands = stands;
}

-- a line was taken in
pub passed-line : (names : List Named) (opening : Tables) (programs : List Program) (old now : Held) (before after : Reader) (left_old left left_new : Option (List ℕ)) (done : List (List ℕ)) (line got : List ℕ)
    → Passed names opening programs old before left_old left done → Answers next.Line before after left left_new got → line ≡ after.line → Takes names programs old now line true
    → Passed names opening programs now after left_old left_new done
passed-line names opening programs old now before after left_old left left_new done line got passed answers lent takes =
    let more = read_line before after left_old left left_new passed.read (done ++ passed.lines) passed.pending got passed.cut answers in
    record {
      read = passed.read ++ got;
      lines = passed.lines ++ line ∷ [];
      pending = more.0;
      cut = subst (λ xs. LinesRead after left_old left_new (passed.read ++ got) xs more.0) (append_assoc done passed.lines (after.line ∷ []) ∙ ap (λ l. done ++ (passed.lines ++ l ∷ [])) (sym lent)) more.1;
      stands = takes.1 opening passed.lines passed.stands;
    }

-- The ends.

-- an end at which the limit isn't told
other-end : (result : Result Verdict AuditEnd) (size : ℕ) → (result ≡ Err ends.InputLimit → ⊥) → size ≤ 67108864 → (result ≡ Err ends.InputLimit) ↔ (size ≡ 67108865)
other-end result size other few = (λ is. absurd (other is), λ is. absurd (omega (arith, is, few)))

-- the line that was answered last is wrong
wrong-line : (names : List Named) (opening : Tables) (programs : List Program) (h : Held) (reader : Reader) (left_old left : Option (List ℕ)) (read : List ℕ) (done lines : List (List ℕ)) (line pending : List ℕ)
    → IsNames names → IsSound names programs h → Stands names opening programs h lines → (IsBegun (AreReport names opening programs) (lines ++ line ∷ []) → ⊥)
    → LinesRead reader left_old left read ((done ++ lines) ++ line ∷ []) pending → reader.taken ≤ 67108864 → Audited names opening programs done left_old left (Ok (No reader.number))
wrong-line names opening programs h reader left_old left read done lines line pending plain sound stands none cut room =
    let more : List (List ℕ) = lines_of (pending ++ []) in
    let all : lines_of read ≡ done ++ (lines ++ line ∷ more) =
    ap lines_of (sym (append-nil read)) ∙ cut.cut.lines [] (λ _. refl) ∙ behind done lines line more in
    let number : reader.number ≡ length done + length lines + 1 = omega (arith, cut.number, length-append (done ++ lines) (line ∷ []), length-append done lines) in
    record {
      read = read;
      took = cut.took;
      few = omega (arith, room, cut.count);
      limit = other-end (Ok (No reader.number)) (length read) (λ is. cc) (omega (arith, room, cut.count));
      says = (lines ++ line ∷ more, all, (length lines, number, first-bad names opening programs h lines more line plain sound stands none), through reader.ended refl);
    }
  where
    through : (ended : Bool) → reader.ended ≡ ended → IsReadThrough read reader.number left
    through true is = inr (cut.at_end is)
    through false is =
        let whole : whole_lines read ≡ ((done ++ lines) ++ line ∷ []) ++ whole_lines (pending ++ []) = ap whole_lines (sym (append-nil read)) ∙ cut.cut.whole is [] in
        inl (omega (arith, cut.number, ap length whole, length-append ((done ++ lines) ++ line ∷ []) (whole_lines (pending ++ []))))

pub audited-bad : (names : List Named) (opening : Tables) (programs : List Program) (old now : Held) (before after : Reader) (left_old left left_new : Option (List ℕ)) (done : List (List ℕ)) (line got : List ℕ)
    → IsNames names → IsSound names programs old → Passed names opening programs old before left_old left done → Answers next.Line before after left left_new got → after.taken ≤ 67108864 → line ≡ after.line
    → Takes names programs old now line false → Audited names opening programs done left_old left_new (Ok (No after.number))
audited-bad names opening programs old now before after left_old left left_new done line got plain sound passed answers room lent takes =
    let more = read_line before after left_old left left_new passed.read (done ++ passed.lines) passed.pending got passed.cut answers in
    wrong-line names opening programs old after left_old left_new (passed.read ++ got) done passed.lines after.line more.0 plain sound passed.stands
    (subst (λ l. IsBegun (AreReport names opening programs) (passed.lines ++ l ∷ []) → ⊥) lent (takes opening passed.lines passed.stands)) more.1 room

pub audited-long : (names : List Named) (opening : Tables) (programs : List Program) (h : Held) (before after : Reader) (left_old left left_new : Option (List ℕ)) (done : List (List ℕ)) (got : List ℕ)
    → IsNames names → IsSound names programs h → Passed names opening programs h before left_old left done → Answers next.TooLong before after left left_new got → after.taken ≤ 67108864
    → ((line : List ℕ) → before.most < length line → Takes names programs h h line false) → Audited names opening programs done left_old left_new (Ok (No after.number))
audited-long names opening programs h before after left_old left left_new done got plain sound passed answers room takes =
    let more = read_too_long before after left_old left left_new passed.read (done ++ passed.lines) passed.pending got passed.cut answers in
    wrong-line names opening programs h after left_old left_new (passed.read ++ got) done passed.lines more.0 more.1 plain sound passed.stands (takes more.0 more.3 opening passed.lines passed.stands) more.2 room

-- no line follows
pub audited-end : (names : List Named) (opening : Tables) (programs : List Program) (h : Held) (verdict : Verdict) (before after : Reader) (left_old left left_new : Option (List ℕ)) (done : List (List ℕ)) (got : List ℕ)
    → Passed names opening programs h before left_old left done → Answers next.End before after left left_new got → after.taken ≤ 67108864
    → ((lines : List (List ℕ)) → Stands names opening programs h lines → after.number ≡ length done + length lines → IsReportVerdict names opening programs (length done) lines verdict)
    → Audited names opening programs done left_old left_new (Ok verdict)
audited-end names opening programs h verdict before after left_old left left_new done got passed answers room judged =
    let end = read_end before after left_old left left_new passed.read (done ++ passed.lines) passed.pending got passed.cut answers in
    let size : after.taken ≡ length (passed.read ++ got) = omega (arith, answers.count, passed.cut.count, length-append passed.read got) in
    let number : after.number ≡ length done + length passed.lines = omega (arith, answers.number, passed.cut.number, length-append done passed.lines) in
    record {
      read = passed.read ++ got;
      took = end.0;
      few = omega (arith, room, size);
      limit = other-end (Ok verdict) (length (passed.read ++ got)) (λ is. cc) (omega (arith, room, size));
      says = (passed.lines, end.2, judged passed.lines passed.stands number, for verdict);
    }
  where
    for : (v : Verdict) → IsReadFor v (passed.read ++ got) left_new
    for (Yes commits) = (read_end before after left_old left left_new passed.read (done ++ passed.lines) passed.pending got passed.cut answers).1
    for (No line) = inr (read_end before after left_old left left_new passed.read (done ++ passed.lines) passed.pending got passed.cut answers).1

pub audited-fault : (names : List Named) (opening : Tables) (programs : List Program) (h : Held) (before after : Reader) (left_old left left_new : Option (List ℕ)) (done : List (List ℕ)) (got : List ℕ)
    → IsNames names → IsSound names programs h → Passed names opening programs h before left_old left done → Answers next.ReadFault before after left left_new got → after.taken ≤ 67108864
    → Audited names opening programs done left_old left_new (Err ends.ReadFault)
audited-fault names opening programs h before after left_old left left_new done got plain sound passed answers room =
    let all = read_fault before after left_old left left_new passed.read (done ++ passed.lines) passed.pending got passed.cut answers room in
    let size : after.taken ≡ length (passed.read ++ got) = omega (arith, answers.count, passed.cut.count, length-append passed.read got) in
    record {
      read = passed.read ++ got;
      took = all.0;
      few = omega (arith, room, size);
      limit = other-end (Err ends.ReadFault) (length (passed.read ++ got)) (λ is. cc) (omega (arith, room, size));
      says = (passed.lines, all.1, begins names opening programs h passed.lines plain sound passed.stands);
    }

pub audited-limit : (names : List Named) (opening : Tables) (programs : List Program) (h : Held) (before after : Reader) (left_old left left_new : Option (List ℕ)) (done : List (List ℕ)) (got : List ℕ)
    → IsNames names → IsSound names programs h → Passed names opening programs h before left_old left done → Answers next.InputLimit before after left left_new got → before.taken ≤ 67108864 → after.taken ≡ 67108865
    → Audited names opening programs done left_old left_new (Err ends.InputLimit)
audited-limit names opening programs h before after left_old left left_new done got plain sound passed answers room limit =
    let all = read_limit before after left_old left left_new passed.read (done ++ passed.lines) passed.pending got passed.cut answers room limit in
    let full : length (passed.read ++ got) ≡ 67108865 = omega (arith, answers.count, passed.cut.count, length-append passed.read got, limit) in
    record {
      read = passed.read ++ got;
      took = all.0;
      few = omega (arith, full);
      limit = (λ _. full, λ _. refl);
      says = (passed.lines, all.1, begins names opening programs h passed.lines plain sound passed.stands);
    }

-- Memory ran out, before a line was asked for or at one.

pub audited-nothing : (names : List Named) (opening : Tables) (programs : List Program) (reader : Reader) (left_old left : Option (List ℕ)) (read : List ℕ) (done all : List (List ℕ)) (pending : List ℕ)
    → LinesRead reader left_old left read all pending → reader.taken ≤ 67108864 → Audited names opening programs done left_old left (Err ends.OutOfMemory)
audited-nothing names opening programs reader left_old left read done all pending cut room = record {
  read = read;
  took = cut.took;
  few = omega (arith, room, cut.count);
  limit = other-end (Err ends.OutOfMemory) (length read) (λ is. cc) (omega (arith, room, cut.count));
  says = tt;
}

pub audited-unjudged : (names : List Named) (opening : Tables) (programs : List Program) (h : Held) (before after : Reader) (left_old left left_new : Option (List ℕ)) (done : List (List ℕ)) (got : List ℕ)
    → Passed names opening programs h before left_old left done → Answers next.Line before after left left_new got → after.taken ≤ 67108864
    → Audited names opening programs done left_old left_new (Err ends.OutOfMemory)
audited-unjudged names opening programs h before after left_old left left_new done got passed answers room =
    let more = read_line before after left_old left left_new passed.read (done ++ passed.lines) passed.pending got passed.cut answers in
    audited-nothing names opening programs after left_old left_new (passed.read ++ got) done ((done ++ passed.lines) ++ after.line ∷ []) more.0 more.1 room
