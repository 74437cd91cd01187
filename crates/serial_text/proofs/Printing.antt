-- The text that a script prints is that of a serial run.
use Rattle.scc_ports.specs.Ports.{Gains}
use Rattle.std.proofs.Common.{inl, inr, ◌≡◌, ℕ, true≢false, Bool, true, false, nat_lt, if◌then◌else◌, List, [], ◌∷◌, ◌++◌, length, map, Option, Result, Ok, Err, refl, sym, ap, ◌∙◌, subst}
use Rattle.std.specs.Prelude.{codes}
use Rattle.std.specs.Result.{IfOk}
use Rattle.scc_text.specs.declared.command.Dialect.TheVariants as dialects
use Rattle.scc_text.specs.declared.command.Command.{Command}
use Rattle.scc_text.specs.declared.command.Command.TheVariants.{Blank, Table, Put, Begin, Step, Run, Commit, Withdraw, Show, Dump, Seal, Drain, Journal, Report, Ask, Quit}
use Rattle.scc_text.specs.Command.{command_of, program_bytes}
use Rattle.scc_text.specs.Lines.{lines_of, whole_lines, within_limit}
use Rattle.line_loop.specs.Meaning.{machine_after, replies_from, script_text, whole_text, Wrote, WrotePart}
use Rattle.line_loop.specs.declared.ending.Ending.{Ending}
use Rattle.line_loop.specs.declared.ending.Ending.TheVariants as endings
use Rattle.scc_replies.specs.declared.status.Status.{Status}
use Rattle.scc_script.specs.Ran.{ScriptRan, status_of}
use Rattle.txn_runs.specs.declared.program.Program.{Program}
use Rattle.txn_runs.specs.Run.{Tables}
use Rattle.txn_runs.specs.Serial.{outcomes, last_tables}
use Rattle.txn_syntax.specs.declared.refusal.ReadRefusal.{ReadRefusal}
use Rattle.txn_syntax.specs.Reads.{read_of}
use Rattle.journal_core.specs.Journal.{commits}
use Rattle.journal_core.proofs.Legal.{replies-serial}
use Rattle.journal_core.specs.declared.entry.Entry.{Entry}
use Rattle.journal_core.specs.declared.entry.Entry.TheVariants.{Withdrawn}
use Rattle.forest_model.specs.Forest.{Forest}
use Rattle.forest_model.specs.Events.{Refusal, commit, withdraw}
use Rattle.forest_model.specs.Drain.{after_commit, drain}
use Rattle.forest_model.specs.Work.{work}
use Rattle.forest_model.proofs.WorldLaws.{opened-fit}
use Rattle.scc_setup.specs.Opening.{Opening, opening_after}
use Rattle.scc_replies.specs.Lines.{number_line}
use Rattle.scc_replies.specs.Finals.{final_lines}
use Rattle.scc_script.specs.Drained.{drained}
use Rattle.scc_setup.specs.Settings.{setting_line}
use Rattle.scc_script.specs.Text.{Script, refused, set_by, opening_of, begin_answer, command_answer, answer_to, answer, role_of, meaning, opening_script, end_lines}
use Rattle.scc_script.proofs.Sound.{answer-keeps}
use Rattle.scc_script.specs.Drained.{entry_in, IsToldDrain}
use Rattle.scc_script.proofs.Drains.{drain-told}
use Rattle.serial_text.specs.Notes.{AreNoted}
use Rattle.serial_text.specs.Serial.{IsSerial, IsSerialRun, IsSerialSoFar, IsSerialText, printed_programs, texts}
use Rattle.serial_text.proofs.Splits.{text-same, so-far-same}
use Rattle.serial_text.specs.Told.{lines_so_far, HasPrintedSoFar, HasPrintedFront, PrintedSerially}
use Rattle.journal_core.specs.Begins.{begins}
use Rattle.journal_core.proofs.Begins.{replies-outcomes, replies-count, replies-programs, replies-named, replies-distinct}
use Rattle.forest_model.specs.Grown.{IsGrown, commit_entry}
use Rattle.forest_model.proofs.LongerLaws.{step-same, run-same, commit-grown, withdraw-grown}
use Rattle.serial_text.proofs.Noting.{notes_of, IsGood, answer-noted, entries-begins, grown-begins}

-- Before the forest is opened none begins.

abbrev IsClosed : Script → Type 0
IsClosed s = s.is_open ≡ false → begins s.forest.journal ≡ []

-- the forest has the same programs as before
none_begun : (f g : Forest) (more : List Entry) → IsGrown f g more → begins more ≡ [] → begins f.journal ≡ [] → begins g.journal ≡ []
none_begun f g more h none before = grown-begins f g more h ∙ ap (λ x. x ++ begins more) before ∙ none

set-closed : (s : Script) (reply : List ℕ) (after : Result Opening ℕ) → IsClosed s → IsClosed (set_by s reply after).next
set-closed s reply (Ok o) h = λ closed. refl
set-closed s reply (Err code) h = h

setting-closed : (s : Script) (reply : List ℕ) (is_open : Bool) (after : Result Opening ℕ) → IsClosed s → IsClosed (if is_open then refused s 21 else set_by s reply after).next
setting-closed s reply true after h = h
setting-closed s reply false after h = set-closed s reply after h

begin-closed : (s : Script) (deadline : ℕ) (read : Result Program ReadRefusal) → IsClosed s → IsClosed (begin_answer s deadline read).next
begin-closed s deadline (Ok program) h = λ closed. absurd (true≢false closed)
begin-closed s deadline (Err refusal) h = h

commit-closed : (f : Forest) (t : ℕ) (result : Result Forest Refusal) → IfOk result (λ g. IsGrown f g (commit_entry f t ∷ [])) → begins f.journal ≡ [] → begins (after_commit f result).journal ≡ []
commit-closed f t (Ok g) h none = none_begun f g (commit_entry f t ∷ []) h refl none
commit-closed f t (Err refusal) h none = none

withdraw-closed : (f : Forest) (t : ℕ) (result : Result Forest Refusal) → IfOk result (λ g. IsGrown f g (Withdrawn t ∷ [])) → begins f.journal ≡ [] → begins (after_commit f result).journal ≡ []
withdraw-closed f t (Ok g) h none = none_begun f g (Withdrawn t ∷ []) h refl none
withdraw-closed f t (Err refusal) h none = none

command-closed : (s : Script) (line : List ℕ) (command : Command) → IsGood s → IsClosed (command_answer s line command).next
command-closed s line Blank h = h.closed
command-closed s line (Table name size) h = setting-closed s (setting_line line (Table name size)) s.is_open (opening_after (opening_of s) line (Table name size)) h.closed
command-closed s line (Put name index value) h = setting-closed s (setting_line line (Put name index value)) s.is_open (opening_after (opening_of s) line (Put name index value)) h.closed
command-closed s line (Begin deadline at) h = begin-closed s deadline (read_of s.names (program_bytes line at)) h.closed
command-closed s line (Step txn guard) h = λ closed. ap begins (step-same s.forest txn (role_of guard)).1 ∙ h.closed closed
command-closed s line Run h = λ closed. ap begins (run-same (work s.forest) s.forest).1 ∙ h.closed closed
command-closed s line (Commit txn) h = λ closed. commit-closed s.forest txn (commit s.forest txn) (commit-grown s.forest txn) (h.closed closed)
command-closed s line (Withdraw txn) h = λ closed. withdraw-closed s.forest txn (withdraw s.forest txn) (withdraw-grown s.forest txn) (h.closed closed)
command-closed s line (Show txn) h = h.closed
command-closed s line (Dump name) h = h.closed
command-closed s line Seal h = λ closed. absurd (true≢false closed)
command-closed s line Drain h = λ closed.
    let d : IsToldDrain s.forest (drain s.forest).1 (drained s.forest) = drain-told s.forest h.sound in
    none_begun s.forest (drain s.forest).1 (map entry_in d.ended) d.grown (entries-begins d.ended) (h.closed closed)
command-closed s line Journal h = h.closed
command-closed s line Report h = h.closed
command-closed s line (Ask txn) h = h.closed
command-closed s line Quit h = h.closed

spelled-closed : (s : Script) (line : List ℕ) (command : Result Command ℕ) → IsGood s → IsClosed (answer_to s line command).next
spelled-closed s line (Ok command) h = command-closed s line command h
spelled-closed s line (Err code) h = h.closed

answer-closed : (s : Script) (line : List ℕ) → IsGood s → IsClosed (answer dialects.Script s line).next
unfolding answer
answer-closed s line h = go (nat_lt 8192 (length line))
  where
    go : (long : Bool) → IsClosed (if long then refused s 11 else answer_to s line (command_of dialects.Script line)).next
    go true = h.closed
    go false = spelled-closed s line (command_of dialects.Script line) h

answer-good : (s : Script) (line : List ℕ) → IsGood s → IsGood (answer dialects.Script s line).next
answer-good s line h = record { sound = answer-keeps dialects.Script s line h.sound; closed = answer-closed s line h }

-- All lines.

-- the lines, each with its reply
abbrev answers_from : Script → List (List ℕ) → List (List ℕ × List ℕ)
answers_from s [] = []
answers_from s (line ∷ lines) = (line, (answer dialects.Script s line).reply) ∷ answers_from (answer dialects.Script s line).next lines

lines-noted : (s : Script) (lines : List (List ℕ)) → IsGood s → AreNoted (notes_of s) (answers_from s lines) (notes_of (machine_after (meaning dialects.Script) s lines))
lines-noted s [] h = refl
lines-noted s (line ∷ lines) h =
    (notes_of (answer dialects.Script s line).next, answer-noted s line h, lines-noted (answer dialects.Script s line).next lines (answer-good s line h))

lines-good : (s : Script) (lines : List (List ℕ)) → IsGood s → IsGood (machine_after (meaning dialects.Script) s lines)
lines-good s [] h = h
lines-good s (line ∷ lines) h = lines-good (answer dialects.Script s line).next lines (answer-good s line h)

lines-told : (s : Script) (lines : List (List ℕ)) → replies_from (meaning dialects.Script) s lines ≡ texts (answers_from s lines)
lines-told s [] = refl
lines-told s (line ∷ lines) = ap (λ x. (answer dialects.Script s line).reply ++ x) (lines-told (answer dialects.Script s line).next lines)

lines-are : (s : Script) (lines : List (List ℕ)) → map (λ a. a.0) (answers_from s lines) ≡ lines
lines-are s [] = refl
lines-are s (line ∷ lines) = ap (λ x. line ∷ x) (lines-are (answer dialects.Script s line).next lines)

-- The last lines.

script-run : (s : Script) → IsGood s → IsSerialRun (notes_of s)
script-run s h =
    let d : Tables = s.forest.opening in
    let legal = h.sound.right.legal in
    record {
      named = replies-named d s.forest.journal legal;
      distinct = replies-distinct d s.forest.journal legal;
      told = replies-outcomes s.forest.journal ∙ replies-serial d s.forest.journal legal ∙ ap (outcomes d) (sym (replies-programs s.forest.journal));
    }

script-serial : (s : Script) → IsGood s → IsSerial (notes_of s) (end_lines s)
unfolding end_lines
script-serial s h =
    let d : Tables = s.forest.opening in
    let tables : s.forest.tables ≡ last_tables d (printed_programs (notes_of s)) = h.sound.right.serial ∙ ap (last_tables d) (sym (replies-programs s.forest.journal)) in
    record {
      run = script-run s h;
      finals =
          ap (λ t. final_lines t 0 s.names ++ number_line (codes "end ") (length (commits s.forest.journal))) tables
          ∙ ap (λ n. final_lines (last_tables d (printed_programs (notes_of s))) 0 s.names ++ number_line (codes "end ") n) (sym (replies-count s.forest.journal));
    }

opening-good : (k lanes : ℕ) → IsGood (opening_script k lanes)
opening-good k lanes = record { sound = (opened-fit [] k lanes).sound; closed = λ closed. refl }

pub text-serial : (k lanes : ℕ) (bytes : List ℕ) → IsSerialText (lines_of bytes) (script_text (meaning dialects.Script) (opening_script k lanes) bytes)
unfolding script_text
text-serial k lanes bytes =
    let start : Script = opening_script k lanes in
    let lines : List (List ℕ) = lines_of bytes in
    let after : Script = machine_after (meaning dialects.Script) start lines in
    record {
      answers = answers_from start lines;
      last = end_lines after;
      notes = notes_of after;
      each = lines-are start lines;
      whole = ap (λ x. x ++ end_lines after) (lines-told start lines);
      noted = lines-noted start lines (opening-good k lanes);
      serial = script-serial after (lines-good start lines (opening-good k lanes));
    }

-- A run whose source failed or had too many bytes.

pub lines-serial : (k lanes : ℕ) (lines : List (List ℕ)) → IsSerialSoFar lines (replies_from (meaning dialects.Script) (opening_script k lanes) lines)
lines-serial k lanes lines =
    let start : Script = opening_script k lanes in
    let after : Script = machine_after (meaning dialects.Script) start lines in
    record {
      answers = answers_from start lines;
      notes = notes_of after;
      each = lines-are start lines;
      whole = lines-told start lines;
      noted = lines-noted start lines (opening-good k lanes);
      serial = script-run after (lines-good start lines (opening-good k lanes));
    }

whole-serial : (k lanes : ℕ) (bytes : List ℕ) → IsSerialSoFar (whole_lines (within_limit bytes)) (whole_text (meaning dialects.Script) (opening_script k lanes) bytes)
unfolding whole_text
whole-serial k lanes bytes = lines-serial k lanes (whole_lines (within_limit bytes))

-- At each end.

module _ (k lanes : ℕ) (read : List ℕ) (left_old left_new written_old written_new : Option (List ℕ)) where
  part-printed : WrotePart (meaning dialects.Script) (opening_script k lanes) read left_new written_old written_new → HasPrintedFront read written_old written_new
  part-printed (inl part) = record { text = script_text (meaning dialects.Script) (opening_script k lanes) read; wrote = part.1; serially = inl (text-serial k lanes read) }
  part-printed (inr part) = record { text = whole_text (meaning dialects.Script) (opening_script k lanes) read; wrote = part; serially = inr (whole-serial k lanes read) }

  whole-printed : Gains written_old written_new (whole_text (meaning dialects.Script) (opening_script k lanes) read) → HasPrintedSoFar read written_old written_new
  whole-printed wrote = record {
    printed = whole_text (meaning dialects.Script) (opening_script k lanes) read;
    wrote = wrote;
    serially = whole-serial k lanes read;
    alone = λ other. so-far-same (lines_so_far read) (whole_text (meaning dialects.Script) (opening_script k lanes) read) other (whole-serial k lanes read);
  }

  ending-printed : (ending : Ending) → Wrote (meaning dialects.Script) (opening_script k lanes) ending read left_new written_old written_new → PrintedSerially (status_of ending) read written_old written_new
  ending-printed endings.Done wrote = record {
    printed = script_text (meaning dialects.Script) (opening_script k lanes) read;
    wrote = wrote.1;
    serially = text-serial k lanes read;
    alone = λ other. text-same (lines_of read) (script_text (meaning dialects.Script) (opening_script k lanes) read) other (text-serial k lanes read);
  }
  ending-printed endings.Stopped wrote = absurd wrote
  ending-printed endings.ReadFault wrote = whole-printed wrote
  ending-printed endings.InputLimit wrote = whole-printed wrote
  ending-printed endings.WriteFault wrote = part-printed wrote
  ending-printed endings.OutOfMemory wrote = part-printed wrote

-- whatever the end, a script has printed the text of a serial run, or a part of it
pub ran-printed : (k lanes : ℕ) (answer : Status) (read : List ℕ) (left_old left_new written_old written_new : Option (List ℕ)) (steps_old steps_new : ℕ)
    → ScriptRan k lanes answer read left_old left_new written_old written_new steps_old steps_new → PrintedSerially answer read written_old written_new
ran-printed k lanes answer read left_old left_new written_old written_new steps_old steps_new h =
    subst (λ s. PrintedSerially s read written_old written_new) (sym h.status) (ending-printed k lanes read left_old left_new written_old written_new h.ending h.ran.wrote)
