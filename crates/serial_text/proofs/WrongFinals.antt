-- Final lines with the values before the commit are refused.
use Rattle.std.proofs.Common.{◌≡◌, ◌⊎◌, ℕ, pos, List, [], ◌∷◌, ◌++◌, Ok, Err, inl, inr, refl, sym, ap, ◌∙◌, subst, arith}
use Rattle.std.specs.Prelude.{length, codes, decimal}
use Rattle.std.proofs.lemmas.Fmt.{decimal_digit}
use Rattle.txn_runs.specs.Serial.{last_tables}
use Rattle.txn_runs.specs.Run.{after}
use Rattle.txn_runs.specs.declared.program.Stmt.{Stmt}
use Rattle.txn_runs.specs.declared.program.Stmt.TheVariants as s
use Rattle.txn_runs.specs.declared.program.Operand.TheVariants.{Lit}
use denote.Hole.Carrier
use Rattle.txn_runs.specs.Bounds.{steps_row, count_row, size_row, depth_row, emits_row, plus, greater}
use Rattle.txn_runs.proofs.Folds.{of_stmt_is}
use Rattle.txn_runs.specs.declared.program.Stmt as statement
use Rattle.scc_text.specs.declared.command.Command.TheVariants.{Table, Begin}
use Rattle.scc_text.specs.Words as words
use Rattle.scc_text.specs.Number as number
use Rattle.scc_text.specs.Command as command
use Rattle.scc_text.specs.Command.{program_bytes}
use Rattle.txn_syntax.specs.Reads.{read_of}
use Rattle.scc_setup.specs.Opening.{Opening, no_tables, opening_after}
use Rattle.scc_replies.specs.Lines.{number_line}
use Rattle.scc_script.specs.Ended.{Ended}
use Rattle.scc_replies.specs.Finals.{final_lines}
use Rattle.serial_text.specs.Notes.{Notes, no_notes, with_begun, with_commits, commit_of, IsRefused, IsSet, IsUnread, IsDeclined, IsBegun, HasCommitted, IsNotedBy, IsNoted, command_in}
use Rattle.serial_text.specs.Serial.{printed_programs}
use Rattle.serial_text.specs.Wrong.{OpeningFinals}
use Rattle.serial_text.proofs.Wrongs.{nth, commit-line}

set : List ℕ
set = codes "table a 1"

table-line : command_in (codes "table a 1") ≡ Ok (Table (record { from = 6; to = 7 }) 1)
unfolding words.words_from command.command_of number.natural_of
table-line = refl

begin-line : command_in (codes "begin 0 { a[0] = 5; }") ≡ Ok (Begin 0 8)
unfolding words.words_from command.command_of number.natural_of
begin-line = refl

abbrev one_table : Opening
one_table = record { names = (codes "a", 1) ∷ []; tables = pos 0 ∷ [] }

table-set : opening_after no_tables (codes "table a 1") (Table (record { from = 6; to = 7 }) 1) ≡ Ok one_table
table-set = refl

abbrev write : Stmt
write = s.Write (record { number = 0; base = 0; size = 1 }) (Lit (pos 0)) (Lit (pos 5))

abbrev body : List Stmt
body = write ∷ []

program-read : read_of ((codes "a", 1) ∷ []) (program_bytes (codes "begin 0 { a[0] = 5; }") 8) ≡ Ok body
unfolding program_bytes statement.out-Stmt Carrier.out
program-read =
    rw (of_stmt_is count_row greater write, of_stmt_is size_row plus write, of_stmt_is depth_row greater write, of_stmt_is steps_row plus write, of_stmt_is emits_row plus write) refl

abbrev set_notes : Notes
set_notes = record { opening = one_table; begun = []; commits = [] }

tables-after : last_tables (pos 0 ∷ []) (body ∷ []) ≡ pos 5 ∷ []
unfolding after statement.out-Stmt Carrier.out
tables-after = rw (of_stmt_is steps_row plus write) refl

set-noted : (next : Notes) → IsNoted no_notes (codes "table a 1") (codes "table a 1\n") next → next ≡ set_notes
unfolding IsNoted nth
set-noted next h = go (subst (λ c. IsNotedBy no_notes (codes "table a 1") c (codes "table a 1\n") next) table-line h)
  where
    go : IsRefused no_notes (codes "table a 1\n") next ⊎ IsSet no_notes (codes "table a 1") (Table (record { from = 6; to = 7 }) 1) (codes "table a 1\n") next → next ≡ set_notes
    go (inl r) = let byte : 116 ≡ 114 = ap (nth 0) r.told in absurd (omega (arith, byte))
    go (inr h) =
        let both : Ok one_table ≡ Ok h.opening = sym table-set ∙ h.set in
        let opening : one_table ≡ h.opening = cc in
        h.noted ∙ ap (λ (o : Opening). record { opening = o; begun = []; commits = [] }) (sym opening)

begin-noted : (next : Notes) → IsNoted set_notes (codes "begin 0 { a[0] = 5; }") (codes "begin 1 started\n") next → next ≡ with_begun set_notes 1 body
unfolding IsNoted nth
begin-noted next h = go (subst (λ c. IsNotedBy set_notes (codes "begin 0 { a[0] = 5; }") c (codes "begin 1 started\n") next) begin-line h)
  where
    go : IsUnread set_notes (program_bytes (codes "begin 0 { a[0] = 5; }") 8) (codes "begin 1 started\n") next
        ⊎ (IsDeclined set_notes (program_bytes (codes "begin 0 { a[0] = 5; }") 8) (codes "begin 1 started\n") next ⊎ IsBegun set_notes (program_bytes (codes "begin 0 { a[0] = 5; }") 8) (codes "begin 1 started\n") next)
        → next ≡ with_begun set_notes 1 body
    go (inl u) = let both : Ok body ≡ Err u.refusal = sym program-read ∙ u.read in absurd (cc)
    go (inr (inl r)) = let byte : 98 ≡ 114 = ap (nth 0) r.told in absurd (omega (arith, byte))
    go (inr (inr b)) =
        let both : Ok body ≡ Ok b.body = sym program-read ∙ b.read in
        let same : body ≡ b.body = cc in
        let txn : b.txn ≡ 1 = b.next in
        b.noted ∙ ap (λ t. with_begun set_notes t b.body) txn ∙ ap (λ p. with_begun set_notes 1 p) (sym same)

commit-noted : (before next : Notes) → IsNoted before (codes "commit 1") (codes "commit 1 done\n") next → HasCommitted before 1 (codes "commit 1 done\n") next
unfolding IsNoted nth
commit-noted before next h = go (subst (λ c. IsNotedBy before (codes "commit 1") c (codes "commit 1 done\n") next) commit-line h)
  where
    go : IsRefused before (codes "commit 1 done\n") next ⊎ HasCommitted before 1 (codes "commit 1 done\n") next → HasCommitted before 1 (codes "commit 1 done\n") next
    go (inl r) = let byte : 99 ≡ 114 = ap (nth 0) r.told in absurd (omega (arith, byte))
    go (inr c) = c

pub opening-finals : OpeningFinals
unfolding nth
opening-finals notes noted serial =
    let s = set-noted noted.0 noted.1 in
    let first : IsNoted set_notes (codes "begin 0 { a[0] = 5; }") (codes "begin 1 started\n") noted.2.0 =
    subst (λ n. IsNoted n (codes "begin 0 { a[0] = 5; }") (codes "begin 1 started\n") noted.2.0) s noted.2.1
    in
    let b = begin-noted noted.2.0 first in
    let c = commit-noted noted.2.0 noted.2.2.0 noted.2.2.1 in
    let e : Ended = c.ended in
    let is : notes ≡ with_commits (with_begun set_notes 1 body) ((1, e.outcome) ∷ []) =
    noted.2.2.2 ∙ c.noted ∙ ap (λ n. with_commits n (commit_of e ∷ [])) b ∙ ap (λ t. with_commits (with_begun set_notes 1 body) ((t, e.outcome) ∷ [])) c.named
    in
    let finals : codes "final a 0\nend 1\n" ≡ final_lines (last_tables (pos 0 ∷ []) (body ∷ [])) 0 ((codes "a", 1) ∷ []) ++ number_line (codes "end ") 1 =
    subst (λ n. codes "final a 0\nend 1\n" ≡ final_lines (last_tables n.opening.tables (printed_programs n)) 0 n.opening.names ++ number_line (codes "end ") (length n.commits)) is serial.finals
    in
    let five : codes "final a 0\nend 1\n" ≡ final_lines (pos 5 ∷ []) 0 ((codes "a", 1) ∷ []) ++ number_line (codes "end ") 1 =
    subst (λ d. codes "final a 0\nend 1\n" ≡ final_lines d 0 ((codes "a", 1) ∷ []) ++ number_line (codes "end ") 1) tables-after finals
    in
    let written : codes "final a 0\nend 1\n" ≡ (codes "final " ++ (codes "a" ++ (codes " " ++ decimal 5 ++ []) ++ 10 ∷ []) ++ []) ++ number_line (codes "end ") 1 = five in
    let digit : codes "final a 0\nend 1\n" ≡ (codes "final " ++ (codes "a" ++ (codes " " ++ (53 ∷ []) ++ []) ++ 10 ∷ []) ++ []) ++ number_line (codes "end ") 1 =
    subst (λ x. codes "final a 0\nend 1\n" ≡ (codes "final " ++ (codes "a" ++ (codes " " ++ x ++ []) ++ 10 ∷ []) ++ []) ++ number_line (codes "end ") 1) (decimal_digit 5 (omega arith)) written
    in
    let byte : 48 ≡ 53 = ap (nth 8) digit in
    absurd (omega (arith, byte))
