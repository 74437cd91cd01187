-- Texts that are refused.
use Rattle.std.proofs.Common.{◌≡◌, ◌⊎◌, ℕ, zero, suc, List, [], ◌∷◌, ◌++◌, Ok, Err, inl, inr, refl, sym, ap, ◌∙◌, subst, arith}
use Rattle.std.specs.Prelude.{map, length, codes, decimal}
use Rattle.std.proofs.lemmas.Fmt.{decimal_digit}
use Rattle.txn_runs.specs.Serial.{outcomes, last_tables}
use Rattle.txn_runs.specs.Run.{after}
use Rattle.txn_runs.specs.declared.outcome.Outcome.TheVariants.{Done}
use Rattle.scc_text.specs.declared.command.Command.TheVariants.{Begin, Commit}
use Rattle.scc_text.specs.Words as words
use Rattle.scc_text.specs.Number as number
use Rattle.scc_text.specs.Command as command
use Rattle.scc_text.specs.Command.{program_bytes}
use Rattle.txn_syntax.specs.Reads.{read_of}
use Rattle.journal_core.specs.Reply.{outcome_words}
use Rattle.scc_replies.specs.Lines.{number_line}
use Rattle.scc_script.specs.Ended.{Ended, resume_lines, start_lines}
use Rattle.scc_replies.specs.Finals.{final_lines}
use Rattle.serial_text.specs.Notes.{Notes, no_notes, with_begun, with_commits, commit_of, IsRefused, IsUnread, IsDeclined, IsBegun, HasCommitted, IsNotedBy, IsNoted, command_in}
use Rattle.serial_text.specs.Serial.{printed_programs}
use Rattle.serial_text.specs.Wrong.{TooMany, OtherOutcome}

-- the byte at this place
unfoldable pub nth : ℕ → List ℕ → ℕ
nth n [] = 0
nth zero (b ∷ bs) = b
nth (suc n) (b ∷ bs) = nth n bs

pub too-many : TooMany
unfolding nth
too-many notes noted serial =
    let finals : codes "end 1\n" ≡ codes "end " ++ decimal 0 ++ 10 ∷ [] =
    subst (λ n. codes "end 1\n" ≡ final_lines (last_tables n.opening.tables (printed_programs n)) 0 n.opening.names ++ number_line (codes "end ") (length n.commits)) noted serial.finals
    in
    let digit : codes "end 1\n" ≡ codes "end " ++ (48 ∷ []) ++ 10 ∷ [] = subst (λ x. codes "end 1\n" ≡ codes "end " ++ x ++ 10 ∷ []) (decimal_digit 0 (omega arith)) finals in
    let byte : 49 ≡ 48 = ap (nth 4) digit in
    absurd (omega (arith, byte))

begin-line : command_in (codes "begin 0 { }") ≡ Ok (Begin 0 8)
unfolding words.words_from command.command_of number.natural_of
begin-line = refl

pub commit-line : command_in (codes "commit 1") ≡ Ok (Commit 1)
unfolding words.words_from command.command_of number.natural_of
commit-line = refl

program-read : read_of [] (program_bytes (codes "begin 0 { }") 8) ≡ Ok []
unfolding program_bytes
program-read = refl

module _ (next : Notes) where
  begun : IsUnread no_notes (program_bytes (codes "begin 0 { }") 8) (codes "begin 1 started\n") next
      ⊎ (IsDeclined no_notes (program_bytes (codes "begin 0 { }") 8) (codes "begin 1 started\n") next ⊎ IsBegun no_notes (program_bytes (codes "begin 0 { }") 8) (codes "begin 1 started\n") next)
      → next ≡ with_begun no_notes 1 []
  unfolding nth
  begun (inl u) = let both : Ok [] ≡ Err u.refusal = sym program-read ∙ u.read in absurd (cc)
  begun (inr (inl r)) = let byte : 98 ≡ 114 = ap (nth 0) r.told in absurd (omega (arith, byte))
  begun (inr (inr b)) =
      let both : Ok [] ≡ Ok b.body = sym program-read ∙ b.read in
      let body : [] ≡ b.body = cc in
      let txn : b.txn ≡ 1 = b.next in
      b.noted ∙ ap (λ t. with_begun no_notes t b.body) txn ∙ ap (λ p. with_begun no_notes 1 p) (sym body)

  first : IsNoted no_notes (codes "begin 0 { }") (codes "begin 1 started\n") next → next ≡ with_begun no_notes 1 []
  unfolding IsNoted
  first h = begun (subst (λ c. IsNotedBy no_notes (codes "begin 0 { }") c (codes "begin 1 started\n") next) begin-line h)

second : (before next : Notes) → IsNoted before (codes "commit 1") (codes "commit 1 failed 3\n") next → HasCommitted before 1 (codes "commit 1 failed 3\n") next
unfolding IsNoted nth
second before next h = go (subst (λ c. IsNotedBy before (codes "commit 1") c (codes "commit 1 failed 3\n") next) commit-line h)
  where
    go : IsRefused before (codes "commit 1 failed 3\n") next ⊎ HasCommitted before 1 (codes "commit 1 failed 3\n") next → HasCommitted before 1 (codes "commit 1 failed 3\n") next
    go (inl r) = let byte : 99 ≡ 114 = ap (nth 0) r.told in absurd (omega (arith, byte))
    go (inr c) = c

-- the outcome of the empty program
empty-outcome : outcomes [] ([] ∷ []) ≡ Done [] ∷ []
unfolding after
empty-outcome = refl

pub other-outcome : OtherOutcome
unfolding nth
other-outcome notes noted serial =
    let b = first noted.0 noted.1 in
    let c = second noted.0 noted.2.0 noted.2.1 in
    let e : Ended = c.ended in
    let is : notes ≡ with_commits (with_begun no_notes 1 []) ((1, e.outcome) ∷ []) =
    noted.2.2 ∙ c.noted ∙ ap (λ n. with_commits n (commit_of e ∷ [])) b ∙ ap (λ t. with_commits (with_begun no_notes 1 []) ((t, e.outcome) ∷ [])) c.named
    in
    let told : e.outcome ∷ [] ≡ outcomes [] ([] ∷ []) = subst (λ n. map (λ c. c.1) n.commits ≡ outcomes n.opening.tables (printed_programs n)) is serial.run.told in
    let outcome : e.outcome ∷ [] ≡ Done [] ∷ [] = told ∙ empty-outcome in
    let done : e.outcome ≡ Done [] = cc in
    let back : List ℕ = resume_lines e.resumed in
    let more : List ℕ = start_lines e.starts in
    let text : codes "commit 1 failed 3\n" ≡ (codes "commit " ++ decimal e.txn ++ codes " " ++ outcome_words e.outcome ++ codes "\n") ++ back ++ more = c.told in
    let one : codes "commit 1 failed 3\n" ≡ (codes "commit " ++ decimal 1 ++ codes " " ++ outcome_words e.outcome ++ codes "\n") ++ back ++ more =
    subst (λ t. codes "commit 1 failed 3\n" ≡ (codes "commit " ++ decimal t ++ codes " " ++ outcome_words e.outcome ++ codes "\n") ++ back ++ more) c.named text
    in
    let digit : codes "commit 1 failed 3\n" ≡ (codes "commit " ++ (49 ∷ []) ++ codes " " ++ outcome_words e.outcome ++ codes "\n") ++ back ++ more =
    subst (λ x. codes "commit 1 failed 3\n" ≡ (codes "commit " ++ x ++ codes " " ++ outcome_words e.outcome ++ codes "\n") ++ back ++ more) (decimal_digit 1 (omega arith)) one
    in
    let last : codes "commit 1 failed 3\n" ≡ (codes "commit " ++ (49 ∷ []) ++ codes " " ++ outcome_words (Done []) ++ codes "\n") ++ back ++ more =
    subst (λ o. codes "commit 1 failed 3\n" ≡ (codes "commit " ++ (49 ∷ []) ++ codes " " ++ outcome_words o ++ codes "\n") ++ back ++ more) done digit
    in
    let byte : 102 ≡ 100 = ap (nth 9) last in
    absurd (omega (arith, byte))
