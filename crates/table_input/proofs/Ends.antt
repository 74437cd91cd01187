-- How the reading of an input ends.
use Rattle.std.proofs.Common.{◌≡◌, ◌↔◌, inl, inr, ℕ, ◌+◌, Bool, true, false, List, [], ◌∷◌, ◌++◌, length, take, Option, Ok, Err, refl, sym, ◌∙◌, ap, subst, append_assoc, length-append, arith}
use Rattle.std.proofs.lemmas.List.{append-nil}
use Rattle.std.proofs.Math.Seq.{take-nil}
use Rattle.std.specs.Io.KnownBytes.{Consumes}
use Rattle.scc_ports.specs.Ports.{Gains, GainsPrefix}
use Rattle.scc_ports.proofs.Gained.{Gains-append, Gains-nil}
use Rattle.scc_text.specs.Lines.{lines_of, whole_lines}
use Rattle.scc_text.specs.Reader.{Reader}
use Rattle.scc_text.specs.LinesRead.{LinesRead}
use Rattle.line_loop.specs.Account.{Exchange, lines_in, replies_in, GoesThrough, AtLine, Closes, Looped}
use Rattle.line_loop.specs.declared.flow.Flow.TheVariants.{Stop}
use Rattle.line_loop.specs.declared.ending.Ending.{Ending}
use Rattle.line_loop.specs.declared.ending.Ending.TheVariants.{Done, Stopped, ReadFault, WriteFault, OutOfMemory, InputLimit}
use Rattle.table_input.specs.declared.read.Reading.{Reading}
use Rattle.batch_input.specs.declared.read.Unread.TheVariants as ends
use Rattle.scc_setup.specs.Opening.{no_tables}
use Rattle.table_input.specs.Tables.{after_line, go_on, lines_from, input_of, table_input}
use Rattle.table_input.specs.Reading.{IsTaken, behaviour, made}
use Rattle.batch_input.specs.Unread.{IsReadThrough}
use Rattle.table_input.specs.Unread.{InputRead, ReadInput}
use Rattle.table_input.proofs.Lines.{stopped-by, went-lines, went-silent}

-- what all lines make that were gone on from
all-made : (start now : Reading) (xs : List (Exchange Reading)) → start.setup ≡ no_tables → GoesThrough behaviour start xs now → input_of (lines_in xs) ≡ Ok now.setup
all-made start now xs empty went =
    ap (λ lines. lines_from no_tables 1 lines) (sym (append-nil (lines_in xs))) ∙ ap (λ b. lines_from b 1 (lines_in xs ++ [])) (sym empty) ∙ went-lines 1 start now xs [] went

-- the first line that is refused, behind those that were gone on from
first-refused : (start now to : Reading) (xs : List (Exchange Reading)) (line : List ℕ) (more : List (List ℕ)) (number : ℕ) → start.setup ≡ no_tables → GoesThrough behaviour start xs now
    → IsTaken (after_line now.setup line) Stop to → number ≡ length (lines_in xs ++ line ∷ []) → input_of ((lines_in xs ++ line ∷ []) ++ more) ≡ Err (record { line = number; code = to.refusal })
first-refused start now to xs line more number empty went taken is =
    let count : 1 + length (lines_in xs) ≡ number = omega (arith, is, length-append (lines_in xs) (line ∷ [])) in
    ap (λ lines. lines_from no_tables 1 lines) (append_assoc (lines_in xs) (line ∷ []) more)
    ∙ ap (λ b. lines_from b 1 (lines_in xs ++ line ∷ more)) (sym empty)
    ∙ went-lines 1 start now xs (line ∷ more) went
    ∙ ap (λ r. go_on (1 + length (lines_in xs)) r (λ b. lines_from b (1 + length (lines_in xs) + 1) more)) (stopped-by (after_line now.setup line) to taken)
    ∙ ap (λ n. Err (record { line = n; code = to.refusal })) count

-- all lines behind those that were answered
pub lines-all : (reader : Reader) (left_old left : Option (List ℕ)) (read : List ℕ) (done : List (List ℕ)) (pending : List ℕ)
    → LinesRead reader left_old left read done pending → lines_of read ≡ done ++ lines_of (pending ++ [])
lines-all reader left_old left read done pending lines = ap lines_of (sym (append-nil read)) ∙ lines.cut.lines [] (λ _. refl)

-- the newline of the last line that was answered is among the bytes, or they end
pub read-through : (ended : Bool) (reader : Reader) (left_old left : Option (List ℕ)) (read : List ℕ) (done : List (List ℕ)) (pending : List ℕ)
    → LinesRead reader left_old left read done pending → reader.ended ≡ ended → IsReadThrough read reader.number left
read-through true reader left_old left read done pending lines is = inr (lines.at_end is)
read-through false reader left_old left read done pending lines is =
    let whole : whole_lines read ≡ done ++ whole_lines (pending ++ []) = ap whole_lines (sym (append-nil read)) ∙ lines.cut.whole is [] in
    let size = ap length whole ∙ length-append done (whole_lines (pending ++ [])) in
    inl (omega (arith, lines.number, size))

-- what was taken of the source, at a line, at the end or behind the whole lines
line-took : (reader : Reader) (left_old left : Option (List ℕ)) (read : List ℕ) (done : List (List ℕ)) (line : List ℕ) → AtLine reader left_old left read done line → Consumes left_old left read
line-took reader left_old left read done line at = at.1.took

-- nothing was written, also where what was to be written is nothing
no-front : (told written : Option (List ℕ)) (reply : List ℕ) → reply ≡ [] → GainsPrefix told written reply → Gains told written []
no-front told written reply none part = subst (λ xs. Gains told written xs) (ap (λ xs. take part.0 xs) none ∙ take-nil part.0) part.1

both : (written_old told written : Option (List ℕ)) (xs : List (Exchange Reading)) → replies_in xs ≡ [] → Gains written_old told (replies_in xs) → Gains told written [] → Gains written_old written []
both written_old told written xs none wrote last = subst (λ r. Gains written_old written (r ++ [])) none (Gains-append written_old told written (replies_in xs) [] wrote last)

-- What each end says, behind the lines that were gone on from.
record Ended (status : Ending) (to : Reading) (number : ℕ) (left_old left told written : Option (List ℕ)) (read : List ℕ) : Type 0 where
  took : Consumes left_old left read
  silent : Gains told written []
  told_so : InputRead (made status to number) read left

ended-so : (status : Ending) (start from to : Reading) (xs : List (Exchange Reading)) (more : ℕ) (told written : Option (List ℕ)) (reader : Reader) (left_old left : Option (List ℕ)) (read : List ℕ)
    → start.setup ≡ no_tables → GoesThrough behaviour start xs from → Closes behaviour status from to more told written reader left_old left read (lines_in xs)
    → Ended status to reader.number left_old left told written read
ended-so Done start from to xs more told written reader left_old left read empty went closes =
    let all : table_input read ≡ Ok from.setup = ap input_of closes.0.2 ∙ all-made start from xs empty went in
    record {
      took = closes.0.0;
      silent = subst (λ text. Gains told written text) closes.3.1 closes.3.2;
      told_so = (closes.0.1, all ∙ ap (λ m. Ok m.setup) (sym closes.1));
    }
ended-so Stopped start from to xs more told written reader left_old left read empty went closes =
    let line : List ℕ = closes.0 in
    let lines = closes.1.1 in
    let refused = first-refused start from to xs line (lines_of (closes.1.0 ++ [])) reader.number empty went closes.2.1.0 lines.number in
    record {
      took = lines.took;
      silent = subst (λ reply. Gains told written reply) closes.2.1.1 closes.2.2;
      told_so = (
        ap input_of (lines-all reader left_old left read (lines_in xs ++ line ∷ []) closes.1.0 lines) ∙ refused,
        read-through reader.ended reader left_old left read (lines_in xs ++ line ∷ []) closes.1.0 lines refl,
      );
    }
ended-so ReadFault start from to xs more told written reader left_old left read empty went closes = record {
  took = closes.0.0;
  silent = subst (λ w. Gains told w []) (sym closes.3) (Gains-nil told);
  told_so = record { opening = from.setup; made = ap input_of closes.0.1 ∙ all-made start from xs empty went };
}
ended-so InputLimit start from to xs more told written reader left_old left read empty went closes = record {
  took = closes.0.0;
  silent = subst (λ w. Gains told w []) (sym closes.3) (Gains-nil told);
  told_so = record { opening = from.setup; made = ap input_of closes.0.1 ∙ all-made start from xs empty went };
}
ended-so WriteFault start from to xs more told written reader left_old left read empty went (inl broke) = record {
  took = broke.1.1.took;
  silent = no-front told written broke.2.1 broke.2.2.1 broke.2.3;
  told_so = tt;
}
ended-so WriteFault start from to xs more told written reader left_old left read empty went (inr broke) = record {
  took = broke.0.0;
  silent = no-front told written broke.3.0 broke.3.1 broke.3.2;
  told_so = tt;
}
ended-so OutOfMemory start from to xs more told written reader left_old left read empty went (inl broke) = record {
  took = broke.1.1.took;
  silent = broke.2.1;
  told_so = tt;
}
ended-so OutOfMemory start from to xs more told written reader left_old left read empty went (inr broke) = record {
  took = broke.0.0;
  silent = broke.3;
  told_so = tt;
}

-- the limit is told exactly where one byte too many was taken
limit-made : (status : Ending) (to : Reading) (number size : ℕ) → (status ≡ InputLimit) ↔ (size ≡ 67108865) → (made status to number ≡ Err ends.InputLimit) ↔ (size ≡ 67108865)
limit-made Done to number size limit = (λ is. absurd (cc), λ is. absurd (let e = limit.1 is in cc))
limit-made Stopped to number size limit = (λ is. absurd (cc), λ is. absurd (let e = limit.1 is in cc))
limit-made ReadFault to number size limit = (λ is. absurd (cc), λ is. absurd (let e = limit.1 is in cc))
limit-made WriteFault to number size limit = (λ is. absurd (cc), λ is. absurd (let e = limit.1 is in cc))
limit-made OutOfMemory to number size limit = (λ is. absurd (cc), λ is. absurd (let e = limit.1 is in cc))
limit-made InputLimit to number size limit = (λ _. limit.0 refl, λ _. refl)

-- a loop from a reader at the beginning of its input
pub loop-read : (start to : Reading) (status : Ending) (reader : Reader) (left_old left written_old written : Option (List ℕ)) (steps_old steps : ℕ) → start.setup ≡ no_tables
    → Looped behaviour start to status reader left_old left [] written_old written steps_old steps
    → ((read : List ℕ) × ReadInput (made status to reader.number) read left_old left) × Gains written_old written []
loop-read start to status reader left_old left written_old written steps_old steps empty looped =
    let ended = ended-so status start looped.from to looped.exchanges looped.more looped.told written reader left_old left looped.read empty looped.went looped.closes in (
      (looped.read, record { took = ended.took; few = looped.few; limit = limit-made status to reader.number (length looped.read) looped.limit; told = ended.told_so }),
      both written_old looped.told written looped.exchanges (went-silent start looped.from looped.exchanges looped.went) looped.wrote ended.silent,
    )
