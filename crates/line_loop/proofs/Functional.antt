-- A machine that is a function of its lines: the account of its loop is what its definitions say.
use Rattle.std.proofs.Common.{◌≡◌, inl, inr, ℕ, ◌+◌, ◌≤◌, List, [], ◌∷◌, ◌++◌, length, Option, Bool, true, false, refl, sym, ◌∙◌, ap, subst, append_assoc, arith}
use Rattle.std.proofs.lemmas.List.{append-nil, take_all}
use Rattle.std.specs.Io.KnownBytes.{Consumes, IsAtEnd}
use Rattle.scc_ports.specs.Ports.{Gains, GainsPrefix}
use Rattle.scc_ports.proofs.Gained.{Gains-append, Gains-nil}
use Rattle.scc_text.specs.Lines.{lines_of, whole_lines, within_limit}
use Rattle.scc_text.specs.Reader.{Reader}
use Rattle.scc_text.specs.LinesRead.{LinesRead}
use Rattle.scc_text.proofs.Asked.{Consumes-nil}
use Rattle.line_loop.specs.Account.{Exchange, lines_in, replies_in, steps_in, Follows, GoesThrough, IsBreak, Closes, Looped}
use Rattle.line_loop.specs.Meaning.{Meaning, behaviour_of, machine_after, replies_from, steps_from, script_text, stepped, whole_text, whole_stepped, Ran, WrotePart}
use Rattle.line_loop.specs.declared.flow.Flow.{Flow}
use Rattle.line_loop.specs.declared.flow.Flow.TheVariants.{GoOn, WorkOn, Stop}
use Rattle.line_loop.specs.declared.ending.Ending.{Ending}
use Rattle.line_loop.specs.declared.ending.Ending.TheVariants.{Done, Stopped, ReadFault, WriteFault, OutOfMemory, InputLimit}
use Rattle.line_loop.proofs.Replies.{replies_from-append, steps_from-append, GainsPrefix-append}

-- the account by the definitions

follow-on : {M : Type 0} (m : Meaning M) (flow : Flow) (answered : M) (work : ℕ) (next : M) → Follows (behaviour_of m) flow answered work next → (work ≡ 0) × (next ≡ answered)
follow-on m GoOn answered work next follows = follows
follow-on m WorkOn answered work next follows = follows
follow-on m Stop answered work next follows = absurd follows

went-machine : {M : Type 0} (m : Meaning M) (start now : M) (exchanges : List (Exchange M)) → GoesThrough (behaviour_of m) start exchanges now → now ≡ machine_after m start (lines_in exchanges)
went-machine m start now [] went = went
went-machine m start now (exchange ∷ exchanges) went =
    went-machine m exchange.next now exchanges went.2 ∙ ap (λ s. machine_after m s (lines_in exchanges)) ((follow-on m exchange.flow exchange.answered exchange.work exchange.next went.1).1 ∙ went.0.3)

went-replies : {M : Type 0} (m : Meaning M) (start now : M) (exchanges : List (Exchange M)) → GoesThrough (behaviour_of m) start exchanges now → replies_in exchanges ≡ replies_from m start (lines_in exchanges)
went-replies m start now [] went = refl
went-replies m start now (exchange ∷ exchanges) went =
    ap (λ xs. exchange.reply ++ xs) (went-replies m exchange.next now exchanges went.2 ∙ ap (λ s. replies_from m s (lines_in exchanges)) ((follow-on m exchange.flow exchange.answered exchange.work exchange.next went.1).1 ∙ went.0.3))
    ∙ ap (λ xs. xs ++ replies_from m (m.next start exchange.line) (lines_in exchanges)) went.0.1

went-steps : {M : Type 0} (m : Meaning M) (start now : M) (exchanges : List (Exchange M)) → GoesThrough (behaviour_of m) start exchanges now → steps_in exchanges ≡ steps_from m start (lines_in exchanges)
went-steps m start now [] went = refl
went-steps m start now (exchange ∷ exchanges) went =
    let rest : steps_in exchanges ≡ steps_from m (m.next start exchange.line) (lines_in exchanges) =
    went-steps m exchange.next now exchanges went.2 ∙ ap (λ s. steps_from m s (lines_in exchanges)) ((follow-on m exchange.flow exchange.answered exchange.work exchange.next went.1).1 ∙ went.0.3) in
    let here : exchange.steps ≡ m.ticks start exchange.line = went.0.2 in
    let none : exchange.work ≡ 0 = (follow-on m exchange.flow exchange.answered exchange.work exchange.next went.1).0 in
    omega arith

-- the whole lines, where all bytes count
within_all : (bytes : List ℕ) → length bytes ≤ 67108864 → within_limit bytes ≡ bytes
unfolding within_limit
within_all bytes few = take_all 67108864 bytes few

-- all lines, and all whole ones
lines_all : (reader : Reader) (left_old left : Option (List ℕ)) (read : List ℕ) (done : List (List ℕ)) (pending : List ℕ)
    → LinesRead reader left_old left read done pending → lines_of read ≡ done ++ lines_of pending
lines_all reader left_old left read done pending lines =
    ap lines_of (sym (append-nil read)) ∙ lines.cut.lines [] (λ _. refl) ∙ ap (λ xs. done ++ lines_of xs) (append-nil pending)

whole_all : (reader : Reader) (left_old left : Option (List ℕ)) (read : List ℕ) (done : List (List ℕ)) (pending : List ℕ)
    → LinesRead reader left_old left read done pending → reader.ended ≡ false → length read ≤ 67108864 → whole_lines (within_limit read) ≡ done ++ whole_lines pending
whole_all reader left_old left read done pending lines is few =
    ap whole_lines (within_all read few ∙ sym (append-nil read)) ∙ lines.cut.whole is [] ∙ ap (λ xs. done ++ whole_lines xs) (append-nil pending)

-- the replies at a line, with what comes behind them
replies_at : {M : Type 0} (m : Meaning M) (start : M) (done : List (List ℕ)) (line : List ℕ) (more : List (List ℕ)) (tail : List ℕ)
    → replies_from m start ((done ++ line ∷ []) ++ more) ++ tail ≡ replies_from m start done ++ ((m.reply (machine_after m start done) line) ++ (replies_from m (m.next (machine_after m start done) line) more ++ tail))
replies_at m start done line more tail =
    ap (λ xs. replies_from m start xs ++ tail) (append_assoc done (line ∷ []) more)
    ∙ ap (λ xs. xs ++ tail) (replies_from-append m start done (line ∷ more))
    ∙ append_assoc (replies_from m start done) (replies_from m (machine_after m start done) (line ∷ more)) tail
    ∙ ap (λ xs. replies_from m start done ++ xs) (append_assoc (m.reply (machine_after m start done) line) (replies_from m (m.next (machine_after m start done) line) more) tail)

-- a front of what was to be written, at a line whose reply broke off
wrote_part : {M : Type 0} (m : Meaning M) (start : M) (ended : Bool) (reader : Reader) (left_old left written_old before written : Option (List ℕ)) (read : List ℕ) (done : List (List ℕ)) (line pending : List ℕ)
    → LinesRead reader left_old left read (done ++ line ∷ []) pending → reader.ended ≡ ended → length read ≤ 67108864
    → Gains written_old before (replies_from m start done) → GainsPrefix before written (m.reply (machine_after m start done) line)
    → WrotePart m start read left written_old written
unfolding script_text whole_text
wrote_part m start true reader left_old left written_old before written read done line pending lines is few wrote part =
    let tail : List ℕ = m.ending (machine_after m start (lines_of read)) in
    let text : replies_from m start (lines_of read) ++ tail ≡ _ = ap (λ xs. replies_from m start xs ++ tail) (lines_all reader left_old left read (done ++ line ∷ []) pending lines) ∙ replies_at m start done line (lines_of pending) tail in
    inl (lines.at_end is, subst (λ xs. GainsPrefix written_old written xs) (sym text) (GainsPrefix-append _ _ _ _ _ _ wrote part))
wrote_part m start false reader left_old left written_old before written read done line pending lines is few wrote part =
    let text : replies_from m start (whole_lines (within_limit read)) ≡ _ =
    ap (λ xs. replies_from m start xs) (whole_all reader left_old left read (done ++ line ∷ []) pending lines is few) ∙ sym (append-nil _) ∙ replies_at m start done line (whole_lines pending) [] in
    inr (subst (λ xs. GainsPrefix written_old written xs) (sym text) (GainsPrefix-append _ _ _ _ _ _ wrote part))

-- how many steps were made at most
ticked_most : {M : Type 0} (m : Meaning M) (start : M) (reader : Reader) (left_old left : Option (List ℕ)) (read : List ℕ) (done : List (List ℕ)) (pending : List ℕ)
    → LinesRead reader left_old left read done pending → steps_from m start done ≤ stepped m start read
unfolding stepped
ticked_most m start reader left_old left read done pending lines =
    let all : steps_from m start (lines_of read) ≡ steps_from m start (done ++ lines_of pending) = ap (steps_from m start) (lines_all reader left_old left read done pending lines) in
    omega (arith, steps_from-append m start done (lines_of pending))

-- a run that broke off
ran_broke : {M : Type 0} (m : Meaning M) (start : M) (status : Ending) (before now : ℕ) (read : List ℕ) (left_old left_new written_old written_new : Option (List ℕ)) (steps_old steps_new : ℕ) → IsBreak before now status
    → Consumes left_old left_new read → length read ≤ 67108864 → WrotePart m start read left_new written_old written_new → (steps_old ≤ steps_new) × (steps_new ≤ steps_old + stepped m start read)
    → Ran m start status read left_old left_new written_old written_new steps_old steps_new
ran_broke m start WriteFault before now read left_old left_new written_old written_new steps_old steps_new is took few wrote ticked =
    record { took = took; few = omega arith; limit = (λ limit. absurd (cc), λ size. absurd (omega arith)); wrote = wrote; ticked = ticked }
ran_broke m start OutOfMemory before now read left_old left_new written_old written_new steps_old steps_new is took few wrote ticked =
    record { took = took; few = omega arith; limit = (λ limit. absurd (cc), λ size. absurd (omega arith)); wrote = wrote; ticked = ticked }
ran_broke m start Done before now read left_old left_new written_old written_new steps_old steps_new is took few wrote ticked = absurd is
ran_broke m start Stopped before now read left_old left_new written_old written_new steps_old steps_new is took few wrote ticked = absurd is
ran_broke m start ReadFault before now read left_old left_new written_old written_new steps_old steps_new is took few wrote ticked = absurd is
ran_broke m start InputLimit before now read left_old left_new written_old written_new steps_old steps_new is took few wrote ticked = absurd is

-- a reply broke off
ran_line_broke : {M : Type 0} (m : Meaning M) (start : M) (status : Ending) (f_before f_now : ℕ) (reader : Reader) (left_old left written_old before written : Option (List ℕ)) (steps_old steps_before steps : ℕ) (read : List ℕ) (done : List (List ℕ)) (line pending : List ℕ)
    → IsBreak f_before f_now status → LinesRead reader left_old left read (done ++ line ∷ []) pending → reader.taken ≤ 67108864
    → Gains written_old before (replies_from m start done) → steps_before ≡ steps_old + steps_from m start done
    → GainsPrefix before written (m.reply (machine_after m start done) line) → (steps_before ≤ steps) × (steps ≤ steps_before + (m.ticks (machine_after m start done) line))
    → Ran m start status read left_old left written_old written steps_old steps
ran_line_broke m start status f_before f_now reader left_old left written_old before written steps_old steps_before steps read done line pending is lines room wrote ticked part ticks =
    let few : length read ≤ 67108864 = omega (arith, lines.count) in
    ran_broke m start status f_before f_now read left_old left written_old written steps_old steps is lines.took few
    (wrote_part m start reader.ended reader left_old left written_old before written read done line pending lines refl few wrote part)
    (omega arith, omega (arith, ticked_most m start reader left_old left read (done ++ line ∷ []) pending lines, steps_from-append m start done (line ∷ [])))

-- the end of the input: all is written
ran_done : {M : Type 0} (m : Meaning M) (start : M) (left_old left written_old before written : Option (List ℕ)) (machine : M) (steps_old steps : ℕ) (read : List ℕ) (done : List (List ℕ))
    → Consumes left_old left read → IsAtEnd left → lines_of read ≡ done → length read ≤ 67108864
    → machine ≡ machine_after m start done → Gains written_old before (replies_from m start done) → Gains before written (m.ending machine) → steps ≡ steps_old + steps_from m start done
    → Ran m start Done read left_old left written_old written steps_old steps
unfolding script_text stepped
ran_done m start left_old left written_old before written machine steps_old steps read done took end all few number wrote ends ticked = record {
  took = took;
  few = omega arith;
  limit = (λ limit. absurd (cc), λ size. absurd (omega arith));
  wrote = (
    end,
    subst (λ xs. Gains written_old written (replies_from m start xs ++ m.ending (machine_after m start xs))) (sym all)
        (Gains-append _ _ _ _ _ wrote (subst (λ n. Gains before written (m.ending n)) number ends)),
  );
  ticked = ticked ∙ ap (λ xs. steps_old + steps_from m start xs) (sym all);
}

-- the end of the input, where the last lines broke off
ran_end_broke : {M : Type 0} (m : Meaning M) (start : M) (status : Ending) (f_before f_now : ℕ) (left_old left written_old before written : Option (List ℕ)) (machine : M) (steps_old steps : ℕ) (read : List ℕ) (done : List (List ℕ))
    → IsBreak f_before f_now status → Consumes left_old left read → IsAtEnd left → lines_of read ≡ done → length read ≤ 67108864
    → machine ≡ machine_after m start done → Gains written_old before (replies_from m start done) → GainsPrefix before written (m.ending machine) → steps ≡ steps_old + steps_from m start done
    → Ran m start status read left_old left written_old written steps_old steps
unfolding script_text stepped
ran_end_broke m start status f_before f_now left_old left written_old before written machine steps_old steps read done is took end all few number wrote ends ticked =
    let ends_here : GainsPrefix before written (m.ending (machine_after m start done)) = subst (λ n. GainsPrefix before written (m.ending n)) number ends in
    let part : GainsPrefix written_old written (replies_from m start done ++ m.ending (machine_after m start done)) =
    subst (λ xs. GainsPrefix written_old written (replies_from m start done ++ xs)) (append-nil (m.ending (machine_after m start done))) (GainsPrefix-append _ _ _ _ _ [] wrote ends_here) in
    let same : steps ≡ steps_old + steps_from m start (lines_of read) = ticked ∙ ap (λ xs. steps_old + steps_from m start xs) (sym all) in
    ran_broke m start status f_before f_now read left_old left written_old written steps_old steps is took few
    (inl (end, subst (λ xs. GainsPrefix written_old written (replies_from m start xs ++ m.ending (machine_after m start xs))) (sym all) part))
    (omega arith, omega arith)

-- the source failed
ran_read_fault : {M : Type 0} (m : Meaning M) (start : M) (left_old left written_old written : Option (List ℕ)) (steps_old steps : ℕ) (read : List ℕ) (done : List (List ℕ))
    → Consumes left_old left read → whole_lines (within_limit read) ≡ done → length read ≤ 67108864
    → Gains written_old written (replies_from m start done) → steps ≡ steps_old + steps_from m start done
    → Ran m start ReadFault read left_old left written_old written steps_old steps
unfolding whole_text whole_stepped
ran_read_fault m start left_old left written_old written steps_old steps read done took whole few wrote ticked = record {
  took = took;
  few = omega arith;
  limit = (λ limit. absurd (cc), λ size. absurd (omega arith));
  wrote = subst (λ xs. Gains written_old written (replies_from m start xs)) (sym whole) wrote;
  ticked = ticked ∙ ap (λ xs. steps_old + steps_from m start xs) (sym whole);
}

-- the input is longer than the limit
ran_input_limit : {M : Type 0} (m : Meaning M) (start : M) (left_old left written_old written : Option (List ℕ)) (steps_old steps : ℕ) (read : List ℕ) (done : List (List ℕ))
    → Consumes left_old left read → whole_lines (within_limit read) ≡ done → length read ≡ 67108865
    → Gains written_old written (replies_from m start done) → steps ≡ steps_old + steps_from m start done
    → Ran m start InputLimit read left_old left written_old written steps_old steps
unfolding whole_text whole_stepped
ran_input_limit m start left_old left written_old written steps_old steps read done took whole size wrote ticked = record {
  took = took;
  few = omega arith;
  limit = (λ _. size, λ _. refl);
  wrote = subst (λ xs. Gains written_old written (replies_from m start xs)) (sym whole) wrote;
  ticked = ticked ∙ ap (λ xs. steps_old + steps_from m start xs) (sym whole);
}

-- memory ran out before anything was read
pub ran_nothing : {M : Type 0} (m : Meaning M) (start : M) (left written : Option (List ℕ)) (steps : ℕ) → Ran m start OutOfMemory [] left left written written steps steps
ran_nothing m start left written steps =
    ran_broke m start OutOfMemory 0 0 [] left left written written steps steps tt (Consumes-nil left) (omega arith) (inr (0, Gains-nil written)) (omega arith, omega arith)

-- the ends, one by one

few_but_limit : (status : Ending) (size : ℕ) → size ≤ 67108865 → (size ≡ 67108865 → status ≡ InputLimit) → (status ≡ InputLimit → ⊥) → size ≤ 67108864
few_but_limit status size few limit other = let differs : size ≡ 67108865 → ⊥ = λ is. other (limit is) in omega arith

-- a fault's count that rose
rose : IsBreak 0 1 WriteFault
rose = omega arith

-- a reply that broke off
reply_part : {M : Type 0} (m : Meaning M) (from number : M) (line reply : List ℕ) (told written : Option (List ℕ)) → from ≡ number → reply ≡ m.reply from line → GainsPrefix told written reply → GainsPrefix told written (m.reply number line)
reply_part m from number line reply told written is same part = subst (λ s. GainsPrefix told written (m.reply s line)) is (subst (λ xs. GainsPrefix told written xs) same part)

by_end : {M : Type 0} (m : Meaning M) (start from now : M) (status : Ending) (reader : Reader) (left_old left written_old told written : Option (List ℕ)) (steps_old steps more : ℕ) (read : List ℕ) (lines : List (List ℕ))
    → from ≡ machine_after m start lines → Gains written_old told (replies_from m start lines) → steps ≡ steps_old + steps_from m start lines + more
    → length read ≤ 67108865 → (length read ≡ 67108865 → status ≡ InputLimit) → (status ≡ InputLimit → length read ≡ 67108865)
    → Closes (behaviour_of m) status from now more told written reader left_old left read lines
    → Ran m start status read left_old left written_old written steps_old steps
by_end m start from now Done reader left_old left written_old told written steps_old steps more read lines number wrote ticked few limit other closes =
    let none : more ≡ 0 = closes.2 in
    ran_done m start left_old left written_old told written now steps_old steps read lines closes.0.0 closes.0.1 closes.0.2 (few_but_limit Done _ few limit (λ is. cc))
    (closes.1 ∙ number) wrote (subst (λ xs. Gains told written xs) closes.3.1 closes.3.2) (omega arith)
by_end m start from now Stopped reader left_old left written_old told written steps_old steps more read lines number wrote ticked few limit other closes =
    let never : Stop ≡ GoOn = closes.2.1.0 in absurd (cc)
by_end m start from now ReadFault reader left_old left written_old told written steps_old steps more read lines number wrote ticked few limit other closes =
    let none : more ≡ 0 = closes.2 in
    ran_read_fault m start left_old left written_old written steps_old steps read lines closes.0.0 closes.0.1 (few_but_limit ReadFault _ few limit (λ is. cc))
    (subst (λ w. Gains written_old w (replies_from m start lines)) (sym closes.3) wrote) (omega arith)
by_end m start from now InputLimit reader left_old left written_old told written steps_old steps more read lines number wrote ticked few limit other closes =
    let none : more ≡ 0 = closes.2 in
    ran_input_limit m start left_old left written_old written steps_old steps read lines closes.0.0 closes.0.1 (other refl)
    (subst (λ w. Gains written_old w (replies_from m start lines)) (sym closes.3) wrote) (omega arith)
by_end m start from now WriteFault reader left_old left written_old told written steps_old steps more read lines number wrote ticked few limit other closes =
    let short : length read ≤ 67108864 = few_but_limit WriteFault _ few limit (λ is. cc) in
    elim closes [
      | inl at ↦ (
          let made : more ≡ m.ticks from at.0 = at.2.2.2 in
          let same : m.ticks from at.0 ≡ m.ticks (machine_after m start lines) at.0 = ap (λ s. m.ticks s at.0) number in
          ran_line_broke m start WriteFault 0 1 reader left_old left written_old told written steps_old (steps_old + steps_from m start lines) steps read lines at.0 at.1.0 rose at.1.1 (omega (arith, at.1.1.count))
          wrote refl (reply_part m from (machine_after m start lines) at.0 at.2.1 told written number at.2.2.1 at.2.3) (omega arith, omega arith))
      | inr at ↦ (
          let none : more ≡ 0 = at.2 in
          ran_end_broke m start WriteFault 0 1 left_old left written_old told written now steps_old steps read lines rose at.0.0 at.0.1 at.0.2 short
          (at.1 ∙ number) wrote (subst (λ xs. GainsPrefix told written xs) at.3.1 at.3.2) (omega arith))
    ]
by_end m start from now OutOfMemory reader left_old left written_old told written steps_old steps more read lines number wrote ticked few limit other closes =
    let short : length read ≤ 67108864 = few_but_limit OutOfMemory _ few limit (λ is. cc) in
    elim closes [
      | inl at ↦ (
          let made : more ≤ m.ticks from at.0 = at.2.0 in
          let same : m.ticks from at.0 ≡ m.ticks (machine_after m start lines) at.0 = ap (λ s. m.ticks s at.0) number in
          ran_line_broke m start OutOfMemory 0 1 reader left_old left written_old told written steps_old (steps_old + steps_from m start lines) steps read lines at.0 at.1.0 tt at.1.1 (omega (arith, at.1.1.count))
          wrote refl (0, at.2.1) (omega arith, omega arith))
      | inr at ↦ (
          let none : more ≡ 0 = at.2 in
          ran_end_broke m start OutOfMemory 0 1 left_old left written_old told written now steps_old steps read lines tt at.0.0 at.0.1 at.0.2 short
          (at.1 ∙ number) wrote (0, at.3) (omega arith))
    ]

-- The account of a loop with a new reader, for a machine that is a function of its lines.
pub ran_functional : {M : Type 0} (m : Meaning M) (start now : M) (status : Ending) (reader : Reader) (left_old left written_old written : Option (List ℕ)) (steps_old steps : ℕ)
    → Looped (behaviour_of m) start now status reader left_old left [] written_old written steps_old steps
    → (read : List ℕ) × Ran m start status read left_old left written_old written steps_old steps
ran_functional m start now status reader left_old left written_old written steps_old steps l =
    let same : steps_in l.exchanges ≡ steps_from m start (lines_in l.exchanges) = went-steps m start l.from l.exchanges l.went in (
      l.read,
      by_end m start l.from now status reader left_old left written_old l.told written steps_old steps l.more l.read (lines_in l.exchanges)
          (went-machine m start l.from l.exchanges l.went) (subst (λ xs. Gains written_old l.told xs) (went-replies m start l.from l.exchanges l.went) l.wrote) (omega (arith, l.ticked))
          l.few l.limit.1 l.limit.0 l.closes,
    )
