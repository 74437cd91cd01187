-- A head under way, and how its reading ends.
use Rattle.std.proofs.Common.{◌≡◌, ◌≢◌, ◌↔◌, ◌<◌, ◌≤◌, inl, inr, ℕ, ◌+◌, Bool, true, false, List, [], ◌∷◌, ◌++◌, length, nat_lt, Option, Some, None, Ok, Err, refl, sym, ap, ◌∙◌, subst, append_assoc, append-nil, length-append, arith}
use Rattle.std.proofs.lemmas.Bool.Decides.{nat_tests}
use Rattle.scc_text.specs.Lines.{lines_of}
use Rattle.scc_text.specs.Reader.{Reader, opened_reader, IsPending, Answers}
use Rattle.scc_text.specs.LinesRead.{LinesRead}
use Rattle.scc_text.specs.declared.next.Next.{Next}
use Rattle.scc_text.specs.declared.next.Next.TheVariants.{Line, TooLong, End, InputLimit}
use Rattle.scc_text.proofs.LinesRead.{lines_read_opened, read_line, read_too_long, read_end}
use Rattle.scc_text.proofs.Asked.{Consumes-append}
use Rattle.batch_input.specs.Input.{Batch, no_batch}
use Rattle.batch_input.specs.Unread.{IsReadThrough}
use Rattle.batch_input.proofs.Ends.{lines-all, read-through}
use Rattle.audit_head.specs.declared.form.Form.{Form}
use Rattle.audit_head.specs.declared.form.HeadEnd.{HeadEnd}
use Rattle.audit_head.specs.declared.form.HeadEnd.TheVariants as ends
use Rattle.audit_head.specs.Behind.{past_lines}
use Rattle.audit_head.specs.Head.{form_named, after_line, head_by, head_from, head_of}
use Rattle.audit_head.specs.Reading.{HeadTold, HeadRead}
use Rattle.audit_head.proofs.Behind.{Edge, edge-line, edge-tail}

-- The lines that were answered, of so many bytes with a newline each, made this batch, and none of them said what follows.
pub record Heading (batch : Batch) (spelled : ℕ) (reader : Reader) (left_old left : Option (List ℕ)) : Type 0 where
  pub read : List ℕ
  pub done : List (List ℕ)
  pub pending : List ℕ
  pub lines : LinesRead reader left_old left read done pending
  pub edge : Edge spelled reader.ended read done pending
  pub made : (more : List (List ℕ)) → head_of (done ++ more) ≡ head_from batch (1 + length done) more

pub heading-none : (batch : Batch) (reader : Reader) (left : Option (List ℕ)) → batch ≡ no_batch → reader ≡ opened_reader → Heading batch 0 reader left left
unfolding past_lines
heading-none batch reader left empty opened = record {
  read = [];
  done = [];
  pending = [];
  lines = lines_read_opened reader left opened;
  edge = inl (refl, tt, refl);
  made = λ more. ap (λ b. head_from b 1 more) (sym empty);
}

-- where it isn't the limit's answer, more bytes may come
pub room-left : (given : Next) (taken : ℕ) → (given ≡ InputLimit) ↔ (taken ≡ 67108865) → (given ≡ InputLimit → ⊥) → taken ≤ 67108865 → taken ≤ 67108864
room-left given taken limit other most = let differs : taken ≢ 67108865 = λ is. other (limit.1 is) in omega arith

-- A line more.

more-lines : (done : List (List ℕ)) (line : List ℕ) → length (done ++ line ∷ []) ≡ length done + 1
more-lines done line = length-append done (line ∷ [])

-- what the lines make together with the next one
next-made : (batch : Batch) (done : List (List ℕ)) (line : List ℕ) (more : List (List ℕ)) → head_of (done ++ line ∷ more) ≡ head_from batch (1 + length done) (line ∷ more)
    → head_of ((done ++ line ∷ []) ++ more) ≡ head_by (length (done ++ line ∷ [])) batch (form_named line) (after_line batch line) (λ next. head_from next (1 + length (done ++ line ∷ [])) more)
next-made batch done line more made =
    let count : 1 + length done ≡ length (done ++ line ∷ []) = omega (arith, more-lines done line) in
    let later : 1 + length done + 1 ≡ 1 + length (done ++ line ∷ []) = omega (arith, more-lines done line) in
    ap head_of (append_assoc done (line ∷ []) more) ∙ made
    ∙ ap (λ n. head_by n batch (form_named line) (after_line batch line) (λ next. head_from next (1 + length done + 1) more)) count
    ∙ ap (λ n. head_by (length (done ++ line ∷ [])) batch (form_named line) (after_line batch line) (λ next. head_from next n more)) later

-- behind a line that isn't too long the reader holds all that is pending
held-is : (reader : Reader) (pending : List ℕ) → reader.skipping ≡ false → IsPending reader pending → pending ≡ reader.held
held-is reader pending ready p = p.whole ∙ ap (λ front. front ++ reader.held) (p.kept ready)

module _ (batch : Batch) (spelled : ℕ) (old new : Reader) (left_old left left_new : Option (List ℕ)) (got : List ℕ) (h : Heading batch spelled old left_old left) where
  -- the reader behind a line that was answered
  record HasLine (line : List ℕ) : Type 0 where
    pending : List ℕ
    lines : LinesRead new left_old left_new (h.read ++ got) (h.done ++ line ∷ []) pending
    edge : Edge (spelled + (length line + 1)) new.ended (h.read ++ got) (h.done ++ line ∷ []) pending

  answered : Answers Line old new left left_new got → HasLine new.line
  answered answers =
      let more = read_line old new left_old left left_new h.read h.done h.pending got h.lines answers in
      let gives = answers.gives h.pending h.lines.held in
      record {
        pending = more.0;
        lines = more.1;
        edge = subst (λ rest. Edge (spelled + (length new.line + 1)) new.ended (h.read ++ got) (h.done ++ new.line ∷ []) rest) (held-is new gives.0 answers.leaves gives.3 ∙ sym (held-is new more.0 answers.leaves more.1.held))
            (edge-line spelled old.ended new.ended h.read h.done h.pending got new.line gives.0 h.edge answers.closed gives.1);
      }

  -- a line that is taken in
  pub heading-line : (line : List ℕ) (next : Batch) (now : ℕ) → Answers Line old new left left_new got → line ≡ new.line → now ≡ spelled + (length line + 1) → form_named line ≡ None → after_line batch line ≡ Ok next
      → Heading next now new left_old left_new
  heading-line line next now answers same size none after =
      let named : form_named new.line ≡ None = ap form_named (sym same) ∙ none in
      let is : after_line batch new.line ≡ Ok next = ap (after_line batch) (sym same) ∙ after in
      let a = answered answers in
      let count : ℕ = length (h.done ++ new.line ∷ []) in
      record {
        read = h.read ++ got;
        done = h.done ++ new.line ∷ [];
        pending = a.pending;
        lines = a.lines;
        edge = subst (λ n. Edge n new.ended (h.read ++ got) (h.done ++ new.line ∷ []) a.pending) (sym (size ∙ ap (λ xs. spelled + (length xs + 1)) same)) a.edge;
        made = λ more.
            next-made batch h.done new.line more (h.made (new.line ∷ more))
            ∙ ap (λ f. head_by count batch f (after_line batch new.line) (λ b. head_from b (1 + count) more)) named
            ∙ ap (λ r. head_by count batch None r (λ b. head_from b (1 + count) more)) is;
      }

  -- the last line of the head
  pub head-named : (line : List ℕ) (to : Batch) (form : Form) (now : ℕ) (goes_on : Bool) → Answers Line old new left left_new got → line ≡ new.line → now ≡ spelled + (length line + 1)
      → (goes_on ≡ true → now ≤ new.taken) → (goes_on ≡ false → new.taken < now) → form_named line ≡ Some form → to ≡ batch → HeadRead (Ok (to, form, goes_on)) new left_old left_new
  head-named line to form now goes_on answers same size goes stops is kept =
      let named : form_named new.line ≡ Some form = ap form_named (sym same) ∙ is in
      let a = answered answers in
      let count : ℕ = length (h.done ++ new.line ∷ []) in
      let edge = subst (λ n. Edge n new.ended (h.read ++ got) (h.done ++ new.line ∷ []) a.pending) (sym (size ∙ ap (λ xs. spelled + (length xs + 1)) same)) a.edge in
      let tail = edge-tail now goes_on new left_old left_new (h.read ++ got) (h.done ++ new.line ∷ []) a.pending a.lines goes stops edge in
      record {
        read = h.read ++ got;
        took = a.lines.took;
        count = a.lines.count;
        told = record {
          done = h.done ++ new.line ∷ [];
          pending = a.pending;
          lines = a.lines;
          ready = answers.leaves;
          tail = tail.0;
          all = tail.1;
          head = λ more.
              next-made batch h.done new.line more (h.made (new.line ∷ more))
              ∙ ap (λ f. head_by count batch f (after_line batch new.line) (λ b. head_from b (1 + count) more)) named
              ∙ ap (λ (b : Batch). Ok (record { batch = b; form = form; lines = count })) (sym kept);
        };
      }

  refused-by : (line : List ℕ) (code number : ℕ) (pending : List ℕ) → LinesRead new left_old left_new (h.read ++ got) (h.done ++ line ∷ []) pending → form_named line ≡ None → after_line batch line ≡ Err code
      → number ≡ new.number → HeadRead (Err (ends.Bad number code)) new left_old left_new
  refused-by line code number pending lines named is same =
      let count : ℕ = length (h.done ++ line ∷ []) in
      let here : count ≡ number = omega (arith, lines.number, same) in
      let rest : List (List ℕ) = lines_of (pending ++ []) in
      record {
        read = h.read ++ got;
        took = lines.took;
        count = lines.count;
        told = (
          ap head_of (lines-all new left_old left_new (h.read ++ got) (h.done ++ line ∷ []) pending lines)
              ∙ next-made batch h.done line rest (h.made (line ∷ rest))
              ∙ ap (λ f. head_by count batch f (after_line batch line) (λ b. head_from b (1 + count) rest)) named
              ∙ ap (λ r. head_by count batch None r (λ b. head_from b (1 + count) rest)) is
              ∙ ap (λ (n : ℕ). Err (record { line = n; code = code })) here,
          subst (λ n. IsReadThrough (h.read ++ got) n left_new) (sym same) (read-through new.ended new left_old left_new (h.read ++ got) (h.done ++ line ∷ []) pending lines refl),
        );
      }

  -- a line that is refused
  pub head-refused : (line : List ℕ) (code number : ℕ) → Answers Line old new left left_new got → line ≡ new.line → form_named line ≡ None → after_line batch line ≡ Err code → number ≡ new.number
      → HeadRead (Err (ends.Bad number code)) new left_old left_new
  head-refused line code number answers same none after numbered =
      let a = answered answers in
      refused-by new.line code number a.pending a.lines (ap form_named (sym same) ∙ none) (ap (after_line batch) (sym same) ∙ after) numbered

  -- one that is too long
  pub head-long : (number : ℕ) → Answers TooLong old new left left_new got → old.most ≡ 8192 → number ≡ new.number → HeadRead (Err (ends.Bad number 11)) new left_old left_new
  unfolding form_named after_line
  head-long number answers most numbered =
      let more = read_too_long old new left_old left left_new h.read h.done h.pending got h.lines answers in
      let line : List ℕ = more.0 in
      let long : 8192 < length line = omega (arith, more.3, most) in
      let is : nat_lt 8192 (length line) ≡ true = grind (arith, nat_tests) in
      refused-by line 11 number more.1 more.2 (rw is refl) (rw is refl) numbered

  -- the input ends before the head does
  pub head-end : (number : ℕ) → Answers End old new left left_new got → number ≡ new.number + 1 → HeadRead (Err (ends.Bad number 13)) new left_old left_new
  head-end number answers numbered =
      let all = read_end old new left_old left left_new h.read h.done h.pending got h.lines answers in
      let here : 1 + length h.done ≡ number = omega (arith, h.lines.number, answers.number, numbered) in
      record {
        read = h.read ++ got;
        took = all.0;
        count = omega (arith, answers.count, h.lines.count, length-append h.read got);
        told = (
          ap head_of (all.2 ∙ sym (append-nil h.done)) ∙ h.made [] ∙ ap (λ (n : ℕ). Err (record { line = n; code = 13 })) here,
          inr all.1,
        );
      }

  -- any end that tells nothing of the bytes
  pub head-stopped : (answer : Next) (end : HeadEnd) → Answers answer old new left left_new got → HeadTold (Err end) new left_old left_new (h.read ++ got) → HeadRead (Err end) new left_old left_new
  head-stopped answer end answers told = record {
    read = h.read ++ got;
    took = Consumes-append left_old left left_new h.read got h.lines.took answers.took;
    count = omega (arith, answers.count, h.lines.count, length-append h.read got);
    told = told;
  }
