-- The bytes behind lines, as bytes come and lines go over.
use Rattle.std.proofs.Common.{◌≡◌, ◌⊎◌, inl, inr, ℕ, zero, suc, ◌+◌, ◌<◌, ◌≤◌, ◌==◌, Bool, true, false, if◌then◌else◌, List, [], ◌∷◌, ◌++◌, length, Option, refl, sym, ap, ◌∙◌, append_assoc, append-nil, length-append, add-one, arith}
use Rattle.std.proofs.lemmas.Bool.{eqb-true}
use Rattle.std.specs.Io.KnownBytes.{IsAtEnd}
use Rattle.scc_text.specs.Lines.{lines_of, NoNewline}
use Rattle.scc_text.specs.Reader.{Reader, Begins}
use Rattle.scc_text.specs.LinesRead.{LinesRead}
use Rattle.scc_text.proofs.Asked.{false_unless}
use Rattle.scc_text.proofs.LinesRead.{lines_of-append}
use Rattle.audit_head.specs.Behind.{past_newline, past_lines}
use Rattle.audit_head.specs.Reading.{IsTail}

past-over : (line rest : List ℕ) → NoNewline line → past_newline (line ++ 10 ∷ rest) ≡ rest
unfolding past_newline
past-over [] rest clear = refl
past-over (b ∷ line) rest clear = go (b == 10) refl (past-over line rest clear.1)
  where
    go : (here : Bool) → (b == 10) ≡ here → past_newline (line ++ 10 ∷ rest) ≡ rest → (if here then line ++ 10 ∷ rest else past_newline (line ++ 10 ∷ rest)) ≡ rest
    go true is more = absurd (clear.0 (eqb-true b 10 is))
    go false is more = more

past-none : (line : List ℕ) → NoNewline line → past_newline line ≡ []
unfolding past_newline
past-none [] clear = refl
past-none (b ∷ line) clear = go (b == 10) refl (past-none line clear.1)
  where
    go : (here : Bool) → (b == 10) ≡ here → past_newline line ≡ [] → (if here then line else past_newline line) ≡ []
    go true is more = absurd (clear.0 (eqb-true b 10 is))
    go false is more = more

-- one line more
past-more : (n : ℕ) (bytes : List ℕ) → past_lines (n + 1) bytes ≡ past_newline (past_lines n bytes)
unfolding past_lines
past-more n bytes = rw add-one (go n bytes)
  where
    go : (n : ℕ) (bytes : List ℕ) → past_lines (suc n) bytes ≡ past_newline (past_lines n bytes)
    go zero bytes = refl
    go (suc n) bytes = go n (past_newline bytes)

-- the lines, each with its newline
abbrev pub with_newlines : List (List ℕ) → List ℕ
with_newlines [] = []
with_newlines (line ∷ lines) = line ++ 10 ∷ with_newlines lines

-- one line more
newlines-more : (done : List (List ℕ)) (line rest : List ℕ) → with_newlines (done ++ line ∷ []) ++ rest ≡ with_newlines done ++ (line ++ 10 ∷ rest)
newlines-more [] line rest = append_assoc line (10 ∷ []) rest
newlines-more (first ∷ done) line rest =
    append_assoc first (10 ∷ with_newlines (done ++ line ∷ [])) rest ∙ ap (λ xs. first ++ (10 ∷ xs)) (newlines-more done line rest)
    ∙ sym (append_assoc first (10 ∷ with_newlines done) (line ++ 10 ∷ rest))

-- no line has a newline within
abbrev AreLines : List (List ℕ) → Type 0
AreLines [] = Unit {0}
AreLines (line ∷ lines) = NoNewline line × AreLines lines

are-more : (done : List (List ℕ)) (line : List ℕ) → AreLines done → NoNewline line → AreLines (done ++ line ∷ [])
are-more [] line are clear = (clear, tt)
are-more (first ∷ done) line are clear = (are.0, are-more done line are.1 clear)

lines-behind : (done : List (List ℕ)) (bytes : List ℕ) → AreLines done → lines_of (with_newlines done ++ bytes) ≡ done ++ lines_of bytes
lines-behind [] bytes are = refl
lines-behind (line ∷ done) bytes are =
    ap lines_of (append_assoc line (10 ∷ with_newlines done) bytes) ∙ lines_of-append line (with_newlines done ++ bytes) are.0 ∙ ap (λ lines. line ∷ lines) (lines-behind done bytes are.1)

past-behind : (done : List (List ℕ)) (bytes : List ℕ) → AreLines done → past_lines (length done) (with_newlines done ++ bytes) ≡ bytes
unfolding past_lines
past-behind [] bytes are = refl
past-behind (line ∷ done) bytes are =
    ap (λ xs. past_lines (length done) (past_newline xs)) (append_assoc line (10 ∷ with_newlines done) bytes) ∙ ap (past_lines (length done)) (past-over line (with_newlines done ++ bytes) are.0)
    ∙ past-behind done bytes are.1

-- The lines, of so many bytes with a newline each, were read with all their newlines, and these bytes are behind them; or the last one has
-- none, and no more bytes can come.
abbrev pub Edge : ℕ → Bool → List ℕ → List (List ℕ) → List ℕ → Type 0
Edge spelled ended read done pending =
    ((read ≡ with_newlines done ++ pending) × AreLines done × (spelled ≡ length (with_newlines done)))
    ⊎ ((spelled ≡ length read + 1) × (ended ≡ true) × (pending ≡ []) × (past_lines (length done) read ≡ []))

begins-none : (ended : Bool) (bytes line rest : List ℕ) → bytes ≡ [] → Begins ended bytes line rest → ⊥
begins-none ended bytes line rest none begins = elim begins.cut [
  | inl closed ↦ (let size : length (line ++ 10 ∷ rest) ≡ 0 = ap (λ xs. length xs) (sym closed ∙ none) in omega (arith, length-append line (10 ∷ rest)))
  | inr last ↦ last.1 (sym last.0 ∙ none)
]

-- as bytes come and a line goes over
pub edge-line : (spelled : ℕ) (old new : Bool) (read : List ℕ) (done : List (List ℕ)) (pending got line rest : List ℕ) → Edge spelled old read done pending → (old ≡ true → (got ≡ []) × (new ≡ true))
    → Begins new (pending ++ got) line rest → Edge (spelled + (length line + 1)) new (read ++ got) (done ++ line ∷ []) rest
edge-line spelled old new read done pending got line rest (inl whole) closed begins =
    let all : read ++ got ≡ with_newlines done ++ (pending ++ got) = ap (λ xs. xs ++ got) whole.0 ∙ append_assoc (with_newlines done) pending got in
    elim begins.cut [
      | inl cut ↦ inl (
        all ∙ ap (λ xs. with_newlines done ++ xs) cut ∙ sym (newlines-more done line rest),
        are-more done line whole.1 begins.one_line,
        (let size : length (with_newlines (done ++ line ∷ []) ++ []) ≡ length (with_newlines done ++ (line ++ 10 ∷ [])) = ap (λ xs. length xs) (newlines-more done line []) in
            omega (arith, whole.2, size, length-append (with_newlines (done ++ line ∷ [])) [], length-append (with_newlines done) (line ++ 10 ∷ []), length-append line (10 ∷ []))),
      )
      | inr last ↦ inr (
        (let size : length (read ++ got) ≡ length (with_newlines done ++ line) = ap (λ xs. length xs) (all ∙ ap (λ xs. with_newlines done ++ xs) last.0) in
            omega (arith, whole.2, size, length-append (with_newlines done) line)),
        last.3,
        last.2,
        ap (λ n. past_lines n (read ++ got)) (length-append done (line ∷ [])) ∙ past-more (length done) (read ++ got)
            ∙ ap (λ xs. past_newline (past_lines (length done) xs)) (all ∙ ap (λ xs. with_newlines done ++ xs) last.0) ∙ ap past_newline (past-behind done line whole.1)
            ∙ past-none line begins.one_line,
      )
    ]
edge-line spelled old new read done pending got line rest (inr last) closed begins =
    absurd (begins-none new (pending ++ got) line rest (ap (λ xs. xs ++ got) last.2 ∙ (closed last.1).0) begins)

-- whether more can come shows in the number of bytes
pub edge-tail : (spelled : ℕ) (goes_on : Bool) (reader : Reader) (left_old left : Option (List ℕ)) (read : List ℕ) (done : List (List ℕ)) (pending : List ℕ) → LinesRead reader left_old left read done pending
    → (goes_on ≡ true → spelled ≤ reader.taken) → (goes_on ≡ false → reader.taken < spelled) → Edge spelled reader.ended read done pending
    → IsTail goes_on read done pending × (goes_on ≡ false → IsAtEnd left × (pending ≡ []))
edge-tail spelled goes_on reader left_old left read done pending lines goes stops (inl whole) = (
  (λ more none.
      let all : read ++ more ≡ with_newlines done ++ (pending ++ more) = ap (λ xs. xs ++ more) whole.0 ∙ append_assoc (with_newlines done) pending more in
      (ap lines_of all ∙ lines-behind done (pending ++ more) whole.1, ap (past_lines (length done)) all ∙ past-behind done (pending ++ more) whole.1)),
  (λ is.
      let past = stops is in
      let size : length read ≡ length (with_newlines done ++ pending) = ap (λ xs. length xs) whole.0 in
      absurd (omega (arith, lines.count, whole.2, past, size, length-append (with_newlines done) pending))),
)
edge-tail spelled goes_on reader left_old left read done pending lines goes stops (inr last) = (
  (λ more none.
      let no_more : more ≡ [] = none (false_unless goes_on (λ is. let within = goes is in omega (arith, lines.count, last.0, within))) in (
        lines.cut.lines more (λ _. no_more),
        ap (λ xs. past_lines (length done) (read ++ xs)) no_more ∙ ap (past_lines (length done)) (append-nil read) ∙ last.3 ∙ sym (ap (λ xs. xs ++ more) last.2 ∙ no_more),
      )),
  (λ is. (lines.at_end last.1, last.2)),
)
