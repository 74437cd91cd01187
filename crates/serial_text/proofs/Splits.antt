-- A printed text can be cut into replies in one way alone. A reader who has taken more lines for a reply than another is ahead by lines
-- that stand behind a first line. The other one can take such a line for the reply to a `dump` alone, and then the first takes another such
-- line, so he stays ahead, and the last lines are none of these.
use Rattle.std.proofs.Common.{◌≡◌, ◌⊎◌, inl, inr, ℕ, ℤ, ◌==◌, Bool, true, false, List, [], ◌∷◌, ◌++◌, length, map, Option, Some, None, refl, sym, ap, ◌∙◌, subst, append_assoc, append-nil, true≢false}
use Rattle.std.specs.Prelude.{codes, decimal}
use Rattle.std.specs.List.{AllByRecursion}
use Rattle.txn_names.specs.Tables.{Named}
use Rattle.scc_text.specs.Number.{numbers}
use Rattle.scc_script.specs.Ended.{Ended}
use Rattle.scc_replies.specs.Finals.{final_lines}
use Rattle.scc_replies.specs.Lines.{number_line}
use Rattle.serial_text.specs.Notes.{Notes, no_notes, IsNoted, AreNoted}
use Rattle.serial_text.specs.Serial.{IsSerialText, IsSerialSoFar, IsSameReading, IsSameSoFar, texts}
use Rattle.report_text.proofs.Cuts.{IsWithout, first-piece, unlines, AreLines, lines-append, head, tail, without-append, numbers-without, unlines-append}
use Rattle.serial_text.proofs.Reading.{rows, commit_row, resume_row, start_rows, all_rows, drain_rows, drain-lines}
use Rattle.serial_text.proofs.Agreeing.{IsAlike, with_those, stay, line-alike, alike-same}
use Rattle.serial_text.proofs.Behind.{letters, three, third, three-more, row_start, past_word, line-apart, name-apart, IsBehind, row-behind}
use Rattle.serial_text.proofs.Journals.{heading_line, heading-first, heading-whole, heading-start, heading-apart, entry_rows, entries-same}
use Rattle.serial_text.proofs.PlainNames.{ArePlain}
use Rattle.serial_text.proofs.Pieces.{IsLine, drain-opens}
use Rattle.serial_text.proofs.Pairs.{AreRows, ArePieces, AreJournals, IsPair, line-pair, line-plain}

-- Ahead.

-- x has more lines than y in front, each of which stands behind a reply's first line
record IsLate (x y : List ℕ) : Type 0 where
  line : List ℕ
  more : List (List ℕ)
  whole : AreLines (line ∷ more)
  behind : AllByRecursion IsBehind (line ∷ more)
  told : x ≡ unlines (line ∷ more) ++ y

-- where both go on at the same place, or one of them is late
abbrev Meets : List ℕ → List ℕ → List ℕ → List ℕ → Type 0
Meets a b x y = ((a ≡ b) × (x ≡ y)) ⊎ (IsLate y x ⊎ IsLate x y)

row-assoc : (l : List ℕ) (x y : List ℕ) → (l ++ 10 ∷ x) ++ y ≡ l ++ 10 ∷ (x ++ y)
row-assoc l x y = append_assoc l (10 ∷ x) y

-- two first lines of one text
first-line : (l k a b x y : List ℕ) → IsWithout 10 l → IsWithout 10 k → (l ++ 10 ∷ a) ++ x ≡ (k ++ 10 ∷ b) ++ y → (l ≡ k) × (a ++ x ≡ b ++ y)
first-line l k a b x y hl hk e = first-piece 10 l k (a ++ x) (b ++ y) hl hk (sym (row-assoc l a x) ∙ e ∙ row-assoc k b y)

-- two texts of whole lines at the front of one text
compare : (s t : List (List ℕ)) (x y : List ℕ) → AreLines s → AreLines t → AllByRecursion IsBehind s → AllByRecursion IsBehind t → unlines s ++ x ≡ unlines t ++ y → Meets (unlines s) (unlines t) x y
compare [] [] x y hs ht bs bt e = inl (refl, e)
compare [] (l ∷ t) x y hs ht bs bt e = inr (inr (record { line = l; more = t; whole = ht; behind = bt; told = e }))
compare (l ∷ s) [] x y hs ht bs bt e = inr (inl (record { line = l; more = s; whole = hs; behind = bs; told = sym e }))
compare (l ∷ s) (k ∷ t) x y hs ht bs bt e =
    let two = first-line l k (unlines s) (unlines t) x y hs.0 ht.0 e in
    go two.0 (compare s t x y hs.1 ht.1 bs.1 bt.1 two.1)
  where
    go : l ≡ k → Meets (unlines s) (unlines t) x y → Meets (unlines (l ∷ s)) (unlines (k ∷ t)) x y
    go same (inl m) = inl (ap (λ z. z ++ 10 ∷ unlines s) same ∙ ap (λ z. k ++ 10 ∷ z) m.0, m.1)
    go same (inr m) = inr m

-- A late reader.

not-late : (line rest x y : List ℕ) → IsWithout 10 line → (three line ≡ false) ⊎ (third line ≡ 111) → IsLate ((line ++ 10 ∷ rest) ++ x) y → ⊥
not-late line rest x y whole start late =
    go start (first-line line late.line rest (unlines late.more) x y whole late.whole.0 late.told).0
  where
    go : (three line ≡ false) ⊎ (third line ≡ 111) → line ≡ late.line → ⊥
    go (inl s) same = true≢false (sym late.behind.0.letters ∙ ap three (sym same) ∙ s)
    go (inr s) same = late.behind.0.other (ap third (sym same) ∙ s)

-- one line less in front, and another one at the end
shifted : (more : List (List ℕ)) (row x y : List ℕ) → AreLines more → IsWithout 10 row → AllByRecursion IsBehind more → IsBehind row → x ≡ unlines more ++ (row ++ 10 ∷ y) → IsLate x y
shifted [] row x y hm hr bm br e = record { line = row; more = []; whole = (hr, tt); behind = (br, tt); told = e ∙ sym (row-assoc row [] y) }
shifted (l ∷ more) row x y hm hr bm br e = record {
  line = l;
  more = more ++ row ∷ [];
  whole = (hm.0, lines-append more (row ∷ []) hm.1 (hr, tt));
  behind = (bm.0, all-append more (row ∷ []) bm.1 (br, tt));
  told = e ∙ ap (λ z. unlines (l ∷ more) ++ z) (sym (row-assoc row [] y)) ∙ sym (append_assoc (unlines (l ∷ more)) (row ++ 10 ∷ []) y) ∙ ap (λ z. z ++ y) (sym (unlines-append (l ∷ more) (row ∷ [])));
}
  where
    all-append : (s t : List (List ℕ)) → AllByRecursion IsBehind s → AllByRecursion IsBehind t → AllByRecursion IsBehind (s ++ t)
    all-append [] t hs ht = ht
    all-append (k ∷ s) t hs ht = (hs.0, all-append s t hs.1 ht)

late-row : (a b x y : List ℕ) (u v : Notes) → AreRows u v a b → IsLate (a ++ x) (b ++ y) → IsLate x y
late-row a b x y u v r late =
    let one : List ℕ = r.name ++ numbers r.these in
    let other : List ℕ = r.name ++ numbers r.those in
    let ends : List ℕ = unlines late.more in
    let two =
    first-line one late.line [] ends x (b ++ y) (without-append 10 r.name (numbers r.these) r.plain.0 (numbers-without r.these)) late.whole.0
    (ap (λ z. z ++ x) (sym r.one) ∙ late.told)
    in
    shifted late.more other x y late.whole.1 (without-append 10 r.name (numbers r.those) r.plain.0 (numbers-without r.those)) late.behind.1
    (row-behind r.name r.these r.those r.plain.1 (subst IsBehind (sym two.0) late.behind.0))
    (two.1 ∙ ap (λ z. ends ++ (z ++ y)) r.other ∙ ap (λ z. ends ++ z) (row-assoc other [] y))

late-line : (a b x y : List ℕ) (u v : Notes) → IsPair u v a b → IsLate (a ++ x) (b ++ y) → (v.opening.names ≡ u.opening.names → IsLate x y → ⊥) → ⊥
late-line a b x y u v (inl p) late more = more p.kept (subst (λ z. IsLate x (z ++ y)) p.other (subst (λ z. IsLate (z ++ x) (b ++ y)) p.one late))
late-line a b x y u v (inr (inl p)) late more = more p.kept (late-row a b x y u v p late)
late-line a b x y u v (inr (inr (inl p))) late more =
    not-late p.one.line [] x (b ++ y) p.one.whole (inl p.one.start) (subst (λ z. IsLate (z ++ x) (b ++ y)) p.one.told late)
late-line a b x y u v (inr (inr (inr (inl p)))) late more =
    not-late p.one.line (unlines p.one.behind) x (b ++ y) p.one.whole.0 p.one.start (subst (λ z. IsLate (z ++ x) (b ++ y)) p.one.told late)
late-line a b x y u v (inr (inr (inr (inr (inr p))))) late more =
    not-late heading_line (entry_rows p.names p.these) x (b ++ y) heading-whole (inl heading-start) (subst (λ z. IsLate (z ++ x) (b ++ y)) (p.one ∙ heading-first p.names p.these) late)
late-line a b x y u v (inr (inr (inr (inr (inl p))))) late more =
    let o = drain-opens p.these in
    let lines : AreLines (o.line ∷ o.more) = subst AreLines o.is (drain-lines p.these) in
    not-late o.line (unlines o.more) x (b ++ y) lines.0 (inl o.start) (subst (λ z. IsLate (z ++ x) (b ++ y)) (p.one ∙ ap unlines o.is) late)

heads-same : {T : Type 0} (p q : T) (ps qs : List T) → p ∷ ps ≡ q ∷ qs → p ≡ q
heads-same p q ps qs e = cc

tails-same : {T : Type 0} (p q : T) (ps qs : List T) → p ∷ ps ≡ q ∷ qs → ps ≡ qs
tails-same p q ps qs e = cc

abbrev lines_in : List (List ℕ × List ℕ) → List (List ℕ)
lines_in answers = map (λ a. a.0) answers

-- the last lines never are those by which another is ahead
last-late : (x y : List ℕ) → three x ≡ false → IsLate x y → ⊥
last-late x y start late = true≢false (sym (three-more late.line (10 ∷ unlines late.more ++ y) late.behind.0.letters) ∙ ap three (sym (late.told ∙ row-assoc late.line (unlines late.more) y)) ∙ start)

never-late : (these those : List (List ℕ × List ℕ)) (n m n1 m1 : Notes) (x y : List ℕ) → lines_in these ≡ lines_in those → m.opening.names ≡ n.opening.names → ArePlain n.opening.names
    → AreNoted n these n1 → AreNoted m those m1 → three x ≡ false → IsLate (texts these ++ x) (texts those ++ y) → ⊥
never-late [] those n m n1 m1 x y same e h p q start late = last-late x (texts those ++ y) start late
never-late (a ∷ these) [] n m n1 m1 x y same e h p q start late = absurd (cc)
never-late (a ∷ these) (b ∷ those) n m n1 m1 x y same e h p q start late =
    let here : IsNoted m a.0 b.1 q.0 = subst (λ l. IsNoted m l b.1 q.0) (sym (heads-same a.0 b.0 (lines_in these) (lines_in those) same)) q.1 in
    let moved : IsLate (a.1 ++ (texts these ++ x)) (b.1 ++ (texts those ++ y)) =
    subst (λ z. IsLate (a.1 ++ (texts these ++ x)) z) (append_assoc b.1 (texts those) y) (subst (λ z. IsLate z (b.1 ++ texts those ++ y)) (append_assoc a.1 (texts these) x) late)
    in
    late-line a.1 b.1 (texts these ++ x) (texts those ++ y) p.0 q.0 (line-pair n m e h a.0 a.1 b.1 p.0 q.0 p.1 here) moved
    (λ kept later. never-late these those p.0 q.0 n1 m1 x y (tails-same a.0 b.0 (lines_in these) (lines_in those) same) kept (line-plain n p.0 h a.0 a.1 p.1) p.2 q.2 start later)

-- At the same place.

-- a drain ends at its first line `drain`
is_drain : List ℕ → Bool
is_drain [] = false
is_drain (b ∷ bs) = b == 100

abbrev AreBefore : List (List ℕ) → Type 0
AreBefore lines = AllByRecursion (λ l. is_drain l ≡ false) lines

stops-same : (s t : List (List ℕ)) (z w x y : List ℕ) → AreLines (s ++ z ∷ []) → AreLines (t ++ w ∷ []) → AreBefore s → AreBefore t
    → is_drain z ≡ true → is_drain w ≡ true → unlines (s ++ z ∷ []) ++ x ≡ unlines (t ++ w ∷ []) ++ y → (unlines (s ++ z ∷ []) ≡ unlines (t ++ w ∷ [])) × (x ≡ y)
stops-same [] [] z w x y hs ht ns nt ez ew e =
    let two = first-line z w [] [] x y hs.0 ht.0 e in
    (ap (λ l. l ++ 10 ∷ []) two.0, two.1)
stops-same [] (k ∷ t) z w x y hs ht ns nt ez ew e =
    let two = first-line z k [] (unlines (t ++ w ∷ [])) x y hs.0 ht.0 e in
    absurd (true≢false (sym ez ∙ ap is_drain two.0 ∙ nt.0))
stops-same (l ∷ s) [] z w x y hs ht ns nt ez ew e =
    let two = first-line l w (unlines (s ++ z ∷ [])) [] x y hs.0 ht.0 e in
    absurd (true≢false (sym ew ∙ ap is_drain (sym two.0) ∙ ns.0))
stops-same (l ∷ s) (k ∷ t) z w x y hs ht ns nt ez ew e =
    let two = first-line l k (unlines (s ++ z ∷ [])) (unlines (t ++ w ∷ [])) x y hs.0 ht.0 e in
    let rest = stops-same s t z w x y hs.1 ht.1 ns.1 nt.1 ez ew two.1 in
    (ap (λ q. q ++ 10 ∷ unlines (s ++ z ∷ [])) two.0 ∙ ap (λ q. k ++ 10 ∷ q) rest.0, rest.1)

not-drain-append : (s t : List (List ℕ)) → AreBefore s → AreBefore t → AreBefore (s ++ t)
not-drain-append [] t hs ht = ht
not-drain-append (l ∷ s) t hs ht = (hs.0, not-drain-append s t hs.1 ht)

resumes-not : (rs : List (ℕ × ℕ)) → AreBefore (map resume_row rs)
unfolding resume_row is_drain
resumes-not [] = tt
resumes-not (r ∷ rs) = (refl, resumes-not rs)

starts-not : (o : Option ℕ) → AreBefore (start_rows o)
unfolding start_rows is_drain
starts-not None = tt
starts-not (Some t) = (refl, tt)

rows-not : (es : List Ended) → AreBefore (all_rows es)
unfolding all_rows rows commit_row is_drain
rows-not [] = tt
rows-not (e ∷ es) = not-drain-append (rows e) (all_rows es) (refl, not-drain-append (map resume_row e.resumed) (start_rows e.starts) (resumes-not e.resumed) (starts-not e.starts)) (rows-not es)

drains-same : (these those : List Ended) (x y : List ℕ) → unlines (drain_rows these) ++ x ≡ unlines (drain_rows those) ++ y → (unlines (drain_rows these) ≡ unlines (drain_rows those)) × (x ≡ y)
unfolding drain_rows is_drain
drains-same these those x y e =
    stops-same (all_rows these) (all_rows those) (codes "drain " ++ decimal (length these)) (codes "drain " ++ decimal (length those)) x y (drain-lines these) (drain-lines those) (rows-not these) (rows-not those) refl refl e

line-same : (a b x y : List ℕ) → IsLine a → IsLine b → a ++ x ≡ b ++ y → (a ≡ b) × (x ≡ y)
line-same a b x y p q e =
    let two = first-line p.line q.line [] [] x y p.whole q.whole (ap (λ z. z ++ x) (sym p.told) ∙ e ∙ ap (λ z. z ++ y) q.told) in
    (p.told ∙ ap (λ z. z ++ 10 ∷ []) two.0 ∙ sym q.told, two.1)

rows-same : (a b x y : List ℕ) (u v : Notes) → AreRows u v a b → a ++ x ≡ b ++ y → (a ≡ b) × (x ≡ y)
rows-same a b x y u v r e =
    let two =
    first-line (r.name ++ numbers r.these) (r.name ++ numbers r.those) [] [] x y (without-append 10 r.name (numbers r.these) r.plain.0 (numbers-without r.these))
    (without-append 10 r.name (numbers r.those) r.plain.0 (numbers-without r.those)) (ap (λ z. z ++ x) (sym r.one) ∙ e ∙ ap (λ z. z ++ y) r.other)
    in
    (r.one ∙ ap (λ z. z ++ 10 ∷ []) two.0 ∙ sym r.other, two.1)

journals-same : (a b x y : List ℕ) → AreJournals a b → row_start x ≡ false → row_start y ≡ false → a ++ x ≡ b ++ y → (a ≡ b) × (x ≡ y)
journals-same a b x y p hx hy e =
    let one = p.one ∙ heading-first p.names p.these in
    let other = p.other ∙ heading-first p.names p.those in
    let two =
    first-line heading_line heading_line (entry_rows p.names p.these) (entry_rows p.names p.those) x y heading-whole heading-whole
    (ap (λ z. z ++ x) (sym one) ∙ e ∙ ap (λ z. z ++ y) other)
    in
    let rows = entries-same p.names p.these p.those x y hx hy two.1 in
    (one ∙ ap (λ z. heading_line ++ 10 ∷ z) rows.0 ∙ sym other, rows.1)

-- No text begins with a row of a journal.

reply-apart : (a z : List ℕ) (u v : Notes) (b : List ℕ) → IsPair u v a b → row_start z ≡ false → row_start (a ++ z) ≡ false
reply-apart a z u v b (inl p) h = ap (λ r. row_start (r ++ z)) p.one ∙ h
reply-apart a z u v b (inr (inl p)) h =
    ap (λ r. row_start (r ++ z)) p.one ∙ ap row_start (row-assoc (p.name ++ numbers p.these) [] z) ∙ line-apart (p.name ++ numbers p.these) z (name-apart p.name p.these p.plain.2)
reply-apart a z u v b (inr (inr (inl p))) h = ap (λ r. row_start (r ++ z)) p.one.told ∙ ap row_start (row-assoc p.one.line [] z) ∙ line-apart p.one.line z p.one.apart
reply-apart a z u v b (inr (inr (inr (inl p)))) h =
    ap (λ r. row_start (r ++ z)) p.one.told ∙ ap row_start (row-assoc p.one.line (unlines p.one.behind) z) ∙ line-apart p.one.line (unlines p.one.behind ++ z) p.one.apart
reply-apart a z u v b (inr (inr (inr (inr (inl p))))) h =
    let o = drain-opens p.these in
    ap (λ r. row_start (r ++ z)) (p.one ∙ ap unlines o.is) ∙ ap row_start (row-assoc o.line (unlines o.more) z) ∙ line-apart o.line (unlines o.more ++ z) o.apart
reply-apart a z u v b (inr (inr (inr (inr (inr p))))) h =
    ap (λ r. row_start (r ++ z)) (p.one ∙ heading-first p.names p.these)
    ∙ ap row_start (row-assoc heading_line (entry_rows p.names p.these) z)
    ∙ line-apart heading_line (entry_rows p.names p.these ++ z) heading-apart

texts-apart : (these : List (List ℕ × List ℕ)) (n n1 : Notes) (x : List ℕ) → ArePlain n.opening.names → AreNoted n these n1 → row_start x ≡ false → row_start (texts these ++ x) ≡ false
texts-apart [] n n1 x h p start = start
texts-apart (a ∷ these) n n1 x h p start =
    ap row_start (append_assoc a.1 (texts these) x)
    ∙ reply-apart a.1 (texts these ++ x) p.0 p.0 a.1 (line-pair n n refl h a.0 a.1 a.1 p.0 p.0 p.1 p.1) (texts-apart these p.0 n1 x (line-plain n p.0 h a.0 a.1 p.1) p.2 start)

-- both have read the same reply, or one of them is late and both know the same names
abbrev IsMet : Notes → Notes → List ℕ → List ℕ → List ℕ → List ℕ → Type 0
IsMet u v a b x y = ((a ≡ b) × (x ≡ y)) ⊎ ((v.opening.names ≡ u.opening.names) × (IsLate y x ⊎ IsLate x y))

pieces-met : (a b x y : List ℕ) (u v : Notes) → ArePieces u v a b → a ++ x ≡ b ++ y → IsMet u v a b x y
pieces-met a b x y u v p e =
    let two =
    first-line p.one.line p.other.line (unlines p.one.behind) (unlines p.other.behind) x y p.one.whole.0 p.other.whole.0
    (ap (λ z. z ++ x) (sym p.one.told) ∙ e ∙ ap (λ z. z ++ y) p.other.told)
    in
    go two.0 (compare p.one.behind p.other.behind x y p.one.whole.1 p.other.whole.1 p.one.others p.other.others two.1)
  where
    go : p.one.line ≡ p.other.line → Meets (unlines p.one.behind) (unlines p.other.behind) x y → IsMet u v a b x y
    go same (inl m) = inl (p.one.told ∙ ap (λ z. z ++ 10 ∷ unlines p.one.behind) same ∙ ap (λ z. p.other.line ++ 10 ∷ z) m.0 ∙ sym p.other.told, m.1)
    go same (inr m) = inr (p.kept, m)

line-met : (a b x y : List ℕ) (u v : Notes) → IsPair u v a b → row_start x ≡ false → row_start y ≡ false → a ++ x ≡ b ++ y → IsMet u v a b x y
line-met a b x y u v (inl p) hx hy e = inl (p.one ∙ sym p.other, ap (λ z. z ++ x) (sym p.one) ∙ e ∙ ap (λ z. z ++ y) p.other)
line-met a b x y u v (inr (inl p)) hx hy e = inl (rows-same a b x y u v p e)
line-met a b x y u v (inr (inr (inl p))) hx hy e = inl (line-same a b x y p.one p.other e)
line-met a b x y u v (inr (inr (inr (inl p)))) hx hy e = pieces-met a b x y u v p e
line-met a b x y u v (inr (inr (inr (inr (inr p))))) hx hy e = inl (journals-same a b x y p hx hy e)
line-met a b x y u v (inr (inr (inr (inr (inl p))))) hx hy e =
    let two = drains-same p.these p.those x y (ap (λ z. z ++ x) (sym p.one) ∙ e ∙ ap (λ z. z ++ y) p.other) in
    inl (p.one ∙ two.0 ∙ sym p.other, two.1)

-- All lines.

-- the last lines begin with none that stands behind a reply's first line
abbrev IsLast : List ℕ → Type 0
IsLast x = (three x ≡ false) × (row_start x ≡ false)

record AreSame (these those : List (List ℕ × List ℕ)) (n1 m1 : Notes) (x y : List ℕ) : Type 0 where
  alike : IsAlike n1 m1
  answers : these ≡ those
  last : x ≡ y

pair-same : (a b : List ℕ × List ℕ) → a.0 ≡ b.0 → a.1 ≡ b.1 → a ≡ b
pair-same a b e d = ap (λ z. (z, a.1)) e ∙ ap (λ z. (b.0, z)) d

texts-same : (these those : List (List ℕ × List ℕ)) (n m n1 m1 : Notes) (x y : List ℕ) → lines_in these ≡ lines_in those → IsAlike n m → ArePlain n.opening.names
    → AreNoted n these n1 → AreNoted m those m1 → IsLast x → IsLast y → texts these ++ x ≡ texts those ++ y → AreSame these those n1 m1 x y
texts-same [] [] n m n1 m1 x y same k h p q sx sy e = record { alike = stay n k.commits k.same n1 m1 p (q ∙ k.rest); answers = refl; last = e }
texts-same [] (b ∷ those) n m n1 m1 x y same k h p q sx sy e = absurd (cc)
texts-same (a ∷ these) [] n m n1 m1 x y same k h p q sx sy e = absurd (cc)
texts-same (a ∷ these) (b ∷ those) n m n1 m1 x y same k h p q sx sy e =
    let line : a.0 ≡ b.0 = heads-same a.0 b.0 (lines_in these) (lines_in those) same in
    let rest : lines_in these ≡ lines_in those = tails-same a.0 b.0 (lines_in these) (lines_in those) same in
    let there : IsNoted m a.0 b.1 q.0 = subst (λ l. IsNoted m l b.1 q.0) (sym line) q.1 in
    let here : IsNoted (with_those n k.commits) a.0 b.1 q.0 = subst (λ z. IsNoted z a.0 b.1 q.0) k.rest there in
    let names : m.opening.names ≡ n.opening.names = ap (λ (z : Notes). z.opening.names) k.rest in
    let plain : ArePlain p.0.opening.names = line-plain n p.0 h a.0 a.1 p.1 in
    go line
    (line-met a.1 b.1 (texts these ++ x) (texts those ++ y) p.0 q.0 (line-pair n m names h a.0 a.1 b.1 p.0 q.0 p.1 there) (texts-apart these p.0 n1 x plain p.2 sx.1)
    (texts-apart those q.0 m1 y (line-plain m q.0 (subst ArePlain (sym names) h) b.0 b.1 q.1) q.2 sy.1) (sym (append_assoc a.1 (texts these) x) ∙ e ∙ append_assoc b.1 (texts those) y))
    (λ reply text. texts-same these those p.0 q.0 n1 m1 x y rest (line-alike n k.commits k.same a.0 a.1 p.0 q.0 p.1 (subst (λ z. IsNoted (with_those n k.commits) a.0 z q.0) (sym reply) here)) plain p.2 q.2 sx sy text)
    (λ kept late. never-late those these q.0 p.0 m1 n1 y x (sym rest) (sym kept) (subst ArePlain (sym kept) plain) q.2 p.2 sy.0 late)
    (λ kept late. never-late these those p.0 q.0 n1 m1 x y rest kept plain p.2 q.2 sx.0 late)
  where
    go : a.0 ≡ b.0 → IsMet p.0 q.0 a.1 b.1 (texts these ++ x) (texts those ++ y) → (a.1 ≡ b.1 → texts these ++ x ≡ texts those ++ y → AreSame these those n1 m1 x y)
        → (q.0.opening.names ≡ p.0.opening.names → IsLate (texts those ++ y) (texts these ++ x) → ⊥)
        → (q.0.opening.names ≡ p.0.opening.names → IsLate (texts these ++ x) (texts those ++ y) → ⊥) → AreSame (a ∷ these) (b ∷ those) n1 m1 x y
    go line (inl met) more one other =
        let later = more met.0 met.1 in
        record { alike = later.alike; answers = ap (λ z. z ∷ these) (pair-same a b line met.0) ∙ ap (λ z. b ∷ z) later.answers; last = later.last }
    go line (inr (kept, inl late)) more one other = absurd (one kept late)
    go line (inr (kept, inr late)) more one other = absurd (other kept late)

finals-start : (names : List Named) (tables : List ℤ) (base commits : ℕ) → IsLast (final_lines tables base names ++ number_line (codes "end ") commits)
unfolding three letters head tail row_start past_word
finals-start [] tables base commits = (refl, refl)
finals-start (t ∷ names) tables base commits = (refl, refl)

-- a whole text of these lines is read in one way alone
pub text-same : (lines : List (List ℕ)) (printed : List ℕ) (one other : IsSerialText lines printed) → IsSameReading lines printed one other
text-same lines printed one other =
    let same : AreSame one.answers other.answers one.notes other.notes one.last other.last =
    texts-same one.answers other.answers no_notes no_notes one.notes other.notes one.last other.last (one.each ∙ sym other.each) (record { commits = []; rest = refl; same = refl }) tt one.noted other.noted
    (starts one) (starts other) (sym one.whole ∙ other.whole)
    in
    record { answers = same.answers; last = same.last; notes = alike-same one.notes other.notes same.alike one.serial.run other.serial.run }
  where
    starts : (t : IsSerialText lines printed) → IsLast t.last
    starts t = subst IsLast (sym t.serial.finals) (finals-start t.notes.opening.names _ 0 _)

-- and so are the replies to the lines so far
pub so-far-same : (lines : List (List ℕ)) (printed : List ℕ) (one other : IsSerialSoFar lines printed) → IsSameSoFar lines printed one other
unfolding three letters head tail row_start past_word
so-far-same lines printed one other =
    let same : AreSame one.answers other.answers one.notes other.notes [] [] =
    texts-same one.answers other.answers no_notes no_notes one.notes other.notes [] [] (one.each ∙ sym other.each) (record { commits = []; rest = refl; same = refl }) tt one.noted other.noted
    (refl, refl) (refl, refl) (append-nil (texts one.answers) ∙ sym one.whole ∙ other.whole ∙ sym (append-nil (texts other.answers)))
    in
    record { answers = same.answers; notes = alike-same one.notes other.notes same.alike one.serial other.serial }
