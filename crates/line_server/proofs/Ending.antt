-- How a session ended, by how its loop over lines did.
use Rattle.std.proofs.Common.{◌≡◌, inl, inr, ◌≤◌, ℕ, Bool, true, false, not, List, [], ◌∷◌, ◌++◌, length, take, map, Option, refl, sym, ap, ◌∙◌, subst, arith, append_assoc, append-nil}
use Rattle.std.proofs.lemmas.List.Elements.{filter-append}
use Rattle.std.proofs.Math.Seq.{take-nil}
use Rattle.std.specs.Io.KnownBytes.{Consumes}
use mathlib.Core.List.{IsPrefix}
use Rattle.scc_ports.specs.Ports.{Gains, GainsPrefix}
use Rattle.scc_ports.proofs.Gained.{Gains-append}
use Rattle.scc_text.specs.Lines.{lines_of, whole_lines, within_limit}
use Rattle.scc_text.specs.Reader.{Reader}
use Rattle.scc_text.specs.LinesRead.{LinesRead}
use Rattle.line_loop.specs.Account.{Behaviour, AtLine, Closes, Looped, lines_in as exchanged_lines, replies_in as exchanged_replies}
use Rattle.line_loop.specs.declared.flow.Flow.{Flow}
use Rattle.line_loop.specs.declared.flow.Flow.TheVariants.{GoOn, Stop}
use Rattle.line_loop.specs.declared.ending.Ending.{Ending}
use Rattle.line_loop.specs.declared.ending.Ending.TheVariants as ending
use Rattle.txn_names.specs.Tables.{Named}
use Rattle.journal_core.specs.declared.entry.Entry.{Entry}
use Rattle.turn_cell.proofs.Prefixes.{prefix_self, prefix_trans}
use Rattle.shadow_forest.specs.Listed.{happened}
use Rattle.shadow_forest.specs.declared.kept.Item.{Item}
use Rattle.shadow_worker.proofs.WorkTurns.{prefix_length}
use Rattle.line_server.specs.Answers.{line_command, is_blank, is_quit}
use Rattle.line_server.specs.Talks.{spoken, lines_in, turns_in, answer_at, reply_at, replies_in, left_by}
use Rattle.line_server.specs.Ran.{AreFirst, IsNextTurn, HasAnswered, HasEnded, SessionRan}
use Rattle.line_server.specs.Stands.{end_of, Stand, IsSameSession, HasTurned, HasTurnedOr, flow_of, AnswersBy, Fails}
use Rattle.line_server.specs.declared.end.SessionEnd.{SessionEnd}
use Rattle.line_server.specs.declared.end.SessionEnd.TheVariants as end
use Rattle.line_server.proofs.Turns.{line_turn}
use Rattle.line_server.proofs.Talking.{IsSession, HasTalked, same-session, spoken-blank, spoken-line, went_talked}

-- What was seen at the end begins with what was seen before.

turned-grows : (s t : Stand) (found : List Item) (adds : List Entry) → HasTurnedOr s.seen s.turns found adds t.seen t.turns → IsPrefix s.seen t.seen
turned-grows s t found adds (inl h) = prefix_trans s.seen found t.seen h.began (map happened adds, sym h.left)
turned-grows s t found adds (inr h) = prefix_trans s.seen found t.seen h.began ([], sym h.left)

still-grows : (s t : Stand) → t.seen ≡ s.seen → IsPrefix s.seen t.seen
still-grows s t is = subst (λ l. IsPrefix s.seen l) (sym is) (prefix_self s.seen)

answers-grow : (s t : Stand) (line : List ℕ) (flow : Flow) (reply : List ℕ) (blank : Bool) → AnswersBy blank s line flow reply t → IsPrefix s.seen t.seen
answers-grow s t line flow reply true h = still-grows s t h.still.seen
answers-grow s t line flow reply false h = prefix_trans s.seen h.found t.seen h.turned.began (map happened (answer_at s.names h.found line).adds, sym h.turned.left)

fails-grow : (s t : Stand) (line : List ℕ) → Fails s line t → IsPrefix s.seen t.seen
fails-grow s t line (inl h) = still-grows s t h.seen
fails-grow s t line (inr h) = turned-grows s t h.1 (answer_at s.names h.1 line).adds h.2

-- First lines.

-- the lines that were taken in, and one more
first_with : (reader : Reader) (left_old left : Option (List ℕ)) (read pending : List ℕ) (done : List (List ℕ)) (line : List ℕ) (lines : List (List ℕ)) (ended : Bool) → reader.ended ≡ ended
    → LinesRead reader left_old left read (done ++ line ∷ []) pending → spoken (done ++ line ∷ []) ≡ lines → AreFirst lines read left
first_with reader left_old left read pending done line lines true is h e =
    (spoken (lines_of pending), inr (h.at_end is, ap spoken (all_of h) ∙ (filter-append (λ l. not (is_blank (line_command l))) (done ++ line ∷ []) (lines_of pending) ∙ ap (λ ls. ls ++ spoken (lines_of pending)) e)))
  where
    all_of : LinesRead reader left_old left read (done ++ line ∷ []) pending → lines_of read ≡ (done ++ line ∷ []) ++ lines_of pending
    all_of l = ap lines_of (sym (append-nil read)) ∙ (l.cut.lines [] (λ _. refl) ∙ ap (λ bytes. (done ++ line ∷ []) ++ lines_of bytes) (append-nil pending))
first_with reader left_old left read pending done line lines false is h e =
    (spoken (whole_lines pending), inl (ap spoken (all_of h) ∙ (filter-append (λ l. not (is_blank (line_command l))) (done ++ line ∷ []) (whole_lines pending) ∙ ap (λ ls. ls ++ spoken (whole_lines pending)) e)))
  where
    all_of : LinesRead reader left_old left read (done ++ line ∷ []) pending → whole_lines read ≡ (done ++ line ∷ []) ++ whole_lines pending
    all_of l = ap whole_lines (sym (append-nil read)) ∙ (l.cut.whole is [] ∙ ap (λ bytes. (done ++ line ∷ []) ++ whole_lines bytes) (append-nil pending))

first-lines : (reader : Reader) (left_old left : Option (List ℕ)) (read : List ℕ) (done : List (List ℕ)) (line : List ℕ) (lines : List (List ℕ)) → AtLine reader left_old left read done line → spoken (done ++ line ∷ []) ≡ lines → AreFirst lines read left
first-lines reader left_old left read done line lines at e = first_with reader left_old left read at.0 done line lines reader.ended refl at.1 e

first-more : (lines more : List (List ℕ)) (read : List ℕ) (left : Option (List ℕ)) → AreFirst (lines ++ more) read left → AreFirst lines read left
first-more lines more read left (rest, inl e) = (more ++ rest, inl (e ∙ append_assoc lines more rest))
first-more lines more read left (rest, inr e) = (more ++ rest, inr (e.0, e.1 ∙ append_assoc lines more rest))

spoken-last : (done : List (List ℕ)) (line : List ℕ) (lines : List (List ℕ)) → spoken done ≡ lines → is_blank (line_command line) ≡ false → spoken (done ++ line ∷ []) ≡ lines ++ line ∷ []
spoken-last done line lines e spoke = filter-append (λ l. not (is_blank (line_command l))) done (line ∷ []) ∙ (ap (λ ls. ls ++ spoken (line ∷ [])) e ∙ ap (λ ls. lines ++ ls) (spoken-line line [] spoke))

spoken-none : (done : List (List ℕ)) (line : List ℕ) (lines : List (List ℕ)) → spoken done ≡ lines → is_blank (line_command line) ≡ true → spoken (done ++ line ∷ []) ≡ lines
spoken-none done line lines e blank = filter-append (λ l. not (is_blank (line_command l))) done (line ∷ []) ∙ (ap (λ ls. ls ++ spoken (line ∷ [])) e ∙ (ap (λ ls. lines ++ ls) (spoken-blank line [] blank) ∙ append-nil lines))

-- some line was taken in behind those
first-any : (reader : Reader) (left_old left : Option (List ℕ)) (read : List ℕ) (done : List (List ℕ)) (line : List ℕ) (lines : List (List ℕ)) → AtLine reader left_old left read done line → spoken done ≡ lines → AreFirst lines read left
first-any reader left_old left read done line lines at e =
    first-more lines (spoken (line ∷ [])) read left (first-lines reader left_old left read done line (lines ++ spoken (line ∷ [])) at (filter-append (λ l. not (is_blank (line_command l))) done (line ∷ []) ∙ ap (λ ls. ls ++ spoken (line ∷ [])) e))

-- The last line.

module _ (names : List Named) (help : ℕ) (s f t : Stand) (lines : List (List ℕ)) (replies : List ℕ) (h : HasTalked names help t.seen s f lines replies) where
  -- the turn of one more line
  next_turn : (line : List ℕ) (found : List Item) → HasTurned f.seen f.turns found (answer_at names found line).adds t.seen t.turns
      → IsNextTurn names t.seen (length s.seen) (turns_in h.talks) line (length found, length t.seen) × (reply_at names t.seen line (length found) ≡ (answer_at names found line).reply)
  next_turn line found turned =
      let there = line_turn names line f.seen f.turns found t.seen t.turns t.seen turned (prefix_self t.seen) in
      let longer = prefix_length f.seen found turned.began in
      (record { later = omega (arith, h.left, longer); seen = omega arith; adds = there.0 }, there.1)

  last_turn : (line : List ℕ) (found : List Item) → HasTurned f.seen f.turns found [] t.seen t.turns
      → (left_by (length s.seen) (turns_in h.talks) ≤ length found) × (length found ≤ length t.seen) × (length t.seen ≡ length found)
  last_turn line found turned =
      let longer = prefix_length f.seen found turned.began in
      let same : length t.seen ≡ length found = ap length (turned.left ∙ append-nil found) in
      (omega (arith, h.left, longer), omega arith, same)

  -- the turns in all, with one more
  turns_more : (turn : ℕ × ℕ) → t.turns ≡ f.turns ++ turn ∷ [] → t.turns ≡ s.turns ++ (turns_in h.talks ++ turn ∷ [])
  turns_more turn e = e ∙ (ap (λ ts. ts ++ turn ∷ []) h.turns ∙ append_assoc s.turns (turns_in h.talks) (turn ∷ []))

  -- the turns in all, where there is none more
  turns_all : t.turns ≡ f.turns → t.turns ≡ s.turns ++ turns_in h.talks
  turns_all e = e ∙ h.turns

  module _ (read : List ℕ) (left first told written : Option (List ℕ)) (wrote : Gains first told replies) where
    -- how it ended, with its turns
    abbrev Ends : SessionEnd → Type 0
    Ends end = (turns : List (ℕ × ℕ)) × (t.turns ≡ s.turns ++ turns) × HasEnded names t.seen (length s.seen) h.talks turns read left first written end

    wrote_all : Gains first told (replies_in names t.seen h.talks)
    wrote_all = subst (λ rs. Gains first told rs) h.replies_are wrote

    wrote_same : written ≡ told → Gains first written (replies_in names t.seen h.talks)
    wrote_same e = subst (λ w. Gains first w (replies_in names t.seen h.talks)) (sym e) wrote_all

    wrote_none : Gains told written [] → Gains first written (replies_in names t.seen h.talks)
    wrote_none g = subst (λ rs. Gains first written rs) (append-nil (replies_in names t.seen h.talks)) (Gains-append first told written (replies_in names t.seen h.talks) [] wrote_all g)

    wrote_more : (line : List ℕ) (found : ℕ) (reply : List ℕ) → Gains told written reply → reply_at names t.seen line found ≡ reply → Gains first written (replies_in names t.seen h.talks ++ reply_at names t.seen line found)
    wrote_more line found reply g e = Gains-append first told written (replies_in names t.seen h.talks) (reply_at names t.seen line found) wrote_all (subst (λ r. Gains told written r) (sym e) g)

    wrote_part : (line : List ℕ) (found : ℕ) (reply : List ℕ) (k : ℕ) → Gains told written (take k reply) → reply_at names t.seen line found ≡ reply → Gains first written (replies_in names t.seen h.talks ++ take k (reply_at names t.seen line found))
    wrote_part line found reply k g e = Gains-append first told written (replies_in names t.seen h.talks) (take k (reply_at names t.seen line found)) wrote_all (subst (λ r. Gains told written (take k r)) (sym e) g)

    -- no line more was answered
    answered_all : (all : List (List ℕ)) → all ≡ lines → t.turns ≡ f.turns → Gains first written (replies_in names t.seen h.talks)
        → (turns : List (ℕ × ℕ)) × (t.turns ≡ s.turns ++ turns) × HasAnswered names t.seen (length s.seen) h.talks turns read left first written all
    answered_all all e still g = (turns_in h.talks, turns_all still, (ap spoken e ∙ h.spoken_are, refl, g))

    -- `quit` was answered
    quit : (reader : Reader) (left_old : Option (List ℕ)) (line reply : List ℕ) (blank : Bool) → is_blank (line_command line) ≡ blank → f.names ≡ names → AtLine reader left_old left read lines line
        → AnswersBy blank f line Stop reply t → Gains told written reply → Ends end.Quit
    quit reader left_old line reply true e names_are at passed g = let never : Stop ≡ GoOn = passed.flow_is in absurd (cc)
    quit reader left_old line reply false e names_are at spoke g =
        let turned : HasTurned f.seen f.turns spoke.found (answer_at names spoke.found line).adds t.seen t.turns = subst (λ ns. HasTurned f.seen f.turns spoke.found (answer_at ns spoke.found line).adds t.seen t.turns) names_are spoke.turned in
        let next = next_turn line spoke.found turned in
        let turn : ℕ × ℕ = (length spoke.found, length t.seen) in (
          turns_in h.talks ++ turn ∷ [],
          turns_more turn turned.turned,
          record {
            line = line;
            quit = is_last (is_quit (line_command line)) spoke.flow_is;
            first = first-lines reader left_old left read lines line (lines_in h.talks ++ line ∷ []) at (spoken-last lines line (lines_in h.talks) h.spoken_are e);
            turn = turn;
            next = next.0;
            took = refl;
            wrote = wrote_more line (length spoke.found) reply g (next.1 ∙ sym (spoke.reply_is ∙ ap (λ ns. (answer_at ns spoke.found line).reply) names_are));
          },
        )
      where
        is_last : (b : Bool) → Stop ≡ flow_of b → b ≡ true
        is_last true q = refl
        is_last false q = absurd (cc)

    -- the sink failed at a line
    broken : (reader : Reader) (left_old : Option (List ℕ)) (line reply : List ℕ) (flow : Flow) (blank : Bool) → is_blank (line_command line) ≡ blank → f.names ≡ names → AtLine reader left_old left read lines line
        → AnswersBy blank f line flow reply t → GainsPrefix told written reply → Ends end.WriteFault
    broken reader left_old line reply flow true e names_are at passed g = (
      turns_in h.talks,
      turns_all passed.still.turns,
      inr (
        first-lines reader left_old left read lines line (lines_in h.talks) at (spoken-none lines line (lines_in h.talks) h.spoken_are e),
        refl,
        wrote_none (subst (λ r. Gains told written r) (take-nil g.0) (subst (λ r. Gains told written (take g.0 r)) passed.reply_is g.1)),
      ),
    )
    broken reader left_old line reply flow false e names_are at spoke g =
        let turned : HasTurned f.seen f.turns spoke.found (answer_at names spoke.found line).adds t.seen t.turns = subst (λ ns. HasTurned f.seen f.turns spoke.found (answer_at ns spoke.found line).adds t.seen t.turns) names_are spoke.turned in
        let next = next_turn line spoke.found turned in
        let turn : ℕ × ℕ = (length spoke.found, length t.seen) in (
          turns_in h.talks ++ turn ∷ [],
          turns_more turn turned.turned,
          inl (
            line,
            turn,
            g.0,
            first-lines reader left_old left read lines line (lines_in h.talks ++ line ∷ []) at (spoken-last lines line (lines_in h.talks) h.spoken_are e),
            next.0,
            refl,
            wrote_part line (length spoke.found) reply g.0 g.1 (next.1 ∙ sym (spoke.reply_is ∙ ap (λ ns. (answer_at ns spoke.found line).reply) names_are)),
          ),
        )

    -- a line found no memory
    run_out : (reader : Reader) (left_old : Option (List ℕ)) (line : List ℕ) → f.names ≡ names → AtLine reader left_old left read lines line → Fails f line t → Gains told written [] → Ends end.OutOfMemory
    run_out reader left_old line names_are at (inl still) g = (turns_in h.talks, turns_all still.turns, (wrote_none g, inr (first-any reader left_old left read lines line (lines_in h.talks) at h.spoken_are, refl)))
    run_out reader left_old line names_are at (inr (spoke, found, inl turned')) g =
        let turned : HasTurned f.seen f.turns found (answer_at names found line).adds t.seen t.turns = subst (λ ns. HasTurned f.seen f.turns found (answer_at ns found line).adds t.seen t.turns) names_are turned' in
        let turn : ℕ × ℕ = (length found, length t.seen) in (
          turns_in h.talks ++ turn ∷ [],
          turns_more turn turned.turned,
          (
            wrote_none g,
            inl (line, turn, first-lines reader left_old left read lines line (lines_in h.talks ++ line ∷ []) at (spoken-last lines line (lines_in h.talks) h.spoken_are spoke), inl (next_turn line found turned).0, refl),
          ),
        )
    run_out reader left_old line names_are at (inr (spoke, found, inr turned)) g =
        let turn : ℕ × ℕ = (length found, length t.seen) in (
          turns_in h.talks ++ turn ∷ [],
          turns_more turn turned.turned,
          (
            wrote_none g,
            inl (line, turn, first-lines reader left_old left read lines line (lines_in h.talks ++ line ∷ []) at (spoken-last lines line (lines_in h.talks) h.spoken_are spoke), inr (last_turn line found turned), refl),
          ),
        )

-- what was seen behind the lines that were gone on from
close-grows : {Q : Type 0} (m : Behaviour Q) (at : Q → Stand) → IsSession m at → (status : Ending) (from to : Q) (more : ℕ) (told written : Option (List ℕ)) (reader : Reader) (left_old left : Option (List ℕ)) (read : List ℕ) (lines : List (List ℕ))
    → Closes m status from to more told written reader left_old left read lines → IsPrefix (at from).seen (at to).seen
close-grows m at is ending.Done from to more told written reader left_old left read lines c = still-grows (at from) (at to) (ap (λ q. (at q).seen) c.1)
close-grows m at is ending.ReadFault from to more told written reader left_old left read lines c = still-grows (at from) (at to) (ap (λ q. (at q).seen) c.1)
close-grows m at is ending.InputLimit from to more told written reader left_old left read lines c = still-grows (at from) (at to) (ap (λ q. (at q).seen) c.1)
close-grows m at is ending.Stopped from to more told written reader left_old left read lines c =
    answers-grow (at from) (at to) c.0 Stop c.2.0 (is_blank (line_command c.0)) (is.answers from c.0 Stop c.2.0 more to c.2.1).0
close-grows m at is ending.WriteFault from to more told written reader left_old left read lines c = elim c [
  | inl x ↦ answers-grow (at from) (at to) x.0 x.2.0 x.2.1 (is_blank (line_command x.0)) (is.answers from x.0 x.2.0 x.2.1 more to x.2.2).0
  | inr x ↦ still-grows (at from) (at to) (ap (λ q. (at q).seen) x.1)
]
close-grows m at is ending.OutOfMemory from to more told written reader left_old left read lines c = elim c [
  | inl x ↦ fails-grow (at from) (at to) x.0 (is.fails from x.0 more to x.2.0).0
  | inr x ↦ still-grows (at from) (at to) (ap (λ q. (at q).seen) x.1)
]

close-same : {Q : Type 0} (m : Behaviour Q) (at : Q → Stand) → IsSession m at → (status : Ending) (from to : Q) (more : ℕ) (told written : Option (List ℕ)) (reader : Reader) (left_old left : Option (List ℕ)) (read : List ℕ) (lines : List (List ℕ))
    → Closes m status from to more told written reader left_old left read lines → IsSameSession (at from) (at to)
close-same m at is ending.Done from to more told written reader left_old left read lines c = subst (λ q. IsSameSession (at from) (at q)) (sym c.1) (same-session (at from))
close-same m at is ending.ReadFault from to more told written reader left_old left read lines c = subst (λ q. IsSameSession (at from) (at q)) (sym c.1) (same-session (at from))
close-same m at is ending.InputLimit from to more told written reader left_old left read lines c = subst (λ q. IsSameSession (at from) (at q)) (sym c.1) (same-session (at from))
close-same m at is ending.Stopped from to more told written reader left_old left read lines c = (is.answers from c.0 Stop c.2.0 more to c.2.1).1
close-same m at is ending.WriteFault from to more told written reader left_old left read lines c = elim c [
  | inl x ↦ (is.answers from x.0 x.2.0 x.2.1 more to x.2.2).1
  | inr x ↦ subst (λ q. IsSameSession (at from) (at q)) (sym x.1) (same-session (at from))
]
close-same m at is ending.OutOfMemory from to more told written reader left_old left read lines c = elim c [
  | inl x ↦ (is.fails from x.0 more to x.2.0).1
  | inr x ↦ subst (λ q. IsSameSession (at from) (at q)) (sym x.1) (same-session (at from))
]

-- the end, behind the lines that were gone on from
close-ends : {Q : Type 0} (m : Behaviour Q) (at : Q → Stand) (is : IsSession m at) (names : List Named) (help : ℕ) (s : Stand) (status : Ending) (from to : Q) (more : ℕ) (first told written : Option (List ℕ)) (reader : Reader) (left_old left : Option (List ℕ)) (read : List ℕ) (lines : List (List ℕ)) (replies : List ℕ)
    → (at from).names ≡ names → (h : HasTalked names help (at to).seen s (at from) lines replies) → (wrote : Gains first told replies)
    → Closes m status from to more told written reader left_old left read lines
    → Ends names help s (at from) (at to) lines replies h read left first told written wrote (end_of status)
close-ends m at is names help s ending.Done from to more first told written reader left_old left read lines replies names_are h wrote c =
    let none : c.3.0 ≡ [] = is.ends to c.3.0 c.3.1 in
    let r = answered_all names help s (at from) (at to) lines replies h read left first told written wrote (lines_of read) c.0.2 (ap (λ q. (at q).turns) c.1)
    (wrote_none names help s (at from) (at to) lines replies h read left first told written wrote (subst (λ x. Gains told written x) none c.3.2)) in
    (r.0, r.1, (c.0.1, r.2))
close-ends m at is names help s ending.ReadFault from to more first told written reader left_old left read lines replies names_are h wrote c =
    answered_all names help s (at from) (at to) lines replies h read left first told written wrote (whole_lines (within_limit read)) c.0.1 (ap (λ q. (at q).turns) c.1)
    (wrote_same names help s (at from) (at to) lines replies h read left first told written wrote c.3)
close-ends m at is names help s ending.InputLimit from to more first told written reader left_old left read lines replies names_are h wrote c =
    answered_all names help s (at from) (at to) lines replies h read left first told written wrote (whole_lines (within_limit read)) c.0.1 (ap (λ q. (at q).turns) c.1)
    (wrote_same names help s (at from) (at to) lines replies h read left first told written wrote c.3)
close-ends m at is names help s ending.Stopped from to more first told written reader left_old left read lines replies names_are h wrote c =
    quit names help s (at from) (at to) lines replies h read left first told written wrote reader left_old c.0 c.2.0 (is_blank (line_command c.0)) refl names_are c.1
    (is.answers from c.0 Stop c.2.0 more to c.2.1).0 c.2.2
close-ends m at is names help s ending.WriteFault from to more first told written reader left_old left read lines replies names_are h wrote c = elim c [
  | inl x ↦ broken names help s (at from) (at to) lines replies h read left first told written wrote reader left_old x.0 x.2.1 x.2.0 (is_blank (line_command x.0)) refl names_are x.1
      (is.answers from x.0 x.2.0 x.2.1 more to x.2.2).0 x.2.3
  | inr x ↦ (
    turns_in h.talks,
    turns_all names help s (at from) (at to) lines replies h (ap (λ q. (at q).turns) x.1),
    inr (
      ([], inr (x.0.1, ap spoken x.0.2 ∙ (h.spoken_are ∙ sym (append-nil (lines_in h.talks))))),
      refl,
      wrote_none names help s (at from) (at to) lines replies h read left first told written wrote (subst (λ r. Gains told written r) (take-nil x.3.2.0) (subst (λ r. Gains told written (take x.3.2.0 r)) (is.ends to x.3.0 x.3.1) x.3.2.1)),
    ),
  )
]
close-ends m at is names help s ending.OutOfMemory from to more first told written reader left_old left read lines replies names_are h wrote c = elim c [
  | inl x ↦ run_out names help s (at from) (at to) lines replies h read left first told written wrote reader left_old x.0 names_are x.1 (is.fails from x.0 more to x.2.0).0 x.2.1
  | inr x ↦ (
    turns_in h.talks,
    turns_all names help s (at from) (at to) lines replies h (ap (λ q. (at q).turns) x.1),
    (
      wrote_none names help s (at from) (at to) lines replies h read left first told written wrote x.3,
      inr (([], inr (x.0.1, ap spoken x.0.2 ∙ (h.spoken_are ∙ sym (append-nil (lines_in h.talks))))), refl),
    ),
  )
]

close-took : {Q : Type 0} (m : Behaviour Q) (status : Ending) (from to : Q) (more : ℕ) (told written : Option (List ℕ)) (reader : Reader) (left_old left : Option (List ℕ)) (read : List ℕ) (lines : List (List ℕ))
    → Closes m status from to more told written reader left_old left read lines → Consumes left_old left read
close-took m ending.Done from to more told written reader left_old left read lines c = c.0.0
close-took m ending.ReadFault from to more told written reader left_old left read lines c = c.0.0
close-took m ending.InputLimit from to more told written reader left_old left read lines c = c.0.0
close-took m ending.Stopped from to more told written reader left_old left read lines c = c.1.1.took
close-took m ending.WriteFault from to more told written reader left_old left read lines c = elim c [ inl x ↦ x.1.1.took | inr x ↦ x.0.0 ]
close-took m ending.OutOfMemory from to more told written reader left_old left read lines c = elim c [ inl x ↦ x.1.1.took | inr x ↦ x.0.0 ]

end-limit : (status : Ending) → end_of status ≡ end.InputLimit → status ≡ ending.InputLimit
end-limit ending.Done e = absurd (cc)
end-limit ending.Stopped e = absurd (cc)
end-limit ending.ReadFault e = absurd (cc)
end-limit ending.WriteFault e = absurd (cc)
end-limit ending.OutOfMemory e = absurd (cc)
end-limit ending.InputLimit e = refl

-- A session whose loop had a new reader.
pub session_ran : {Q : Type 0} (m : Behaviour Q) (at : Q → Stand) → IsSession m at → (start now : Q) (status : Ending) (reader : Reader) (left_old left first written : Option (List ℕ)) (steps_old steps : ℕ)
    → Looped m start now status reader left_old left [] first written steps_old steps
    → SessionRan (at start).names (at start).help (at start).seen (at now).seen (at start).turns (at now).turns (end_of status) left_old left first written
session_ran m at is start now status reader left_old left first written steps_old steps l =
    let grows = close-grows m at is status l.from now l.more l.told written reader left_old left l.read (exchanged_lines l.exchanges) l.closes in
    let h = went_talked m at is (at start).names (at start).help (at now).seen start l.from l.exchanges refl refl l.went grows in
    let ends = close-ends m at is (at start).names (at start).help (at start) status l.from now l.more first l.told written reader left_old left l.read (exchanged_lines l.exchanges) (exchanged_replies l.exchanges) h.same.names h l.wrote l.closes in
    record {
      read = l.read;
      took = close-took m status l.from now l.more l.told written reader left_old left l.read (exchanged_lines l.exchanges) l.closes;
      few = l.few;
      limit = (λ e. l.limit.0 (end-limit status e), λ n. ap end_of (l.limit.1 n));
      seen_longer = prefix_trans (at start).seen (at l.from).seen (at now).seen h.begins grows;
      turns = ends.0;
      added = ends.1;
      talks = h.talks;
      order = h.order;
      none_quit = h.none_quit;
      ended = ends.2;
    }

-- the same, from the account of the loop
pub session_looped : {Q : Type 0} {m : Behaviour Q} {start now : Q} {status : Ending} {reader : Reader} {left_old left first written : Option (List ℕ)} {steps_old steps : ℕ}
    → Looped m start now status reader left_old left [] first written steps_old steps → (at : Q → Stand) → IsSession m at
    → SessionRan (at start).names (at start).help (at start).seen (at now).seen (at start).turns (at now).turns (end_of status) left_old left first written
session_looped {m = m} {start = start} {now = now} {status = status} {reader = reader} {left_old = left_old} {left = left} {first = first} {written = written} {steps_old = steps_old} {steps = steps} looped at is =
    session_ran m at is start now status reader left_old left first written steps_old steps looped
