-- The account of a session's loop over lines, as talks.
use Rattle.std.proofs.Common.{◌≡◌, ◌≤◌, ℕ, Bool, true, false, not, List, [], ◌∷◌, ◌++◌, length, cond, refl, sym, ap, ◌∙◌, subst, arith, append_assoc, append-nil}
use Rattle.std.specs.List.{AllByRecursion}
use mathlib.Core.List.{IsPrefix}
use Rattle.line_loop.specs.Account.{Behaviour, Exchange, Follows, GoesThrough, lines_in as exchanged_lines, replies_in as exchanged_replies}
use Rattle.line_loop.specs.declared.flow.Flow.{Flow}
use Rattle.line_loop.specs.declared.flow.Flow.TheVariants.{GoOn, WorkOn, Stop}
use Rattle.txn_names.specs.Tables.{Named}
use Rattle.turn_cell.proofs.Prefixes.{prefix_self, prefix_trans}
use Rattle.shadow_forest.specs.declared.kept.Item.{Item}
use Rattle.shadow_worker.specs.Worked.{HasWorked}
use Rattle.shadow_worker.proofs.WorkTurns.{prefix_length}
use Rattle.line_server.specs.Answers.{line_command, is_blank, is_quit}
use Rattle.line_server.specs.Talks.{Talk, spoken, lines_in, turns_in, answer_at, reply_at, replies_in, left_by, AreTalksFrom}
use Rattle.line_server.specs.Stands.{Stand, IsSameSession, IsStill, HasTurned, flow_of, HasSpoken, AnswersBy, Answers, Works, Fails}
use Rattle.line_server.proofs.Turns.{turns_stay, left_seen, left_by-append, left_lower, talks_lower, line_turn}

-- a machine is a session, which stands so
pub record IsSession {Q : Type 0} (m : Behaviour Q) (at : Q → Stand) : Type 0 where
  pub answers : (old : Q) (line : List ℕ) (flow : Flow) (reply : List ℕ) (steps : ℕ) (new : Q) → m.answers old line flow reply steps new → Answers (at old) line flow reply (at new) × IsSameSession (at old) (at new)
  pub works : (old : Q) (steps : ℕ) (new : Q) → m.works old steps new → Works (at old) (at new) × IsSameSession (at old) (at new)
  pub fails : (old : Q) (line : List ℕ) (steps : ℕ) (new : Q) → m.fails old line steps new → Fails (at old) line (at new) × IsSameSession (at old) (at new)
  pub ends : (now : Q) (text : List ℕ) → m.ends now text → text ≡ []

pub same-session : (s : Stand) → IsSameSession s s
same-session s = record { names = refl; help = refl; seats = refl; cell = refl }

pub same-twice : (a b c : Stand) → IsSameSession a b → IsSameSession b c → IsSameSession a c
same-twice a b c one two = record { names = two.names ∙ one.names; help = two.help ∙ one.help; seats = two.seats ∙ one.seats; cell = two.cell ∙ one.cell }

-- Lines that aren't blank.

pub spoken-blank : (line : List ℕ) (lines : List (List ℕ)) → is_blank (line_command line) ≡ true → spoken (line ∷ lines) ≡ spoken lines
spoken-blank line lines e = ap (λ b. cond (not b) (line ∷ spoken lines) (spoken lines)) e

pub spoken-line : (line : List ℕ) (lines : List (List ℕ)) → is_blank (line_command line) ≡ false → spoken (line ∷ lines) ≡ line ∷ spoken lines
spoken-line line lines e = ap (λ b. cond (not b) (line ∷ spoken lines) (spoken lines)) e

-- From one stand to another these lines were answered with these replies.
pub record HasTalked (names : List Named) (help : ℕ) (all : List Item) (s t : Stand) (lines : List (List ℕ)) (replies : List ℕ) : Type 0 where
  pub begins : IsPrefix s.seen t.seen
  pub same : IsSameSession s t
  pub talks : List Talk
  pub spoken_are : spoken lines ≡ lines_in talks
  pub order : AreTalksFrom names all help (length s.seen) talks
  pub left : left_by (length s.seen) (turns_in talks) ≤ length t.seen
  pub turns : t.turns ≡ s.turns ++ turns_in talks
  pub none_quit : AllByRecursion (λ (talk : Talk). is_quit (line_command talk.line) ≡ false) talks
  pub replies_are : replies ≡ replies_in names all talks

-- no line
no_line : (names : List Named) (help : ℕ) (all : List Item) (s t : Stand) → t ≡ s → IsPrefix t.seen all → HasTalked names help all s t [] []
no_line names help all s t is begins = record {
  begins = subst (λ (x : Stand). IsPrefix s.seen x.seen) (sym is) (prefix_self s.seen);
  same = subst (λ (x : Stand). IsSameSession s x) (sym is) (same-session s);
  talks = [];
  spoken_are = refl;
  order = prefix_length s.seen all (subst (λ (x : Stand). IsPrefix x.seen all) is begins);
  left = let size : length t.seen ≡ length s.seen = ap (λ (x : Stand). length x.seen) is in omega arith;
  turns = ap (λ (x : Stand). x.turns) is ∙ sym (append-nil s.turns);
  none_quit = tt;
  replies_are = refl;
}

-- a blank line first
blank_line : (names : List Named) (help : ℕ) (all : List Item) (s a t : Stand) (line : List ℕ) (lines : List (List ℕ)) (reply replies : List ℕ) → is_blank (line_command line) ≡ true
    → IsSameSession s a → IsStill s a → reply ≡ [] → HasTalked names help all a t lines replies → HasTalked names help all s t (line ∷ lines) (reply ++ replies)
blank_line names help all s a t line lines reply replies blank same still none h =
    let size : length a.seen ≡ length s.seen = ap length still.seen in record {
      begins = subst (λ l. IsPrefix l t.seen) still.seen h.begins;
      same = same-twice s a t same h.same;
      talks = h.talks;
      spoken_are = spoken-blank line lines blank ∙ h.spoken_are;
      order = subst (λ n. AreTalksFrom names all help n h.talks) size h.order;
      left = subst (λ n. left_by n (turns_in h.talks) ≤ length t.seen) size h.left;
      turns = h.turns ∙ ap (λ ts. ts ++ turns_in h.talks) still.turns;
      none_quit = h.none_quit;
      replies_are = ap (λ r. r ++ replies) none ∙ h.replies_are;
    }

-- a line that isn't blank first, with work behind it
spoken_line : (names : List Named) (help : ℕ) (all : List Item) (s a b t : Stand) (line : List ℕ) (lines : List (List ℕ)) (reply replies : List ℕ) → is_blank (line_command line) ≡ false → is_quit (line_command line) ≡ false
    → s.names ≡ names → s.help ≡ help → IsSameSession s a → IsSameSession a b → (found : List Item) → HasTurned s.seen s.turns found (answer_at names found line).adds a.seen a.turns
    → reply ≡ (answer_at names found line).reply → HasWorked a.seen a.turns a.help b.seen b.turns → IsPrefix t.seen all
    → HasTalked names help all b t lines replies → HasTalked names help all s t (line ∷ lines) (reply ++ replies)
spoken_line names help all s a b t line lines reply replies blank quit names_are help_is one two found turned reply_is worked begins h =
    let seen_b : IsPrefix b.seen all = prefix_trans b.seen t.seen all h.begins begins in
    let seen_a : IsPrefix a.seen all = prefix_trans a.seen b.seen all worked.seen_longer seen_b in
    let there = line_turn names line s.seen s.turns found a.seen a.turns all turned seen_a in
    let began : IsPrefix s.seen a.seen = prefix_trans s.seen found a.seen turned.began (_, sym turned.left) in
    let behind : left_by (length a.seen) worked.more ≤ length b.seen = left_seen b.seen (length a.seen) worked.more worked.each in
    record {
      begins = prefix_trans s.seen a.seen t.seen began (prefix_trans a.seen b.seen t.seen worked.seen_longer h.begins);
      same = same-twice s a t one (same-twice a b t two h.same);
      talks = record { line = line; turn = (length found, length a.seen); work = worked.more } ∷ h.talks;
      spoken_are = spoken-line line lines blank ∙ ap (λ ls. line ∷ ls) h.spoken_are;
      order = (
        prefix_length s.seen found turned.began,
        there.0,
        turns_stay b.seen all (length a.seen) worked.more seen_b worked.each,
        worked.counted ∙ (one.help ∙ help_is),
        talks_lower names all help (left_by (length a.seen) worked.more) (length b.seen) h.talks behind h.order,
      );
      left =
          let split = left_by-append (length a.seen) worked.more (turns_in h.talks) in
          let lower = left_lower (left_by (length a.seen) worked.more) (length b.seen) (turns_in h.talks) behind in
          omega (arith, split, lower, h.left);
      turns = h.turns ∙ (ap (λ ts. ts ++ turns_in h.talks) (worked.added ∙ ap (λ ts. ts ++ worked.more) turned.turned)
          ∙ (append_assoc (s.turns ++ (length found, length a.seen) ∷ []) worked.more (turns_in h.talks)
          ∙ append_assoc s.turns ((length found, length a.seen) ∷ []) (worked.more ++ turns_in h.talks)));
      none_quit = (quit, h.none_quit);
      replies_are = ap (λ r. r ++ replies) (reply_is ∙ sym there.1) ∙ ap (λ rs. reply_at names all line (length found) ++ rs) h.replies_are;
    }

-- one line first, and what follows its reply
one_line : {Q : Type 0} (m : Behaviour Q) (at : Q → Stand) → IsSession m at → (names : List Named) (help : ℕ) (all : List Item) (t : Stand) (start answered next : Q) (line : List ℕ) (flow : Flow) (reply : List ℕ) (steps work : ℕ) (lines : List (List ℕ)) (replies : List ℕ)
    → (at start).names ≡ names → (at start).help ≡ help → m.answers start line flow reply steps answered → Follows m flow answered work next → IsPrefix t.seen all
    → HasTalked names help all (at next) t lines replies → HasTalked names help all (at start) t (line ∷ lines) (reply ++ replies)
one_line m at is names help all t start answered next line flow reply steps work lines replies names_are help_is answers follows begins h =
    let told = is.answers start line flow reply steps answered answers in
    by_blank (is_blank (line_command line)) refl told.0 told.1
  where
    -- what follows when the machine goes on
    goes_on : (flow : Flow) → flow ≡ GoOn → Follows m flow answered work next → next ≡ answered
    goes_on GoOn e f = f.1
    goes_on WorkOn e f = absurd (cc)
    goes_on Stop e f = absurd f

    works_on : (flow : Flow) → flow ≡ WorkOn → Follows m flow answered work next → m.works answered work next
    works_on GoOn e f = absurd (cc)
    works_on WorkOn e f = f
    works_on Stop e f = absurd f

    stops_not : (flow : Flow) → flow ≡ Stop → Follows m flow answered work next → ⊥
    stops_not GoOn e f = absurd (cc)
    stops_not WorkOn e f = absurd (cc)
    stops_not Stop e f = f

    by_quit : (quit : Bool) → is_quit (line_command line) ≡ quit → is_blank (line_command line) ≡ false → HasSpoken (at start) line flow reply (at answered) → IsSameSession (at start) (at answered)
        → HasTalked names help all (at start) t (line ∷ lines) (reply ++ replies)
    by_quit true quit blank spoke same = absurd (stops_not flow (spoke.flow_is ∙ ap flow_of quit) follows)
    by_quit false quit blank spoke same =
        let worked = is.works answered work next (works_on flow (spoke.flow_is ∙ ap flow_of quit) follows) in
        spoken_line names help all (at start) (at answered) (at next) t line lines reply replies blank quit names_are help_is same worked.1 spoke.found
        (subst (λ ns. HasTurned (at start).seen (at start).turns spoke.found (answer_at ns spoke.found line).adds (at answered).seen (at answered).turns) names_are spoke.turned)
        (spoke.reply_is ∙ ap (λ ns. (answer_at ns spoke.found line).reply) names_are) worked.0 begins h

    by_blank : (blank : Bool) → is_blank (line_command line) ≡ blank → AnswersBy blank (at start) line flow reply (at answered) → IsSameSession (at start) (at answered)
        → HasTalked names help all (at start) t (line ∷ lines) (reply ++ replies)
    by_blank true e passed same =
        blank_line names help all (at start) (at answered) t line lines reply replies e same passed.still passed.reply_is
        (subst (λ q. HasTalked names help all (at q) t lines replies) (goes_on flow passed.flow_is follows) h)
    by_blank false e spoke same = by_quit (is_quit (line_command line)) refl e spoke same

-- an answer and what follows it change no name and no help
follows-same : {Q : Type 0} (m : Behaviour Q) (at : Q → Stand) → IsSession m at → (flow : Flow) (start : Q) (line reply : List ℕ) (steps : ℕ) (answered : Q) (work : ℕ) (next : Q)
    → m.answers start line flow reply steps answered → Follows m flow answered work next → IsSameSession (at start) (at next)
follows-same m at is GoOn start line reply steps answered work next answers follows =
    subst (λ q. IsSameSession (at start) (at q)) (sym follows.1) (is.answers start line GoOn reply steps answered answers).1
follows-same m at is WorkOn start line reply steps answered work next answers follows =
    same-twice (at start) (at answered) (at next) (is.answers start line WorkOn reply steps answered answers).1 (is.works answered work next follows).1
follows-same m at is Stop start line reply steps answered work next answers follows = absurd follows

-- the lines that were answered and gone on from
pub went_talked : {Q : Type 0} (m : Behaviour Q) (at : Q → Stand) → IsSession m at → (names : List Named) (help : ℕ) (all : List Item) (start now : Q) (exchanges : List (Exchange Q))
    → (at start).names ≡ names → (at start).help ≡ help → GoesThrough m start exchanges now → IsPrefix (at now).seen all
    → HasTalked names help all (at start) (at now) (exchanged_lines exchanges) (exchanged_replies exchanges)
went_talked m at is names help all start now [] names_are help_is went begins = no_line names help all (at start) (at now) (ap at went) begins
went_talked m at is names help all start now (exchange ∷ exchanges) names_are help_is went begins =
    let same = follows-same m at is exchange.flow start exchange.line exchange.reply exchange.steps exchange.answered exchange.work exchange.next went.0 went.1 in
    one_line m at is names help all (at now) start exchange.answered exchange.next exchange.line exchange.flow exchange.reply exchange.steps exchange.work (exchanged_lines exchanges) (exchanged_replies exchanges)
    names_are help_is went.0 went.1 begins
    (went_talked m at is names help all exchange.next now exchanges (same.names ∙ names_are) (same.help ∙ help_is) went.2 begins)
