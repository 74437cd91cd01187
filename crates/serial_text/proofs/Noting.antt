-- What a reader notes of each line of a script is what the script's journal says.
use Rattle.std.proofs.Common.{◌≡◌, ◌⊎◌, inl, inr, ◌≤◌, arith, ℕ, ◌+◌, ◌==◌, ◌||◌, Bool, true, false, nat_lt, if◌then◌else◌, List, [], ◌∷◌, ◌++◌, length, map, Option, Some, None, Result, Ok, Err, refl, sym, ap, ◌∙◌, subst, append-nil}
use Rattle.std.specs.Prelude.{codes}
use Rattle.std.specs.List.{AllByRecursion}
use Rattle.std.specs.Result.{IfOk}
use Rattle.scc_text.specs.declared.command.Dialect.TheVariants as dialects
use Rattle.scc_text.specs.declared.command.Command.{Command}
use Rattle.scc_text.specs.declared.command.Command.TheVariants.{Blank, Table, Put, Begin, Step, Run, Commit, Withdraw, Show, Dump, Seal, Drain, Journal, Report, Ask, Quit}
use Rattle.scc_text.specs.Command.{command_of, program_bytes}
use Rattle.scc_text.specs.declared.words.Span.{Span}
use Rattle.txn_runs.specs.Run.{Tables, Running, after}
use Rattle.txn_runs.specs.Serial.{last_tables}
use Rattle.txn_runs.specs.declared.program.Program.{Program}
use Rattle.txn_runs.specs.declared.program.TableRef.{TableRef}
use Rattle.txn_runs.specs.declared.outcome.Outcome.{Outcome}
use Rattle.txn_names.specs.Tables.{Named, table_named}
use Rattle.txn_syntax.specs.declared.refusal.ReadRefusal.{ReadRefusal}
use Rattle.txn_syntax.specs.Reads.{read_of}
use Rattle.block_rule.specs.declared.role.Role.TheVariants.{Optimistic, Guard}
use Rattle.block_rule.specs.declared.standing.Standing.{Standing}
use Rattle.block_rule.specs.declared.standing.Standing.TheVariants.{Runnable, Blocked, Ended as HasEnded}
use Rattle.block_rule.specs.Standing.{standing as standing_of}
use Rattle.journal_core.specs.Journal.{began, commits, program_of, is_live, is_sealed}
use Rattle.journal_core.proofs.Legal.{counts}
use Rattle.journal_core.specs.Numbered.{is_named}
use Rattle.journal_core.specs.Begins.{begins, commit_replies}
use Rattle.journal_core.specs.declared.entry.Entry.{Entry}
use Rattle.journal_core.specs.declared.entry.Entry.TheVariants.{Began, Sealed, Withdrawn}
use Rattle.journal_core.proofs.Begins.{begins-longer, commit_replies-longer, begins-count, begun-named, replies-named, none-committed, none-replies}
use Rattle.forest_model.specs.Point.{Conflict}
use Rattle.forest_model.specs.Forest.{Shadow, Started, Forest, is_ended, wanted, find_started, is_started}
use Rattle.forest_model.specs.Sound.{IsSound}
use Rattle.forest_model.specs.Start.{next_to_start}
use Rattle.forest_model.specs.Events.{Refusal, begin, seal, step, commit, withdraw, gone}
use Rattle.forest_model.specs.Grown.{IsGrown, commit_entry, seal_entries, HasBegun}
use Rattle.forest_model.specs.Jobs.{recall}
use Rattle.forest_model.specs.Drain.{after_step, after_commit, run_idle, drain, left}
use Rattle.forest_model.specs.Told.{looks, waiting_looks}
use Rattle.forest_model.specs.Work.{work}
use Rattle.forest_model.proofs.StepLaws.{recall-sound}
use Rattle.forest_model.proofs.CommitLaws.{commit-sound}
use Rattle.forest_model.proofs.DrainLaws.{drain_within-is}
use Rattle.forest_model.proofs.LongerLaws.{IsSame, same-grown, step-same, run-same, commit-grown, withdraw-grown, begin-grown, seal-grown}
use Rattle.shadow_forest.specs.Answers.{life_of}
use Rattle.shadow_forest.specs.declared.answers.Life.{Life}
use Rattle.shadow_forest.specs.declared.answers.Life.TheVariants as lives
use Rattle.scc_setup.specs.Opening.{Opening, text_at, opening_after}
use Rattle.scc_replies.specs.Lines.{number_line, refuse_line}
use Rattle.scc_setup.specs.Settings.{setting_line}
use Rattle.scc_script.specs.Ended.{Ended, all_ended_text}
use Rattle.scc_script.specs.Reply.{begin_line, standing_at, step_line}
use Rattle.scc_script.specs.Shown.{standing_word, run_fields, look_line, shadow_lines}
use Rattle.scc_script.specs.Drained.{drained, entry_in, IsToldDrain}
use Rattle.scc_script.specs.Text.{stepped_line, withdrawn_lines, show_by, dump_by, row_of, Script, refused, set_by, opening_of, begun_line, begin_answer, committed_lines, command_answer, answer_to, answer, role_of, code_of}
use Rattle.scc_script.proofs.Drains.{ended_of, commit-text, drain-told}
use Rattle.serial_text.specs.Forms.{place_words, Shown, IsStanding, optimistic_line, guard_lines}
use Rattle.serial_text.specs.Notes.{Notes, with_begun, with_commits, commit_of, IsRefused, IsSet, accepted_line, IsBegun, IsDeclined, IsUnread, IsPassed, HasCommitted, HasDrained, IsNotedOf, IsNotedBy, IsNoted}

notes : List Named → Tables → List (ℕ × Program) → List (ℕ × Outcome) → Notes
notes names tables begun commits = record { opening = record { names = names; tables = tables }; begun = begun; commits = commits }

-- what is noted of a script with these names and this forest
abbrev pub noting : List Named → Forest → Notes
noting names f = record { opening = record { names = names; tables = f.opening }; begun = begins f.journal; commits = commit_replies f.journal }

abbrev pub notes_of : Script → Notes
notes_of s = noting s.names s.forest

-- before the forest is opened none began
pub record IsGood (s : Script) : Type 0 where
  pub sound : IsSound s.forest
  pub closed : s.is_open ≡ false → begins s.forest.journal ≡ []

pub grown-begins : (f g : Forest) (more : List Entry) → IsGrown f g more → begins g.journal ≡ begins f.journal ++ begins more
grown-begins f g more h = ap begins h.journal ∙ begins-longer f.journal more

grown-replies : (f g : Forest) (more : List Entry) → IsGrown f g more → commit_replies g.journal ≡ commit_replies f.journal ++ commit_replies more
grown-replies f g more h = ap commit_replies h.journal ∙ commit_replies-longer f.journal more

noting-grown : (names : List Named) (f g : Forest) (more : List Entry) (b : List (ℕ × Program)) (e : List (ℕ × Outcome)) → IsGrown f g more → begins more ≡ b → commit_replies more ≡ e
    → noting names g ≡ record { opening = record { names = names; tables = f.opening }; begun = begins f.journal ++ b; commits = commit_replies f.journal ++ e }
unfolding notes
noting-grown names f g more b e h bs es =
    ap (λ d. notes names d (begins g.journal) (commit_replies g.journal)) h.opening
    ∙ ap (λ x. notes names f.opening x (commit_replies g.journal)) (grown-begins f g more h ∙ ap (λ x. begins f.journal ++ x) bs)
    ∙ ap (λ x. notes names f.opening (begins f.journal ++ b) x) (grown-replies f g more h ∙ ap (λ x. commit_replies f.journal ++ x) es)

-- nothing is noted
noting-none : (names : List Named) (f g : Forest) (more : List Entry) → IsGrown f g more → begins more ≡ [] → commit_replies more ≡ [] → noting names g ≡ noting names f
unfolding notes
noting-none names f g more h bs es =
    noting-grown names f g more [] [] h bs es
    ∙ ap (λ x. notes names f.opening x (commit_replies f.journal ++ [])) (append-nil (begins f.journal))
    ∙ ap (λ x. notes names f.opening (begins f.journal) x) (append-nil (commit_replies f.journal))

noting-same : (names : List Named) (f g : Forest) → IsSame f g → noting names g ≡ noting names f
noting-same names f g same = noting-none names f g [] (same-grown f g same) refl refl

noting-commits : (names : List Named) (f g : Forest) (more : List Entry) (e : List (ℕ × Outcome)) → IsGrown f g more → begins more ≡ [] → commit_replies more ≡ e → noting names g ≡ with_commits (noting names f) e
unfolding notes
noting-commits names f g more e h bs es =
    noting-grown names f g more [] e h bs es ∙ ap (λ x. notes names f.opening x (commit_replies f.journal ++ e)) (append-nil (begins f.journal))

noting-begun : (names : List Named) (f g : Forest) (t deadline : ℕ) (p : Program) → IsGrown f g (Began t deadline p ∷ []) → noting names g ≡ with_begun (noting names f) t p
unfolding notes
noting-begun names f g t deadline p h =
    noting-grown names f g (Began t deadline p ∷ []) ((t, p) ∷ []) [] h refl refl ∙ ap (λ x. notes names f.opening (begins f.journal ++ (t, p) ∷ []) x) (append-nil (commit_replies f.journal))

-- Refusals.

refused-noted : (n : Notes) (code : ℕ) → IsRefused n (refuse_line code) n
refused-noted n code = record { code = code; told = refl; noted = refl }

-- Table and put.

-- before the forest is opened its tables are the opening ones
closed-opening : (s : Script) → IsGood s → s.is_open ≡ false → (commit_replies s.forest.journal ≡ []) × (opening_of s ≡ (notes_of s).opening)
closed-opening s h closed =
    let none : commits s.forest.journal ≡ [] = none-committed s.forest.opening s.forest.journal h.sound.right.legal (h.closed closed) in
    let same : s.forest.tables ≡ s.forest.opening = h.sound.right.serial ∙ ap (λ ts. last_tables s.forest.opening (map (program_of s.forest.journal) ts)) none in
    (none-replies s.forest.opening s.forest.journal h.sound.right.legal (h.closed closed), ap (λ (d : Tables). record { names = s.names; tables = d }) same)

set-noted : (s : Script) (line : List ℕ) (command : Command) (after : Result Opening ℕ) → IsGood s → s.is_open ≡ false → opening_after (opening_of s) line command ≡ after
    → IsRefused (notes_of s) (set_by s (setting_line line command) after).reply (notes_of (set_by s (setting_line line command) after).next)
    ⊎ IsSet (notes_of s) line command (set_by s (setting_line line command) after).reply (notes_of (set_by s (setting_line line command) after).next)
unfolding notes
set-noted s line command (Ok o) h closed e =
    let both = closed-opening s h closed in
    inr (record {
      opening = o;
      told = refl;
      set = ap (λ x. opening_after x line command) (sym both.1) ∙ e;
      noted = ap (λ x. notes o.names o.tables x []) (sym (h.closed closed)) ∙ ap (λ x. notes o.names o.tables (begins s.forest.journal) x) (sym both.0);
    })
set-noted s line command (Err code) h closed e = inl (refused-noted (notes_of s) code)

setting-noted : (s : Script) (line : List ℕ) (command : Command) (is_open : Bool) → IsGood s → s.is_open ≡ is_open
    → let a = if is_open then refused s 21 else set_by s (setting_line line command) (opening_after (opening_of s) line command) in
    IsRefused (notes_of s) a.reply (notes_of a.next) ⊎ IsSet (notes_of s) line command a.reply (notes_of a.next)
setting-noted s line command true h e = inl (refused-noted (notes_of s) 21)
setting-noted s line command false h e = set-noted s line command (opening_after (opening_of s) line command) h e refl

-- Begin.

begun-told : (txn : ℕ) (life : Life) → (started : Bool) × (begin_line txn life ≡ accepted_line txn started)
begun-told txn lives.Started = (true, refl)
begun-told txn lives.Waiting = (false, refl)
begun-told txn lives.Unknown = (false, refl)

begun-noted : (s : Script) (program : List ℕ) (body : Program) (deadline : ℕ) (result : Result (ℕ × Forest) Refusal) → read_of s.names program ≡ Ok body → IfOk result (λ a. HasBegun s.forest a.1 a.0 deadline body)
    → IsDeclined (notes_of s) program (begun_line result) (noting s.names (after_step s.forest result)) ⊎ IsBegun (notes_of s) program (begun_line result) (noting s.names (after_step s.forest result))
begun-noted s program body deadline (Ok begun) read h =
    let words = begun-told begun.0 (life_of begun.1 begun.0) in
    inr (record {
      txn = begun.0;
      started = words.0;
      body = body;
      next = h.next ∙ ap (λ n. n + 1) (sym (begins-count s.forest.journal));
      few = h.few;
      told = words.1;
      read = read;
      noted = noting-begun s.names s.forest begun.1 begun.0 deadline body h.grown;
    })
begun-noted s program body deadline (Err refusal) read h = inl (record { code = code_of refusal; body = body; read = read; told = refl; noted = refl })

begin-noted : (s : Script) (program : List ℕ) (deadline : ℕ) (read : Result Program ReadRefusal) → read_of s.names program ≡ read
    → let a = begin_answer s deadline read in
    IsUnread (notes_of s) program a.reply (notes_of a.next) ⊎ (IsDeclined (notes_of s) program a.reply (notes_of a.next) ⊎ IsBegun (notes_of s) program a.reply (notes_of a.next))
begin-noted s program deadline (Ok body) e = inr (begun-noted s program body deadline (begin s.forest body deadline) e (begin-grown s.forest body deadline))
begin-noted s program deadline (Err refusal) e = inl (record { refusal = refusal; read = e; told = refl; noted = refl })

-- Commit, withdraw and drain.

-- those whom a sound forest commits began before
began-before : (f g : Forest) (more : List Entry) (e : List (ℕ × Outcome)) → IsSound g → IsGrown f g more → begins more ≡ [] → commit_replies more ≡ e → AllByRecursion (λ c. is_named (begins f.journal) c.0 ≡ true) e
began-before f g more e h grown bs es =
    let same : begins g.journal ≡ begins f.journal = grown-begins f g more grown ∙ ap (λ x. begins f.journal ++ x) bs ∙ append-nil (begins f.journal) in
    let whole : AllByRecursion (λ c. is_named (begins g.journal) c.0 ≡ true) (commit_replies g.journal) = replies-named g.opening g.journal h.right.legal in
    let here : AllByRecursion (λ c. is_named (begins f.journal) c.0 ≡ true) (commit_replies f.journal ++ e) =
    subst (λ b. AllByRecursion (λ c. is_named b c.0 ≡ true) (commit_replies f.journal ++ e)) same
    (subst (λ (x : List (ℕ × Outcome)). AllByRecursion (λ c. is_named (begins g.journal) c.0 ≡ true) x) (grown-replies f g more grown ∙ ap (λ x. commit_replies f.journal ++ x) es) whole)
    in
    behind (λ c. is_named (begins f.journal) c.0 ≡ true) (commit_replies f.journal) e here
  where
    behind : (P : ℕ × Outcome → Type 0) (xs ys : List (ℕ × Outcome)) → AllByRecursion P (xs ++ ys) → AllByRecursion P ys
    behind P [] ys all = all
    behind P (x ∷ xs) ys all = behind P xs ys all.1

-- and they are among the first 20,000
few-before : (g : Forest) → IsSound g → (e : List (ℕ × Outcome)) → AllByRecursion (λ c. is_named (begins g.journal) c.0 ≡ true) e → AllByRecursion (λ c. c.0 ≤ 20000) e
few-before g h [] all = tt
few-before g h (c ∷ e) all =
    let low : c.0 ≤ began g.journal = (counts g.opening g.journal h.right.legal).bounded c.0 (sym (begun-named g.journal c.0) ∙ all.0) in
    let few : began g.journal ≤ 20000 = h.right.few in
    (omega (arith, low, few), few-before g h e all.1)

commit-noted : (names : List Named) (f : Forest) (t : ℕ) (result : Result Forest Refusal) → IfOk result (λ g. IsGrown f g (commit_entry f t ∷ [])) → IfOk result IsSound
    → IsRefused (noting names f) (committed_lines f t result) (noting names (after_commit f result)) ⊎ HasCommitted (noting names f) t (committed_lines f t result) (noting names (after_commit f result))
commit-noted names f t (Ok g) h sound = inr (record {
  ended = ended_of f t;
  named = refl;
  began = (began-before f g (commit_entry f t ∷ []) (commit_of (ended_of f t) ∷ []) sound h refl refl).0;
  told = commit-text f t;
  noted = noting-commits names f g (commit_entry f t ∷ []) (commit_of (ended_of f t) ∷ []) h refl refl;
})
commit-noted names f t (Err refusal) h sound = inl (refused-noted (noting names f) (code_of refusal))

withdraw-noted : (s : Script) (line : List ℕ) (t : ℕ) (result : Result Forest Refusal) → IfOk result (λ g. IsGrown s.forest g (Withdrawn t ∷ []))
    → IsRefused (notes_of s) (withdrawn_lines s.forest t result) (noting s.names (after_commit s.forest result)) ⊎ IsPassed (notes_of s) line (Withdraw t) (withdrawn_lines s.forest t result) (noting s.names (after_commit s.forest result))
withdraw-noted s line t (Ok g) h = inr (record { form = (next_to_start (gone s.forest t), refl); noted = noting-none s.names s.forest g (Withdrawn t ∷ []) h refl refl })
withdraw-noted s line t (Err refusal) h = inl (refused-noted (notes_of s) (code_of refusal))

entries-replies : (es : List Ended) → commit_replies (map entry_in es) ≡ map commit_of es
entries-replies [] = refl
entries-replies (e ∷ es) = ap (λ x. commit_of e ∷ x) (entries-replies es)

pub entries-begins : (es : List Ended) → begins (map entry_in es) ≡ []
entries-begins [] = refl
entries-begins (e ∷ es) = entries-begins es

drain-noted : (names : List Named) (f : Forest) → IsSound f
    → HasDrained (noting names f) ((drained f).lines ++ number_line (codes "drain ") (drained f).commits) (noting names (drain f).1)
drain-noted names f h =
    let d : IsToldDrain f (drain f).1 (drained f) = drain-told f h in
    let sound : IsSound (drain f).1 = (drain_within-is (left (recall f)) (recall f) (recall-sound f h)).sound in
    let before = began-before f (drain f).1 (map entry_in d.ended) (map commit_of d.ended) sound d.grown (entries-begins d.ended) (entries-replies d.ended) in
    record {
      ended = d.ended;
      began = before;
      few = few-before f h (map commit_of d.ended) before;
      told = ap (λ x. x ++ number_line (codes "drain ") (drained f).commits) d.lines ∙ ap (λ n. all_ended_text d.ended ++ number_line (codes "drain ") n) d.count;
      noted = noting-commits names f (drain f).1 (map entry_in d.ended) (map commit_of d.ended) d.grown (entries-begins d.ended) (entries-replies d.ended);
    }

sealed-none : (f : Forest) → (begins (seal_entries f) ≡ []) × (commit_replies (seal_entries f) ≡ [])
sealed-none f = go (is_sealed f.journal)
  where
    go : (sealed : Bool) → (begins (if sealed then [] else Sealed ∷ []) ≡ []) × (commit_replies (if sealed then [] else Sealed ∷ []) ≡ [])
    go true = (refl, refl)
    go false = (refl, refl)

seal-noted : (names : List Named) (f : Forest) → noting names (seal f) ≡ noting names f
seal-noted names f = noting-none names f (seal f) (seal_entries f) (seal-grown f) (sealed-none f).0 (sealed-none f).1

-- Steps and views.

step-told : (t : ℕ) (guard : Option ℕ) (position : ℕ) → step_line t (role_of guard) position ≡ place_words (codes "step ") t guard position ++ 10 ∷ []
unfolding standing_at
step-told t None position = refl
step-told t (Some u) position = refl

step-noted : (s : Script) (line : List ℕ) (t : ℕ) (guard : Option ℕ) (result : Result (ℕ × Forest) Refusal) → IsSame s.forest (after_step s.forest result)
    → IsRefused (notes_of s) (stepped_line t (role_of guard) result) (noting s.names (after_step s.forest result)) ⊎ IsPassed (notes_of s) line (Step t guard) (stepped_line t (role_of guard) result) (noting s.names (after_step s.forest result))
step-noted s line t guard (Ok moved) h = inr (record { form = (moved.0, step-told t guard moved.0); noted = noting-same s.names s.forest moved.1 h })
step-noted s line t guard (Err refusal) h = inl (refused-noted (notes_of s) (code_of refusal))

standing-told : (standing : Standing) → IsStanding (standing_word standing)
standing-told Runnable = inl refl
standing-told Blocked = inr (inl refl)
standing-told HasEnded = inr (inr refl)

-- what is shown of a shadow that stands here
shown_at : Forest → ℕ → ℕ → Standing → Shown
shown_at f t position standing =
    let run : Running = after (program_of f.journal t) f.tables position in
    record { position = position; standing = standing_word standing; known = standing-told standing; registers = run.registers; writes = run.writes; emits = run.emits }

-- those that wait, each with its guard and its point
others : Forest → ℕ → List Shadow → List Conflict → List (ℕ × (ℕ × Shown))
others f t [] ws = []
others f t (s ∷ ss) [] = []
others f t (s ∷ ss) (w ∷ ws) = (s.guard, (w.1, shown_at f t s.position (standing_of (Guard s.guard) s.position (Some w.1) false))) ∷ others f t ss ws

others-told : (names : List Named) (f : Forest) (t : ℕ) (ss : List Shadow) (ws : List Conflict) → shadow_lines names f t (waiting_looks ss ws) ≡ guard_lines names t (others f t ss ws)
unfolding standing_at others shown_at
others-told names f t [] ws = refl
others-told names f t (s ∷ ss) [] = refl
others-told names f t (s ∷ ss) (w ∷ ws) =
    ap (λ x. look_line names f t (Guard s.guard, (s.position, (Some w.1, standing_of (Guard s.guard) s.position (Some w.1) false))) ++ x) (others-told names f t ss ws)

shadows-told : (names : List Named) (f : Forest) (t : ℕ) (r : Started) → shadow_lines names f t (looks f (Some r))
    ≡ optimistic_line names t (shown_at f t r.position (standing_of Optimistic r.position None (is_ended f r))) ++ guard_lines names t (others f t r.shadows (wanted f r))
unfolding standing_at shown_at
shadows-told names f t r =
    let stands : Standing = standing_of Optimistic r.position None (is_ended f r) in
    ap (λ x. look_line names f t (Optimistic, (r.position, (None, stands))) ++ x) (others-told names f t r.shadows (wanted f r))
    ∙ ap (λ x. x ++ standing_word stands ++ run_fields names (after (program_of f.journal t) f.tables r.position) ++ 10 ∷ [] ++ guard_lines names t (others f t r.shadows (wanted f r)))
    (append-nil (standing_at (codes "shadow ") t Optimistic r.position))

started-found : (xs : List Started) (t : ℕ) → is_started xs t ≡ true → (r : Started) × (find_started xs t ≡ Some r)
started-found [] t e = absurd (cc)
started-found (x ∷ xs) t e = go (x.number == t) (started-found xs t) e
  where
    go : (here : Bool) → (is_started xs t ≡ true → (r : Started) × (find_started xs t ≡ Some r)) → (here || is_started xs t) ≡ true
        → (r : Started) × ((if here then Some x else find_started xs t) ≡ Some r)
    go true more e = (x, refl)
    go false more e = more e

is-started : (live started : Bool) → (if live then (if started then lives.Started else lives.Waiting) else lives.Unknown) ≡ lives.Started → started ≡ true
is-started true true e = refl
is-started true false e = absurd (cc)
is-started false started e = absurd (cc)

show-noted : (s : Script) (line : List ℕ) (t : ℕ) (life : Life) → life_of s.forest t ≡ life
    → IsRefused (notes_of s) (show_by s.names s.forest t life) (notes_of s) ⊎ IsPassed (notes_of s) line (Show t) (show_by s.names s.forest t life) (notes_of s)
show-noted s line t lives.Unknown e = inl (refused-noted (notes_of s) 25)
show-noted s line t lives.Waiting e = inr (record { form = inl refl; noted = refl })
show-noted s line t lives.Started e =
    let f : Forest = s.forest in
    let found = started-found f.started t (is-started (is_live f.journal t) (is_started f.started t) e) in
    let r : Started = found.0 in
    inr (record {
      form = inr (record {
        first = shown_at f t r.position (standing_of Optimistic r.position None (is_ended f r));
        others = others f t r.shadows (wanted f r);
        told = ap (λ o. shadow_lines s.names f t (looks f o)) found.1 ∙ shadows-told s.names f t r;
      });
      noted = refl;
    })

dump-noted : (s : Script) (line : List ℕ) (name : Span) (found : Option TableRef) → table_named s.names (text_at line name) ≡ found
    → IsPassed (notes_of s) line (Dump name) (dump_by s (text_at line name) found) (notes_of s)
dump-noted s line name None e = record { form = inl (record { none = e; told = refl }); noted = refl }
dump-noted s line name (Some table) e = record { form = inr (record { table = table; values = row_of s.forest.tables table; found = e; told = refl }); noted = refl }

-- All commands.

command-noted : (s : Script) (line : List ℕ) (command : Command) → IsGood s → IsNotedOf (notes_of s) line command (command_answer s line command).reply (notes_of (command_answer s line command).next)
command-noted s line Blank h = record { form = refl; noted = refl }
command-noted s line (Table name size) h = setting-noted s line (Table name size) s.is_open h refl
command-noted s line (Put name index value) h = setting-noted s line (Put name index value) s.is_open h refl
command-noted s line (Begin deadline at) h = begin-noted s (program_bytes line at) deadline (read_of s.names (program_bytes line at)) refl
command-noted s line (Step txn guard) h = step-noted s line txn guard (step s.forest txn (role_of guard)) (step-same s.forest txn (role_of guard))
command-noted s line Run h = record { form = ((run_idle s.forest).0, refl); noted = noting-same s.names s.forest (run_idle s.forest).1 (run-same (work s.forest) s.forest) }
command-noted s line (Commit txn) h = commit-noted s.names s.forest txn (commit s.forest txn) (commit-grown s.forest txn) (commit-sound s.forest txn h.sound)
command-noted s line (Withdraw txn) h = withdraw-noted s line txn (withdraw s.forest txn) (withdraw-grown s.forest txn)
command-noted s line (Show txn) h = show-noted s line txn (life_of s.forest txn) refl
command-noted s line (Dump name) h = dump-noted s line name (table_named s.names (text_at line name)) refl
command-noted s line Seal h = record { form = refl; noted = seal-noted s.names s.forest }
command-noted s line Drain h = drain-noted s.names s.forest h.sound
command-noted s line Journal h = record { entries = s.forest.journal; told = refl; legal = h.sound.right.legal; programs = refl; replies = refl; noted = refl }
command-noted s line Report h = refused-noted (notes_of s) 12
command-noted s line (Ask txn) h = refused-noted (notes_of s) 12
command-noted s line Quit h = refused-noted (notes_of s) 12

spelled-noted : (s : Script) (line : List ℕ) (command : Result Command ℕ) → IsGood s → IsNotedBy (notes_of s) line command (answer_to s line command).reply (notes_of (answer_to s line command).next)
spelled-noted s line (Ok command) h = command-noted s line command h
spelled-noted s line (Err code) h = (refl, refl)

pub answer-noted : (s : Script) (line : List ℕ) → IsGood s → IsNoted (notes_of s) line (answer dialects.Script s line).reply (notes_of (answer dialects.Script s line).next)
unfolding answer IsNoted
answer-noted s line h = go (nat_lt 8192 (length line))
  where
    go : (long : Bool) → let a = if long then refused s 11 else answer_to s line (command_of dialects.Script line) in
        IsNotedBy (notes_of s) line (if long then Err 11 else command_of dialects.Script line) a.reply (notes_of a.next)
    go true = (refl, refl)
    go false = spelled-noted s line (command_of dialects.Script line) h
