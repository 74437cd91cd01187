-- The notes of two readers who see the same reply to each line are the same.
use Rattle.std.proofs.Common.{◌≡◌, ◌⊎◌, inl, inr, ◌≤◌, ℕ, List, [], ◌∷◌, ◌++◌, map, Result, Ok, Err, refl, sym, ap, ◌∙◌, subst, arith}
use Rattle.std.specs.List.{AllByRecursion}
use Rattle.std.proofs.lemmas.List.{map-append}
use Rattle.scc_text.specs.declared.command.Command.{Command}
use Rattle.scc_text.specs.declared.command.Command.TheVariants.{Blank, Table, Put, Begin, Step, Run, Commit, Withdraw, Show, Dump, Seal, Drain, Journal, Report, Ask, Quit}
use Rattle.scc_text.specs.Command.{program_bytes}
use Rattle.txn_runs.specs.declared.program.Program.{Program}
use Rattle.txn_runs.specs.declared.outcome.Outcome.{Outcome}
use Rattle.txn_syntax.specs.Reads.{read_of}
use Rattle.txn_runs.specs.Serial.{outcomes}
use Rattle.journal_core.specs.Numbered.{program_named}
use Rattle.scc_setup.specs.Opening.{Opening, opening_after}
use Rattle.scc_setup.specs.Settings.{setting_line}
use Rattle.scc_script.specs.Ended.{Ended}
use Rattle.serial_text.specs.Notes.{Notes, no_notes, with_begun, with_commits, commit_of, IsRefused, IsSet, IsUnread, IsDeclined, IsBegun, HasCommitted, HasDrained, IsPassed, IsNotedOf, IsNotedBy, IsNoted, AreNoted, command_in}
use Rattle.serial_text.specs.Serial.{IsSerialRun, printed_programs}
use Rattle.report_text.proofs.Cuts.{head}
use Rattle.serial_text.proofs.Reading.{drained-same}

abbrev pub numbers : List (ℕ × Outcome) → List ℕ
numbers cs = map (λ c. c.0) cs

-- the notes with other commits
abbrev pub with_those : Notes → List (ℕ × Outcome) → Notes
with_those n cs = record n { commits = cs }

-- m is n, but for the outcomes of the commits
pub record IsAlike (n m : Notes) : Type 0 where
  pub commits : List (ℕ × Outcome)
  pub rest : m ≡ with_those n commits
  pub same : numbers commits ≡ numbers n.commits

-- What a line changes, it changes alike.

module _ (n : Notes) (c : List (ℕ × Outcome)) (h : numbers c ≡ numbers n.commits) (n1 m1 : Notes) where
  pub stay : n1 ≡ n → m1 ≡ with_those n c → IsAlike n1 m1
  stay e d = record { commits = c; rest = d ∙ ap (λ x. with_those x c) (sym e); same = h ∙ ap (λ (x : Notes). numbers x.commits) (sym e) }

  more : (a b : List (ℕ × Outcome)) → numbers b ≡ numbers a → n1 ≡ with_commits n a → m1 ≡ with_commits (with_those n c) b → IsAlike n1 m1
  more a b s e d = record {
    commits = c ++ b;
    rest = d ∙ ap (λ x. with_those x (c ++ b)) (sym e);
    same = map-append (λ x. x.0) c b ∙ ap (λ x. x ++ numbers b) h ∙ ap (λ x. numbers n.commits ++ x) s ∙ sym (map-append (λ x. x.0) n.commits a) ∙ ap (λ (x : Notes). numbers x.commits) (sym e);
  }

  opened : (o p : Opening) → p ≡ o → n1 ≡ record n { opening = o } → m1 ≡ record (with_those n c) { opening = p } → IsAlike n1 m1
  opened o p s e d = record {
    commits = c;
    rest = d ∙ ap (λ (x : Opening). record (with_those n c) { opening = x }) s ∙ ap (λ x. with_those x c) (sym e);
    same = h ∙ ap (λ (x : Notes). numbers x.commits) (sym e);
  }

  began : (t u : ℕ) (p q : Program) → u ≡ t → q ≡ p → n1 ≡ with_begun n t p → m1 ≡ with_begun (with_those n c) u q → IsAlike n1 m1
  began t u p q s r e d = record {
    commits = c;
    rest = d ∙ ap (λ x. with_begun (with_those n c) x q) s ∙ ap (λ x. with_begun (with_those n c) t x) r ∙ ap (λ x. with_those x c) (sym e);
    same = h ∙ ap (λ (x : Notes). numbers x.commits) (sym e);
  }

-- Each command.

same-ok : {A E : Type 0} (r : Result A E) (x y : A) → r ≡ Ok x → r ≡ Ok y → x ≡ y
same-ok r x y e d = let both : Ok x ≡ Ok y = sym e ∙ d in cc

pub ok-not-err : {A E : Type 0} (r : Result A E) (x : A) (y : E) → r ≡ Ok x → r ≡ Err y → ⊥
ok-not-err r x y e d = let both : Ok x ≡ Err y = sym e ∙ d in absurd (cc)

module _ (n : Notes) (c : List (ℕ × Outcome)) (h : numbers c ≡ numbers n.commits) (line reply : List ℕ) (n1 m1 : Notes) where
  passed : (command : Command) → IsRefused n reply n1 ⊎ IsPassed n line command reply n1 → IsRefused (with_those n c) reply m1 ⊎ IsPassed (with_those n c) line command reply m1 → IsAlike n1 m1
  passed command (inl a) (inl b) = stay n c h n1 m1 a.noted b.noted
  passed command (inl a) (inr b) = stay n c h n1 m1 a.noted b.noted
  passed command (inr a) (inl b) = stay n c h n1 m1 a.noted b.noted
  passed command (inr a) (inr b) = stay n c h n1 m1 a.noted b.noted

  -- a refusal begins with another byte than what is accepted
  other_first : (m k : Notes) (text : List ℕ) (first : ℕ) → head text ≡ first → (first ≡ 114 → ⊥) → reply ≡ text → IsRefused m reply k → ⊥
  unfolding head
  other_first m k text first is other told r = other (sym is ∙ ap head (sym told ∙ r.told))

  set : (command : Command) (first : ℕ) → head (setting_line line command) ≡ first → (first ≡ 114 → ⊥)
      → IsRefused n reply n1 ⊎ IsSet n line command reply n1 → IsRefused (with_those n c) reply m1 ⊎ IsSet (with_those n c) line command reply m1 → IsAlike n1 m1
  set command first is other (inl a) (inl b) = stay n c h n1 m1 a.noted b.noted
  set command first is other (inl a) (inr b) = absurd (other_first n n1 (setting_line line command) first is other b.told a)
  set command first is other (inr a) (inl b) = absurd (other_first (with_those n c) m1 (setting_line line command) first is other a.told b)
  set command first is other (inr a) (inr b) = opened n c h n1 m1 a.opening b.opening (same-ok (opening_after n.opening line command) b.opening a.opening b.set a.set) a.noted b.noted

  begin : (program : List ℕ)
      → IsUnread n program reply n1 ⊎ (IsDeclined n program reply n1 ⊎ IsBegun n program reply n1)
      → IsUnread (with_those n c) program reply m1 ⊎ (IsDeclined (with_those n c) program reply m1 ⊎ IsBegun (with_those n c) program reply m1) → IsAlike n1 m1
  unfolding head
  begin program (inl a) (inl b) = stay n c h n1 m1 a.noted b.noted
  begin program (inl a) (inr (inl b)) = stay n c h n1 m1 a.noted b.noted
  begin program (inr (inl a)) (inl b) = stay n c h n1 m1 a.noted b.noted
  begin program (inr (inl a)) (inr (inl b)) = stay n c h n1 m1 a.noted b.noted
  begin program (inl a) (inr (inr b)) = absurd (ok-not-err (read_of n.opening.names program) b.body a.refusal b.read a.read)
  begin program (inr (inr a)) (inl b) = absurd (ok-not-err (read_of n.opening.names program) a.body b.refusal a.read b.read)
  begin program (inr (inl a)) (inr (inr b)) = let byte : 114 ≡ 98 = ap head (sym a.told ∙ b.told) in absurd (omega (arith, byte))
  begin program (inr (inr a)) (inr (inl b)) = let byte : 114 ≡ 98 = ap head (sym b.told ∙ a.told) in absurd (omega (arith, byte))
  begin program (inr (inr a)) (inr (inr b)) = began n c h n1 m1 a.txn b.txn a.body b.body (b.next ∙ sym a.next) (same-ok (read_of n.opening.names program) b.body a.body b.read a.read) a.noted b.noted

  commit : (txn : ℕ) → IsRefused n reply n1 ⊎ HasCommitted n txn reply n1 → IsRefused (with_those n c) reply m1 ⊎ HasCommitted (with_those n c) txn reply m1 → IsAlike n1 m1
  unfolding head
  commit txn (inl a) (inl b) = stay n c h n1 m1 a.noted b.noted
  commit txn (inl a) (inr b) = let byte : 114 ≡ 99 = ap head (sym a.told ∙ b.told) in absurd (omega (arith, byte))
  commit txn (inr a) (inl b) = let byte : 114 ≡ 99 = ap head (sym b.told ∙ a.told) in absurd (omega (arith, byte))
  commit txn (inr a) (inr b) = more n c h n1 m1 (commit_of a.ended ∷ []) (commit_of b.ended ∷ []) (ap (λ t. t ∷ []) (b.named ∙ sym a.named)) a.noted b.noted

  drain : HasDrained n reply n1 → HasDrained (with_those n c) reply m1 → IsAlike n1 m1
  drain a b =
      more n c h n1 m1 (map commit_of a.ended) (map commit_of b.ended)
      (numbered b.ended ∙ drained-same b.ended a.ended (each b.ended b.few) (each a.ended a.few) (sym b.told ∙ a.told) ∙ sym (numbered a.ended)) a.noted b.noted
    where
      numbered : (es : List Ended) → numbers (map commit_of es) ≡ map (λ e. e.txn) es
      numbered [] = refl
      numbered (e ∷ es) = ap (λ x. e.txn ∷ x) (numbered es)

      each : (es : List Ended) → AllByRecursion (λ c. c.0 ≤ 20000) (map commit_of es) → AllByRecursion (λ e. e.txn ≤ 20000) es
      each [] all = tt
      each (e ∷ es) all = (all.0, each es all.1)

  command-alike : (command : Command) → IsNotedOf n line command reply n1 → IsNotedOf (with_those n c) line command reply m1 → IsAlike n1 m1
  unfolding head
  command-alike Blank a b = stay n c h n1 m1 a.noted b.noted
  command-alike (Table name size) a b = set (Table name size) 116 refl (λ e. absurd (omega (arith, e))) a b
  command-alike (Put name index value) a b = set (Put name index value) 112 refl (λ e. absurd (omega (arith, e))) a b
  command-alike (Begin deadline at) a b = begin (program_bytes line at) a b
  command-alike (Step txn guard) a b = passed (Step txn guard) a b
  command-alike Run a b = stay n c h n1 m1 a.noted b.noted
  command-alike (Commit txn) a b = commit txn a b
  command-alike (Withdraw txn) a b = passed (Withdraw txn) a b
  command-alike (Show txn) a b = passed (Show txn) a b
  command-alike (Dump name) a b = stay n c h n1 m1 a.noted b.noted
  command-alike Seal a b = stay n c h n1 m1 a.noted b.noted
  command-alike Drain a b = drain a b
  command-alike Journal a b = stay n c h n1 m1 a.noted b.noted
  command-alike Report a b = stay n c h n1 m1 a.noted b.noted
  command-alike (Ask txn) a b = stay n c h n1 m1 a.noted b.noted
  command-alike Quit a b = stay n c h n1 m1 a.noted b.noted

  spelled-alike : (command : Result Command ℕ) → IsNotedBy n line command reply n1 → IsNotedBy (with_those n c) line command reply m1 → IsAlike n1 m1
  spelled-alike (Ok command) a b = command-alike command a b
  spelled-alike (Err code) a b = stay n c h n1 m1 a.1 b.1

  pub line-alike : IsNoted n line reply n1 → IsNoted (with_those n c) line reply m1 → IsAlike n1 m1
  unfolding IsNoted
  line-alike a b = spelled-alike (command_in line) a b

-- All lines.

all-alike : (answers : List (List ℕ × List ℕ)) (n m n1 m1 : Notes) → IsAlike n m → AreNoted n answers n1 → AreNoted m answers m1 → IsAlike n1 m1
all-alike [] n m n1 m1 h a b = stay n h.commits h.same n1 m1 a (b ∙ h.rest)
all-alike (x ∷ answers) n m n1 m1 h a b =
    let here : IsNoted (with_those n h.commits) x.0 x.1 b.0 = subst (λ k. IsNoted k x.0 x.1 b.0) h.rest b.1 in
    all-alike answers a.0 b.0 n1 m1 (line-alike n h.commits h.same x.0 x.1 a.0 b.0 a.1 here) a.2 b.2

-- The outcomes are those of the serial run.

programs-by : (begun : List (ℕ × Program)) (cs : List (ℕ × Outcome)) → map (λ c. program_named begun c.0) cs ≡ map (program_named begun) (numbers cs)
programs-by begun [] = refl
programs-by begun (c ∷ cs) = ap (λ x. program_named begun c.0 ∷ x) (programs-by begun cs)

pairs-same : (cs ds : List (ℕ × Outcome)) → numbers cs ≡ numbers ds → map (λ c. c.1) cs ≡ map (λ c. c.1) ds → cs ≡ ds
pairs-same [] [] e d = refl
pairs-same [] (y ∷ ds) e d = absurd (cc)
pairs-same (x ∷ cs) [] e d = absurd (cc)
pairs-same (x ∷ cs) (y ∷ ds) e d =
    let t : x.0 ≡ y.0 = cc in
    let o : x.1 ≡ y.1 = cc in
    let ts : numbers cs ≡ numbers ds = cc in
    let os : map (λ (c : ℕ × Outcome). c.1) cs ≡ map (λ (c : ℕ × Outcome). c.1) ds = cc in
    ap (λ k. (k, x.1) ∷ cs) t ∙ ap (λ k. (y.0, k) ∷ cs) o ∙ ap (λ k. y ∷ k) (pairs-same cs ds ts os)

pub alike-same : (n m : Notes) → IsAlike n m → IsSerialRun n → IsSerialRun m → n ≡ m
alike-same n m h a b = sym (h.rest ∙ ap (with_those n) commits)
  where
    -- m, written out
    there : IsSerialRun (with_those n h.commits)
    there = subst IsSerialRun h.rest b

    programs : map (λ c. program_named n.begun c.0) h.commits ≡ printed_programs n
    programs = programs-by n.begun h.commits ∙ ap (map (program_named n.begun)) h.same ∙ sym (programs-by n.begun n.commits)

    commits : h.commits ≡ n.commits
    commits = pairs-same h.commits n.commits h.same (there.told ∙ ap (outcomes n.opening.tables) programs ∙ sym a.told)

-- whoever reads these replies to these lines notes the same
pub notes-same : (answers : List (List ℕ × List ℕ)) (n m : Notes) → AreNoted no_notes answers n → AreNoted no_notes answers m → IsSerialRun n → IsSerialRun m → n ≡ m
notes-same answers n m a b =
    alike-same n m (all-alike answers no_notes no_notes n m (record { commits = []; rest = refl; same = refl }) a b)
