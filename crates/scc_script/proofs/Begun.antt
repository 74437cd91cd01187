-- No event but a begin changes which programs began, and their tables are those of the names.
use Rattle.std.proofs.Common.{◌≡◌, ℕ, Bool, true, false, List, [], ◌∷◌, ◌++◌, Option, Some, None, if◌then◌else◌, Result, Ok, Err, refl, ap, ◌∙◌, subst, sym, append-nil}
use Rattle.std.specs.List.{AllByRecursion}
use Rattle.std.specs.Result.{IfOk}
use Rattle.block_rule.specs.declared.role.Role.{Role}
use Rattle.block_rule.specs.declared.role.Row.{Row}
use Rattle.txn_runs.specs.declared.program.Program.{Program}
use Rattle.txn_names.specs.Tables.{Named}
use Rattle.txn_spelling.specs.Strangers.{strangers}
use Rattle.journal_core.specs.Journal.{is_sealed}
use Rattle.journal_core.specs.Begins.{begins}
use Rattle.journal_core.specs.declared.entry.Entry.{Entry}
use Rattle.journal_core.specs.declared.entry.Entry.TheVariants.{Began, Sealed, Committed, Withdrawn}
use Rattle.journal_core.proofs.Begins.{begins-longer}
use Rattle.journal_table.specs.Rows.{IsKnown}
use Rattle.forest_model.specs.Forest.{Forest}
use Rattle.forest_model.specs.Grown.{IsGrown, HasBegun, commit_entry, seal_entries}
use Rattle.forest_model.specs.Events.{Refusal, begin, seal, step, commit, withdraw}
use Rattle.forest_model.specs.Drain.{after_step, run_within, after_commit, drain_by}
use Rattle.forest_model.proofs.LongerLaws.{step-same, run-same, begin-grown, commit-grown, withdraw-grown, seal-grown}
use Rattle.scc_script.specs.Kept.{AreKnown}

-- the same programs began
abbrev pub HasSame : Forest → Forest → Type 0
HasSame f g = begins g.journal ≡ begins f.journal

grown-begun : (f g : Forest) (more : List Entry) → IsGrown f g more → begins g.journal ≡ begins f.journal ++ begins more
grown-begun f g more h = ap begins h.journal ∙ begins-longer f.journal more

grown-same : (f g : Forest) (more : List Entry) → IsGrown f g more → begins more ≡ [] → HasSame f g
grown-same f g more h none = grown-begun f g more h ∙ ap (λ x. begins f.journal ++ x) none ∙ append-nil (begins f.journal)

pub step-begun : (f : Forest) (t : ℕ) (role : Role) → HasSame f (after_step f (step f t role))
step-begun f t role = ap begins (step-same f t role).1

pub run-begun : (n : ℕ) (f : Forest) → HasSame f (run_within n f).1
run-begun n f = ap begins (run-same n f).1

seal-adds : (f : Forest) → begins (seal_entries f) ≡ []
seal-adds f = go (is_sealed f.journal)
  where
    go : (sealed : Bool) → begins (if sealed then [] else Sealed ∷ []) ≡ []
    go true = refl
    go false = refl

pub seal-begun : (f : Forest) → HasSame f (seal f)
seal-begun f = grown-same f (seal f) (seal_entries f) (seal-grown f) (seal-adds f)

ended-begun : (f : Forest) (e : Entry) (result : Result Forest Refusal) → begins (e ∷ []) ≡ [] → IfOk result (λ g. IsGrown f g (e ∷ [])) → HasSame f (after_commit f result)
ended-begun f e (Ok g) none h = grown-same f g (e ∷ []) h none
ended-begun f e (Err refusal) none h = refl

pub commit-begun : (f : Forest) (t : ℕ) → HasSame f (after_commit f (commit f t))
commit-begun f t = ended-begun f (commit_entry f t) (commit f t) refl (commit-grown f t)

pub withdraw-begun : (f : Forest) (t : ℕ) → HasSame f (after_commit f (withdraw f t))
withdraw-begun f t = ended-begun f (Withdrawn t) (withdraw f t) refl (withdraw-grown f t)

pub drain-step-begun : (f : Forest) (o : Option ℕ) (row : Option Row) → HasSame f (drain_by f o row).1
drain-step-begun f (Some t) row = commit-begun f t
drain-step-begun f None (Some row) = step-begun f row.txn row.role
drain-step-begun f None None = refl

-- Known tables.

known-append : (names : List Named) (a b : List (ℕ × Program)) → AreKnown names a → AreKnown names b → AreKnown names (a ++ b)
known-append names [] b ha hb = hb
known-append names (x ∷ a) b ha hb = (ha.0, known-append names a b ha.1 hb)

pub same-known : (names : List Named) (f g : Forest) → HasSame f g → AreKnown names (begins f.journal) → AreKnown names (begins g.journal)
same-known names f g same known = subst (AreKnown names) (sym same) known

begun-known : (names : List Named) (f : Forest) (p : Program) (deadline : ℕ) (result : Result (ℕ × Forest) Refusal) → strangers names p ≡ 0
    → IfOk result (λ a. HasBegun f a.1 a.0 deadline p) → AreKnown names (begins f.journal) → AreKnown names (begins (after_step f result).journal)
begun-known names f p deadline (Ok a) none h known =
    subst (AreKnown names) (sym (grown-begun f a.1 (Began a.0 deadline p ∷ []) h.grown)) (known-append names (begins f.journal) ((a.0, p) ∷ []) known (none, tt))
begun-known names f p deadline (Err refusal) none h known = known

-- a program with known tables may begin
pub begin-known : (names : List Named) (f : Forest) (p : Program) (deadline : ℕ) → strangers names p ≡ 0 → AreKnown names (begins f.journal) → AreKnown names (begins (after_step f (begin f p deadline)).journal)
begin-known names f p deadline none known = begun-known names f p deadline (begin f p deadline) none (begin-grown f p deadline) known

-- so each entry can be written
pub entries-known : (names : List Named) (journal : List Entry) → AreKnown names (begins journal) → AllByRecursion (IsKnown names) journal
entries-known names [] known = tt
entries-known names (Began txn deadline program ∷ journal) known = (known.0, entries-known names journal known.1)
entries-known names (Sealed ∷ journal) known = (tt, entries-known names journal known)
entries-known names (Committed txn outcome ∷ journal) known = (tt, entries-known names journal known)
entries-known names (Withdrawn txn ∷ journal) known = (tt, entries-known names journal known)
