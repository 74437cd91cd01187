-- Benches that fit a forest.
use Rattle.std.proofs.Common.{◌≡◌, ℕ, true, length, Option, Some, None, Result, Ok, Err, IfOk, refl, ap, sym, ◌∙◌, true≢false}
use Rattle.std.specs.Prelude.{IfSome, option_map, is_some}
use Rattle.txn_code.specs.Nodes.{nodes_of}
use Rattle.journal_core.specs.Journal.{program_of}
use Rattle.forest_model.specs.Forest.{Forest}
use Rattle.shadow_forest.specs.View.{View}
use Rattle.shadow_forest.specs.declared.bench.Job.{Job}
use Rattle.shadow_forest.specs.Bench.{Outside, Benched, told}
use Rattle.shadow_forest.specs.Listed.{listed}
use Rattle.shadow_worker.specs.Turn.{IsOfProgram}
use Rattle.shadow_worker.specs.Worked.{Fits}
use Rattle.shadow_worker.proofs.Fitting.{fits-job}
use Rattle.shadow_worker.proofs.Listing.{fits-empty}

-- a bench that was opened for the forest's tables
pub fits-opened : {E : Type 0} (v : View) (items : ℕ) (r : Result Benched E) → items ≡ length v.numbers.tables → length v.numbers.tables ≡ length v.numbers.opening
    → IfOk r (λ b. b ≡ record { items = items; outside = None }) → IfOk r (λ b. Fits (listed v) b × (b.outside ≡ None))
fits-opened v items (Ok b) room size is =
    let empty : b.outside ≡ None = ap (λ (b : Benched). b.outside) is in
    let here : length v.numbers.opening ≡ b.items = sym size ∙ (sym room ∙ sym (ap (λ (b : Benched). b.items) is)) in
    (fits-empty (listed v) b empty (ap (λ n. Some n) here), empty)
fits-opened v items (Err e) room size is = tt

job-told : (f : Forest) (o : Option Outside) (r : Option Job) → IfSome o (IsOfProgram f) → r ≡ option_map told o → is_some r ≡ true
    → (x : Outside) × (o ≡ Some x) × (x.nodes ≡ nodes_of (program_of f.journal x.number))
job-told f None r h e some = absurd (true≢false (sym some ∙ ap is_some e))
job-told f (Some x) r h e some = (x, refl, h)

-- the job that it tells is of its transaction's program
pub fits-told : (v : View) (b : Benched) (r : Option Job) → Fits (listed v) b → r ≡ option_map told b.outside → is_some r ≡ true
    → (x : Outside) × (b.outside ≡ Some x) × (x.nodes ≡ nodes_of (program_of v.numbers.journal x.number))
fits-told v b r h e some = job-told v.numbers b.outside r (fits-job v b h) e some
