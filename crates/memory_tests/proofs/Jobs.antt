-- What is handed out, and what the forest keeps behind it.
use Rattle.std.proofs.Common.{◌≡◌, refl, Option, Some, None, ap, sym, subst, ◌∙◌}
use Rattle.std.specs.Prelude.{IfSome, option_map}
use Rattle.txn_code.specs.Nodes.{nodes_of}
use Rattle.block_rule.specs.declared.role.Row.{Row}
use Rattle.journal_core.specs.Journal.{program_of}
use Rattle.forest_model.specs.Forest.{Forest}
use Rattle.forest_model.specs.Pick.{pick}
use Rattle.forest_model.specs.Jobs.{taken, take_pick}
use Rattle.shadow_forest.specs.declared.bench.Job.{Job}
use Rattle.shadow_forest.specs.Bench.{Outside, told, IsOfRun}

-- a bench that tells a job has one
pub has-job : (o : Option Outside) (r : Option Job) (j : Job) → r ≡ option_map told o → r ≡ Some j → (x : Outside) × (o ≡ Some x)
has-job None r j e is = cc
has-job (Some x) r j e is = (x, refl)

-- the journal and the tables stay where something is handed out
taken-same : (f : Forest) (o : Option Row) → ((taken f o).journal ≡ f.journal) × ((taken f o).tables ≡ f.tables)
taken-same f None = (refl, refl)
taken-same f (Some row) = (refl, refl)

pub pick-same : (f g : Forest) → g ≡ take_pick f → (g.journal ≡ f.journal) × (g.tables ≡ f.tables)
pick-same f g e = (ap (λ (h : Forest). h.journal) e ∙ (taken-same f (pick f)).0, ap (λ (h : Forest). h.tables) e ∙ (taken-same f (pick f)).1)

-- so its program is the one of its transaction
pub of-program : (f g : Forest) (o : Option Outside) (x : Outside) → o ≡ Some x → IfSome o (IsOfRun f) → g.journal ≡ f.journal → x.nodes ≡ nodes_of (program_of g.journal x.number)
of-program f g o x has runs same =
    let run : IsOfRun f x = subst (λ (y : Option Outside). IfSome y (IsOfRun f)) has runs in
    run.nodes ∙ ap (λ j. nodes_of (program_of j x.number)) (sym same)
