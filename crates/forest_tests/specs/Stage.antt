-- A forest with benches that it may be given back what they have.
use Rattle.std.specs.Prelude.{◌≡◌, true, List, length, IfSome}
use Rattle.std.specs.List.{AllByRecursion}
use Rattle.txn_code.specs.Nodes.{nodes_of}
use Rattle.journal_core.specs.Journal.{has_begun, program_of}
use Rattle.forest_model.specs.Forest.{Forest}
use Rattle.shadow_forest.specs.View.{View}
use Rattle.shadow_forest.specs.Bench.{Outside, Benched}

-- the forest, and what each bench has
pub record Staged : Type 0 where
  pub forest : View
  pub benches : List Benched

-- the job is of the program with which its transaction began here
pub record IsHere (f : Forest) (x : Outside) : Type 0 where
  pub begun : has_begun f.journal x.number ≡ true
  pub nodes : x.nodes ≡ nodes_of (program_of f.journal x.number)

-- the bench has room for the forest's states, and its job, if it has one, is from here
pub record Fits (f : Forest) (b : Benched) : Type 0 where
  pub items : b.items ≡ length f.tables
  pub job : IfSome b.outside (IsHere f)

-- each bench does
abbrev pub AllFit : Forest → List Benched → Type 0
AllFit f benches = AllByRecursion (Fits f) benches
