-- A forest in which all programs of a batch began, and no more may begin; and one in which all are committed.
use Rattle.std.specs.Prelude.{◌≡◌, ◌≤◌, ℕ, ◌+◌, List, [], ◌∷◌, ◌++◌, length}
use Rattle.txn_runs.specs.Bounds.{reach}
use Rattle.txn_runs.specs.Run.{Tables}
use Rattle.journal_core.specs.Begins.{begins}
use Rattle.journal_core.specs.Journal.{commits}
use Rattle.journal_core.specs.declared.entry.Entry.{Entry}
use Rattle.journal_core.specs.declared.entry.Entry.TheVariants.{Began}
use Rattle.forest_model.specs.Forest.{Forest}
use Rattle.batch_input.specs.declared.request.Request.{Request}
use Rattle.report_text.specs.Order.{NamesEachOnce}
use Rattle.report_text.specs.Report.{numbered}
pub use Rattle.batch_input.specs.Input.{programs_of}

-- the program reaches no item beyond so many, and its deadline lies within its limit
pub record IsWithin (items : ℕ) (request : Request) : Type 0 where
  pub reach : reach request.program ≤ items
  pub deadline : request.deadline ≤ 1000000000000

-- the entries with which these requests begin, in order, with numbers from this one up
abbrev pub begun_from : ℕ → List Request → List Entry
begun_from number [] = []
begun_from number (request ∷ requests) = Began number request.deadline request.program ∷ begun_from (number + 1) requests

-- the forest opened over these tables, and after the begins of these requests, in order, come these entries
pub record HasBegun (tables : Tables) (requests : List Request) (more : List Entry) (f : Forest) : Type 0 where
  pub opening : f.opening ≡ tables
  pub journal : f.journal ≡ begun_from 1 requests ++ more

-- the forest opened over these tables, the programs of these requests began, and each is committed once
pub record AreCommitted (tables : Tables) (requests : List Request) (f : Forest) : Type 0 where
  pub opening : f.opening ≡ tables
  pub begins : begins f.journal ≡ numbered 1 (programs_of requests)
  pub once : NamesEachOnce (length requests) (commits f.journal)
