-- What stays of a forest that goes on: the tables that it opened with, and the journal that it had.
use Rattle.std.proofs.Common.{◌≡◌, ℕ, false, if◌then◌else◌, List, [], ◌∷◌, ◌++◌, sym, ap, ◌∙◌, subst, append-nil}
use mathlib.Core.List.{IsPrefix}
use Rattle.txn_runs.specs.Run.{Tables}
use Rattle.txn_names.specs.Tables.{Named}
use Rattle.journal_core.specs.declared.entry.Entry.TheVariants.{Sealed}
use Rattle.journal_core.specs.Journal.{is_sealed}
use Rattle.forest_model.specs.Forest.{Forest}
use Rattle.forest_model.specs.Events.{seal, with_entry}
use Rattle.forest_model.specs.Grown.{IsLonger}
use Rattle.shadow_forest.specs.View.{View}
use Rattle.shadow_forest.specs.Listed.{listed, journal_in}
use Rattle.shadow_forest.specs.declared.kept.Item.{Item}
use Rattle.shadow_forest.specs.declared.kept.Item.TheVariants.{Opening, Happened}
use Rattle.shadow_worker.proofs.Listing.{journal-listed, journal-longer}
use Rattle.batch_input.specs.declared.request.Request.{Request}
use Rattle.scc_batch.specs.Opened.{HasBegun, begun_from}
use Rattle.scc_batch.specs.Told.{IsReport}
use Rattle.scc_batch.proofs.Begun.{begun-open}

-- the tables that such a list opens with, or else these
abbrev opening_in : Tables → List Item → Tables
opening_in tables [] = tables
opening_in tables (Opening table k lanes ∷ list) = table
opening_in tables (Happened entry ∷ list) = tables

pub listed-longer : (v w : View) → IsPrefix (listed v) (listed w) → IsLonger v.numbers w.numbers
listed-longer v w front = record {
  more = journal_in front.0;
  grown = record {
    opening = sym (ap (opening_in v.numbers.opening) front.1);
    journal = sym (journal-listed w) ∙ journal-longer (listed v) (listed w) front ∙ ap (λ j. j ++ journal_in front.0) (journal-listed v);
  };
}

pub begun-sealed : (f : Forest) (tables : Tables) (requests : List Request) → HasBegun tables requests [] f → HasBegun tables requests (Sealed ∷ []) (seal f)
begun-sealed f tables requests begun =
    let plain = begun.journal ∙ append-nil (begun_from 1 requests) in
    let unsealed : is_sealed f.journal ≡ false = ap is_sealed plain ∙ begun-open 1 requests in
    let is : seal f ≡ with_entry Sealed f = ap (λ b. if b then f else with_entry Sealed f) unsealed in
    subst (HasBegun tables requests (Sealed ∷ [])) (sym is) (record { opening = begun.opening; journal = ap (λ j. j ++ Sealed ∷ []) plain })

pub same-report : (names names' : List Named) (tables tables' : Tables) (requests requests' : List Request) (text text' : List ℕ)
    → names ≡ names' → tables ≡ tables' → requests ≡ requests' → text ≡ text' → IsReport names tables requests text → IsReport names' tables' requests' text'
same-report names names' tables tables' requests requests' text text' n t r x report =
    subst (λ names. IsReport names tables' requests' text') n
    (subst (λ tables. IsReport names tables requests' text') t
    (subst (λ requests. IsReport names tables requests text') r
    (subst (IsReport names tables requests) x report)))
