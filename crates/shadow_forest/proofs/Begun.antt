-- What a forest keeps of the transactions that are live.
use Rattle.std.proofs.Common.{◌≡◌, ℕ, ◌-◌, ◌≤◌, true, List, length, Option, Some, None, refl, ap, sym, subst, ◌∙◌}
use Rattle.std.specs.Prelude.{slice_get}
use Rattle.txn_runs.specs.Run.{Tables}
use Rattle.txn_code.specs.Nodes.{nodes_of}
use Rattle.txn_interp.specs.State.{Carries}
use Rattle.journal_core.specs.declared.entry.Entry.{Entry}
use Rattle.journal_core.specs.Journal.{has_begun, is_live, program_of, deadline_of, IsLegal}
use Rattle.journal_core.proofs.Legal.{begun-live, Counts, counts}
use Rattle.shadow_forest.specs.declared.txn.Txn.{Txn}
use Rattle.shadow_forest.specs.Parts.{nodes_in, nodes_at, deadline_in, deadline_at}
use Rattle.shadow_forest.specs.Ready.{IsCarried}
use Rattle.shadow_forest.specs.Kept.{HasTxn, AreTxns}

-- t is kept with its nodes and its deadline
pub record IsBegun (items : ℕ) (journal : List Entry) (kept : List Txn) (t : ℕ) : Type 0 where
  pub least : 1 ≤ t
  pub most : t ≤ length kept
  pub code : nodes_at kept t ≡ nodes_of (program_of journal t)
  pub carries : Carries (nodes_at kept t) items
  pub deadline : deadline_at kept t ≡ deadline_of journal t

begun_of : (items : ℕ) (journal : List Entry) (kept : List Txn) (t : ℕ) → 1 ≤ t → t ≤ length kept → is_live journal t ≡ true → (o : Option Txn) → slice_get kept (t - 1) ≡ o → HasTxn items journal t o
    → IsBegun items journal kept t
begun_of items journal kept t least most live None e h = absurd h
begun_of items journal kept t least most live (Some x) e h =
    let code : nodes_at kept t ≡ nodes_of (program_of journal t) = ap nodes_in e ∙ h.code live in
    record {
      least = least;
      most = most;
      code = code;
      carries = record { body = program_of journal t; program = h.program; fits = h.fits; code = code };
      deadline = ap deadline_in e ∙ h.deadline;
    }

pub live_is_begun : (opening : Tables) (items : ℕ) (journal : List Entry) (kept : List Txn) (t : ℕ) → IsLegal opening journal → AreTxns items journal kept → is_live journal t ≡ true → IsBegun items journal kept t
live_is_begun opening items journal kept t legal txns live =
    let c : Counts journal = counts opening journal legal in
    let begun : has_begun journal t ≡ true = begun-live journal t live in
    begun_of items journal kept t (c.positive t begun) (subst (λ n. t ≤ n) (sym txns.many) (c.bounded t begun)) live (slice_get kept (t - 1)) refl (txns.each t begun)

pub is_carried : (items : ℕ) (journal : List Entry) (kept : List Txn) (t : ℕ) → IsBegun items journal kept t → IsCarried items kept t
is_carried items journal kept t h = record { least = h.least; most = h.most; carries = h.carries }
