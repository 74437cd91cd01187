-- What turns of work come to, as the pass that took them has seen it.
use Rattle.std.specs.Prelude.{◌≡◌, ◌⊎◌, ◌≤◌, ℕ, ◌+◌, false, true, List, [], ◌∷◌, ◌++◌, length, slice_get, Option, Some, option_map, IfSome}
use mathlib.Core.List.{IsPrefix}
use Rattle.txn_runs.specs.declared.outcome.Outcome.{Outcome}
use Rattle.txn_code.specs.declared.node.Node.{Node}
use Rattle.txn_code.specs.Nodes.{nodes_of}
use Rattle.journal_core.specs.Journal.{has_begun, is_live, is_sealed, program_of}
use Rattle.journal_core.specs.declared.entry.Entry.{Entry}
use Rattle.journal_core.specs.declared.entry.Entry.TheVariants.{Committed}
use Rattle.shadow_forest.specs.Bench.{Outside, Benched}
use Rattle.shadow_forest.specs.Listed.{journal_in, items_in}
use Rattle.shadow_forest.specs.declared.kept.Item.{Item}
use Rattle.shadow_forest.specs.declared.kept.Item.TheVariants.{Happened}
use Rattle.shadow_worker.specs.declared.working.Until.{Until}
use Rattle.shadow_worker.specs.declared.working.Until.TheVariants.{AllEnded, Turns}

-- no more may begin, and nobody is live
pub record HasEnded (journal : List Entry) : Type 0 where
  pub sealed : is_sealed journal ≡ true
  pub nobody : (t : ℕ) → is_live journal t ≡ false

-- the second list is the first, or the first and one commit
abbrev pub IsAtMostCommitted : List Item → List Item → Type 0
IsAtMostCommitted found left = (left ≡ found) ⊎ ((t : ℕ) × (outcome : Outcome) × (left ≡ found ++ Happened (Committed t outcome) ∷ []))

-- of a turn, by the lengths of the lists that it found and left: it left what it found, or that and one commit, which stands there in what is seen
abbrev pub IsTurnOfWork : List Item → ℕ × ℕ → Type 0
IsTurnOfWork seen turn =
    (turn.1 ≡ turn.0) ⊎ ((turn.1 ≡ turn.0 + 1) × ((t : ℕ) × (outcome : Outcome) × (slice_get seen turn.0 ≡ Some (Happened (Committed t outcome)))))

-- turns of work in order: the first finds a list at least so long, each later one a list at least as long as was left before it, and all that they left is seen
abbrev pub AreTurnsFrom : List Item → ℕ → List (ℕ × ℕ) → Type 0
AreTurnsFrom seen n [] = n ≤ length seen
AreTurnsFrom seen n (turn ∷ turns) = (n ≤ turn.0) × IsTurnOfWork seen turn × AreTurnsFrom seen turn.1 turns

-- so many turns of work, from what was seen and the turns before them to what is seen and the turns after them
pub record HasWorked (seen : List Item) (turns : List (ℕ × ℕ)) (many : ℕ) (seen' : List Item) (turns' : List (ℕ × ℕ)) : Type 0 where
  pub seen_longer : IsPrefix seen seen'
  pub more : List (ℕ × ℕ)
  pub added : turns' ≡ turns ++ more
  pub counted : length more ≡ many
  pub each : AreTurnsFrom seen' (length seen) more

-- how many turns are made: just so many, or at least one
abbrev pub AreMade : Until → ℕ → Type 0
AreMade (Turns turns) n = n ≡ turns
AreMade AllEnded n = 1 ≤ n

-- Between two turns.

-- the job is of the program with which its transaction began in this journal
pub record IsBegunIn (journal : List Entry) (x : Outside) : Type 0 where
  pub begun : has_begun journal x.number ≡ true
  pub nodes : x.nodes ≡ nodes_of (program_of journal x.number)

-- the bench has room for the states of a forest that begins with this list, and its job, if it has one, is of that forest
pub record Fits (seen : List Item) (bench : Benched) : Type 0 where
  pub items : items_in seen ≡ Some bench.items
  pub job : IfSome bench.outside (IsBegunIn (journal_in seen))

-- whose it is, and of which program
abbrev pub owner : Outside → ℕ × List Node
owner x = (x.number, x.nodes)

-- at most the state of the job is another
abbrev pub IsSameJob : Option Outside → Option Outside → Type 0
IsSameJob old new = option_map owner new ≡ option_map owner old
