-- Wrong rules, each with a small case in which it breaks what the rules keep.
use Rattle.std.proofs.Common.{◌≡◌, ◌≢◌, pos, ◌∷◌, replicate, refl, ap, sym, ◌∙◌}
use denote.Hole.Carrier
use Rattle.txn_runs.specs.Run.{Running, after}
use Rattle.txn_runs.specs.declared.program.Stmt as statement
use Rattle.forest_model.specs.Programs.{reader}
use Rattle.forest_model.specs.Worked.{items}
use Rattle.forest_model.specs.Wrong.{ForkBehind, PromoteLeast, CopyFromMade, DropCommitted, GiveUpEarliest}

-- the first register after the read

first_before : (after reader (items 0 0) 1).registers ≡ pos 0 ∷ replicate 15 (pos 0)
unfolding after statement.out-Stmt Carrier.out reader
first_before = refl

first_after : (after reader (items 5 0) 1).registers ≡ pos 5 ∷ replicate 15 (pos 0)
unfolding after statement.out-Stmt Carrier.out reader
first_after = refl

differs : after reader (items 0 0) 1 ≢ after reader (items 5 0) 1
differs same =
    let both : pos 0 ∷ replicate 15 (pos 0) ≡ pos 5 ∷ replicate 15 (pos 0) = sym first_before ∙ ap (λ (s : Running). s.registers) same ∙ first_after in
    cc

at_start : after reader (items 0 0) 0 ≡ after reader (items 5 0) 0
unfolding after
at_start = refl

pub fork_behind : ForkBehind
fork_behind = record { wrong = refl; breaks = differs; right = refl; keeps = at_start }

pub promote_least : PromoteLeast
promote_least = record { wrong = refl; right = refl; keeps = refl }

pub copy_from_made : CopyFromMade
copy_from_made = record { wrong = refl; right = refl }

pub drop_committed : DropCommitted
drop_committed = record { wrong = refl; right = refl }

pub give_up_earliest : GiveUpEarliest
give_up_earliest = record { wrong = refl; breaks = λ e. cc; right = refl; keeps = refl }
