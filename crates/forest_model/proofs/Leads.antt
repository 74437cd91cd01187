-- Worked histories in pieces: what some lines are answered, and the world that they lead to.
use Rattle.std.proofs.Common.{◌≡◌, ℕ, suc, false, List, [], ◌∷◌, ◌++◌, Some, None, refl, ◌∙◌}
use Rattle.txn_runs.specs.Run.{Tables}
use Rattle.journal_core.specs.declared.entry.Entry.{Entry}
use Rattle.block_rule.specs.declared.role.Row.{Row}
use Rattle.forest_model.specs.Forest.{Shadow, Started, Forest}
use Rattle.forest_model.specs.Pick.{pick}
use Rattle.forest_model.specs.Work.{work}
use Rattle.forest_model.specs.Drain.{counted, step_row, run_within, run_idle}
use Rattle.forest_model.specs.World.{World}
use Rattle.forest_model.specs.Told.{Line, Run, Reply, Makes, IsTold, all_told, after_lines, after_line}

-- these lines have these replies, and lead from the one world to the other
pub record Leads (w : World) (lines : List Line) (replies : List Reply) (v : World) : Type 0 where
  pub told : all_told lines w ≡ replies
  pub ends : after_lines lines w ≡ v

after_more : (ls ms : List Line) (w : World) → after_lines (ls ++ ms) w ≡ after_lines ms (after_lines ls w)
after_more [] ms w = refl
after_more (l ∷ ls) ms w = after_more ls ms (after_line w l)

told_more : (ls ms : List Line) (w : World) → all_told (ls ++ ms) w ≡ all_told ls w ++ all_told ms (after_lines ls w)
told_more [] ms w = refl
told_more (l ∷ ls) ms w = rw (told_more ls ms (after_line w l)) refl

-- one piece after another
pub join : {w v x : World} {ls ms : List Line} {rs ss : List Reply} → Leads w ls rs v → Leads v ms ss x → Leads w (ls ++ ms) (rs ++ ss) x
join {w} {v} {x} {ls} {ms} one other = record {
  told = told_more ls ms w ∙ rw (one.told, one.ends, other.told) refl;
  ends = after_more ls ms w ∙ rw (one.ends, other.ends) refl;
}

-- a whole history
pub closes : {w : World} {lines : List Line} {replies : List Reply} {journal : List Entry} {tables : Tables} (v : World) → Leads w lines replies v → v.forest.journal ≡ journal → v.forest.tables ≡ tables
    → IsTold w lines replies journal tables
closes v leads journal tables = record { told_all = leads.told; last_journal = rw leads.ends journal; last_tables = rw leads.ends tables }

-- a world with these started transactions, and no job out
abbrev pub world : Tables → ℕ → ℕ → List Entry → Tables → List Started → World
world opening k lanes journal tables started = record {
  forest = record { k = k; lanes = lanes; opening = opening; journal = journal; tables = tables; started = started };
  jobs = [];
}

-- a started transaction, none of whose shadows is out
abbrev pub stood : ℕ → ℕ → List Shadow → Started
stood number position shadows = record { number = number; position = position; out = false; shadows = shadows }

-- a shadow that waits, and is not out
abbrev pub shadow : ℕ → ℕ → Shadow
shadow guard position = record { guard = guard; position = position; out = false }

-- a run, by single steps of the pick

pub run_by : (f : Forest) (n : ℕ) (answer : ℕ × Forest) → work f ≡ n → run_within n f ≡ answer → run_idle f ≡ answer
run_by f n answer few h = rw few h

pub run_more : (f g : Forest) (n : ℕ) (row : Row) (answer : ℕ × Forest) → pick f ≡ Some row → step_row f row ≡ g → run_within n g ≡ answer → run_within (suc n) f ≡ counted answer
run_more f g n row answer picked moved h = rw (picked, moved, h) refl

pub run_over : (f : Forest) (n : ℕ) → pick f ≡ None → run_within (suc n) f ≡ (0, f)
run_over f n picked = rw picked refl

pub runs : (w : World) (n : ℕ) (g : Forest) → run_idle w.forest ≡ (n, g) → Leads w (Run ∷ []) (Makes n ∷ []) (record w { forest = g })
runs w n g e = record { told = rw e refl; ends = rw e refl }
