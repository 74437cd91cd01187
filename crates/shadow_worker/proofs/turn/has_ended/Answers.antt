use Rattle.std.proofs.Common.{◌≡◌, ◌≤◌, true, ap, sym, ◌∙◌, subst}
use Rattle.journal_core.specs.Journal.{is_sealed}
use Rattle.shadow_worker.proofs.Ending.{ended-iff}
use Rattle.shadow_worker.proofs.turn.has_ended.Goals as goal

pub returns-then-sealed : goal.returns-then-sealed
returns-then-sealed c =
    let sealed : is_sealed c.args.forest.now.numbers.journal ≡ true = ap is_sealed (sym c.journal.ensures.entries) ∙ (sym c.sealed.ensures ∙ c.if-sealed.true) in
    let lane : 1 ≤ c.args.forest.now.numbers.lanes = subst (λ n. 1 ≤ n) c.lanes.ensures.lanes c.lanes.ensures.some in
    ended-iff c.args.forest.now.numbers c.journal.ensures.sound lane sealed c.started_at.result c.started_at.ensures c.is_none.result c.is_none.ensures
