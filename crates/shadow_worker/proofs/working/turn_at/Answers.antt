use Rattle.std.proofs.Common.{◌≡◌, List, [], ◌∷◌, ◌++◌, length, ap, sym, subst, ◌∙◌}
use mathlib.Core.List.{IsPrefix}
use Rattle.turn_cell.specs.Passes.{seen_by, turns_of}
use Rattle.shadow_forest.specs.Listed.{listed, journal_in}
use Rattle.shadow_forest.specs.declared.kept.Item.{Item}
use Rattle.shadow_worker.specs.Worked.{HasWorked, HasEnded}
use Rattle.shadow_worker.proofs.Listing.{journal-listed, fits-longer}
use Rattle.shadow_worker.proofs.WorkTurns.{at_most_begins, one_turn}
use Rattle.shadow_worker.proofs.working.turn_at.Goals as goal

pub turn_over-after-requires : goal.turn_over-after-requires
turn_over-after-requires g c = record {
  fits = fits-longer (seen_by c.args.pass) (listed c.take_turn-held.result.value) c.args.bench.now c.take_turn-held.ensures.seen c.requires.fits;
}

pub give_turn-requires-clause-grown : goal.give_turn-requires-clause-grown
give_turn-requires-clause-grown g c =
    subst (λ l. IsPrefix l (listed c.turn_over-after.new.forest)) (sym c.take_turn-held.ensures.value) (at_most_begins _ _ c.turn_over-after.ensures.grown)

pub returns-clause-worked : goal.returns-clause-worked
returns-clause-worked g c =
    let f = c.take_turn-held.result.value in
    let f' = c.turn_over-after.new.forest in
    let took = c.take_turn-held.ensures in
    let gave = c.give_turn.ensures in
    let turns : turns_of c.give_turn.result ≡ turns_of c.args.pass ++ (length (listed f), length (listed f')) ∷ [] = gave.turns ∙ (λ i. took.pass.2 i ++ (length (took.value i), length (listed f')) ∷ []) in
    subst (λ (l : List Item). HasWorked (seen_by c.args.pass) (turns_of c.args.pass) 1 l (turns_of c.give_turn.result)) (sym gave.seen) (one_turn _ _ _ _ _ took.seen c.turn_over-after.ensures.grown turns)

pub returns-clause-ended : goal.returns-clause-ended
returns-clause-ended g c = λ e.
    let h = c.turn_over-after.ensures.ended e in
    (subst HasEnded (sym (ap journal_in c.give_turn.ensures.seen ∙ journal-listed c.turn_over-after.new.forest)) h.0, h.1)
