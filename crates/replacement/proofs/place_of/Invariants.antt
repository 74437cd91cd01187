use Rattle.forest_model.specs.Point.{is_sooner as is_sooner_of}
use Rattle.replacement.proofs.Placing.{IsPassed}
use Rattle.replacement.proofs.place_of.Given as goal

abbrev pub invariant-loop-i : goal.invariant-loop-i
invariant-loop-i l = IsPassed is_sooner_of l.pair l.pairs l.i
