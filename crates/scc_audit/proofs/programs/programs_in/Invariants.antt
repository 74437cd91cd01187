use Rattle.std.proofs.Common.{◌≡◌, ◌++◌}
use Rattle.std.specs.Vec.Iter.{into_iter_items}
use Rattle.batch_input.specs.Input.{programs_of}
use Rattle.scc_audit.proofs.programs.programs_in.Given as goal

-- the programs of what was given so far, with those of what is still to come, are all
abbrev pub invariant-loop-request : goal.invariant-loop-request
invariant-loop-request l = l.programs.items ++ programs_of (into_iter_items l.request-iterator) ≡ programs_of l.fn.requests.items
