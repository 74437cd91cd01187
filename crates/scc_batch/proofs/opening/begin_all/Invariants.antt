use Rattle.std.proofs.Common.{◌≡◌, ◌++◌, [], length}
use Rattle.std.specs.Vec.Iter.{into_iter_items}
use Rattle.scc_batch.specs.Opened.{HasBegun}
use Rattle.scc_batch.proofs.opening.begin_all.Given as goal

-- what was given so far has begun, and with what is still to come it is all
abbrev pub invariant-loop-request : goal.invariant-loop-request
invariant-loop-request l = record {
  begun : HasBegun l.fn.forest.numbers.opening l.yielded [] l.forest.numbers;
  items : length l.forest.numbers.tables ≡ length l.fn.forest.numbers.opening;
  shared : l.yielded ++ into_iter_items l.request-iterator ≡ l.fn.requests.items;
}
