use Rattle.std.proofs.Common.{◌≡◌, length, map, take}
use Rattle.conflict_index.specs.Index.{lane_at, lanes_with}
use Rattle.access_sets.specs.Entries.{entries}
use Rattle.indexed_lanes.specs.Placed.{AreUnmoved}
use Rattle.indexed_lanes.proofs.noting.note_writes.Given as goal

abbrev pub invariant-loop-i : goal.invariant-loop-i
invariant-loop-i l = record {
  items : l.index.items ≡ l.fn.index.items;
  marks : length l.index.marks ≡ length l.fn.index.marks;
  unmoved : AreUnmoved l.fn.index l.index;
  lanes : l.index.lanes ≡ lanes_with l.fn.index l.place (record { reads = (lane_at l.fn.index l.place).reads; writes = map (λ e. e.0) (take l.i (entries 0 l.writes)) });
}
