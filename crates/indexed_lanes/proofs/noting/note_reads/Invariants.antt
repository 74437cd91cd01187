use Rattle.std.proofs.Common.{◌≡◌, length, [], take}
use Rattle.conflict_index.specs.Index.{lanes_with}
use Rattle.index_laws.specs.Noted.{noted}
use Rattle.indexed_lanes.specs.Placed.{AreUnmoved}
use Rattle.indexed_lanes.proofs.noting.note_reads.Given as goal

abbrev pub invariant-loop-i : goal.invariant-loop-i
invariant-loop-i l = record {
  items : l.index.items ≡ l.fn.index.items;
  marks : length l.index.marks ≡ length l.fn.index.marks;
  unmoved : AreUnmoved l.fn.index l.index;
  lanes : l.index.lanes ≡ lanes_with l.fn.index l.place (record { reads = noted (take l.i l.log.reads); writes = [] });
}
