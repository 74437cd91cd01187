use Rattle.std.proofs.Common.{◌≡◌, insert, arith}
use Rattle.forest_model.specs.Choose.{put_in_order}
use Rattle.forest_model.specs.Point.{is_sooner as is_sooner_of}
use Rattle.replacement.proofs.Placing.{insert_full, insert_room}
use Rattle.replacement.proofs.keep_first.Goals as goal
use Rattle.replacement.proofs.keep_first.Goals.{then-len-room, else-len-room}

pub returns-after-len-room-clause-items : goal.returns-after-len-room-clause-items
returns-after-len-room-clause-items c =
    let place : insert c.args.first.now.items c.place_of-place.result c.args.pair ≡ put_in_order is_sooner_of c.args.pair c.args.first.now.items =
    rw c.as_slice.ensures.value at c.place_of-place.ensures.place
    in
    rw (c.insert.ensures.items, ← place)
    (elim c.if-len-room.branch [
      | then-len-room w ↦
          rw (w.first-is, w.pop.ensures.rest)
          (insert_full c.args.room c.place_of-place.result c.args.pair c.args.first.now.items (omega arith) c.if-place-room.true)
      | else-len-room w ↦
          rw w.first-is
          (insert_room c.args.room c.place_of-place.result c.args.pair c.args.first.now.items (omega arith))
    ])
