use Rattle.std.proofs.Common.{ap}
use Rattle.access_sets.specs.Log.{Log}
use Rattle.shadow_state.proofs.slot.KeptSlot.run_local.Goals as goal

pub returns-clause-run : goal.returns-clause-run
returns-clause-run g c =
    let e = c.run_local.ensures in
    rw (← c.self.view_is) record {
      position = e.made;
      room = ap (λ (l : Log). l.room) e.log;
      within = e.most;
      stops = e.stops;
      local = e.local;
      same = e.same;
    }
