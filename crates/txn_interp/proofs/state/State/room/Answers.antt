use Rattle.std.proofs.Common.{refl, sym, ap, ◌∙◌}
use Rattle.std.specs.Prelude.{replicate, None}
use Rattle.txn_interp.proofs.Found.{empty_runs}
use Rattle.txn_interp.proofs.state.State.room.Goals as goal

pub returns-clause-empty : goal.returns-clause-empty
returns-clause-empty c = λ tables items.
    empty_runs _ tables _ refl (record {
      room = items ∙ sym (ap (λ l. l.room) c.in_ok-reads.ensures);
      position = refl;
      node = refl;
      counters = c.new.ensures;
      registers = refl;
      reads = ap (λ l. l.reads) c.in_ok-reads.ensures;
      writes = c.in_ok-writes.ensures ∙ ap (λ n. replicate n None) (sym items);
      emits = c.new-2.ensures;
      end = refl;
    }) refl
