use Rattle.std.proofs.Common.{◌∙◌, sym, ap, subst}
use Rattle.access_sets.specs.Log.{first_in, IsLeastHit}
use Rattle.access_sets.proofs.Hits.{first_is_least}
use Rattle.access_sets.proofs.read_log.ReadLog.first_in.Goals as goal

pub returns-clause-least : goal.returns-clause-least
returns-clause-least c =
    let same = ap (λ l. l.reads) c.self.view_is in
    let found = sym (c.first_written.ensures ∙ ap (λ xs. first_in xs c.args.writes.now) (c.deref.ensures.value ∙ same)) in
    subst (IsLeastHit c.args.self.now.reads c.args.writes.now) found (subst (λ xs. IsLeastHit xs c.args.writes.now (first_in xs c.args.writes.now)) same (first_is_least c.self.inside.reads.items c.args.writes.now c.self.invariant.in_order))
