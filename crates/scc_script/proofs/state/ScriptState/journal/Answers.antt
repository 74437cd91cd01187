use Rattle.std.proofs.Common.{subst}
use Rattle.journal_core.specs.Begins.{begins}
use Rattle.scc_script.specs.Kept.{forest_in, AreKnown}
use Rattle.scc_script.proofs.Begun.{entries-known}
use Rattle.scc_script.proofs.state.ScriptState.journal.Goals as goal

pub write_journal-requires : goal.write_journal-requires
write_journal-requires c =
    let s = c.self.inside in
    let known : AreKnown s.setup.names (begins c.in-Some.forest.numbers.journal) =
    subst (λ o. AreKnown s.setup.names (begins (forest_in s.k s.lanes s.setup.tables o).journal)) c.in-Some.is c.self.invariant.known in
    rw (c.names-names.ensures, c.journal.ensures.entries) (entries-known s.setup.names c.in-Some.forest.numbers.journal known)
