use Rattle.std.proofs.Common.{◌≡◌, ◌∙◌, ap, subst, List}
use Rattle.txn_names.specs.Tables.{Named}
use Rattle.txn_spelling.specs.Strangers.{strangers}
use Rattle.txn_spelling.proofs.Known.{read_known}
use Rattle.scc_script.specs.Text.{Script}
use Rattle.scc_script.proofs.state.ScriptState.begin.Goals as goal

pub begin_program-requires-clause-known : goal.begin_program-requires-clause-known
begin_program-requires-clause-known c =
    let names : c.names.result.now ≡ c.args.self.now.names = c.names.ensures ∙ ap (λ (s : Script). s.names) c.self.view_is in
    subst (λ (n : List Named). strangers n c.in-Ok.program ≡ 0) names (read_known c.names.result.now c.args.bytes.now c.in-Ok.program c.in-Ok.ensures.reads)
