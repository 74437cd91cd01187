use Rattle.std.proofs.Common.{◌≤◌, sym, ◌∙◌, subst}
use Rattle.txn_names.specs.Tables.{items_of}
use Rattle.txn_runs.specs.Bounds.{IsProgram, reach}
use Rattle.txn_syntax.proofs.Programs.{is_program, none_of}
use Rattle.txn_syntax.proofs.read.read_program.Goals as goal

pub new-requires : goal.new-requires
new-requires c =
    subst IsProgram (sym c.block_of.ensures)
    (is_program c.args.names.now c.args.bytes.now c.in_ok-body.body c.in_ok-body.ensures.body (sym c.broken.ensures ∙ none_of c.broken.result c.in_default-broken.not-Some)).0

pub returns-clause-within : goal.returns-clause-within
returns-clause-within c =
    subst (λ b. reach b ≤ items_of c.args.names.now) (sym (c.new.ensures ∙ c.block_of.ensures))
    (is_program c.args.names.now c.args.bytes.now c.in_ok-body.body c.in_ok-body.ensures.body (sym c.broken.ensures ∙ none_of c.broken.result c.in_default-broken.not-Some)).1
