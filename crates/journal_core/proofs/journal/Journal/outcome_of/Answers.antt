use Rattle.std.proofs.Common.{◌≡◌, ap, get_or, None, rules, subst, sym, ◌∙◌}
use Rattle.std.proofs.lemmas.Option.{slice_get-get_or}
use Rattle.std.specs.Prelude.{option_and_then}
use Rattle.journal_core.specs.Journal.{committed_of, reply_in}
use Rattle.journal_core.specs.Lives.{IsLife}
use Rattle.journal_core.proofs.Standing.{none-uncommitted}
use Rattle.journal_core.proofs.journal.Journal.outcome_of.Goals as goal

pub returns-in-Some-Committed-clause-none : goal.returns-in-Some-Committed-clause-none
returns-in-Some-Committed-clause-none c =
    let journal = c.args.self.now.entries in
    let place = c.in-Some-Committed.place in
    let entry = c.index.result.now in
    let life = subst (IsLife journal c.args.txn) c.in-Some-Committed.field-0-is c.in-Some-Committed.ensures in
    let here : entry ≡ get_or journal place entry = c.index.ensures ∙ ap (λ v. get_or v.entries place entry) c.self.view_is in
    let told = life.outcome ∙ (ap (option_and_then reply_in) (slice_get-get_or journal place entry life.placed) ∙ ap reply_in (sym here)) in
    none-uncommitted c.reply_in.result journal c.args.txn (c.reply_in.ensures ∙ sym told)

pub returns-in_default-clause-none : goal.returns-in_default-clause-none
returns-in_default-clause-none c =
    let value : None ≡ committed_of c.args.self.now.entries c.args.txn = search rules in
    none-uncommitted None c.args.self.now.entries c.args.txn value
