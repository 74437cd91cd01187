use Rattle.std.proofs.Common.{◌≤◌, subst, length}
use Rattle.txn_code.proofs.Laying.{first_some, some_pieces}
use Rattle.txn_code.proofs.linker.first_of.Goals as goal

pub returns-in-len1-up : goal.returns-in-len1-up
returns-in-len1-up c = first_some _ _ _ (some_pieces _ (subst (λ xs. 1 ≤ length xs) c.stmts.ensures c.in-len1-up.len_at_least))
