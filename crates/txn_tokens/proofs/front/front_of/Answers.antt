use Rattle.txn_tokens.proofs.Runs.{digits_of_run}
use Rattle.std.proofs.Common.{subst, sym, take, IsTrue}
use Rattle.std.specs.Char.{is_ascii_digit}
use Rattle.std.specs.List.{list_all}
use Rattle.txn_tokens.proofs.front.front_of.Goals as goal

pub number_of-requires : goal.number_of-requires
number_of-requires c =
    let bytes = c.args.bytes.now in
    subst (λ n. IsTrue (list_all is_ascii_digit (take n bytes))) (sym c.run_len-len-then-is_ascii_digit.ensures.value) (digits_of_run bytes)
