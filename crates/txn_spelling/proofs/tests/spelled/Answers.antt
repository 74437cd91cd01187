use Rattle.txn_spelling.proofs.Known.{read_known}
use Rattle.txn_spelling.proofs.tests.spelled.Goals as goal

pub write_program-requires : goal.write_program-requires
write_program-requires c = read_known c.args.names.now c.args.text.now c.in-Ok.program c.in-Ok.ensures.reads
