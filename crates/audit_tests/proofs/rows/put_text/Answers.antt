use Rattle.audit_tests.proofs.rows.put_text.Goals as goal

pub put_begin-requires : goal.put_begin-requires
put_begin-requires c = c.read_programs.ensures.tables c.args.names.now c.args.bytes.now c.in-Ok.program c.in-Ok.ensures.reads
