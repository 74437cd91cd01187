use Rattle.journal_table.proofs.write.put_committed.Goals as goal

pub returns : goal.returns
returns c = rw (c.as_bytes.ensures.value, c.format.ensures.text, c.deref.ensures.value, c.in_ok-words.ensures) at c.put_row.ensures
