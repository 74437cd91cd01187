use Rattle.std.proofs.Common.{◌≡◌, ◌∙◌, ◌++◌, ◌∷◌, [], ap, sym, Some, refl, rules}
use Rattle.std.specs.Vec.{vec_len}
use Rattle.std.specs.Option.{option_to_list}
use Rattle.csv.specs.Writing.{text_written}
use Rattle.journal_table.specs.Rows.{row_of, record_text}
use Rattle.journal_table.proofs.Texts.{popped, row-ends, wrote-one}
use Rattle.journal_table.proofs.write.put_record.Goals as goal

pub returns-clause-ok : goal.returns-clause-ok
returns-clause-ok c =
    let names = c.args.names.now in
    let entry = c.args.entry.now in
    let from = c.from_writer-writer.ensures in
    let start : text_written (λ v. Some v.items) c.from_writer-writer.result ≡ Some [] = rw (from.wtr, from.empty, c.new.ensures.items) refl in
    let text : c.in_ok-text.text.items ≡ record_text names entry ++ 10 ∷ [] = wrote-one (λ v. Some v.items) c.from_writer-writer.result c.put_entry.new.writer (row_of names entry) c.in_ok-text.text.items start c.in_ok-text.ensures c.in_ok-put_entry.ensures ∙ row-ends names entry in
    let pop = c.pop-newline.ensures in
    let at = c.deref.ensures.value in
    let front : c.deref.result.now ≡ record_text names entry = popped c.in_ok-text.text.items c.deref.result.now (option_to_list c.pop-newline.result) (record_text names entry) 10 (vec_len c.in_ok-text.text) (vec_len c.pop-newline.new.self) (pop.items ∙ ap (λ l. l ++ option_to_list c.pop-newline.result) (sym at)) pop.len c.deref.ensures.len (at ∙ pop.rest) text in
    let items = rw front at c.extend_from_slice.ensures.items in
    search rules
