use Rattle.std.proofs.Common.{◌∙◌, ◌∷◌, [], Some, map, take, sym, ap, subst}
use Rattle.std.proofs.lemmas.List.{map-append}
use Rattle.journal_table.specs.Rows.{row_of}
use Rattle.journal_table.specs.Writes.{PutsRows}
use Rattle.journal_table.proofs.Texts.{take-more, puts-more}
use Rattle.journal_table.proofs.write.put_entries.Goals as goal

pub loop-place-preserved : goal.loop-place-preserved
loop-place-preserved c =
    let f = row_of c.args.names.now in
    let entries = c.args.journal.now.entries in
    let n = c.loop-place.place in
    let next = ap (map f) (take-more entries n c.entry.result.now c.entry.ensures) ∙ map-append f (take n entries) (c.entry.result.now ∷ []) in
    subst (PutsRows (λ v. Some v.items) c.args.writer.now c.put_entry.new.writer) (sym next) (puts-more (λ v. Some v.items) c.args.writer.now c.loop-place.writer c.put_entry.new.writer (map f (take n entries)) (f c.entry.result.now ∷ []) c.loop-place.invariant c.in_ok-put_entry.ensures)
