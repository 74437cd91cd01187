use Rattle.std.proofs.Common.{◌∙◌, sym, subst}
use Rattle.csv.specs.Records.{fields_of}
use Rattle.journal_table.specs.Judged.{IsRead}
use Rattle.journal_table.proofs.Forms.{four}
use Rattle.journal_table.proofs.read.read_row.Goals as goal

pub returns : goal.returns
returns c =
    let fields = fields_of c.args.row.now in
    let four = four fields (sym c.len.ensures ∙ c.if-len-ne4.false) in
    let read = rw (c.field.ensures, c.field-2.ensures, c.field-3.ensures, c.field-4.ensures) at c.read_fields.ensures in
    subst (λ x. IsRead x c.read_fields.result) (sym four) read
