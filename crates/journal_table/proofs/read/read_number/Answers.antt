use Rattle.std.proofs.Common.{◌≡◌, ◌∙◌, sym, ap, arith, Some}
use Rattle.std.specs.Prelude.{decimal}
use Rattle.journal_table.proofs.Numbers.{read-decimal}
use Rattle.journal_table.proofs.read.read_number.Goals as goal

pub returns-in_default : goal.returns-in_default
returns-in_default c = λ n within spelled.
    let is : c.read_natural.result ≡ Some n = read-decimal c.args.field.now n c.read_natural.result c.read_natural.ensures spelled (omega arith) in
    c.in_default.not-Some n is

pub returns-then-number-most : goal.returns-then-number-most
returns-then-number-most c = λ n within spelled.
    let is : c.read_natural.result ≡ Some n = read-decimal c.args.field.now n c.read_natural.result c.read_natural.ensures spelled (omega arith) in
    let found = c.in-Some.is in
    let same : c.in-Some.number ≡ n = cc in
    let above = c.if-number-most.true in
    omega (arith, same, above, within)

pub returns-else-is_same : goal.returns-else-is_same
returns-else-is_same c = λ n within spelled.
    let is : c.read_natural.result ≡ Some n = read-decimal c.args.field.now n c.read_natural.result c.read_natural.ensures spelled (omega arith) in
    let found = c.in-Some.is in
    let same : c.in-Some.number ≡ n = cc in
    let yes = c.is_same.ensures.1 (c.as_bytes.ensures.value ∙ c.format.ensures.text ∙ ap decimal same ∙ sym spelled) in
    let no = c.if-is_same.false in
    cc
