use Rattle.std.proofs.Common.{refl}
use Rattle.std.specs.Fmt.{digits}
use Rattle.scc_gen.specs.Generated.{part, taking, giving, transfer_line, gen_text}
use Rattle.scc_gen.proofs.worked.worked_texts.Goals as goal

pub returns-clause-text : goal.returns-clause-text
unfolding part taking giving transfer_line gen_text digits
returns-clause-text c = refl
