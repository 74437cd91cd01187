use Rattle.std.proofs.Common.{◌∙◌, sym, true≢false}
use Rattle.indexed_lanes.proofs.Filling.{stays_before_read}
use Rattle.indexed_lanes.proofs.wanting.have_before_read.Goals as goal

pub returns-else-fills : goal.returns-else-fills
returns-else-fills c = λ r at.
    stays_before_read c.args.lanes.now c.args.index.now c.args.place c.args.item r at
    (λ fills. true≢false (sym (c.fills.ensures.1 fills) ∙ c.if-fills.false))
    c.args.code.now.nodes c.requires.kept (sym c.changed.ensures ∙ c.if-changed.false)
