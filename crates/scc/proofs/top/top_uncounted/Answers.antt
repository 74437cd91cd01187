use Rattle.scc.proofs.top.top_uncounted.Goals as goal

pub returns-clause-served : goal.returns-clause-served
returns-clause-served g c = (c.scc_top.new.steps, rw (← c.new-steps.ensures) c.scc_top.ensures.served)

pub returns-clause-unread : goal.returns-clause-unread
returns-clause-unread g c = λ seed count spelled. (c.scc_top.ensures.unread seed count spelled).0
