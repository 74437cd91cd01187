use Rattle.shadow_forest.specs.Bench.{IsFurther}
use Rattle.shadow_forest.proofs.Benches.{bench-kept, bench-further, bench-stops}
use Rattle.shadow_forest.proofs.bench.Bench.run_local.Given.{Over}
use Rattle.shadow_forest.proofs.bench.Bench.run_local.Goals as goal

further : (g : Over) (c : goal.After-run_local g) → IsFurther c.self.inside.code.nodes c.run_local.result c.self.inside.state c.run_local.new.self
further g c = record { position = c.run_local.ensures.made; log = c.run_local.ensures.log; writes = c.run_local.ensures.writes; same = c.run_local.ensures.same }

pub invariant_of-self : goal.invariant_of-self
invariant_of-self g c = (c.self.invariant.0, bench-kept _ _ _ _ (further g c) c.run_local.ensures.local c.self.inside.job c.self.invariant.1)

pub returns-clause-further : goal.returns-clause-further
returns-clause-further g c = bench-further _ _ _ _ (further g c) c.run_local.ensures.local c.self.inside.job c.args.self.now c.self.view_is

pub returns-clause-stops : goal.returns-clause-stops
returns-clause-stops g c = λ x is less. bench-stops c.self.inside.job _ _ (c.run_local.ensures.stops less) x is
