use Rattle.fut_flat.specs.Erased.{pattern_of}
use Rattle.fut_sizes.specs.Scopes.{bound_at}
use Rattle.size_arena.specs.Trees.{size_of}
use Rattle.size_patterns.specs.Bound.{unmet_at}
use Rattle.size_patterns.proofs.BindForms.{bind_ends, bind_stops}
use Rattle.size_patterns.proofs.binding.bind_in.Goals as goal

pub returns-in-Ok-clause-gives : goal.returns-in-Ok-clause-gives
returns-in-Ok-clause-gives c = λ N scope knows so. bind_ends (bound_at N c.args.sizes.now (unmet_at c.args.unmet) c.args.at (pattern_of c.args.pat.now) (size_of c.args.size.now) scope) c.take_met.new.table c.take_met.result (c.take_met.ensures.gives N scope knows so.scope so.found) c.in-Ok.names c.in-Ok.is

pub returns-clause-gives : goal.returns-clause-gives
returns-clause-gives c = λ N scope knows so. bind_stops (bound_at N c.args.sizes.now (unmet_at c.args.unmet) c.args.at (pattern_of c.args.pat.now) (size_of c.args.size.now) scope) c.take_met.new.table c.take_met.result (c.take_met.ensures.gives N scope knows so.scope so.found) c.in-Err.error c.in-Err.is
