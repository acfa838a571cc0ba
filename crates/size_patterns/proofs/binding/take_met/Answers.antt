use Rattle.fut_flat.specs.Erased.{pattern_of}
use Rattle.size_arena.specs.Trees.{size_of}
use Rattle.size_patterns.specs.Bound.{unbound, unmet_at}
use Rattle.size_patterns.proofs.BindForms.{met_ends, met_refused, met_stops}
use Rattle.size_patterns.proofs.binding.take_met.Goals as goal

pub returns-in-Ok-all_met-clause-gives : goal.returns-in-Ok-all_met-clause-gives
returns-in-Ok-all_met-clause-gives c = λ N scope knows known held. met_ends N c.args.sizes.now (unmet_at c.args.unmet) c.args.at (pattern_of c.args.pat.now) (size_of c.args.size.now) scope c.take.new.table c.take.result
    (c.take.ensures.gives N (unbound c.args.sizes.now scope) knows known held) c.in-Ok.made c.in-Ok.is c.all_met.result (λ σ h. c.all_met.ensures σ h) c.in-Ok-all_met.field-0 c.in-Ok-all_met.is

pub returns-in-Err-all_met-clause-gives : goal.returns-in-Err-all_met-clause-gives
returns-in-Err-all_met-clause-gives c = λ N scope knows known held. met_refused N c.args.sizes.now (unmet_at c.args.unmet) c.args.at (pattern_of c.args.pat.now) (size_of c.args.size.now) scope c.take.new.table c.take.result
    (c.take.ensures.gives N (unbound c.args.sizes.now scope) knows known held) c.in-Ok.made c.in-Ok.is c.all_met.result (λ σ h. c.all_met.ensures σ h) c.in-Err-all_met.error c.in-Err-all_met.is

pub returns-in-Err-clause-gives : goal.returns-in-Err-clause-gives
returns-in-Err-clause-gives c = λ N scope knows known held. met_stops N c.args.sizes.now (unmet_at c.args.unmet) c.args.at (pattern_of c.args.pat.now) (size_of c.args.size.now) scope c.take.new.table c.take.result
    (c.take.ensures.gives N (unbound c.args.sizes.now scope) knows known held) c.in-Err.error c.in-Err.is
