use Rattle.fut_flat.specs.Erased.{pattern_of}
use Rattle.type_constraints.proofs.Ends.{end_err, end_ok}
use Rattle.type_constraints.proofs.Values.{bound_names}
use Rattle.type_constraints.proofs.patterns.enter_bound.Goals as goal

pub returns-in-Err : goal.returns-in-Err
returns-in-Err c = record { safe = tt; ok = tt; err = tt }

pub enter_pattern-requires : goal.enter_pattern-requires
enter_pattern-requires c = record { safe = c.in-Ok.ensures.safe; room = c.requires.room }

pub returns : goal.returns
returns c = record {
  safe = rw c.and.ensures (end_ok c.enter_pattern.result tt (λ s. s) c.enter_pattern.ensures.safe);
  ok = rw c.and.ensures (end_ok c.enter_pattern.result tt (bound_names c.args.base c.args.lo c.args.sizes.now (pattern_of c.args.pat.now) c.args.inference.now c.enter_sizes.new.inference c.enter_pattern.new.inference c.in-Ok.ensures.ok) c.enter_pattern.ensures.ok);
  err = rw c.and.ensures (end_err c.enter_pattern.result tt (λ z. z) c.enter_pattern.ensures.err);
}
