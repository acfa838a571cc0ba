use Rattle.fut_flat.specs.Erased.{pattern_of}
use Rattle.size_arena.specs.Trees.{size_of}
use Rattle.size_patterns.proofs.BindForms.{bound_value}
use Rattle.size_patterns.proofs.binding.bind.Goals as goal

pub returns-clause-gives : goal.returns-clause-gives
returns-clause-gives c = λ N scope knows known. bound_value N c.args.sizes.now c.args.at (pattern_of c.args.pat.now) (size_of c.args.size.now) scope c.bind_at.result (c.bind_at.ensures.gives N scope knows known)
