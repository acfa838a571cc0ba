use Rattle.unfold_reach.proofs.SizeForms.{dim_at, dim_bound}
use Rattle.unfold_reach.proofs.sizes.note_dim.Goals as goal

pub returns-in-At : goal.returns-in-At
returns-in-At c = dim_at _ _ _ _ c.in-At.is c.note_free.ensures

pub returns-in-Bound : goal.returns-in-Bound
returns-in-Bound c = dim_bound _ _ _ _ c.in-Bound.is
