use Rattle.size_arena.specs.Trees.{dim_of}
use Rattle.size_making.proofs.MakingForms.{array_made}
use Rattle.size_making.proofs.making.array_of.Goals as goal

pub returns : goal.returns
returns c = array_made c.args.parts.now c.index-parts-0.result (dim_of c.args.size) c.level.result c.if-parts-eq0.false (rw (← c.index-parts-0.is) c.level.ensures)
