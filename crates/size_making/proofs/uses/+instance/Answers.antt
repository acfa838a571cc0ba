use Rattle.size_arena.specs.Trees.{size_of, type_of}
use Rattle.size_making.proofs.UseForms.{instance_found}
use Rattle.size_making.proofs.uses.+instance.Goals as goal

pub instance-returns-in-Some : goal.instance-returns-in-Some
instance-returns-in-Some t c =
    instance_found c.open.result c.args.tree.now c.in-Hole.variable (size_of c.args.whole.now) (type_of c.args.ty.now) (type_of c.in-Some.found.now) c.args.node c.in-Hole.is c.in-Some.ensures c.open.ensures
