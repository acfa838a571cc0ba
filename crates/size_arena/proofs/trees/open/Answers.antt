use Rattle.std.proofs.Common.{ap, ◌∙◌}
use Rattle.size_arena.specs.Trees.{size_of}
use Rattle.size_arena.proofs.Forms.{size_open}
use Rattle.size_arena.proofs.trees.open.Goals as goal

pub returns-in-Ok : goal.returns-in-Ok
returns-in-Ok c = ap size_of c.in-Ok.ensures ∙ size_open _ _ c.args.ty
