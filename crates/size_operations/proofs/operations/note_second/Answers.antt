use Rattle.size_arena.specs.Trees.{sizes_of}
use Rattle.size_operations.proofs.OperationForms.{second_other}
use Rattle.size_operations.proofs.operations.note_second.Goals as goal

pub returns-in_default : goal.returns-in_default
returns-in_default c = λ N types. second_other N types c.args.tables.now c.args.tables.now c.args.node c.args.act.now (sizes_of c.args.sizes.now) c.in_default.not-Binary c.in_default.not-Project
