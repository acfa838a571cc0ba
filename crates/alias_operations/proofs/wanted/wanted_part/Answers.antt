use Rattle.alias_types.specs.Kinds.{kinds_of}
use Rattle.alias_operations.proofs.wanted.wanted_part.Goals as goal

pub returns-in-Record : goal.returns-in-Record
returns-in-Record c = λ naming N k. rw c.in-Record.is (c.field.ensures naming N (kinds_of c.args.program.now.kinds.now) k)
