use Rattle.std.proofs.Common.{◌+◌, ◌<◌, sym, subst, arith}
use Rattle.type_primitives.specs.Uses.{nodes}
use Rattle.type_primitives.proofs.Using.{few_nodes}
use Rattle.type_primitives.proofs.uses.list.Goals as goal

pub push_written-requires-clause-room : goal.push_written-requires-clause-room
push_written-requires-clause-room c = subst (λ w. c.args.first + 6 + nodes w < 4294967295) (sym c.line_of.ensures.written) (omega (arith, few_nodes c.args.name, c.requires))
