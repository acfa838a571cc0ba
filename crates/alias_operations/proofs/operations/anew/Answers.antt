use Rattle.uniqueness.specs.Answers.{no_memory}
use Rattle.alias_types.specs.Kinds.{kinds_of}
use Rattle.alias_program.specs.Program.{sub_of}
use Rattle.uniqueness.specs.Held.{helds_of, here_of}
use Rattle.alias_operations.proofs.OperateForms.{fresh_is, settled_as}
use Rattle.alias_operations.proofs.operations.anew.Goals as goal

pub returns-in_default : goal.returns-in_default
returns-in_default c = λ N scope mark act f. no_memory

pub returns : goal.returns
returns c = λ N scope mark act f. settled_as N (kinds_of c.args.program.now.kinds.now) (sub_of c.args.program.now.types.now) (here_of scope c.args.here.now) _ (helds_of c.args.held.now) _ _ c.args.losses.now _ c.in-Ok.ensures
    (c.of_parts.ensures N (kinds_of c.args.program.now.kinds.now) (sub_of c.args.program.now.types.now) scope) (fresh_is N (kinds_of c.args.program.now.kinds.now) (sub_of c.args.program.now.types.now) (here_of scope c.args.here.now) act c.args.node mark (helds_of c.args.held.now) f)
