use Rattle.std.proofs.Common.{length}
use Rattle.unify.specs.Substitutions.{type_of}
use Rattle.unify.proofs.Outcomes.{both_ok, both_err}
use Rattle.unify.proofs.Trees.{within_more}
use Rattle.unify.proofs.Loading.{equal_puts, equal_bars}
use Rattle.unify.proofs.load.put_equal.Goals as goal

pub put_type-requires-clause-within : goal.put_type-requires-clause-within
put_type-requires-clause-within c = within_more c.args.table.now (length c.args.nodes.now) (length c.plant.new.nodes) c.in-Ok.ensures.extends.longer (type_of c.args.right.now) c.requires.right

pub returns-in-Ok-clause-ok : goal.returns-in-Ok-clause-ok
returns-in-Ok-clause-ok c = both_ok c.put_type.result (λ x h T told. equal_puts c.args.table.now T c.args.nodes.now c.plant.new.nodes c.in-Ok.planted (type_of c.args.left.now) (type_of c.args.right.now) c.requires.left c.requires.right (c.in-Ok.ensures.ok T (x.told T told)) c.put_type.new.nodes (h T told)) c.put_type.ensures.extends c.put_type.ensures.ok

pub returns-in-Ok-clause-err : goal.returns-in-Ok-clause-err
returns-in-Ok-clause-err c = both_err c.put_type.result (λ before h T told. equal_bars c.args.table.now T c.args.nodes.now c.plant.new.nodes c.in-Ok.planted (type_of c.args.left.now) (type_of c.args.right.now) c.requires.left c.requires.right (c.in-Ok.ensures.ok T (before T told)) (h T told)) c.put_type.ensures.before c.put_type.ensures.err
