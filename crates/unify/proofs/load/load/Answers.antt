use Rattle.std.proofs.Common.{length}
use Rattle.unify.specs.Substitutions.{type_of}
use Rattle.unify.proofs.Outcomes.{both_ok, both_err}
use Rattle.unify.proofs.Trees.{within_more}
use Rattle.unify.proofs.Loading.{load_puts, load_bars}
use Rattle.unify.proofs.load.load.Goals as goal

pub put_equal-requires-clause-left : goal.put_equal-requires-clause-left
put_equal-requires-clause-left c = within_more c.args.table.now (length c.args.nodes.now) (length c.put_subst.new.nodes) c.in-Ok.ensures.extends.longer (type_of c.args.left.now) c.requires.left

pub put_equal-requires-clause-right : goal.put_equal-requires-clause-right
put_equal-requires-clause-right c = within_more c.args.table.now (length c.args.nodes.now) (length c.put_subst.new.nodes) c.in-Ok.ensures.extends.longer (type_of c.args.right.now) c.requires.right

pub returns-in-Ok-clause-ok : goal.returns-in-Ok-clause-ok
returns-in-Ok-clause-ok c = both_ok c.put_equal.result (λ x h T told. load_puts c.args.table.now T c.args.nodes.now c.put_subst.new.nodes c.args.subst.now (type_of c.args.left.now) (type_of c.args.right.now) c.requires.left c.requires.right (c.in-Ok.ensures.ok T (x.told T told)) c.put_equal.new.nodes (h T told)) c.put_equal.ensures.extends c.put_equal.ensures.ok

pub returns-in-Ok-clause-err : goal.returns-in-Ok-clause-err
returns-in-Ok-clause-err c = both_err c.put_equal.result (λ before h T told. load_bars c.args.table.now T c.args.nodes.now c.put_subst.new.nodes c.args.subst.now (type_of c.args.left.now) (type_of c.args.right.now) c.requires.left c.requires.right (c.in-Ok.ensures.ok T (before T told)) (h T told)) c.put_equal.ensures.before c.put_equal.ensures.err
