use Rattle.std.proofs.Common.{length}
use Rattle.unify.proofs.Outcomes.{both_ok, both_err}
use Rattle.unify.proofs.Loading.{binds_more, subst_puts, subst_bars}
use Rattle.unify.proofs.load.put_subst.Goals as goal

pub put_binds-requires-clause-within : goal.put_binds-requires-clause-within
put_binds-requires-clause-within c = binds_more c.args.table.now (length c.args.nodes.now) (length c.put_all_known.new.nodes) c.args.subst.now.binds c.in-Ok.ensures.extends.longer c.requires.binds

pub returns-in-Ok-clause-ok : goal.returns-in-Ok-clause-ok
returns-in-Ok-clause-ok c = both_ok c.put_binds.result (λ x h T told. subst_puts c.args.table.now T c.args.nodes.now c.put_all_known.new.nodes c.args.subst.now c.requires.binds (c.in-Ok.ensures.ok T (x.told T told)) c.put_binds.new.nodes (h T told)) c.put_binds.ensures.extends c.put_binds.ensures.ok

pub returns-in-Ok-clause-err : goal.returns-in-Ok-clause-err
returns-in-Ok-clause-err c = both_err c.put_binds.result (λ before h T told. subst_bars c.args.table.now T c.args.nodes.now c.put_all_known.new.nodes c.args.subst.now c.requires.binds (c.in-Ok.ensures.ok T (before T told)) (h T told)) c.put_binds.ensures.before c.put_binds.ensures.err
