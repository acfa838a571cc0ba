use Rattle.fut_tree.specs.Pats.{heads_of}
use Rattle.elab_scopes.specs.Scopes.{value_among}
use Rattle.elab_scopes.specs.Declarations.{as_value, declare, declares, no_value}
use Rattle.module_state.specs.Standing.{block_of, here_of}
use Rattle.module_state.specs.Written.{written_of}
use Rattle.module_walk.proofs.DecLaws.{members_brought, once_again, once_new}
use Rattle.module_walk.proofs.declarations.value_dec.Goals as goal

pub returns-then-is_value_again : goal.returns-then-is_value_again
returns-then-is_value_again c = once_again c.args.is_local c.args.label (value_among c.args.block.own.now c.args.label.name.now) (declares c.args.is_local (block_of c.args.block) (as_value c.args.label.name.now (declare no_value (here_of c.args.here) c.args.is_entry c.args.label.name.now (heads_of c.args.heads.now) (written_of c.args.value)))) _ c.is_value_again.ensures c.twice.result c.if-is_value_again.true c.twice.ensures

pub returns : goal.returns
returns c = once_new c.args.is_local c.args.label (value_among c.args.block.own.now c.args.label.name.now) (declares c.args.is_local (block_of c.args.block) (as_value c.args.label.name.now (declare no_value (here_of c.args.here) c.args.is_entry c.args.label.name.now (heads_of c.args.heads.now) (written_of c.args.value)))) _ c.is_value_again.ensures c.if-is_value_again.false
    (members_brought c.args.is_local c.args.block c.args.label.name.now _ c.declared_value-made.ensures c.made_brought.ensures)
