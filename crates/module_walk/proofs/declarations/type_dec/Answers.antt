use Rattle.std.proofs.Common.{false}
use Rattle.fut_flat.specs.Sources.{source_type}
use Rattle.fut_tree.specs.Pats.{heads_of}
use Rattle.elab_scopes.specs.Scopes.{type_among}
use Rattle.elab_scopes.specs.Declarations.{as_type, declare, declares, no_type, type_term}
use Rattle.module_state.specs.Standing.{block_of, here_of}
use Rattle.module_walk.proofs.DecLaws.{members_brought, once_again, once_new}
use Rattle.module_walk.proofs.declarations.type_dec.Goals as goal

pub returns-then-is_type_again : goal.returns-then-is_type_again
returns-then-is_type_again c = once_again c.args.is_local c.args.label (type_among c.args.block.own.now c.args.label.name.now) (declares c.args.is_local (block_of c.args.block) (as_type c.args.label.name.now (declare no_type (here_of c.args.here) false c.args.label.name.now (heads_of c.args.heads.now) (type_term c.args.label.place (source_type c.args.ty.now))))) _ c.is_type_again.ensures c.twice.result c.if-is_type_again.true c.twice.ensures

pub returns : goal.returns
returns c = once_new c.args.is_local c.args.label (type_among c.args.block.own.now c.args.label.name.now) (declares c.args.is_local (block_of c.args.block) (as_type c.args.label.name.now (declare no_type (here_of c.args.here) false c.args.label.name.now (heads_of c.args.heads.now) (type_term c.args.label.place (source_type c.args.ty.now))))) _ c.is_type_again.ensures c.if-is_type_again.false
    (members_brought c.args.is_local c.args.block c.args.label.name.now _ c.declared_type-made.ensures c.made_brought.ensures)
