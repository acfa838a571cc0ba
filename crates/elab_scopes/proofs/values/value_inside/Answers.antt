use Rattle.std.proofs.Common.{◌+◌, length}
use Rattle.elab_scopes.specs.Held.{module_ref_of}
use Rattle.elab_scopes.specs.Modules.{modules_of}
use Rattle.elab_scopes.proofs.Insides.{inside_stops, member_at}
use Rattle.elab_scopes.proofs.values.value_inside.Goals as goal

pub returns-in-None : goal.returns-in-None
returns-in-None c = inside_stops (modules_of c.args.modules.now) c.args.at _ (module_ref_of c.loop-index.within) c.loop-index.name.now c.args.path.now c.loop-index.index c.loop-index.name _ c.loop-index.invariant.0 c.loop-index-test.true c.in-None.ensures (member_at _ _ _ _ _ _ (c.member.ensures (length c.args.path.now + 2)) c.value_in_module.ensures)
