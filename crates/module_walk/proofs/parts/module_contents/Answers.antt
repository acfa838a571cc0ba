use Rattle.elab_scopes.specs.Held.{module_ref_of}
use Rattle.module_walk.proofs.PartLaws.{contents_are}
use Rattle.module_walk.proofs.parts.module_contents.Goals as goal

pub returns-in-Ok : goal.returns-in-Ok
returns-in-Ok c = contents_are (module_ref_of c.args.of) _ c.modules.ensures c.in-Ok.contents c.in-Ok.ensures.ok
