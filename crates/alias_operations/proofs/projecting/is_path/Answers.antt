use Rattle.alias_operations.proofs.PathForms.{path_none, path_some}
use Rattle.alias_operations.proofs.projecting.is_path.Goals as goal

pub returns-in-Some : goal.returns-in-Some
returns-in-Some c = path_some _ c.args.part.now.arguments.now c.args.part.now.name _ c.in-Some.is c.is_empty.ensures

pub returns-in-None : goal.returns-in-None
returns-in-None c = path_none c.args.part.now.arguments.now c.args.part.now.name c.in-None.is
