use Rattle.alias_program.specs.Parts.{part_of}
use Rattle.alias_operations.proofs.PathForms.{path_made}
use Rattle.alias_operations.proofs.projecting.field_of_path.Goals as goal

pub returns : goal.returns
returns c = λ N k. path_made N c.args.field.now (part_of c.args.part.now) _ _ _ c.in_ok-ty.ensures (c.in_ok-value.ensures N k)
