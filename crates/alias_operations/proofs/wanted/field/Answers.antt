use Rattle.std.proofs.Common.{ap, subst}
use Rattle.fut_aliases.specs.Looking.{field_at, place_in}
use Rattle.fut_flat.specs.Erased.{texts}
use Rattle.fut_types.specs.Shapes.{Tells_position}
use Rattle.alias_program.specs.Program.{sub_of}
use Rattle.alias_operations.proofs.wanted.field.Goals as goal

pub returns : goal.returns
returns c = λ naming N K k. c.in_ok-found.ensures _ (subst (Tells_position c.in_ok-place.place) (ap (λ t. place_in naming N K (sub_of c.args.program.now.types.now) t (field_at (texts c.args.fields.now) c.args.index)) c.in_ok-ty.ensures) (c.in_ok-place.ensures naming N K (sub_of c.args.program.now.types.now) k))
