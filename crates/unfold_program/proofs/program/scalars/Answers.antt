use Rattle.std.proofs.Common.{refl, true}
use Rattle.fut_blocks.specs.declared.block.Atom.TheVariants as atom
use Rattle.fut_scalar.specs.declared.scalar.Scalar.TheVariants as scalar
use Rattle.unfold.specs.declared.known.Known.{roll-Known}
use Rattle.unfold.specs.declared.known.KnownForm.TheVariants as form
use Rattle.unfold.proofs.Mirror.{known_scalar}
use Rattle.unfold_program.proofs.Programs.{scalars_are}
use Rattle.unfold_program.proofs.program.scalars.Goals as goal

pub returns-in-Ok-clause-ok : goal.returns-in-Ok-clause-ok
returns-in-Ok-clause-ok c = scalars_are c.in-Ok.row.now _ (roll-Known record { form = form.Scalar (atom.Constant (scalar.Bool true)) }) (atom.Constant (scalar.Bool true)) (known_scalar _ _ refl) c.in-Ok.ensures.items c.in-Ok.ensures.len
