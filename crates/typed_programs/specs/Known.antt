-- What is known of a program that has a typing: it has only forms that are built; inference tells its types, with labels
-- in the order of their names; and they are a typing of which the laws of its meaning and of its walk speak.
use Rattle.std.specs.Prelude.{◌≡◌}
use Rattle.fut_flat.specs.declared.program.Flat.{Flat}
use Rattle.fut_typing.specs.Program.{program_of}
use Rattle.type_infer.specs.Inferring.{Infers, Told_by}
use Rattle.typed_programs.specs.Built.{Is_built}
use Rattle.typed_programs.specs.Ordered.{Is_ordered}
use Rattle.typed_programs.specs.Typed.{Typed_by}
use Rattle.typed_programs.specs.declared.typed.Accepted.{Accepted}

pub record Is_known (accepted : Accepted) : Type 0 where
  pub built : Is_built accepted.flat
  pub infers : Infers (program_of accepted.flat) accepted.inference
  pub ordered : Is_ordered accepted.inference
  pub typed : Told_by (Typed_by accepted.flat accepted.inference accepted.integers) accepted.inference

-- and it is this one
pub record Knows (flat : Flat) (accepted : Accepted) : Type 0 where
  pub is : accepted.flat ≡ flat
  pub known : Is_known accepted
