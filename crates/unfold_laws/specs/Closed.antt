-- Types without variables, and that they are all that blocks want.
use Rattle.std.specs.Prelude.{◌↔◌}
use Rattle.fut_types.specs.declared.Head.{Head}
use Rattle.fut_types.specs.declared.Head.TheVariants as head
use Rattle.fut_types.specs.Types.{Ty, Var, Made, Tys, none, more, Kinds}
use Rattle.fut_typing.specs.Names.{Names}
use Rattle.fut_blocks.specs.declared.block.Program.{Program}
use Rattle.fut_blocks.specs.Plain.{body_of}
use Rattle.unfold_laws.specs.Typed.{of_constants, with_names, Body_typed, any_types}

-- a type parameter that is written is a variable too, which has no arguments
abbrev pub Is_fixed : Head → Tys → Type 0
Is_fixed (head.Rigid n k) none = ⊥
Is_fixed h ts = Unit {0}

unfoldable mutual
  pub Is_closed : Ty → Type 0
  Is_closed (Var n) = ⊥
  Is_closed (Made h ts) = Is_fixed h ts × All_closed ts

  pub All_closed : Tys → Type 0
  All_closed none = Unit {0}
  All_closed (more t ts) = Is_closed t × All_closed ts

-- Where the types of its parameters and results are closed, a program of blocks is well typed exactly if it is where names
-- have closed types alone.
abbrev pub TypesMayBeClosed : Type 0
TypesMayBeClosed =
    (N : Names) (K : Kinds) (p : Program) (ts us : Tys) → All_closed ts → All_closed us → Body_typed N K any_types (body_of p.body) (with_names p.params.now ts of_constants) us ↔ Body_typed N K All_closed (body_of p.body) (with_names p.params.now ts of_constants) us
