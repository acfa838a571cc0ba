-- A program that has a typing, as the pass over sizes takes it.
use Rattle.std.specs.Prelude.{List}
use Rattle.fut_types.specs.Shapes.{IsTable}
use Rattle.fut_typing.specs.Names.{Names}
use Rattle.fut_typing.specs.Program.{Defined}
use Rattle.fut_typing.specs.Answers.{Typing_is}
use Rattle.type_infer.specs.Inferring.{Numbers}
use Rattle.type_scopes.specs.declared.Inference.{Inference}
use Rattle.alias_parts.specs.Known.{Knows}
use Rattle.size_program.specs.Program.{sub_of}
use Rattle.size_program.specs.declared.program.Program.{Program}

-- by each numbering that goes on from that of the program, the trees of types are a typing of it
pub record Is_prepared (ds : List Defined) (inference : Inference) (program : Program) : Type 0 where
  pub table : IsTable program.names.table.now
  pub names : (N : Names) → Numbers inference N → Knows program.names N
  pub typing : (N : Names) → Numbers inference N → Typing_is N ds (sub_of program.types.now)
