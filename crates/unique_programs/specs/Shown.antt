-- What the checker is told of a program that has a typing.
use Rattle.std.specs.Prelude.{◌≡◌}
use Rattle.fut_types.specs.Shapes.{IsTable}
use Rattle.fut_typing.specs.Names.{Names}
use Rattle.fut_typing.specs.Program.{program_of}
use Rattle.fut_typing.specs.Answers.{Typing_is}
use Rattle.type_infer.specs.Inferring.{Numbers}
use Rattle.alias_parts.specs.Known.{Knows}
use Rattle.alias_program.specs.Program.{sub_of}
use Rattle.alias_program.specs.declared.program.Program.{Program}
use Rattle.alias_types.specs.Kinds.{kinds_of}
use Rattle.typed_programs.specs.declared.typed.Accepted.{Accepted}
use Rattle.unique_programs.specs.Rules.{any_kinds}

-- by each numbering that goes on from that of the program, the trees of types are a typing of it
pub record Shows (accepted : Accepted) (program : Program) : Type 0 where
  pub table : IsTable program.names.table.now
  pub kinds : kinds_of program.kinds.now ≡ any_kinds
  pub names : (N : Names) → Numbers accepted.inference N → Knows program.names N
  pub typing : (N : Names) → Numbers accepted.inference N → Typing_is N (program_of accepted.flat) (sub_of program.types.now)
