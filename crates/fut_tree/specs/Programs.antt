-- The program that a held program stands for.
use Rattle.fut_ast.specs.declared.module.Program.{Program as PlainProgram}
use Rattle.fut_tree.specs.declared.module.Program.TheInside.{Inside}
use Rattle.fut_tree.specs.Mods.{decs_of}

abbrev pub program_of : Inside → PlainProgram
program_of p = record { decs = decs_of p.decs.now }
