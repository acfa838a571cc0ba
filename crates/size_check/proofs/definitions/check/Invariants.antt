use Rattle.size_program.specs.Program.{sub_of}
use Rattle.size_check.proofs.ProgramLaws.{Sized_so_far}
use Rattle.size_check.proofs.definitions.check.Given as goal

abbrev pub invariant-loop-definition : goal.invariant-loop-definition
invariant-loop-definition l = Sized_so_far (sub_of l.program.types.now) l.program l.flat.definitions.now l.initial.tables l.definition-index l.behind l.tables
