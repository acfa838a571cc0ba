use Rattle.std.proofs.Common.{map, ap}
use Rattle.fut_blocks.specs.Plain.{binding_of}
use Rattle.unfold_program.proofs.program.unfold.Goals as goal

pub unfold_from-requires-clause-steps : goal.unfold_from-requires-clause-steps
unfold_from-requires-clause-steps c = ap (map binding_of) c.new.ensures.items
