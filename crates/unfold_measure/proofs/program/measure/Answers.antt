use Rattle.unfold_measure.proofs.Definitions.{never_lost}
use Rattle.unfold_measure.proofs.program.measure.Goals as goal

pub unreachable-requires : goal.unreachable-requires
unreachable-requires c = never_lost c.requires.found.0 _ _ _ _ c.in-Err-Lost.field-0-is c.requires.found.2 (c.in-Err-Lost.ensures c.requires.found.0 c.requires.found.1)
