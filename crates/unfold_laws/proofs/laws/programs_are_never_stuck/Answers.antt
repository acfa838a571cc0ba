use Rattle.unfold_laws.proofs.Blocks.{programs_never_stuck}
use Rattle.unfold_laws.proofs.laws.programs_are_never_stuck.Goals as goal

pub returns : goal.returns
returns c = programs_never_stuck
