use Rattle.unfold_laws.proofs.Unstuck.{unfolding_never_stuck}
use Rattle.unfold_laws.proofs.laws.unfolding_of_typed_programs_is_never_stuck.Goals as goal

pub returns : goal.returns
returns c = unfolding_never_stuck
