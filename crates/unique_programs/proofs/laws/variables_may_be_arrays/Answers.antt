use Rattle.unique_programs.proofs.Variables.{may_be_arrays}
use Rattle.unique_programs.proofs.laws.variables_may_be_arrays.Goals as goal

pub returns : goal.returns
returns c = may_be_arrays
