use Rattle.elab_laws.proofs.Programs.{each_is_bound_once}
use Rattle.elab_laws.proofs.once_laws.each_number_is_bound_once.Goals as goal

pub returns : goal.returns
returns c = each_is_bound_once
