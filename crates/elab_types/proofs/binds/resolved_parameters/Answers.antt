use Rattle.elab_types.specs.Bindings.{parameters_of}
use Rattle.elab_types.proofs.Nexts.{entered_list}
use Rattle.elab_types.proofs.binds.resolved_parameters.Goals as goal

pub returns : goal.returns
returns c = entered_list parameters_of _ _ _ _ _ c.each_parameter-walked.ensures c.into_bump_slice.ensures c.listed.ensures
