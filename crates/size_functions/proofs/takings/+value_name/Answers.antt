use Rattle.size_functions.proofs.TakingForms.{named_typed}
use Rattle.size_functions.proofs.takings.+value_name.Goals as goal

pub returns-in-Typed : goal.returns-in-Typed
returns-in-Typed t c = named_typed c.args.pattern.now _ _ _ c.in-Typed.is c.value_name.ensures
