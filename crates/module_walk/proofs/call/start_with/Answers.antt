use Rattle.std.proofs.Common.{refl}
use Rattle.module_walk.proofs.Calling.{starting}
use Rattle.module_walk.proofs.call.start_with.Goals as goal

pub returns : goal.returns
returns c = starting c.args.members.now _ _ refl refl refl refl refl refl refl
