-- The pattern and the function that were made.
use Rattle.std.proofs.Common.{refl}
use Rattle.parse_nodes.proofs.binds.function_bound.Goals as goal

pub returns-in-Ok-name : goal.returns-in-Ok-name
returns-in-Ok-name c = rw (c.in-Ok-name.ensures, c.in-Ok.ensures) refl
