use Rattle.std.proofs.Common.{refl}
use Rattle.unfold_program.proofs.program.keep.Goals as goal

pub returns-in-Ok-with-clause-ok : goal.returns-in-Ok-with-clause-ok
returns-in-Ok-with-clause-ok c = record { same = refl; more = c.in-Ok-with.ensures.tops; sees = c.in-Ok.ensures.ok; behind = refl }
