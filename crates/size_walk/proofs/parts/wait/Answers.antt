use Rattle.size_walk.proofs.PartForms.{lambda_part}
use Rattle.size_walk.proofs.parts.wait.Goals as goal

pub returns-clause-sized : goal.returns-clause-sized
returns-clause-sized c = λ p f ps e is. lambda_part p f ps e _ c.args.node _ _ _ is
