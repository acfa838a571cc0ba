use Rattle.size_program.specs.Answers.{no_memory}
use Rattle.size_patterns.specs.Bound.{unmet_at}
use Rattle.size_patterns.proofs.BindForms.{refused_at}
use Rattle.size_patterns.proofs.binding.refused.Goals as goal

pub returns-in-Ok : goal.returns-in-Ok
returns-in-Ok c = refused_at (unmet_at c.args.unmet) c.in-Ok.node c.in-Ok.ensures

pub returns-in-Err : goal.returns-in-Err
returns-in-Err c = no_memory
