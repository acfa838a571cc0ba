use Rattle.fut_aliases.specs.Operations.{first_value}
use Rattle.fut_aliases.specs.Values.{part_named}
use Rattle.uniqueness.specs.Answers.{no_memory}
use Rattle.uniqueness.specs.Held.{helds_of}
use Rattle.alias_applications.specs.Shown.{shown_value}
use Rattle.alias_applications.proofs.StepForms.{given}
use Rattle.alias_operations.proofs.operations.project.Goals as goal

pub returns-in-Ok : goal.returns-in-Ok
returns-in-Ok c = λ N k K types here node mark. given shown_value (part_named N c.args.field.now (first_value (helds_of c.args.held.now))) c.in-Ok.found c.args.losses.now (c.in-Ok.ensures N k)

pub returns-in-Err : goal.returns-in-Err
returns-in-Err c = λ N k K types here node mark. no_memory
