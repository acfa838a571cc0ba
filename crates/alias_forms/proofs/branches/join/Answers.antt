use Rattle.uniqueness.specs.Answers.{no_memory}
use Rattle.alias_forms.proofs.BranchForms.{both_done}
use Rattle.alias_forms.proofs.branches.join.Goals as goal

pub returns-in_default : goal.returns-in_default
returns-in_default c = λ m n ls mid end b p q s t. no_memory

pub returns-in-Ok-unite : goal.returns-in-Ok-unite
returns-in-Ok-unite c = λ m n ls mid end b p q s t. both_done m n ls b p s t q c.in-Ok.ensures.later c.in-Ok.ensures.back c.in-Ok-join_branches.ensures c.in-Ok-unite.ensures
