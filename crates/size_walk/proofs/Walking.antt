-- What search finds by itself.
use Rattle.size_program.proofs.StepLaws.{out_of_memory}
use Rattle.size_forms.proofs.StepForms.{memory}

pub ruleset nothing = (out_of_memory, memory)
