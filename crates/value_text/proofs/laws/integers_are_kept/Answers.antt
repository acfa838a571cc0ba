use Rattle.value_text.proofs.Integers.{found_integers_stand, integers_are_found}
use Rattle.value_text.proofs.laws.integers_are_kept.Goals as goal

pub returns-clause-stand : goal.returns-clause-stand
returns-clause-stand c = found_integers_stand

pub returns-clause-found : goal.returns-clause-found
returns-clause-found c = integers_are_found
