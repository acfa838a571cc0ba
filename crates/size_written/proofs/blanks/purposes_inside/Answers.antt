use Rattle.std.proofs.Common.{refl}
use Rattle.size_written.specs.Blanks.{goes_inside, left_alone, met_behind}
use Rattle.size_written.proofs.blanks.purposes_inside.Goals as goal

pub returns-in-Coercion : goal.returns-in-Coercion
returns-in-Coercion c = rw c.in-Coercion.is (left_alone refl)

pub returns-in-Parameter : goal.returns-in-Parameter
returns-in-Parameter c = rw c.in-Parameter.is (goes_inside (λ k i d. d) refl refl refl refl refl)

pub returns-in-Result : goal.returns-in-Result
returns-in-Result c = rw c.in-Result.is (goes_inside met_behind refl refl refl refl refl)

pub returns-in-Taken : goal.returns-in-Taken
returns-in-Taken c = rw c.in-Taken.is (goes_inside met_behind refl refl refl refl refl)

pub returns-in-Given : goal.returns-in-Given
returns-in-Given c = rw c.in-Given.is (goes_inside met_behind refl refl refl refl refl)
