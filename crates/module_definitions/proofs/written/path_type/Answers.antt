use Rattle.std.proofs.Common.{refl, sym, ap, ◌∙◌}
use Rattle.elab_scopes.specs.Answers.{viewed}
use Rattle.module_definitions.proofs.Values.{path_named, path_refused}
use Rattle.module_definitions.proofs.written.path_type.Goals as goal

pub returns-in-Ok : goal.returns-in-Ok
returns-in-Ok c = path_named _ _ _ _ _ (ap (viewed (λ r. r)) (sym c.in-Ok.is) ∙ c.type_of.ensures) refl c.named.ensures

pub returns-in-Err : goal.returns-in-Err
returns-in-Err c = path_refused _ _ _ (ap (viewed (λ r. r)) (sym c.in-Err.is) ∙ c.type_of.ensures)
