-- A parenthesis opens the parameter.
use Rattle.std.proofs.Common.{sym, ◌∙◌, refl}
use Rattle.parse_module_types.proofs.types.parameter.Goals as goal

pub any_parameter-requires : goal.any_parameter-requires
any_parameter-requires g c = λ k. ((refl, tt), (c.requires.law, (sym c.starts_with.ensures ∙ c.if-not-starts_with.false, c.requires.room)))
