use Rattle.fut_aliases.specs.Aliases.{first_name_alone}
use Rattle.fut_flat.specs.Erased.{pattern_of}
use Rattle.alias_program.specs.Program.{sub_of}
use Rattle.alias_types.specs.Kinds.{kinds_of}
use Rattle.alias_values.specs.Trees.{stars_of, type_of}
use Rattle.alias_patterns.proofs.StarForms.{value_made}
use Rattle.alias_patterns.proofs.stars.parameter_value.Goals as goal

pub returns-clause-value : goal.returns-clause-value
returns-clause-value c = λ N k. value_made first_name_alone N (kinds_of c.args.program.now.kinds.now) (sub_of c.args.program.now.types.now) (pattern_of c.args.pattern.now) c.args.node _ (stars_of c.in_ok-stars.stars.now) (type_of c.in_ok-ty.ty.now) _ c.no_alias.ensures (c.in_ok-stars.ensures N k) c.in_ok-ty.ensures c.in_ok-value.ensures
