use Rattle.std.proofs.Common.{map}
use Rattle.fut_aliases.specs.Aliases.{first_name_alone}
use Rattle.fut_flat.specs.Erased.{pattern_of, patterns}
use Rattle.alias_program.specs.Program.{sub_of}
use Rattle.alias_types.specs.Kinds.{kinds_of}
use Rattle.alias_values.specs.Trees.{row_of, stars_of}
use Rattle.alias_patterns.proofs.StarForms.{function_made}
use Rattle.alias_patterns.proofs.stars.function_stars.Goals as goal

pub returns : goal.returns
returns c = λ N k. function_made first_name_alone N (kinds_of c.args.program.now.kinds.now) (sub_of c.args.program.now.types.now) (patterns (map pattern_of c.args.parameters.now)) c.args.node (row_of c.in_ok-row.row.now) (stars_of c.args.given.now) (stars_of c.in_ok-made.made.now) (c.in_ok-row.ensures N k) c.in_ok-made.ensures
