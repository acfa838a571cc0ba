-- What trees bind.
use Rattle.std.specs.Prelude.{ℕ, List, ◌++◌, Option}
use Rattle.fut_flat.specs.declared.exp.Exp.{Exp}
use Rattle.fut_flat.specs.declared.exp.Let.{Let as LetTree}
use Rattle.fut_flat.specs.declared.pat.Pat.{Pat}
use Rattle.fut_flat.specs.declared.pat.PatField.{PatField}
use Rattle.fut_flat.specs.declared.program.Definition.{Definition}
use Rattle.fut_flat.specs.Erased.{parameters, pattern_of, term_of}
use Rattle.sizing_tables.specs.Bound.{named, unnamed, pattern_names, names_of, bind_numbers, size_numbers, sizes_of}

unfoldable pub tree_names : Pat → List (Option ℕ)
tree_names p = pattern_names (pattern_of p)

unfoldable pub field_names : PatField → List (Option ℕ)
field_names f = tree_names f.pat

unfoldable pub exp_names : Exp → List (Option ℕ)
exp_names e = names_of (term_of e)

unfoldable pub exp_sizes : Exp → List ℕ
exp_sizes e = sizes_of (term_of e)

unfoldable pub let_names : LetTree → List (Option ℕ)
let_names l = (unnamed ++ tree_names l.pat) ++ exp_names l.value

unfoldable pub let_sizes : LetTree → List ℕ
let_sizes l = (bind_numbers l.sizes.now ++ size_numbers (parameters l.heads.now)) ++ exp_sizes l.value

unfoldable pub definition_names : Definition → List (Option ℕ)
definition_names d = named d.bind ++ exp_names d.value.now

unfoldable pub definition_sizes : Definition → List ℕ
definition_sizes d = size_numbers (parameters d.heads.now) ++ exp_sizes d.value.now
