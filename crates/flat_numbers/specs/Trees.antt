-- The homes of the numbers of trees.
use Rattle.std.specs.Prelude.{ℕ, ◌+◌, ◌&&◌, List, ◌++◌, replicate}
use Rattle.fut_flat.specs.declared.exp.Exp.{Exp}
use Rattle.fut_flat.specs.declared.exp.Let.{Let as LetTree}
use Rattle.fut_flat.specs.declared.pat.Pat.{Pat}
use Rattle.fut_flat.specs.declared.pat.PatField.{PatField}
use Rattle.fut_flat.specs.declared.program.Definition.{Definition}
use Rattle.fut_flat.specs.Numbers.{pattern_numbers}
use Rattle.fut_flat.specs.Erased.{parameters, pattern_of, term_of}
use Rattle.fut_typing.specs.Free.{has_types}
use Rattle.fut_typing.specs.Homes.{depth_if, written_if}
use Rattle.flat_numbers.specs.Listed.{one, homes_of}

unfoldable pub pattern_homes : ℕ → Pat → List ℕ
pattern_homes home p = replicate (pattern_numbers (pattern_of p)) home

unfoldable pub field_homes : ℕ → PatField → List ℕ
field_homes home f = pattern_homes home f.pat

unfoldable pub exp_homes : ℕ → ℕ → Exp → List ℕ
exp_homes d w e = homes_of d w (term_of e)

-- in the value of a let
abbrev pub written_in : LetTree → ℕ → ℕ → ℕ
written_in l = written_if (l.is_function && has_types (parameters l.heads.now))

unfoldable pub let_homes : ℕ → ℕ → LetTree → List ℕ
let_homes d w l = (one d ++ pattern_homes (depth_if l.is_function d) l.pat) ++ exp_homes (depth_if l.is_function d) (written_in l (1 + d) w) l.value

unfoldable pub definition_homes : Definition → List ℕ
definition_homes d = one 1 ++ exp_homes 1 (written_if (has_types (parameters d.heads.now)) 1 0) d.value.now
