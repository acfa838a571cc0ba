-- What is known of the names of parts.
use Rattle.std.specs.Prelude.{◌≡◌, ℕ, Some}
use Rattle.std.specs.HashMap.{get_by}
use Rattle.std.specs.Str.{bytes_eq}
use Rattle.fut_ast.specs.Sorts.{Text}
use Rattle.fut_types.specs.Shapes.{Tells}
use Rattle.fut_typing.specs.Names.{Names}
use Rattle.alias_parts.specs.declared.names.PartNames.{PartNames}

-- N gives the names that are known their numbers, and has the records and positions of the table
pub record Knows (names : PartNames) (N : Names) : Type 0 where
  pub label : (s : Text) (n : ℕ) → get_by (λ k. bytes_eq s k.now) names.numbers.now ≡ Some n → N.label s ≡ n
  pub shapes : Tells names.table.now N.shapes
