-- Rows of stars, and rows of sets.
use Rattle.std.specs.Prelude.{false, List, [], ◌∷◌, map, Option, Some, None}
use Rattle.std.specs.Borrow.{Bor}
use Rattle.fut_ast.specs.Sorts.{Text}
use Rattle.fut_types.specs.declared.Head.{Head}
use Rattle.fut_types.specs.Shapes.{place}
use Rattle.fut_types.specs.Types.{Ty, Var, Made}
use Rattle.fut_typing.specs.Names.{Names}
use Rattle.fut_aliases.specs.Aliases.{Set}
use Rattle.fut_aliases.specs.Stars.{Stars, Arrow, Row, StarRow, no_star, star_and, row_of, spread, with_star}
use Rattle.alias_values.specs.declared.trees.TypeTree.{TypeTree}
use Rattle.alias_values.specs.Trees.{type_of}

-- a type that may be there
abbrev pub type_held : Option (Bor TypeTree) → Option Ty
type_held (Some t) = Some (type_of t.now)
type_held None = None

-- a row in which these stars stand under these names; of two under one name the first
abbrev pub placed : Names → Head → List Text → StarRow → StarRow → StarRow
placed N h [] us row = row
placed N h (f ∷ fs) no_star row = row
placed N h (f ∷ fs) (star_and u us) row = with_star (place N.shapes (N.label f) h) u (placed N h fs us row)

-- the stars of a record where its pattern has these fields with these stars
abbrev pub record_placed : Names → List Text → StarRow → Ty → Stars
record_placed N [] us t = spread false t
record_placed N (f ∷ fs) us (Var v) = spread false (Var v)
record_placed N (f ∷ fs) us (Made h ts) = Row (placed N h (f ∷ fs) us (row_of (spread false (Made h ts))))

-- functions of parameters with these stars
abbrev pub arrows_before : StarRow → Stars → Stars
arrows_before no_star r = r
arrows_before (star_and u us) r = Arrow false u (arrows_before us r)

abbrev pub sets_of : List (Bor Set) → List Set
sets_of = map (λ (s : Bor Set). s.now)
