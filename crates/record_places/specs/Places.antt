-- Where the labels of a record stand among the fields that are written.
use Rattle.std.specs.Prelude.{ℕ, suc, cond, nat_eq, List, [], ◌∷◌, Option, Some, None, map, set}
use Rattle.fut_ast.specs.Sorts.{Text}
use Rattle.fut_typing.specs.Names.{Names}

-- where the first field of a label is written, counted from here; behind all if it is not
abbrev pub written_at : Names → List Text → ℕ → ℕ → ℕ
written_at N [] at l = at
written_at N (f ∷ fs) at l = cond (nat_eq (N.label f) l) at (written_at N fs (suc at) l)

abbrev pub written_places : Names → ℕ → List Text → ℕ → List ℕ
written_places N n fs at = map (written_at N fs at) (N.shapes.fields n)

-- a label that has this place, if any, is written here
abbrev pub noted : Option ℕ → ℕ → List ℕ → List ℕ
noted (Some i) at places = set places i at
noted None at places = places
