-- The parts of a written record in the order of its labels, by their places among those that are written.
use Rattle.std.specs.Prelude.{ℕ, zero, suc, cond, nat_eq, List, [], ◌∷◌, Option, Some, None, map, set}
use Rattle.fut_ast.specs.Sorts.{Text}
use Rattle.fut_types.specs.declared.Head.TheVariants as head
use Rattle.fut_types.specs.Types.{Ty, Made}
use Rattle.fut_typing.specs.Names.{Names}
use Rattle.fut_aliases.specs.Calls.{Held}
use Rattle.fut_aliases.specs.Values.{Value, Scalar, Values, no_value, value_and}

abbrev pub record_number : Ty → Option ℕ
record_number (Made (head.Record n) ts) = Some n
record_number t = None

-- where the first part of a label is written, counted from here; behind all if it is not
abbrev pub written_at : Names → List Text → ℕ → ℕ → ℕ
written_at N [] at l = at
written_at N (f ∷ fs) at l = cond (nat_eq (N.label f) l) at (written_at N fs (suc at) l)

abbrev pub written_places : Names → ℕ → List Text → ℕ → List ℕ
written_places N n fs at = map (written_at N fs at) (N.shapes.fields n)

-- a label that has this place, if any, is written here
abbrev pub noted : Option ℕ → ℕ → List ℕ → List ℕ
noted (Some i) at places = set places i at
noted None at places = places

abbrev pub value_at : List Held → ℕ → Value
value_at [] i = Scalar
value_at (a ∷ more_of) zero = a.value
value_at (a ∷ more_of) (suc i) = value_at more_of i

abbrev pub chosen : List Held → List ℕ → Values
chosen parts [] = no_value
chosen parts (i ∷ is) = value_and (value_at parts i) (chosen parts is)
