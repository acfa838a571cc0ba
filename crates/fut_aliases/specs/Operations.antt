-- What each operation makes of its parts. What it makes anew shares with nothing; rows, elements, slices and fields share with
-- what they are taken from; an update consumes its array.
use Rattle.std.specs.Prelude.{ℕ, false, cond, nat_eq, List, [], ◌∷◌, Option}
use Rattle.fut_ast.specs.Sorts.{Text}
use Rattle.fut_scalar.specs.declared.place.BindId.{BindId}
use Rattle.fut_scalar.specs.declared.place.Place.{Place}
use Rattle.fut_flat.specs.declared.prim.Ref.{Ref}
use Rattle.fut_flat.specs.Terms.{Operation, Tuple_of, Record_of, Index, Project, Update, Replace, Ascribe, Coerce, Declared}
use Rattle.fut_types.specs.declared.Head.TheVariants as head
use Rattle.fut_types.specs.Types.{Ty, Made, Sub, Kinds}
use Rattle.fut_typing.specs.Names.{Names}
use Rattle.fut_aliases.specs.Aliases.{Set, shared}
use Rattle.fut_aliases.specs.declared.aliases.Alias.{Alias}
use Rattle.fut_aliases.specs.Stars.{Stars, written_stars}
use Rattle.fut_aliases.specs.Values.{Value, Scalar, Parts, Values, no_value, value_and, of_type, aliases, ascribed, part_named, with_part_named}
use Rattle.fut_aliases.specs.Steps.{Step, give, and_then, consume, demand, some_alias}
use Rattle.fut_aliases.specs.declared.refusals.Broken.TheVariants.{ResultAliases}
use Rattle.fut_aliases.specs.declared.refusals.Broken.{Broken}
use Rattle.fut_aliases.specs.declared.refusals.Named.TheVariants.{ByAlias, ByName}
use Rattle.fut_aliases.specs.declared.refusals.Named.{Named}
use Rattle.fut_aliases.specs.declared.refusals.Spot.TheVariants.{Mark}
use Rattle.fut_aliases.specs.declared.refusals.Spot.{Spot}
use Rattle.fut_aliases.specs.Calls.{Here, Held, not_consumable, captured, too_hungry, too_shared, settled}

-- ---- records: the parts in the order of their labels

abbrev pub field_of : Names → ℕ → List Text → List Held → Value
field_of N l (f ∷ fs) (a ∷ more_of) = cond (nat_eq (N.label f) l) a.value (field_of N l fs more_of)
field_of N l fs parts = Scalar

abbrev pub fields_of : Names → List ℕ → List Text → List Held → Values
fields_of N [] fs parts = no_value
fields_of N (l ∷ ls) fs parts = value_and (field_of N l fs parts) (fields_of N ls fs parts)

abbrev pub record_of : Names → List Text → Ty → List Held → Value
record_of N fs (Made (head.Record n) ts) parts = Parts (head.Record n) (fields_of N (N.shapes.fields n) fs parts)
record_of N fs t parts = Scalar

abbrev pub row : List Held → Values
row [] = no_value
row (a ∷ more_of) = value_and a.value (row more_of)

abbrev pub first_value : List Held → Value
first_value [] = Scalar
first_value (a ∷ more_of) = a.value

abbrev pub last_value : List Held → Value
last_value [] = Scalar
last_value (a ∷ []) = a.value
last_value (a ∷ more_of) = last_value more_of

-- ---- updates

-- the array's name, or else the least that both share
abbrev pub array_name : Named → Alias → Named
array_name (ByName b) a = ByName b
array_name n a = ByAlias a

abbrev pub shares_with : Held → Spot → Set → Option Broken
shares_with a p s = some_alias (λ n. ResultAliases (shown n) p) (shared (aliases a.value) s)
  where
    shown : Named → Named
    shown (ByAlias b) = array_name a.called b
    shown n = n

-- the new element may not share with the array, and the array must be one that may be consumed
abbrev pub update : Here → Place → Held → List Held → Value → Step Value
update h mark a parts new =
    and_then (demand h.asked (shares_with a (Mark mark) (aliases (last_value parts)))) (λ z.
    and_then (demand h.asked (not_consumable h (Mark mark) (aliases a.value))) (λ y.
    and_then (demand h.asked (captured h (Mark mark) (aliases a.value))) (λ x.
    and_then (settled h (a ∷ parts)) (λ w.
    and_then (consume (Mark mark) (aliases a.value)) (λ v. give new)))))

-- ---- written types

abbrev pub ascribe : Here → Stars → Held → Step Value
ascribe h u a =
    and_then (demand h.asked (too_hungry u a)) (λ z.
    and_then (demand h.asked (too_shared u a)) (λ y. give (ascribed u a.value)))

-- ---- an operation at a node

-- a part that is replaced does not count as used
abbrev pub without_part : Names → Text → Held → Held
without_part N f a = record { node = a.node; called = a.called; first_name = a.first_name; value = with_part_named N f Scalar a.value; losses = a.losses }

module _ (N : Names) (K : Kinds) (types : Sub) (h : Here) where
  -- of this value, when no part shares with what a later part consumed
  abbrev pub of_parts : List Held → Value → Step Value
  of_parts parts v = and_then (settled h parts) (λ z. give v)

  abbrev pub operation : Operation Ref BindId → ℕ → Place → List Held → Step Value
  operation Tuple_of n mark parts = of_parts parts (Parts head.Tuple (row parts))
  operation (Record_of fs) n mark parts = of_parts parts (record_of N fs (types n) parts)
  operation (Index is) n mark parts = of_parts parts (of_type K (aliases (first_value parts)) (types n))
  operation (Project f) n mark parts = give (part_named N f (first_value parts))
  operation Update n mark (a ∷ more_of) = update h mark a more_of (of_type K [] (types n))
  operation (Replace f) n mark (r ∷ v ∷ []) = of_parts (without_part N f r ∷ v ∷ []) (with_part_named N f v.value r.value)
  operation (Ascribe e) n mark (a ∷ []) = ascribe h (written_stars N false e (types n)) a
  operation (Coerce e) n mark (a ∷ []) = ascribe h (written_stars N false e (types n)) a
  operation (Declared e) n mark (a ∷ []) = ascribe h (written_stars N false e (types n)) a
  operation o n mark parts = of_parts parts (of_type K [] (types n))
