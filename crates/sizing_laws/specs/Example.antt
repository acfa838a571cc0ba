-- A program in which the order of a record's parts tells which refusal comes first: `[{a = iota 1, b = iota 2}, {a = iota 2, b = iota 1}]`,
-- with the types of its nodes, and two numberings of its one record.
use Rattle.std.specs.Prelude.{ℕ, List, [], ◌∷◌, None, nat_eq, cond, ◌||◌}
use Rattle.fut_ast.specs.Sorts.{Text}
use Rattle.fut_scalar.specs.declared.place.Place.{Place}
use Rattle.fut_flat.specs.declared.prim.Primitive.TheVariants as prim
use Rattle.fut_flat.specs.declared.prim.Ref.TheVariants as ref
use Rattle.fut_flat.specs.Terms.{Bound_pattern, Integer, Record_of, Array_of, Use, Strict, Apply, no_term, term_and}
use Rattle.fut_flat.specs.Erased.{FlatTerm}
use Rattle.fut_types.specs.declared.Head.TheVariants as head
use Rattle.fut_types.specs.Types.{Ty, Made, none, more, Sub}
use Rattle.fut_typing.specs.Names.{Names}
use Rattle.fut_typing.specs.Primitives.{array_ty, i64_ty}
use Rattle.fut_typing.specs.Program.{Defined}

abbrev here : Place
here = record { file = 1; line = 1; column = 1 }

abbrev iota : ℕ → FlatTerm
iota c = Apply (Use (ref.Prim prim.Iota) here 0) (Strict (Integer c None) here no_term)

-- `a` and `b`
abbrev pub first_name : Text
first_name = 97 ∷ []

abbrev pub second_name : Text
second_name = 98 ∷ []

abbrev pair : ℕ → ℕ → FlatTerm
pair x y = Strict (Record_of (first_name ∷ second_name ∷ [])) here (term_and (iota x) (term_and (iota y) no_term))

abbrev pub two_pairs : List Defined
two_pairs = record { name = Bound_pattern (record { 0 = 0 }); parameters = []; value = Strict Array_of here (term_and (pair 1 2) (term_and (pair 2 1) no_term)) } ∷ []

abbrev pair_ty : Ty
pair_ty = Made (head.Record 0) (more (array_ty i64_ty) (more (array_ty i64_ty) none))

-- the records are the nodes 2 and 9; of the others no type is asked for
abbrev pub pair_types : Sub
pair_types n = cond (nat_eq n 2 || nat_eq n 9) pair_ty i64_ty

-- a name of one letter has that letter's number, and no name is a position
abbrev label : Text → ℕ
label [] = 0
label (c ∷ s) = c

abbrev numbering : List ℕ → Names
numbering ls = record { label = label; shapes = record { fields = λ n. ls; position = λ l. None } }

abbrev pub in_order : Names
in_order = numbering (97 ∷ 98 ∷ [])

abbrev pub out_of_order : Names
out_of_order = numbering (98 ∷ 97 ∷ [])
