-- The types from which a run may begin: each parameter is a scalar or an array of scalars, and so is the result, or it is a
-- tuple of two or more of these. A definition has such a type if it is used at this type alone.
use Rattle.std.specs.Prelude.{◌≡◌, ℕ, zero, suc, ◌≤◌, Bool, true, false, List, [], ◌∷◌, length, map, take}
use Rattle.fut_scalar.specs.declared.sizes.DataType.{DataType}
use Rattle.fut_flat.specs.declared.program.Flat.{Flat}
use Rattle.fut_types.specs.declared.Head.TheVariants as head
use Rattle.fut_types.specs.Types.{Ty, Made, Tys, none, more, Sub, Kinds, scalar_ty}
use Rattle.fut_typing.specs.Scopes.{Uses}
use Rattle.fut_typing.specs.Patterns.{arrows}
use Rattle.fut_typing.specs.Program.{defined}
use Rattle.fut_typing.specs.Exact.{behind}

-- an array of so many dimensions
abbrev pub array_ty : ℕ → Ty → Ty
array_ty zero t = t
array_ty (suc r) t = Made head.Array (more (array_ty r t) none)

abbrev pub data_ty : DataType → Ty
data_ty t = array_ty t.rank (scalar_ty t.elem)

unfoldable pub data_tys : List DataType → Tys
data_tys [] = none
data_tys (s ∷ ss) = more (data_ty s) (data_tys ss)

-- the result of these types: a tuple of two or more, or the only one
abbrev pub Results_are : Bool → List DataType → Ty → Type 0
Results_are false [] u = ⊥
Results_are false (s ∷ []) u = u ≡ data_ty s
Results_are false (s ∷ r ∷ rs) u = ⊥
Results_are true ss u = (2 ≤ length ss) × (u ≡ Made head.Tuple (data_tys ss))

-- In a typing it is used as a function of such parameters, or as a value if there are none, and at no other type.
pub record Has_entry_type (uses : Uses) (K : Kinds) (a : Sub) (params : List DataType) (tuple : Bool) (results : List DataType) : Type 0 where
  pub result : Ty
  pub results_are : Results_are tuple results result
  pub used : uses K a (arrows (data_tys params) result)
  pub only : (t : Ty) → uses K a t → t ≡ arrows (data_tys params) result

-- the number of the name of a definition behind so many others
abbrev pub number_of : Flat → ℕ → ℕ
number_of flat at = behind (map defined (take at flat.definitions.now)) 0
