-- A program that gives how many rows its argument has, by the name of a size: what is asked of programs with sizes holds of it
-- where a sizing calls that name a size and no other, and no more where it does not.
use Rattle.std.proofs.Common.{◌≡◌, Bool, true, false, ℕ, refl, sym, subst, arith, List, [], ◌∷◌, map, nat_eq, slice_index_or, Some, None, ◌<◌}
use mathlib.Core.Logic.{inl, inr}
use native.Mathlib.Decide.{ℕ_discrete}
use Rattle.fut_scalar.specs.declared.place.BindId.{BindId}
use Rattle.fut_scalar.specs.declared.place.Place.{Place}
use Rattle.fut_scalar.specs.declared.scalar.IntType.{IntType}
use Rattle.fut_scalar.specs.declared.scalar.IntType.TheVariants as int
use Rattle.fut_scalar.specs.declared.scalar.ScalarType.TheVariants as types
use Rattle.fut_flat.specs.declared.prim.Ref.TheVariants as ref
use Rattle.fut_flat.specs.declared.program.Definition.{Definition}
use Rattle.fut_flat.specs.declared.program.Flat.{Flat}
use Rattle.fut_flat.specs.Erased.{FlatType}
use Rattle.fut_flat.specs.Terms.{Size_use, Type_use, Array_type, no_arg, Bound_pattern, Typed_pattern, no_pattern, pattern_and, Size_parameter, Declared, Use, Strict, Lambda, no_term, term_and}
use Rattle.fut_types.specs.declared.Kind.TheVariants as kind
use Rattle.fut_types.specs.Types.{Ty, none, more, Sub, Kinds, fun_ty}
use Rattle.fut_typing.specs.Names.{Names, AreNames}
use Rattle.fut_typing.specs.Primitives.{array_ty, i64_ty}
use Rattle.fut_typing.specs.Scopes.{nothing}
use Rattle.fut_typing.specs.Generalised.{own_types, Variant}
use Rattle.fut_typing.specs.Program.{Defined, defined, program_of, program_numbers, definition_scheme, Program_typed}
use Rattle.fut_typing.specs.Exact.{scope_behind}
use Rattle.fut_meaning.specs.Found.{Sizing, Told}
use Rattle.fut_meaning.specs.Flats.{FlatValue, named_terms, Flat_means}
use Rattle.fut_meaning.specs.Meaning.{plain}
use Rattle.fut_meaning.specs.Claims.{Safe}
use Rattle.fut_meaning.specs.Uses.{is_size_in}
use Rattle.type_soundness.specs.Fits.{widest}
use Rattle.type_soundness.specs.Formed.{Definitions_formed, Definitions_apart}
use Rattle.type_soundness.specs.Meant.{Literal}
use Rattle.type_soundness.specs.Programs.{Definitions_told, One_each, Is_sized, Arguments_fit, Result_fits}
use Rattle.type_soundness.proofs.Programs.{sized_never_wrong}
use Rattle.type_soundness.proofs.Resulting.{scalar_data}

abbrev here : Place
here = record { file = 0; line = 1; column = 0 }

abbrev number : ℕ → BindId
number n = record { 0 = n }

abbrev i64_type : FlatType
i64_type = Type_use (ref.Scalar (types.Int int.I64)) no_arg

-- def rows [n] (xs: [n]i64): i64 = n, where rows has the number 0, n 1 and xs 2
abbrev rows : Defined
rows = record {
  name = Bound_pattern (number 0);
  parameters = Size_parameter (number 1) ∷ [];
  value = Lambda (pattern_and (Typed_pattern (Bound_pattern (number 2)) (Array_type (Size_use (ref.Bound (number 1))) i64_type)) no_pattern) (Strict (Declared i64_type) here (term_and (Use (ref.Bound (number 1)) here 0) no_term));
}

-- ---- its names
-- only n is a size
abbrev is_n : ℕ → Bool
is_n k = nat_eq k 1

rows_formed : Definitions_formed (rows ∷ [])
rows_formed = ((tt, (tt, (tt, tt))), tt)

rows_apart : Definitions_apart is_n (rows ∷ [])
rows_apart = (((refl, tt), refl), ((refl, tt), (tt, tt)), tt)

-- without a sizing n is no size, and where all names are called sizes, that of the definition is one
unsized_apart : Definitions_apart (is_size_in None) (rows ∷ []) → ⊥
unsized_apart h = let z : false ≡ true = h.0.0.0 in cc

all_apart : Definitions_apart (λ k. true) (rows ∷ []) → ⊥
all_apart h = let z : true ≡ false = h.0.1 in cc

-- ---- its types
abbrev function : Ty
function = fun_ty (array_ty i64_ty) i64_ty

-- of rows, its lambda, xs, the body and n
unfoldable types_of : Sub
types_of n = slice_index_or (function ∷ function ∷ array_ty i64_ty ∷ i64_ty ∷ i64_ty ∷ []) n i64_ty

module _ (N : Names) (K : Kinds) where
  rows_typed : (c : Sub) → (definition_scheme N kind.Data rows 0 nothing).typed c K types_of
  unfolding types_of ℕ_discrete
  rows_typed c = ((tt, ((((tt, (refl, (i64_ty, refl, (refl, scalar_data K (types.Int int.I64))))), tt), ((refl, tt), refl, refl)), refl)), refl)

  variant : (c : Sub) → Variant (definition_scheme N kind.Data rows 0 nothing) c K types_of
  variant c = record { other = types_of; outside = λ n p. refl; kept = λ n p q f. refl; typed = rows_typed c }

  program_typed : Program_typed N kind.Data (rows ∷ []) K types_of
  program_typed = ((rows_typed (own_types kind.Data rows.parameters), λ c suits. variant c), tt)

  rows_used : (scope_behind N kind.Data (rows ∷ []) 0 nothing).uses 0 K types_of function
  unfolding types_of ℕ_discrete variant
  rows_used = (types_of, tt, (variant types_of, refl))

-- ---- each flat program that is this one
literal_less : (m : ℕ) → Literal rows.value 1 m → ⊥
literal_less m l = elim l as (λ x. ⊥) [ inl x ↦ absurd x | inr x ↦ elim x as (λ y. ⊥) [ inl y ↦ absurd y | inr y ↦ absurd y ] ]

only_one : (ds : List Definition) → map defined ds ≡ rows ∷ [] → One_each ds
only_one [] e = tt
only_one (d ∷ []) e = (tt, tt)
only_one (d ∷ d' ∷ ds) e = absurd cc

module _ (N : Names) (are : AreNames N) (K : Kinds) (flat : Flat) (is : program_of flat ≡ rows ∷ []) (integer_at : ℕ → IntType) (Z : Sizing) where
  abbrev told : Told
  told = record { integer_at = integer_at; sizes = Some (record { size_at = Z.size_at; home = Z.home; fields = Z.fields; is_size = is_n; used = Z.used }) }

  rows_sized : Is_sized N kind.Data K types_of told flat
  rows_sized = record {
    holds_data = omega arith;
    typed = subst (λ ds. Program_typed N kind.Data ds K types_of) (sym is) (program_typed N K);
    formed = subst Definitions_formed (sym is) rows_formed;
    apart = subst (Definitions_apart is_n) (sym is) rows_apart;
    told = subst (λ ds. Definitions_told integer_at types_of ds 0) (sym is) ((λ m l. absurd (literal_less m l)), tt);
    once = only_one flat.definitions.now is;
    small = subst (λ ds. program_numbers ds < widest) (sym is) (omega arith);
  }

  -- gives for each array an i64 or a report
  rows_never_wrong : (tight : Bool) (budget : ℕ) (v : FlatValue) → Arguments_fit N told (plain tight) budget false (more (array_ty i64_ty) none) (v ∷ []) → Safe (Result_fits N told (plain tight) budget false i64_ty) (Flat_means told (plain tight) budget (named_terms flat) (number 0) (v ∷ []))
  rows_never_wrong tight budget v fit =
      sized_never_wrong N are kind.Data K types_of told tight budget flat rows_sized (number 0) (more (array_ty i64_ty) none) i64_ty (v ∷ []) (subst (λ ds. (scope_behind N kind.Data ds 0 nothing).uses 0 K types_of function) (sym is) (rows_used N K)) fit
