-- Uses of names and of primitives.
use Rattle.std.proofs.Common.{◌≡◌, Bool, true, false, cond, ℕ, ◌≤◌, refl, sym, subst, arith, Option, Some, None}
use Rattle.fut_scalar.specs.declared.place.Place.{Place}
use Rattle.fut_scalar.specs.declared.scalar.IntType.TheVariants as int
use Rattle.fut_flat.specs.declared.prim.Primitive.{Primitive}
use Rattle.fut_flat.specs.declared.prim.Folding.TheVariants as folding
use Rattle.fut_flat.specs.declared.prim.Primitive.TheVariants as prim
use Rattle.fut_flat.specs.declared.prim.Ref.{Ref}
use Rattle.fut_flat.specs.declared.prim.Ref.TheVariants as ref
use Rattle.fut_types.specs.declared.Kind.{Kind}
use Rattle.fut_types.specs.declared.Kind.TheVariants as kind
use Rattle.fut_types.specs.Types.{Ty, Sub, Kinds, HasKind, level, rank, applied, all_applied}
use Rattle.fut_typing.specs.Names.{Names, AreNames}
use Rattle.fut_typing.specs.Primitives.{i64_ty, prim_type}
use Rattle.fut_typing.specs.Scopes.{Scope, Used}
use Rattle.fut_meaning.specs.Found.{Told, Sizing}
use Rattle.fut_meaning.specs.Outcomes.{Val}
use Rattle.fut_meaning.specs.Taken.{size_value}
use Rattle.fut_meaning.specs.Values.{Primitive_value, no_value}
use Rattle.fut_meaning.specs.Operators.{lowest, highest}
use Rattle.fut_meaning.specs.Operations.{arity, is_of_scalars, primitive_use}
use Rattle.fut_meaning.specs.Claims.{HasOut}
use Rattle.fut_meaning.specs.Flats.{FlatValue, FlatTops, FlatEnv, FlatMode, flat_look, size_or, flat_named}
use Rattle.fut_meaning.specs.Uses.{is_size_in}
use Rattle.type_soundness.specs.Fits.{Fits}
use Rattle.type_soundness.specs.Meant.{Use_meant}
use Rattle.type_soundness.specs.Environments.{Name_fits, Env_fits}
use Rattle.type_soundness.proofs.Applying.{Is_free, primitive_used}
use Rattle.type_soundness.proofs.ArrayPrimitives.{array_primitive}
use Rattle.type_soundness.proofs.Using.{convert_used, min_used, max_used, abs_used, popc_used, number_used}

module _ (N : Names) (are : AreNames N) (T : Told) (M : FlatMode) (budget : ℕ) (total : Bool) (free : Is_free M budget total) (places : Kind) (wide : level kind.Data ≤ level places) (K : Kinds) where
  abbrev At : FlatTops → Ty → FlatValue → Type 0
  At tops t v = Fits N T M budget total t tops v

  module _ (given : Sub) (kinds : (n : ℕ) → HasKind K places (given n)) where
    data_at : (n : ℕ) → HasKind K kind.Data (given n)
    data_at n = let k : level places ≤ rank K (given n) = kinds n in omega (arith, wide, k)

    array_used : (tops : FlatTops) (p : Primitive) (at : Place) → is_of_scalars p ≡ false → 1 ≤ arity p → At tops (applied given (prim_type p)) (Primitive_value p at no_value)
    array_used tops p at s l =
        let r = array_primitive N are T M budget total K given data_at p at s l in
        subst (λ y. At tops y (Primitive_value p at no_value)) (sym r.is) (primitive_used N are T M budget total K free tops p at r.first r.rest r.result s r.all r.taken r.jobs)

    primitive_fits : (tops : FlatTops) (p : Primitive) (at : Place) → At tops (applied given (prim_type p)) (primitive_use p at)
    unfolding applied all_applied
    primitive_fits tops (prim.Convert to from) at = convert_used N T M budget total K tops to from at
    primitive_fits tops (prim.Min i) at = min_used N T M budget total K tops i at
    primitive_fits tops (prim.Max i) at = max_used N T M budget total K tops i at
    primitive_fits tops (prim.Abs i) at = abs_used N T M budget total K tops i at
    primitive_fits tops (prim.Popc i) at = popc_used N T M budget total K tops i at
    primitive_fits tops (prim.Lowest i) at = number_used N T M budget total K tops i (lowest i)
    primitive_fits tops (prim.Highest i) at = number_used N T M budget total K tops i (highest i)
    primitive_fits tops (prim.NumBits i) at = number_used N T M budget total K tops int.I32 _
    primitive_fits tops (prim.Fold folding.Sum i) at = array_used tops (prim.Fold folding.Sum i) at refl (omega arith)
    primitive_fits tops (prim.Fold folding.Product i) at = array_used tops (prim.Fold folding.Product i) at refl (omega arith)
    primitive_fits tops (prim.Fold folding.Minimum i) at = array_used tops (prim.Fold folding.Minimum i) at refl (omega arith)
    primitive_fits tops (prim.Fold folding.Maximum i) at = array_used tops (prim.Fold folding.Maximum i) at refl (omega arith)
    primitive_fits tops p at = array_used tops p at refl (omega arith)

  -- a size is an i64
  size_used : (tops : FlatTops) (Z : Sizing) (env : FlatEnv) (b : ℕ) → At tops i64_ty (size_value Z env b)
  unfolding size_value
  size_used tops Z env b = number_used N T M budget total K tops int.I64 _

  name_used : (tops : FlatTops) (t : Ty) (b : ℕ) (env : FlatEnv) (sizes : Option Sizing) → Name_fits N T M budget total tops t (flat_look tops env b) (is_size_in sizes b) → HasOut (At tops t) (size_or sizes env b (flat_look tops env b))
  name_used tops t b env None h = subst (λ o. HasOut (At tops t) o) (sym h.1) h.2
  name_used tops t b env (Some Z) h = known (Z.is_size b) h
    where
      known : (is : Bool) → Name_fits N T M budget total tops t (flat_look tops env b) is → HasOut (At tops t) (cond is (Val (size_value Z env b)) (flat_look tops env b))
      known true e = subst (λ u. At tops u (size_value Z env b)) (sym e) (size_used tops Z env b)
      known false r = subst (λ o. HasOut (At tops t) o) (sym r.1) r.2

  -- a use of a name
  pub use_fits : (tops : FlatTops) (P : ℕ → Type 0) (scope : Scope) (x : Sub) (r : Ref) (t : Ty) (at : Place) (env : FlatEnv) → Use_meant P r → Used places scope K x r t → Env_fits N T M budget total tops P scope K x env → HasOut (At tops t) (flat_named T tops env r at)
  use_fits tops P scope x (ref.Bound b) t at env m u h = name_used tops t b.0 env T.sizes (h b.0 m t u)
  use_fits tops P scope x (ref.Prim p) t at env m u h = subst (λ y. At tops y (primitive_use p at)) (sym u.2) (primitive_fits u.0 u.1 tops p at)
  use_fits tops P scope x (ref.Scalar s) t at env m u h = absurd u
