-- The members of the modules of scalar types.
use Rattle.std.proofs.Common.{◌≡◌, ℕ, List, [], ◌∷◌, ◌++◌, map, Bool, true, false, cond, Option, Some, None, refl, ◌∙◌, ap}
use Rattle.std.specs.Str.{bytes_eq}
use Rattle.fut_scalar.specs.declared.scalar.ScalarType.{ScalarType}
use Rattle.fut_scalar.specs.declared.scalar.ScalarType.TheVariants as scalar
use Rattle.fut_ast.specs.Sorts.{Text}
use Rattle.fut_flat.specs.declared.prim.Primitive.{Primitive}
use Rattle.fut_flat.specs.declared.prim.Primitive.TheVariants as prim
use Rattle.fut_flat.specs.declared.prim.Ref.{Ref}
use Rattle.fut_flat.specs.declared.prim.Ref.TheVariants as ref
use Rattle.fut_primitives.specs.Table.{name, scalar_name}
use Rattle.fut_primitives.specs.Names.{first_named, scalar_of, other_member, member_from, member_of}
use Rattle.fut_primitives.specs.declared.names.TheConstants.{SCALAR_TYPES}
use Rattle.elab_scopes.specs.Scopes.{Member, value_among, primitive_ref, value_in_module}
use Rattle.elab_scopes.specs.Declarations.{conversion, primitive_member, other_members, scalar_members}
use Rattle.elab_laws.proofs.Readings.{Such, Under}
use Rattle.elab_laws.specs.Claims.{OpenedScalarsAreTheSame}

converted : ScalarType → Option ScalarType → Option Ref → Option Ref
converted to (Some from) others = Some (ref.Prim (prim.Convert to from))
converted to None others = others

among_conversions : (to : ScalarType) (ts : List ScalarType) (ms : List Member) (x : Text) → value_among (map (conversion to) ts ++ ms) x ≡ converted to (first_named scalar_name ts x) (value_among ms x)
unfolding value_among converted
among_conversions to [] ms x = refl
among_conversions to (t ∷ ts) ms x = at_test (bytes_eq (scalar_name t) x) _ _ (among_conversions to ts ms x)
  where
    at_test : (b : Bool) (o : Option Ref) (p : Option ScalarType) → o ≡ converted to p (value_among ms x) → cond b (Some (ref.Prim (prim.Convert to t))) o ≡ converted to (cond b (Some t) p) (value_among ms x)
    at_test true o p is = refl
    at_test false o p is = is

among_primitives : (ps : List Primitive) (x : Text) → value_among (map primitive_member ps) x ≡ primitive_ref (first_named name ps x)
unfolding value_among
among_primitives [] x = refl
among_primitives (p ∷ ps) x = at_test (bytes_eq (name p) x) _ _ (among_primitives ps x)
  where
    at_test : (b : Bool) (o : Option Ref) (q : Option Primitive) → o ≡ primitive_ref q → cond b (Some (ref.Prim p)) o ≡ primitive_ref (cond b (Some p) q)
    at_test true o q is = refl
    at_test false o q is = is

others_are : (t : ScalarType) (x : Text) → first_named name (other_members t) x ≡ other_member t x
others_are (scalar.Int t) x = refl
others_are scalar.Bool x = refl

members_are : (t : ScalarType) (x : Text) (o : Option ScalarType) → converted t o (primitive_ref (other_member t x)) ≡ primitive_ref (member_from t x o)
unfolding converted
members_are t x (Some from) = refl
members_are t x None = refl

pub opened_scalars_are_the_same : OpenedScalarsAreTheSame
unfolding scalar_members value_in_module member_of scalar_of
opened_scalars_are_the_same cs t x =
    among_conversions t SCALAR_TYPES (map primitive_member (other_members t)) x
    ∙ ap (converted t (scalar_of x)) (among_primitives (other_members t) x ∙ ap primitive_ref (others_are t x))
    ∙ members_are t x (scalar_of x)

under_conversions : (n : Such) (to : ScalarType) (ts : List ScalarType) (ms : List Member) → Under n ms → Under n (map (conversion to) ts ++ ms)
under_conversions n to [] ms u = u
under_conversions n to (t ∷ ts) ms u = (tt, under_conversions n to ts ms u)

under_primitives : (n : Such) (ps : List Primitive) → Under n (map primitive_member ps)
under_primitives n [] = tt
under_primitives n (p ∷ ps) = (tt, under_primitives n ps)

-- they have no numbers
pub scalars_under : (n : Such) (t : ScalarType) → Under n (scalar_members t)
unfolding scalar_members
scalars_under n t = under_conversions n t SCALAR_TYPES (map primitive_member (other_members t)) (under_primitives n (other_members t))
