-- What a name stands for where it is used.
use Rattle.std.proofs.Common.{◌≡◌, ℕ, [], Some, None, ap, ◌∙◌}
use Rattle.fut_scalar.specs.declared.place.BindId.{BindId}
use Rattle.fut_scalar.specs.declared.scalar.ScalarType.{ScalarType}
use Rattle.fut_flat.specs.declared.prim.Primitive.{Primitive}
use Rattle.fut_flat.specs.declared.prim.Ref.TheVariants as ref
use Rattle.fut_types.specs.Types.{Ty, Kinds, Sub}
use Rattle.fut_typing.specs.Names.{Names}
use Rattle.fut_aliases.specs.Aliases.{Naming, Set}
use Rattle.fut_aliases.specs.Looking.{use_value}
use Rattle.fut_aliases.specs.Patterns.{Scope}
use Rattle.fut_aliases.specs.Stars.{Stars, primitive_stars}
use Rattle.fut_aliases.specs.Values.{Value, at_type, of_type, with_stars}

module _ (naming : Naming) (N : Names) (K : Kinds) (types : Sub) (n : ℕ) (scope : Scope) (t : Ty) (v : Value) where
  pub use_bound : (b : BindId) (w : Value) → Some w ≡ scope b.0 → t ≡ types n → v ≡ at_type K t w → v ≡ use_value naming N K types n scope (ref.Bound b)
  use_bound b w s e f = f ∙ ap (λ z. at_type K z w) e ∙ ap (λ z. use_value naming N K types n (λ c. z) (ref.Bound b)) s

  pub use_unbound : (b : BindId) (set : Set) → None ≡ scope b.0 → t ≡ types n → set ≡ [] → v ≡ of_type K set t → v ≡ use_value naming N K types n scope (ref.Bound b)
  use_unbound b set s e g f = f ∙ ap (λ z. of_type K z t) g ∙ ap (of_type K []) e ∙ ap (λ z. use_value naming N K types n (λ c. z) (ref.Bound b)) s

  pub use_primitive : (p : Primitive) (set : Set) (u : Stars) → u ≡ primitive_stars p → t ≡ types n → set ≡ [] → v ≡ with_stars K set u t → v ≡ use_value naming N K types n scope (ref.Prim p)
  use_primitive p set u s e g f = f ∙ ap (λ z. with_stars K z u t) g ∙ ap (λ z. with_stars K [] z t) s ∙ ap (with_stars K [] (primitive_stars p)) e

  pub use_scalar : (s : ScalarType) (set : Set) → t ≡ types n → set ≡ [] → v ≡ of_type K set t → v ≡ use_value naming N K types n scope (ref.Scalar s)
  use_scalar s set e g f = f ∙ ap (λ z. of_type K z t) g ∙ ap (of_type K []) e

pub ruleset use_forms = (use_bound, use_unbound, use_primitive, use_scalar)
