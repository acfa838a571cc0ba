-- What is known of a use.
use Rattle.std.proofs.Common.{◌≡◌, ◌∙◌, Option, Some, None, sym, ap}
use Rattle.fut_scalar.specs.declared.place.BindId.{BindId}
use Rattle.fut_scalar.specs.declared.scalar.ScalarType.{ScalarType}
use Rattle.fut_flat.specs.declared.prim.Primitive.{Primitive}
use Rattle.fut_flat.specs.declared.prim.Ref.{Ref}
use Rattle.fut_flat.specs.declared.prim.Ref.TheVariants as ref
use Rattle.fut_meaning.specs.Knowns.{Known, Data, Scope, find, or_else, or_size, known_use, known_primitive}

-- of a local name, or else of a definition
pub name_here : {a : Option Known} {s : Known} (b : Option Known) → Some s ≡ a → or_size (or_else a b) ≡ s
name_here b e = ap (λ z. or_size (or_else z b)) (sym e)

pub name_behind : {a b : Option Known} {s : Known} → None ≡ a → Some s ≡ b → or_size (or_else a b) ≡ s
name_behind {b = b} e h = ap (λ z. or_size (or_else z b)) (sym e) ∙ ap or_size (sym h)

-- or else of a size
pub name_nowhere : {a b : Option Known} → None ≡ a → None ≡ b → or_size (or_else a b) ≡ Data
name_nowhere {b = b} e h = ap (λ z. or_size (or_else z b)) (sym e) ∙ ap or_size (sym h)

module _ (tops sc : Scope) (u : Ref) where
  pub use_name : (b : BindId) → u ≡ ref.Bound b → known_use tops sc u ≡ Some (or_size (or_else (find sc b.0) (find tops b.0)))
  unfolding known_use
  use_name b is = ap (known_use tops sc) is

  pub use_primitive : (p : Primitive) → u ≡ ref.Prim p → known_use tops sc u ≡ Some (known_primitive p)
  unfolding known_use
  use_primitive p is = ap (known_use tops sc) is

  pub use_scalar : (s : ScalarType) → u ≡ ref.Scalar s → known_use tops sc u ≡ None
  unfolding known_use
  use_scalar s is = ap (known_use tops sc) is
