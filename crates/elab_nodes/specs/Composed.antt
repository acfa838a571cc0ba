-- The term of a composition of functions, whose names are numbered.
use Rattle.std.specs.Prelude.{Bool, false, [], cond}
use Rattle.fut_scalar.specs.declared.place.BindId.{BindId}
use Rattle.fut_scalar.specs.declared.place.Place.{Place}
use Rattle.fut_flat.specs.declared.prim.Ref.{Ref}
use Rattle.fut_flat.specs.declared.prim.Ref.TheVariants as ref
use Rattle.fut_flat.specs.Terms.{Binding, Bound_pattern, pattern_and, no_pattern, Use, Lambda, Apply, Let}
use Rattle.fut_flat.specs.Erased.{FlatTerm}

abbrev pub name_alone : BindId → Binding Ref BindId
name_alone b = record { sizes = []; parameters = []; is_function = false; pattern = Bound_pattern b }

abbrev pub use_at : Place → BindId → FlatTerm
use_at at b = Use (ref.Bound b) at 0

-- the outer function applied to what the inner one gives
abbrev pub twice_applied : Place → BindId → BindId → BindId → FlatTerm
twice_applied at outer inner x = Apply (use_at at outer) (Apply (use_at at inner) (use_at at x))

-- `>->` applies the left function first, `<-<` the right one
abbrev pub ordered : Place → Bool → BindId → BindId → BindId → FlatTerm
ordered at left_first left right x = cond left_first (twice_applied at right left x) (twice_applied at left right x)

abbrev pub composition : Place → Bool → BindId → FlatTerm → BindId → FlatTerm → BindId → FlatTerm
composition at left_first left f right g x =
    Let (name_alone left) f (Let (name_alone right) g (Lambda (pattern_and (Bound_pattern x) no_pattern) (ordered at left_first left right x)))
