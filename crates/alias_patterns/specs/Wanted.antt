-- Stars and written types that may be there.
use Rattle.std.specs.Prelude.{Option, Some, None}
use Rattle.std.specs.Borrow.{Bor}
use Rattle.fut_scalar.specs.declared.place.BindId.{BindId}
use Rattle.fut_flat.specs.declared.prim.Ref.{Ref}
use Rattle.fut_flat.specs.declared.ty.TypeExp.{TypeExp}
use Rattle.fut_flat.specs.Terms.{Operation, Declared}
use Rattle.fut_flat.specs.Erased.{FlatType, type_of}
use Rattle.fut_aliases.specs.Stars.{Stars}
use Rattle.alias_values.specs.declared.trees.StarTree.{StarTree}
use Rattle.alias_values.specs.Trees.{stars_of}

-- what is wanted of a function, or declared of a result
abbrev pub wanted_of : Option (Bor StarTree) → Option Stars
wanted_of (Some u) = Some (stars_of u.now)
wanted_of None = None

-- the type that an operation declares
abbrev pub type_declared : Operation Ref BindId → Option FlatType
type_declared (Declared e) = Some e
type_declared o = None

abbrev pub type_held : Option (Bor TypeExp) → Option FlatType
type_held (Some e) = Some (type_of e.now)
type_held None = None
