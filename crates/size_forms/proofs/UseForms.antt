-- Uses of names, as parts.
use Rattle.std.proofs.Common.{◌≡◌, Bool, false, List, [], sym, subst}
use Rattle.std.specs.Borrow.{Bor}
use Rattle.fut_types.specs.Types.{Sub}
use Rattle.fut_typing.specs.Names.{Names}
use Rattle.sized_types.specs.Sizes.{Size}
use Rattle.fut_sizes.specs.Applications.{Applied, whole}
use Rattle.size_arena.specs.declared.trees.SizeTree.{SizeTree}
use Rattle.size_arena.specs.Trees.{size_of}
use Rattle.size_applying.specs.declared.arguments.Argument.{Argument}
use Rattle.size_applying.specs.declared.arguments.Part.TheVariants as part
use Rattle.size_applying.specs.Wanted.{none_each, Is_part, is_applied, Are_arguments}

module _ (N : Names) (types : Sub) where
  -- a function that is applied to nothing
  pub unapplied : (t : Bor SizeTree) (regular : Bool) (given : Bor (List Argument)) (u : Size) → given.now ≡ [] → size_of t.now ≡ u → Is_part N types (part.Applied t regular given) (Applied u regular [])
  unapplied t regular given u none e = subst (λ z. Is_part N types (part.Applied t regular given) (Applied z regular [])) e (is_applied (subst (λ z. Are_arguments N types z []) (sym none) none_each))

  pub whole_is_part : (t : Bor SizeTree) (given : Bor (List Argument)) (u : Size) → given.now ≡ [] → u ≡ size_of t.now → Is_part N types (part.Applied t false given) (whole u)
  whole_is_part t given u none e = unapplied t false given u none (sym e)
