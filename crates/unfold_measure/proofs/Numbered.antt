-- Primitives that are functions.
use Rattle.std.proofs.Common.{◌≡◌, refl}
use Rattle.fut_scalar.specs.declared.scalar.IntType.{IntType}
use Rattle.fut_flat.specs.declared.prim.Primitive.{Primitive}
use Rattle.fut_flat.specs.declared.prim.Folding.TheVariants as folding
use Rattle.fut_flat.specs.declared.prim.Primitive.TheVariants as prim
use Rattle.fut_meaning.specs.Knowns.{Known_primitive, known_none, known_primitive}

-- all but the numbers of a type are functions
pub is_function : (p : Primitive) → ((t : IntType) → p ≡ prim.Lowest t → ⊥) → ((t : IntType) → p ≡ prim.Highest t → ⊥) → ((t : IntType) → p ≡ prim.NumBits t → ⊥) → known_primitive p ≡ Known_primitive p known_none
is_function prim.Map l h b = refl
is_function prim.Map2 l h b = refl
is_function prim.Map3 l h b = refl
is_function prim.Map4 l h b = refl
is_function prim.Map5 l h b = refl
is_function prim.Reduce l h b = refl
is_function prim.ReduceComm l h b = refl
is_function prim.Scan l h b = refl
is_function prim.Filter l h b = refl
is_function prim.Partition l h b = refl
is_function prim.Scatter l h b = refl
is_function prim.ReduceByIndex l h b = refl
is_function prim.Zip l h b = refl
is_function prim.Zip3 l h b = refl
is_function prim.Unzip l h b = refl
is_function prim.Unzip3 l h b = refl
is_function prim.Iota l h b = refl
is_function prim.Replicate l h b = refl
is_function prim.Tabulate l h b = refl
is_function prim.Indices l h b = refl
is_function prim.Length l h b = refl
is_function prim.Null l h b = refl
is_function prim.Head l h b = refl
is_function prim.Last l h b = refl
is_function prim.Init l h b = refl
is_function prim.Tail l h b = refl
is_function prim.Take l h b = refl
is_function prim.Drop l h b = refl
is_function prim.Reverse l h b = refl
is_function prim.Rotate l h b = refl
is_function prim.Concat l h b = refl
is_function prim.Flatten l h b = refl
is_function prim.Unflatten l h b = refl
is_function prim.Transpose l h b = refl
is_function prim.Copy l h b = refl
is_function (prim.Convert to from) l h b = refl
is_function (prim.Min t) l h b = refl
is_function (prim.Max t) l h b = refl
is_function (prim.Abs t) l h b = refl
is_function (prim.Popc t) l h b = refl
is_function (prim.Lowest t) l h b = absurd (l t refl)
is_function (prim.Highest t) l h b = absurd (h t refl)
is_function (prim.NumBits t) l h b = absurd (b t refl)
is_function (prim.Fold folding.Sum t) l h b = refl
is_function (prim.Fold folding.Product t) l h b = refl
is_function (prim.Fold folding.Minimum t) l h b = refl
is_function (prim.Fold folding.Maximum t) l h b = refl
