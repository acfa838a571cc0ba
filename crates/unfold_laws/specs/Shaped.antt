-- Which data of a type is of a shape: scalars and arrays of scalars, which are one component each, and tuples of such data, no
-- wider than what a machine counts. Of other types nothing is said.
use Rattle.std.specs.Prelude.{◌<◌}
use Rattle.fut_scalar.specs.declared.scalar.ScalarType.{ScalarType}
use Rattle.fut_types.specs.declared.Head.TheVariants as head
use Rattle.fut_types.specs.Types.{Ty, Made, Tys, none, more}
use Rattle.fut_typing.specs.Names.{count}
use Rattle.type_soundness.specs.Fits.{widest}
use Rattle.unfold.specs.Shapes.{Shape, Scalar_shape, Tuple_shape, Shapes, no_shape, shape_and}

mutual
  pub data Of_shape : Ty → Shape → Type 0 where
    scalar_of_shape : {s : ScalarType} {ts : Tys} → Of_shape (Made (head.Scalar s) ts) Scalar_shape
    -- an array of scalars, of any rank
    array_of_shape : {t : Ty} → Of_shape t Scalar_shape → Of_shape (Made head.Array (more t none)) Scalar_shape
    tuple_of_shape : {ts : Tys} {hs : Shapes} → count ts < widest → All_of_shapes ts hs → Of_shape (Made head.Tuple ts) (Tuple_shape hs)

  pub data All_of_shapes : Tys → Shapes → Type 0 where
    none_of_shapes : All_of_shapes none no_shape
    more_of_shapes : {t : Ty} {ts : Tys} {h : Shape} {hs : Shapes} → Of_shape t h → All_of_shapes ts hs → All_of_shapes (more t ts) (shape_and h hs)
