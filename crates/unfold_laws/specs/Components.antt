-- The types of the components of data: in a shape, a tuple and a record have those of their parts, in order.
use Rattle.std.specs.Prelude.{Option, Some, None}
use Rattle.fut_types.specs.declared.Head.TheVariants as head
use Rattle.fut_types.specs.Shapes.{part_named}
use Rattle.fut_types.specs.Types.{Ty, Made, Tys, none, more}
use Rattle.fut_typing.specs.Names.{Names}
use Rattle.unfold.specs.Shapes.{Shape, Scalar_shape, Tuple_shape, Record_shape, Shapes, no_shape, shape_and, Field_shapes, no_field_shape, field_shape_and}

abbrev pub with_part : Option Ty → (Ty → Tys) → Tys → Tys
with_part None k rest = rest
with_part (Some t) k rest = k t

-- of a value of this type, and then a rest
unfoldable mutual
  pub components : Names → Shape → Ty → Tys → Tys
  components N Scalar_shape t rest = more t rest
  components N (Tuple_shape hs) (Made head.Tuple ts) rest = all_components N hs ts rest
  components N (Tuple_shape hs) t rest = rest
  components N (Record_shape hs) (Made (head.Record n) ts) rest = field_components N hs (Made (head.Record n) ts) rest
  components N (Record_shape hs) t rest = rest

  pub all_components : Names → Shapes → Tys → Tys → Tys
  all_components N no_shape ts rest = rest
  all_components N (shape_and h hs) none rest = rest
  all_components N (shape_and h hs) (more t ts) rest = components N h t (all_components N hs ts rest)

  pub field_components : Names → Field_shapes → Ty → Tys → Tys
  field_components N no_field_shape t rest = rest
  field_components N (field_shape_and f h hs) t rest = with_part (part_named N.shapes (N.label f) t) (λ u. components N h u (field_components N hs t rest)) (field_components N hs t rest)
