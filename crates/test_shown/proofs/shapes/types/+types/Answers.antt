-- A list of parts is smaller than the type.
use Rattle.std.proofs.Common.{arith}
use Rattle.fut_tree.proofs.TypeSizes.{argument_parts, tuple_parts, record_parts}
use Rattle.test_shown.proofs.shapes.types.+types.Goals as goal

pub show_type-show_arguments-requires : goal.show_type-show_arguments-requires
show_type-show_arguments-requires t c = (omega (arith, argument_parts c.ty.inside _ c.ty.view_is c.in-Path.names c.in-Path.arguments c.in-Path.is), tt)

pub show_type-show_types-requires : goal.show_type-show_types-requires
show_type-show_types-requires t c = (omega (arith, tuple_parts c.ty.inside _ c.ty.view_is c.in-Tuple.parts c.in-Tuple.is), tt)

pub show_type-show_fields-requires : goal.show_type-show_fields-requires
show_type-show_fields-requires t c = (omega (arith, record_parts c.ty.inside _ c.ty.view_is c.in-Record.fields c.in-Record.is), tt)
