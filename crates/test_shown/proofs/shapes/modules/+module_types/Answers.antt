-- The list of members is smaller than the module type.
use Rattle.std.proofs.Common.{arith}
use Rattle.fut_tree.proofs.ModSizes.{specs_parts}
use Rattle.test_shown.proofs.shapes.modules.+module_types.Goals as goal

pub show_mod_type-show_specs-requires : goal.show_mod_type-show_specs-requires
show_mod_type-show_specs-requires t c = (omega (arith, specs_parts c.ty.inside _ c.ty.view_is c.in-Specs.specs c.in-Specs.is), tt)
