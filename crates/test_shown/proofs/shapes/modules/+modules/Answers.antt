-- A list of parts is smaller than the module.
use Rattle.std.proofs.Common.{arith}
use Rattle.fut_tree.proofs.ModSizes.{decs_parts, apply_parts}
use Rattle.test_shown.proofs.shapes.modules.+modules.Goals as goal

pub show_module-show_decs-requires : goal.show_module-show_decs-requires
show_module-show_decs-requires t c = (omega (arith, decs_parts c.module.inside _ c.module.view_is c.in-Decs.decs c.in-Decs.is), tt)

pub show_module-show_modules-requires : goal.show_module-show_modules-requires
show_module-show_modules-requires t c = (omega (arith, apply_parts c.module.inside _ c.module.view_is c.in-Apply.function c.in-Apply.arguments c.in-Apply.is), tt)
