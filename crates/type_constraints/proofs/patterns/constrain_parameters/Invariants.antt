use Rattle.std.proofs.Common.{map, take}
use Rattle.fut_flat.specs.Erased.{pattern_of}
use Rattle.type_constraints.proofs.Functions.{Row_open}
use Rattle.type_constraints.proofs.patterns.constrain_parameters.Given as goal

abbrev pub invariant-loop-param : goal.invariant-loop-param
invariant-loop-param l = Row_open l.setting.places l.setting.base l.setting.depth l.lo l.at (map pattern_of (take l.param-index l.params)) l.fn.begins l.begins l.fn.inference l.inference
