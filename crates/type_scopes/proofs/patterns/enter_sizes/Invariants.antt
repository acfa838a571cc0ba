use Rattle.std.proofs.Common.{take}
use Rattle.type_scopes.proofs.Binding.{Sized}
use Rattle.type_scopes.proofs.patterns.enter_sizes.Given as goal

abbrev pub invariant-loop-size : goal.invariant-loop-size
invariant-loop-size l = Sized l.base (take l.size-index l.sizes) l.fn.inference l.inference
