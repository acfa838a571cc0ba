-- What was taken so far.
use Rattle.std.proofs.Common.{◌≡◌, map, take}
use Rattle.elab_scopes.proofs.scope.Scope.names.Given as goal

abbrev pub invariant-loop-layer : goal.invariant-loop-layer
invariant-loop-layer l = l.names.items ≡ map (λ x. x.entry) (take l.layer-index l.layers)
