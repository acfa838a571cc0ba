-- Refusals that are told of another node.
use Rattle.std.specs.Prelude.{◌≡◌}
use Rattle.type_graph.specs.declared.UnifyErr.{UnifyErr}
use Rattle.type_graph.specs.declared.UnifyErr.TheVariants as err

-- the same reason, though the nodes may differ
abbrev pub Same_reason : UnifyErr → UnifyErr → Type 0
Same_reason (err.Clash i j) (err.Clash x y) = Unit {0}
Same_reason (err.BadKind i k) (err.BadKind x l) = k ≡ l
Same_reason (err.Infinite i) (err.Infinite x) = Unit {0}
Same_reason err.Memory err.Memory = Unit {0}
Same_reason e f = ⊥
