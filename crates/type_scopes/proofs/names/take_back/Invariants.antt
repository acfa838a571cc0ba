use Rattle.std.proofs.Common.{◌≡◌, ◌++◌, List, length}
use Rattle.type_scopes.specs.declared.names.Past.{Past}
use Rattle.type_scopes.proofs.Table.{Left}
use Rattle.type_scopes.proofs.names.take_back.Given as goal

abbrev pub invariant-loop-inference : goal.invariant-loop-inference
invariant-loop-inference l = (before added : List Past) → l.initial.inference.past ≡ before ++ added → length before ≡ l.mark → Left l.initial.inference l.inference before added

abbrev pub decreases-loop-inference : goal.decreases-loop-inference
decreases-loop-inference l = length l.inference.past
