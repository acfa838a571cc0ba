use Rattle.std.proofs.Common.{◌≡◌, length}
use Rattle.unfold_reach.proofs.SpanForms.{Spans_to}
use Rattle.unfold_reach.proofs.spans.number.Given as goal

abbrev pub invariant-loop-definition : goal.invariant-loop-definition
invariant-loop-definition l = (Spans_to l.definitions l.spans l.definition-index l.behind) × (l.at ≡ l.definition-index) × (length l.spans ≡ length l.definitions)
