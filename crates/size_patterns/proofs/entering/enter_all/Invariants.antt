use Rattle.std.proofs.Common.{map}
use Rattle.fut_flat.specs.Erased.{pattern_of, patterns}
use Rattle.fut_typing.specs.Names.{Names}
use Rattle.fut_sizes.specs.Matching as matching
use Rattle.fut_sizes.specs.Scopes.{Scope}
use Rattle.fut_sizes.specs.Sizing.{all_entered}
use Rattle.alias_parts.specs.Known.{Knows}
use Rattle.size_program.specs.Program.{sub_of}
use Rattle.size_program.specs.Tables.{In_scope}
use Rattle.size_slots.specs.Held.{Held, Holds}
use Rattle.size_written.specs.Answers.{held}
use Rattle.size_patterns.specs.Arrows.{starting}
use Rattle.size_patterns.proofs.Chains.{Reaches}
use Rattle.size_patterns.proofs.EnterForms.{Entered_far, entered_from}
use Rattle.size_patterns.proofs.entering.enter_all.Given as goal

abbrev pub invariant-loop-pattern : goal.invariant-loop-pattern
invariant-loop-pattern l = record {
  holds : Held l.table;
  far : (N : Names) (scope : Scope) (σ : matching.Found) → Knows l.program.names N → In_scope l.names scope → Holds l.fn.table σ
      → Reaches (Entered_far l.table l.inside.names.now l.inside.wanted l.parameters.items) (all_entered N (sub_of l.program.types.now) l.lambda (patterns (map pattern_of l.pats)) l.first (starting scope (held l.wanted) σ)) (entered_from N (sub_of l.program.types.now) l.lambda l.pats l.pattern-index l.at);
}
