-- The rules for a function where another is wanted.
use Rattle.std.specs.Prelude.{Option}
use Rattle.fut_aliases.specs.declared.refusals.Broken.{Broken}
use Rattle.fut_aliases.specs.Calls.{Held, too_hungry, too_shared}
use Rattle.fut_aliases.specs.Stars.{Stars}
use Rattle.fut_aliases.specs.Values.{Value}
use Rattle.alias_patterns.specs.declared.fitting.Rule.{Rule}
use Rattle.alias_patterns.specs.declared.fitting.Rule.TheVariants as rule

abbrev pub rule_of : Rule → Stars → Held → Option Broken
rule_of rule.Hungry = too_hungry
rule_of rule.Shared = too_shared

-- what waits, with another value
abbrev pub held_with : Value → Held → Held
held_with v a = record { node = a.node; called = a.called; first_name = a.first_name; value = v; losses = a.losses }
