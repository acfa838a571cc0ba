-- What a term names from outside, in the words of the definition.
use Rattle.std.specs.Prelude.{List, [], ◌∷◌}
use Rattle.fut_flat.specs.Erased.{Row}
use Rattle.fut_typing.specs.Names.{Names}
use Rattle.fut_aliases.specs.Aliases.{Set, union}
use Rattle.fut_aliases.specs.Capturing as definition
use Rattle.fut_aliases.specs.Capturing.{capture, captures}
use Rattle.fut_aliases.specs.Patterns.{Scope}
use Rattle.alias_values.specs.Trees.{value_of}
use Rattle.alias_captures.specs.declared.captures.Capture.{Capture}
use Rattle.alias_captures.specs.declared.captures.Capture.TheVariants as found

abbrev pub capture_of : Capture → definition.Capture
capture_of (found.Path v) = definition.Path (value_of v.now)
capture_of (found.NamesOf s) = definition.Names_of s.now

-- what a row of lets names before others
abbrev pub lets_before : Names → Scope → List Row → Set → Set
lets_before N scope [] s = s
lets_before N scope (l ∷ ls) s = union (captures (capture N scope l.1)) (lets_before N scope ls s)
