-- What waits for other parts, and where a term stands, in the words of the definition.
use Rattle.std.specs.Prelude.{List, map}
use Rattle.fut_aliases.specs.Calls as definition
use Rattle.fut_aliases.specs.Patterns.{Scope}
use Rattle.alias_values.specs.Trees.{value_of}
use Rattle.uniqueness.specs.declared.held.Held.{Held}
use Rattle.uniqueness.specs.declared.held.Here.{Here}

abbrev pub held_of : Held → definition.Held
held_of a = record { node = a.node; called = a.called; first_name = a.first_name; value = value_of a.value.now; losses = a.losses }

abbrev pub helds_of : List Held → List definition.Held
helds_of = map held_of

-- what is in scope there is not asked
abbrev pub here_of : Scope → Here → definition.Here
here_of scope h = record { scope = scope; fixed = h.fixed.now; loop_from = h.loop_from; function_from = h.function_from; asked = h.asked }
