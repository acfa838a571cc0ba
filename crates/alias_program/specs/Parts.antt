-- A term with its arguments so far, in the words of the definition.
use Rattle.fut_aliases.specs.Calls as definition
use Rattle.alias_values.specs.Trees.{type_of}
use Rattle.uniqueness.specs.Held.{held_of, helds_of}
use Rattle.alias_program.specs.declared.parts.Part.{Part}

abbrev pub part_of : Part → definition.Part
part_of p = record { head = held_of p.head; name = p.name; type = type_of p.ty.now; arguments = helds_of p.arguments.now }
