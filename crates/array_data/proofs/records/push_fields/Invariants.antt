use Rattle.array_data.specs.Held.{held_all, named_parts}
use Rattle.array_data.proofs.Recording.{Fields_up_to}
use Rattle.array_data.proofs.records.push_fields.Given as goal

abbrev pub invariant-loop-name : goal.invariant-loop-name
invariant-loop-name l = Fields_up_to (named_parts l.fields (held_all l.parts)) l.names l.name-index (held_all l.initial.stack.items) (held_all l.stack.items)
