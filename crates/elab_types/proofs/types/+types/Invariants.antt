-- What was done so far of a list.
use Rattle.std.proofs.Common.{◌≡◌, drop}
use Rattle.fut_flat.specs.Erased.{type_of}
use Rattle.fut_flat.proofs.ErasedPatterns.{argument_of, type_field}
use Rattle.elab_scopes.specs.Table.{bound_of, made_of}
use Rattle.elab_scopes.specs.Walks.{Doing}
use Rattle.elab_types.specs.Elements.{type_part, type_field_part, argument_part}
use Rattle.elab_types.proofs.types.+types.Given as goal

abbrev pub invariant-resolved_types-loop-part : goal.invariant-resolved_types-loop-part
invariant-resolved_types-loop-part l = (Doing made_of type_of type_part l.parts l.fn.names (drop l.part-index l.parts) l.made.items l.names) × (bound_of l.names ≡ bound_of l.fn.names)

abbrev pub invariant-resolved_fields-loop-field : goal.invariant-resolved_fields-loop-field
invariant-resolved_fields-loop-field l = (Doing made_of type_field type_field_part l.fields l.fn.names (drop l.field-index l.fields) l.made.items l.names) × (bound_of l.names ≡ bound_of l.fn.names)

abbrev pub invariant-resolved_args-loop-arg : goal.invariant-resolved_args-loop-arg
invariant-resolved_args-loop-arg l = (Doing made_of argument_of (argument_part l.at) l.args l.fn.names (drop l.arg-index l.args) l.made.items l.names) × (bound_of l.names ≡ bound_of l.fn.names)
