-- What was done so far of a list.
use Rattle.std.proofs.Common.{drop}
use Rattle.fut_flat.specs.Erased.{pattern_of}
use Rattle.fut_flat.proofs.ErasedPatterns.{pattern_field}
use Rattle.elab_scopes.specs.Answers.{naming_of}
use Rattle.elab_scopes.specs.Walks.{Doing}
use Rattle.elab_types.specs.Elements.{pattern_part, field_pattern}
use Rattle.elab_types.proofs.pats.+pats.Given as goal

abbrev pub invariant-named_parts-loop-part : goal.invariant-named_parts-loop-part
invariant-named_parts-loop-part l = Doing naming_of pattern_of pattern_part l.parts l.fn.names (drop l.part-index l.parts) l.made.items l.names

abbrev pub invariant-named_fields-loop-field : goal.invariant-named_fields-loop-field
invariant-named_fields-loop-field l = Doing naming_of pattern_field field_pattern l.fields l.fn.names (drop l.field-index l.fields) l.made.items l.names
