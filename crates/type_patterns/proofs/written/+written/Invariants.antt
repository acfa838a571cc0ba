use Rattle.std.proofs.Common.{◌+◌, ◌*◌, map, take}
use Rattle.fut_flat.specs.Erased.{type_of, types}
use Rattle.type_patterns.specs.Asking.{field_type}
use Rattle.type_patterns.proofs.Weighing.{weigh, weigh_all}
use Rattle.type_patterns.proofs.Rows.{Row_asked}
use Rattle.type_patterns.proofs.written.+written.Given as goal

abbrev pub invariant-ask_types-loop-part : goal.invariant-ask_types-loop-part
invariant-ask_types-loop-part l = Row_asked l.places l.base l.first l.at (map type_of (take l.part-index l.parts)) l.fn.row l.row l.fn.inference l.inference

abbrev pub invariant-ask_fields-loop-field : goal.invariant-ask_fields-loop-field
invariant-ask_fields-loop-field l = Row_asked l.places l.base l.first l.at (map field_type (take l.field-index l.fields)) l.fn.row l.row l.fn.inference l.inference

abbrev pub decreases-ask_type : goal.decreases-ask_type
decreases-ask_type l = 3 * weigh (type_of l.ty.now)

abbrev pub decreases-ask_array : goal.decreases-ask_array
decreases-ask_array l = 3 * weigh (type_of l.element.now) + 2

abbrev pub decreases-ask_arrow : goal.decreases-ask_arrow
decreases-ask_arrow l = 3 * (weigh (type_of l.from.now) + weigh (type_of l.to.now)) + 2

abbrev pub decreases-ask_result : goal.decreases-ask_result
decreases-ask_result l = 3 * weigh (type_of l.to.now) + 1

abbrev pub decreases-ask_tuple : goal.decreases-ask_tuple
decreases-ask_tuple l = 3 * weigh_all (types (map type_of l.parts.now)) + 2

abbrev pub decreases-ask_types : goal.decreases-ask_types
decreases-ask_types l = 3 * weigh_all (types (map type_of l.parts.now)) + 1

abbrev pub decreases-ask_record : goal.decreases-ask_record
decreases-ask_record l = 3 * weigh_all (types (map field_type l.fields.now)) + 2

abbrev pub decreases-ask_fields : goal.decreases-ask_fields
decreases-ask_fields l = 3 * weigh_all (types (map field_type l.fields.now)) + 1
