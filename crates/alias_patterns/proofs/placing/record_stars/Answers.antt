use Rattle.std.proofs.Common.{rules}
use Rattle.alias_values.specs.Trees.{row_of, stars_of}
use Rattle.alias_patterns.proofs.PlaceForms.{record_none, record_var, record_made}
use Rattle.alias_patterns.proofs.placing.record_stars.Goals as goal

pub returns-then-is_empty : goal.returns-then-is_empty
returns-then-is_empty c = λ N k. record_none N (row_of c.args.stars.now) c.args.ty.now _ c.args.fields.now (search rules) c.in_ok-plain.ensures

pub returns-in_ok-made-in-Made : goal.returns-in_ok-made-in-Made
returns-in_ok-made-in-Made c = λ N k. record_made N (row_of c.args.stars.now) c.args.ty.now (stars_of c.in_ok-plain.plain.now) (row_of c.in_ok-row-in-Made.row.items) c.args.fields.now c.in-Made.head c.in-Made.field-1 _ (row_of c.put_fields.new.row.items) (search rules) c.in-Made.is c.in_ok-plain.ensures c.in_ok-row-in-Made.ensures (c.in_ok-put_fields-in-Made.ensures N k) (search rules)

pub returns-in-Var : goal.returns-in-Var
returns-in-Var c = λ N k. record_var N (row_of c.args.stars.now) c.args.ty.now _ c.args.fields.now c.in-Var.field-0 c.in-Var.is c.in_ok-plain.ensures
