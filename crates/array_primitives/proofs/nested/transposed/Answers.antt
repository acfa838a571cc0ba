use Rattle.std.proofs.Common.{rules, refl}
use Rattle.array_data.specs.Held.{built_rows, held}
use Rattle.array_primitives.proofs.Nesting.{transpose_heavy, transpose_done}
use Rattle.array_primitives.proofs.nested.transposed.Goals as goal

pub returns-then-not-branch : goal.returns-then-not-branch
returns-then-not-branch c = transpose_heavy c.args.at c.args.form.now c.args.rows.now c.requires c.size_of-many.result c.size_of-many.ensures c.in_ok-element.element c.in_ok-share.field-0 c.in_ok-element.ensures c.in_ok-share.ensures _ refl c.in_ok-column.column c.in_ok-column.ensures c.in_ok-are_light.field-0 c.in_ok-are_light.ensures (search rules) c.failed.result c.failed.ensures

pub returns : goal.returns
returns c = transpose_done c.args.at c.args.form.now c.args.rows.now c.requires c.size_of-many.result c.size_of-many.ensures c.in_ok-element.element c.in_ok-share.field-0 c.in_ok-element.ensures c.in_ok-share.ensures _ refl c.in_ok-column.column c.in_ok-column.ensures c.in_ok-are_light.field-0 c.in_ok-are_light.ensures (search rules)
    c.size_of-many.result (built_rows c.in_ok-built.built) (held c.in_ok-untested.field-0) refl c.in_ok-built.ensures c.in_ok-untested.ensures.value
