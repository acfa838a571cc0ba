use Rattle.std.proofs.Common.{rules, refl}
use Rattle.array_data.specs.Held.{built_rows, held}
use Rattle.array_primitives.proofs.Nesting.{groups_heavy, groups_told}
use Rattle.array_primitives.proofs.nested.unflattened.Goals as goal

pub returns-then-not-branch : goal.returns-then-not-branch
returns-then-not-branch c = groups_heavy c.args.at (held c.args.whole.now) c.args.many c.args.long c.in_ok-element.element c.in_ok-share.field-0 c.in_ok-row.row c.in_ok-element.ensures c.in_ok-share.ensures c.in_ok-row.ensures c.in_ok-are_light.field-0 c.in_ok-are_light.ensures (search rules) c.failed.result c.failed.ensures

pub returns : goal.returns
returns c = groups_told c.args.at (held c.args.whole.now) c.args.many c.args.long c.in_ok-element.element c.in_ok-share.field-0 c.in_ok-row.row c.in_ok-element.ensures c.in_ok-share.ensures c.in_ok-row.ensures c.in_ok-are_light.field-0 c.in_ok-are_light.ensures (search rules)
    c.args.many c.args.long (built_rows c.in_ok-built.built) (held c.in_ok-untested.field-0) refl refl c.in_ok-built.ensures c.in_ok-untested.ensures.value
