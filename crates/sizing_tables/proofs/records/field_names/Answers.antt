use Rattle.std.proofs.Common.{◌+◌, List, refl, sym, subst, Bor}
use Rattle.fut_ast.specs.Sorts.{Text}
use Rattle.fut_flat.specs.Erased.{texts}
use Rattle.fut_types.specs.Shapes.{labels_from}
use Rattle.type_rules.specs.Fields.{Numbered}
use Rattle.sizing_tables.proofs.Fielding.{field_more, none_numbered}
use Rattle.sizing_tables.proofs.records.field_names.Goals as goal

pub loop-i-init : goal.loop-i-init
loop-i-init c = subst (λ (xs : List (Bor Text)). Numbered c.args.labels.now (texts xs) (labels_from c.args.all.now c.args.row.first 0)) (sym c.new-names.ensures.items) (none_numbered c.args.labels.now c.args.all.now c.args.row.first)

pub loop-i-preserved : goal.loop-i-preserved
loop-i-preserved c =
    subst (λ (xs : List (Bor Text)). Numbered c.args.labels.now (texts xs) (labels_from c.args.all.now c.args.row.first (c.loop-i.i + 1))) (sym c.in_ok-push.ensures.items)
    (field_more c.args.labels.now c.args.all.now c.args.row.first c.loop-i.i c.in-Some.at _ c.loop-i.names.items c.in_ok-text.text c.in-Some.ensures.1 refl c.loop-i.invariant c.in_ok-text.ensures)
