use Rattle.std.proofs.Common.{rules, set, Some, sym, subst}
use Rattle.unfold_parts.specs.Tables.{Tabled}
use Rattle.unfold_parts.proofs.Tabling.{table_longer, table_with}
use Rattle.unfold_parts.proofs.tops.Tops.with.Goals as goal

pub loop-table-preserved : goal.loop-table-preserved
loop-table-preserved c = table_longer _ _ _ c.loop-table.invariant c.in-Ok-push.ensures.items

pub returns-clause-kept : goal.returns-clause-kept
returns-clause-kept c = subst (λ z. Tabled z (set c.loop-table.table.items c.args.number.0 (Some c.args.known))) (sym c.in-Ok.ensures.ok) (table_with _ _ c.args.number c.args.known c.loop-table.invariant (search rules))
