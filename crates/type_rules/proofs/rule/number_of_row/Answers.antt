use Rattle.std.proofs.Common.{◌≡◌, ◌↔◌, ℕ, List, length, Option, subst, MatchOption}
use Rattle.std.specs.List.{Contains}
use Rattle.fut_typing.specs.Names.{Once}
use Rattle.type_rules.proofs.Growing.{on_same}
use Rattle.type_rules.proofs.Widening.{row_of_list}
use Rattle.type_rules.proofs.rule.number_of_row.Goals as goal

pub returns-in-Ok-None-clause-on : goal.returns-in-Ok-None-clause-on
returns-in-Ok-None-clause-on c = on_same c.args.labels.now c.args.table.now

pub returns-in-Ok-clause-number : goal.returns-in-Ok-clause-number
returns-in-Ok-clause-number c = row_of_list c.record.new.labels c.record.new.table c.args.row.now c.in-Ok-Some.list c.as_slice.result.now c.in-Ok.number c.in-Ok.ensures.is c.in-Ok.ensures.number c.as_slice.ensures
    (subst (λ (found : Option (List ℕ)). MatchOption found (Once c.args.row.now → ⊥) (λ list. Once c.args.row.now × ((l : ℕ) → Contains list l ↔ Contains c.args.row.now l) × (length list ≡ length c.args.row.now))) c.in-Ok-Some.field-0-is c.in-Ok-Some.ensures.found)
