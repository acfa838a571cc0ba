use Rattle.std.proofs.Common.{ap}
use Rattle.std.specs.Str.{bytes_eq}
use Rattle.std.specs.Bool.{nat_eq}
use Rattle.std.specs.Cmp.Lexicographic.{pointwise}
use Rattle.std.specs.Map.{lookup}
use Rattle.type_rules.specs.Labels.{number_of, row_in}
use Rattle.type_rules.proofs.labels.no_labels.Goals as goal

pub returns-clause-names : goal.returns-clause-names
unfolding number_of
returns-clause-names c = λ s. ap (λ es. lookup (λ k. bytes_eq s k.now) es) c.new.ensures.empty

pub returns-clause-records : goal.returns-clause-records
unfolding row_in
returns-clause-records c = λ ls. ap (λ es. lookup (λ k. pointwise nat_eq ls k.items) es) c.new-2.ensures.empty
