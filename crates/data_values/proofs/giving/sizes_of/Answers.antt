use Rattle.std.proofs.Common.{arith}
use Rattle.std.proofs.lemmas.Grind.{common_steps}
use Rattle.data_values.proofs.FromData.{many_levels}
use Rattle.data_values.proofs.giving.sizes_of.Goals as goal

pub returns-in_ok-put_sizes-in-Rows : goal.returns-in_ok-put_sizes-in-Rows
returns-in_ok-put_sizes-in-Rows c = grind (arith, common_steps, many_levels)
