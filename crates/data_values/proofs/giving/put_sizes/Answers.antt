use Rattle.std.proofs.Common.{arith, ◌++◌}
use Rattle.array_data.specs.Held.{shape_held}
use Rattle.data_values.specs.Met.{sizes_in}
use Rattle.data_values.proofs.FromData.{levels_end}
use Rattle.data_values.proofs.giving.put_sizes.Goals as goal

pub returns : goal.returns
returns c = levels_end c.args.rank c.loop.counter (shape_held c.loop.rest.now) c.loop.sizes (c.args.sizes.now ++ sizes_in c.args.rank (shape_held c.args.form.now)) (omega arith) c.loop.invariant
