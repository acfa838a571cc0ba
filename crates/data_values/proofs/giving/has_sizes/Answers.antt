use Rattle.std.proofs.Common.{arith}
use Rattle.array_data.specs.Held.{shape_held}
use Rattle.data_values.proofs.FromData.{sizes_found}
use Rattle.data_values.proofs.giving.has_sizes.Goals as goal

pub returns : goal.returns
returns c = λ _. sizes_found c.args.sizes.now c.loop-size.size-index (shape_held c.args.form.now) (shape_held c.loop-size.rest.now) (omega arith) c.loop-size.invariant
