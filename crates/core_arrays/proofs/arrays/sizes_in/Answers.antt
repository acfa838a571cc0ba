use Rattle.core_arrays.proofs.Finding.{sizes_are}
use Rattle.core_arrays.proofs.arrays.sizes_in.Goals as goal

pub returns-in-Some : goal.returns-in-Some
returns-in-Some c = sizes_are c.args.wholes.now c.args.at c.in-Some.whole.now c.as_slice.result.now c.in-Some.ensures c.as_slice.ensures
