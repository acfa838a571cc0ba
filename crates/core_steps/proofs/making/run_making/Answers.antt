use Rattle.std.proofs.Common.{refl}
use Rattle.core_code.specs.Registers.{state}
use Rattle.core_steps.proofs.Makes.{making_copy}
use Rattle.core_steps.proofs.making.run_making.Goals as goal

pub returns-in-Copy : goal.returns-in-Copy
returns-in-Copy c budget =
    making_copy budget c.args.making c.in-Copy.atoms c.args.place (state c.args.arrays.now c.args.table.now c.args.stack.now.items) (state c.args.arrays.now c.args.table.now c.push_all.new.stack.items) c.push_all.result c.in-Copy.is refl refl c.push_all.ensures.told
