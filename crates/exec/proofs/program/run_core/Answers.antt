use Rattle.core_code.specs.Registers.{state}
use Rattle.exec.proofs.Programs.{core_done}
use Rattle.exec.proofs.program.run_core.Goals as goal

pub returns : goal.returns
returns c =
    core_done c.args.turns c.args.core.now (state c.args.arrays.now c.args.table.now c.args.stack.now.items) c.take.new.table c.take.new.stack.items
    (state c.run_block.new.arrays c.run_block.new.table c.run_block.new.stack.items) c.run_block.result c.in_ok-take.ensures.told c.run_block.ensures
