use Rattle.std.proofs.Common.{◌-◌, length, subst, sym, arith}
use Rattle.std.specs.List.{range_with_len}
use Rattle.file_order.specs.Order.{First_cycle}
use Rattle.import_cycles.proofs.Cycles.{cycle_found, no_cycle}
use Rattle.import_cycles.proofs.first_cycle.Goals as goal

pub returns-in-Ok : goal.returns-in-Ok
returns-in-Ok c = λ files is.
    let leads = c.in_ok-is_cycle.ensures.0 c.if-branch.true in
    subst (λ k. First_cycle files k (range_with_len 1 (length c.args.imports.now - 1))) (sym c.in-Ok.ensures.1) (cycle_found c.args.imports.now c.loop-file.file c.loop-file.invariant.0 c.loop-file-test.true c.loop-file.invariant.1 leads files is)

pub returns : goal.returns
returns c = no_cycle c.args.imports.now c.loop-file.file (omega (arith, c.loop-file-test.false)) c.loop-file.invariant.1
