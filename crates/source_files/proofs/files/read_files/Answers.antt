use Rattle.std.proofs.Common.{ap, arith, length, reverse}
use Rattle.fut_tree.specs.Names.{names}
use Rattle.source_files.proofs.Steps.{none_yet, not_read, one_longer, one_read, one_too_many}
use Rattle.source_files.proofs.files.read_files.Goals as goal

pub loop-init : goal.loop-init
loop-init g c = (ap length c.new-files.ensures.items, none_yet c.args.file.now _ c.new-files.result.items (reverse (names c.in-Ok.pending)) c.new-files.ensures.items (ap reverse c.in-Ok.ensures))

pub returns-in-Err-clause-err : goal.returns-in-Err-clause-err
returns-in-Err-clause-err g c = not_read c.args.file.now _ _ c.loop.files.items (reverse (names c.loop.pending)) c.loop.invariant.1 (reverse (names c.next_unknown.new.pending)) c.in-Some.path.now c.in-Some.ensures _ _ _ _ (omega (arith, c.loop.invariant.0, c.loop-test.true)) c.number_behind-number.ensures c.in-Err.ensures.err

pub loop-preserved : goal.loop-preserved
loop-preserved g c = (one_longer _ _ c.loop.counter _ c.loop.files.items c.read_next.new.files.items _ _ c.in-Ok-read_next.ensures.ok c.loop.invariant.0, one_read c.args.file.now _ _ c.loop.files.items (reverse (names c.loop.pending)) c.loop.invariant.1 (reverse (names c.next_unknown.new.pending)) c.in-Some.path.now c.in-Some.ensures _ _ c.read_next.new.files.items (reverse (names c.read_next.new.pending)) c.number_behind-number.ensures c.in-Ok-read_next.ensures.ok c.in-Ok-read_next.ensures.same)

pub returns-clause-err : goal.returns-clause-err
returns-clause-err g c = one_too_many c.args.file.now _ _ c.loop.files.items (reverse (names c.loop.pending)) c.loop.invariant.1 (reverse (names c.next_unknown-2.new.pending)) c.in-Some-next_unknown.path.now c.in-Some-next_unknown.ensures _ _ (omega (arith, c.loop.invariant.0, c.loop-test.false, c.loop.auto.counter-end)) c.too_many.ensures
