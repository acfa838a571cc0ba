use Rattle.std.proofs.Common.{refl}
use Rattle.command_words.specs.Held.{command_in}
use Rattle.futhark_core.proofs.Rows.{unread, unevaluated, done, unwritten}
use Rattle.futhark_core.proofs.program.run_ready.Goals as goal

pub eval-requires-clause-never_wrong : goal.eval-requires-clause-never_wrong
eval-requires-clause-never_wrong g c =
    let read = c.in-Ok-read_data.ensures.read in
    rw (c.as_slice-2.ensures, read.2) (c.requires.never_wrong _ (read.3 _ c.requires.wanted))

pub returns-in-Err : goal.returns-in-Err
returns-in-Err g c = λ source e these params wanted tuple types ready runs.
    let refused = rw c.as_slice.ensures at c.in-Err.ensures.refused in
    rw c.input_status.ensures (unread (command_in c.args.command.now) source e ready _ _ _ params _ wanted c.in-Err.err c.in-Ok.bytes c.in-Ok.ensures.ok c.in-Ok.ensures.short refused refl)

pub returns-in-Err-eval : goal.returns-in-Err-eval
returns-in-Err-eval g c = λ source e these params wanted tuple types ready runs.
    let read = rw c.as_slice.ensures at c.in-Ok-read_data.ensures.read in
    let answer = rw (c.as_slice-2.ensures, read.2) at c.in-Err-eval.ensures in
    unevaluated (command_in c.args.command.now) source e ready _ _ _ params _ wanted c.args.program.now runs c.in-Ok.bytes c.in-Ok.ensures.ok c.in-Ok.ensures.short
    read.0 read.1 (read.3 _ c.requires.wanted) c.in-Err-eval.err _ these c.failed_status.result answer c.failed_status.ensures refl

pub returns-in-Ok-write_all : goal.returns-in-Ok-write_all
returns-in-Ok-write_all g c = λ source e these params wanted tuple types ready runs.
    let read = rw c.as_slice.ensures at c.in-Ok-read_data.ensures.read in
    let answer = rw (c.as_slice-2.ensures, read.2) at c.in-Ok-eval.ensures in
    let text = rw (c.as_slice-3.ensures, c.as_slice-4.ensures) at c.in-Ok-print_result.ensures in
    let out = rw c.deref.ensures.value at c.in-Ok-write_all.ensures.ok in
    done (command_in c.args.command.now) source e ready (record { input = _; out = g.K.Sink.seen c.args.out.now }) (record { input = _; out = _ }) _ params _ wanted c.args.program.now runs c.in-Ok.bytes c.in-Ok.ensures.ok c.in-Ok.ensures.short
    read.0 read.1 (read.3 _ c.requires.wanted) _ _ tuple types c.in-Ok-eval.results answer _ text out

pub returns : goal.returns
returns g c = λ source e these params wanted tuple types ready runs.
    let read = rw c.as_slice.ensures at c.in-Ok-read_data.ensures.read in
    let answer = rw (c.as_slice-2.ensures, read.2) at c.in-Ok-eval.ensures in
    let text = rw (c.as_slice-3.ensures, c.as_slice-4.ensures) at c.in-Ok-print_result.ensures in
    let out = rw c.deref.ensures.value at c.in-Err-write_all.ensures.failed in
    unwritten (command_in c.args.command.now) source e ready (record { input = _; out = g.K.Sink.seen c.args.out.now }) (record { input = _; out = _ }) _ params _ wanted c.args.program.now runs c.in-Ok.bytes c.in-Ok.ensures.ok c.in-Ok.ensures.short
    read.0 read.1 (read.3 _ c.requires.wanted) _ _ tuple types c.in-Ok-eval.results answer _ text out
