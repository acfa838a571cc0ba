use Rattle.std.proofs.Common.{refl}
use Rattle.command_words.specs.Held.{command_in}
use Rattle.futhark_core.proofs.Ready.{N, Z, entered, is_ready, is_sizing, never_wrong_for, numbered, rising, runs_for, unready, usable, wanted}
use Rattle.futhark_core.proofs.program.run_entered.Goals as goal

pub prepare-requires-clause-usable : goal.prepare-requires-clause-usable
prepare-requires-clause-usable g c = rw c.as_slice-params.ensures (_, _, usable c.requires.known c.requires.sized c.requires.resolved c.requires.found)

pub run_ready-requires-clause-rising : goal.run_ready-requires-clause-rising
run_ready-requires-clause-rising g c =
    let told = c.in-Ok.ensures.prepared (Z c.requires.known c.requires.sized c.requires.resolved) (record { names = N c.requires.known c.requires.sized c.requires.resolved; numbered = numbered c.requires.known c.requires.sized c.requires.resolved; is = is_sizing c.requires.known c.requires.sized c.requires.resolved }) in
    let pr = rw c.as_slice-params.ensures at told in
    rising c.requires.known c.requires.sized c.requires.resolved c.requires.found pr

pub run_ready-requires-clause-wanted : goal.run_ready-requires-clause-wanted
run_ready-requires-clause-wanted g c = wanted c.requires.known c.requires.sized c.requires.resolved c.requires.found

pub run_ready-requires-clause-never_wrong : goal.run_ready-requires-clause-never_wrong
run_ready-requires-clause-never_wrong g c =
    let told = c.in-Ok.ensures.prepared (Z c.requires.known c.requires.sized c.requires.resolved) (record { names = N c.requires.known c.requires.sized c.requires.resolved; numbered = numbered c.requires.known c.requires.sized c.requires.resolved; is = is_sizing c.requires.known c.requires.sized c.requires.resolved }) in
    let pr = rw c.as_slice-params.ensures at told in
    never_wrong_for c.requires.known c.requires.sized c.requires.resolved c.requires.found pr c.args.command.now.turns

pub returns-in-Ok : goal.returns-in-Ok
returns-in-Ok g c = λ source these same is.
    let told = c.in-Ok.ensures.prepared (Z c.requires.known c.requires.sized c.requires.resolved) (record { names = N c.requires.known c.requires.sized c.requires.resolved; numbered = numbered c.requires.known c.requires.sized c.requires.resolved; is = is_sizing c.requires.known c.requires.sized c.requires.resolved }) in
    let pr = rw c.as_slice-params.ensures at told in
    c.run_ready.ensures source (entered c.requires.known c.requires.sized c.requires.resolved c.requires.found) these refl refl refl refl
    (is_ready c.requires.known c.requires.sized c.requires.resolved c.requires.found pr (command_in c.args.command.now) source refl same is)
    (runs_for c.requires.known c.requires.sized c.requires.resolved c.requires.found pr source same is c.args.command.now.turns)

pub returns-in-Err : goal.returns-in-Err
returns-in-Err g c = λ source these same is.
    let told = c.in-Err.ensures.refused (Z c.requires.known c.requires.sized c.requires.resolved) (record { names = N c.requires.known c.requires.sized c.requires.resolved; numbered = numbered c.requires.known c.requires.sized c.requires.resolved; is = is_sizing c.requires.known c.requires.sized c.requires.resolved }) in
    let past = rw c.as_slice-params.ensures at told in
    rw c.unprepared.ensures (unready c.requires.known c.requires.sized c.requires.resolved c.requires.found (command_in c.args.command.now) source _ refl same is c.in-Err.err past)
