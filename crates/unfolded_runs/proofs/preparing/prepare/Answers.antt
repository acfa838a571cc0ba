use Rattle.std.proofs.Common.{IfOk, subst}
use Rattle.std.proofs.lemmas.Result.{err_from_is_err_and}
use Rattle.sizing_tables.specs.Told.{told_with}
use Rattle.typed_programs.specs.Typed.{integer_at}
use Rattle.unfolded_runs.specs.Prepared.{Is_blocks}
use Rattle.unfolded_runs.proofs.Blocks.{prepared}
use Rattle.unfolded_runs.proofs.SomeSizing.{a_sizing, there, told_so}
use Rattle.unfolded_runs.proofs.Walks.{never_lost, never_stuck}
use Rattle.unfolded_runs.proofs.preparing.prepare.Goals as goal

pub measured-requires : goal.measured-requires
measured-requires c =
    let u = c.requires.usable in
    let t = there c.args.program.now c.requires.known c.requires.resolved in
    record {
      found = (
        a_sizing c.args.program.now c.requires.known c.requires.resolved,
        c.in_ok-sizes.ensures.ok _ t,
        never_lost _ _ _ _ _ u.0 u.1 (a_sizing c.args.program.now c.requires.known c.requires.resolved) c.requires.known.typed c.requires.resolved (told_so t) u.2,
      );
    }

pub blocks-requires : goal.blocks-requires
blocks-requires c =
    let u = c.requires.usable in
    let t = there c.args.program.now c.requires.known c.requires.resolved in
    record {
      told = (
        a_sizing c.args.program.now c.requires.known c.requires.resolved,
        c.in_ok-sizes.ensures.ok _ t,
        rw c.as_slice.ensures (never_stuck _ _ _ _ _ u.0 u.1 (a_sizing c.args.program.now c.requires.known c.requires.resolved) c.requires.known.typed c.requires.resolved (told_so t) u.2),
      );
    }

pub returns-clause-prepared : goal.returns-clause-prepared
returns-clause-prepared c = λ Z t.
    prepared c.args.program.now.accepted.now.flat (told_with (integer_at c.args.program.now.accepted.now.integers) Z) c.args.entry c.args.params.now c.in_ok-_measured._measured c.blocks-2.result (c.in_ok-_measured.ensures.measures Z (c.in_ok-sizes.ensures.ok Z t))
    (subst (λ l. IfOk c.blocks-2.result (Is_blocks c.args.program.now.accepted.now.flat (told_with (integer_at l) Z) c.args.entry c.args.params.now)) c.as_slice.ensures (c.blocks-2.ensures.ok Z (c.in_ok-sizes.ensures.ok Z t)))

pub returns-in_err-_measured-clause-refused : goal.returns-in_err-_measured-clause-refused
returns-in_err-_measured-clause-refused c = λ Z t.
    let p = err_from_is_err_and c.from_residual-in_err-_measured.result c.from_residual-in_err-_measured.ensures.1 in
    rw (p.1, p.2) (c.in_err-_measured.ensures.past Z (c.in_ok-sizes.ensures.ok Z t))
