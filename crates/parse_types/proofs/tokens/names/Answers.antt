use Rattle.std.proofs.Common.{◌∙◌, length, sym}
use Rattle.fut_grammar.specs.Reading.{names_at}
use Rattle.fut_tree.specs.Names.{names}
use Rattle.fut_tree.proofs.Pushed.{names_push}
use Rattle.fut_grammar.proofs.Loops.{names_go_on, names_end_here, names_open, names_fail, names_spent}
use Rattle.parse_types.proofs.tokens.names.Goals as goal

pub returns-in-Err : goal.returns-in-Err
returns-in-Err c =
    names_fail (names c.names.made.items) (length c.args.tokens.now) c.names._turn c.names.rest.now (names_at (length c.args.tokens.now) c.args.tokens.now) c.names.invariant c.in-Err.stop c.names-test.true c.in-Err.ensures

pub returns-in-Err-without_form : goal.returns-in-Err-without_form
returns-in-Err-without_form c =
    names_open (names c.names.made.items) (length c.args.tokens.now) c.names._turn c.names.rest.now (names_at (length c.args.tokens.now) c.args.tokens.now) c.names.invariant c.in-Ok.found.0.now c.in-Ok.found.1.now c.in-Err-without_form.stop c.names-test.true c.in-Ok.ensures c.in-Err-without_form.ensures

pub returns-then-not-starts_with : goal.returns-then-not-starts_with
returns-then-not-starts_with c =
    let r = names_end_here (names c.names.made.items) (length c.args.tokens.now) c.names._turn c.names.rest.now (names_at (length c.args.tokens.now) c.args.tokens.now) c.names.invariant c.in-Ok.found.0.now c.in-Ok.found.1.now c.names-test.true c.in-Ok.ensures (sym c.starts_with.ensures ∙ c.if-not-starts_with.true) in
    rw (c.into_bump_slice.ensures, c.in-Ok-push.ensures.items, names_push c.names.made.items c.in-Ok.found.0) r

pub names-preserved : goal.names-preserved
names-preserved c =
    let r = names_go_on (names c.names.made.items) (length c.args.tokens.now) c.names._turn c.names.rest.now (names_at (length c.args.tokens.now) c.args.tokens.now) c.names.invariant c.in-Ok.found.0.now c.in-Ok.found.1.now c.names-test.true c.in-Ok.ensures c.in-Ok-without_form.ensures (sym c.starts_with.ensures ∙ c.if-not-starts_with.false) in
    rw (c.in-Ok-push.ensures.items, names_push c.names.made.items c.in-Ok.found.0, c.rest_of-rest.ensures) r

pub returns : goal.returns
returns c = rw c.refused.ensures (names_spent (names c.names.made.items) (length c.args.tokens.now) c.names._turn c.names.rest.now (names_at (length c.args.tokens.now) c.args.tokens.now) c.names.invariant c.names-test.false)
