use Rattle.std.proofs.Common.{map}
use Rattle.std.proofs.lemmas.Result.{err_from_is_err_and}
use Rattle.fut_flat.specs.Erased.{pattern_of, patterns}
use Rattle.size_arena.specs.Trees.{size_of}
use Rattle.size_walk.specs.Walked.{want_of}
use Rattle.size_walk.proofs.LambdaForms.{ended, leaving_refused}
use Rattle.size_walk.proofs.lambdas.end_lambda.Goals as goal

pub returns-in_err-given-clause-ended : goal.returns-in_err-given-clause-ended
returns-in_err-given-clause-ended c =
    let p = err_from_is_err_and c.from_residual-in_err-given.result c.from_residual-in_err-given.ensures.1 in
    rw (p.1, p.2) (λ N types E so. leaving_refused N types (patterns (map pattern_of c.args.pats.now)) c.args.lambda.now.heads.now c.args.lambda.now.node c.args.end (want_of c.args.want.now) E (size_of c.args.body.now) c.args.table.now _ c.args.begun.now so c.args.tables.now c.in_ok-names.names.now c.in_ok-names.ensures _ _ c.in_err-given.ensures)

pub returns-clause-ended : goal.returns-clause-ended
returns-clause-ended c = λ N types E so. ended N types (patterns (map pattern_of c.args.pats.now)) c.args.lambda.now.heads.now c.args.lambda.now.node c.args.end (want_of c.args.want.now) E (size_of c.args.body.now) c.args.table.now _ c.args.begun.now so c.args.tables.now c.in_ok-names.names.now c.in_ok-names.ensures c.in_ok-given.given c.in_ok-given.ensures c.in_ok-own.own c.in_ok-own.ensures _ _ _ c.in_ok-note.ensures (c.match_lambda.ensures.met N types E.found so.found)
