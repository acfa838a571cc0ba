use Rattle.std.proofs.Common.{map}
use Rattle.std.proofs.lemmas.Result.{err_from_is_err_and}
use Rattle.fut_flat.specs.Erased.{pattern_of, patterns}
use Rattle.size_program.specs.Program.{sub_of}
use Rattle.size_written.specs.Answers.{held}
use Rattle.size_walk.specs.Walked.{want_of}
use Rattle.size_walk.proofs.LambdaForms.{begun, enter_refused, noting_stops, unchosen_refused}
use Rattle.size_walk.proofs.lambdas.begin_lambda.Goals as goal

pub returns-in_err-entered-clause-begun : goal.returns-in_err-entered-clause-begun
returns-in_err-entered-clause-begun c =
    let p = err_from_is_err_and c.from_residual-in_err-entered.result c.from_residual-in_err-entered.ensures.1 in
    rw (p.1, p.2) (λ N scope σ k within holds. enter_refused N (sub_of c.args.program.now.types.now) (patterns (map pattern_of c.args.pats.now)) c.args.lambda.now.heads.now c.args.lambda.now.node (want_of c.args.want.now) scope σ _ c.args.tables.now c.in_ok-first.first (held c.wanted_tree.result) c.in_ok-first.ensures c.wanted_tree.ensures _ _ (c.in_err-entered.ensures.gives N scope σ k within holds))

pub returns-in_err-all_chosen-clause-begun : goal.returns-in_err-all_chosen-clause-begun
returns-in_err-all_chosen-clause-begun c =
    let p = err_from_is_err_and c.from_residual-in_err-all_chosen.result c.from_residual-in_err-all_chosen.ensures.1 in
    rw (p.1, p.2) (λ N scope σ k within holds. unchosen_refused N (sub_of c.args.program.now.types.now) (patterns (map pattern_of c.args.pats.now)) c.args.lambda.now.heads.now c.args.lambda.now.node (want_of c.args.want.now) scope σ _ c.args.tables.now c.in_ok-first.first (held c.wanted_tree.result) c.in_ok-first.ensures c.wanted_tree.ensures c.in_ok-entered.entered (c.in_ok-entered.ensures.gives N scope σ k within holds) c.in_ok-body.body c.in_ok-body.ensures _ _ (λ qs same. c.in_err-all_chosen.ensures N (sub_of c.args.program.now.types.now) qs same))

pub returns-in_err-note_parameters-clause-begun : goal.returns-in_err-note_parameters-clause-begun
returns-in_err-note_parameters-clause-begun c =
    let p = err_from_is_err_and c.from_residual-in_err-note_parameters.result c.from_residual-in_err-note_parameters.ensures.1 in
    rw (p.1, p.2) (λ N scope σ k within holds. noting_stops N (sub_of c.args.program.now.types.now) (patterns (map pattern_of c.args.pats.now)) c.args.lambda.now.heads.now c.args.lambda.now.node (want_of c.args.want.now) scope σ _ c.args.tables.now c.in_ok-first.first (held c.wanted_tree.result) c.in_ok-first.ensures c.wanted_tree.ensures c.in_ok-entered.entered (c.in_ok-entered.ensures.gives N scope σ k within holds) c.in_ok-body.body c.in_ok-body.ensures _ (λ qs same. c.in_ok-all_chosen.ensures N (sub_of c.args.program.now.types.now) qs same) _ _ (c.in_err-note_parameters.ensures N k))

pub returns-clause-begun : goal.returns-clause-begun
returns-clause-begun c = λ N scope σ k within holds. begun N (sub_of c.args.program.now.types.now) (patterns (map pattern_of c.args.pats.now)) c.args.lambda.now.heads.now c.args.lambda.now.node (want_of c.args.want.now) scope σ _ c.args.tables.now c.in_ok-first.first (held c.wanted_tree.result) c.in_ok-first.ensures c.wanted_tree.ensures c.in_ok-entered.entered (c.in_ok-entered.ensures.gives N scope σ k within holds) c.in_ok-body.body c.in_ok-body.ensures _ (λ qs same. c.in_ok-all_chosen.ensures N (sub_of c.args.program.now.types.now) qs same) _ _ (c.in_ok-note_parameters.ensures N k)
