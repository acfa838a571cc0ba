use Rattle.std.proofs.Common.{map}
use Rattle.std.proofs.lemmas.Result.{err_from_is_err_and}
use Rattle.fut_aliases.specs.Aliases.{first_name_alone}
use Rattle.fut_flat.specs.Erased.{pattern_of, patterns, term_of}
use Rattle.alias_scopes.specs.Scopes.{scope_of}
use Rattle.alias_forms.specs.Walked.{kinds_at, types_at}
use Rattle.alias_forms.proofs.FunctionForms.{capture_stops, function_ends, function_stops, lambda_named}
use Rattle.alias_forms.proofs.functions.end_function.Goals as goal

pub returns-in_err-give_back-clause-step : goal.returns-in_err-give_back-clause-step
returns-in_err-give_back-clause-step c =
    let p = err_from_is_err_and c.from_residual.result c.from_residual.ensures.1 in
    rw (p.1, p.2) (λ N k w en m ls b st fn. function_stops N c.args.site.now (patterns (map pattern_of c.args.parameters.now)) (term_of c.args.body.now) c.args.at w c.args.entered.now en m ls c.args.losses.now c.args.found.now st (c.in_err-give_back.ensures first_name_alone N (kinds_at c.args.site.now) (types_at c.args.site.now) (scope_of c.args.entered.now.scope.now) c.args.losses.now))

pub returns-in_err-capture_fits-clause-step : goal.returns-in_err-capture_fits-clause-step
returns-in_err-capture_fits-clause-step c =
    let p = err_from_is_err_and c.from_residual-in_err-capture_fits.result c.from_residual-in_err-capture_fits.ensures.1 in
    rw (p.1, p.2) (λ N k w en m ls b st fn. capture_stops N c.args.site.now (patterns (map pattern_of c.args.parameters.now)) (term_of c.args.body.now) c.args.at w c.args.entered.now en m ls c.args.losses.now c.args.found.now st (c.in_ok-give_back.ensures first_name_alone N (kinds_at c.args.site.now) (types_at c.args.site.now) (scope_of c.args.entered.now.scope.now) c.args.losses.now) c.args.before b c.end_body.ensures (c.in-Ok.ensures N k) (c.in_err-capture_fits.ensures first_name_alone N (kinds_at c.args.site.now) (types_at c.args.site.now) (scope_of c.args.site.now.scope.now)))

pub returns-clause-step : goal.returns-clause-step
returns-clause-step c = λ N k w en m ls b st fn. function_ends N c.args.site.now (patterns (map pattern_of c.args.parameters.now)) (term_of c.args.body.now) c.args.at w c.args.entered.now en m ls c.args.losses.now c.args.found.now st (c.in_ok-give_back.ensures first_name_alone N (kinds_at c.args.site.now) (types_at c.args.site.now) (scope_of c.args.entered.now.scope.now) c.args.losses.now) c.args.before b c.end_body.ensures (c.in-Ok.ensures N k) (c.in_ok-capture_fits.ensures first_name_alone N (kinds_at c.args.site.now) (types_at c.args.site.now) (scope_of c.args.site.now.scope.now)) (c.in-Ok-function_value.ensures N k) (c.whole_seen.ensures.step first_name_alone N (kinds_at c.args.site.now) _ (lambda_named (patterns (map pattern_of c.args.parameters.now)) (term_of c.args.body.now) fn))
