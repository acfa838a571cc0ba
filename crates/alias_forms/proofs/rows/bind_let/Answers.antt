use Rattle.std.proofs.Common.{ap}
use Rattle.std.proofs.lemmas.Result.{err_from_is_err_and}
use Rattle.fut_aliases.specs.Aliases.{first_name_alone}
use Rattle.fut_flat.proofs.ErasedForms.{row_is, row_of}
use Rattle.fut_flat.specs.Erased.{Row, pattern_of}
use Rattle.alias_scopes.specs.Scopes.{scope_of}
use Rattle.uniqueness.specs.Answers.{no_memory}
use Rattle.uniqueness.specs.Held.{held_of}
use Rattle.alias_forms.proofs.NameForms.{bind_done, bind_stops}
use Rattle.alias_forms.specs.Walked.{kinds_at, types_at}
use Rattle.alias_forms.proofs.rows.bind_let.Goals as goal

pub returns-in_default : goal.returns-in_default
returns-in_default c = λ N k ls. no_memory

pub returns-in_err-let_fits : goal.returns-in_err-let_fits
returns-in_err-let_fits c =
    let p = err_from_is_err_and c.from_residual.result c.from_residual.ensures.1 in
    rw (p.1, p.2) (λ N k ls. bind_stops first_name_alone N (kinds_at c.args.site.now) (types_at c.args.site.now) c.args.site.now.here (pattern_of c.args.one.now.pat) c.args.at c.in-Ok.first (held_of c.args.held.now) ls c.in-Ok.ensures (row_of c.args.one.now).0 (scope_of c.args.site.now.scope.now) (ap (λ (r : Row). r.0.pattern) (row_is c.args.one.now)) (c.in_err-let_fits.ensures N k (scope_of c.args.site.now.scope.now) ls))

pub returns-in-Ok-bound : goal.returns-in-Ok-bound
returns-in-Ok-bound c = λ N k ls. bind_done first_name_alone N (kinds_at c.args.site.now) (types_at c.args.site.now) c.args.site.now.here (pattern_of c.args.one.now.pat) c.args.at c.in-Ok.first (held_of c.args.held.now) ls c.in-Ok.ensures (row_of c.args.one.now).0 (scope_of c.args.site.now.scope.now) (ap (λ (r : Row). r.0.pattern) (row_is c.args.one.now)) (c.in_ok-let_fits.ensures N k (scope_of c.args.site.now.scope.now) ls) (c.in-Ok-bound.ensures N k)
