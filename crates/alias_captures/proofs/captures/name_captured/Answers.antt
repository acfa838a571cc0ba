use Rattle.alias_scopes.specs.Scopes.{scope_of}
use Rattle.alias_captures.proofs.CaptureForms.{bound_known, bound_unknown, elsewhere_named}
use Rattle.alias_captures.proofs.captures.name_captured.Goals as goal

pub returns-in-Some : goal.returns-in-Some
returns-in-Some c = λ N place modules. bound_known N (scope_of c.args.scope.now) c.args.name c.in-Bound.bind place modules c.in-Some.value _ c.in-Bound.is c.in-Some.is c.value_at.ensures

pub returns-in-None : goal.returns-in-None
returns-in-None c = λ N place modules. bound_unknown N (scope_of c.args.scope.now) c.args.name c.in-Bound.bind place modules c.no_alias.result.now _ c.in-Bound.is c.in-None.is c.value_at.ensures c.no_alias.ensures

pub returns-in-Prim : goal.returns-in-Prim
returns-in-Prim c = λ N place modules. elsewhere_named N (scope_of c.args.scope.now) c.args.name place modules _ c.in-Prim.is c.no_alias-in-Prim.ensures
