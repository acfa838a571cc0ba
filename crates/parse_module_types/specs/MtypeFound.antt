-- What was read of module types, as it is seen.
use Rattle.std.specs.Prelude.{ℕ, List}
use Rattle.std.specs.Borrow.{Bor}
use Rattle.fut_token.specs.declared.token.Token.{Token}
use Rattle.fut_ast.specs.declared.module.Param.{Param as PlainParam}
use Rattle.fut_ast.specs.declared.module.Spec.{Spec as PlainSpec}
use Rattle.fut_ast.specs.declared.module.With.{With as PlainWith}
use Rattle.fut_tree.specs.declared.module.Param.{Param}
use Rattle.fut_tree.specs.declared.module.Spec.{Spec}
use Rattle.fut_tree.specs.declared.module.With.{With}
use Rattle.fut_tree.specs.ModTypes.{param_of, params_of, spec_of, specs_of, with_of, withs_of}
use Rattle.parse_types.specs.declared.found.Found.{Found}
use Rattle.parse_types.specs.Found.{found_as}

-- a parameter of a module, and several
abbrev pub param_found : Found Param → PlainParam × ℕ × List Token
param_found = found_as param_of

abbrev pub params_found : Found (Bor (List Param)) → List PlainParam × ℕ × List Token
params_found = found_as (λ ps. params_of ps.now)

-- one `with` of a module type, and several
abbrev pub with_found : Found With → PlainWith × ℕ × List Token
with_found = found_as with_of

abbrev pub withs_found : Found (Bor (List With)) → List PlainWith × ℕ × List Token
withs_found = found_as (λ ws. withs_of ws.now)

-- a member of a module type, and several
abbrev pub spec_found : Found Spec → PlainSpec × ℕ × List Token
spec_found = found_as spec_of

abbrev pub specs_found : Found (Bor (List Spec)) → List PlainSpec × ℕ × List Token
specs_found = found_as (λ ss. specs_of ss.now)
