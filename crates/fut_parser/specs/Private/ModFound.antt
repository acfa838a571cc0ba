-- What was read of modules and declarations, as it is seen.
use Rattle.std.specs.Prelude.{ℕ, List, Bool}
use Rattle.std.specs.Borrow.{Bor}
use Rattle.fut_token.specs.declared.token.Token.{Token}
use Rattle.fut_ast.specs.declared.module.ModExp.{ModExp}
use Rattle.fut_ast.specs.declared.module.Dec.{Dec as PlainDec}
use Rattle.fut_ast.specs.declared.module.DecForm.{DecForm as PlainDecForm}
use Rattle.fut_tree.specs.declared.module.Dec.{Dec}
use Rattle.fut_tree.specs.declared.module.DecForm.{DecForm}
use Rattle.fut_tree.specs.Mods.{dec_of, decs_of, dec_form_of}
use Rattle.parse_types.specs.declared.found.Found.{Found}
use Rattle.parse_types.specs.Found.{found_as}
use Rattle.fut_parser.specs.declared.module_tie.ModEnding.{ModEnding}

-- a module expression, and whether it ended with its seal; the same without that
abbrev pub ending_found : Found ModEnding → (ModExp × Bool) × ℕ × List Token
ending_found = found_as (λ m. (m.module.now, m.is_sealed))

abbrev pub module_found : Found ModEnding → ModExp × ℕ × List Token
module_found = found_as (λ m. m.module.now)

-- a declaration, several, and one without its `local`
abbrev pub dec_found : Found Dec → PlainDec × ℕ × List Token
dec_found = found_as dec_of

abbrev pub decs_found : Found (Bor (List Dec)) → List PlainDec × ℕ × List Token
decs_found = found_as (λ ds. decs_of ds.now)

abbrev pub dec_form_found : Found DecForm → PlainDecForm × ℕ × List Token
dec_form_found = found_as dec_form_of
