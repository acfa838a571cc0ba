-- What was found, and a keyword or symbol behind it.
use Rattle.std.specs.Prelude.{◌≡◌, true, false, Result, Ok, Err}
use Rattle.fut_token.specs.declared.token.Fixed.{Fixed}
use Rattle.fut_ast.specs.Tokens.{starts, tail}
use Rattle.fut_grammar.specs.declared.fault.Stop.{Stop}
use Rattle.fut_grammar.specs.declared.fault.Stop.TheVariants as stop
use Rattle.fut_grammar.specs.Reading.{refuse}
use Rattle.parse_types.specs.declared.found.Found.{Found}

-- the answer is what was found, and stands behind the keyword or symbol, or says that there is none
abbrev pub Closes : {X : Type 0} → Fixed → Result (Found X) Stop → Result (Found X) Stop → Type 0
Closes f (Ok x) (Ok y) = (starts f x.rest.now ≡ true) × (y.tree ≡ x.tree) × (y.height ≡ x.height) × (y.rest.now ≡ tail x.rest.now)
Closes f (Ok x) (Err e) = (starts f x.rest.now ≡ false) × (e ≡ stop.Fault (refuse x.rest.now))
Closes f (Err e) answer = answer ≡ Err e
