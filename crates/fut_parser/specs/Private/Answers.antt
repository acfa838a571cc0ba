-- What is answered: a function of the tokens, where memory is there. A fault of reading counts the tokens left.
use Rattle.std.specs.Prelude.{◌≡◌, ℕ, zero, suc, ◌-◌, List, length, Ok, Err, slice_get}
use Rattle.fut_scalar.specs.declared.place.Place.{Place}
use Rattle.fut_token.specs.declared.token.Token.{Token}
use Rattle.fut_ast.specs.declared.module.Program.{Program}
use Rattle.fut_grammar.specs.declared.fault.Fault.{Fault}
use Rattle.fut_grammar.specs.declared.fault.Fault.TheVariants as fault
use Rattle.fut_parser.specs.declared.programs.ParseErr.{ParseErr}
use Rattle.fut_parser.specs.declared.programs.ParseErr.TheVariants as answer
use Rattle.fut_grammar.specs.Phrases.{program_at}
use Rattle.fut_parser.specs.Places.{place_or_start, last_place}

-- the place of a fault, by the number of tokens left
abbrev pub place_left : ℕ → List Token → ℕ → Place
place_left file ts zero = last_place file ts
place_left file ts (suc k) = place_or_start file (slice_get ts (length ts - suc k))

abbrev pub answer_of : ℕ → List Token → Fault → ParseErr
answer_of file ts (fault.Syntax k) = answer.Syntax (place_left file ts k)
answer_of file ts (fault.TooDeep k) = answer.TooDeep (place_left file ts k)
answer_of file ts (fault.LeftOut k w) = answer.LeftOut (place_left file ts k) w

-- reading the tokens from left to right gives this program
abbrev pub ReadsTokens : List Token → Program → Type 0
ReadsTokens ts p = (h : ℕ) × (program_at ts ≡ Ok (p, h))

-- reading the tokens from left to right is refused so
abbrev pub RefusesTokens : ℕ → List Token → ParseErr → Type 0
RefusesTokens file ts e = (f : Fault) × (program_at ts ≡ Err f) × (answer_of file ts f ≡ e)

-- why no program was given: memory ran out, or the tokens are refused so
abbrev pub ExplainsParse : ℕ → List Token → ParseErr → Type 0
ExplainsParse file ts answer.Memory = Unit {0}
ExplainsParse file ts e = RefusesTokens file ts e
