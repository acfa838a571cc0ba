-- Reading with keywords and symbols around.
use Rattle.std.specs.Prelude.{List, [], length, Result, Ok, Err, if◌then◌else◌}
use Rattle.fut_token.specs.declared.token.Fixed.{Fixed}
use Rattle.fut_token.specs.declared.token.Token.{Token}
use Rattle.fut_ast.specs.Sorts.{Sort, Tree, Text}
use Rattle.fut_ast.specs.Tokens.{starts, tail}
use Rattle.fut_grammar.specs.declared.fault.Fault.{Fault}
use Rattle.fut_grammar.specs.Reading.{◌>>=◌, Read, refuse, commas_at, word_at}

-- what was read, and a keyword or symbol behind it
abbrev pub before : {A : Type 0} → Fixed → Read A → Read A
before f read = read >>= λ y. if starts f y.2 then Ok (y.0, y.1, tail y.2) else Err (refuse y.2)

-- what was read, if this keyword or symbol does not stand behind it
abbrev pub not_before : {A : Type 0} → Fixed → Read A → Read A
not_before f read = read >>= λ y. if starts f y.2 then Err (refuse y.2) else Ok y

-- phrases with commas between, or none, and two symbols around
abbrev pub enclosed_at : ((n : Sort) → List Token → Read (Tree n)) → Fixed → Fixed → (n : Sort) → List Token → Read (List (Tree n))
enclosed_at sub opening closing n ts =
    if starts opening ts then (if starts closing (tail ts) then Ok ([], 0, tail (tail ts)) else before closing (commas_at sub (length (tail ts)) n 0 (tail ts)))
    else Err (refuse ts)

-- a name, and a keyword or symbol behind it
abbrev pub word_before : Fixed → List Token → Result (Text × List Token) Fault
word_before f ts = word_at ts >>= λ x. if starts f x.1 then Ok (x.0, tail x.1) else Err (refuse x.1)
