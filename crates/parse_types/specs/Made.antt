-- What is made of what was read.
use Rattle.std.specs.Prelude.{ℕ, suc, List, Ok}
use Rattle.fut_token.specs.declared.token.Token.{Token}
use Rattle.fut_grammar.specs.Reading.{◌>>=◌, Read}

-- something as high
abbrev pub read_as : {A B : Type 0} → (A → B) → Read A → Read B
read_as f read = read >>= λ y. Ok (f y.0, y.1, y.2)

-- a node on top of it
abbrev pub node_of : {A B : Type 0} → (A → B) → Read A → Read B
node_of f read = read >>= λ y. Ok (f y.0, suc y.1, y.2)

-- what is read behind it
abbrev pub goes_on_with : {A B : Type 0} → (A → ℕ → List Token → Read B) → Read A → Read B
goes_on_with go read = read >>= λ y. go y.0 y.1 y.2
