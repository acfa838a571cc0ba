-- A declaration, in one way for both of its productions.
use Rattle.std.specs.Prelude.{suc, List, Ok, if◌then◌else◌}
use Rattle.fut_token.specs.declared.token.Fixed.TheVariants as fixed
use Rattle.fut_token.specs.declared.token.Token.{Token}
use Rattle.fut_ast.specs.ModRows.{dec_at}
use Rattle.fut_ast.specs.Sorts.{Sort, Tree, Dec_item, Dec_rest}
use Rattle.fut_ast.specs.Tokens.{spot_of, starts, tail}
use Rattle.fut_grammar.specs.Reading.{◌>>=◌, Read}

-- the tokens behind `local`, or all where it does not stand
abbrev pub behind_local : List Token → List Token
behind_local ts = if starts fixed.KeyLocal ts then tail ts else ts

module _ (sub : (n : Sort) → List Token → Read (Tree n)) where
  -- what is declared, and whether `local` stands before it
  unfoldable pub declaration_at : List Token → Read (Tree Dec_item)
  declaration_at ts = sub Dec_rest (behind_local ts) >>= λ d. Ok (dec_at (spot_of ts).place (starts fixed.KeyLocal ts) d.0, suc d.1, d.2)
