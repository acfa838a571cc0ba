-- Both productions of a declaration are read in one way.
use Rattle.std.proofs.Common.{◌≡◌, ℕ, suc, max, Bool, true, false, List, Ok, Err, refl}
use Rattle.std.proofs.Math.Nat.{zero-max}
use Rattle.fut_scalar.specs.declared.place.Place.{Place}
use Rattle.fut_token.specs.declared.token.Fixed.TheVariants as fixed
use Rattle.fut_token.specs.declared.token.Token.{Token}
use Rattle.fut_ast.specs.ModRows.{dec_at as dec}
use Rattle.fut_ast.specs.Sorts.{Sort, Tree, Dec_item, Dec_rest}
use Rattle.fut_ast.specs.Tokens.{starts, tail}
use Rattle.fut_ast.specs.declared.module.Dec.{Dec}
use Rattle.fut_ast.specs.declared.module.DecForm.{DecForm}
use Rattle.fut_grammar.specs.Phrases.{dec_at}
use Rattle.fut_grammar.specs.Reading.{◌>>=◌, Read, expect, has_at, parts_at, row_at, sub_at}
use Rattle.fut_parser.specs.Private.Decs.{declaration_at}

-- what is declared, on top of nothing
abbrev on_top : Read DecForm → Read DecForm
on_top r = r >>= λ y. Ok (y.0, max 0 y.1, y.2)

abbrev finished : Place → Bool → Read DecForm → Read Dec
finished at b r = r >>= λ y. Ok (dec at b y.0, suc y.1, y.2)

declared : (at : Place) (b : Bool) (r : Read DecForm) → finished at b (on_top r) ≡ finished at b r
declared at b (Err f) = refl
declared at b (Ok y) = rw (zero-max y.1) refl

module _ (sub : (n : Sort) → List Token → Read (Tree n)) (limit : ℕ) where
  pub declaration_is : (ts : List Token) → dec_at sub limit ts ≡ declaration_at sub ts
  unfolding dec_at declaration_at row_at parts_at has_at sub_at expect
  declaration_is ts = go (starts fixed.KeyLocal ts) refl
    where
      go : (b : Bool) → starts fixed.KeyLocal ts ≡ b → dec_at sub limit ts ≡ declaration_at sub ts
      go true b = rw b (declared _ true (sub Dec_rest (tail ts)))
      go false b = rw b (declared _ false (sub Dec_rest ts))
