-- A production that ends with a sign.
use Rattle.std.proofs.Common.{◌≡◌, ◌+◌, ℕ, suc, true, List, [], ◌∷◌, Result, Ok, Err, refl, subst, arith}
use Rattle.fut_token.specs.declared.token.Fixed.{Fixed}
use Rattle.fut_token.specs.declared.token.Token.{Token}
use Rattle.fut_ast.specs.Parts.{Sign}
use Rattle.fut_ast.specs.Sorts.{Sort, Tree}
use Rattle.fut_ast.specs.Tokens.{spot_of}
use Rattle.fut_ast.specs.declared.node.Spot.{Spot}
use Rattle.fut_grammar.specs.declared.fault.Fault.{Fault}
use Rattle.fut_grammar.specs.declared.fault.Stop.{Stop}
use Rattle.fut_grammar.specs.Reading.{◌>>=◌, Gives, Read, expect, has_at, parts_at}
use Rattle.parse_types.specs.declared.found.Found.{Found}
use Rattle.parse_types.specs.Found.{found_as}

module _ (sub : (n : Sort) → List Token → Read (Tree n)) (n : Sort) (sign : Fixed) (e : Tree n) (h : ℕ) (ts : List Token) where
  abbrev ends : Result (List Token) Fault → Read (Tree n)
  ends r = r >>= λ us. Ok (e, h + 1, us)

  abbrev raised : Result (List Token) Fault → Read (Tree n)
  raised r = ◌>>=◌ {A = Spot × ℕ × List Token} (r >>= λ us. Ok (spot_of ts, h, us)) (λ y. Ok (e, suc y.1, y.2))

  last_sign : ends (expect sign ts) ≡ parts_at sub true n (Sign sign ∷ []) (λ at. e) h ts
  unfolding parts_at has_at
  last_sign = go (expect sign ts)
    where
      go : (r : Result (List Token) Fault) → ends r ≡ raised r
      go (Ok us) = let one : h + 1 ≡ suc h = omega arith in rw one refl
      go (Err f) = refl

  pub closes : {X : Type 0} (view : X → Tree n) (r : Result (Found X) Stop) → Gives (found_as view) r (expect sign ts >>= λ us. Ok (e, h + 1, us)) → Gives (found_as view) r (parts_at sub true n (Sign sign ∷ []) (λ at. e) h ts)
  closes view r gives = subst (λ q. Gives (found_as view) r q) last_sign gives
