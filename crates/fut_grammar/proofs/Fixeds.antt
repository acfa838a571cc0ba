-- Keywords and symbols are told apart.
use Rattle.std.proofs.Common.{◌≡◌, ◌≤◌, Bool, true, false, List, [], ◌∷◌, refl, ap, ◌∙◌, rules, arith}
use denote.Enum.Bare.{same_true, true_same}
use Rattle.fut_token.specs.contracts.token.Fixed.{the_type}
use Rattle.fut_token.specs.declared.token.Fixed.{Fixed}
use Rattle.fut_token.specs.declared.token.TokenKind.{TokenKind}
use Rattle.fut_token.specs.declared.token.TokenKind.TheVariants as kind
use Rattle.fut_token.specs.declared.token.Token.{Token}
use Rattle.fut_ast.specs.Tokens.{is_fixed, kind_is_fixed, tail, starts, is_digits}
use Rattle.fut_ast.specs.Operators.{level}

pub same_fixed : (f g : Fixed) → is_fixed g f ≡ true → f ≡ g
same_fixed f g e = same_true the_type (search rules) f g e

pub is_itself : (f : Fixed) → is_fixed f f ≡ true
is_itself f = true_same the_type f f refl

kind_is : (f : Fixed) (k : TokenKind) → kind_is_fixed f k ≡ true → k ≡ kind.Fixed f
kind_is f (kind.Fixed g) e = ap (λ (h : Fixed). kind.Fixed h) (same_fixed g f e)
kind_is f (kind.Name x) e = absurd cc
kind_is f (kind.Int v s) e = absurd cc
kind_is f (kind.TypeVar l x) e = absurd cc
kind_is f (kind.Char c) e = absurd cc
kind_is f (kind.Text x) e = absurd cc
kind_is f (kind.Field x) e = absurd cc
kind_is f (kind.Constructor x) e = absurd cc

-- this keyword or symbol stands first
pub data Starts (f : Fixed) : List Token → Type 0 where
  first : {t : Token} {ts : List Token} → t.kind ≡ kind.Fixed f → Starts f (t ∷ ts)

pub starts_with : (f : Fixed) (ts : List Token) → starts f ts ≡ true → Starts f ts
starts_with f [] e = absurd cc
starts_with f (t ∷ ts) e = first (kind_is f t.kind e)

-- a token of another kind stands first
pub starts_not : (f g : Fixed) (t : Token) (ts : List Token) → t.kind ≡ kind.Fixed g → is_fixed f g ≡ false → starts f (t ∷ ts) ≡ false
starts_not f g t ts e d = rw e d

-- what is no operator is told apart from each operator
pub no_operator : (f o : Fixed) → level f ≡ 0 → 1 ≤ level o → is_fixed f o ≡ false
no_operator f o z le = go (is_fixed f o) refl
  where
    go : (b : Bool) → is_fixed f o ≡ b → b ≡ false
    go true e =
        let l : level o ≡ 0 = ap level (same_fixed o f e) ∙ z in
        absurd (omega arith)
    go false e = refl

-- the same by an equation
pub record Starting (f : Fixed) (ts : List Token) : Type 0 where
  pub token : Token
  pub is : ts ≡ token ∷ tail ts
  pub kind : token.kind ≡ kind.Fixed f

starting_first : {f : Fixed} {ts : List Token} → Starts f ts → Starting f ts
starting_first (first {t = t} e) = record { token = t; is = refl; kind = e }

pub starting : (f : Fixed) (ts : List Token) → starts f ts ≡ true → Starting f ts
starting f ts e = starting_first (starts_with f ts e)

-- two keywords or symbols do not stand at one place, nor does one of them with digits
pub one_sign : (f g : Fixed) (ts : List Token) → is_fixed f g ≡ false → starts g ts ≡ true → starts f ts ≡ false
one_sign f g ts d e = let s = starting g ts e in ap (λ (us : List Token). starts f us) s.is ∙ starts_not f g s.token (tail ts) s.kind d

pub sign_no_digits : (g : Fixed) (ts : List Token) → starts g ts ≡ true → is_digits ts ≡ false
sign_no_digits g ts e = let s = starting g ts e in ap is_digits s.is ∙ no_digits s.token (tail ts) s.kind
  where
    no_digits : (t : Token) (us : List Token) → t.kind ≡ kind.Fixed g → is_digits (t ∷ us) ≡ false
    no_digits t us k = rw k refl
