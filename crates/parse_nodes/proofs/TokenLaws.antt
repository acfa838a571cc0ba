-- Any operator is one of the loosest level or tighter.
use Rattle.std.proofs.Common.{◌≡◌, Bool, true, false, ◌&&◌, nat_le, List, [], ◌∷◌, Some, None, if◌then◌else◌, refl}
use Rattle.fut_token.specs.declared.token.Fixed.{Fixed}
use Rattle.fut_token.specs.declared.token.Token.{Token}
use Rattle.fut_token.specs.declared.token.TokenKind.{TokenKind}
use Rattle.fut_token.specs.declared.token.TokenKind.TheVariants as kind
use Rattle.fut_ast.specs.Operators.{any_of, any_operator, level, operator_at, operator_of}

twice : (b : Bool) (o : Fixed) → (if b && b then Some o else None) ≡ (if b then Some o else None)
twice true o = refl
twice false o = refl

any_kind : (k : TokenKind) → operator_of 1 k ≡ any_of k
any_kind (kind.Fixed o) = twice (nat_le 1 (level o)) o
any_kind k = refl

pub any_level : (ts : List Token) → operator_at 1 ts ≡ any_operator ts
any_level [] = refl
any_level (t ∷ ts) = any_kind t.kind
