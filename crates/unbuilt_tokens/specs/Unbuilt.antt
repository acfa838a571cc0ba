-- The tokens of forms that are not built: the word of declared types.
use Rattle.std.specs.Prelude.{Bool, true, false, if◌then◌else◌, List, [], ◌∷◌, Option, Some, None}
use Rattle.fut_scalar.specs.declared.place.Place.{Place}
use Rattle.fut_token.specs.declared.token.Token.{Token}
use Rattle.fut_token.specs.declared.token.TokenKind.{TokenKind}
use Rattle.fut_token.specs.declared.token.TokenKind.TheVariants as token
use Rattle.fut_token.specs.declared.token.Fixed.TheVariants as fixed

abbrev pub is_module : TokenKind → Bool
is_module (token.Fixed fixed.KeyModule) = true
is_module kind = false

-- `module type` begins a module type, which is built: the word `type` directly behind `module` is none of a declared type
abbrev pub is_unbuilt : (behind_module : Bool) → TokenKind → Bool
is_unbuilt true (token.Fixed fixed.KeyType) = false
is_unbuilt false (token.Fixed fixed.KeyType) = true
is_unbuilt behind kind = false

-- the place of the first of these tokens that is of a form that is not built
unfoldable pub first_behind : (behind_module : Bool) → List Token → Option Place
first_behind behind [] = None
first_behind behind (t ∷ ts) = if is_unbuilt behind t.kind then Some t.place else first_behind (is_module t.kind) ts

-- the place of the first token of a form that is not built
abbrev pub first_unbuilt : List Token → Option Place
first_unbuilt tokens = first_behind false tokens
