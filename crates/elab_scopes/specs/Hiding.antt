-- The newest number of each text, and what each name in scope hides.
use Rattle.std.specs.Prelude.{◌≡◌, cond, not, Bool, true, false, List, [], ◌∷◌, map, reverse, Option, Some, None}
use Rattle.std.specs.HashMap as hash
use Rattle.std.specs.Str.{bytes_eq}
use Rattle.fut_ast.specs.Sorts.{Text}
use Rattle.fut_scalar.specs.declared.place.BindId.{BindId}
use Rattle.elab_scopes.specs.declared.newest.Newest.{Newest}
use Rattle.elab_scopes.specs.declared.scope.Layer.{Layer}
use Rattle.elab_scopes.specs.Scopes.{Scope, value_in, type_in}
use Rattle.elab_scopes.specs.Table.{entry_of}

abbrev pub flat : Option (Option BindId) → Option BindId
flat None = None
flat (Some n) = n

-- the number of a text as a type or as a value
unfoldable pub newest : Newest → Bool → Text → Option BindId
newest t is_type x = flat (hash.get_by (λ k. bytes_eq x k.now) (cond is_type t.types t.values))

-- one text has another number in one space of names
unfoldable pub Sets : Newest → Bool → Text → Option BindId → Newest → Type 0
Sets s is_type x n t = ((y : Text) → newest t is_type y ≡ cond (bytes_eq x y) n (newest s is_type y)) × ((y : Text) → newest t (not is_type) y ≡ newest s (not is_type) y)

unfoldable pub Keeps : Newest → Newest → Type 0
Keeps s t = (is_type : Bool) (y : Text) → newest t is_type y ≡ newest s is_type y

-- the newest type or value of a name in scope
abbrev pub in_space : Scope → Bool → Text → Option BindId
in_space sc true x = type_in sc x
in_space sc false x = value_in sc x

-- layers, the newest first
abbrev pub scope_in : List Layer → Scope
scope_in = map (λ (l : Layer). entry_of l.entry)

-- each hides what its name has below it
unfoldable pub Hides : List Layer → Type 0
Hides [] = Unit {0}
Hides (l ∷ ls) = (l.hides ≡ in_space (scope_in ls) l.entry.is_type l.entry.name.now) × Hides ls

unfoldable pub Ties : List Layer → Newest → Type 0
Ties ls t = Hides (reverse ls) × ((is_type : Bool) (y : Text) → newest t is_type y ≡ in_space (scope_in (reverse ls)) is_type y)
