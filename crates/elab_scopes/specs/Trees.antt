-- What names mean by a search tree.
use Rattle.std.specs.Prelude.{◌≡◌, ℕ, ◌/◌, ◌%◌, nat_eq, cond, Bool, false, List, option_map}
use Rattle.std.specs.Str.{bytes_eq}
use Rattle.fut_ast.specs.Sorts.{Text}
use Rattle.elab_scopes.specs.Scopes.{Member, value_among, type_among, module_among, signature_among}
use Rattle.elab_scopes.specs.declared.meanings.Meanings.{Meanings}
use Rattle.elab_scopes.specs.declared.tree.Tree.{Tree, Leaf, Fork'}
use Rattle.elab_scopes.specs.Numbers.{digits_of}
use Rattle.elab_scopes.specs.Held.{module_ref_of, no_meaning}

abbrev pub is_odd : ℕ → Bool
is_odd n = nat_eq (n % 2) 1

-- what a name means, where these digits are left of its number
unfoldable pub meant_by : Tree → ℕ → Text → Meanings
meant_by Leaf digits x = no_meaning
meant_by (Fork' p y m even odd) digits x = cond (bytes_eq y.now x) m (cond (is_odd digits) (meant_by odd (digits / 2) x) (meant_by even (digits / 2) x))

unfoldable pub meant : Tree → Text → Meanings
meant t x = meant_by t (digits_of x) x

-- a node with this name and these two trees below it
unfoldable pub Forks : Text → Meanings → Tree → Tree → Tree → Type 0
Forks y m even odd t = (digits : ℕ) (x : Text) → meant_by t digits x ≡ cond (bytes_eq y x) m (cond (is_odd digits) (meant_by odd (digits / 2) x) (meant_by even (digits / 2) x))

-- a tree where a name has another meaning, these digits being left of its number; all other names mean what they did
unfoldable pub Put_by : ℕ → Text → Meanings → Tree → Tree → Type 0
Put_by digits x m before after = (meant_by after digits x ≡ m) × ((others : ℕ) (y : Text) → bytes_eq x y ≡ false → meant_by after others y ≡ meant_by before others y)

unfoldable pub Put : Text → Meanings → Tree → Tree → Type 0
Put x m before after = (y : Text) → meant after y ≡ cond (bytes_eq x y) m (meant before y)

-- a tree by which each name means what it does among members
unfoldable pub Indexed : List Member → Tree → Type 0
Indexed ms t = (x : Text) → (value_among ms x ≡ (meant t x).as_value) × (type_among ms x ≡ (meant t x).as_type) × (module_among ms x ≡ option_map module_ref_of (meant t x).as_module) × (signature_among ms x ≡ (meant t x).as_signature)
