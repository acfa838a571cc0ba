-- Compositions. `f >-> g` is `let p = f let q = g in \x -> q (p x)` and `f <-< g` is `let p = f let q = g in \x -> p (q x)`, all of
-- whose uses stand at one place, which no text spells. They are sized as what a function of type
-- (a -> b) -> (b -> c) -> a -> c gives.
use Rattle.std.specs.Prelude.{ℕ, Bool, true, false, ◌&&◌, nat_eq, List, [], ◌∷◌, Option, Some, None}
use Rattle.fut_scalar.specs.declared.place.BindId.{BindId}
use Rattle.fut_scalar.specs.declared.place.Place.{Place}
use Rattle.fut_flat.specs.declared.prim.Ref.{Ref}
use Rattle.fut_flat.specs.declared.prim.Ref.TheVariants as ref
use Rattle.fut_flat.specs.Terms.{Bound_pattern, no_pattern, pattern_and, Binding, Use, Lambda, Apply, Let}
use Rattle.fut_flat.specs.Erased.{FlatTerm, FlatPattern}
use Rattle.fut_types.specs.Types.{Ty}
use Rattle.sized_types.specs.Sizes.{Inferred, Size, Open, Fun}
use Rattle.fut_sizes.specs.Applications.{Later}

abbrev pub is_place : Place → Place → Bool
is_place p q = nat_eq p.file q.file && (nat_eq p.line q.line && nat_eq p.column q.column)

abbrev pub is_use_of : ℕ → Place → FlatTerm → Bool
is_use_of b at (Use (ref.Bound c) p k) = nat_eq b c.0 && is_place at p
is_use_of b at e = false

-- what a composition applies first: the left function or the right one
abbrev pub if_so : Bool → Bool → Option Bool → Option Bool
if_so true left_first o = Some left_first
if_so false left_first o = o

abbrev pub composed_body : ℕ → ℕ → ℕ → FlatTerm → Option Bool
composed_body f g x (Apply (Use (ref.Bound h) at k) (Apply i j)) =
    if_so (nat_eq h.0 g && (is_use_of f at i && is_use_of x at j)) true (if_so (nat_eq h.0 f && (is_use_of g at i && is_use_of x at j)) false None)
composed_body f g x e = None

abbrev pub composed_lambda : ℕ → ℕ → FlatTerm → Option Bool
composed_lambda f g (Lambda (pattern_and (Bound_pattern x) no_pattern) e) = composed_body f g x.0 e
composed_lambda f g e = None

abbrev pub composed_second : ℕ → FlatPattern → FlatTerm → Option Bool
composed_second f (Bound_pattern g) e = composed_lambda f g.0 e
composed_second f p e = None

abbrev pub composed_let : ℕ → FlatTerm → Option Bool
composed_let f (Let c w e) = composed_second f c.pattern e
composed_let f e = None

abbrev pub composition : Binding Ref BindId → FlatTerm → Option Bool
composition b e = of_name b.pattern
  where
    of_name : FlatPattern → Option Bool
    of_name (Bound_pattern f) = composed_let f.0 e
    of_name p = None

-- what composes at a node, of these types: what is taken, what is between, what is given
abbrev pub composing : Bool → ℕ → Ty → Ty → Ty → Size
composing left_first n a b c = in_order left_first (Fun 0 (Open n (Inferred 0) a) (Open n (Inferred 1) b)) (Fun 0 (Open n (Inferred 1) b) (Open n (Inferred 2) c))
  where
    in_order : Bool → Size → Size → Size
    in_order true f g = Fun 0 f (Fun 0 g (Fun 0 (Open n (Inferred 0) a) (Open n (Inferred 2) c)))
    in_order false f g = Fun 0 g (Fun 0 f (Fun 0 (Open n (Inferred 0) a) (Open n (Inferred 2) c)))

-- no node stands for what composes, and none for that applied to one function
abbrev pub without_two : List Later → List Later
without_two (f ∷ g ∷ ls) = ls
without_two ls = []
