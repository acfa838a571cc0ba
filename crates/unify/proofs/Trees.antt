-- The type that a tree shows, one level at a time, and what stands in it.
use Rattle.std.proofs.Common.{◌≡◌, ℕ, zero, suc, ◌+◌, ◌≤◌, ◌<◌, List, [], ◌∷◌, ◌++◌, length, map, take, slice_index_or, refl, sym, ◌∙◌, ap, subst, arith}
use Rattle.fut_types.specs.declared.Head.{Head}
use Rattle.fut_types.specs.declared.shapes.ShapeTable.{ShapeTable}
use Rattle.fut_types.specs.Shapes.{IsKnown}
use Rattle.fut_types.specs.Types.{Ty, Var, Made, Tys, none, more, Sub, applied, all_applied, size, sizes}
use Rattle.type_graph.specs.Graph.{IsMaker, Each}
use Rattle.type_graph.specs.Claims.{types_of}
use Rattle.type_graph.proofs.Adding.{Agree}
use Rattle.unify.specs.declared.Ty.{Ty as Tree, Ty-F, out-Ty, map-Ty, fold_out-Ty}
use Rattle.unify.specs.declared.Ty.TheVariants as tree
use Rattle.unify.specs.Substitutions.{layer, type_of, row_of, Within, All_within}

abbrev pub layer_type : Ty-F Tree → Ty
layer_type (Ty-F.Var n) = Var n
layer_type (Ty-F.Made h ps) = Made h (row_of (map type_of ps))

at_layer : (l : Ty-F Tree) → layer (map-Ty Tree Ty type_of l) ≡ layer_type l
at_layer (Ty-F.Var n) = refl
at_layer (Ty-F.Made h ps) = refl

type_out : (t : Tree) → type_of t ≡ layer_type (out-Ty t)
unfolding type_of
type_out t = fold_out-Ty Ty layer t ∙ at_layer (out-Ty t)

pub type_var : (t : Tree) (n : ℕ) → t ≡ tree.Var n → type_of t ≡ Var n
type_var t n e = ap type_of e ∙ type_out (tree.Var n) ∙ ap layer_type (tree.outs-Var n)

pub type_made : (t : Tree) (h : Head) (ps : List Tree) → t ≡ tree.Made h ps → type_of t ≡ Made h (row_of (map type_of ps))
type_made t h ps e = ap type_of e ∙ type_out (tree.Made h ps) ∙ ap layer_type (tree.outs-Made h ps)

-- what stands in a tree stands in its parts
pub within_var : (table : ShapeTable) (m : ℕ) (t : Tree) (n : ℕ) → t ≡ tree.Var n → Within table m (type_of t) → n < m
unfolding Within
within_var table m t n e w = subst (Within table m) (type_var t n e) w

module _ (table : ShapeTable) (m : ℕ) (t : Tree) (h : Head) (ps : List Tree) (e : t ≡ tree.Made h ps) (w : Within table m (type_of t)) where
  opened : Within table m (Made h (row_of (map type_of ps)))
  opened = subst (Within table m) (type_made t h ps e) w

  pub made_known : IsKnown table h
  unfolding Within
  made_known = opened.0

  pub made_maker : IsMaker h
  unfolding Within
  made_maker = opened.1

  pub made_parts : All_within table m (row_of (map type_of ps))
  unfolding Within
  made_parts = opened.2

-- with more variables
mutual
  unfolding Within

  pub within_more : (table : ShapeTable) (m n : ℕ) → m ≤ n → (t : Ty) → Within table m t → Within table n t
  within_more table m n le (Var v) w = omega arith
  within_more table m n le (Made h ts) w = (w.0, w.1, all_within_more table m n le ts w.2)

  pub all_within_more : (table : ShapeTable) (m n : ℕ) → m ≤ n → (ts : Tys) → All_within table m ts → All_within table n ts
  all_within_more table m n le none w = tt
  all_within_more table m n le (more t ts) w = (within_more table m n le t w.0, all_within_more table m n le ts w.1)

pub within_at : (table : ShapeTable) (m : ℕ) (ps : List Tree) → All_within table m (row_of (map type_of ps)) → (k : ℕ) (d : Tree) → k < length ps → Within table m (type_of (slice_index_or ps k d))
unfolding Within
within_at table m [] w k d lt = absurd (omega arith)
within_at table m (p ∷ ps) w zero d lt = w.0
within_at table m (p ∷ ps) w (suc k) d lt = within_at table m ps w.1 k d (omega arith)

-- the types of its variables are all that an instance depends on
mutual
  unfolding Within applied

  pub applied_low : (table : ShapeTable) (m : ℕ) (a b : Sub) → Agree m a b → (t : Ty) → Within table m t → applied a t ≡ applied b t
  applied_low table m a b e (Var v) w = e v w
  applied_low table m a b e (Made h ts) w = ap (Made h) (all_applied_low table m a b e ts w.2)

  pub all_applied_low : (table : ShapeTable) (m : ℕ) (a b : Sub) → Agree m a b → (ts : Tys) → All_within table m ts → all_applied a ts ≡ all_applied b ts
  all_applied_low table m a b e none w = refl
  all_applied_low table m a b e (more t ts) w = λ i. more (applied_low table m a b e t w.0 i) (all_applied_low table m a b e ts w.1 i)

-- one part more behind a row
joined : Tys → Ty → Tys
joined none u = more u none
joined (more t ts) u = more t (joined ts u)

types_last : (a : Sub) (ns : List ℕ) (n : ℕ) → types_of a (ns ++ n ∷ []) ≡ joined (types_of a ns) (a n)
unfolding types_of joined
types_last a [] n = refl
types_last a (m ∷ ns) n = ap (more (a m)) (types_last a ns n)

applied_last : (a : Sub) (ps : List Tree) (p : Tree) → all_applied a (row_of (map type_of (ps ++ p ∷ []))) ≡ joined (all_applied a (row_of (map type_of ps))) (applied a (type_of p))
unfolding applied joined
applied_last a [] p = refl
applied_last a (q ∷ ps) p = ap (more (applied a (type_of q))) (applied_last a ps p)

pub row_last : (a : Sub) (ns : List ℕ) (n : ℕ) (ps : List Tree) (p : Tree) → types_of a ns ≡ all_applied a (row_of (map type_of ps)) → a n ≡ applied a (type_of p) → types_of a (ns ++ n ∷ []) ≡ all_applied a (row_of (map type_of (ps ++ p ∷ [])))
row_last a ns n ps p e f = types_last a ns n ∙ (λ i. joined (e i) (f i)) ∙ sym (applied_last a ps p)

pub row_first : (a : Sub) → types_of a [] ≡ all_applied a (row_of (map type_of []))
unfolding types_of applied
row_first a = refl

pub all_below : (n m : ℕ) → n ≤ m → (ps : List ℕ) → Each (λ p. p < n) ps → Each (λ p. p < m) ps
all_below n m le [] h = tt
all_below n m le (p ∷ ps) h = ((let q : p < n = h.0 in omega arith), all_below n m le ps h.1)

pub below_last : (m : ℕ) (ps : List ℕ) (p : ℕ) → Each (λ q. q < m) ps → p < m → Each (λ q. q < m) (ps ++ p ∷ [])
below_last m [] p h lt = (lt, tt)
below_last m (q ∷ ps) p h lt = (h.0, below_last m ps p h.1 lt)

-- the first elements, and one more
pub take_next : {X : Type 0} (xs : List X) (at : ℕ) (d : X) → at < length xs → take (at + 1) xs ≡ take at xs ++ slice_index_or xs at d ∷ []
take_next {X} xs at d lt = ap (λ n. take n xs) (let e : at + 1 ≡ suc at = omega arith in e) ∙ go xs at lt
  where
    go : (ys : List X) (n : ℕ) → n < length ys → take (suc n) ys ≡ take n ys ++ slice_index_or ys n d ∷ []
    go [] n h = absurd (omega arith)
    go (y ∷ ys) zero h = refl
    go (y ∷ ys) (suc n) h = ap (λ l. y ∷ l) (go ys n (omega arith))

pub take_whole : {X : Type 0} (xs : List X) (at : ℕ) → length xs ≤ at → take at xs ≡ xs
take_whole [] zero h = refl
take_whole [] (suc at) h = refl
take_whole (x ∷ xs) zero h = absurd (omega arith)
take_whole (x ∷ xs) (suc at) h = ap (λ l. x ∷ l) (take_whole xs at (omega arith))

-- the element that a loop over a list has come to
pub item_at : {X : Type 0} (items xs : List X) (at : ℕ) (x : X) → items ≡ xs → x ≡ slice_index_or items at x → x ≡ slice_index_or xs at x
item_at items xs at x e is = is ∙ ap (λ l. slice_index_or l at x) e

pub next_item : {X : Type 0} (items xs : List X) (at : ℕ) (x : X) → items ≡ xs → at < length items → x ≡ slice_index_or items at x → take (at + 1) xs ≡ take at xs ++ x ∷ []
next_item items xs at x e lt is = take_next xs at x (subst (λ l. at < length l) e lt) ∙ ap (λ y. take at xs ++ y ∷ []) (sym (item_at items xs at x e is))

-- parts are smaller
pub made_size : (t : Tree) (h : Head) (ps : List Tree) → t ≡ tree.Made h ps → size (type_of t) ≡ 1 + sizes (row_of (map type_of ps))
unfolding size
made_size t h ps e = ap size (type_made t h ps e)

size_at : (ps : List Tree) (k : ℕ) (d : Tree) → k < length ps → size (type_of (slice_index_or ps k d)) ≤ sizes (row_of (map type_of ps))
unfolding size
size_at [] k d lt = absurd (omega arith)
size_at (p ∷ ps) zero d lt = omega arith
size_at (p ∷ ps) (suc k) d lt = let q : size (type_of (slice_index_or ps k d)) ≤ sizes (row_of (map type_of ps)) = size_at ps k d (omega arith) in omega arith

pub item_size : (items xs : List Tree) (at : ℕ) (x : Tree) → items ≡ xs → at < length items → x ≡ slice_index_or items at x → size (type_of x) ≤ sizes (row_of (map type_of xs))
item_size items xs at x e lt is = subst (λ y. size (type_of y) ≤ sizes (row_of (map type_of xs))) (sym (item_at items xs at x e is)) (size_at xs at x (subst (λ l. at < length l) e lt))
