-- What sized types name, one part after the other.
use Rattle.std.proofs.Common.{◌≡◌, ℕ, zero, suc, ◌+◌, ◌-◌, ◌<◌, ◌≤◌, ◌||◌, List, [], length, get_or, drop, min, Bool, false, Option, Some, None, refl, sym, ap, ◌∙◌, subst, arith}
use Rattle.std.proofs.lemmas.List.{get_or_past, get_or_default}
use Rattle.std.specs.Borrow.{Bor}
use Rattle.fut_scalar.specs.declared.place.BindId.{BindId}
use Rattle.fut_types.specs.declared.Head.{Head}
use Rattle.fut_meaning.specs.Found.{Sizing}
use Rattle.fut_meaning.specs.Programs.{names_size, some_names, sizes_name}
use Rattle.size_arena.specs.declared.dims.Dim.{Dim}
use Rattle.size_arena.specs.declared.dims.Dim.TheVariants as dim
use Rattle.size_arena.specs.declared.dims.Free.{Free}
use Rattle.size_arena.specs.declared.dims.Free.TheVariants as free
use Rattle.size_arena.specs.declared.dims.Variable.{Variable}
use Rattle.size_arena.specs.declared.trees.SizeTree.{SizeTree}
use Rattle.size_arena.specs.declared.trees.SizeTree.TheVariants as form
use Rattle.size_arena.specs.declared.types.TypeTree.{TypeTree}
use Rattle.size_arena.specs.Trees.{dim_of, free_of, size_of, sizes, sizes_of}
use Rattle.size_arena.proofs.Forms.{size_hole, size_open, size_level, size_built, size_fun}
use Rattle.sized_types.specs.Sizes.{is_free, is_dim, Size}
use Rattle.told_rows.specs.declared.tables.Sizes as tables
use Rattle.told_rows.specs.Tables.{Told_by, noted as size_noted, node_at}
use Rattle.unfold_reach.specs.Reach.{is_set, free_uses, dim_uses, size_uses, parts_use, nodes_use, told_uses, Named_more, named_more, Noted, noted}
use Rattle.unfold_reach.proofs.Lists.{one_more, drop_end}
use Rattle.unfold_reach.proofs.Reaching.{noted_nothing, noted_then, equal_turned}

-- ---- sizes

module _ (f : Free) (old : List Bool) where
  pub free_name : (b : BindId) (new : List Bool) → f ≡ free.Name b.0 → Named_more b old new → Noted (free_uses (free_of f)) old new
  unfolding is_free
  free_name b new is (named_more l h) = subst (λ z. Noted (free_uses (free_of z)) old new) (sym is) (noted l (λ bs k lt. h k lt ∙ ap (λ z. z || is_set old k) (equal_turned b.0 k)))

  names_nothing : {g : Free} → f ≡ g → Noted (free_uses (free_of g)) old old → Noted (free_uses (free_of f)) old old
  names_nothing is h = subst (λ z. Noted (free_uses (free_of z)) old old) (sym is) h

  pub free_const : (c : ℕ) → f ≡ free.Const c → Noted (free_uses (free_of f)) old old
  unfolding is_free
  free_const c is = names_nothing is (noted_nothing (λ bs k. refl))

  pub free_own : (n i : ℕ) → f ≡ free.Own n i → Noted (free_uses (free_of f)) old old
  unfolding is_free
  free_own n i is = names_nothing is (noted_nothing (λ bs k. refl))

  pub free_unknown : (n i : ℕ) → f ≡ free.Unknown n i → Noted (free_uses (free_of f)) old old
  unfolding is_free
  free_unknown n i is = names_nothing is (noted_nothing (λ bs k. refl))

  pub free_slot : (i : ℕ) → f ≡ free.Slot i → Noted (free_uses (free_of f)) old old
  unfolding is_free
  free_slot i is = names_nothing is (noted_nothing (λ bs k. refl))

module _ (d : Dim) (old : List Bool) where
  pub dim_at : (f : Free) (new : List Bool) → d ≡ dim.At f → Noted (free_uses (free_of f)) old new → Noted (dim_uses (dim_of d)) old new
  unfolding is_dim
  dim_at f new is (noted l h) = subst (λ z. Noted (dim_uses (dim_of z)) old new) (sym is) (noted l h)

  pub dim_bound : (j i : ℕ) → d ≡ dim.Bound j i → Noted (dim_uses (dim_of d)) old old
  unfolding is_dim
  dim_bound j i is = subst (λ z. Noted (dim_uses (dim_of z)) old old) (sym is) (noted_nothing (λ bs k. refl))

-- ---- sized types

size_as : {t u : Size} {old new : List Bool} → t ≡ u → Noted (size_uses u) old new → Noted (size_uses t) old new
size_as {old = old} {new} e h = subst (λ z. Noted (size_uses z) old new) (sym e) h

module _ (t : SizeTree) (old : List Bool) where
  pub tree_hole : (v : Variable) → t ≡ form.Hole v → Noted (size_uses (size_of t)) old old
  unfolding names_size
  tree_hole v is = size_as (ap size_of is ∙ size_hole v) (noted_nothing (λ bs k. refl))

  pub tree_open : (n : ℕ) (v : Variable) (u : Bor TypeTree) → t ≡ form.Open n v u → Noted (size_uses (size_of t)) old old
  unfolding names_size
  tree_open n v u is = size_as (ap size_of is ∙ size_open n v u) (noted_nothing (λ bs k. refl))

  module _ (new : List Bool) where
    pub tree_level : (height : ℕ) (d : Dim) (row : Bor SizeTree) (mid : List Bool) → t ≡ form.Level height d row → Noted (dim_uses (dim_of d)) old mid → Noted (size_uses (size_of row.now)) mid new → Noted (size_uses (size_of t)) old new
    unfolding names_size
    tree_level height d row mid is h h' = size_as (ap size_of is ∙ size_level height d row) (noted_then h h')

    pub tree_built : (height : ℕ) (h : Head) (ts : Bor (List SizeTree)) → t ≡ form.Built height h ts → Noted (parts_use (sizes_of ts.now)) old new → Noted (size_uses (size_of t)) old new
    unfolding names_size
    tree_built height h ts is (noted l f) = size_as (ap size_of is ∙ size_built height h ts) (noted l f)

    pub tree_fun : (height k : ℕ) (p r : Bor SizeTree) (mid : List Bool) → t ≡ form.Fun height k p r → Noted (size_uses (size_of p.now)) old mid → Noted (size_uses (size_of r.now)) mid new → Noted (size_uses (size_of t)) old new
    unfolding names_size
    tree_fun height k p r mid is h h' = size_as (ap size_of is ∙ size_fun height k p r) (noted_then h h')

-- what is noted of the parts from one on leads to all of them
pub data Parts_noted (ts : List SizeTree) (old now : List Bool) (i : ℕ) : Type 0 where
  parts_noted : ((last : List Bool) → Noted (parts_use (sizes_of (drop i ts))) now last → Noted (parts_use (sizes_of ts)) old last) → Parts_noted ts old now i

pub parts_start : (ts : List SizeTree) (old : List Bool) → Parts_noted ts old old 0
parts_start ts old = parts_noted (λ last h. h)

pub parts_more : (ts : List SizeTree) (old now : List Bool) (i : ℕ) (d : SizeTree) (next : List Bool) → i < length ts → Parts_noted ts old now i → Noted (size_uses (size_of (get_or ts i d))) now next → Parts_noted ts old next (i + 1)
unfolding sizes_of sizes names_size
parts_more ts old now i d next lt (parts_noted f) h = parts_noted (λ last g. f last (subst (λ z. Noted (parts_use (sizes_of z)) now last) (sym (one_more ts i d lt)) (noted_then h g)))

pub parts_done : (ts : List SizeTree) (old now : List Bool) (i : ℕ) → length ts ≤ i → Parts_noted ts old now i → Noted (parts_use (sizes_of ts)) old now
unfolding sizes_of sizes names_size
parts_done ts old now i le (parts_noted f) = f now (subst (λ z. Noted (parts_use (sizes_of z)) now now) (sym (drop_end i ts le)) (noted_nothing (λ bs k. refl)))

-- ---- nodes

module _ (node : Option (Bor SizeTree)) (old : List Bool) where
  pub node_some : (t : Bor SizeTree) (new : List Bool) → node ≡ Some t → Noted (size_uses (size_of t.now)) old new → (n : ℕ) → Noted (size_uses (size_noted n node)) old new
  node_some t new is h n = subst (λ z. Noted (size_uses (size_noted n z)) old new) (sym is) h

  pub node_none : node ≡ None → (n : ℕ) → Noted (size_uses (size_noted n node)) old old
  unfolding names_size
  node_none is n = subst (λ z. Noted (size_uses (size_noted n z)) old old) (sym is) (noted_nothing (λ bs k. refl))

module _ (nodes : List (Option (Bor SizeTree))) where
  -- nodes behind all others have no sized types
  none_named : (k lo n : ℕ) → length nodes ≤ lo → some_names (node_at nodes) k lo n ≡ false
  unfolding some_names names_size
  none_named k lo zero le = refl
  none_named k lo (suc n) le = ap (λ z. names_size k (size_noted lo z) || some_names (node_at nodes) k (suc lo) n) (get_or_past nodes lo None le) ∙ none_named k (suc lo) n (omega (arith, le))

  -- what is noted of the nodes from one on leads to all of them
  pub data Nodes_noted (first end : ℕ) (old now : List Bool) (i : ℕ) : Type 0 where
    nodes_noted : ((last : List Bool) → Noted (nodes_use nodes i (end - i)) now last → Noted (nodes_use nodes first (end - first)) old last) → Nodes_noted first end old now i

  pub nodes_start : (first end : ℕ) (old : List Bool) → Nodes_noted first end old old first
  nodes_start first end old = nodes_noted (λ last h. h)

  pub nodes_more : (first end : ℕ) (old now : List Bool) (i : ℕ) (next : List Bool) (bound : ℕ) (found : Option (Bor SizeTree)) → bound ≡ min (length nodes) end → i < bound → found ≡ get_or nodes i found → Nodes_noted first end old now i → ((n : ℕ) → Noted (size_uses (size_noted n found)) now next) → Nodes_noted first end old next (i + 1)
  unfolding some_names
  nodes_more first end old now i next bound found within lt there (nodes_noted f) h = nodes_noted (λ last g. f last (subst (λ z. Noted (nodes_use nodes i z) now last) (sym count) (noted_then (subst (λ z. Noted (size_uses (size_noted i z)) now next) (there ∙ get_or_default nodes i found None (omega (arith, lt, within))) (h i)) (subst (λ z. Noted (nodes_use nodes z (end - (i + 1))) next last) next_is g))))
    where
      count : end - i ≡ suc (end - (i + 1))
      count = omega (arith, lt, within)

      next_is : i + 1 ≡ suc i
      next_is = omega arith

  pub nodes_done : (first end : ℕ) (old now : List Bool) (i bound : ℕ) → bound ≡ min (length nodes) end → bound ≤ i → Nodes_noted first end old now i → Noted (nodes_use nodes first (end - first)) old now
  unfolding some_names
  nodes_done first end old now i bound within le (nodes_noted f) = f now (noted_nothing (λ bs k. rest k (end - i) refl))
    where
      rest : (k n : ℕ) → end - i ≡ n → some_names (node_at nodes) k i n ≡ false
      rest k zero e = refl
      rest k (suc n) e = none_named k i (suc n) (omega (arith, le, e, within))

-- ---- where there may be a sizing

module _ (o : Option (Bor tables.Sizes)) (lo n : ℕ) (old : List Bool) where
  pub told_some : (s : Bor tables.Sizes) (new : List Bool) → o ≡ Some s → Noted (nodes_use s.now.nodes.now lo n) old new → Noted (told_uses o lo n) old new
  told_some s new is h = subst (λ z. Noted (told_uses z lo n) old new) (sym is) h

  pub told_none : o ≡ None → Noted (told_uses o lo n) old old
  told_none is = subst (λ z. Noted (told_uses z lo n) old old) (sym is) (noted_nothing (λ bs k. refl))

some_same : (f g : ℕ → Size) → ((i : ℕ) → f i ≡ g i) → (k lo n : ℕ) → some_names f k lo n ≡ some_names g k lo n
unfolding some_names
some_same f g h k lo zero = refl
some_same f g h k lo (suc n) = ap (λ z. names_size k z || some_names f k (suc lo) n) (h lo) ∙ ap (λ z. names_size k (g lo) || z) (some_same f g h k (suc lo) n)

-- the tables name what the sizing does
pub told_names : (o : Option (Bor tables.Sizes)) (z : Option Sizing) → Told_by o z → (k lo n : ℕ) → told_uses o lo n [] k ≡ sizes_name z k lo n
told_names None None w k lo n = refl
told_names None (Some Z) w k lo n = absurd w
told_names (Some s) None w k lo n = absurd w
told_names (Some s) (Some Z) w k lo n = some_same (node_at s.now.nodes.now) Z.size_at (λ i. sym (w.nodes i)) k lo n
