-- What a function of data tells of its results, form by form.
use Rattle.std.proofs.Common.{◌≡◌, ℕ, zero, suc, ◌+◌, ◌<◌, ◌≤◌, true, false, ◌&&◌, List, length, get_or, drop, refl, sym, ap, ◌∙◌, lt-ltb, le-ltb}
use Rattle.fut_types.specs.declared.Head.{Head}
use Rattle.fut_types.specs.Types.{Ty}
use Rattle.sized_types.specs.Sizes.{Dim, Bound, Variable, Size, Hole, Open, Level, Built, Fun, Sizes}
use Rattle.sized_types.specs.Standing.{is_chosen, is_known, all_known, is_low, gives_chosen, all_chosen}
use Rattle.size_arena.specs.declared.trees.SizeTree.{SizeTree}
use Rattle.size_arena.specs.Trees.{size_of, sizes_of}
use Rattle.size_arena.proofs.Forms.{forms}
use Rattle.size_arena.proofs.Parts.{parts_at, parts_end}

pub near_chosen : (j i : ℕ) → j ≡ 0 → true ≡ is_chosen (Bound j i)
near_chosen j i e = sym (ap (λ z. is_chosen (Bound z i)) e)

pub far_chosen : (j i : ℕ) → (j ≡ 0 → ⊥) → false ≡ is_chosen (Bound j i)
far_chosen zero i n = absurd (n refl)
far_chosen (suc j) i n = refl

pub ruleset chosen = (near_chosen, far_chosen)

module _ (k j i : ℕ) where
  pub far_low : (j ≡ 0 → ⊥) → true ≡ is_low k (Bound j i)
  far_low n = by j n
    where
      by : (z : ℕ) → (z ≡ 0 → ⊥) → true ≡ is_low k (Bound z i)
      by zero n = absurd (n refl)
      by (suc z) n = refl

  pub near_low : j ≡ 0 → i < k → true ≡ is_low k (Bound j i)
  near_low e l = sym (ap (λ z. is_low k (Bound z i)) e ∙ lt-ltb i k l)

  pub near_high : j ≡ 0 → k ≤ i → false ≡ is_low k (Bound j i)
  near_high e l = sym (ap (λ z. is_low k (Bound z i)) e ∙ le-ltb i k l)

pub ruleset low = (far_low, near_low, near_high)

pub known_hole : (v : Variable) → false ≡ is_known (Hole v)
unfolding is_known
known_hole v = refl

pub known_open : (n : ℕ) (v : Variable) (u : Ty) → false ≡ is_known (Open n v u)
unfolding is_known
known_open n v u = refl

pub known_level : (d : Dim) (t : Size) → is_known (Level d t) ≡ is_chosen d && is_known t
unfolding is_known
known_level d t = refl

pub known_built : (h : Head) (ts : Sizes) → is_known (Built h ts) ≡ all_known ts
unfolding is_known all_known
known_built h ts = refl

pub known_fun : (k : ℕ) (p r : Size) → false ≡ is_known (Fun k p r)
unfolding is_known
known_fun k p r = refl

pub ruleset knowns = (forms, known_hole, known_open, known_level, known_built, known_fun)

module _ (ts : List SizeTree) (i : ℕ) where
  module _ (t : SizeTree) (l : i < length ts) (e : all_known (sizes_of ts) ≡ all_known (sizes_of (drop i ts))) where
    pub known_more : true ≡ is_known (size_of (get_or ts i t)) → all_known (sizes_of ts) ≡ all_known (sizes_of (drop (i + 1) ts))
    unfolding is_known all_known
    known_more h = e ∙ ap all_known (parts_at ts i t l) ∙ ap (λ z. z && all_known (sizes_of (drop (i + 1) ts))) (sym h)

    pub not_known : false ≡ is_known (size_of (get_or ts i t)) → false ≡ all_known (sizes_of ts)
    unfolding is_known all_known
    not_known h = sym (e ∙ ap all_known (parts_at ts i t l) ∙ ap (λ z. z && all_known (sizes_of (drop (i + 1) ts))) (sym h))

  pub known_end : length ts ≤ i → all_known (sizes_of ts) ≡ all_known (sizes_of (drop i ts)) → true ≡ all_known (sizes_of ts)
  unfolding is_known all_known
  known_end l e = sym (e ∙ ap all_known (parts_end ts i l))

pub ruleset all_knowns = (known_more, not_known, known_end)

module _ (k : ℕ) where
  pub gives_hole : (v : Variable) → true ≡ gives_chosen k (Hole v)
  unfolding gives_chosen
  gives_hole v = refl

  pub gives_open : (n : ℕ) (v : Variable) (u : Ty) → false ≡ gives_chosen k (Open n v u)
  unfolding gives_chosen
  gives_open n v u = refl

  pub gives_level : (d : Dim) (t : Size) → gives_chosen k (Level d t) ≡ is_low k d && gives_chosen k t
  unfolding gives_chosen
  gives_level d t = refl

  pub gives_built : (h : Head) (ts : Sizes) → gives_chosen k (Built h ts) ≡ all_chosen k ts
  unfolding gives_chosen all_chosen
  gives_built h ts = refl

  pub gives_fun : (j : ℕ) (p r : Size) → false ≡ gives_chosen k (Fun j p r)
  unfolding gives_chosen
  gives_fun j p r = refl

  module _ (ts : List SizeTree) (i : ℕ) where
    module _ (t : SizeTree) (l : i < length ts) (e : all_chosen k (sizes_of ts) ≡ all_chosen k (sizes_of (drop i ts))) where
      pub gives_more : true ≡ gives_chosen k (size_of (get_or ts i t)) → all_chosen k (sizes_of ts) ≡ all_chosen k (sizes_of (drop (i + 1) ts))
      unfolding gives_chosen all_chosen
      gives_more h = e ∙ ap (all_chosen k) (parts_at ts i t l) ∙ ap (λ z. z && all_chosen k (sizes_of (drop (i + 1) ts))) (sym h)

      pub gives_not : false ≡ gives_chosen k (size_of (get_or ts i t)) → false ≡ all_chosen k (sizes_of ts)
      unfolding gives_chosen all_chosen
      gives_not h = sym (e ∙ ap (all_chosen k) (parts_at ts i t l) ∙ ap (λ z. z && all_chosen k (sizes_of (drop (i + 1) ts))) (sym h))

    pub gives_end : length ts ≤ i → all_chosen k (sizes_of ts) ≡ all_chosen k (sizes_of (drop i ts)) → true ≡ all_chosen k (sizes_of ts)
    unfolding gives_chosen all_chosen
    gives_end l e = sym (e ∙ ap (all_chosen k) (parts_end ts i l))

pub ruleset gives = (forms, gives_hole, gives_open, gives_level, gives_built, gives_fun)

pub ruleset all_give = (gives_more, gives_not, gives_end)
