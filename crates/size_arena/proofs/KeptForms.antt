-- What two sized types both have, form by form.
use Rattle.std.proofs.Common.{◌≡◌, ℕ, ◌+◌, ◌<◌, ◌≤◌, List, [], ◌∷◌, ◌++◌, length, get_or, drop, true, false, refl, sym, ap, ◌∙◌, arith, add-one}
use Rattle.fut_types.specs.declared.Head.{Head}
use Rattle.sized_types.specs.Sizes.{Unknown, Dim, At, Size, Hole, Open, Level, Built, Fun, Sizes, size_and, is_dim, levels}
use Rattle.fut_sizes.specs.Agreeing.{kept_dim, kept, all_kept}
use Rattle.size_arena.specs.declared.trees.SizeTree.{SizeTree}
use Rattle.size_arena.specs.Trees.{size_of, sizes_of}
use Rattle.size_arena.proofs.Forms.{forms}
use Rattle.size_arena.proofs.Parts.{parts_at, parts_end, before, before_more, before_none}
use Rattle.size_arena.proofs.Unlike.{unlike}

pub kept_same : (n i : ℕ) (d e : Dim) → true ≡ is_dim d e → d ≡ kept_dim n i d e
kept_same n i d e h = rw (sym h) refl

pub kept_other : (n i : ℕ) (d e : Dim) → false ≡ is_dim d e → At (Unknown n i) ≡ kept_dim n i d e
kept_other n i d e h = rw (sym h) refl

pub ruleset dims = (kept_same, kept_other)

pub kept_unlike : (n i : ℕ) (t u : Size) → unlike t u ≡ true → t ≡ kept n i t u
unfolding kept
kept_unlike at i (Hole v) u so = refl
kept_unlike at i (Open n v x) u so = refl
kept_unlike at i (Level d t) (Hole w) so = refl
kept_unlike at i (Level d t) (Open m w y) so = refl
kept_unlike at i (Level d t) (Level e u) so = cc
kept_unlike at i (Level d t) (Built g us) so = refl
kept_unlike at i (Level d t) (Fun l q s) so = refl
kept_unlike at i (Built h ts) (Hole w) so = refl
kept_unlike at i (Built h ts) (Open m w y) so = refl
kept_unlike at i (Built h ts) (Level e u) so = refl
kept_unlike at i (Built h ts) (Built g us) so = cc
kept_unlike at i (Built h ts) (Fun l q s) so = refl
kept_unlike at i (Fun k p r) (Hole w) so = refl
kept_unlike at i (Fun k p r) (Open m w y) so = refl
kept_unlike at i (Fun k p r) (Level e u) so = refl
kept_unlike at i (Fun k p r) (Built g us) so = refl
kept_unlike at i (Fun k p r) (Fun l q s) so = cc

pub kept_fun : (n i k : ℕ) (p r u : Size) → Fun k p r ≡ kept n i (Fun k p r) u
unfolding kept
kept_fun n i k p r (Hole v) = refl
kept_fun n i k p r (Open m v x) = refl
kept_fun n i k p r (Level d t) = refl
kept_fun n i k p r (Built h ts) = refl
kept_fun n i k p r (Fun l q s) = refl

pub kept_level : (n i j : ℕ) (c d e : Dim) (t u v w : Size) → j ≡ i + 1 → v ≡ kept n j t u → c ≡ kept_dim n i d e → w ≡ Level c v → w ≡ kept n i (Level d t) (Level e u)
unfolding kept
kept_level n i j c d e t u v w a b x y = rw (y, x, b, a, add-one) refl

pub kept_built : (n i : ℕ) (h g : Head) (ts us vs : Sizes) (w : Size) → vs ≡ all_kept n i ts us → w ≡ Built h vs → w ≡ kept n i (Built h ts) (Built g us)
unfolding kept all_kept
kept_built n i h g ts us vs w a b = b ∙ ap (Built h) a

pub ruleset keeps = (forms, kept_unlike, kept_fun, kept_level, kept_built)

-- ---- parts

module _ (n f : ℕ) (ts us : List SizeTree) (i j : ℕ) (made : List SizeTree) (h : all_kept n f (sizes_of ts) (sizes_of us) ≡ before made (all_kept n j (sizes_of (drop i ts)) (sizes_of (drop i us)))) where
  pub all_more : (t u part : SizeTree) (k : ℕ) (more : List SizeTree) → length ts ≡ length us → i < length ts → size_of part ≡ kept n j (size_of (get_or ts i t)) (size_of (get_or us i u))
      → k ≡ j + levels (size_of (get_or ts i t)) → more ≡ made ++ part ∷ []
      → all_kept n f (sizes_of ts) (sizes_of us) ≡ before more (all_kept n k (sizes_of (drop (i + 1) ts)) (sizes_of (drop (i + 1) us)))
  unfolding kept all_kept
  all_more t u part k more same l e a b =
      h ∙ ap (before made) (ap (λ z. all_kept n j z (sizes_of (drop i us))) (parts_at ts i t l) ∙ ap (all_kept n j (size_and (size_of (get_or ts i t)) (sizes_of (drop (i + 1) ts)))) (parts_at us i u (omega (arith, same, l)))
      ∙ ap (λ z. size_and z (all_kept n (levels (size_of (get_or ts i t)) + j) (sizes_of (drop (i + 1) ts)) (sizes_of (drop (i + 1) us)))) (sym e)
      ∙ ap (λ z. size_and (size_of part) (all_kept n z (sizes_of (drop (i + 1) ts)) (sizes_of (drop (i + 1) us)))) (swapped (levels (size_of (get_or ts i t))) j k a))
      ∙ sym (before_more made part (all_kept n k (sizes_of (drop (i + 1) ts)) (sizes_of (drop (i + 1) us))))
      ∙ ap (λ z. before z (all_kept n k (sizes_of (drop (i + 1) ts)) (sizes_of (drop (i + 1) us)))) (sym b)
    where
      swapped : (x j k : ℕ) → k ≡ j + x → x + j ≡ k
      swapped x j k a = omega (arith, a)

  pub all_end : length ts ≤ i → sizes_of made ≡ all_kept n f (sizes_of ts) (sizes_of us)
  unfolding all_kept
  all_end l = sym (h ∙ ap (before made) (ap (λ z. all_kept n j z (sizes_of (drop i us))) (parts_end ts i l)) ∙ before_none made)

pub ruleset all_keeps = (all_more, all_end)
