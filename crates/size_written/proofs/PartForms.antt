-- Parts of sized types, by their places.
use Rattle.std.proofs.Common.{◌≡◌, ℕ, zero, suc, ◌<◌, ◌≤◌, ◌^◌, List, [], ◌∷◌, length, get_or, slice_set, false, Option, Some, None, refl, sym, ap, ◌∙◌, arith, subst}
use Rattle.fut_ast.specs.Sorts.{Text}
use Rattle.fut_types.specs.declared.Head.{Head}
use Rattle.fut_types.specs.Shapes.{Tells_position, place}
use Rattle.fut_typing.specs.Names.{Names}
use Rattle.sized_types.specs.Sizes.{Size, Hole, Open, Level, Built, Fun, Sizes, no_size, size_and}
use Rattle.fut_sizes.specs.WrittenSizes.{part, with_part, part_of, changed_part}
use Rattle.size_arena.specs.declared.trees.SizeTree.{SizeTree}
use Rattle.size_arena.specs.Trees.{sizes, size_of, sizes_of}
use Rattle.size_written.specs.Heads.{is_built}

-- ---- a place that a row has, and one that it has not

part_here : (ts : List SizeTree) (i : ℕ) (d : SizeTree) → i < length ts → Some (size_of (get_or ts i d)) ≡ part (Some i) (sizes_of ts)
unfolding sizes_of sizes
part_here [] i d l = absurd (omega (arith, l))
part_here (t ∷ ts) zero d l = refl
part_here (t ∷ ts) (suc i) d l = part_here ts i d (omega (arith, l))

part_past : (ts : List SizeTree) (i : ℕ) → length ts ≤ i → None ≡ part (Some i) (sizes_of ts)
unfolding sizes_of sizes
part_past [] i l = refl
part_past (t ∷ ts) zero l = absurd (omega (arith, l))
part_past (t ∷ ts) (suc i) l = part_past ts i (omega (arith, l))

put_here : (ts : List SizeTree) (i : ℕ) (u : SizeTree) → i < length ts → sizes_of (slice_set ts i u) ≡ with_part (Some i) (λ old. size_of u) (sizes_of ts)
unfolding sizes_of sizes
put_here [] i u l = absurd (omega (arith, l))
put_here (t ∷ ts) zero u l = refl
put_here (t ∷ ts) (suc i) u l = ap (size_and (size_of t)) (put_here ts i u (omega (arith, l)))

put_past : (ts : List SizeTree) (i : ℕ) (g : Size → Size) → length ts ≤ i → sizes_of ts ≡ with_part (Some i) g (sizes_of ts)
unfolding sizes_of sizes
put_past [] i g l = refl
put_past (t ∷ ts) zero g l = absurd (omega (arith, l))
put_past (t ∷ ts) (suc i) g l = ap (size_and (size_of t)) (put_past ts i g (omega (arith, l)))

-- ---- what is told of a place

module _ (ts : List SizeTree) (o p : Option ℕ) (t : Tells_position o p) where
  pub part_found : (i : ℕ) (d : SizeTree) → o ≡ Some i → i < length ts → d ≡ get_or ts i d → Some (size_of d) ≡ part p (sizes_of ts)
  part_found i d s l x = let e : p ≡ Some i = subst (λ z. Tells_position z p) s t in ap (λ z. Some (size_of z)) x ∙ part_here ts i d l ∙ sym (ap (λ z. part z (sizes_of ts)) e)

  pub part_short : (i : ℕ) → o ≡ Some i → length ts ≤ i → None ≡ part p (sizes_of ts)
  part_short i s l = let e : p ≡ Some i = subst (λ z. Tells_position z p) s t in part_past ts i l ∙ sym (ap (λ z. part z (sizes_of ts)) e)

  pub part_nowhere : o ≡ None → length ts < 2 ^ 32 → None ≡ part p (sizes_of ts)
  part_nowhere s l = by_place p (subst (λ z. Tells_position z p) s t)
    where
      by_place : (p : Option ℕ) → Tells_position None p → None ≡ part p (sizes_of ts)
      by_place None t = refl
      by_place (Some i) t = let h : 2 ^ 32 ≤ i = t i refl in part_past ts i (omega (arith, h, l))

  pub part_put : (i : ℕ) (u : SizeTree) → o ≡ Some i → i < length ts → sizes_of (slice_set ts i u) ≡ with_part p (λ old. size_of u) (sizes_of ts)
  part_put i u s l = let e : p ≡ Some i = subst (λ z. Tells_position z p) s t in put_here ts i u l ∙ sym (ap (λ z. with_part z (λ old. size_of u) (sizes_of ts)) e)

  pub put_short : (i : ℕ) (g : Size → Size) → o ≡ Some i → length ts ≤ i → sizes_of ts ≡ with_part p g (sizes_of ts)
  put_short i g s l = let e : p ≡ Some i = subst (λ z. Tells_position z p) s t in put_past ts i g l ∙ sym (ap (λ z. with_part z g (sizes_of ts)) e)

  pub put_nowhere : (g : Size → Size) → o ≡ None → length ts < 2 ^ 32 → sizes_of ts ≡ with_part p g (sizes_of ts)
  put_nowhere g s l = by_place p (subst (λ z. Tells_position z p) s t)
    where
      by_place : (p : Option ℕ) → Tells_position None p → sizes_of ts ≡ with_part p g (sizes_of ts)
      by_place None t = refl
      by_place (Some i) t = let h : 2 ^ 32 ≤ i = t i refl in put_past ts i g (omega (arith, h, l))

-- a part that is there is changed to what is given for it; where there is none, nothing changes
pub with_found : (p : Option ℕ) (g : Size → Size) (old new : Size) (ts : Sizes) → part p ts ≡ Some old → new ≡ g old → with_part p (λ z. new) ts ≡ with_part p g ts
with_found None g old new ts is e = refl
with_found (Some i) g old new no_size is e = refl
with_found (Some zero) g old new (size_and t ts) is e = ap (λ z. size_and z ts) (e ∙ sym (ap g (here is)))
  where
    here : Some t ≡ Some old → t ≡ old
    here q = cc
with_found (Some (suc i)) g old new (size_and t ts) is e = ap (size_and t) (with_found (Some i) g old new ts is e)

pub with_none : (p : Option ℕ) (g : Size → Size) (ts : Sizes) → part p ts ≡ None → ts ≡ with_part p g ts
with_none None g ts is = refl
with_none (Some i) g no_size is = refl
with_none (Some zero) g (size_and t ts) is = cc
with_none (Some (suc i)) g (size_and t ts) is = ap (size_and t) (with_none (Some i) g ts is)

-- ---- by names

module _ (N : Names) (f : Text) where
  pub named_other : (t : Size) → is_built t ≡ false → None ≡ part_of N f t
  unfolding part_of
  named_other (Hole v) off = refl
  named_other (Open n v u) off = refl
  named_other (Level d t) off = refl
  named_other (Built h ts) off = cc
  named_other (Fun k p r) off = refl

  pub changed_other : (g : Size → Size) (t : Size) → is_built t ≡ false → t ≡ changed_part N f g t
  unfolding changed_part
  changed_other g (Hole v) off = refl
  changed_other g (Open n v u) off = refl
  changed_other g (Level d t) off = refl
  changed_other g (Built h ts) off = cc
  changed_other g (Fun k p r) off = refl

  module _ (h : Head) (ts : Sizes) (t : Size) (is : t ≡ Built h ts) where
    pub named_built : (x : Option Size) → x ≡ part (place N.shapes (N.label f) h) ts → x ≡ part_of N f t
    unfolding part_of
    named_built x e = e ∙ sym (ap (part_of N f) is)

    pub changed_built : (g : Size → Size) (us : Sizes) (made : Size) → us ≡ with_part (place N.shapes (N.label f) h) g ts → made ≡ Built h us → made ≡ changed_part N f g t
    unfolding changed_part
    changed_built g us made e m = m ∙ ap (Built h) e ∙ sym (ap (changed_part N f g) is)
