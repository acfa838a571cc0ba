-- The levels that a loop has dropped, form by form.
use Rattle.std.proofs.Common.{◌≡◌, ℕ, suc, ◌+◌, ◌<◌, ◌≤◌, List, [], ◌∷◌, ◌++◌, length, get_or, drop, true, false, cond, Result, Ok, Err, refl, sym, ap, ◌∙◌, arith, add-one}
use Rattle.std.specs.Prelude.{IfOk}
use Rattle.std.specs.Borrow.{Bor}
use Rattle.fut_scalar.specs.declared.memory.NoMemory.{NoMemory}
use Rattle.fut_types.specs.Types.{Sub}
use Rattle.fut_types.specs.declared.Head.{Head}
use Rattle.fut_typing.specs.Names.{Names}
use Rattle.sized_types.specs.Sizes.{Unknown, Dim, At, Size, Hole, Open, Level, Built, Fun, Sizes, no_size, size_and, levels}
use Rattle.fut_sizes.specs.Agreeing.{is_among}
use Rattle.fut_sizes.specs.Sizing.{lacking, all_lacking}
use Rattle.size_arena.specs.declared.dims.Dim as dims
use Rattle.size_arena.specs.declared.dims.Variable as variables
use Rattle.size_arena.specs.declared.trees.SizeTree.{SizeTree}
use Rattle.size_arena.specs.declared.trees.SizeTree.TheVariants as form
use Rattle.size_arena.specs.declared.types.TypeTree.{TypeTree}
use Rattle.size_arena.specs.Trees.{dim_of, size_of, sizes_of}
use Rattle.size_arena.proofs.Forms.{size_hole, size_open, size_level, size_built, size_fun}
use Rattle.size_arena.proofs.Parts.{parts_at, parts_end, before, before_more, before_none}

abbrev pub Tree_made : Type 0
Tree_made = Result (Bor SizeTree) NoMemory

module _ (n i : ℕ) (ds : List ℕ) (d : Dim) where
  pub dim_lacks : true ≡ is_among ds i → At (Unknown n i) ≡ cond (is_among ds i) (At (Unknown n i)) d
  dim_lacks h = ap (λ z. cond z (At (Unknown n i)) d) h

  pub dim_stays : false ≡ is_among ds i → d ≡ cond (is_among ds i) (At (Unknown n i)) d
  dim_stays h = ap (λ z. cond z (At (Unknown n i)) d) h

pub ruleset dims_lack = (dim_lacks, dim_stays)

module _ (N : Names) (types : Sub) (n : ℕ) (ds : List ℕ) (i : ℕ) (t : SizeTree) where
  pub hole_stays : (v : variables.Variable) → t ≡ form.Hole v → size_of t ≡ lacking N types n ds i (size_of t)
  unfolding lacking
  hole_stays v is = rw (is, size_hole) refl

  pub open_stays : (m : ℕ) (v : variables.Variable) (u : Bor TypeTree) → t ≡ form.Open m v u → size_of t ≡ lacking N types n ds i (size_of t)
  unfolding lacking
  open_stays m v u is = rw (is, size_open) refl

  pub function_stays : (height k : ℕ) (p r : Bor SizeTree) → t ≡ form.Fun height k p r → size_of t ≡ lacking N types n ds i (size_of t)
  unfolding lacking
  function_stays height k p r is = rw (is, size_fun) refl

  pub level_lacks : (height k : ℕ) (d e : dims.Dim) (r u : Bor SizeTree) (o : Tree_made) → t ≡ form.Level height d r → k ≡ i + 1 → dim_of e ≡ cond (is_among ds i) (At (Unknown n i)) (dim_of d) → size_of u.now ≡ lacking N types n ds k (size_of r.now)
      → IfOk o (λ m. size_of m.now ≡ Level (dim_of e) (size_of u.now)) → IfOk o (λ m. size_of m.now ≡ lacking N types n ds i (size_of t))
  unfolding lacking
  level_lacks height k d e r u (Ok m) is a b c h =
      h ∙ ap (λ z. Level z (size_of u.now)) b ∙ ap (Level (cond (is_among ds i) (At (Unknown n i)) (dim_of d))) (c ∙ ap (λ z. lacking N types n ds z (size_of r.now)) (a ∙ add-one i))
      ∙ sym (ap (lacking N types n ds i) (ap size_of is ∙ size_level height d r))
  level_lacks height k d e r u (Err x) is a b c h = tt

  pub built_lacks : (height : ℕ) (h : Head) (ts us : Bor (List SizeTree)) (o : Tree_made) → t ≡ form.Built height h ts → sizes_of us.now ≡ all_lacking N types n ds i (sizes_of ts.now) → IfOk o (λ m. size_of m.now ≡ Built h (sizes_of us.now)) → IfOk o (λ m. size_of m.now ≡ lacking N types n ds i (size_of t))
  unfolding lacking all_lacking
  built_lacks height h ts us (Ok m) is a k = k ∙ ap (Built h) a ∙ sym (ap (lacking N types n ds i) (ap size_of is ∙ size_built height h ts))
  built_lacks height h ts us (Err x) is a k = tt

-- ---- parts

pub parts_lack_start : (N : Names) (types : Sub) (n f : ℕ) (ds : List ℕ) (ts made : List SizeTree) → made ≡ [] → all_lacking N types n ds f (sizes_of ts) ≡ before made (all_lacking N types n ds f (sizes_of ts))
parts_lack_start N types n f ds ts made e = sym (ap (λ z. before z (all_lacking N types n ds f (sizes_of ts))) e)

module _ (N : Names) (types : Sub) (n f : ℕ) (ds : List ℕ) (ts : List SizeTree) (i j : ℕ) (made : List SizeTree) (h : all_lacking N types n ds f (sizes_of ts) ≡ before made (all_lacking N types n ds j (sizes_of (drop i ts)))) where
  pub parts_lack_more : (t part : SizeTree) (k : ℕ) (more : List SizeTree) → i < length ts → size_of part ≡ lacking N types n ds j (size_of (get_or ts i t)) → k ≡ j + levels (size_of (get_or ts i t)) → more ≡ made ++ part ∷ []
      → all_lacking N types n ds f (sizes_of ts) ≡ before more (all_lacking N types n ds k (sizes_of (drop (i + 1) ts)))
  unfolding lacking all_lacking
  parts_lack_more t part k more l e a b =
      h ∙ ap (before made) (ap (all_lacking N types n ds j) (parts_at ts i t l)
      ∙ ap (λ z. size_and z (all_lacking N types n ds (levels (size_of (get_or ts i t)) + j) (sizes_of (drop (i + 1) ts)))) (sym e)
      ∙ ap (λ z. size_and (size_of part) (all_lacking N types n ds z (sizes_of (drop (i + 1) ts)))) (swapped (levels (size_of (get_or ts i t))) j k a))
      ∙ sym (before_more made part (all_lacking N types n ds k (sizes_of (drop (i + 1) ts))))
      ∙ ap (λ z. before z (all_lacking N types n ds k (sizes_of (drop (i + 1) ts)))) (sym b)
    where
      swapped : (x j k : ℕ) → k ≡ j + x → x + j ≡ k
      swapped x j k a = omega (arith, a)

  pub parts_lack_end : length ts ≤ i → sizes_of made ≡ all_lacking N types n ds f (sizes_of ts)
  unfolding all_lacking
  parts_lack_end l = sym (h ∙ ap (before made) (ap (all_lacking N types n ds j) (parts_end ts i l)) ∙ before_none made)

-- ---- nothing is dropped

module _ (N : Names) (types : Sub) (n : ℕ) where
  mutual
    unfolding lacking all_lacking

    nothing_lacks : (i : ℕ) (t : Size) → t ≡ lacking N types n [] i t
    nothing_lacks i (Hole v) = refl
    nothing_lacks i (Open m v u) = refl
    nothing_lacks i (Level d t) = ap (Level d) (nothing_lacks (suc i) t)
    nothing_lacks i (Built h ts) = ap (Built h) (no_part_lacks i ts)
    nothing_lacks i (Fun k p r) = refl

    no_part_lacks : (i : ℕ) (ts : Sizes) → ts ≡ all_lacking N types n [] i ts
    no_part_lacks i no_size = refl
    no_part_lacks i (size_and t ts) = ap (λ z. size_and z ts) (nothing_lacks i t) ∙ ap (size_and (lacking N types n [] i t)) (no_part_lacks (levels t + i) ts)

  pub none_lacks : (ds : List ℕ) (i : ℕ) (t : Size) → length ds ≡ 0 → t ≡ lacking N types n ds i t
  none_lacks [] i t e = nothing_lacks i t
  none_lacks (d ∷ ds) i t e = absurd (omega (arith, e))
