-- The levels in which what a turn gives differs, form by form.
use Rattle.std.proofs.Common.{◌≡◌, ℕ, suc, ◌+◌, ◌<◌, ◌≤◌, List, [], ◌∷◌, ◌++◌, length, get_or, drop, Bool, true, false, cond, Result, Ok, Err, refl, sym, ap, ◌∙◌, arith, add-one, append-nil, append_assoc}
use Rattle.std.specs.Prelude.{IfOk, ◌||◌}
use Rattle.std.specs.Borrow.{Bor}
use Rattle.fut_scalar.specs.declared.memory.NoMemory.{NoMemory}
use Rattle.fut_types.specs.Types.{Sub}
use Rattle.fut_types.specs.declared.Head.{Head}
use Rattle.fut_typing.specs.Names.{Names}
use Rattle.sized_types.specs.Sizes.{Dim, Size, Hole, Open, Level, Built, Fun, size_and, is_dim, levels}
use Rattle.fut_sizes.specs.Agreeing.{is_among}
use Rattle.fut_sizes.specs.Sizing.{differing, all_differing}
use Rattle.size_arena.specs.declared.dims.Dim as dims
use Rattle.size_arena.specs.declared.dims.Variable.TheVariants as variable
use Rattle.size_arena.specs.declared.trees.SizeTree.{SizeTree}
use Rattle.size_arena.specs.declared.trees.SizeTree.TheVariants as form
use Rattle.size_arena.specs.Trees.{dim_of, size_of, sizes_of}
use Rattle.size_arena.proofs.Forms.{size_level, size_built}
use Rattle.size_arena.proofs.Parts.{parts_at, parts_end}

abbrev pub Done : Type 0
Done = Result (Unit {0}) NoMemory

-- ---- one level

abbrev pub noted : List ℕ → ℕ → Dim → Dim → List ℕ
noted ds i d e = cond (is_among ds i || is_dim d e) [] (i ∷ [])

module _ (ds fs : List ℕ) (i : ℕ) (d e : Dim) where
  pub level_dropped : true ≡ is_among ds i → fs ≡ fs ++ noted ds i d e
  level_dropped h = sym (append-nil fs) ∙ ap (λ z. fs ++ cond (z || is_dim d e) [] (i ∷ [])) h

  pub level_same : false ≡ is_among ds i → true ≡ is_dim d e → fs ≡ fs ++ noted ds i d e
  level_same h k = sym (append-nil fs) ∙ ap (λ z. fs ++ cond (false || z) [] (i ∷ [])) k ∙ ap (λ z. fs ++ cond (z || is_dim d e) [] (i ∷ [])) h

  pub level_differs : (gs : List ℕ) → false ≡ is_among ds i → false ≡ is_dim d e → gs ≡ fs ++ i ∷ [] → gs ≡ fs ++ noted ds i d e
  level_differs gs h k a = a ∙ ap (λ z. fs ++ cond (false || z) [] (i ∷ [])) k ∙ ap (λ z. fs ++ cond (z || is_dim d e) [] (i ∷ [])) h

pub ruleset levels_noted = (level_dropped, level_same, level_differs)

before_rest : (b : Bool) (i : ℕ) (rest : List ℕ) → cond b [] (i ∷ []) ++ rest ≡ cond b rest (i ∷ rest)
before_rest true i rest = refl
before_rest false i rest = refl

-- ---- form by form

-- neither two arrays nor two of parts
abbrev pub apart : Size → Size → Bool
apart (Level d t) (Level e u) = false
apart (Built h ts) (Built g us) = false
apart t u = true

module _ (N : Names) (types : Sub) (ds : List ℕ) (i : ℕ) where
  apart_same : (t u : Size) → apart t u ≡ true → [] ≡ differing N types ds i t u
  unfolding differing
  apart_same (Hole v) u so = refl
  apart_same (Open n v x) u so = refl
  apart_same (Level d t) (Hole w) so = refl
  apart_same (Level d t) (Open m w y) so = refl
  apart_same (Level d t) (Level e u) so = cc
  apart_same (Level d t) (Built g us) so = refl
  apart_same (Level d t) (Fun l q s) so = refl
  apart_same (Built h ts) (Hole w) so = refl
  apart_same (Built h ts) (Open m w y) so = refl
  apart_same (Built h ts) (Level e u) so = refl
  apart_same (Built h ts) (Built g us) so = cc
  apart_same (Built h ts) (Fun l q s) so = refl
  apart_same (Fun k p r) u so = refl

  two_levels : (d e : Dim) (t u : Size) → differing N types ds i (Level d t) (Level e u) ≡ noted ds i d e ++ differing N types ds (suc i) t u
  unfolding differing
  two_levels d e t u = sym (before_rest (is_among ds i || is_dim d e) i (differing N types ds (suc i) t u))

  module _ (t u : SizeTree) (fs : List ℕ) where
    pub none_differs : (a b : Size) → size_of t ≡ a → size_of u ≡ b → apart a b ≡ true → fs ≡ fs ++ differing N types ds i (size_of t) (size_of u)
    none_differs a b p q so = sym (append-nil fs) ∙ ap (λ z. fs ++ z) (apart_same a b so ∙ sym (ap (λ z. differing N types ds i z b) p) ∙ sym (ap (differing N types ds i (size_of t)) q))

    pub levels_differ : (height height' k : ℕ) (d e : dims.Dim) (r s : Bor SizeTree) (gs hs : List ℕ) (o : Done) → t ≡ form.Level height d r → u ≡ form.Level height' e s → gs ≡ fs ++ noted ds i (dim_of d) (dim_of e) → k ≡ i + 1
        → IfOk o (λ x. hs ≡ gs ++ differing N types ds k (size_of r.now) (size_of s.now)) → IfOk o (λ x. hs ≡ fs ++ differing N types ds i (size_of t) (size_of u))
    levels_differ height height' k d e r s gs hs (Ok x) p q a b h =
        h ∙ ap (λ z. gs ++ differing N types ds z (size_of r.now) (size_of s.now)) (b ∙ add-one i)
        ∙ ap (λ z. z ++ differing N types ds (suc i) (size_of r.now) (size_of s.now)) a
        ∙ append_assoc fs (noted ds i (dim_of d) (dim_of e)) (differing N types ds (suc i) (size_of r.now) (size_of s.now))
        ∙ ap (λ z. fs ++ z) (sym (two_levels (dim_of d) (dim_of e) (size_of r.now) (size_of s.now))
        ∙ sym (ap (λ z. differing N types ds i z (Level (dim_of e) (size_of s.now))) (ap size_of p ∙ size_level height d r))
        ∙ sym (ap (differing N types ds i (size_of t)) (ap size_of q ∙ size_level height' e s)))
    levels_differ height height' k d e r s gs hs (Err x) p q a b h = tt

    pub parts_differ : (height height' : ℕ) (h g : Head) (ts us : Bor (List SizeTree)) (gs : List ℕ) (o : Done) → t ≡ form.Built height h ts → u ≡ form.Built height' g us
        → IfOk o (λ x. gs ≡ fs ++ all_differing N types ds i (sizes_of ts.now) (sizes_of us.now)) → IfOk o (λ x. gs ≡ fs ++ differing N types ds i (size_of t) (size_of u))
    unfolding differing all_differing
    parts_differ height height' h g ts us gs (Ok x) p q k =
        k ∙ ap (λ z. fs ++ z) (sym (ap (λ z. differing N types ds i z (Built g (sizes_of us.now))) (ap size_of p ∙ size_built height h ts))
        ∙ sym (ap (differing N types ds i (size_of t)) (ap size_of q ∙ size_built height' g us)))
    parts_differ height height' h g ts us gs (Err x) p q k = tt

-- ---- parts

module _ (N : Names) (types : Sub) (ds : List ℕ) (ts us : List SizeTree) (i f j : ℕ) (fs gs : List ℕ)
    (o : fs ++ all_differing N types ds f (sizes_of ts) (sizes_of us) ≡ gs ++ all_differing N types ds j (sizes_of (drop i ts)) (sizes_of (drop i us))) where
  here : (t u : SizeTree) → i < length ts → i < length us → all_differing N types ds j (sizes_of (drop i ts)) (sizes_of (drop i us))
      ≡ differing N types ds j (size_of (get_or ts i t)) (size_of (get_or us i u)) ++ all_differing N types ds (levels (size_of (get_or ts i t)) + j) (sizes_of (drop (i + 1) ts)) (sizes_of (drop (i + 1) us))
  unfolding differing all_differing
  here t u l k = ap (λ z. all_differing N types ds j z (sizes_of (drop i us))) (parts_at ts i t l) ∙ ap (λ z. all_differing N types ds j (size_and (size_of (get_or ts i t)) (sizes_of (drop (i + 1) ts))) z) (parts_at us i u k)

  pub parts_more : (t u : SizeTree) (k : ℕ) (hs : List ℕ) → i < length ts → i < length us → hs ≡ gs ++ differing N types ds j (size_of (get_or ts i t)) (size_of (get_or us i u)) → k ≡ j + levels (size_of (get_or ts i t))
      → fs ++ all_differing N types ds f (sizes_of ts) (sizes_of us) ≡ hs ++ all_differing N types ds k (sizes_of (drop (i + 1) ts)) (sizes_of (drop (i + 1) us))
  parts_more t u k hs l m h a =
      o ∙ ap (λ z. gs ++ z) (here t u l m)
      ∙ sym (append_assoc gs (differing N types ds j (size_of (get_or ts i t)) (size_of (get_or us i u))) (all_differing N types ds (levels (size_of (get_or ts i t)) + j) (sizes_of (drop (i + 1) ts)) (sizes_of (drop (i + 1) us))))
      ∙ ap (λ z. z ++ all_differing N types ds (levels (size_of (get_or ts i t)) + j) (sizes_of (drop (i + 1) ts)) (sizes_of (drop (i + 1) us))) (sym h)
      ∙ ap (λ z. hs ++ all_differing N types ds z (sizes_of (drop (i + 1) ts)) (sizes_of (drop (i + 1) us))) (swapped (levels (size_of (get_or ts i t))) j k a)
    where
      swapped : (x j k : ℕ) → k ≡ j + x → x + j ≡ k
      swapped x j k a = omega (arith, a)

  pub began_ends : length ts ≤ i → gs ≡ fs ++ all_differing N types ds f (sizes_of ts) (sizes_of us)
  unfolding all_differing
  began_ends l = sym (o ∙ ap (λ z. gs ++ all_differing N types ds j z (sizes_of (drop i us))) (parts_end ts i l) ∙ append-nil gs)

  pub ended_ends : i < length ts → length us ≤ i → gs ≡ fs ++ all_differing N types ds f (sizes_of ts) (sizes_of us)
  unfolding all_differing
  ended_ends l k = sym (o ∙ ap (λ z. gs ++ all_differing N types ds j z (sizes_of (drop i us))) (parts_at ts i (form.Hole (variable.Inferred 0)) l)
      ∙ ap (λ z. gs ++ all_differing N types ds j (size_and (size_of (get_or ts i (form.Hole (variable.Inferred 0)))) (sizes_of (drop (i + 1) ts))) z) (parts_end us i k) ∙ append-nil gs)
