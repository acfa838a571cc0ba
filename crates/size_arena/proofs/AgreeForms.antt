-- Whether two sized types agree, form by form.
use Rattle.std.proofs.Common.{◌≡◌, ℕ, ◌+◌, ◌<◌, ◌≤◌, List, length, get_or, drop, true, false, refl, sym, ap, ◌∙◌, Result, Ok, Err}
use Rattle.fut_types.specs.declared.Head.{Head}
use Rattle.sized_types.specs.Sizes.{Dim, Size, Hole, Open, Level, Built, Fun, Sizes, size_and, is_dim}
use Rattle.fut_sizes.specs.Agreeing.{then_do, compare, agree, all_agree}
use Rattle.size_arena.specs.declared.agreeing.Refusal.{Refusal}
use Rattle.size_arena.specs.declared.agreeing.Refusal.TheVariants as refusal
use Rattle.std.specs.Borrow.{Bor}
use Rattle.size_arena.specs.declared.dims.Dim as dims
use Rattle.size_arena.specs.declared.dims.Variable.TheVariants as variable
use Rattle.size_arena.specs.declared.trees.SizeTree.{SizeTree}
use Rattle.size_arena.specs.declared.trees.SizeTree.TheVariants as form
use Rattle.size_arena.specs.Answers.{told}
use Rattle.size_arena.specs.Trees.{dim_of, size_of, sizes_of}
use Rattle.size_arena.proofs.Forms.{forms, size_level, size_fun}
use Rattle.size_arena.proofs.Parts.{parts_at, parts_end}
use Rattle.size_arena.proofs.Unlike.{unlike}

pub compare_same : (at : ℕ) (d e : Dim) → true ≡ is_dim d e → Ok tt ≡ compare at d e
compare_same at d e h = rw (sym h) refl

pub compare_other : (at : ℕ) (d e : dims.Dim) → false ≡ is_dim (dim_of d) (dim_of e) → told (Err (refusal.Mismatch at d e)) ≡ compare at (dim_of d) (dim_of e)
compare_other at d e h = rw (sym h) refl

pub ruleset compares = (compare_same, compare_other)

-- ---- one after another

abbrev pub Told : Type 0
Told = Result (Unit {0}) Refusal

pub agree_unlike : (at : ℕ) (t u : Size) → unlike t u ≡ true → Ok tt ≡ agree at t u
unfolding agree
agree_unlike at (Hole v) u so = refl
agree_unlike at (Open n v x) u so = refl
agree_unlike at (Level d t) (Hole w) so = refl
agree_unlike at (Level d t) (Open m w y) so = refl
agree_unlike at (Level d t) (Level e u) so = cc
agree_unlike at (Level d t) (Built g us) so = refl
agree_unlike at (Level d t) (Fun l q s) so = refl
agree_unlike at (Built h ts) (Hole w) so = refl
agree_unlike at (Built h ts) (Open m w y) so = refl
agree_unlike at (Built h ts) (Level e u) so = refl
agree_unlike at (Built h ts) (Built g us) so = cc
agree_unlike at (Built h ts) (Fun l q s) so = refl
agree_unlike at (Fun k p r) (Hole w) so = refl
agree_unlike at (Fun k p r) (Open m w y) so = refl
agree_unlike at (Fun k p r) (Level e u) so = refl
agree_unlike at (Fun k p r) (Built g us) so = refl
agree_unlike at (Fun k p r) (Fun l q s) so = cc

pub agree_level : (at : ℕ) (d e : Dim) (t u : Size) (x : Unit {0}) (r : Told) → told (Ok x) ≡ compare at d e → told r ≡ agree at t u → told r ≡ agree at (Level d t) (Level e u)
unfolding agree
agree_level at d e t u x r h k = k ∙ ap (λ z. then_do z (λ v. agree at t u)) h

pub agree_clash : (at : ℕ) (d e : Dim) (t u : Size) (x : Refusal) → told (Err x) ≡ compare at d e → told (Err x) ≡ agree at (Level d t) (Level e u)
unfolding agree
agree_clash at d e t u x h = ap (λ z. then_do z (λ v. agree at t u)) h

pub agree_built : (at : ℕ) (h g : Head) (ts us : Sizes) (r : Told) → told r ≡ all_agree at ts us → told r ≡ agree at (Built h ts) (Built g us)
unfolding agree all_agree
agree_built at h g ts us r k = k

pub agree_fun : (at k l : ℕ) (p r q s : Size) (x : Unit {0}) (o : Told) → told (Ok x) ≡ agree at p q → told o ≡ agree at r s → told o ≡ agree at (Fun k p r) (Fun l q s)
unfolding agree
agree_fun at k l p r q s x o h i = i ∙ ap (λ z. then_do z (λ v. agree at r s)) h

pub agree_taken : (at k l : ℕ) (p r q s : Size) (x : Refusal) → told (Err x) ≡ agree at p q → told (Err x) ≡ agree at (Fun k p r) (Fun l q s)
unfolding agree
agree_taken at k l p r q s x h = ap (λ z. then_do z (λ v. agree at r s)) h

pub ruleset agrees = (forms, agree_unlike, agree_level, agree_clash, agree_built, agree_fun, agree_taken)

module _ (at : ℕ) (w f : SizeTree) (height height' : ℕ) (k r : Told) (x : Unit {0}) (o : k ≡ Ok x) where
  pub level_agrees : (d e : dims.Dim) (t u : Bor SizeTree) → w ≡ form.Level height d t → f ≡ form.Level height' e u → told k ≡ compare at (dim_of d) (dim_of e) → told r ≡ agree at (size_of t.now) (size_of u.now) → told r ≡ agree at (size_of w) (size_of f)
  level_agrees d e t u p q a b =
      agree_level at (dim_of d) (dim_of e) (size_of t.now) (size_of u.now) x r (ap told (sym o) ∙ a) b
      ∙ sym (ap (λ z. agree at z (size_of f)) (ap size_of p ∙ size_level height d t) ∙ ap (agree at (Level (dim_of d) (size_of t.now))) (ap size_of q ∙ size_level height' e u))

  pub fun_agrees : (i j : ℕ) (p q s t : Bor SizeTree) → w ≡ form.Fun height i p q → f ≡ form.Fun height' j s t → told k ≡ agree at (size_of p.now) (size_of s.now) → told r ≡ agree at (size_of q.now) (size_of t.now) → told r ≡ agree at (size_of w) (size_of f)
  fun_agrees i j p q s t g h a b =
      agree_fun at i j (size_of p.now) (size_of q.now) (size_of s.now) (size_of t.now) x r (ap told (sym o) ∙ a) b
      ∙ sym (ap (λ z. agree at z (size_of f)) (ap size_of g ∙ size_fun height i p q) ∙ ap (agree at (Fun i (size_of p.now) (size_of q.now))) (ap size_of h ∙ size_fun height' j s t))

-- ---- parts

module _ (at : ℕ) (ts us : List SizeTree) (i : ℕ) where
  here : (t u : SizeTree) → i < length ts → i < length us → all_agree at (sizes_of (drop i ts)) (sizes_of (drop i us))
      ≡ then_do (agree at (size_of (get_or ts i t)) (size_of (get_or us i u))) (λ z. all_agree at (sizes_of (drop (i + 1) ts)) (sizes_of (drop (i + 1) us)))
  unfolding agree all_agree
  here t u l k = ap (λ z. all_agree at z (sizes_of (drop i us))) (parts_at ts i t l) ∙ ap (λ z. all_agree at (size_and (size_of (get_or ts i t)) (sizes_of (drop (i + 1) ts))) z) (parts_at us i u k)

  pub all_more : (t u : SizeTree) (k : Told) (x : Unit {0}) → i < length ts → i < length us → k ≡ Ok x → told k ≡ agree at (size_of (get_or ts i t)) (size_of (get_or us i u))
      → all_agree at (sizes_of ts) (sizes_of us) ≡ all_agree at (sizes_of (drop i ts)) (sizes_of (drop i us))
      → all_agree at (sizes_of ts) (sizes_of us) ≡ all_agree at (sizes_of (drop (i + 1) ts)) (sizes_of (drop (i + 1) us))
  all_more t u o x l k is h e = e ∙ here t u l k ∙ ap (λ z. then_do z (λ y. all_agree at (sizes_of (drop (i + 1) ts)) (sizes_of (drop (i + 1) us)))) (sym (ap told (sym is) ∙ h))

  pub all_clash : (t u : SizeTree) (x : Refusal) → i < length ts → i < length us → told (Err x) ≡ agree at (size_of (get_or ts i t)) (size_of (get_or us i u))
      → all_agree at (sizes_of ts) (sizes_of us) ≡ all_agree at (sizes_of (drop i ts)) (sizes_of (drop i us))
      → told (Err x) ≡ all_agree at (sizes_of ts) (sizes_of us)
  all_clash t u x l k h e = sym (e ∙ here t u l k ∙ ap (λ z. then_do z (λ y. all_agree at (sizes_of (drop (i + 1) ts)) (sizes_of (drop (i + 1) us)))) (sym h))

  pub all_wanted : length ts ≤ i → all_agree at (sizes_of ts) (sizes_of us) ≡ all_agree at (sizes_of (drop i ts)) (sizes_of (drop i us)) → Ok tt ≡ all_agree at (sizes_of ts) (sizes_of us)
  unfolding all_agree
  all_wanted l e = sym (e ∙ ap (λ z. all_agree at z (sizes_of (drop i us))) (parts_end ts i l))

  pub all_found : i < length ts → length us ≤ i → all_agree at (sizes_of ts) (sizes_of us) ≡ all_agree at (sizes_of (drop i ts)) (sizes_of (drop i us)) → Ok tt ≡ all_agree at (sizes_of ts) (sizes_of us)
  unfolding all_agree
  all_found l k e = sym (e ∙ ap (λ z. all_agree at z (sizes_of (drop i us))) (parts_at ts i (form.Hole (variable.Inferred 0)) l) ∙ ap (λ z. all_agree at (size_and (size_of (get_or ts i (form.Hole (variable.Inferred 0)))) (sizes_of (drop (i + 1) ts))) z) (parts_end us i k))

pub ruleset all_agrees = (all_clash, all_wanted)
