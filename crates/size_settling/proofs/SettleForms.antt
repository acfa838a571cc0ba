-- Variables that nothing has filled, form by form.
use Rattle.std.proofs.Common.{◌≡◌, ℕ, ◌+◌, ◌<◌, ◌≤◌, List, length, get_or, drop, Result, Ok, Err, refl, sym, ap, ◌∙◌, subst}
use Rattle.std.specs.Prelude.{IfOk}
use Rattle.fut_scalar.specs.declared.memory.NoMemory.{NoMemory}
use Rattle.fut_types.specs.declared.Head.{Head}
use Rattle.fut_types.specs.Types.{Ty}
use Rattle.sized_types.specs.Sizes.{Dim, Variable, Size, Hole, Open, Level, Built, Fun, Sizes}
use Rattle.fut_sizes.specs.Applications.{still_open, all_settled, parts_settled}
use Rattle.fut_sizes.specs.Matching as matching
use Rattle.fut_sizes.specs.Matching.{read}
use Rattle.size_arena.specs.declared.trees.SizeTree.{SizeTree}
use Rattle.size_arena.specs.Trees.{size_of, sizes_of}
use Rattle.size_arena.proofs.Parts.{parts_at, parts_end}
use Rattle.size_slots.specs.declared.slots.Found.{Found}
use Rattle.size_slots.specs.Held.{Holds, Held}
use Rattle.size_settling.specs.Settled.{settled_by}

abbrev pub Done : Type 0
Done = Result (Unit {0}) NoMemory

-- what a table holds behind a step that only memory can stop
abbrev pub Turns : Found → (matching.Found → matching.Found) → Found → Done → Type 0
Turns f go g r = (σ : matching.Found) → Holds f σ → IfOk r (λ u. Holds g (go σ))

pub held_behind : (f g : Found) (go : matching.Found → matching.Found) (k : Done) (x : Unit {0}) → k ≡ Ok x → Held f → Turns f go g k → Held g
held_behind f g go k x is h m = (go h.0, subst (λ z. IfOk z (λ u. Holds g (go h.0))) is (m h.0 h.1))

pub still_held : (f g : Found) (go : matching.Found → matching.Found) (k : Done) → Held f → Turns f go g k → IfOk k (λ u. Held g)
still_held f g go (Ok x) h m = (go h.0, m h.0 h.1)
still_held f g go (Err e) h m = tt

by_taken : (n : ℕ) (v : Variable) (s : Size) (σ : matching.Found) → still_open n v s σ ≡ settled_by s σ
by_taken n v (Hole x) σ = refl
by_taken n v (Open m x u) σ = refl
by_taken n v (Level d t) σ = refl
by_taken n v (Built h ts) σ = refl
by_taken n v (Fun k p r) σ = refl

open_settles : (n : ℕ) (v : Variable) (u : Ty) (σ : matching.Found) → all_settled (Open n v u) σ ≡ settled_by (read σ (Open n v u)) σ
unfolding all_settled read
open_settles n v u σ = by_taken n v (σ.type n v u) σ

two_settle : (k : ℕ) (p r : Size) (σ : matching.Found) → all_settled (Fun k p r) σ ≡ all_settled r (all_settled p σ)
unfolding all_settled
two_settle k p r σ = refl

module _ (f g : Found) (t : Size) where
  pub hole_settles : (v : Variable) → t ≡ Hole v → Turns f (all_settled t) f (Ok tt)
  unfolding all_settled
  hole_settles v is σ held = subst (Holds f) (sym (ap (λ z. all_settled z σ) is)) held

  pub variable_settles : (n : ℕ) (v : Variable) (u : Ty) (r : Done) → t ≡ Open n v u → Turns f (λ σ. settled_by (read σ t) σ) g r → Turns f (all_settled t) g r
  variable_settles n v u r is m σ held = subst (λ z. IfOk r (λ y. Holds g z)) (ap (λ z. settled_by (read σ z) σ) is ∙ sym (open_settles n v u σ) ∙ sym (ap (λ z. all_settled z σ) is)) (m σ held)

  pub level_settles : (d : Dim) (s : Size) (r : Done) → t ≡ Level d s → Turns f (all_settled s) g r → Turns f (all_settled t) g r
  unfolding all_settled
  level_settles d s r is m σ held = subst (λ z. IfOk r (λ y. Holds g z)) (sym (ap (λ z. all_settled z σ) is)) (m σ held)

  pub parts_settle : (h : Head) (ts : Sizes) (r : Done) → t ≡ Built h ts → Turns f (parts_settled ts) g r → Turns f (all_settled t) g r
  unfolding all_settled parts_settled
  parts_settle h ts r is m σ held = subst (λ z. IfOk r (λ y. Holds g z)) (sym (ap (λ z. all_settled z σ) is)) (m σ held)

  pub function_settles : (mid : Found) (k : ℕ) (p s : Size) (o r : Done) (x : Unit {0}) → t ≡ Fun k p s → o ≡ Ok x → Turns f (all_settled p) mid o → Turns mid (all_settled s) g r → Turns f (all_settled t) g r
  function_settles mid k p s o r x is ok m n σ held =
      subst (λ z. IfOk r (λ y. Holds g z)) (sym (ap (λ z. all_settled z σ) is ∙ two_settle k p s σ)) (n (all_settled p σ) (subst (λ z. IfOk z (λ u. Holds mid (all_settled p σ))) ok (m σ held)))

-- what is left of the parts from one on
abbrev pub So_far : Found → List SizeTree → Found → ℕ → Type 0
So_far f ts g j = (σ : matching.Found) → Holds f σ → (τ : matching.Found) × Holds g τ × (parts_settled (sizes_of ts) σ ≡ parts_settled (sizes_of (drop j ts)) τ)

pub settle_start : (f : Found) (ts : List SizeTree) → So_far f ts f 0
settle_start f ts σ held = (σ, held, refl)

module _ (f : Found) (ts : List SizeTree) (i : ℕ) where
  part_settles : (t : SizeTree) (τ : matching.Found) → i < length ts → parts_settled (sizes_of (drop i ts)) τ ≡ parts_settled (sizes_of (drop (i + 1) ts)) (all_settled (size_of (get_or ts i t)) τ)
  unfolding all_settled parts_settled
  part_settles t τ l = ap (λ z. parts_settled z τ) (parts_at ts i t l)

  pub settle_more : (g h : Found) (t : SizeTree) (o : Done) (x : Unit {0}) → i < length ts → So_far f ts g i → o ≡ Ok x → Turns g (all_settled (size_of (get_or ts i t))) h o → So_far f ts h (i + 1)
  settle_more g h t o x l far ok m σ held =
      (all_settled (size_of (get_or ts i t)) (far σ held).0, subst (λ z. IfOk z (λ u. Holds h (all_settled (size_of (get_or ts i t)) (far σ held).0))) ok (m (far σ held).0 (far σ held).1), (far σ held).2 ∙ part_settles t (far σ held).0 l)

  none_left : (τ : matching.Found) → length ts ≤ i → parts_settled (sizes_of (drop i ts)) τ ≡ τ
  unfolding parts_settled
  none_left τ l = ap (λ z. parts_settled z τ) (parts_end ts i l)

  pub settle_end : (g : Found) → length ts ≤ i → So_far f ts g i → Turns f (parts_settled (sizes_of ts)) g (Ok tt)
  settle_end g l far σ held = subst (Holds g) (sym ((far σ held).2 ∙ none_left (far σ held).0 l)) (far σ held).1
