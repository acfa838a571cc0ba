-- What a variable has taken and what it meets next, form by form.
use Rattle.std.proofs.Common.{◌≡◌, ℕ, ◌+◌, ◌<◌, ◌≤◌, List, length, get_or, drop, Bool, true, false, Ok, Err, refl, sym, ap, ◌∙◌}
use Rattle.std.specs.Prelude.{not}
use Rattle.fut_types.specs.declared.Head.{Head}
use Rattle.fut_types.specs.Types.{Ty}
use Rattle.sized_types.specs.Sizes.{Dim, Variable, Size, Hole, Open, Level, Built, Fun, Sizes, size_and}
use Rattle.fut_sizes.specs.Agreeing.{Answer, then_do, agree}
use Rattle.fut_sizes.specs.Matching as matching
use Rattle.fut_sizes.specs.Matching.{meet_dims, read, open_takes, variable_compared, compared, all_compared, meet_variable}
use Rattle.size_arena.specs.declared.agreeing.Refusal.{Refusal}
use Rattle.size_arena.specs.declared.agreeing.SizeErr.TheVariants as size_err
use Rattle.size_arena.specs.declared.dims.Variable.TheVariants as variable
use Rattle.size_arena.specs.declared.trees.SizeTree.{SizeTree}
use Rattle.size_arena.specs.declared.trees.SizeTree.TheVariants as form
use Rattle.size_arena.specs.Answers.{refusal_of}
use Rattle.size_arena.specs.Trees.{size_of, sizes_of}
use Rattle.size_arena.proofs.Parts.{parts_at, parts_end}
use Rattle.size_matching.specs.Agreed.{Agrees, agrees, differs}
use Rattle.size_slots.proofs.TakeLaws.{is_form}

pub agreed_so : (a : Answer (Unit {0})) → Ok tt ≡ a → Agrees a (Ok tt)
agreed_so a e = agrees (sym e)

pub agreed_not : (a : Answer (Unit {0})) (e : Refusal) → Err (refusal_of e) ≡ a → Agrees a (Err (size_err.Refused e))
agreed_not a e h = differs (sym h)

pub ruleset agreement = (agreed_so, agreed_not)

-- neither is an open variable, and they are of different forms or have neither levels nor parts
abbrev pub apart : Size → Size → Bool
apart (Open n v u) t = false
apart t (Open n v u) = false
apart (Level d t) (Level e u) = false
apart (Built h ts) (Built g us) = false
apart (Fun k p r) (Fun l q s) = false
apart t u = true

-- ---- one variable

module _ (wanted : Bool) (w : matching.Way) (at : ℕ) where
  pub variable_open : (t u : Size) (n : ℕ) (v : Variable) (x : Ty) → t ≡ Open n v x → (σ : matching.Found) → variable_compared wanted w at t u σ ≡ open_takes wanted w at n v u σ
  variable_open t u n v x is σ = ap (λ z. variable_compared wanted w at z u σ) is

  by_form : (t u : Size) → is_form t ≡ true → (σ : matching.Found) → variable_compared wanted w at t u σ ≡ then_do (agree at t u) (λ z. Ok σ)
  by_form (Hole v) u so σ = refl
  by_form (Open n v x) u so σ = cc
  by_form (Level d t) u so σ = refl
  by_form (Built h ts) u so σ = refl
  by_form (Fun k p r) u so σ = refl

  pub variable_form : (t u a : Size) → t ≡ a → is_form a ≡ true → (σ : matching.Found) → variable_compared wanted w at t u σ ≡ then_do (agree at t u) (λ z. Ok σ)
  variable_form t u a is so σ = by_form t u (ap is_form is ∙ so) σ

  pub meets_open : (t u : Size) (n : ℕ) (v : Variable) (x : Ty) → t ≡ Open n v x → (σ : matching.Found) → meet_variable wanted w at t u σ ≡ open_takes wanted w at n v u σ
  meets_open t u n v x is σ = ap (λ z. meet_variable wanted w at z u σ) is

  abbrev pub other_way : matching.Way
  other_way = record { left_wanted = wanted; in_result = w.in_result; regular = w.regular }

  meets_by_form : (t u : Size) → is_form t ≡ true → (σ : matching.Found) → meet_variable wanted w at t u σ ≡ compared other_way at t u σ
  meets_by_form (Hole v) u so σ = refl
  meets_by_form (Open n v x) u so σ = cc
  meets_by_form (Level d t) u so σ = refl
  meets_by_form (Built h ts) u so σ = refl
  meets_by_form (Fun k p r) u so σ = refl

  pub meets_form : (t u a : Size) → t ≡ a → is_form a ≡ true → (σ : matching.Found) → meet_variable wanted w at t u σ ≡ compared other_way at t u σ
  meets_form t u a is so σ = meets_by_form t u (ap is_form is ∙ so) σ

-- ---- two sized types

module _ (w : matching.Way) (at : ℕ) where
  nothing : (t u : Size) → apart t u ≡ true → (σ : matching.Found) → compared w at t u σ ≡ Ok σ
  unfolding compared
  nothing (Hole v) (Hole x) so σ = refl
  nothing (Hole v) (Open n x u) so σ = cc
  nothing (Hole v) (Level e u) so σ = refl
  nothing (Hole v) (Built g us) so σ = refl
  nothing (Hole v) (Fun l q s) so σ = refl
  nothing (Open n v x) u so σ = cc
  nothing (Level d t) (Hole x) so σ = refl
  nothing (Level d t) (Open n x u) so σ = cc
  nothing (Level d t) (Level e u) so σ = cc
  nothing (Level d t) (Built g us) so σ = refl
  nothing (Level d t) (Fun l q s) so σ = refl
  nothing (Built h ts) (Hole x) so σ = refl
  nothing (Built h ts) (Open n x u) so σ = cc
  nothing (Built h ts) (Level e u) so σ = refl
  nothing (Built h ts) (Built g us) so σ = cc
  nothing (Built h ts) (Fun l q s) so σ = refl
  nothing (Fun k p r) (Hole x) so σ = refl
  nothing (Fun k p r) (Open n x u) so σ = cc
  nothing (Fun k p r) (Level e u) so σ = refl
  nothing (Fun k p r) (Built g us) so σ = refl
  nothing (Fun k p r) (Fun l q s) so σ = cc

  right : (t : Size) (n : ℕ) (v : Variable) (x : Ty) → is_form t ≡ true → (σ : matching.Found) → compared w at t (Open n v x) σ ≡ variable_compared (not w.left_wanted) w at (σ.type n v x) (read σ t) σ
  unfolding compared
  right (Hole y) n v x so σ = refl
  right (Open m y z) n v x so σ = cc
  right (Level d t) n v x so σ = refl
  right (Built h ts) n v x so σ = refl
  right (Fun k p r) n v x so σ = refl

  pub nothing_compared : (t u a b : Size) → t ≡ a → u ≡ b → apart a b ≡ true → (σ : matching.Found) → compared w at t u σ ≡ Ok σ
  nothing_compared t u a b p q so σ = ap (λ z. compared w at z u σ) p ∙ ap (λ z. compared w at a z σ) q ∙ nothing a b so σ

  pub left_compared : (t u : Size) (n : ℕ) (v : Variable) (x : Ty) → t ≡ Open n v x → (σ : matching.Found) → compared w at t u σ ≡ variable_compared w.left_wanted w at (read σ t) (read σ u) σ
  unfolding compared read
  left_compared t u n v x is σ = ap (λ z. compared w at z u σ) is ∙ ap (λ z. variable_compared w.left_wanted w at (read σ z) (read σ u) σ) (sym is)

  pub right_compared : (t u a : Size) (n : ℕ) (v : Variable) (x : Ty) → t ≡ a → is_form a ≡ true → u ≡ Open n v x → (σ : matching.Found) → compared w at t u σ ≡ variable_compared (not w.left_wanted) w at (read σ u) (read σ t) σ
  unfolding read
  right_compared t u a n v x p so is σ = ap (λ z. compared w at t z σ) is ∙ right t n v x (ap is_form p ∙ so) σ ∙ ap (λ z. variable_compared (not w.left_wanted) w at (read σ z) (read σ t) σ) (sym is)

  pub levels_compared : (t u : Size) (d e : Dim) (r s : Size) → t ≡ Level d r → u ≡ Level e s → (σ : matching.Found) → compared w at t u σ ≡ then_do (meet_dims w at d e σ) (λ found. compared w at r s found)
  unfolding compared
  levels_compared t u d e r s p q σ = ap (λ z. compared w at z u σ) p ∙ ap (λ z. compared w at (Level d r) z σ) q

  pub parts_compared : (t u : Size) (h g : Head) (ts us : Sizes) → t ≡ Built h ts → u ≡ Built g us → (σ : matching.Found) → compared w at t u σ ≡ all_compared w at ts us σ
  unfolding compared all_compared
  parts_compared t u h g ts us p q σ = ap (λ z. compared w at z u σ) p ∙ ap (λ z. compared w at (Built h ts) z σ) q

  pub functions_compared : (t u : Size) (k l : ℕ) (p r q s : Size) → t ≡ Fun k p r → u ≡ Fun l q s → (σ : matching.Found) → compared w at t u σ ≡ then_do (agree at t u) (λ z. Ok σ)
  unfolding compared
  functions_compared t u k l p r q s x y σ = ap (λ z. compared w at z u σ) x ∙ ap (λ z. compared w at (Fun k p r) z σ) y ∙ sym (ap (λ z. then_do (agree at z u) (λ z. Ok σ)) x ∙ ap (λ z. then_do (agree at (Fun k p r) z) (λ z. Ok σ)) y)

  -- ---- parts

  module _ (ts us : List SizeTree) (i : ℕ) where
    pub part_compared : (t u : SizeTree) → i < length ts → i < length us → (σ : matching.Found) → all_compared w at (sizes_of (drop i ts)) (sizes_of (drop i us)) σ
        ≡ then_do (compared w at (size_of (get_or ts i t)) (size_of (get_or us i u)) σ) (λ found. all_compared w at (sizes_of (drop (i + 1) ts)) (sizes_of (drop (i + 1) us)) found)
    unfolding compared all_compared
    part_compared t u l k σ = ap (λ z. all_compared w at z (sizes_of (drop i us)) σ) (parts_at ts i t l) ∙ ap (λ z. all_compared w at (size_and (size_of (get_or ts i t)) (sizes_of (drop (i + 1) ts))) z σ) (parts_at us i u k)

    pub parts_end_left : length ts ≤ i → (σ : matching.Found) → all_compared w at (sizes_of (drop i ts)) (sizes_of (drop i us)) σ ≡ Ok σ
    unfolding all_compared
    parts_end_left l σ = ap (λ z. all_compared w at z (sizes_of (drop i us)) σ) (parts_end ts i l)

    pub parts_end_right : i < length ts → length us ≤ i → (σ : matching.Found) → all_compared w at (sizes_of (drop i ts)) (sizes_of (drop i us)) σ ≡ Ok σ
    unfolding all_compared
    parts_end_right l k σ = ap (λ z. all_compared w at z (sizes_of (drop i us)) σ) (parts_at ts i (form.Hole (variable.Inferred 0)) l) ∙ ap (λ z. all_compared w at (size_and (size_of (get_or ts i (form.Hole (variable.Inferred 0)))) (sizes_of (drop (i + 1) ts))) z σ) (parts_end us i k)
