-- What is still open gets sizes of its own.
use Rattle.std.proofs.Common.{◌≡◌, ℕ, ◌+◌, true, Result, refl, sym, ap, ◌∙◌, subst, arith}
use Rattle.std.specs.Prelude.{IfOk}
use Rattle.fut_scalar.specs.declared.memory.NoMemory.{NoMemory}
use Rattle.fut_types.specs.Types.{Ty}
use Rattle.sized_types.specs.Sizes.{At, Slot, Variable, Size, Hole, Open, Level, Built, Fun, replaced, renaming, renamed}
use Rattle.fut_sizes.specs.Agreeing.{type_levels, of_type}
use Rattle.fut_sizes.specs.Applications.{own_type}
use Rattle.fut_sizes.specs.Matching as matching
use Rattle.fut_sizes.specs.Matching.{found_size, type_found, counted, made_at}
use Rattle.size_slots.specs.declared.slots.Found.{Found}
use Rattle.size_slots.specs.Held.{Holds}
use Rattle.size_settling.specs.Settled.{settled_by}
use Rattle.size_slots.proofs.Renaming.{renamed_alike}
use Rattle.size_slots.proofs.TakeLaws.{is_form, same_found, counted_held, fixed_twice}

module _ (f g : Found) where
  pub own_held : (n : ℕ) (v : Variable) (u : Ty) (a b : Size) (made mid : Found) (r : Result (Unit {0}) NoMemory) → ((σ : matching.Found) → Holds f σ → Holds made (made_at n σ))
      → mid.slots ≡ made.slots → mid.chosen ≡ made.chosen → mid.makers ≡ made.makers → mid.next ≡ f.next + type_levels u → a ≡ of_type (λ i. At (Slot (f.next + i))) 0 u
      → ((σ : matching.Found) → Holds f σ → (j : ℕ) → b ≡ replaced (renaming (found_size σ)) j a) → ((σ : matching.Found) → Holds mid σ → renamed (found_size σ) b ≡ b → IfOk r (λ y. Holds g (type_found n v b σ)))
      → (σ : matching.Found) → Holds f σ → IfOk r (λ y. Holds g (own_type n v u σ))
  own_held n v u a b made mid r makes s c k m p q take σ held =
      let new : matching.Found = counted (type_levels u) (made_at n σ) in
      let is : b ≡ renamed (found_size σ) (of_type (λ i. At (Slot (σ.next + i))) 0 u) = q σ held 0 ∙ ap (renamed (found_size σ)) (p ∙ ap (λ z. of_type (λ i. At (Slot (z + i))) 0 u) (sym held.next)) in
      let first : σ.next ≡ made.next = (makes σ held).next in
      let before : σ.next ≡ f.next = held.next in
      let there : Holds mid new = counted_held made mid (made_at n σ) (type_levels u) s c (omega (arith, m, first, before)) k (makes σ held) in
      let stays : renamed (found_size new) b ≡ b = renamed_alike (found_size new) (found_size σ) (same_found σ new (λ j. refl)) b
      ∙ ap (renamed (found_size σ)) is ∙ fixed_twice f σ held (of_type (λ i. At (Slot (σ.next + i))) 0 u) ∙ sym is in
      subst (λ z. IfOk r (λ y. Holds g (type_found n v z new))) is (take new there stays)

settled_form : (t : Size) (σ : matching.Found) → is_form t ≡ true → settled_by t σ ≡ σ
settled_form (Hole x) σ so = refl
settled_form (Open n v u) σ so = cc
settled_form (Level d t) σ so = refl
settled_form (Built h ts) σ so = refl
settled_form (Fun k p r) σ so = refl

pub settled_as_form : (f : Found) (t a : Size) → t ≡ a → is_form a ≡ true → (σ : matching.Found) → Holds f σ → Holds f (settled_by t σ)
settled_as_form f t a is so σ held = subst (Holds f) (sym (settled_form t σ (ap is_form is ∙ so))) held

pub settled_variable : (f g : Found) (t : Size) (n : ℕ) (v : Variable) (u : Ty) (r : Result (Unit {0}) NoMemory) → t ≡ Open n v u → ((σ : matching.Found) → Holds f σ → IfOk r (λ y. Holds g (own_type n v u σ)))
    → (σ : matching.Found) → Holds f σ → IfOk r (λ y. Holds g (settled_by t σ))
settled_variable f g t n v u r is m σ held = subst (λ z. IfOk r (λ y. Holds g z)) (sym (ap (λ z. settled_by z σ) is)) (m σ held)

pub settled_read : (f g : Found) (t : matching.Found → Size) (s : Size) (r : Result (Unit {0}) NoMemory) → ((σ : matching.Found) → Holds f σ → s ≡ t σ) → ((σ : matching.Found) → Holds f σ → IfOk r (λ y. Holds g (settled_by s σ)))
    → (σ : matching.Found) → Holds f σ → IfOk r (λ y. Holds g (settled_by (t σ) σ))
settled_read f g t s r is m σ held = subst (λ z. IfOk r (λ y. Holds g (settled_by z σ))) (is σ held) (m σ held)
