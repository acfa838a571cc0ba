-- Open variables take sized types.
use Rattle.std.proofs.Common.{◌≡◌, ℕ, suc, ◌+◌, List, [], ◌∷◌, ◌++◌, Bool, true, false, cond, Result, Ok, Err, refl, sym, ap, ◌∙◌, subst}
use Rattle.std.specs.Prelude.{◌&&◌, IfOk}
use Rattle.fut_scalar.specs.declared.memory.NoMemory.{NoMemory}
use Rattle.fut_types.specs.Types.{Ty}
use Rattle.sized_types.specs.Sizes.{Free, Const, Name, Own, Unknown, Slot, Variable, Size, Hole, Open, Level, Built, Fun, Sizes, no_size, size_and, replaced, all_replaced, renaming, renamed, has}
use Rattle.fut_sizes.specs.Agreeing.{Answer, Irregular}
use Rattle.fut_sizes.specs.Matching as matching
use Rattle.fut_sizes.specs.Matching.{found_size, is_open, is_unknown, any_size, with_any_sizes, filled, all_filled, type_found, counted, open_takes}
use Rattle.size_arena.specs.declared.agreeing.Refusal.TheVariants as refusal
use Rattle.size_arena.specs.declared.agreeing.SizeErr.TheVariants as size_err
use Rattle.size_arena.specs.Trees.{free_of, variable_of, size_of}
use Rattle.size_slots.specs.declared.slots.Found.{Found}
use Rattle.size_slots.specs.declared.slots.Chosen.{Chosen}
use Rattle.size_slots.specs.Held.{Follows, maker_of, chosen_or, chosen_size, Filled, Holds, Held, Fall, Met, met, unmet, no_memory_met, takes_formed}
use Rattle.size_slots.proofs.FillForms.{chosen_behind}
use Rattle.size_slots.proofs.MeetLaws.{Told, fixed_by}
use Rattle.size_slots.proofs.Renaming.{renamed_twice, renamed_at, renamed_alike}

pub held_falls : (f : Found) → Held f → Fall f.slots
held_falls f h = h.1.fall

-- no open variable
abbrev pub is_form : Size → Bool
is_form (Open n v u) = false
is_form t = true

-- ---- a variable is filled where sizes are read

module _ (ρ : Free → Free) (n : ℕ) (v : Variable) (s : Size) (fixed : renamed ρ s ≡ s) where
  open_filled : (j : ℕ) (b : Bool) (m : ℕ) (w : Variable) (u : Ty) → cond b s (Open m w u) ≡ replaced (renaming ρ) j (cond b s (Open m w u))
  unfolding replaced
  open_filled j true m w u = sym (renamed_at ρ j s ∙ fixed)
  open_filled j false m w u = refl

  mutual
    unfolding replaced all_replaced filled all_filled

    filled_at : (j : ℕ) (t : Size) → filled n v s (replaced (renaming ρ) j t) ≡ replaced (renaming ρ) j (filled n v s t)
    filled_at j (Hole x) = refl
    filled_at j (Open m w u) = open_filled j (is_open n v m w) m w u
    filled_at j (Level d t) = ap (Level (renaming ρ j d)) (filled_at j t)
    filled_at j (Built g ts) = ap (Built g) (all_filled_at j ts)
    filled_at j (Fun k p r) = rw (filled_at (suc j) p, filled_at (suc j) r) refl

    all_filled_at : (j : ℕ) (ts : Sizes) → all_filled n v s (all_replaced (renaming ρ) j ts) ≡ all_replaced (renaming ρ) j (all_filled n v s ts)
    all_filled_at j no_size = refl
    all_filled_at j (size_and t ts) = rw (filled_at j t, all_filled_at j ts) refl

  filled_renamed : (t : Size) → filled n v s (renamed ρ t) ≡ renamed ρ (filled n v s t)
  filled_renamed t = filled_at 0 t

-- ---- tables that hold the same sizes

-- τ gives the sizes that σ gives
pub same_found : (σ τ : matching.Found) → ((i : ℕ) → τ.size i ≡ σ.size i) → (d : Free) → found_size τ d ≡ found_size σ d
same_found σ τ h (Const c) = refl
same_found σ τ h (Name b) = refl
same_found σ τ h (Own n i) = refl
same_found σ τ h (Unknown n i) = refl
same_found σ τ h (Slot i) = h i

pub follows_same : (f g : Found) (σ τ : matching.Found) → g.slots ≡ f.slots → ((i : ℕ) → τ.size i ≡ σ.size i) → Follows f.slots σ → Follows g.slots τ
follows_same f g σ τ s h x = subst (λ z. Follows z τ) (sym s) (record {
  stays = λ i e. h i ∙ x.stays i e;
  taken = λ i d e. h i ∙ x.taken i d e ∙ sym (same_found σ τ h (free_of d));
  ends = λ i. ap (found_size τ) (h i) ∙ same_found σ τ h (σ.size i) ∙ x.ends i ∙ sym (h i);
})

pub counted_held : (f g : Found) (σ : matching.Found) (i : ℕ) → g.slots ≡ f.slots → g.chosen ≡ f.chosen → g.next ≡ i + f.next → g.makers ≡ f.makers → Holds f σ → Holds g (counted i σ)
counted_held f g σ i s c n k held = record {
  fall = subst Fall (sym s) held.fall;
  sizes = follows_same f g σ (counted i σ) s (λ j. refl) held.sizes;
  types = λ m w t. held.types m w t ∙ sym (renamed_alike (found_size (counted i σ)) (found_size σ) (same_found σ (counted i σ) (λ j. refl)) (chosen_size f.chosen m w t)) ∙ ap (λ z. renamed (found_size (counted i σ)) (chosen_size z m w t)) (sym c);
  next = ap (λ z. i + z) held.next ∙ sym n;
  makers = held.makers ∙ ap maker_of (sym k);
}

-- ---- a variable takes a sized type

module _ (f g : Found) (n : ℕ) (v : Variable) (s : Size) (c : Chosen) (mid : List Chosen) (slots : g.slots ≡ f.slots) (next : g.next ≡ f.next) (makers : g.makers ≡ f.makers) (fills : Filled f.chosen (filled n v s) mid) (chosen : g.chosen ≡ mid ++ c ∷ [])
    (node : c.node ≡ n) (variable : variable_of c.variable ≡ v) (size : size_of c.size.now ≡ s) where
  behind_open : (m : ℕ) (w : Variable) (t : Ty) → chosen_size g.chosen m w t ≡ filled n v s (chosen_size f.chosen m w t)
  unfolding filled
  behind_open m w t = ap (λ z. chosen_or z m w (Open m w t)) chosen ∙ chosen_behind mid c m w (Open m w t)
      ∙ ap (λ z. chosen_or mid m w (cond (is_open z (variable_of c.variable) m w) (size_of c.size.now) (Open m w t))) node
      ∙ ap (λ z. chosen_or mid m w (cond (is_open n z m w) (size_of c.size.now) (Open m w t))) variable
      ∙ ap (λ z. chosen_or mid m w (cond (is_open n v m w) z (Open m w t))) size
      ∙ fills m w (Open m w t)

  pub type_held : (σ : matching.Found) → Holds f σ → renamed (found_size σ) s ≡ s → Holds g (type_found n v s σ)
  type_held σ held fixed = record {
    fall = subst Fall (sym slots) held.fall;
    sizes = follows_same f g σ (type_found n v s σ) slots (λ j. refl) held.sizes;
    types = λ m w t. ap (filled n v s) (held.types m w t) ∙ filled_renamed (found_size σ) n v s fixed (chosen_size f.chosen m w t)
        ∙ sym (renamed_alike (found_size (type_found n v s σ)) (found_size σ) (same_found σ (type_found n v s σ) (λ j. refl)) (filled n v s (chosen_size f.chosen m w t)))
        ∙ ap (renamed (found_size (type_found n v s σ))) (sym (behind_open m w t));
    next = held.next ∙ sym next;
    makers = held.makers ∙ ap maker_of (sym makers);
  }

-- ---- what is read stays as it is

module _ (f : Found) (σ : matching.Found) (held : Holds f σ) where
  pub fixed_twice : (t : Size) → renamed (found_size σ) (renamed (found_size σ) t) ≡ renamed (found_size σ) t
  fixed_twice t = renamed_twice (found_size σ) (found_size σ) (found_size σ) (fixed_by f.slots σ held.sizes) t

  pub any_fixed : (t : Size) → renamed (found_size σ) (with_any_sizes σ t) ≡ with_any_sizes σ t
  any_fixed t = fixed_twice (replaced any_size 0 t)

pub open_fixed : (σ : matching.Found) (n : ℕ) (v : Variable) (u : Ty) → renamed (found_size σ) (Open n v u) ≡ Open n v u
unfolding replaced
open_fixed σ n v u = refl

-- ---- what an open variable makes of what it meets

module _ (f g : Found) (wanted : Bool) (w : matching.Way) (at n : ℕ) (v : Variable) where
  pub formed_refused : (t : Size) → true ≡ (wanted && (w.in_result && has is_unknown t)) → (σ : matching.Found) → Holds f σ → Met (takes_formed wanted w at n v t σ) f (Err (size_err.Refused (refusal.Irregular at)))
  formed_refused t e σ held = unmet (ap (λ z. cond z (Err (Irregular at)) (Ok (type_found n v (with_any_sizes σ t) σ))) (sym e))

  pub formed_taken : (t : Size) → false ≡ (wanted && (w.in_result && has is_unknown t)) → ((σ : matching.Found) → Holds f σ → Holds g (type_found n v (with_any_sizes σ t) σ)) → (σ : matching.Found) → Holds f σ → Met (takes_formed wanted w at n v t σ) g (Ok tt)
  formed_taken t e take σ held = met (type_found n v (with_any_sizes σ t) σ) (ap (λ z. cond z (Err (Irregular at)) (Ok (type_found n v (with_any_sizes σ t) σ))) (sym e)) (take σ held)

  pub takes_variable : (s : Size) (m : ℕ) (x : Variable) (u : Ty) (r : Told) → s ≡ Open m x u → ((y : Ty) (σ : matching.Found) → s ≡ Open m x y → Holds f σ → Met (cond (is_open n v m x) (Ok σ) (Ok (type_found n v s σ))) g r)
      → (σ : matching.Found) → Holds f σ → Met (open_takes wanted w at n v s σ) g r
  takes_variable s m x u r is take σ held =
      subst (λ z. Met z g r) (ap (λ z. cond (is_open n v m x) (Ok σ) (Ok (type_found n v z σ))) is ∙ sym (ap (λ z. open_takes wanted w at n v z σ) is)) (take u σ is held)

  formed : (t : Size) → is_form t ≡ true → (σ : matching.Found) → open_takes wanted w at n v t σ ≡ takes_formed wanted w at n v t σ
  formed (Hole x) so σ = refl
  formed (Open m x u) so σ = cc
  formed (Level d t) so σ = refl
  formed (Built h ts) so σ = refl
  formed (Fun k p q) so σ = refl

  pub takes_a_form : (t a : Size) (r : Told) → t ≡ a → is_form a ≡ true → ((σ : matching.Found) → Holds f σ → Met (takes_formed wanted w at n v t σ) g r) → (σ : matching.Found) → Holds f σ → Met (open_takes wanted w at n v t σ) g r
  takes_a_form t a r is so take σ held = subst (λ z. Met z g r) (sym (formed t (ap is_form is ∙ so) σ)) (take σ held)

module _ (f g : Found) (n : ℕ) (v : Variable) where
  pub any_taken : (t a b : Size) (r : Result (Unit {0}) NoMemory) → a ≡ replaced any_size 0 t → ((σ : matching.Found) → Holds f σ → (j : ℕ) → b ≡ replaced (renaming (found_size σ)) j a)
      → ((σ : matching.Found) → Holds f σ → renamed (found_size σ) b ≡ b → IfOk r (λ u. Holds g (type_found n v b σ))) → (σ : matching.Found) → Holds f σ → IfOk r (λ u. Holds g (type_found n v (with_any_sizes σ t) σ))
  any_taken t a b r p q take σ held =
      let is : b ≡ with_any_sizes σ t = q σ held 0 ∙ ap (renamed (found_size σ)) p in
      subst (λ z. IfOk r (λ u. Holds g (type_found n v z σ))) is (take σ held (ap (renamed (found_size σ)) is ∙ any_fixed f σ held t ∙ sym is))

  pub one_variable : (s : Size) (m : ℕ) (x : Variable) → true ≡ is_open n v m x → (u : Ty) (σ : matching.Found) → s ≡ Open m x u → Holds f σ → Met (cond (is_open n v m x) (Ok σ) (Ok (type_found n v s σ))) f (Ok tt)
  one_variable s m x e u σ is held = met σ (ap (λ z. cond z (Ok σ) (Ok (type_found n v s σ))) (sym e)) held

  pub other_variable : (s : Size) (m : ℕ) (x : Variable) → false ≡ is_open n v m x → ((σ : matching.Found) → Holds f σ → renamed (found_size σ) s ≡ s → Holds g (type_found n v s σ))
      → (u : Ty) (σ : matching.Found) → s ≡ Open m x u → Holds f σ → Met (cond (is_open n v m x) (Ok σ) (Ok (type_found n v s σ))) g (Ok tt)
  other_variable s m x e take u σ is held = met (type_found n v s σ) (ap (λ z. cond z (Ok σ) (Ok (type_found n v s σ))) (sym e)) (take σ held (ap (renamed (found_size σ)) is ∙ open_fixed σ m x u ∙ sym is))

pub memory_met : (f g : Found) (go : matching.Found → Answer matching.Found) (σ : matching.Found) → Holds f σ → Met (go σ) g (Err size_err.Memory)
memory_met f g go σ held = no_memory_met

pub ruleset variable_taking = (one_variable, other_variable, no_memory_met)
