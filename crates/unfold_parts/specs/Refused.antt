-- Why a call of unfolding refuses, and what lacks a way on.
use Rattle.std.specs.Prelude.{◌≡◌, ◌∷◌, [], ℕ, List, Option}
use Rattle.fut_scalar.specs.declared.place.BindId.{BindId}
use Rattle.fut_scalar.specs.declared.place.Place.{Place}
use Rattle.fut_flat.specs.declared.prim.Ref.{Ref}
use Rattle.fut_flat.specs.Terms.{Patterns}
use Rattle.fut_meaning.specs.Found.{Sizing}
use Rattle.fut_blocks.specs.declared.block.Atom.{Atom}
use Rattle.unfold.specs.Knowns.{Known, Knowns, Scope}
use Rattle.unfold.specs.Unfolding.{Bindings, All_bind, Equals, All_equal, Packs, Packs_all}
use Rattle.unfold_parts.specs.declared.refusal.Refusal.{Refusal}
use Rattle.unfold_parts.specs.declared.refusal.Refusal.TheVariants.{Lost, Memory}

-- a refusal, where this is the cause that there is no way on; want of memory says nothing
pub data Refused (Cause : Type 0) : Refusal → Type 0 where
  lost : Cause → Refused Cause Lost
  no_memory : Refused Cause Memory

-- some part has not the form of its pattern, or there are not as many of both
abbrev pub Not_all_bound : Patterns Ref BindId → List Known → Type 0
Not_all_bound ps ss = (sizes : Option Sizing) (q : ℕ) (sc inner : Scope) (n m : ℕ) (bs : Bindings) → All_bind sizes q ps ss sc n bs inner m → ⊥

-- a function, or what holds one, is no component
abbrev pub Not_packed : Known → Type 0
Not_packed s = (n n' : ℕ) (bs : Bindings) (u : Atom) → Packs s n bs u n' → ⊥

abbrev pub Not_all_packed : List Known → Type 0
Not_all_packed ss = (n n' : ℕ) (bs : Bindings) (us : List Atom) → Packs_all ss n bs us n' → ⊥

-- no steps say whether both are equal: they have other forms, or other parts
abbrev pub Not_compared : Place → Known → Known → Type 0
Not_compared at s t = (n n' : ℕ) (bs : Bindings) (u : Atom) → Equals at s t n bs u n' → ⊥

-- and so for two parts, where there are two
abbrev pub Not_both_compared : Place → List Known → Type 0
Not_both_compared at ss = (s t : Known) → ss ≡ s ∷ t ∷ [] → Not_compared at s t

abbrev pub Not_all_compared : Place → Knowns → Knowns → Type 0
Not_all_compared at ss ts = (n n' : ℕ) (bs : Bindings) (u : Atom) → All_equal at ss ts n bs u n' → ⊥
