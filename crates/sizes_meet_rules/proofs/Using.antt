-- The use of a name has that name's sized type, also where the name is general: its type has no type variables.
use Rattle.std.proofs.Common.{◌≡◌, ℕ, Bool, true, false, cond, Option, Some, refl, sym, ap, ◌∙◌, subst, inl, inr}
use Rattle.fut_scalar.specs.declared.place.BindId.{BindId}
use Rattle.fut_scalar.specs.declared.place.Place.{Place}
use Rattle.fut_flat.specs.declared.prim.Ref.TheVariants as ref
use Rattle.fut_flat.specs.Terms.{Use}
use Rattle.fut_types.specs.Types.{Ty, Sub}
use Rattle.fut_typing.specs.Names.{Names}
use Rattle.sized_types.specs.Sizes.{Free, Variable, Size, Hole, Open, Level, Built, Fun, Sizes, no_size, size_and}
use Rattle.fut_sizes.specs.Rules.{Each_hole, Each_holes, Filled_use, filled, all_filled, Sized}
use Rattle.fut_sizes.specs.Scopes.{Known, Scope, instance, instances, used}
use Rattle.fut_sizes.specs.Scoping.{Context}
use Rattle.fut_sizes.specs.Sizing.{use_known}
use Rattle.fut_sizes.specs.Suiting.{Each, Data, Suits, suits_same}
use Rattle.sizes_meet_rules.specs.Known.{Known_name, Judged}

abbrev pub None_there : Variable → Type 0
None_there v = ⊥

mutual
  unfolding Each_hole Each_holes instance instances

  not_opened : (n : ℕ) (types : Variable → Ty) (t : Size) → Each_hole None_there t → instance n types t ≡ t
  not_opened n types (Hole v) h = absurd h
  not_opened n types (Open m v u) h = absurd h
  not_opened n types (Level d t) h = ap (Level d) (not_opened n types t h)
  not_opened n types (Built g ts) h = ap (Built g) (none_opened_in n types ts h)
  not_opened n types (Fun k p r) h = ap (λ x. Fun k x (instance n types r)) (not_opened n types p h.0) ∙ ap (Fun k p) (not_opened n types r h.1)

  none_opened_in : (n : ℕ) (types : Variable → Ty) (ts : Sizes) → Each_holes None_there ts → instances n types ts ≡ ts
  none_opened_in n types no_size h = refl
  none_opened_in n types (size_and t ts) h = ap (λ x. size_and x (instances n types ts)) (not_opened n types t h.0) ∙ ap (size_and t) (none_opened_in n types ts h.1)

pub used_closed : (n : ℕ) (u : Ty) (t : Size) → Each_hole None_there t → used n u t ≡ t
unfolding used
used_closed n u t h = not_opened n _ t h

-- each variable stands for itself
mutual
  unfolding filled all_filled

  filled_itself : (t : Size) → filled Hole t ≡ t
  filled_itself (Hole v) = refl
  filled_itself (Open m v u) = refl
  filled_itself (Level d t) = ap (Level d) (filled_itself t)
  filled_itself (Built g ts) = ap (Built g) (all_filled_itself ts)
  filled_itself (Fun k p r) = ap (λ x. Fun k x (filled Hole r)) (filled_itself p) ∙ ap (Fun k p) (filled_itself r)

  all_filled_itself : (ts : Sizes) → all_filled Hole ts ≡ ts
  all_filled_itself no_size = refl
  all_filled_itself (size_and t ts) = ap (λ x. size_and x (all_filled Hole ts)) (filled_itself t) ∙ ap (size_and t) (all_filled_itself ts)

pub used_as : (is_general : Variable → Bool) (t u : Size) → Suits t u → Filled_use is_general t u
unfolding Each Data
used_as is_general t u h = record { types = Hole; data_types = λ v. tt; closed = λ v. tt; others = λ v e. refl; used = inl (subst (λ x. Suits x u) (sym (filled_itself t)) h) }

pub used_itself : (is_general : Variable → Bool) (t : Size) → Filled_use is_general t t
used_itself is_general t = used_as is_general t t suits_same

module _ (N : Names) (types : Sub) (home : ℕ → ℕ) (In : Free → Type 0) (Vars : Variable → Type 0) (scope : Scope) (b : BindId) (u : Ty) (n : Known_name In Vars types home scope b.0 u) where
  pub use_is : (lo : ℕ) → use_known N types lo (scope b.0) ≡ n.size
  use_is lo = ap (λ (o : Option Known). use_known N types lo o) n.known ∙ by_form n.is_general refl
    where
      by_form : (c : Bool) → n.is_general ≡ c → cond c (used lo (types lo) n.size) n.size ≡ n.size
      by_form true e = used_closed lo (types lo) n.size (n.closed e)
      by_form false e = refl

  -- at sizes of the use's own
  pub suits_rules : (at : Place) (k lo : ℕ) (s : ℕ → Size) (G : Context) → Judged In Vars scope G → Suits n.size (s lo) → Sized N types s home (Use (ref.Bound b) at k) lo G
  suits_rules at k lo s G J h = by_form n.is_general n.known
    where
      by_form : (c : Bool) → scope b.0 ≡ Some (record { size = n.size; is_general = c }) → Sized N types s home (Use (ref.Bound b) at k) lo G
      by_form true z = inr (n.size, J.schemes b.0 n.size z, used_as (G.general b.0) n.size (s lo) h)
      by_form false z = inl (n.size, J.sizes b.0 n.size z, h)

  pub use_rules : (at : Place) (k lo : ℕ) (s : ℕ → Size) (G : Context) → Judged In Vars scope G → s lo ≡ n.size → Sized N types s home (Use (ref.Bound b) at k) lo G
  use_rules at k lo s G J e = suits_rules at k lo s G J (subst (Suits n.size) (sym e) suits_same)
