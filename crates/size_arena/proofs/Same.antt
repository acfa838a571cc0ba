-- When sizes are one, form by form.
use Rattle.std.proofs.Common.{◌≡◌, ℕ, false, nat_eq, cond, refl}
use Rattle.sized_types.specs.Sizes.{Free, Const, Name, Own, Unknown, Slot, At, Bound, is_free, is_dim}

module _ (c d b n i m j : ℕ) where
  pub const_const : is_free (Const c) (Const d) ≡ nat_eq c d
  unfolding is_free
  const_const = refl

  pub const_name : is_free (Const c) (Name d) ≡ false
  unfolding is_free
  const_name = refl

  pub const_own : is_free (Const c) (Own m j) ≡ false
  unfolding is_free
  const_own = refl

  pub const_unknown : is_free (Const c) (Unknown m j) ≡ false
  unfolding is_free
  const_unknown = refl

  pub const_slot : is_free (Const c) (Slot j) ≡ false
  unfolding is_free
  const_slot = refl

  pub name_const : is_free (Name b) (Const d) ≡ false
  unfolding is_free
  name_const = refl

  pub name_name : is_free (Name b) (Name d) ≡ nat_eq b d
  unfolding is_free
  name_name = refl

  pub name_own : is_free (Name b) (Own m j) ≡ false
  unfolding is_free
  name_own = refl

  pub name_unknown : is_free (Name b) (Unknown m j) ≡ false
  unfolding is_free
  name_unknown = refl

  pub name_slot : is_free (Name b) (Slot j) ≡ false
  unfolding is_free
  name_slot = refl

  pub own_const : is_free (Own n i) (Const d) ≡ false
  unfolding is_free
  own_const = refl

  pub own_name : is_free (Own n i) (Name d) ≡ false
  unfolding is_free
  own_name = refl

  pub own_own : is_free (Own n i) (Own m j) ≡ cond (nat_eq n m) (nat_eq i j) false
  unfolding is_free
  own_own = refl

  pub own_unknown : is_free (Own n i) (Unknown m j) ≡ false
  unfolding is_free
  own_unknown = refl

  pub own_slot : is_free (Own n i) (Slot j) ≡ false
  unfolding is_free
  own_slot = refl

  pub unknown_const : is_free (Unknown n i) (Const d) ≡ false
  unfolding is_free
  unknown_const = refl

  pub unknown_name : is_free (Unknown n i) (Name d) ≡ false
  unfolding is_free
  unknown_name = refl

  pub unknown_own : is_free (Unknown n i) (Own m j) ≡ false
  unfolding is_free
  unknown_own = refl

  pub unknown_unknown : is_free (Unknown n i) (Unknown m j) ≡ cond (nat_eq n m) (nat_eq i j) false
  unfolding is_free
  unknown_unknown = refl

  pub unknown_slot : is_free (Unknown n i) (Slot j) ≡ false
  unfolding is_free
  unknown_slot = refl

  pub slot_const : is_free (Slot i) (Const d) ≡ false
  unfolding is_free
  slot_const = refl

  pub slot_name : is_free (Slot i) (Name d) ≡ false
  unfolding is_free
  slot_name = refl

  pub slot_own : is_free (Slot i) (Own m j) ≡ false
  unfolding is_free
  slot_own = refl

  pub slot_unknown : is_free (Slot i) (Unknown m j) ≡ false
  unfolding is_free
  slot_unknown = refl

  pub slot_slot : is_free (Slot i) (Slot j) ≡ nat_eq i j
  unfolding is_free
  slot_slot = refl

pub ruleset frees = (const_const, const_name, const_own, const_unknown, const_slot, name_const, name_name, name_own, name_unknown, name_slot, own_const, own_name, own_own, own_unknown, own_slot, unknown_const, unknown_name, unknown_own, unknown_unknown, unknown_slot, slot_const, slot_name, slot_own, slot_unknown, slot_slot)

pub at_at : (d e : Free) → is_dim (At d) (At e) ≡ is_free d e
unfolding is_dim
at_at d e = refl

pub at_bound : (d : Free) (j i : ℕ) → is_dim (At d) (Bound j i) ≡ false
unfolding is_dim
at_bound d j i = refl

pub bound_at : (j i : ℕ) (e : Free) → is_dim (Bound j i) (At e) ≡ false
unfolding is_dim
bound_at j i e = refl

pub bound_bound : (j i k l : ℕ) → is_dim (Bound j i) (Bound k l) ≡ cond (nat_eq j k) (nat_eq i l) false
unfolding is_dim
bound_bound j i k l = refl

pub ruleset dims = (at_at, at_bound, bound_at, bound_bound)
