-- Fields in order of their names: how one is put in, and that the same names stand in the same order.
use Rattle.std.proofs.Common.{◌≡◌, ◌≢◌, Bool, true, false, cond, refl, sym, ap, ◌∙◌, subst, Some, None}
use Rattle.std.specs.declared.cmp.Ordering.{Ordering}
use Rattle.std.specs.declared.cmp.Ordering.TheVariants.{Less, Equal, Greater}
use Rattle.std.specs.Ordering.{nat_cmp, is_lt, ordering_reverse}
use Rattle.std.specs.Cmp.Lexicographic.{slice_cmp}
use Rattle.std.specs.Str.{bytes_eq}
use Rattle.std.proofs.lemmas.Slice.Eq.{bytes_eq-Decides}
use Rattle.std.proofs.lemmas.Cmp.{nat_list_cmp_total}
use Rattle.std.proofs.lemmas.Map.Lookups.{exact_bytes}
use mathlib.Core.Logic.{◌⊎◌, inl, inr}
use Rattle.fut_ast.specs.Sorts.{Text}
use Rattle.fut_meaning.specs.Values.{no_field, field_and, is_before, with_field, field}
use Rattle.fut_meaning.specs.Flats.{FlatValue}
use Rattle.type_soundness.specs.Fits.{FlatFields, Is_key, All_behind, In_order}

abbrev order : Text → Text → Ordering
order f g = slice_cmp nat_cmp f g

less_is : (o : Ordering) → is_lt o ≡ true → o ≡ Less
less_is Less e = refl
less_is Equal e = cc
less_is Greater e = cc

before_more : (f g h : Text) → is_before f g ≡ true → is_before g h ≡ true → is_before f h ≡ true
before_more f g h p q = ap is_lt (nat_list_cmp_total.trans f g h (less_is (order f g) p) (less_is (order g h) q))

before_self : (f : Text) → is_before f f ≡ true → ⊥
before_self f p = let e : order f f ≡ Less = less_is (order f f) p in let r : order f f ≡ ordering_reverse (order f f) = nat_list_cmp_total.antisymm f f in let z : Less ≡ ordering_reverse Less = subst (λ o. o ≡ ordering_reverse o) e r in cc

before_other : (f g : Text) → f ≢ g → is_before f g ≡ false → is_before g f ≡ true
before_other f g ne p = known (order f g) refl
  where
    known : (o : Ordering) → order f g ≡ o → is_before g f ≡ true
    known Less e = let z : true ≡ false = sym (ap is_lt e) ∙ p in cc
    known Equal e = absurd (ne (exact_bytes f g e))
    known Greater e = ap is_lt (nat_list_cmp_total.antisymm g f ∙ ap ordering_reverse e)

abbrev pub Key_or : Text → FlatFields → Type 0
Key_or f fs = Is_key f fs ⊎ (Is_key f fs → ⊥)

pub same_text : (f g : Text) → (f ≡ g) ⊎ (f ≢ g)
same_text f g = known (bytes_eq f g) refl
  where
    known : (b : Bool) → bytes_eq f g ≡ b → (f ≡ g) ⊎ (f ≢ g)
    known true e = inl ((bytes_eq-Decides f g).0 e)
    known false e = inr (λ s. let z : true ≡ false = sym ((bytes_eq-Decides f g).1 s) ∙ e in cc)

pub eq_here : (f : Text) → bytes_eq f f ≡ true
eq_here f = (bytes_eq-Decides f f).1 refl

pub eq_other : (f g : Text) → f ≢ g → bytes_eq f g ≡ false
eq_other f g ne = known (bytes_eq f g) refl
  where
    known : (b : Bool) → bytes_eq f g ≡ b → bytes_eq f g ≡ false
    known true e = absurd (ne ((bytes_eq-Decides f g).0 e))
    known false e = e

-- ---- a field that is put in
pub key_put : (s f : Text) (v : FlatValue) (fs : FlatFields) → Is_key s (with_field f v fs) → (s ≡ f) ⊎ Is_key s fs
key_put s f v no_field (inl e) = inl e
key_put s f v no_field (inr k) = absurd k
key_put s f v (field_and g w fs) k = known (is_before f g) (key_put s f v fs) k
  where
    known : (b : Bool) → (Is_key s (with_field f v fs) → (s ≡ f) ⊎ Is_key s fs) → Is_key s (cond b (field_and f v (field_and g w fs)) (field_and g w (with_field f v fs))) → (s ≡ f) ⊎ Is_key s (field_and g w fs)
    known true rec (inl e) = inl e
    known true rec (inr k) = inr k
    known false rec (inl e) = inr (inl e)
    known false rec (inr k) = elim (rec k) as (λ d. (s ≡ f) ⊎ Is_key s (field_and g w fs)) [ inl e ↦ inl e | inr h ↦ inr (inr h) ]

pub key_stays : (s f : Text) (v : FlatValue) (fs : FlatFields) → (s ≡ f) ⊎ Is_key s fs → Is_key s (with_field f v fs)
key_stays s f v no_field (inl e) = inl e
key_stays s f v no_field (inr k) = absurd k
key_stays s f v (field_and g w fs) k = known (is_before f g) (key_stays s f v fs) k
  where
    known : (b : Bool) → ((s ≡ f) ⊎ Is_key s fs → Is_key s (with_field f v fs)) → (s ≡ f) ⊎ Is_key s (field_and g w fs) → Is_key s (cond b (field_and f v (field_and g w fs)) (field_and g w (with_field f v fs)))
    known true rec (inl e) = inl e
    known true rec (inr k) = inr k
    known false rec (inl e) = inr (rec (inl e))
    known false rec (inr (inl e)) = inl e
    known false rec (inr (inr k)) = inr (rec (inr k))

behind_more : (f g : Text) (fs : FlatFields) → is_before f g ≡ true → All_behind g fs → All_behind f fs
behind_more f g no_field p h = tt
behind_more f g (field_and x v fs) p h = (before_more f g x p h.0, behind_more f g fs p h.1)

behind_put : (g f : Text) (v : FlatValue) (fs : FlatFields) → is_before g f ≡ true → All_behind g fs → All_behind g (with_field f v fs)
behind_put g f v no_field p h = (p, tt)
behind_put g f v (field_and x w fs) p h = known (is_before f x) (behind_put g f v fs p h.1)
  where
    known : (b : Bool) → All_behind g (with_field f v fs) → All_behind g (cond b (field_and f v (field_and x w fs)) (field_and x w (with_field f v fs)))
    known true rec = (p, h)
    known false rec = (h.0, rec)

pub order_put : (f : Text) (v : FlatValue) (fs : FlatFields) → (Is_key f fs → ⊥) → In_order fs → In_order (with_field f v fs)
order_put f v no_field lacks h = (tt, tt)
order_put f v (field_and g w fs) lacks h = known (is_before f g) refl (order_put f v fs (λ k. lacks (inr k)) h.1)
  where
    known : (b : Bool) → is_before f g ≡ b → In_order (with_field f v fs) → In_order (cond b (field_and f v (field_and g w fs)) (field_and g w (with_field f v fs)))
    known true e rec = ((e, behind_more f g fs e h.0), h)
    known false e rec = (behind_put g f v fs (before_other f g (λ s. lacks (inl s)) e) h.0, rec)

pub field_put : (f : Text) (v : FlatValue) (fs : FlatFields) → (Is_key f fs → ⊥) → field f (with_field f v fs) ≡ Some v
field_put f v no_field lacks = ap (λ b. cond b (Some v) None) (eq_here f)
field_put f v (field_and g w fs) lacks = known (is_before f g) (field_put f v fs (λ k. lacks (inr k)))
  where
    known : (b : Bool) → field f (with_field f v fs) ≡ Some v → field f (cond b (field_and f v (field_and g w fs)) (field_and g w (with_field f v fs))) ≡ Some v
    known true rec = ap (λ b. cond b (Some v) (field f (field_and g w fs))) (eq_here f)
    known false rec = ap (λ b. cond b (Some w) (field f (with_field f v fs))) (eq_other g f (λ s. lacks (inl (sym s)))) ∙ rec

pub field_stays : (s f : Text) (v : FlatValue) (fs : FlatFields) → f ≢ s → field s (with_field f v fs) ≡ field s fs
field_stays s f v no_field ne = ap (λ b. cond b (Some v) None) (eq_other f s ne)
field_stays s f v (field_and g w fs) ne = known (is_before f g) (field_stays s f v fs ne)
  where
    known : (b : Bool) → field s (with_field f v fs) ≡ field s fs → field s (cond b (field_and f v (field_and g w fs)) (field_and g w (with_field f v fs))) ≡ field s (field_and g w fs)
    known true rec = ap (λ b. cond b (Some v) (field s (field_and g w fs))) (eq_other f s ne)
    known false rec = ap (λ x. cond (bytes_eq g s) (Some w) x) rec

-- ---- the same names in the same order
pub no_key : (s : Text) (fs : FlatFields) → All_behind s fs → Is_key s fs → ⊥
no_key s no_field h k = k
no_key s (field_and f v fs) h (inl e) = before_self s (subst (λ g. is_before s g ≡ true) (sym e) h.0)
no_key s (field_and f v fs) h (inr k) = no_key s fs h.1 k

key_behind : (s g : Text) (fs : FlatFields) → All_behind s fs → Is_key g fs → is_before s g ≡ true
key_behind s g no_field h k = absurd k
key_behind s g (field_and f v fs) h (inl e) = subst (λ x. is_before s x ≡ true) (sym e) h.0
key_behind s g (field_and f v fs) h (inr k) = key_behind s g fs h.1 k

abbrev pub Same_keys : FlatFields → FlatFields → Type 0
Same_keys no_field no_field = Unit {0}
Same_keys no_field (field_and g w gs) = ⊥
Same_keys (field_and f v fs) no_field = ⊥
Same_keys (field_and f v fs) (field_and g w gs) = (f ≡ g) × Same_keys fs gs

pub one_order : (fs gs : FlatFields) → In_order fs → In_order gs → ((s : Text) → Is_key s fs → Is_key s gs) → ((s : Text) → Is_key s gs → Is_key s fs) → Same_keys fs gs
one_order no_field no_field h k to from = tt
one_order no_field (field_and g w gs) h k to from = from g (inl refl)
one_order (field_and f v fs) no_field h k to from = to f (inl refl)
one_order (field_and f v fs) (field_and g w gs) h k to from = (first, one_order fs gs h.1 k.1 (λ s i. rest s i (to s (inr i))) (λ s i. back s i (from s (inr i))))
  where
    first : f ≡ g
    first = elim (to f (inl refl)) as (λ d. f ≡ g) [
      | inl e ↦ e
      | inr i ↦ elim (from g (inl refl)) as (λ d. f ≡ g) [ inl e ↦ sym e | inr j ↦ absurd (before_self f (before_more f g f (key_behind f g fs h.0 j) (key_behind g f gs k.0 i))) ]
    ]

    rest : (s : Text) → Is_key s fs → (s ≡ g) ⊎ Is_key s gs → Is_key s gs
    rest s i (inl e) = absurd (no_key f fs h.0 (subst (λ x. Is_key x fs) (e ∙ sym first) i))
    rest s i (inr j) = j

    back : (s : Text) → Is_key s gs → (s ≡ f) ⊎ Is_key s fs → Is_key s fs
    back s i (inl e) = absurd (no_key g gs k.0 (subst (λ x. Is_key x gs) (e ∙ first) i))
    back s i (inr j) = j
