-- The names of the fields of records, in their order: which they are, and that two lists of the same names are one.
use Rattle.std.proofs.Common.{◌≡◌, ◌⊎◌, ℕ, ◌<◌, Bool, true, false, cond, List, [], ◌∷◌, Option, Some, None, refl, sym, ap, ◌∙◌, subst, inl, inr}
use Rattle.std.specs.declared.cmp.Ordering.{Ordering}
use Rattle.std.specs.declared.cmp.Ordering.TheVariants.{Less, Equal, Greater}
use Rattle.std.specs.Ordering.{nat_cmp, is_lt, ordering_reverse}
use Rattle.std.specs.Cmp.Lexicographic.{slice_cmp}
use Rattle.std.specs.Str.{bytes_eq}
use Rattle.std.proofs.lemmas.Slice.Eq.{bytes_eq-Decides}
use Rattle.std.proofs.lemmas.Cmp.{nat_list_cmp_total}
use Rattle.std.proofs.lemmas.Map.Lookups.{exact_bytes}
use Rattle.fut_ast.specs.Sorts.{Text}
use Rattle.fut_types.specs.declared.Head.TheVariants as head
use Rattle.fut_types.specs.Shapes.{place}
use Rattle.fut_typing.specs.Names.{Names}
use Rattle.fut_value.specs.Data.{Shape, Named_shapes, no_named_shape, named_shape_and, Named_datums, no_named, named_and, named_shapes_of}
use Rattle.fut_meaning.specs.Flats.{FlatValue}
use Rattle.fut_meaning.specs.Found.{with_named}
use Rattle.fut_meaning.specs.Places.{field_shape}
use Rattle.fut_meaning.specs.Telling.{value_shape, field_shapes}
use Rattle.fut_meaning.specs.Values.{no_field, field_and, is_before, with_field, field, replaced}
use Rattle.sized_meaning.specs.Shapes.{Each_name, In_order, Record_names, shape_names, datum_names}
use Rattle.sized_meaning.specs.Fits.{FlatFields, field_names}

-- ---- the order of names

abbrev order : Text → Text → Ordering
order f g = slice_cmp nat_cmp f g

less_is : (o : Ordering) → is_lt o ≡ true → o ≡ Less
less_is Less e = refl
less_is Equal e = cc
less_is Greater e = cc

before_more : (f g h : Text) → is_before f g ≡ true → is_before g h ≡ true → is_before f h ≡ true
before_more f g h p q = ap is_lt (nat_list_cmp_total.trans f g h (less_is (order f g) p) (less_is (order g h) q))

pub before_self : (f : Text) → is_before f f ≡ true → ⊥
before_self f p = let e : order f f ≡ Less = less_is (order f f) p in let r : order f f ≡ ordering_reverse (order f f) = nat_list_cmp_total.antisymm f f in let z : Less ≡ ordering_reverse Less = subst (λ o. o ≡ ordering_reverse o) e r in cc

before_other : (f g : Text) → (f ≡ g → ⊥) → is_before f g ≡ false → is_before g f ≡ true
before_other f g ne p = known (order f g) refl
  where
    known : (o : Ordering) → order f g ≡ o → is_before g f ≡ true
    known Less e = let z : true ≡ false = sym (ap is_lt e) ∙ p in cc
    known Equal e = absurd (ne (exact_bytes f g e))
    known Greater e = ap is_lt (nat_list_cmp_total.antisymm g f ∙ ap ordering_reverse e)

-- ---- among names

abbrev pub Among : Text → List Text → Type 0
Among f [] = ⊥
Among f (g ∷ gs) = (f ≡ g) ⊎ Among f gs

pub each_there : (P : Text → Type 0) (f : Text) (fs : List Text) → Each_name P fs → Among f fs → P f
each_there P f [] h a = absurd a
each_there P f (g ∷ fs) h (inl e) = subst P (sym e) h.0
each_there P f (g ∷ fs) h (inr a) = each_there P f fs h.1 a

each_name_as : (P Q : Text → Type 0) → ((f : Text) → P f → Q f) → (fs : List Text) → Each_name P fs → Each_name Q fs
each_name_as P Q go [] h = tt
each_name_as P Q go (f ∷ fs) h = (go f h.0, each_name_as P Q go fs h.1)

pub one_list : (fs gs : List Text) → In_order fs → In_order gs → ((f : Text) → Among f fs → Among f gs) → ((f : Text) → Among f gs → Among f fs) → fs ≡ gs
one_list [] [] a b to back = refl
one_list [] (g ∷ gs) a b to back = absurd (back g (inl refl))
one_list (f ∷ fs) [] a b to back = absurd (to f (inl refl))
one_list (f ∷ fs) (g ∷ gs) a b to back = ap (λ x. x ∷ fs) first ∙ ap (λ xs. g ∷ xs) (one_list fs gs a.1 b.1 (λ x h. left x h (to x (inr h))) (λ x h. right x h (back x (inr h))))
  where
    by_both : (f ≡ g) ⊎ Among f gs → (g ≡ f) ⊎ Among g fs → f ≡ g
    by_both (inl e) q = e
    by_both (inr h) (inl e) = sym e
    by_both (inr h) (inr k) = absurd (before_self f (before_more f g f (each_there (λ x. is_before f x ≡ true) g fs a.0 k) (each_there (λ x. is_before g x ≡ true) f gs b.0 h)))

    first : f ≡ g
    first = by_both (to f (inl refl)) (back g (inl refl))

    left : (x : Text) → Among x fs → (x ≡ g) ⊎ Among x gs → Among x gs
    left x h (inl e) = absurd (before_self f (subst (λ y. is_before f y ≡ true) (e ∙ sym first) (each_there (λ x. is_before f x ≡ true) x fs a.0 h)))
    left x h (inr k) = k

    right : (x : Text) → Among x gs → (x ≡ f) ⊎ Among x fs → Among x fs
    right x h (inl e) = absurd (before_self g (subst (λ y. is_before g y ≡ true) (e ∙ first) (each_there (λ x. is_before g x ≡ true) x gs b.0 h)))
    right x h (inr k) = k

-- ---- a name that is put in

abbrev pub put_name : Text → List Text → List Text
put_name f [] = f ∷ []
put_name f (g ∷ gs) = cond (is_before f g) (f ∷ g ∷ gs) (g ∷ put_name f gs)

each_put : (P : Text → Type 0) (f : Text) (fs : List Text) → P f → Each_name P fs → Each_name P (put_name f fs)
each_put P f [] p h = (p, tt)
each_put P f (g ∷ gs) p h = tested (is_before f g) (each_put P f gs p h.1)
  where
    tested : (b : Bool) → Each_name P (put_name f gs) → Each_name P (cond b (f ∷ g ∷ gs) (g ∷ put_name f gs))
    tested true rest = (p, h)
    tested false rest = (h.0, rest)

order_put : (f : Text) (fs : List Text) → Each_name (λ g. f ≡ g → ⊥) fs → In_order fs → In_order (put_name f fs)
order_put f [] other h = (tt, tt)
order_put f (g ∷ gs) other h = tested (is_before f g) refl (order_put f gs other.1 h.1)
  where
    tested : (b : Bool) → is_before f g ≡ b → In_order (put_name f gs) → In_order (cond b (f ∷ g ∷ gs) (g ∷ put_name f gs))
    tested true e rest = ((e, each_name_as (λ x. is_before g x ≡ true) (λ x. is_before f x ≡ true) (λ x q. before_more f g x e q) gs h.0), h)
    tested false e rest = (each_put (λ x. is_before g x ≡ true) f gs (before_other f g other.0 e) h.0, rest)

pub record_put : (N : Names) (n k : ℕ) (f : Text) (fs : List Text) (i : ℕ) → place N.shapes (N.label f) (head.Record n) ≡ Some i → i < k → Each_name (λ g. f ≡ g → ⊥) fs → Record_names N n k fs → Record_names N n k (put_name f fs)
record_put N n k f fs i p l other h = (each_put (λ g. (j : ℕ) × (place N.shapes (N.label g) (head.Record n) ≡ Some j) × (j < k)) f fs (i, p, l) h.0, order_put f fs other h.1)

pub shape_put : (f : Text) (h : Shape) (hs : Named_shapes) → shape_names (with_named f h hs) ≡ put_name f (shape_names hs)
shape_put f h no_named_shape = refl
shape_put f h (named_shape_and g k hs) = tested (is_before f g) (shape_put f h hs)
  where
    tested : (b : Bool) → shape_names (with_named f h hs) ≡ put_name f (shape_names hs) → shape_names (cond b (named_shape_and f h (named_shape_and g k hs)) (named_shape_and g k (with_named f h hs))) ≡ cond b (f ∷ g ∷ shape_names hs) (g ∷ put_name f (shape_names hs))
    tested true rest = refl
    tested false rest = ap (λ xs. g ∷ xs) rest

pub field_put : (f : Text) (v : FlatValue) (gs : FlatFields) → field_names (with_field f v gs) ≡ put_name f (field_names gs)
field_put f v no_field = refl
field_put f v (field_and g w gs) = tested (is_before f g) (field_put f v gs)
  where
    tested : (b : Bool) → field_names (with_field f v gs) ≡ put_name f (field_names gs) → field_names (cond b (field_and f v (field_and g w gs)) (field_and g w (with_field f v gs))) ≡ cond b (f ∷ g ∷ field_names gs) (g ∷ put_name f (field_names gs))
    tested true rest = refl
    tested false rest = ap (λ xs. g ∷ xs) rest

-- one that is found nowhere is none of the names
pub absent : (f : Text) (gs : FlatFields) → field f gs ≡ None → Each_name (λ g. f ≡ g → ⊥) (field_names gs)
absent f no_field e = tt
absent f (field_and g w gs) e = tested (bytes_eq g f) refl e (λ q. absent f gs q)
  where
    tested : (b : Bool) → bytes_eq g f ≡ b → cond b (Some w) (field f gs) ≡ None → (field f gs ≡ None → Each_name (λ g. f ≡ g → ⊥) (field_names gs)) → (f ≡ g → ⊥) × Each_name (λ g. f ≡ g → ⊥) (field_names gs)
    tested true q e rest = absurd (let z : ◌≡◌ {A = Option FlatValue} (Some w) None = e in cc)
    tested false q e rest = ((λ s. let z : true ≡ false = sym ((bytes_eq-Decides g f).1 (sym s)) ∙ q in cc), rest e)

pub absent_shape : (f : Text) (hs : Named_shapes) → field_shape f hs ≡ None → Each_name (λ g. f ≡ g → ⊥) (shape_names hs)
absent_shape f no_named_shape e = tt
absent_shape f (named_shape_and g k hs) e = tested (bytes_eq g f) refl e (λ q. absent_shape f hs q)
  where
    tested : (b : Bool) → bytes_eq g f ≡ b → cond b (Some k) (field_shape f hs) ≡ None → (field_shape f hs ≡ None → Each_name (λ g. f ≡ g → ⊥) (shape_names hs)) → (f ≡ g → ⊥) × Each_name (λ g. f ≡ g → ⊥) (shape_names hs)
    tested true q e rest = absurd (let z : ◌≡◌ {A = Option Shape} (Some k) None = e in cc)
    tested false q e rest = ((λ s. let z : true ≡ false = sym ((bytes_eq-Decides g f).1 (sym s)) ∙ q in cc), rest e)

-- ---- names stay

pub shaped_names : (ds : Named_datums) → shape_names (named_shapes_of ds) ≡ datum_names ds
unfolding named_shapes_of
shaped_names no_named = refl
shaped_names (named_and f d ds) = ap (λ xs. f ∷ xs) (shaped_names ds)

pub read_names : (fs : FlatFields) → shape_names (field_shapes fs) ≡ field_names fs
unfolding value_shape field_shapes
read_names no_field = refl
read_names (field_and f v fs) = ap (λ xs. f ∷ xs) (read_names fs)

pub changed_names : (f : Text) (w : FlatValue) (gs : FlatFields) → field_names (replaced f w gs) ≡ field_names gs
changed_names f w no_field = refl
changed_names f w (field_and g v gs) = tested (bytes_eq g f) (changed_names f w gs)
  where
    tested : (b : Bool) → field_names (replaced f w gs) ≡ field_names gs → field_names (cond b (field_and g w gs) (field_and g v (replaced f w gs))) ≡ g ∷ field_names gs
    tested true rest = refl
    tested false rest = ap (λ xs. g ∷ xs) rest

-- ---- two records of one order

here : (f : Text) {A : Type 0} (a b : A) → cond (bytes_eq f f) a b ≡ a
here f a b = ap (λ c. cond c a b) ((bytes_eq-Decides f f).1 refl)

else : (f g : Text) {A : Type 0} (a b : A) → (f ≡ g → ⊥) → cond (bytes_eq g f) a b ≡ b
else f g a b ne = tested (bytes_eq g f) refl
  where
    tested : (c : Bool) → bytes_eq g f ≡ c → cond c a b ≡ b
    tested true q = absurd (ne (sym ((bytes_eq-Decides g f).0 q)))
    tested false q = refl

pub field_among : (f : Text) (hs : Named_shapes) (h : Shape) → field_shape f hs ≡ Some h → Among f (shape_names hs)
field_among f no_named_shape h e = absurd (let z : ◌≡◌ {A = Option Shape} None (Some h) = e in cc)
field_among f (named_shape_and g k hs) h e = tested (bytes_eq g f) refl e (λ q. field_among f hs h q)
  where
    tested : (b : Bool) → bytes_eq g f ≡ b → cond b (Some k) (field_shape f hs) ≡ Some h → (field_shape f hs ≡ Some h → Among f (shape_names hs)) → (f ≡ g) ⊎ Among f (shape_names hs)
    tested true q e rest = inl (sym ((bytes_eq-Decides g f).0 q))
    tested false q e rest = inr (rest e)

pub same_fields : (hs ks : Named_shapes) → In_order (shape_names hs) → shape_names hs ≡ shape_names ks → ((f : Text) → Among f (shape_names hs) → field_shape f hs ≡ field_shape f ks) → hs ≡ ks
same_fields no_named_shape no_named_shape o e h = refl
same_fields no_named_shape (named_shape_and g k ks) o e h = absurd (let z : ◌≡◌ {A = List Text} [] (g ∷ shape_names ks) = e in cc)
same_fields (named_shape_and f x hs) no_named_shape o e h = absurd (let z : ◌≡◌ {A = List Text} (f ∷ shape_names hs) [] = e in cc)
same_fields (named_shape_and f x hs) (named_shape_and g k ks) o e h =
    ap (λ y. named_shape_and y x hs) first ∙ ap (λ y. named_shape_and g y hs) shape ∙ ap (named_shape_and g k) (same_fields hs ks o.1 rest (λ y a. sym (else y f (Some x) (field_shape y hs) (apart y a)) ∙ h y (inr a) ∙ else y g (Some k) (field_shape y ks) (λ z. apart y a (z ∙ sym first))))
  where
    first : f ≡ g
    first = cc

    rest : shape_names hs ≡ shape_names ks
    rest = cc

    apart : (y : Text) → Among y (shape_names hs) → y ≡ f → ⊥
    apart y a z = before_self f (subst (λ q. is_before f q ≡ true) z (each_there (λ q. is_before f q ≡ true) y (shape_names hs) o.0 a))

    there : Some x ≡ Some k
    there = sym (here f (Some x) (field_shape f hs)) ∙ h f (inl refl) ∙ subst (λ y. cond (bytes_eq g y) (Some k) (field_shape y ks) ≡ Some k) (sym first) (here g (Some k) (field_shape g ks))

    shape : x ≡ k
    shape = let z = there in cc
