-- Two records with fields of the same names: they are compared as what is known of their fields.
use Rattle.std.proofs.Common.{◌≡◌, ℕ, zero, suc, ◌+◌, ◌<◌, ◌≤◌, List, [], ◌∷◌, map, length, get_or, drop, Bool, true, false, refl, sym, ap, ◌∙◌, subst, arith}
use Rattle.std.specs.Str.{bytes_eq}
use Rattle.std.proofs.lemmas.List.{drop_all, length-map}
use Rattle.fut_scalar.specs.declared.place.Place.{Place}
use Rattle.fut_ast.specs.Sorts.{Text}
use Rattle.fut_blocks.specs.declared.block.Atom.{Atom}
use Rattle.unfold.proofs.Mirror.{field_is}
use Rattle.unfold.specs.Held.{known_of, field_of, fields_known}
use Rattle.unfold.specs.Knowns.{Known, Record_known, Knowns, knowns, Known_fields, known_field_and, known_and}
use Rattle.unfold.specs.Unfolding.{Bindings, field_knowns, All_equal, e_none, e_more, Fields_equal, e_no_field, e_field}
use Rattle.unfold.specs.declared.known.Field.{Field}
use Rattle.unfold_parts.specs.Answers.{Same_names, no_names, same_name, Names_told, same_names, other_names}
use Rattle.unfold_parts.specs.Refused.{Not_all_compared, Not_compared}
use Rattle.unfold_parts.proofs.Operands.{fields_uncompared}
use Rattle.unfold_parts.proofs.Lists.{one_more}

-- what is known of fields
abbrev pub values_of : List (Text × Known) → List Known
values_of = map (λ (f : Text × Known). f.1)

pub values_are : (fs : List Field) → map (λ (f : Field). known_of f.known) fs ≡ values_of (map field_of fs)
values_are [] = refl
values_are (f ∷ fs) = ap (λ z. known_of f.known ∷ z) (values_are fs) ∙ ap (λ z. z.1 ∷ values_of (map field_of fs)) (sym (field_is f))

-- ---- names of fields

module _ (fs gs : List Field) where
  abbrev pub Names_lead : ℕ → ℕ → Type 0
  Names_lead i j = Same_names (map field_of (drop i fs)) (map field_of (drop j gs)) → Same_names (map field_of fs) (map field_of gs)

  pub names_on : (i j : ℕ) (f g : Field) → i < length fs → j < length gs → bytes_eq (get_or fs i f).name.now (get_or gs j g).name.now ≡ true → Names_lead i j → Names_lead (i + 1) (j + 1)
  names_on i j f g lt lt' e l h = l (subst (λ z. Same_names (map field_of z) (map field_of (drop j gs))) (sym (one_more fs i f lt)) (subst (λ z. Same_names (map field_of (get_or fs i f ∷ drop (i + 1) fs)) (map field_of z)) (sym (one_more gs j g lt')) (same_name (ap (λ z. bytes_eq z.0 (field_of (get_or gs j g)).0) (field_is (get_or fs i f)) ∙ ap (λ z. bytes_eq (get_or fs i f).name.now z.0) (field_is (get_or gs j g)) ∙ e) h)))

  pub names_end : (i j : ℕ) → length fs ≤ i → length gs ≤ j → Names_lead i j → Names_told (map field_of fs) (map field_of gs) true
  names_end i j le le' l = same_names (l (subst (λ z. Same_names (map field_of z) (map field_of (drop j gs))) (sym (drop_all i fs le)) (subst (λ z. Same_names (map field_of []) (map field_of z)) (sym (drop_all j gs le')) no_names)))

as_many_names : {fs gs : List (Text × Known)} → Same_names fs gs → length fs ≡ length gs
as_many_names no_names = refl
as_many_names (same_name e h) = ap suc (as_many_names h)

pub names_many : (fs gs : List Field) → (length fs ≡ length gs → ⊥) → Names_told (map field_of fs) (map field_of gs) false
names_many fs gs h = other_names (λ same. h (sym (length-map fs field_of) ∙ as_many_names same ∙ length-map gs field_of))

name_is : (fs gs : List Field) (i : ℕ) (f g : Field) → i < length fs → i < length gs → Same_names (map field_of fs) (map field_of gs) → bytes_eq (get_or fs i f).name.now (get_or gs i g).name.now ≡ true
name_is [] gs i f g lt lt' h = absurd (let z : i < 0 = lt in omega (arith, z))
name_is (x ∷ fs) [] i f g lt lt' h = absurd (let z : i < 0 = lt' in omega (arith, z))
name_is (x ∷ fs) (y ∷ gs) zero f g lt lt' (same_name e h) = ap (λ z. bytes_eq z.0 y.name.now) (sym (field_is x)) ∙ ap (λ z. bytes_eq (field_of x).0 z.0) (sym (field_is y)) ∙ e
name_is (x ∷ fs) (y ∷ gs) (suc i) f g lt lt' (same_name e h) = name_is fs gs i f g (omega (arith, lt)) (omega (arith, lt')) h

pub names_other : (fs gs : List Field) (i j : ℕ) (f g : Field) → i ≡ j → i < length fs → j < length gs → bytes_eq (get_or fs i f).name.now (get_or gs j g).name.now ≡ false → Names_told (map field_of fs) (map field_of gs) false
names_other fs gs i j f g e lt lt' ne = other_names (λ same. let z : true ≡ false = sym (name_is fs gs i f g lt (omega (arith, e, lt')) same) ∙ ap (λ k. bytes_eq (get_or fs i f).name.now (get_or gs k g).name.now) e ∙ ne in cc)

pub names_same : (fs gs : List (Text × Known)) (b : Bool) → Names_told fs gs b → b ≡ true → Same_names fs gs
names_same fs gs _ (same_names h) e = h
names_same fs gs _ (other_names h) e = absurd (let z : false ≡ true = e in cc)

pub names_differ : (fs gs : List (Text × Known)) (b : Bool) → Names_told fs gs b → b ≡ false → Same_names fs gs → ⊥
names_differ fs gs _ (same_names h) e = absurd (let z : true ≡ false = e in cc)
names_differ fs gs _ (other_names h) e = h

pub same_length : (fs gs : List Field) (b : Bool) → Names_told (map field_of fs) (map field_of gs) b → b ≡ true → length fs ≡ length gs
same_length fs gs b told e = sym (length-map fs field_of) ∙ as_many_names (names_same _ _ b told e) ∙ length-map gs field_of

-- ---- comparisons
module _ (at : Place) where
  pub fields_equal : (fs gs : List (Text × Known)) (n n' : ℕ) (bs : Bindings) (u : Atom) → Same_names fs gs → All_equal at (knowns (values_of fs)) (knowns (values_of gs)) n bs u n' → Fields_equal at (fields_known fs) (fields_known gs) n bs u n'
  unfolding fields_known
  fields_equal _ _ _ _ _ _ no_names e_none = e_no_field
  fields_equal _ _ n n' bs u (same_name {f = f} {g} {fs} {gs} i is) x = one (fields_known fs) (fields_known gs) (knowns (values_of fs)) (knowns (values_of gs)) (λ m m' cs w. fields_equal fs gs m m' cs w is) n n' bs u x
    where
      one : (ks ls : Known_fields) (ss ts : Knowns) → ((m m' : ℕ) (cs : Bindings) (w : Atom) → All_equal at ss ts m cs w m' → Fields_equal at ks ls m cs w m') → (n n' : ℕ) (bs : Bindings) (u : Atom) → All_equal at (known_and f.1 ss) (known_and g.1 ts) n bs u n' → Fields_equal at (known_field_and f.0 f.1 ks) (known_field_and g.0 g.1 ls) n bs u n'
      one ks ls ss ts rest n _ _ _ (e_more {n1 = n1} {n2 = n2} {cs = cs} {w = w} h hs le) = e_field i h (rest n1 n2 cs w hs) le

  one_value : (f g : Text) (ks ls : Known_fields) (ss ts : Knowns) → ((n n' : ℕ) (bs : Bindings) (u : Atom) → Fields_equal at ks ls n bs u n' → All_equal at ss ts n bs u n') → (s t : Known) (n n' : ℕ) (bs : Bindings) (u : Atom) → Fields_equal at (known_field_and f s ks) (known_field_and g t ls) n bs u n' → All_equal at (known_and s ss) (known_and t ts) n bs u n'
  one_value f g ks ls ss ts rest s t n _ _ _ (e_field {n1 = n1} {n2 = n2} {cs = cs} {w = w} q x xs le) = e_more x (rest n1 n2 cs w xs) le

  values_compared : (fs gs : List (Text × Known)) (n n' : ℕ) (bs : Bindings) (u : Atom) → Fields_equal at (fields_known fs) (fields_known gs) n bs u n' → All_equal at (knowns (values_of fs)) (knowns (values_of gs)) n bs u n'
  unfolding fields_known
  values_compared [] [] _ _ _ _ e_no_field = e_none
  values_compared [] (g ∷ gs) n n' bs u x = elim x [ ]
  values_compared (f ∷ fs) [] n n' bs u x = elim x [ ]
  values_compared (f ∷ fs) (g ∷ gs) n n' bs u x = one_value f.0 g.0 (fields_known fs) (fields_known gs) (knowns (values_of fs)) (knowns (values_of gs)) (values_compared fs gs) f.1 g.1 n n' bs u x

-- what is known of fields is that of their list
pub values_known : (fs : List (Text × Known)) → field_knowns (fields_known fs) ≡ values_of fs
unfolding fields_known
values_known [] = refl
values_known (f ∷ fs) = ap (λ z. f.1 ∷ z) (values_known fs)

values_many : {fs gs : List (Text × Known)} → Same_names fs gs → length (values_of fs) ≡ length (values_of gs)
values_many {fs} {gs} h = length-map fs (λ (f : Text × Known). f.1) ∙ as_many_names h ∙ sym (length-map gs (λ (f : Text × Known). f.1))

module _ (at : Place) (fs gs : List (Text × Known)) (same : Same_names fs gs) where
  as_values : {n m : ℕ} {bs : Bindings} {u : Atom} → All_equal at (knowns (field_knowns (fields_known fs))) (knowns (field_knowns (fields_known gs))) n bs u m → All_equal at (knowns (values_of fs)) (knowns (values_of gs)) n bs u m
  as_values {n} {m} {bs} {u} h = subst (λ z. All_equal at (knowns (values_of fs)) (knowns z) n bs u m) (values_known gs) (subst (λ z. All_equal at (knowns z) (knowns (field_knowns (fields_known gs))) n bs u m) (values_known fs) h)

  back_values : {n m : ℕ} {bs : Bindings} {u : Atom} → All_equal at (knowns (values_of fs)) (knowns (values_of gs)) n bs u m → All_equal at (knowns (field_knowns (fields_known fs))) (knowns (field_knowns (fields_known gs))) n bs u m
  back_values {n} {m} {bs} {u} h = subst (λ z. All_equal at (knowns (field_knowns (fields_known fs))) (knowns z) n bs u m) (sym (values_known gs)) (subst (λ z. All_equal at (knowns z) (knowns (values_of gs)) n bs u m) (sym (values_known fs)) h)

  pub records_compared : (n m : ℕ) (bs : Bindings) (u : Atom) → All_equal at (knowns (field_knowns (fields_known fs))) (knowns (field_knowns (fields_known gs))) n bs u m → Fields_equal at (fields_known fs) (fields_known gs) n bs u m
  records_compared n m bs u h = fields_equal at fs gs n m bs u same (as_values h)

  pub records_uncompared : Not_all_compared at (knowns (field_knowns (fields_known fs))) (knowns (field_knowns (fields_known gs))) → Not_compared at (Record_known (fields_known fs)) (Record_known (fields_known gs))
  records_uncompared lacks = fields_uncompared at (fields_known fs) (fields_known gs) (ap length (values_known fs) ∙ values_many same ∙ sym (ap length (values_known gs))) (λ n m bs u h. lacks n m bs u (back_values (values_compared at fs gs n m bs u h))) lacks
