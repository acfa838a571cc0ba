-- The fields of a record that is known are those of its type, each once.
use Rattle.std.proofs.Common.{◌≡◌, ◌≢◌, true, ℕ, zero, suc, ◌≤◌, ◌<◌, refl, sym, ◌∙◌, subst, arith, List, [], ◌∷◌, map, length}
use Rattle.std.specs.declared.cmp.Ordering.{Ordering}
use Rattle.std.specs.declared.cmp.Ordering.TheVariants.{Less, Equal, Greater}
use Rattle.std.specs.List.{AllByRecursion}
use Rattle.std.specs.Ordering.{nat_cmp, is_lt, ordering_reverse}
use Rattle.std.specs.Cmp.Lexicographic.{slice_cmp}
use Rattle.std.proofs.lemmas.Cmp.{nat_list_cmp_total}
use Rattle.std.proofs.lemmas.List.Elements.{All-from_recursion}
use Rattle.std.proofs.lemmas.List.Kept.{AllPairs-cons}
use mathlib.Core.Logic.{◌⊎◌, inl, inr}
use Rattle.fut_ast.specs.Sorts.{Text}
use Rattle.fut_types.specs.declared.Head.TheVariants as head
use Rattle.fut_types.specs.Types.{Made, Tys}
use Rattle.fut_typing.specs.Names.{Names, AreNames, IsRecord, Parts_named, Once, count}
use Rattle.fut_typing.proofs.Members.{In, in_list, list_in}
use Rattle.fut_meaning.specs.Values.{is_before}
use Rattle.type_soundness.specs.Fits.{Is_key, All_behind, In_order, Are_keys}
use Rattle.type_soundness.proofs.Records.{Named, Apart, covers, long_map, label_named, labels_apart, numbers_apart}
use Rattle.unfold.specs.Knowns.{Known_fields, no_known_field, known_field_and}
use Rattle.unfold.specs.Unfolding.{field_names}
use Rattle.unfold_laws.specs.Fits.{keys}
use Rattle.unfold_laws.specs.Typed.{In_name_order}
use Rattle.unfold_laws.proofs.Recording.{named_label}

-- ---- numbers, each once
in_order : (n m : ℕ) → (n < m) ⊎ (m ≤ n)
in_order n zero = inr (omega arith)
in_order zero (suc m) = inl (omega arith)
in_order (suc n) (suc m) = elim (in_order n m) as (λ d. (suc n < suc m) ⊎ (suc m ≤ suc n)) [ inl lt ↦ inl (omega (arith, lt)) | inr le ↦ inr (omega (arith, le)) ]

-- there are no more of them than there is room for
no_longer : (xs ys : List ℕ) → Apart xs → ((x : ℕ) → In x xs → In x ys) → length xs ≤ length ys
no_longer [] ys a sub = omega arith
no_longer (x ∷ xs) ys a sub = elim (in_order (length xs) (length ys)) as (λ d. length (x ∷ xs) ≤ length ys) [
  | inl lt ↦ let z : length xs < length ys = lt in omega (arith, z)
  | inr le ↦ absurd (a.0 (covers xs ys a.1 (λ y i. sub y (inr i)) le x (sub x (inl refl))))
]

-- ---- names in order
less_is : (o : Ordering) → is_lt o ≡ true → o ≡ Less
less_is Less e = refl
less_is Equal e = cc
less_is Greater e = cc

not_before_self : (f : Text) → is_before f f ≡ true → ⊥
not_before_self f p = let e : slice_cmp nat_cmp f f ≡ Less = less_is (slice_cmp nat_cmp f f) p in let r : slice_cmp nat_cmp f f ≡ ordering_reverse (slice_cmp nat_cmp f f) = nat_list_cmp_total.antisymm f f in let z : Less ≡ ordering_reverse Less = subst (λ o. o ≡ ordering_reverse o) e r in cc

behind_other : (f : Text) (fs : Known_fields) → All_behind f (keys fs) → AllByRecursion (λ g. f ≢ g) (field_names fs)
behind_other f no_known_field h = tt
behind_other f (known_field_and g s fs) h = ((λ same. not_before_self f (subst (λ x. is_before f x ≡ true) (sym same) h.0)), behind_other f fs h.1)

all_behind : (f : Text) (fs : Known_fields) → All_behind f (keys fs) → AllByRecursion (λ g. is_before f g ≡ true) (field_names fs)
all_behind f no_known_field h = tt
all_behind f (known_field_and g s fs) h = (h.0, all_behind f fs h.1)

pub names_in_order : (fs : Known_fields) → In_order (keys fs) → In_name_order (field_names fs)
names_in_order no_known_field h = tt
names_in_order (known_field_and f s fs) h = (all_behind f fs h.0, names_in_order fs h.1)

names_once : (fs : Known_fields) → In_order (keys fs) → Once (field_names fs)
names_once no_known_field h = λ i j d lt low. absurd (let z : j < 0 = low in omega (arith, z))
names_once (known_field_and f s fs) h = AllPairs-cons (λ x y. x ≢ y) f (field_names fs) (All-from_recursion (λ g. f ≢ g) (field_names fs) (behind_other f fs h.0)) (names_once fs h.1)

key_named : (f : Text) (fs : Known_fields) → Is_key f (keys fs) → Named f (field_names fs)
key_named f no_known_field h = absurd h
key_named f (known_field_and g s fs) (inl e) = inl e
key_named f (known_field_and g s fs) (inr h) = inr (key_named f fs h)

named_key : (f : Text) (fs : Known_fields) → Named f (field_names fs) → Is_key f (keys fs)
named_key f no_known_field h = absurd h
named_key f (known_field_and g s fs) (inl e) = inl e
named_key f (known_field_and g s fs) (inr h) = inr (named_key f fs h)

module _ (N : Names) (are : AreNames N) (n : ℕ) (fs : Known_fields) (k : Are_keys N (N.shapes.fields n) (keys fs)) where
  once : Once (field_names fs)
  once = names_once fs k.ordered

  field_label : (l : ℕ) → In l (map N.label (field_names fs)) → In l (N.shapes.fields n)
  field_label l i = let q = label_named N.label (field_names fs) l i in subst (λ x. In x (N.shapes.fields n)) (sym q.2) (in_list (N.shapes.fields n) (N.label q.0) ((k.same q.0).0 (named_key q.0 fs q.1)))

  label_field : (l : ℕ) → In l (N.shapes.fields n) → In l (map N.label (field_names fs))
  label_field l i =
      let q = are.named n l (list_in (N.shapes.fields n) l i) in
      subst (λ x. In x (map N.label (field_names fs))) (sym q.1) (named_label N.label q.0 (field_names fs) (key_named q.0 fs ((k.same q.0).1 (list_in (N.shapes.fields n) (N.label q.0) (subst (λ x. In x (N.shapes.fields n)) q.1 i)))))

  as_many : length (N.shapes.fields n) ≡ length (field_names fs)
  as_many =
      let a = no_longer (N.shapes.fields n) (map N.label (field_names fs)) (numbers_apart (N.shapes.fields n) (are.once n)) label_field in
      let b = no_longer (map N.label (field_names fs)) (N.shapes.fields n) (labels_apart N are (field_names fs) once) field_label in
      let c = long_map N.label (field_names fs) in omega (arith, a, b, c)

  pub sorted_record : (ts us : Tys) → count ts ≡ length (N.shapes.fields n) → Parts_named N (field_names fs) (Made (head.Record n) ts) us → IsRecord N (field_names fs) (Made (head.Record n) ts) us
  sorted_record ts us long named = record { once = once; number = n; parts = ts; made = refl; fields = as_many; all = long ∙ as_many; named = named }
