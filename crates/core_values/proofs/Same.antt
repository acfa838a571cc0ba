-- Shapes of one type have the same sizes exactly where their leaves have.
use Rattle.std.proofs.Common.{◌≡◌, ◌⊎◌, inl, inr, ℕ, suc, ◌&&◌, nat_eq, Bool, true, false, List, [], ◌∷◌, ◌++◌, map, length, refl, sym, ap, ◌∙◌, arith, eq-eqb, ne_eqb, eqb-true}
use Rattle.std.proofs.lemmas.Bool.{and_parts, cases_eq}
use Rattle.std.proofs.lemmas.List.{length-append, length-map}
use Rattle.fut_value.specs.Data.{Shape, Scalar_shape, Tuple_shape, Record_shape, Array_shape, Shapes, no_shape, shape_and, Named_shapes, named_shape_and}
use Rattle.fut_value.specs.Data as shape
use Rattle.fut_value.specs.Leaves.{in_rows, leaves, all_leaves, named_leaves}
use Rattle.core_ir.specs.Bundles.{same_sizes, all_same_sizes}
use Rattle.core_values.specs.Components.{One_type, scalars, tuples, records, arrays, All_one_type, no_part, part_and, Named_one_type, no_field, field_and}

and_grouped : (a b c : Bool) → ((a && b) && c) ≡ (a && (b && c))
and_grouped true b c = refl
and_grouped false b c = refl

eq_turned : (n m : ℕ) → nat_eq n m ≡ nat_eq m n
eq_turned n m = by (cases_eq n m)
  where
    by : (n ≡ m) ⊎ (n ≡ m → ⊥) → nat_eq n m ≡ nat_eq m n
    by (inl e) = eq-eqb n m e ∙ sym (eq-eqb m n (sym e))
    by (inr k) = ne_eqb n m k ∙ sym (ne_eqb m n (λ e. k (sym e)))

suc_inj : {m n : ℕ} → suc m ≡ suc n → m ≡ n
suc_inj e = omega (arith, e)

same_append : (fs cs bs ds : List (List ℕ)) → length fs ≡ length cs → all_same_sizes (fs ++ bs) (cs ++ ds) ≡ (all_same_sizes fs cs && all_same_sizes bs ds)
same_append [] [] bs ds e = refl
same_append [] (c ∷ cs) bs ds e = absurd (omega (arith, e))
same_append (a ∷ fs) [] bs ds e = absurd (omega (arith, e))
same_append (a ∷ fs) (c ∷ cs) bs ds e = ap (λ z. same_sizes a c && z) (same_append fs cs bs ds (suc_inj e)) ∙ sym (and_grouped (same_sizes a c) (all_same_sizes fs cs) (all_same_sizes bs ds))

longer_same : (n m : ℕ) (ds es : List (List ℕ)) → nat_eq n m ≡ true → all_same_sizes (map (λ sizes. n ∷ sizes) ds) (map (λ sizes. m ∷ sizes) es) ≡ all_same_sizes ds es
longer_same n m [] [] e = refl
longer_same n m [] (f ∷ es) e = refl
longer_same n m (d ∷ ds) [] e = refl
longer_same n m (d ∷ ds) (f ∷ es) e =
    ap (λ z. (z && same_sizes d f) && all_same_sizes (map (λ sizes. n ∷ sizes) ds) (map (λ sizes. m ∷ sizes) es)) e
    ∙ ap (λ z. same_sizes d f && z) (longer_same n m ds es e)

bare_same : (b : Bool) → ((b && (true && true)) && true) ≡ (b && true)
bare_same true = refl
bare_same false = refl

by_test : (b : Bool) (n m : ℕ) (ds es : List (List ℕ)) → nat_eq n m ≡ b → length ds ≡ length es → all_same_sizes (in_rows n ds) (in_rows m es) ≡ (b && all_same_sizes ds es)
by_test b n m [] [] e l = ap (λ z. (z && (true && true)) && true) e ∙ bare_same b
by_test b n m [] (f ∷ es) e l = absurd (omega (arith, l))
by_test b n m (d ∷ ds) [] e l = absurd (omega (arith, l))
by_test true n m (d ∷ ds) (f ∷ es) e l = longer_same n m (d ∷ ds) (f ∷ es) e
by_test false n m (d ∷ ds) (f ∷ es) e l = ap (λ z. (z && same_sizes d f) && all_same_sizes (map (λ sizes. n ∷ sizes) ds) (map (λ sizes. m ∷ sizes) es)) e

rows_many : (n m : ℕ) (ds es : List (List ℕ)) → length ds ≡ length es → length (in_rows n ds) ≡ length (in_rows m es)
rows_many n m [] [] e = refl
rows_many n m [] (f ∷ es) e = absurd (omega (arith, e))
rows_many n m (d ∷ ds) [] e = absurd (omega (arith, e))
rows_many n m (d ∷ ds) (f ∷ es) e = length-map (d ∷ ds) (λ sizes. n ∷ sizes) ∙ e ∙ sym (length-map (f ∷ es) (λ sizes. m ∷ sizes))

both_many : (fs cs bs ds : List (List ℕ)) → length fs ≡ length cs → length bs ≡ length ds → length (fs ++ bs) ≡ length (cs ++ ds)
both_many fs cs bs ds e f = let l = length-append fs bs in let r = length-append cs ds in omega (arith, l, r, e, f)

mutual
  unfolding leaves all_leaves named_leaves

  pub leaves_many : {h k : Shape} → One_type h k → length (leaves h) ≡ length (leaves k)
  leaves_many scalars = refl
  leaves_many (tuples o) = all_many o
  leaves_many (records o) = named_many o
  leaves_many (arrays {n} {m} {h} {k} o) = rows_many n m (leaves h) (leaves k) (leaves_many o)

  all_many : {hs ks : Shapes} → All_one_type hs ks → length (all_leaves hs) ≡ length (all_leaves ks)
  all_many no_part = refl
  all_many (part_and {h} {k} {hs} {ks} o p) = both_many (leaves h) (leaves k) (all_leaves hs) (all_leaves ks) (leaves_many o) (all_many p)

  named_many : {hs ks : Named_shapes} → Named_one_type hs ks → length (named_leaves hs) ≡ length (named_leaves ks)
  named_many no_field = refl
  named_many (field_and {h = h} {k} {hs} {ks} o p) = both_many (leaves h) (leaves k) (named_leaves hs) (named_leaves ks) (leaves_many o) (named_many p)

mutual
  unfolding leaves all_leaves named_leaves shape.same_sizes shape.all_same_sizes shape.named_same_sizes

  pub sized_same : {h k : Shape} → One_type h k → shape.same_sizes h k ≡ all_same_sizes (leaves k) (leaves h)
  sized_same scalars = refl
  sized_same (tuples o) = all_sized o
  sized_same (records o) = named_sized o
  sized_same (arrays {n} {m} {h} {k} o) =
      ap (λ z. nat_eq n m && z) (sized_same o) ∙ ap (λ z. z && all_same_sizes (leaves k) (leaves h)) (eq_turned n m) ∙ sym (by_test (nat_eq m n) m n (leaves k) (leaves h) refl (sym (leaves_many o)))

  all_sized : {hs ks : Shapes} → All_one_type hs ks → shape.all_same_sizes hs ks ≡ all_same_sizes (all_leaves ks) (all_leaves hs)
  all_sized no_part = refl
  all_sized (part_and {h} {k} {hs} {ks} o p) =
      ap (λ z. z && shape.all_same_sizes hs ks) (sized_same o) ∙ ap (λ z. all_same_sizes (leaves k) (leaves h) && z) (all_sized p) ∙ sym (same_append (leaves k) (leaves h) (all_leaves ks) (all_leaves hs) (sym (leaves_many o)))

  named_sized : {hs ks : Named_shapes} → Named_one_type hs ks → shape.named_same_sizes hs ks ≡ all_same_sizes (named_leaves ks) (named_leaves hs)
  named_sized no_field = refl
  named_sized (field_and {h = h} {k} {hs} {ks} o p) =
      ap (λ z. z && shape.named_same_sizes hs ks) (sized_same o) ∙ ap (λ z. all_same_sizes (leaves k) (leaves h) && z) (named_sized p) ∙ sym (same_append (leaves k) (leaves h) (named_leaves ks) (named_leaves hs) (sym (leaves_many o)))

mutual
  unfolding shape.same_sizes shape.all_same_sizes shape.named_same_sizes

  pub shape_is : {h k : Shape} → One_type h k → shape.same_sizes h k ≡ true → h ≡ k
  shape_is scalars e = refl
  shape_is (tuples o) e = ap Tuple_shape (all_is o e)
  shape_is (records o) e = ap Record_shape (named_is o e)
  shape_is (arrays {n} {m} {h} {k} o) e = let p = and_parts (nat_eq n m) (shape.same_sizes h k) e in ap (λ z. Array_shape z h) (eqb-true n m p.0) ∙ ap (Array_shape m) (shape_is o p.1)

  all_is : {hs ks : Shapes} → All_one_type hs ks → shape.all_same_sizes hs ks ≡ true → hs ≡ ks
  all_is no_part e = refl
  all_is (part_and {h} {k} {hs} {ks} o p) e = let q = and_parts (shape.same_sizes h k) (shape.all_same_sizes hs ks) e in ap (λ z. shape_and z hs) (shape_is o q.0) ∙ ap (shape_and k) (all_is p q.1)

  named_is : {hs ks : Named_shapes} → Named_one_type hs ks → shape.named_same_sizes hs ks ≡ true → hs ≡ ks
  named_is no_field e = refl
  named_is (field_and {f} {h} {k} {hs} {ks} o p) e = let q = and_parts (shape.same_sizes h k) (shape.named_same_sizes hs ks) e in ap (λ z. named_shape_and f z hs) (shape_is o q.0) ∙ ap (named_shape_and f k) (named_is p q.1)

-- two shapes of the type of a third are of one type
mutual
  pub among : {h k l : Shape} → One_type h k → One_type h l → One_type k l
  among scalars scalars = scalars
  among (tuples o) (tuples p) = tuples (all_among o p)
  among (records o) (records p) = records (named_among o p)
  among (arrays o) (arrays p) = arrays (among o p)

  all_among : {hs ks ls : Shapes} → All_one_type hs ks → All_one_type hs ls → All_one_type ks ls
  all_among no_part no_part = no_part
  all_among (part_and o p) (part_and o' p') = part_and (among o o') (all_among p p')

  named_among : {hs ks ls : Named_shapes} → Named_one_type hs ks → Named_one_type hs ls → Named_one_type ks ls
  named_among no_field no_field = no_field
  named_among (field_and o p) (field_and o' p') = field_and (among o o') (named_among p p')
