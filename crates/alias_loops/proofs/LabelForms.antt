-- Parts by their labels.
use Rattle.std.proofs.Common.{◌≡◌, ◌≢◌, ℕ, zero, suc, ◌+◌, ◌-◌, ◌<◌, ◌≤◌, Bool, true, false, cond, nat_eq, List, [], ◌∷◌, ◌++◌, length, get_or, slice_index_or, take, drop, refl, sym, ap, ◌∙◌, subst, arith, append_assoc}
use Rattle.std.proofs.lemmas.Bool.{eq-eqb, eqb-true}
use Rattle.std.proofs.Math.Seq.{drop-cons}
use Rattle.fut_types.specs.declared.shapes.Fields.{Fields}
use Rattle.fut_types.specs.declared.shapes.ShapeTable.{ShapeTable}
use Rattle.fut_types.specs.Shapes.{IsTable, Shapes, Tells, label_at, labels_from, row_of, some_fields}
use Rattle.fut_aliases.specs.Loops.{Labelled as Row, at_label, in_order}
use Rattle.alias_values.proofs.Rows.{drop_past, one_more}
use Rattle.alias_loops.specs.declared.labels.Labelled.{Labelled}
use Rattle.alias_loops.specs.Labels.{labelled_of}

not_same : (a b : ℕ) → a ≢ b → nat_eq a b ≡ false
not_same a b h = by_test (nat_eq a b) refl
  where
    by_test : (t : Bool) → nat_eq a b ≡ t → nat_eq a b ≡ false
    by_test true e = absurd (h (eqb-true a b e))
    by_test false e = e

module _ (l : ℕ) (xs : List Labelled) (i : ℕ) (h : at_label l (labelled_of xs) ≡ at_label l (labelled_of (drop i xs))) where
  labelled_at : (d : Labelled) → i < length xs → at_label l (labelled_of xs) ≡ cond (nat_eq l (get_or xs i d).label) (get_or xs i d).nodes.now (at_label l (labelled_of (drop (i + 1) xs)))
  labelled_at d b = h ∙ ap (λ z. at_label l (labelled_of z)) (one_more xs i d b)

  pub label_here : (d : Labelled) → i < length xs → (get_or xs i d).label ≡ l → (get_or xs i d).nodes.now ≡ at_label l (labelled_of xs)
  label_here d b e = sym (labelled_at d b ∙ ap (λ z. cond z (get_or xs i d).nodes.now (at_label l (labelled_of (drop (i + 1) xs)))) (eq-eqb l (get_or xs i d).label (sym e)))

  pub label_more : (d : Labelled) → i < length xs → (get_or xs i d).label ≢ l → at_label l (labelled_of xs) ≡ at_label l (labelled_of (drop (i + 1) xs))
  label_more d b e = labelled_at d b ∙ ap (λ z. cond z (get_or xs i d).nodes.now (at_label l (labelled_of (drop (i + 1) xs)))) (not_same l (get_or xs i d).label (λ q. e (sym q)))

  pub label_end : (s : List ℕ) → length xs ≤ i → s ≡ [] → s ≡ at_label l (labelled_of xs)
  label_end s b e = e ∙ sym (h ∙ ap (λ z. at_label l (labelled_of z)) (drop_past xs i b))

-- ---- in the order of labels

nothing_behind : {A : Type 0} (xs : List A) → xs ++ [] ≡ xs
nothing_behind [] = refl
nothing_behind (x ∷ xs) = ap (λ z. x ∷ z) (nothing_behind xs)

module _ (ls : List ℕ) (xs : Row) where
  abbrev pub Ordering : ℕ → List ℕ → Type 0
  Ordering i made = in_order ls xs ≡ made ++ in_order (drop i ls) xs

  pub order_more : (i d : ℕ) (made longer part : List ℕ) → i < length ls → Ordering i made → part ≡ at_label (get_or ls i d) xs → longer ≡ made ++ part → Ordering (i + 1) longer
  order_more i d made longer part b h e m = h ∙ ap (λ z. made ++ in_order z xs) (one_more ls i d b) ∙ ap (λ z. made ++ (z ++ in_order (drop (i + 1) ls) xs)) (sym e)
      ∙ sym (append_assoc made part (in_order (drop (i + 1) ls) xs)) ∙ ap (λ z. z ++ in_order (drop (i + 1) ls) xs) (sym m)

  pub order_end : (i : ℕ) (made : List ℕ) → length ls ≤ i → Ordering i made → made ≡ in_order ls xs
  order_end i made b h = sym (h ∙ ap (λ z. made ++ in_order z xs) (drop_past ls i b) ∙ nothing_behind made)

-- ---- the labels of a record

labels_are : (labels : List ℕ) (count first : ℕ) → first + count ≤ length labels → take count (drop first labels) ≡ labels_from labels first count
unfolding labels_from label_at
labels_are labels zero first l = refl
labels_are labels (suc count) first l = ap (take (suc count)) (drop-cons labels first 0 (omega (arith, l))) ∙ ap (λ z. get_or labels first 0 ∷ z) (labels_are labels count (suc first) (omega (arith, l)))

pub labels_cut : (labels held : List ℕ) (first count : ℕ) → held ≡ labels → first + count ≤ length labels → take (first + count - first) (drop first held) ≡ labels_from labels first count
labels_cut labels held first count e l = let n : first + count - first ≡ count = omega arith in ap (λ z. take (first + count - first) (drop first z)) e ∙ ap (λ k. take k (drop first labels)) n ∙ labels_are labels count first l

module _ (table : ShapeTable) (n : ℕ) (rows : List Fields) (known : n < length table.records) (held : rows ≡ table.records) where
  pub row_within : IsTable table → (slice_index_or rows n some_fields).first + (slice_index_or rows n some_fields).count ≤ length table.labels
  unfolding row_of
  row_within t = subst (λ rs. (slice_index_or rs n some_fields).first + (slice_index_or rs n some_fields).count ≤ length table.labels) (sym held) (t.rows n known)

  pub row_labels : (S : Shapes) (labels : List ℕ) → Tells table S → labels ≡ labels_from table.labels (slice_index_or rows n some_fields).first (slice_index_or rows n some_fields).count → labels ≡ S.fields n
  unfolding row_of
  row_labels S labels t e = e ∙ ap (λ rs. labels_from table.labels (slice_index_or rs n some_fields).first (slice_index_or rs n some_fields).count) held ∙ sym (t.fields n known)
