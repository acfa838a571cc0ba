-- The fields of records, one more at a time.
use Rattle.std.proofs.Common.{◌≡◌, ℕ, zero, suc, ◌+◌, ◌<◌, List, [], ◌∷◌, ◌++◌, length, slice_get, slice_index_or, Option, Some, None, refl, sym, ap, ◌∙◌, subst, arith, Bor}
use Rattle.fut_ast.specs.Sorts.{Text}
use Rattle.fut_flat.specs.Erased.{texts}
use Rattle.fut_types.specs.declared.shapes.ShapeTable.{ShapeTable}
use Rattle.fut_types.specs.declared.shapes.Fields.{Fields}
use Rattle.fut_types.specs.Shapes.{fields_of, label_at, labels_from, row_of, some_fields}
use Rattle.type_rules.specs.Fields.{Numbered}
use Rattle.type_rules.specs.Labels.{number_of}
use Rattle.type_rules.specs.declared.labels.Labels.{Labels}
use Rattle.sizing_tables.specs.Records.{Are_fields}
use Rattle.sizing_tables.proofs.Homes.{some_is}

module _ (labels : Labels) where
  numbered_more : (ss : List Text) (ns : List ℕ) (s : Text) (n : ℕ) → Numbered labels ss ns → number_of labels s ≡ Some n → Numbered labels (ss ++ s ∷ []) (ns ++ n ∷ [])
  unfolding Numbered
  numbered_more [] [] s n h e = (e, tt)
  numbered_more [] (m ∷ ns) s n h e = absurd h
  numbered_more (t ∷ ss) [] s n h e = absurd h
  numbered_more (t ∷ ss) (m ∷ ns) s n h e = (h.0, numbered_more ss ns s n h.1 e)

  pub none_numbered : (all : List ℕ) (first : ℕ) → Numbered labels [] (labels_from all first 0)
  unfolding Numbered labels_from
  none_numbered all first = tt

texts_more : (xs : List (Bor Text)) (x : Bor Text) → texts (xs ++ x ∷ []) ≡ texts xs ++ x.now ∷ []
texts_more [] x = refl
texts_more (y ∷ xs) x = ap (λ l. y.now ∷ l) (texts_more xs x)

labels_more : (all : List ℕ) (first k : ℕ) → labels_from all first k ++ label_at all (first + k) ∷ [] ≡ labels_from all first (suc k)
unfolding labels_from
labels_more all first zero = ap (λ n. label_at all n ∷ []) (let z : first + 0 ≡ first = omega arith in z)
labels_more all first (suc k) = ap (λ l. label_at all first ∷ l) (ap (λ n. labels_from all (suc first) k ++ label_at all n ∷ []) (let z : first + suc k ≡ suc first + k = omega arith in z) ∙ labels_more all (suc first) k)

-- the name of one more label
pub field_more : (labels : Labels) (all : List ℕ) (first k at l : ℕ) (xs : List (Bor Text)) (x : Bor Text) → at ≡ first + k → l ≡ slice_index_or all at 0 → Numbered labels (texts xs) (labels_from all first k) → number_of labels x.now ≡ Some l → Numbered labels (texts (xs ++ x ∷ [])) (labels_from all first (k + 1))
unfolding label_at
field_more labels all first k at l xs x e is h n =
    let m : number_of labels x.now ≡ Some (label_at all (first + k)) = n ∙ ap Some (is ∙ ap (λ j. slice_index_or all j 0) e) in
    let long : suc k ≡ k + 1 = omega arith in
    subst (λ j. Numbered labels (texts (xs ++ x ∷ [])) (labels_from all first j)) long
    (subst (λ ns. Numbered labels (texts (xs ++ x ∷ [])) ns) (labels_more all first k)
    (subst (λ ts. Numbered labels ts (labels_from all first k ++ label_at all (first + k) ∷ [])) (sym (texts_more xs x)) (numbered_more labels (texts xs) (labels_from all first k) x.now (label_at all (first + k)) h m)))

-- ---- one more record

module _ {X : Type 0} (P : ℕ → X → Type 0) where
  -- each element of a list and its place
  abbrev pub Each : List X → Type 0
  Each xs = (n : ℕ) (x : X) → slice_get xs n ≡ Some x → P n x

pub each_more : {X : Type 0} (P : ℕ → X → Type 0) (xs : List X) (y : X) → Each P xs → P (length xs) y → Each P (xs ++ y ∷ [])
each_more P [] y h p zero x g = subst (P 0) (some_is y x g) p
each_more P [] y h p (suc n) x g = absurd (let z : ◌≡◌ {A = Option _} None (Some x) = g in cc)
each_more P (z ∷ xs) y h p zero x g = h zero x g
each_more P (z ∷ xs) y h p (suc n) x g = each_more (λ k w. P (suc k) w) xs y (λ k w e. h (suc k) w e) p n x g

-- ---- the names of the fields of one more record

abbrev pub Named : Labels → ShapeTable → ℕ → Bor (List (Bor Text)) → Type 0
Named labels table n fs = (n < length table.records) × Numbered labels (texts fs.now) (fields_of table n)

module _ (labels : Labels) (table : ShapeTable) (before behind : List (Bor (List (Bor Text)))) where
  -- the row of a record, as a loop over the table has it
  pub fields_more : (i : ℕ) (names : Bor (List (Bor Text))) {all : List ℕ} {records : List Fields} → all ≡ table.labels → records ≡ table.records → i < length records → behind ≡ before ++ names ∷ []
      → (length before ≡ i) × Each (Named labels table) before
      → Numbered labels (texts names.now) (labels_from all (slice_index_or records i some_fields).first (slice_index_or records i some_fields).count)
      → (length behind ≡ i + 1) × Each (Named labels table) behind
  unfolding row_of
  fields_more i names {all} {records} a r lt e held numbered =
      let within : length before < length table.records = subst (λ n. n < length table.records) (sym held.0) (subst (λ (rs : List Fields). i < length rs) r lt) in
      let own : Numbered labels (texts names.now) (fields_of table i) = subst (λ ls. Numbered labels (texts names.now) (labels_from ls (slice_index_or table.records i some_fields).first (slice_index_or table.records i some_fields).count)) a (subst (λ (rs : List Fields). Numbered labels (texts names.now) (labels_from all (slice_index_or rs i some_fields).first (slice_index_or rs i some_fields).count)) r numbered) in (
        ap length e ∙ length_more before names ∙ ap (λ n. n + 1) held.0,
        subst (Each (Named labels table)) (sym e) (each_more (Named labels table) before names held.1 (within, subst (λ n. Numbered labels (texts names.now) (fields_of table n)) (sym held.0) own)),
      )
    where
      length_more : (xs : List (Bor (List (Bor Text)))) (x : Bor (List (Bor Text))) → length (xs ++ x ∷ []) ≡ length xs + 1
      length_more [] x = refl
      length_more (y ∷ xs) x = ap suc (length_more xs x) ∙ (let z : suc (length xs + 1) ≡ suc (length xs) + 1 = omega arith in z)

  pub fields_so : behind ≡ before → Each (Named labels table) before → Are_fields labels table behind
  fields_so e h = record { named = subst (Each (Named labels table)) (sym e) h }
