-- The fields of a record put in order of their names.
use Rattle.std.proofs.Common.{◌≡◌, ℕ, ◌+◌, ◌<◌, ◌≤◌, ◌++◌, List, [], ◌∷◌, map, length, get_or, drop, Bool, true, false, cond, refl, sym, ap, subst, ◌∙◌}
use Rattle.std.specs.Borrow.{Bor}
use Rattle.std.specs.Cmp.{IsStrictWeakOrder}
use Rattle.std.specs.Cmp.Lexicographic.{nat_list_cmp_total}
use Rattle.std.specs.List.Sorted.{IsSortedBy, IsStableBy}
use Rattle.std.proofs.lemmas.List.{drop_all}
use Rattle.std.proofs.lemmas.List.Sorted.{ranks_by}
use Rattle.fut_ast.specs.Sorts.{Text}
use Rattle.fut_blocks.specs.declared.row.FieldShape.{FieldShape}
use Rattle.fut_blocks.specs.declared.row.RowShape.{RowShape}
use Rattle.fut_blocks.specs.Rows as blocks
use Rattle.fut_blocks.specs.Rows.{Row, Named_rows, no_named_row, named_row_and, rows, row_of, named_row_of}
use Rattle.fut_blocks.proofs.Layers.{named_row_of-parts}
use Rattle.fut_flat.specs.Erased.{texts}
use Rattle.fut_meaning.specs.Values.{is_before}
use Rattle.unfold.specs.Telling.{with_named, named_rows}
use Rattle.told_rows.proofs.RowLists.{part_at}
use Rattle.told_rows.proofs.Sorting.{backward, put, in_order, stably}

abbrev pub name_before : FieldShape → FieldShape → Bool
name_before f g = is_before f.name.now g.name.now

pub names_rank : IsStrictWeakOrder name_before
names_rank = ranks_by nat_list_cmp_total (λ (f : FieldShape). f.name.now)

abbrev all_named : List FieldShape → Named_rows
all_named fs = blocks.named_rows (map named_row_of fs)

abbrev first_named : FieldShape → Named_rows → Named_rows
first_named f rs = named_row_and (named_row_of f).0 (named_row_of f).1 rs

first_is : (f : FieldShape) (rs : Named_rows) → first_named f rs ≡ named_row_and f.name.now (row_of f.row) rs
first_is f rs = ap (λ z. named_row_and z.0 z.1 rs) (named_row_of-parts f)

fields_put : (f : FieldShape) (fs : List FieldShape) → all_named (put name_before f fs) ≡ with_named f.name.now (row_of f.row) (all_named fs)
fields_put f [] = first_is f no_named_row
fields_put f (g ∷ fs) =
    known (name_before f g) (fields_put f fs)
    ∙ ap (λ z. cond (is_before f.name.now z) (named_row_and f.name.now (row_of f.row) (all_named (g ∷ fs))) (named_row_and (named_row_of g).0 (named_row_of g).1 (with_named f.name.now (row_of f.row) (all_named fs)))) (sym (ap (λ z. z.0) (named_row_of-parts g)))
  where
    known : (b : Bool) → all_named (put name_before f fs) ≡ with_named f.name.now (row_of f.row) (all_named fs) → all_named (cond b (f ∷ g ∷ fs) (g ∷ put name_before f fs)) ≡ cond b (named_row_and f.name.now (row_of f.row) (all_named (g ∷ fs))) (named_row_and (named_row_of g).0 (named_row_of g).1 (with_named f.name.now (row_of f.row) (all_named fs)))
    known true rest = first_is f (all_named (g ∷ fs))
    known false rest = ap (first_named g) rest

abbrev zipped : List (Bor Text) → List RowShape → List FieldShape
zipped [] xs = []
zipped (n ∷ ns) [] = []
zipped (n ∷ ns) (x ∷ xs) = record { name = n; row = x } ∷ zipped ns xs

fields_ordered : (ns : List (Bor Text)) (xs : List RowShape) → all_named (in_order name_before (zipped ns xs)) ≡ named_rows (texts ns) (rows (map row_of xs))
fields_ordered [] xs = refl
fields_ordered (n ∷ ns) [] = refl
fields_ordered (n ∷ ns) (x ∷ xs) = fields_put (record { name = n; row = x }) (in_order name_before (zipped ns xs)) ∙ ap (with_named n.now (row_of x)) (fields_ordered ns xs)

module _ (names : List (Bor Text)) (parts : List RowShape) where
  abbrev pub Listed : List FieldShape → ℕ → Type 0
  Listed made i = made ≡ backward (zipped (drop i names) (drop i parts))

  pub listed_start : (n : ℕ) → length names ≤ n → Listed [] n
  listed_start n le = sym (ap (λ z. backward (zipped z (drop n parts))) (drop_all n names le))

  -- one more field
  pub listed_on : (i j : ℕ) (n : Bor Text) (x : RowShape) (made made' : List FieldShape) → i < length names → i < length parts → x ≡ get_or parts i x → j ≡ i + 1 → made' ≡ made ++ record { name = get_or names i n; row = x } ∷ [] → Listed made j → Listed made' i
  listed_on i j n x made made' lt lt' is ej p r =
      p
      ∙ ap (λ z. made ++ record { name = get_or names i n; row = z } ∷ []) is
      ∙ ap (λ z. z ++ record { name = get_or names i n; row = get_or parts i x } ∷ []) r
      ∙ ap (λ z. backward (zipped (drop z names) (drop z parts)) ++ record { name = get_or names i n; row = get_or parts i x } ∷ []) ej
      ∙ ap (λ z. backward (zipped z (get_or parts i x ∷ drop (i + 1) parts))) (sym (part_at names i n lt))
      ∙ ap (λ z. backward (zipped (drop i names) z)) (sym (part_at parts i x lt'))

  pub listed_end : (made made' : List FieldShape) (j : ℕ) (row : Bor (List FieldShape)) → j ≡ 0 → Listed made j → IsSortedBy name_before made' → IsStableBy name_before made made' → row.now ≡ made' → all_named row.now ≡ named_rows (texts names) (rows (map row_of parts))
  listed_end made made' j row ej r up stable q =
      ap all_named (q ∙ stably name_before names_rank (zipped names parts) made' up (subst (λ z. IsStableBy name_before z made') (r ∙ ap (λ z. backward (zipped (drop z names) (drop z parts))) ej) stable))
      ∙ fields_ordered names parts
