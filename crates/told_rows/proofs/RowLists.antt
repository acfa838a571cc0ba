-- Lists that loops make of parts, one after another.
use Rattle.std.proofs.Common.{◌≡◌, ℕ, ◌+◌, ◌<◌, List, [], ◌∷◌, ◌++◌, map, length, get_or, drop, refl, sym, ap, ◌∙◌, add-one, arith}
use Rattle.std.proofs.Math.Seq.{drop-cons}
use Rattle.fut_blocks.specs.declared.row.FieldShape.{FieldShape}
use Rattle.fut_blocks.specs.declared.row.FieldTest.{FieldTest}
use Rattle.fut_blocks.specs.declared.row.RowShape.{RowShape}
use Rattle.fut_blocks.specs.declared.row.SizeTest.{SizeTest}
use Rattle.fut_blocks.specs.Rows.{Rows, no_row, row_and, rows, row_of, Named_rows, no_named_row, named_row_and, named_rows, named_row_of, Size_tests, no_test, test_and, tests, test_of, Named_tests, no_named_test, named_test_and, named_tests, named_test_of}

module _ {A B : Type 0} (put : A → B → B) where
  abbrev pub before : List A → B → B
  before [] b = b
  before (x ∷ xs) b = put x (before xs b)

  pub before_more : (xs : List A) (x : A) (b : B) → before (xs ++ x ∷ []) b ≡ before xs (put x b)
  before_more [] x b = refl
  before_more (y ∷ ys) x b = ap (put y) (before_more ys x b)

  -- one more was made
  pub one_more : (whole r s : B) (made more : List A) (x : A) → whole ≡ before made r → r ≡ put x s → more ≡ made ++ x ∷ [] → whole ≡ before more s
  one_more whole r s made more x h e m = h ∙ ap (before made) e ∙ sym (before_more made x s) ∙ ap (λ z. before z s) (sym m)

-- ---- what is made

abbrev pub put_row : RowShape → Rows → Rows
put_row x rs = row_and (row_of x) rs

abbrev pub put_field : FieldShape → Named_rows → Named_rows
put_field f rs = named_row_and (named_row_of f).0 (named_row_of f).1 rs

abbrev pub put_test : SizeTest → Size_tests → Size_tests
put_test t ts = test_and (test_of t) ts

abbrev pub put_named : FieldTest → Named_tests → Named_tests
put_named f ts = named_test_and (named_test_of f).0 (named_test_of f).1 ts

pub rows_are : (xs : List RowShape) → rows (map row_of xs) ≡ before put_row xs no_row
rows_are [] = refl
rows_are (x ∷ xs) = ap (row_and (row_of x)) (rows_are xs)

pub fields_are : (fs : List FieldShape) → named_rows (map named_row_of fs) ≡ before put_field fs no_named_row
fields_are [] = refl
fields_are (f ∷ fs) = ap (named_row_and (named_row_of f).0 (named_row_of f).1) (fields_are fs)

pub tests_are : (ts : List SizeTest) → tests (map test_of ts) ≡ before put_test ts no_test
tests_are [] = refl
tests_are (t ∷ ts) = ap (test_and (test_of t)) (tests_are ts)

pub named_are : (fs : List FieldTest) → named_tests (map named_test_of fs) ≡ before put_named fs no_named_test
named_are [] = refl
named_are (f ∷ fs) = ap (named_test_and (named_test_of f).0 (named_test_of f).1) (named_are fs)

-- ---- the parts of a list

pub part_at : {A : Type 0} (xs : List A) (i : ℕ) (x : A) → i < length xs → drop i xs ≡ get_or xs i x ∷ drop (i + 1) xs
part_at xs i x l = drop-cons xs i x l ∙ ap (λ j. get_or xs i x ∷ drop j xs) (sym (add-one i))

-- some element of a list that has one
pub item_of : {A : Type 0} (xs : List A) (i : ℕ) → i < length xs → A
item_of [] i l = absurd (omega (arith, l))
item_of (x ∷ xs) i l = x
