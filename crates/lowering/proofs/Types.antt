-- Shapes of one type, the sorts of their components, and data of such types.
use Rattle.std.proofs.Common.{◌≡◌, ℕ, suc, List, [], ◌∷◌, ◌++◌, length, refl, sym, ap, ◌∙◌, arith}
use Rattle.std.proofs.lemmas.List.{length-append, length-map}
use Rattle.fut_value.specs.Data.{Shape, Scalar_shape, Tuple_shape, Record_shape, Array_shape, Unmet_shape, Shapes, no_shape, shape_and, Named_shapes, no_named_shape, named_shape_and}
use Rattle.fut_value.specs.Leaves.{in_rows, leaves, all_leaves, named_leaves}
use Rattle.core_ir.specs.Typed.{Sort, lifted}
use Rattle.core_values.specs.Components.{One_type, scalars, tuples, records, arrays, All_one_type, no_part, part_and, Named_one_type, no_field, field_and}
use Rattle.core_values.proofs.Same.{among}
use Rattle.lowering.specs.Knowns.{width, bundled, sorts, sorts_of_all, sorts_of_named}

mutual
  left_same : {h k : Shape} → One_type h k → One_type h h
  left_same scalars = scalars
  left_same (tuples o) = tuples (all_left o)
  left_same (records o) = records (named_left o)
  left_same (arrays o) = arrays (left_same o)

  all_left : {hs ks : Shapes} → All_one_type hs ks → All_one_type hs hs
  all_left no_part = no_part
  all_left (part_and o p) = part_and (left_same o) (all_left p)

  named_left : {hs ks : Named_shapes} → Named_one_type hs ks → Named_one_type hs hs
  named_left no_field = no_field
  named_left (field_and o p) = field_and (left_same o) (named_left p)

pub same_left : {h k : Shape} → One_type h k → One_type h h
same_left = left_same

pub turned : {h k : Shape} → One_type h k → One_type k h
turned o = among o (left_same o)

pub one_then : {h k l : Shape} → One_type h k → One_type k l → One_type h l
one_then o p = among (turned o) p

-- ---- sorts

mutual
  unfolding sorts sorts_of_all sorts_of_named

  pub sorts_same : {h k : Shape} → One_type h k → sorts h ≡ sorts k
  sorts_same scalars = refl
  sorts_same (tuples o) = all_sorts_same o
  sorts_same (records o) = named_sorts_same o
  sorts_same (arrays o) = ap bundled (sorts_same o)

  all_sorts_same : {hs ks : Shapes} → All_one_type hs ks → sorts_of_all hs ≡ sorts_of_all ks
  all_sorts_same no_part = refl
  all_sorts_same (part_and {k = k} {hs = hs} o p) = ap (λ z. z ++ sorts_of_all hs) (sorts_same o) ∙ ap (λ z. sorts k ++ z) (all_sorts_same p)

  named_sorts_same : {hs ks : Named_shapes} → Named_one_type hs ks → sorts_of_named hs ≡ sorts_of_named ks
  named_sorts_same no_field = refl
  named_sorts_same (field_and {k = k} {hs = hs} o p) = ap (λ z. z ++ sorts_of_named hs) (sorts_same o) ∙ ap (λ z. sorts k ++ z) (named_sorts_same p)

lifted_many : (ss : List Sort) → length (lifted ss) ≡ length ss
lifted_many [] = refl
lifted_many (s ∷ ss) = ap suc (lifted_many ss)

bundled_many : (n : ℕ) (ss : List Sort) (ds : List (List ℕ)) → length ss ≡ length ds → length (bundled ss) ≡ length (in_rows n ds)
bundled_many n [] [] e = refl
bundled_many n [] (d ∷ ds) e = absurd (omega (arith, e))
bundled_many n (s ∷ ss) [] e = absurd (omega (arith, e))
bundled_many n (s ∷ ss) (d ∷ ds) e = lifted_many (s ∷ ss) ∙ e ∙ sym (length-map (d ∷ ds) (λ sizes. n ∷ sizes))

both_many : (ss rest : List Sort) (ds es : List (List ℕ)) → length ss ≡ length ds → length rest ≡ length es → length (ss ++ rest) ≡ length (ds ++ es)
both_many ss rest ds es e f = let l = length-append ss rest in let r = length-append ds es in omega (arith, l, r, e, f)

mutual
  unfolding sorts sorts_of_all sorts_of_named leaves all_leaves named_leaves

  pub sorts_many : (h : Shape) → length (sorts h) ≡ width h
  sorts_many (Scalar_shape t) = refl
  sorts_many (Tuple_shape hs) = all_sorts_many hs
  sorts_many (Record_shape hs) = named_sorts_many hs
  sorts_many (Array_shape n h) = bundled_many n (sorts h) (leaves h) (sorts_many h)
  sorts_many Unmet_shape = refl

  all_sorts_many : (hs : Shapes) → length (sorts_of_all hs) ≡ length (all_leaves hs)
  all_sorts_many no_shape = refl
  all_sorts_many (shape_and h hs) = both_many (sorts h) (sorts_of_all hs) (leaves h) (all_leaves hs) (sorts_many h) (all_sorts_many hs)

  named_sorts_many : (hs : Named_shapes) → length (sorts_of_named hs) ≡ length (named_leaves hs)
  named_sorts_many no_named_shape = refl
  named_sorts_many (named_shape_and f h hs) = both_many (sorts h) (sorts_of_named hs) (leaves h) (named_leaves hs) (sorts_many h) (named_sorts_many hs)
