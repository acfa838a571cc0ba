-- When blocks are well typed: each operand has the type of its elements and the rank that its step needs, and each variable those
-- that its step gives. Sizes are not spoken of.
use Rattle.std.specs.Prelude.{◌≡◌, ℕ, suc, ◌+◌, ◌<◌, Bool, true, false, List, [], ◌∷◌, ◌++◌, map, length, Some}
use Rattle.fut_scalar.specs.declared.scalar.IntType.{IntType}
use Rattle.fut_scalar.specs.declared.scalar.IntType.TheVariants.{I64, U64}
use Rattle.fut_scalar.specs.declared.scalar.ScalarType.{ScalarType}
use Rattle.fut_scalar.specs.declared.scalar.ScalarType.TheVariants as sort
use Rattle.fut_scalar.specs.declared.place.Place.{Place}
use Rattle.fut_scalar.specs.declared.operator.BinOp.{BinOp}
use Rattle.fut_scalar.specs.declared.operator.UnOp.{UnOp}
use Rattle.fut_arithmetic.specs.Types.{type_of, IsDefined, result_type, IsDefinedOfOne, result_type_of_one}
use Rattle.fut_ast.specs.declared.node.End.{End}
use Rattle.fut_flat.specs.declared.act.Part.{Part}
use Rattle.fut_flat.specs.declared.act.Part.TheVariants as part
use Rattle.fut_meaning.specs.Sames.{All_same}
use Rattle.fut_blocks.specs.Meaning.{Names, look}
use Rattle.core_ir.specs.declared.block.Var.{Var}
use Rattle.core_ir.specs.declared.block.Atom.{Atom}
use Rattle.core_ir.specs.declared.block.Atom.TheVariants as atom
use Rattle.core_ir.specs.declared.block.Operation.{Operation}
use Rattle.core_ir.specs.declared.block.Operation.TheVariants as operation
use Rattle.core_ir.specs.Plain.{Bundle, Deed, Index, Transpose, Own, Literal, Empty, Iota, Range, Replicate, Concat, Rotate, Copy, Zip, Flatten, Unflatten, Update, Source, Of_rows, Of_numbers, Action, Operate, Do, Map, Filter, Partition, Reduce, Scan, Scatter, Hist, If, For, For_in, While, Function, Of_two, Body, Give, Let}

-- the type of the elements, and the rank
abbrev pub Sort : Type 0
Sort = ScalarType × ℕ

abbrev pub sort_of : Var → Sort
sort_of x = (x.elem, x.rank)

abbrev pub Sorts : Type 0
Sorts = Names Sort

abbrev pub scalar_sort : ScalarType → Sort
scalar_sort t = (t, 0)

abbrev pub i64_sort : Sort
i64_sort = (sort.Int I64, 0)

abbrev pub truth_sort : Sort
truth_sort = (sort.Bool, 0)

-- of arrays with rows of these sorts
abbrev pub lifted : List Sort → List Sort
lifted [] = []
lifted (s ∷ ss) = (s.0, suc s.1) ∷ lifted ss

-- the sorts of a bundle whose rows have components of these: one array of no cells, where there is none
pub data Bundled : List Sort → List Sort → Type 0 where
  bare : {t : ScalarType} → Bundled [] ((t, 2) ∷ [])
  full : {s : Sort} {ss : List Sort} → Bundled (s ∷ ss) (lifted (s ∷ ss))

-- ---- operands

abbrev pub Atom_is : Sorts → Atom → Sort → Type 0
Atom_is G (atom.Var x) s = (look G x.number ≡ Some s) × (sort_of x ≡ s)
Atom_is G (atom.Constant c) s = scalar_sort (type_of c) ≡ s

abbrev pub Atoms_are : Sorts → List Atom → List Sort → Type 0
Atoms_are G = All_same (Atom_is G)

abbrev pub Groups_are : Sorts → List (List Atom) → List (List Sort) → Type 0
Groups_are G = All_same (Atoms_are G)

-- the names with the variables, each of its sort
abbrev pub with_vars : List Var → Sorts → Sorts
with_vars [] G = G
with_vars (x ∷ xs) G = with_vars xs ((x.number, sort_of x) ∷ G)

-- a scalar of some type of integers
pub data Integer : Sort → Type 0 where
  integer : {t : IntType} → Integer (sort.Int t, 0)

pub data Integers : List Sort → Type 0 where
  no_integer : Integers []
  integer_and : {s : Sort} {ss : List Sort} → Integer s → Integers ss → Integers (s ∷ ss)

-- a size for each dimension of a component
pub record Told (ss : List Sort) (s : Sort) : Type 0 where
  pub are : Integers ss
  pub many : length ss ≡ s.1

-- the same sorts each time
pub data Each_is (row : List Sort) : List (List Sort) → Type 0 where
  no_more : Each_is row []
  and_more : {rows : List (List Sort)} → Each_is row rows → Each_is row (row ∷ rows)

-- ---- steps without a block

pub data Operation_gives (G : Sorts) : Operation → List Sort → Type 0 where
  binary_gives : {op : BinOp} {a b : Atom} (t : ScalarType) → Atom_is G a (scalar_sort t) → Atom_is G b (scalar_sort t) → IsDefined op t → Operation_gives G (operation.Binary op a b) (scalar_sort (result_type op t) ∷ [])
  unary_gives : {op : UnOp} {a : Atom} (t : ScalarType) → Atom_is G a (scalar_sort t) → IsDefinedOfOne op t → Operation_gives G (operation.Unary op a) (scalar_sort (result_type_of_one op t) ∷ [])
  convert_gives : {a : Atom} {t : ScalarType} (u : ScalarType) → Atom_is G a (scalar_sort u) → Operation_gives G (operation.Convert t a) (scalar_sort t ∷ [])
  assert_gives : {a : Atom} → Atom_is G a truth_sort → Operation_gives G (operation.Assert a) []
  length_gives : {a : Atom} (t : ScalarType) (r : ℕ) → Atom_is G a (t, suc r) → Operation_gives G (operation.Length a) (i64_sort ∷ [])
  dimension_gives : {a : Atom} {k : ℕ} (t : ScalarType) (r : ℕ) → Atom_is G a (t, r) → k < r → Operation_gives G (operation.Dimension a k) ((sort.Int U64, 0) ∷ [])
  check_gives : {a b : Atom} {s t : Sort} → Integer s → Integer t → Atom_is G a s → Atom_is G b t → Operation_gives G (operation.CheckSize a b) []

-- how many numbers the parts of an index ask for
abbrev pub asked_by : Part → ℕ
asked_by part.At = 1
asked_by (part.Slice true true) = 2
asked_by (part.Slice true false) = 1
asked_by (part.Slice false true) = 1
asked_by (part.Slice false false) = 0
asked_by part.Backwards = 0

abbrev pub asked : List Part → ℕ
asked [] = 0
asked (p ∷ ps) = asked_by p + asked ps

-- what the parts of an index take of arrays, with the width of a row behind the last part
pub data Index_gives (w : ℕ) : List Part → List Sort → List Sort → Type 0 where
  at_end : {ss : List Sort} → Index_gives w [] ss ss
  last_row : {ss bs : List Sort} → Bundled ss bs → w ≡ length ss → Index_gives w (part.At ∷ []) bs ss
  row_then : {s : Sort} {ss out : List Sort} {p : Part} {ps : List Part} → Index_gives w (p ∷ ps) (s ∷ ss) out → Index_gives w (part.At ∷ p ∷ ps) (lifted (s ∷ ss)) out
  slice_then : {a b : Bool} {s : Sort} {ss out bs : List Sort} {ps : List Part} → Index_gives w ps (s ∷ ss) out → Bundled out bs → Index_gives w (part.Slice a b ∷ ps) (lifted (s ∷ ss)) bs
  reverse_then : {s : Sort} {ss out bs : List Sort} {ps : List Part} → Index_gives w ps (s ∷ ss) out → Bundled out bs → Index_gives w (part.Backwards ∷ ps) (lifted (s ∷ ss)) bs

-- arrays in which so many indices name a row of these sorts
pub data Has_row (row : List Sort) : ℕ → List Sort → Type 0 where
  its_row : {bs : List Sort} → Bundled row bs → Has_row row 1 bs
  in_row : {n : ℕ} {s : Sort} {ss : List Sort} → Has_row row (suc n) (s ∷ ss) → Has_row row (suc (suc n)) (lifted (s ∷ ss))

-- bundles with rows of these widths, side by side
pub data Together : List ℕ → List (List Sort) → List Sort → Type 0 where
  one_bundle : {w : ℕ} {ss bs : List Sort} → Bundled ss bs → w ≡ length ss → Together (w ∷ []) (bs ∷ []) ss
  and_bundles : {w v : ℕ} {ws : List ℕ} {ss bs rest : List Sort} {bss : List (List Sort)} → Bundled ss bs → w ≡ length ss → Together (v ∷ ws) bss rest → Together (w ∷ v ∷ ws) (bs ∷ bss) (ss ++ rest)

-- of operands by groups
pub data Deed_gives : Deed → List (List Sort) → List Sort → Type 0 where
  index_gives : {w : ℕ} {ps : List Part} {bs is out : List Sort} → Index_gives w ps bs out → Integers is → length is ≡ asked ps → Deed_gives (Index w ps) (bs ∷ is ∷ []) out
  transpose_gives : (s : Sort) (ss : List Sort) → Deed_gives Transpose (lifted (lifted (s ∷ ss)) ∷ []) (lifted (lifted (s ∷ ss)))
  own_gives : (s : Sort) (ss : List Sort) → Deed_gives Own (lifted (s ∷ ss) ∷ []) (lifted (s ∷ ss))
  literal_gives : {row out : List Sort} {rows : List (List Sort)} → Each_is row rows → Bundled row out → Deed_gives Literal (row ∷ rows) out
  empty_gives : {row out : List Sort} {told : List (List Sort)} → All_same Told told row → Bundled row out → Deed_gives Empty told out
  iota_gives : {s : Sort} → Integer s → Deed_gives Iota ((s ∷ []) ∷ []) ((sort.Int I64, 1) ∷ [])
  range_gives : {e : End} {t : IntType} → Deed_gives (Range false e) (((sort.Int t, 0) ∷ (sort.Int t, 0) ∷ []) ∷ []) ((sort.Int t, 1) ∷ [])
  stepped_gives : {e : End} {t : IntType} → Deed_gives (Range true e) (((sort.Int t, 0) ∷ (sort.Int t, 0) ∷ (sort.Int t, 0) ∷ []) ∷ []) ((sort.Int t, 1) ∷ [])
  replicate_gives : {s : Sort} {row out : List Sort} → Integer s → Bundled row out → Deed_gives Replicate ((s ∷ []) ∷ row ∷ []) out
  concat_gives : (s : Sort) (ss : List Sort) → Deed_gives Concat (lifted (s ∷ ss) ∷ lifted (s ∷ ss) ∷ []) (lifted (s ∷ ss))
  rotate_gives : {n : Sort} (s : Sort) (ss : List Sort) → Integer n → Deed_gives Rotate ((n ∷ []) ∷ lifted (s ∷ ss) ∷ []) (lifted (s ∷ ss))
  copy_gives : (s : Sort) (ss : List Sort) → Deed_gives Copy (lifted (s ∷ ss) ∷ []) (lifted (s ∷ ss))
  zip_gives : {ws : List ℕ} {row out : List Sort} {bss : List (List Sort)} → Together ws bss row → Bundled row out → Deed_gives (Zip ws) bss out
  flatten_gives : (s : Sort) (ss : List Sort) → Deed_gives Flatten (lifted (lifted (s ∷ ss)) ∷ []) (lifted (s ∷ ss))
  unflatten_gives : {n m : Sort} (s : Sort) (ss : List Sort) → Integer n → Integer m → Deed_gives Unflatten ((n ∷ m ∷ []) ∷ lifted (s ∷ ss) ∷ []) (lifted (lifted (s ∷ ss)))
  update_gives : {bs is row : List Sort} → Integers is → Has_row row (length is) bs → Deed_gives Update (bs ∷ is ∷ row ∷ []) bs

-- an operand that is a bundle with rows of these sorts
pub record Rows_are (G : Sorts) (r : Bundle) (row : List Sort) : Type 0 where
  pub sorts : List Sort
  pub bundled : Bundled row sorts
  pub wide : r.width ≡ length row
  pub are : Atoms_are G r.arrays sorts

pub data Source_gives (G : Sorts) : Source → List Sort → Type 0 where
  rows_give : {rs : List Bundle} {row : List Sort} {bss : List (List Sort)} → Groups_are G (map (λ r. r.arrays) rs) bss → Together (map (λ r. r.width) rs) bss row → Source_gives G (Of_rows rs) row
  numbers_give : {u : Atom} {s : Sort} → Integer s → Atom_is G u s → Source_gives G (Of_numbers u) (i64_sort ∷ [])

-- ---- steps

mutual
  pub data Act_gives : Sorts → Action → List Sort → Type 0 where
    operate_gives : {G : Sorts} {o : Operation} {at : Place} {ss : List Sort} → Operation_gives G o ss → Act_gives G (Operate o at) ss
    deed_gives : {G : Sorts} {d : Deed} {at : Place} {uss : List (List Atom)} {sss : List (List Sort)} {ss : List Sort} → Groups_are G uss sss → Deed_gives d sss ss → Act_gives G (Do d at uss) ss
    map_gives : {G : Sorts} {at : Place} {source : Source} {told : List (List Atom)} {sizes : List (List Sort)} {xs : List Var} {b : Body} {row out : List Sort} → Source_gives G source (map sort_of xs) → Body_gives (with_vars xs G) b row → Groups_are G told sizes → All_same Told sizes row → Bundled row out → Act_gives G (Map at source told xs b) out
    filter_gives : {G : Sorts} {at : Place} {r : Bundle} {xs : List Var} {b : Body} → (rows : Rows_are G r (map sort_of xs)) → Body_gives (with_vars xs G) b (truth_sort ∷ []) → Act_gives G (Filter at r xs b) rows.sorts
    partition_gives : {G : Sorts} {at : Place} {r : Bundle} {xs : List Var} {b : Body} → (rows : Rows_are G r (map sort_of xs)) → Body_gives (with_vars xs G) b (truth_sort ∷ []) → Act_gives G (Partition at r xs b) (rows.sorts ++ rows.sorts)
    reduce_gives : {G : Sorts} {at : Place} {us : List Atom} {r : Bundle} {f : Function} {row : List Sort} → Atoms_are G us row → Rows_are G r row → Operator_is G f row → Act_gives G (Reduce at us r f) row
    scan_gives : {G : Sorts} {at : Place} {us : List Atom} {r : Bundle} {f : Function} {row : List Sort} → Atoms_are G us row → (rows : Rows_are G r row) → Operator_is G f row → Act_gives G (Scan at us r f) rows.sorts
    scatter_gives : {G : Sorts} {at : Place} {us ws : List Atom} {i : Atom} (t : IntType) (s : Sort) (ss : List Sort) → Atoms_are G us (lifted (s ∷ ss)) → Atom_is G i (sort.Int t, 1) → Atoms_are G ws (lifted (s ∷ ss)) → Act_gives G (Scatter at us i ws) (lifted (s ∷ ss))
    hist_gives : {G : Sorts} {at : Place} {us zs : List Atom} {i : Atom} {r : Bundle} {f : Function} {row : List Sort} (t : IntType) → (rows : Rows_are G r row) → Atoms_are G us rows.sorts → Atoms_are G zs row → Atom_is G i (sort.Int t, 1) → Operator_is G f row → Act_gives G (Hist at us zs i r f) rows.sorts
    if_gives : {G : Sorts} {c : Atom} {a b : Body} {ss : List Sort} → Atom_is G c truth_sort → Body_gives G a ss → Body_gives G b ss → Act_gives G (If c a b) ss
    for_gives : {G : Sorts} {xs : List Var} {us : List Atom} {i : Var} {n : Atom} {b : Body} (t : IntType) → Atoms_are G us (map sort_of xs) → Atom_is G n (sort.Int t, 0) → sort_of i ≡ (sort.Int t, 0) → Body_gives ((i.number, sort_of i) ∷ with_vars xs G) b (map sort_of xs) → Act_gives G (For xs us i n b) (map sort_of xs)
    for_in_gives : {G : Sorts} {at : Place} {xs ys : List Var} {us : List Atom} {r : Bundle} {b : Body} → Atoms_are G us (map sort_of xs) → Rows_are G r (map sort_of ys) → Body_gives (with_vars ys (with_vars xs G)) b (map sort_of xs) → Act_gives G (For_in at xs us ys r b) (map sort_of xs)
    while_gives : {G : Sorts} {at : Place} {xs : List Var} {us : List Atom} {t b : Body} → Atoms_are G us (map sort_of xs) → Body_gives (with_vars xs G) t (truth_sort ∷ []) → Body_gives (with_vars xs G) b (map sort_of xs) → Act_gives G (While at xs us t b) (map sort_of xs)

  -- of two rows of these sorts, giving one
  pub data Operator_is : Sorts → Function → List Sort → Type 0 where
    operator_is : {G : Sorts} {xs ys : List Var} {b : Body} {row : List Sort} → map sort_of xs ≡ row → map sort_of ys ≡ row → Body_gives (with_vars ys (with_vars xs G)) b row → Operator_is G (Of_two xs ys b) row

  pub data Body_gives : Sorts → Body → List Sort → Type 0 where
    give_gives : {G : Sorts} {us : List Atom} {ss : List Sort} → Atoms_are G us ss → Body_gives G (Give us) ss
    let_gives : {G : Sorts} {xs : List Var} {a : Action} {b : Body} {ss : List Sort} → Act_gives G a (map sort_of xs) → Body_gives (with_vars xs G) b ss → Body_gives G (Let xs a b) ss
