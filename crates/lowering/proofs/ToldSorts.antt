-- Sorts of the sizes of told rows, and of the steps that read them.
use Rattle.std.proofs.Common.{◌≡◌, ℕ, zero, suc, ◌+◌, ◌<◌, ◌≤◌, List, [], ◌∷◌, ◌++◌, map, drop, length, refl, sym, ap, ◌∙◌, subst, arith}
use Rattle.std.proofs.lemmas.List.{append_assoc}
use Rattle.fut_scalar.specs.declared.scalar.IntType.{IntType}
use Rattle.fut_scalar.specs.declared.scalar.IntType.TheVariants.{I64, U64}
use Rattle.fut_scalar.specs.declared.scalar.ScalarType.{ScalarType}
use Rattle.fut_scalar.specs.declared.scalar.ScalarType.TheVariants as sort
use Rattle.fut_value.specs.Data.{Shape, Scalar_shape, Tuple_shape, Record_shape, Array_shape, Unmet_shape, Shapes, no_shape, shape_and, Named_shapes, no_named_shape, named_shape_and}
use Rattle.fut_value.specs.Leaves.{in_rows, leaves, all_leaves, named_leaves}
use Rattle.fut_meaning.specs.Meaning.{counts}
use Rattle.fut_meaning.specs.Sames.{All_same, all_none, all_more}
use Rattle.fut_blocks.specs.Rows.{Row, Rows, Named_rows, Extent}
use Rattle.core_ir.specs.declared.block.Var.{Var}
use Rattle.core_ir.specs.declared.block.Atom.{Atom}
use Rattle.core_ir.specs.declared.block.Operation.TheVariants as operation
use Rattle.core_ir.specs.declared.block.Atom.TheVariants as atom
use Rattle.core_ir.specs.Bundles.{of_width}
use Rattle.core_ir.specs.Numbered.{Body_numbered, Act_numbered}
use Rattle.core_ir.specs.Plain.{lets, Operate}
use Rattle.core_ir.specs.Typed.{Sort, Sorts, sort_of, lifted, Integer, integer, Integers, no_integer, integer_and, Told, Groups_are, dimension_gives, operate_gives, Act_gives}
use Rattle.lowering.specs.Knowns.{Scope, width, bundled, sorts, sorts_of_all, sorts_of_named, all_sorts}
use Rattle.lowering.specs.Lowering.{Bindings}
use Rattle.lowering.specs.Telling.{Sized, Worth, Along, no_size, in_sized, all_along, Row_told, scalar_told, tuple_told, record_told, array_told, data_told, rows_told, Rows_told, no_part_told, part_and_told, Named_told, no_field_told, field_and_told, Extent_told, nowhere_told, exactly_told, worth_told, length_told, counted_told, Tells, tell_none, tell_worth, tell_along, All_tell, all_told_none, all_told_more}
use Rattle.lowering.proofs.Sorting.{Sorted, All_sorted, atoms_are, Scoped, sorted_on, all_on, lowers_sorted, operand_sorted, variables_sorted, Run_gives, no_step_gives, step_gives}
use Rattle.lowering.proofs.Stands.{both_on, Extends, extends_same, extends_on, new_grows}
use Rattle.lowering.proofs.Types.{sorts_many}

-- ---- sizes

pub data Size_sorted (G : Sorts) (n : ℕ) : Sized → Type 0 where
  worth_sorted : {u : Atom} (t : IntType) → Sorted G n u (sort.Int t, 0) → Size_sorted G n (Worth u)
  along_sorted : {u : Atom} {j : ℕ} (t : ScalarType) (r : ℕ) → Sorted G n u (t, r) → j < r → Size_sorted G n (Along u j)

pub data All_sizes (G : Sorts) (n : ℕ) : List Sized → Type 0 where
  no_sizes : All_sizes G n []
  size_and : {s : Sized} {ss : List Sized} → Size_sorted G n s → All_sizes G n ss → All_sizes G n (s ∷ ss)

-- a size for each dimension
pub record Leaf_sorted (G : Sorts) (n : ℕ) (ss : List Sized) (s : Sort) : Type 0 where
  pub are : All_sizes G n ss
  pub many : length ss ≡ s.1

abbrev pub Leaves_sorted : Sorts → ℕ → List (List Sized) → List Sort → Type 0
Leaves_sorted G n = All_same (Leaf_sorted G n)

module _ {G H : Sorts} {n m : ℕ} (x : Extends n G H) (le : n ≤ m) where
  size_on : {s : Sized} → Size_sorted G n s → Size_sorted H m s
  size_on (worth_sorted {u = u} t a) = worth_sorted t (sorted_on x le u a)
  size_on (along_sorted {u = u} t r a lt) = along_sorted t r (sorted_on x le u a) lt

  sizes_on : {ss : List Sized} → All_sizes G n ss → All_sizes H m ss
  sizes_on no_sizes = no_sizes
  sizes_on (size_and s a) = size_and (size_on s) (sizes_on a)

  leaves_on : {sss : List (List Sized)} {ts : List Sort} → Leaves_sorted G n sss ts → Leaves_sorted H m sss ts
  leaves_on all_none = all_none
  leaves_on (all_more l a) = all_more (record { are = sizes_on l.are; many = l.many }) (leaves_on a)

-- ---- rows

module _ {G : Sorts} {n : ℕ} where
  nothing_sorted : Size_sorted G n no_size
  nothing_sorted = worth_sorted I64 (record { is = refl; below = tt })

  in_sized_sorted : {s : Sized} {sss : List (List Sized)} {ts : List Sort} → Size_sorted G n s → Leaves_sorted G n sss ts → Leaves_sorted G n (in_sized s sss) (bundled ts)
  in_sized_sorted c all_none = all_more (record { are = size_and c (size_and nothing_sorted no_sizes); many = refl }) all_none
  in_sized_sorted {s} c (all_more b a) = longer (all_more b a)
    where
      longer : {sss : List (List Sized)} {ts : List Sort} → Leaves_sorted G n sss ts → Leaves_sorted G n (map (λ ss. s ∷ ss) sss) (lifted ts)
      longer all_none = all_none
      longer (all_more b a) = all_more (record { are = size_and c b.are; many = ap suc b.many }) (longer a)

  sizes_rest : {s : Sized} {ss : List Sized} → All_sizes G n (s ∷ ss) → All_sizes G n ss
  sizes_rest (size_and x a) = a

  rest_of : (ss : List Sized) {t : ScalarType} {r : ℕ} → Leaf_sorted G n ss (t, suc r) → Leaf_sorted G n (drop 1 ss) (t, r)
  rest_of [] l = absurd (let e = l.many in omega (arith, e))
  rest_of (s ∷ ss) l = record { are = sizes_rest l.are; many = (let e = l.many in omega (arith, e)) }

  shorter : {sss : List (List Sized)} (ts : List Sort) → Leaves_sorted G n sss (lifted ts) → Leaves_sorted G n (map (drop 1) sss) ts
  shorter [] all_none = all_none
  shorter (t ∷ ts) (all_more {x = ss} b a) = all_more (rest_of ss b) (shorter ts a)

  behind : (w : ℕ) {sss : List (List Sized)} (ts : List Sort) → length ts ≡ w → Leaves_sorted G n sss (bundled ts) → Leaves_sorted G n (map (drop 1) (of_width w sss)) ts
  behind zero [] e a = all_none
  behind zero (t ∷ ts) e a = absurd (omega (arith, e))
  behind (suc w) [] e a = absurd (omega (arith, e))
  behind (suc w) (t ∷ ts) e a = shorter (t ∷ ts) a

  first_sorted : {s : Sized} {ss : List Sized} {sss : List (List Sized)} {ts : List Sort} → Leaves_sorted G n ((s ∷ ss) ∷ sss) ts → Size_sorted G n s
  first_sorted (all_more l a) = first l.are
    where
      first : {s : Sized} {ss : List Sized} → All_sizes G n (s ∷ ss) → Size_sorted G n s
      first (size_and x a) = x

  along_from : {u : Atom} {t : ScalarType} {r : ℕ} → Sorted G n u (t, r) → (k i : ℕ) → i + k ≤ r → All_sizes G n (map (Along u) (counts k i))
  along_from a zero i le = no_sizes
  along_from {t = t} {r} a (suc k) i le = size_and (along_sorted t r a (omega (arith, le))) (along_from a k (suc i) (omega (arith, le)))

counts_many : (k i : ℕ) (u : Atom) → length (map (Along u) (counts k i)) ≡ k
counts_many zero i u = refl
counts_many (suc k) i u = ap suc (counts_many k (suc i) u)

-- the ranks of leaves are those of their sorts
data Ranked : List (List ℕ) → List Sort → Type 0 where
  no_rank : Ranked [] []
  rank_and : {ds : List ℕ} {s : Sort} {dss : List (List ℕ)} {ss : List Sort} → length ds ≡ s.1 → Ranked dss ss → Ranked (ds ∷ dss) (s ∷ ss)

ranked_more : {dss ess : List (List ℕ)} {ss ts : List Sort} → Ranked dss ss → Ranked ess ts → Ranked (dss ++ ess) (ss ++ ts)
ranked_more no_rank b = b
ranked_more (rank_and e a) b = rank_and e (ranked_more a b)

ranked_rows : (n : ℕ) {dss : List (List ℕ)} {ss : List Sort} → Ranked dss ss → Ranked (in_rows n dss) (bundled ss)
ranked_rows n no_rank = rank_and refl no_rank
ranked_rows n (rank_and e a) = longer (rank_and e a)
  where
    longer : {dss : List (List ℕ)} {ss : List Sort} → Ranked dss ss → Ranked (map (λ sizes. n ∷ sizes) dss) (lifted ss)
    longer no_rank = no_rank
    longer (rank_and e a) = rank_and (ap suc e) (longer a)

mutual
  unfolding leaves all_leaves named_leaves sorts sorts_of_all sorts_of_named

  ranked : (h : Shape) → Ranked (leaves h) (sorts h)
  ranked (Scalar_shape t) = rank_and refl no_rank
  ranked (Tuple_shape hs) = all_ranked hs
  ranked (Record_shape hs) = named_ranked hs
  ranked (Array_shape n h) = ranked_rows n (ranked h)
  ranked Unmet_shape = no_rank

  all_ranked : (hs : Shapes) → Ranked (all_leaves hs) (sorts_of_all hs)
  all_ranked no_shape = no_rank
  all_ranked (shape_and h hs) = ranked_more (ranked h) (all_ranked hs)

  named_ranked : (hs : Named_shapes) → Ranked (named_leaves hs) (sorts_of_named hs)
  named_ranked no_named_shape = no_rank
  named_ranked (named_shape_and f h hs) = ranked_more (ranked h) (named_ranked hs)

one_sorted : {G : Sorts} {n : ℕ} {u : Atom} {t : Sort} → All_sorted G n (u ∷ []) (t ∷ []) → Sorted G n u t
one_sorted (all_more a all_none) = a

along_all : {G : Sorts} {n : ℕ} {dss : List (List ℕ)} {us : List Atom} {ss : List Sort} → Ranked dss ss → All_sorted G n us ss → Leaves_sorted G n (all_along dss us) ss
along_all no_rank all_none = all_none
along_all (rank_and {ds = ds} e r) (all_more {x = u} a k) =
    all_more (record { are = along_from a (length ds) 0 (omega (arith, e)); many = counts_many (length ds) 0 u ∙ e }) (along_all r k)

module _ {G : Sorts} {n : ℕ} {sc : Scope} (s : Scoped G n sc) where
  mutual
    unfolding sorts sorts_of_all sorts_of_named

    pub row_sorted : {r : Row} {h : Shape} {sss : List (List Sized)} → Row_told sc r h sss → Leaves_sorted G n sss (sorts h)
    row_sorted scalar_told = all_more (record { are = no_sizes; many = refl }) all_none
    row_sorted (tuple_told t) = rows_sorted t
    row_sorted (record_told t) = named_sorted t
    row_sorted (array_told x t) = in_sized_sorted (extent_sorted x) (row_sorted t)
    row_sorted (data_told {h = h} l) = along_all (ranked h) (lowers_sorted s l)
    row_sorted (rows_told {h = h} t) = behind (width h) (sorts h) (sorts_many h) (row_sorted t)

    rows_sorted : {rs : Rows} {hs : Shapes} {sss : List (List Sized)} → Rows_told sc rs hs sss → Leaves_sorted G n sss (sorts_of_all hs)
    rows_sorted no_part_told = all_none
    rows_sorted (part_and_told t ts) = both_on (row_sorted t) (rows_sorted ts)

    named_sorted : {rs : Named_rows} {hs : Named_shapes} {sss : List (List Sized)} → Named_told sc rs hs sss → Leaves_sorted G n sss (sorts_of_named hs)
    named_sorted no_field_told = all_none
    named_sorted (field_and_told t ts) = both_on (row_sorted t) (named_sorted ts)

    extent_sorted : {e : Extent} {z : Sized} → Extent_told sc e z → Size_sorted G n z
    extent_sorted nowhere_told = nothing_sorted
    extent_sorted (exactly_told lt) = worth_sorted U64 (record { is = refl; below = tt })
    extent_sorted (worth_told {t = t} o) = worth_sorted t (one_sorted (operand_sorted s o))
    extent_sorted (length_told t) = first_sorted (row_sorted t)
    extent_sorted (counted_told x i) = extent_sorted x

-- ---- steps

pub record Sizes_given (G : Sorts) (n : ℕ) (bs : Bindings) (us : List Atom) (count : ℕ) (m : ℕ) : Type 0 where
  pub behind : Sorts
  pub gives : Run_gives G bs behind
  pub extends : Extends n G behind
  pub grows : n ≤ m
  pub types : List Sort
  pub sorted : All_sorted behind m us types
  pub integers : Integers types
  pub many : length types ≡ count

var_is : (x : Var) → map sort_of (x ∷ []) ≡ all_sorts (Scalar_shape (sort.Int U64) ∷ []) → sort_of x ≡ (sort.Int U64, 0)
unfolding sorts
var_is x e = cc

tells_give : {ss : List Sized} {n m : ℕ} {bs : Bindings} {us : List Atom} {G : Sorts} → Tells ss n bs us m → All_sizes G n ss → Sizes_given G n bs us (length ss) m
tells_give {n = n} {G = G} tell_none no_sizes = record { behind = G; gives = no_step_gives; extends = extends_same n G; grows = omega arith; types = []; sorted = all_none; integers = no_integer; many = refl }
tells_give (tell_worth {u = u} t) (size_and (worth_sorted i a) k) =
    let r = tells_give t k in
    record { behind = r.behind; gives = r.gives; extends = r.extends; grows = r.grows; types = (sort.Int i, 0) ∷ r.types; sorted = all_more (sorted_on r.extends r.grows u a) r.sorted; integers = integer_and integer r.integers; many = ap suc r.many }
tells_give {n = n} {G = G} (tell_along {u = u} {j = j} {at = at} {x = x} {k = k} w t) (size_and (along_sorted q z a lt) b) =
    let v = variables_sorted n (x ∷ []) k G w.rise in
    let r = tells_give t (sizes_on v.extends (new_grows w) b) in
    let le = new_grows w in
    let e : sort_of x ≡ (sort.Int U64, 0) = var_is x w.sorted in
    record {
      behind = r.behind;
      gives = step_gives (subst (λ y. Act_gives G (Operate (operation.Dimension u j) at) (y ∷ [])) (sym e) (operate_gives (dimension_gives q z a.is lt))) r.gives;
      extends = extends_on le v.extends r.extends;
      grows = omega (arith, le, r.grows);
      types = sort_of x ∷ r.types;
      sorted = all_more (sorted_on r.extends r.grows (atom.Var x) (one_sorted v.sorted)) r.sorted;
      integers = integer_and (subst Integer (sym e) integer) r.integers;
      many = ap suc r.many;
    }

pub record All_given (G : Sorts) (n : ℕ) (bs : Bindings) (uss : List (List Atom)) (row : List Sort) (m : ℕ) : Type 0 where
  pub behind : Sorts
  pub gives : Run_gives G bs behind
  pub extends : Extends n G behind
  pub grows : n ≤ m
  pub types : List (List Sort)
  pub groups : All_same (All_sorted behind m) uss types
  pub told : All_same Told types row

pub run_more : {G H I : Sorts} {bs cs : Bindings} → Run_gives G bs H → Run_gives H cs I → Run_gives G (bs ++ cs) I
run_more no_step_gives b = b
run_more (step_gives a r) b = step_gives a (run_more r b)

groups_on : {G H : Sorts} {n m : ℕ} → Extends n G H → n ≤ m → {us : List Atom} {ts : List Sort} → All_sorted G n us ts → All_sorted H m us ts
groups_on x le a = all_on x le a

pub all_tell_give : {sss : List (List Sized)} {n m : ℕ} {bs : Bindings} {uss : List (List Atom)} {row : List Sort} {G : Sorts} → All_tell sss n bs uss m → Leaves_sorted G n sss row → All_given G n bs uss row m
all_tell_give {n = n} {G = G} all_told_none all_none = record { behind = G; gives = no_step_gives; extends = extends_same n G; grows = omega arith; types = []; groups = all_none; told = all_none }
all_tell_give (all_told_more t ts) (all_more l a) =
    let r = tells_give t l.are in
    let s = all_tell_give ts (leaves_on r.extends r.grows a) in
    record {
      behind = s.behind;
      gives = run_more r.gives s.gives;
      extends = extends_on r.grows r.extends s.extends;
      grows = omega (arith, r.grows, s.grows);
      types = r.types ∷ s.types;
      groups = all_more (all_on s.extends s.grows r.sorted) s.groups;
      told = all_more (record { are = r.integers; many = r.many ∙ l.many }) s.told;
    }

pub groups_given : {G : Sorts} {n : ℕ} {uss : List (List Atom)} {tss : List (List Sort)} → All_same (All_sorted G n) uss tss → Groups_are G uss tss
groups_given all_none = all_none
groups_given (all_more a k) = all_more (atoms_are a) (groups_given k)

-- ---- names that rise

tells_rise : (cs : Bindings) (us : List Atom) (o : ℕ) {ss : List Sized} {n m : ℕ} {bs : Bindings} {ws : List Atom} → Tells ss n bs ws m → Body_numbered m (lets cs us) o → Body_numbered n (lets (bs ++ cs) us) o
unfolding lets Body_numbered Act_numbered
tells_rise cs us o tell_none b = b
tells_rise cs us o (tell_worth t) b = tells_rise cs us o t b
tells_rise cs us o {n = n} (tell_along {k = k} w t) b = (n, omega arith, k, w.rise, tells_rise cs us o t b)

pub all_tell_rise : (cs : Bindings) (us : List Atom) (o : ℕ) {sss : List (List Sized)} {n m : ℕ} {bs : Bindings} {wss : List (List Atom)} → All_tell sss n bs wss m → Body_numbered m (lets cs us) o → Body_numbered n (lets (bs ++ cs) us) o
all_tell_rise cs us o all_told_none b = b
all_tell_rise cs us o {n = n} (all_told_more {bs = bs} {cs = ds} t ts) b = subst (λ z. Body_numbered n (lets z us) o) (sym (append_assoc bs ds cs)) (tells_rise (ds ++ cs) us o t (all_tell_rise cs us o ts b))
