-- A well-formed Core never goes wrong: each outcome is a report, or results of their sorts.
use Rattle.std.proofs.Common.{◌≡◌, inl, inr, ◌&&◌, int_le, ℕ, zero, suc, ◌<◌, nat_eq, length, slice_get, arith, List, [], ◌∷◌, ◌++◌, map, Bool, true, false, cond, Option, Some, None, refl, sym, ap, ◌∙◌, subst, eq-eqb}
use Rattle.fut_scalar.specs.declared.operator.BinOp.{BinOp}
use Rattle.fut_scalar.specs.declared.operator.BinOp.TheVariants as binary
use Rattle.fut_scalar.specs.declared.operator.ScalarFault.{ScalarFault}
use Rattle.fut_scalar.specs.declared.operator.UnOp.{UnOp}
use Rattle.fut_scalar.specs.declared.operator.UnOp.TheVariants as unary
use Rattle.fut_scalar.specs.declared.place.Place.{Place}
use Rattle.fut_scalar.specs.declared.report.FailKind.TheVariants as kind
use Rattle.fut_scalar.specs.declared.scalar.IntType.{IntType}
use Rattle.fut_scalar.specs.declared.scalar.IntType.TheVariants.{I64, U64}
use Rattle.fut_scalar.specs.declared.scalar.Scalar.{Scalar}
use Rattle.fut_scalar.specs.declared.scalar.Scalar.TheVariants as scalar
use Rattle.fut_scalar.specs.declared.scalar.ScalarType.{ScalarType}
use Rattle.fut_scalar.specs.declared.scalar.ScalarType.TheVariants as sort
use Rattle.fut_arithmetic.specs.Conversions.{converted}
use Rattle.fut_arithmetic.specs.Operations.{integer_result, result_of, result_of_one, integer_result_of_one}
use Rattle.fut_arithmetic.specs.Types.{type_of, IsOf, IsDefined, result_type, IsDefinedOfOne, result_type_of_one}
use Rattle.fut_arithmetic.proofs.Typed.{typed}
use Rattle.std.specs.Prelude.{Result, Ok, Err, IfOk}
use Rattle.fut_meaning.specs.Accessors.{or_wrong, turns_of_scalar}
use Rattle.fut_meaning.specs.Arrays.{truth_of_scalar}
use Rattle.fut_meaning.specs.Claims.{HasOut, Safe}
use Rattle.fut_meaning.specs.Jobs.{In_order, Reordered, order_kept, order_on, order_swapped, order_then, all_of, Is_one_of, Some_of, some_of, written_at, or_old, places}
use Rattle.fut_meaning.specs.Meaning.{counts}
use Rattle.fut_meaning.specs.Operations.{report, reported}
use Rattle.fut_meaning.specs.Operators.{by_kind, is_same_type, type_number, binary_result, unary_result}
use Rattle.fut_meaning.specs.Outcomes.{Out, Val, Rel, the, Then, each_of, bracket}
use Rattle.fut_meaning.specs.Sames.{All_same, all_none, all_more}
use Rattle.fut_meaning.proofs.Safe.{safe_exact, safe_then, safe_both, safe_choose, Every, safe_each_of, safe_turns, Any_truth, safe_while, safe_tree}
use Rattle.fut_meaning.proofs.Sims.{append_same}
use Rattle.fut_blocks.specs.Meaning.{look, bound, fitted}
use Rattle.core_ir.specs.declared.block.Var.{Var}
use Rattle.core_ir.specs.declared.block.Atom.{Atom}
use Rattle.core_ir.specs.declared.block.Atom.TheVariants as atom
use Rattle.core_ir.specs.declared.block.Operation.{Operation}
use Rattle.core_ir.specs.Lists.{sifted, prefixes_on}
use Rattle.core_ir.specs.Bundles.{Component, One, Row, sizes, rows_in, rows_of, row_sizes, stacked, glued, array_words}
use Rattle.core_ir.specs.Arrays.{scalar_in, exact_in, i64, all_told, numbers_below, array_rows, array_sizes, written, done, fresh_words}
use Rattle.core_ir.specs.Plain.{Bundle, Source, Action, Operate, Do, Map, Filter, Partition, Reduce, Scan, Scatter, Hist, If, For, For_in, While, Function, Of_two, Body, Give, Let, body_of}
use Rattle.core_ir.specs.Meaning.{Env, Results, number, value_of, values_of, groups_of, scalar_at, truth_at, one, operated, named, under, holds, source_rows, collected, kept, parted, tested, test_turn, Reduction, reduction, reduced, scanned, scattered, combined, act_means, function_means, body_means}
use Rattle.core_ir.specs.Typed.{Sort, sort_of, Sorts, scalar_sort, i64_sort, truth_sort, lifted, Bundled, bare, full, Atom_is, Atoms_are, Groups_are, with_vars, Told, Operation_gives, binary_gives, unary_gives, convert_gives, assert_gives, length_gives, dimension_gives, check_gives, Rows_are, Source_gives, rows_give, numbers_give, Act_gives, operate_gives, deed_gives, map_gives, filter_gives, partition_gives, reduce_gives, scan_gives, scatter_gives, hist_gives, if_gives, for_gives, for_in_gives, while_gives, Operator_is, operator_is, Body_gives, give_gives, let_gives}
use Rattle.core_ir.specs.Programs.{Core_means, All_of_type, no_cell, cell_and, Is_of, one_is, many_is, AreOf}
use Rattle.core_ir.specs.Claims.{NeverWrong}
use Rattle.core_ir.proofs.Having.{every_more, has_then, has_as, has_checked}
use Rattle.core_ir.proofs.Sorted.{Rows, rows_full, rows_bundled, Sizes_fit, row_sizes_full, row_sizes_bundled, stacked_has, glued_has}
use Rattle.core_ir.proofs.Deeds.{Any, exact_has, Groups_of, all_told_have, sized_by_has, together_have, Write_is, Written_is, written_has, written_full, done_has}

-- ---- names

-- each name has a component of its sort
pub data Holds : Sorts → Env → Type 0 where
  no_name : Holds [] []
  name_and : {x : ℕ} {s : Sort} {c : Component} {G : Sorts} {env : Env} → Is_of c s → Holds G env → Holds ((x, s) ∷ G) ((x, c) ∷ env)

some_is : {A : Type 0} {a b : A} → Some a ≡ Some b → a ≡ b
some_is e = cc

no_some : {A X : Type 0} {a : A} → None ≡ Some a → X
no_some {a = a} e = absurd (let z : None ≡ Some a = e in cc)

looked_up : (b : Bool) (s t : Sort) (c : Component) (found : Option Sort) (o : Option Component) → Is_of c t → cond b (Some t) found ≡ Some s → (found ≡ Some s → HasOut (λ c. Is_of c s) (or_wrong o)) → HasOut (λ c. Is_of c s) (or_wrong (cond b (Some c) o))
looked_up true s t c found o h e k = subst (λ z. Is_of c z) (some_is e) h
looked_up false s t c found o h e k = k e

name_has : (k : ℕ) (s : Sort) {G : Sorts} {env : Env} → Holds G env → look G k ≡ Some s → HasOut (λ c. Is_of c s) (or_wrong (look env k))
name_has k s no_name e = no_some e
name_has k s (name_and {x} {s = t} {c} {G} {env} h r) e = looked_up (nat_eq x k) s t c (look G k) (look env k) h e (λ q. name_has k s r q)

pub fitted_type : (c : Scalar) → type_of (fitted c) ≡ type_of c
fitted_type (scalar.Int t n) = refl
fitted_type (scalar.Bool b) = refl

module _ {G : Sorts} {env : Env} (h : Holds G env) where
  value_has : (u : Atom) (s : Sort) → Atom_is G u s → HasOut (λ c. Is_of c s) (value_of env u)
  value_has (atom.Var x) s a = name_has x.number s h a.0
  value_has (atom.Constant c) s a = subst (λ z. Is_of (One (fitted c)) z) a (one_is (fitted_type c))

  values_have : {us : List Atom} {ss : List Sort} → Atoms_are G us ss → HasOut (λ cs. AreOf cs ss) (values_of env us)
  values_have all_none = all_none
  values_have (all_more {x = u} {x' = s} {xs = us} {xs' = ss} a k) =
      has_then (λ c. Is_of c s) (λ cs. AreOf cs (s ∷ ss)) (value_of env u) _ (value_has u s a) (λ c p. has_then (λ cs. AreOf cs ss) (λ cs. AreOf cs (s ∷ ss)) (values_of env us) _ (values_have k) (λ cs q. all_more p q))

  groups_have : {uss : List (List Atom)} {sss : List (List Sort)} → Groups_are G uss sss → HasOut (λ css. Groups_of css sss) (groups_of env uss)
  groups_have all_none = all_none
  groups_have (all_more {x = us} {x' = ss} {xs = uss} {xs' = sss} a k) =
      has_then (λ cs. AreOf cs ss) (λ css. Groups_of css (ss ∷ sss)) (values_of env us) _ (values_have a) (λ cs p. has_then (λ css. Groups_of css sss) (λ css. Groups_of css (ss ∷ sss)) (groups_of env uss) _ (groups_have k) (λ css q. all_more p q))

bound_has : (xs : List Var) (cs : Row) {G : Sorts} {env : Env} → AreOf cs (map sort_of xs) → Holds G env → HasOut (Holds (with_vars xs G)) (or_wrong (bound (map number xs) cs env))
bound_has [] _ all_none h = h
bound_has (x ∷ xs) _ (all_more {xs = cs} p k) h = bound_has xs cs k (name_and p h)

under_safe : {B : Type 0} (Q : B → Type 0) (xs : List Var) (cs : Row) {G : Sorts} {env : Env} (k : Env → Rel B) → AreOf cs (map sort_of xs) → Holds G env → ((e : Env) → Holds (with_vars xs G) e → Safe Q (k e)) → Safe Q (under xs cs env k)
under_safe Q xs cs {G} {env} k a h l = safe_then (Holds (with_vars xs G)) Q (named xs cs env) k (safe_exact (Holds (with_vars xs G)) 0 (or_wrong (bound (map number xs) cs env)) (bound_has xs cs a h)) l

-- behind an outcome
safe_the : {A B : Type 0} (P : A → Type 0) (Q : B → Type 0) (o : Out A) (k : A → Rel B) → HasOut P o → ((a : A) → P a → Safe Q (k a)) → Safe Q (Then (the o) k)
safe_the P Q o k h l = safe_then P Q (the o) k (safe_exact P 0 o h) l

-- ---- operations

abbrev Of_type : ScalarType → Scalar → Type 0
Of_type t s = type_of s ≡ t

scalar_of_has : (t : ScalarType) (c : Component) → Is_of c (scalar_sort t) → HasOut (Of_type t) (scalar_in c)
scalar_of_has t _ (one_is e) = e

one_has : (t : ScalarType) (o : Out Scalar) → HasOut (Of_type t) o → HasOut (λ cs. AreOf cs (scalar_sort t ∷ [])) (one o)
one_has t o h = has_then (Of_type t) (λ cs. AreOf cs (scalar_sort t ∷ [])) o _ h (λ s e. all_more (one_is e) all_none)

result_has : (at : Place) (t : ScalarType) (r : Result Scalar ScalarFault) → IfOk r (IsOf t) → HasOut (Of_type t) (reported at (Some (by_kind r)))
result_has at t (Ok s) h = h.0
result_has at t (Err k) h = tt

same_type : (t : IntType) → is_same_type t t ≡ true
same_type t = eq-eqb (type_number t) (type_number t) refl

int_is : {t u : IntType} → sort.Int t ≡ sort.Int u → t ≡ u
int_is e = cc

truths_have : (op : BinOp) (at : Place) (a b : Bool) → IsDefined op sort.Bool → HasOut (Of_type (result_type op sort.Bool)) (reported at (binary_result op (scalar.Bool a) (scalar.Bool b)))
unfolding binary_result result_of
truths_have binary.Eq at a b d = refl
truths_have binary.Ne at a b d = refl
truths_have op at a b d = absurd d

integers_give : (op : BinOp) (at : Place) (t : IntType) (m n : ℕ) → HasOut (Of_type (result_type op (sort.Int t))) (reported at (binary_result op (scalar.Int t m) (scalar.Int t n)))
unfolding binary_result result_of
integers_give op at t m n = subst (λ b. HasOut (Of_type (result_type op (sort.Int t))) (reported at (cond b (Some (by_kind (integer_result op t m n))) None))) (sym (same_type t)) (result_has at (result_type op (sort.Int t)) (integer_result op t m n) (typed op t m n))

pub binary_has : (op : BinOp) (at : Place) (t : ScalarType) (x y : Scalar) → IsDefined op t → Of_type t x → Of_type t y → HasOut (Of_type (result_type op t)) (reported at (binary_result op x y))
binary_has op at (sort.Int t) (scalar.Int u m) (scalar.Int v n) d p q =
    subst (λ z. HasOut (Of_type (result_type op (sort.Int t))) (reported at (binary_result op (scalar.Int z m) (scalar.Int v n)))) (sym (int_is p))
    (subst (λ z. HasOut (Of_type (result_type op (sort.Int t))) (reported at (binary_result op (scalar.Int t m) (scalar.Int z n)))) (sym (int_is q)) (integers_give op at t m n))
binary_has op at (sort.Int t) (scalar.Int u m) (scalar.Bool b) d p q = absurd (let z : sort.Bool ≡ sort.Int t = q in cc)
binary_has op at (sort.Int t) (scalar.Bool b) y d p q = absurd (let z : sort.Bool ≡ sort.Int t = p in cc)
binary_has op at sort.Bool (scalar.Bool a) (scalar.Bool b) d p q = truths_have op at a b d
binary_has op at sort.Bool (scalar.Bool a) (scalar.Int u n) d p q = absurd (let z : sort.Int u ≡ sort.Bool = q in cc)
binary_has op at sort.Bool (scalar.Int u m) y d p q = absurd (let z : sort.Int u ≡ sort.Bool = p in cc)

integer_gives : (op : UnOp) (t : IntType) (m : ℕ) → type_of (integer_result_of_one op t m) ≡ result_type_of_one op (sort.Int t)
integer_gives unary.Neg t m = refl
integer_gives unary.Not t m = refl
integer_gives unary.Abs t m = refl
integer_gives unary.Popc t m = refl

truth_gives : (op : UnOp) (b : Bool) → IsDefinedOfOne op sort.Bool → HasOut (Of_type (result_type_of_one op sort.Bool)) (or_wrong (unary_result op (scalar.Bool b)))
unfolding unary_result result_of_one
truth_gives unary.Not b d = refl
truth_gives op b d = absurd d

pub unary_has : (op : UnOp) (t : ScalarType) (x : Scalar) → IsDefinedOfOne op t → Of_type t x → HasOut (Of_type (result_type_of_one op t)) (or_wrong (unary_result op x))
unfolding unary_result result_of_one
unary_has op (sort.Int t) (scalar.Int u m) d p = integer_gives op u m ∙ ap (λ z. result_type_of_one op z) p
unary_has op (sort.Int t) (scalar.Bool b) d p = absurd (let z : sort.Bool ≡ sort.Int t = p in cc)
unary_has op sort.Bool (scalar.Bool b) d p = truth_gives op b d
unary_has op sort.Bool (scalar.Int u m) d p = absurd (let z : sort.Int u ≡ sort.Bool = p in cc)

pub converted_type : (t : ScalarType) (s : Scalar) → type_of (converted t s) ≡ t
converted_type (sort.Int t) (scalar.Int u m) = refl
converted_type (sort.Int t) (scalar.Bool b) = refl
converted_type sort.Bool (scalar.Int u m) = refl
converted_type sort.Bool (scalar.Bool b) = refl

truth_has : (s : Scalar) → Of_type sort.Bool s → HasOut Any (truth_of_scalar s)
truth_has (scalar.Bool b) e = tt
truth_has (scalar.Int t n) e = absurd (let z : sort.Int t ≡ sort.Bool = e in cc)

rows_in_has : (t : ScalarType) (r : ℕ) (c : Component) → Is_of c (t, suc r) → HasOut Any (rows_in c)
rows_in_has t r _ (many_is e l a) = tt

size_there : (k : ℕ) (ds : List ℕ) → k < length ds → HasOut Any (or_wrong (slice_get ds k))
size_there k [] lt = absurd (omega (arith, lt))
size_there zero (d ∷ ds) lt = tt
size_there (suc k) (d ∷ ds) lt = size_there k ds (omega (arith, lt))

size_has : (k : ℕ) (t : ScalarType) (r : ℕ) (c : Component) → Is_of c (t, r) → k < r → HasOut Any (or_wrong (slice_get (sizes c) k))
size_has k t _ _ (one_is e) lt = absurd (omega (arith, lt))
size_has k t _ _ (many_is {n = n} {ds = ds} e l a) lt = size_there k (n ∷ ds) (omega (arith, lt, e))

module _ {G : Sorts} {env : Env} (h : Holds G env) where
  scalar_has : (u : Atom) (t : ScalarType) → Atom_is G u (scalar_sort t) → HasOut (Of_type t) (scalar_at env u)
  scalar_has u t a = has_then (λ c. Is_of c (scalar_sort t)) (Of_type t) (value_of env u) _ (value_has h u (scalar_sort t) a) (λ c p. scalar_of_has t c p)

  truth_at_has : (u : Atom) → Atom_is G u truth_sort → HasOut Any (truth_at env u)
  truth_at_has u a = has_then (Of_type sort.Bool) Any (scalar_at env u) _ (scalar_has u sort.Bool a) truth_has

  operated_has : (o : Operation) (at : Place) {ss : List Sort} → Operation_gives G o ss → HasOut (λ cs. AreOf cs ss) (operated env o at)
  unfolding operated
  operated_has _ at (binary_gives {op} {a} {b} t p q d) =
      has_then (Of_type t) (λ cs. AreOf cs (scalar_sort (result_type op t) ∷ [])) (scalar_at env a) _ (scalar_has a t p) (λ x e.
      has_then (Of_type t) (λ cs. AreOf cs (scalar_sort (result_type op t) ∷ [])) (scalar_at env b) _ (scalar_has b t q) (λ y f. one_has (result_type op t) _ (binary_has op at t x y d e f)))
  operated_has _ at (unary_gives {op} {a} t p d) = has_then (Of_type t) (λ cs. AreOf cs (scalar_sort (result_type_of_one op t) ∷ [])) (scalar_at env a) _ (scalar_has a t p) (λ x e. one_has (result_type_of_one op t) _ (unary_has op t x d e))
  operated_has _ at (convert_gives {a} {t} u p) = has_then (Of_type u) (λ cs. AreOf cs (scalar_sort t ∷ [])) (scalar_at env a) _ (scalar_has a u p) (λ x e. one_has t (Val (converted t x)) (converted_type t x))
  operated_has _ at (assert_gives {a} p) = has_then Any (λ cs. AreOf cs []) (truth_at env a) _ (truth_at_has a p) (λ b u. has_checked (λ cs. AreOf cs []) b kind.Assert at (Val []) all_none)
  operated_has _ at (length_gives {a} t r p) =
      has_then (λ c. Is_of c (t, suc r)) (λ cs. AreOf cs (i64_sort ∷ [])) (value_of env a) _ (value_has h a (t, suc r) p) (λ c q. has_then Any (λ cs. AreOf cs (i64_sort ∷ [])) (rows_in c) _ (rows_in_has t r c q) (λ n u. all_more (one_is refl) all_none))
  operated_has _ at (dimension_gives {a} {k} t r p lt) =
      has_then (λ c. Is_of c (t, r)) (λ cs. AreOf cs ((sort.Int U64, 0) ∷ [])) (value_of env a) _ (value_has h a (t, r) p) (λ c q. has_then Any (λ cs. AreOf cs ((sort.Int U64, 0) ∷ [])) (or_wrong (slice_get (sizes c) k)) _ (size_has k t r c q lt) (λ n u. all_more (one_is refl) all_none))
  operated_has _ at (check_gives {a} {b} {s} {t} i j p q) =
      has_then (λ c. Is_of c s) (λ cs. AreOf cs []) (value_of env a) _ (value_has h a s p) (λ c e. has_then (λ c. Is_of c t) (λ cs. AreOf cs []) (value_of env b) _ (value_has h b t q) (λ d f.
      has_then Any (λ cs. AreOf cs []) (exact_in c) _ (exact_has c s i e) (λ z u. has_then Any (λ cs. AreOf cs []) (exact_in d) _ (exact_has d t j f) (λ w v. has_checked (λ cs. AreOf cs []) (int_le z w && int_le w z) kind.Size at (Val []) all_none))))

  -- ---- operands that are arrays

  rows_have : (at : Place) (r : Bundle) (row : List Sort) (a : Rows_are G r row) (bs : Row) → AreOf bs a.sorts → HasOut (Rows row) (rows_of false at r.width bs)
  rows_have at r row a bs k = rows_bundled at r.width bs a.bundled a.wide k

  singles : (ss : List Scalar) → All_of_type (sort.Int I64) ss → Rows (i64_sort ∷ []) (map (λ s. One s ∷ []) ss)
  singles _ no_cell = tt
  singles _ (cell_and {ws = ss} e a) = (all_more (one_is e) all_none, singles ss a)

  numbers_are : (ns : List ℕ) → All_of_type (sort.Int I64) (map i64 ns)
  numbers_are [] = no_cell
  numbers_are (n ∷ ns) = cell_and refl (numbers_are ns)

  source_has : (at : Place) (source : Source) (row : List Sort) → Source_gives G source row → HasOut (Rows row) (source_rows false at env source)
  source_has at _ row (rows_give {rs} {bss = bss} k t) = has_then (λ css. Groups_of css bss) (Rows row) (groups_of env (map (λ r. r.arrays) rs)) _ (groups_have h k) (λ css a. together_have at (map (λ r. r.width) rs) css t a)
  source_has at _ _ (numbers_give {u} {s} i a) =
      has_then (λ c. Is_of c s) (Rows (i64_sort ∷ [])) (value_of env u) _ (value_has h u s a) (λ c p. sized_by_has (Rows (i64_sort ∷ [])) at c s i p _ (λ n. singles (numbers_below n) (numbers_are (counts n 0))))

  collected_has : (at : Place) (told : List (List Atom)) (sizes : List (List Sort)) (row out : List Sort) (rows : List Row) → Groups_are G told sizes → All_same Told sizes row → Bundled row out → Rows row rows → HasOut (λ cs. AreOf cs out) (collected false at env told rows)
  collected_has at told sizes row out rows k t b a =
      has_then (λ css. Groups_of css sizes) (λ cs. AreOf cs out) (groups_of env told) _ (groups_have h k) (λ css q.
      has_then (λ ds. Sizes_fit ds row) (λ cs. AreOf cs out) (all_told css) _ (all_told_have css sizes row t q) (λ ds f. glued_has at ds rows b f a))

-- ---- filters

sifted_are : {A : Type 0} (P : A → Type 0) (b : Bool) (xs : List A) (ts : List Bool) → Every P xs → Every P (sifted b xs ts)
sifted_are P b [] ts e = tt
sifted_are P b (x ∷ xs) [] e = tt
sifted_are P true (x ∷ xs) (true ∷ ts) e = (e.0, sifted_are P true xs ts e.1)
sifted_are P true (x ∷ xs) (false ∷ ts) e = sifted_are P true xs ts e.1
sifted_are P false (x ∷ xs) (true ∷ ts) e = sifted_are P false xs ts e.1
sifted_are P false (x ∷ xs) (false ∷ ts) e = (e.0, sifted_are P false xs ts e.1)

kept_full : (at : Place) (b : Bool) (s : Sort) (ss : List Sort) (bs : Row) (ts : List Bool) → AreOf bs (lifted (s ∷ ss)) → HasOut (λ cs. AreOf cs (lifted (s ∷ ss))) (kept false at b bs ts)
kept_full at b s ss bs ts a = has_then (Rows (s ∷ ss)) (λ cs. AreOf cs (lifted (s ∷ ss))) (array_rows false at bs) _ (rows_full at 0 s ss bs a) (λ rs e. stacked_has at (array_sizes bs) (sifted b rs ts) full (row_sizes_full 0 s ss bs a) (sifted_are (λ r. AreOf r (s ∷ ss)) b rs ts e))

kept_has : (at : Place) (b : Bool) {row out : List Sort} (bs : Row) (ts : List Bool) → Bundled row out → AreOf bs out → HasOut (λ cs. AreOf cs out) (kept false at b bs ts)
kept_has at b bs ts (bare {t}) a = kept_full at b (t, 1) [] bs ts a
kept_has at b bs ts (full {s} {ss}) a = kept_full at b s ss bs ts a

parted_has : (at : Place) {row out : List Sort} (bs : Row) (ts : List Bool) → Bundled row out → AreOf bs out → HasOut (λ cs. AreOf cs (out ++ out)) (parted false at bs ts)
parted_has at {out = out} bs ts b a =
    has_then (λ cs. AreOf cs out) (λ cs. AreOf cs (out ++ out)) (kept false at true bs ts) _ (kept_has at true bs ts b a) (λ cs p. has_then (λ cs. AreOf cs out) (λ cs. AreOf cs (out ++ out)) (kept false at false bs ts) _ (kept_has at false bs ts b a) (λ ds q. append_same p q))

holds_has : (cs : Row) → AreOf cs (truth_sort ∷ []) → HasOut Any_truth (holds cs)
holds_has _ (all_more {x = c} h all_none) = has_then (Of_type sort.Bool) Any_truth (scalar_in c) _ (scalar_of_has sort.Bool c h) (λ s e. has_as Any Any_truth (truth_of_scalar s) (λ b u. tt) (truth_has s e))

turn_safe : (xs : List Var) {G : Sorts} {env : Env} (test : Env → Results) (cs : Row) → AreOf cs (map sort_of xs) → Holds G env → ((e : Env) → Holds (with_vars xs G) e → Safe (λ rs. AreOf rs (truth_sort ∷ [])) (test e)) → Safe Any_truth (test_turn test xs env cs)
turn_safe xs {G} {env} test cs a h l =
    safe_then (λ rs. AreOf rs (truth_sort ∷ [])) Any_truth (under xs cs env test) _ (under_safe (λ rs. AreOf rs (truth_sort ∷ [])) xs cs test a h l) (λ rs p. safe_exact Any_truth 0 (holds rs) (holds_has rs p))

tested_safe : (at : Place) (r : Bundle) {G : Sorts} {env : Env} (row out : List Sort) (test : Row → Rel Bool) (result : Row → List Bool → Out Row) → Holds G env → (a : Rows_are G r row) → ((q : Row) → AreOf q row → Safe Any_truth (test q)) → ((bs : Row) (ts : List Bool) → AreOf bs a.sorts → HasOut (λ cs. AreOf cs out) (result bs ts)) → Safe (λ cs. AreOf cs out) (tested false at r env test result)
tested_safe at r {G} {env} row out test result h a l k =
    safe_the (λ bs. AreOf bs a.sorts) (λ cs. AreOf cs out) (values_of env r.arrays) _ (values_have h a.are) (λ bs p.
    safe_the (Rows row) (λ cs. AreOf cs out) (rows_of false at r.width bs) _ (rows_have h at r row a bs p) (λ rs e.
    safe_then (Every Any_truth) (λ cs. AreOf cs out) (each_of test rs) _ (safe_each_of (λ q. AreOf q row) Any_truth test l rs e) (λ ts u.
    safe_the (λ cs. AreOf cs out) (λ cs. AreOf cs out) (result bs ts) _ (k bs ts p) (λ cs q. safe_exact (λ cs. AreOf cs out) (array_words bs) (Val cs) q))))

-- ---- reductions

safe_all_of : {A B : Type 0} (P : A → Type 0) (Q : B → Type 0) (g : A → Rel B) → ((a : A) → P a → Safe Q (g a)) → (xs : List A) → Every P xs → Safe (Every Q) (all_of g xs)
safe_all_of P Q g h [] e = safe_exact (Every Q) 0 (Val []) tt
safe_all_of P Q g h (x ∷ xs) e = safe_both Q (Every Q) (Every Q) (g x) (all_of g xs) _ (h x e.0) (safe_all_of P Q g h xs e.1) (λ y ys q qs. safe_exact (Every Q) 0 (Val (y ∷ ys)) (q, qs))

every_reordered : {A : Type 0} (P : A → Type 0) {xs ys : List A} → Reordered xs ys → Every P xs → Every P ys
every_reordered P order_kept e = e
every_reordered P (order_on o) e = (e.0, every_reordered P o e.1)
every_reordered P order_swapped e = (e.1.0, (e.0, e.1.1))
every_reordered P (order_then o o') e = every_reordered P o' (every_reordered P o e)

every_ordered : {A : Type 0} (P : A → Type 0) (any : Bool) (xs ys : List A) → In_order any xs ys → Every P xs → Every P ys
every_ordered P false xs ys o e = subst (Every P) o e
every_ordered P true xs ys o e = every_reordered P o e

module _ (tight : Bool) (op : Row → Row → Results) (row : List Sort) (l : (p q : Row) → AreOf p row → AreOf q row → Safe (λ r. AreOf r row) (op p q)) where
  reduction_safe : (any : Bool) (ne : Row) → AreOf ne row → (rows : List Row) → Rows row rows → Safe (λ r. AreOf r row) (Reduction tight any op ne rows)
  reduction_safe any ne n rows e _ _ (reduction {some} order (bracket {o} {f} t is k x)) =
      safe_tree (λ r. AreOf r row) op ne n l t (subst (Every (λ r. AreOf r row)) (sym is) (every_ordered (λ r. AreOf r row) any rows some order e)) o f x

  prefixes_are : (done rows : List Row) → Rows row done → Rows row rows → Every (Rows row) (prefixes_on done rows)
  prefixes_are done [] d e = tt
  prefixes_are done (r ∷ rows) d e =
      let k = every_more (λ r. AreOf r row) done (r ∷ []) d (e.0, tt) in
      (k, prefixes_are (done ++ r ∷ []) rows k e.1)

  module _ (at : Place) (us : List Atom) (r : Bundle) {G : Sorts} {env : Env} (h : Holds G env) (n : Atoms_are G us row) (a : Rows_are G r row) where
    reduced_safe : Safe (λ q. AreOf q row) (reduced tight false at us r env op)
    reduced_safe =
        safe_the (λ q. AreOf q row) (λ q. AreOf q row) (values_of env us) _ (values_have h n) (λ ne e.
        safe_the (λ bs. AreOf bs a.sorts) (λ q. AreOf q row) (values_of env r.arrays) _ (values_have h a.are) (λ bs p.
        safe_the (Rows row) (λ q. AreOf q row) (rows_of false at r.width bs) _ (rows_have h at r row a bs p) (λ rs k.
        safe_then (λ q. AreOf q row) (λ q. AreOf q row) (Reduction tight false op ne rs) _ (reduction_safe false ne e rs k) (λ q i. safe_exact (λ q. AreOf q row) (array_words q) (Val q) i))))

    scanned_safe : Safe (λ cs. AreOf cs a.sorts) (scanned tight false at us r env op)
    scanned_safe =
        safe_the (λ q. AreOf q row) (λ cs. AreOf cs a.sorts) (values_of env us) _ (values_have h n) (λ ne e.
        safe_the (λ bs. AreOf bs a.sorts) (λ cs. AreOf cs a.sorts) (values_of env r.arrays) _ (values_have h a.are) (λ bs p.
        safe_the (Rows row) (λ cs. AreOf cs a.sorts) (rows_of false at r.width bs) _ (rows_have h at r row a bs p) (λ rs k.
        safe_then (Rows row) (λ cs. AreOf cs a.sorts) (all_of (Reduction tight false op ne) (prefixes_on [] rs)) _ (safe_all_of (Rows row) (λ q. AreOf q row) (Reduction tight false op ne) (reduction_safe false ne e) (prefixes_on [] rs) (prefixes_are [] rs tt k)) (λ rows i.
        safe_the (λ cs. AreOf cs a.sorts) (λ cs. AreOf cs a.sorts) (glued false at (row_sizes r.width bs) rows) _ (glued_has at (row_sizes r.width bs) rows a.bundled (row_sizes_bundled r.width bs a.bundled a.wide p) i) (λ cs q. safe_exact (λ cs. AreOf cs a.sorts) (array_words cs) (Val cs) q)))))

-- ---- writing

written_or_not : (row : List Sort) (b : Bool) (r : Row) (rows : List Row) → AreOf r row → Rows row rows → Rows row (cond b (r ∷ rows) rows)
written_or_not row true r rows a e = (a, e)
written_or_not row false r rows a e = e

written_at_are : (row : List Sort) (k : ℕ) (ws : List (ℕ × Row)) → Every (Write_is row) ws → Rows row (written_at k ws)
written_at_are row k [] e = tt
written_at_are row k (w ∷ ws) e = written_or_not row (nat_eq w.0 k) w.1 (written_at k ws) e.0 (written_at_are row k ws e.1)

places_are : (row : List Sort) (with : Row → List Row → List Row) → ((v : Row) (ws : List Row) → AreOf v row → Rows row ws → Rows row (with v ws)) → (k : ℕ) (vs : List Row) (ws : List (ℕ × Row)) → Rows row vs → Every (Write_is row) ws → Every (Rows row) (places with k vs ws)
places_are row with l k [] ws e f = tt
places_are row with l k (v ∷ vs) ws e f = (l v (written_at k ws) e.0 (written_at_are row k ws f), places_are row with l (suc k) vs ws e.1 f)

or_old_are : (row : List Sort) (v : Row) (ws : List Row) → AreOf v row → Rows row ws → Rows row (or_old v ws)
or_old_are row v [] a e = (a, tt)
or_old_are row v (w ∷ ws) a e = e

one_of_them : (row : List Sort) (xs : List Row) (x : Row) → Rows row xs → Is_one_of xs x → AreOf x row
one_of_them row [] x e i = absurd i
one_of_them row (y ∷ ys) x e (inl p) = subst (λ z. AreOf z row) p e.0
one_of_them row (y ∷ ys) x e (inr i) = one_of_them row ys x e.1 i

some_safe : (row : List Sort) (xs : List Row) → Rows row xs → Safe (λ r. AreOf r row) (Some_of xs)
some_safe row xs e _ _ (some_of {x} i) = one_of_them row xs x e i

scattered_safe : (at : Place) (us : List Atom) (i : Atom) (ws : List Atom) {G : Sorts} {env : Env} (t : IntType) (s : Sort) (ss : List Sort) → Holds G env → Atoms_are G us (lifted (s ∷ ss)) → Atom_is G i (sort.Int t, 1) → Atoms_are G ws (lifted (s ∷ ss)) → Safe (λ cs. AreOf cs (lifted (s ∷ ss))) (scattered false at us i ws env)
scattered_safe at us i ws {G} {env} t s ss h a b c =
    safe_the (λ cs. AreOf cs (lifted (s ∷ ss))) (λ cs. AreOf cs (lifted (s ∷ ss))) (values_of env us) _ (values_have h a) (λ bs p.
    safe_the (λ d. Is_of d (sort.Int t, 1)) (λ cs. AreOf cs (lifted (s ∷ ss))) (value_of env i) _ (value_has h i (sort.Int t, 1) b) (λ d q.
    safe_the (λ cs. AreOf cs (lifted (s ∷ ss))) (λ cs. AreOf cs (lifted (s ∷ ss))) (values_of env ws) _ (values_have h c) (λ vs r.
    safe_the (Written_is (s ∷ ss)) (λ cs. AreOf cs (lifted (s ∷ ss))) (written false at 1 bs d vs) _ (written_full at bs d vs t s ss p q r) (λ w k.
    safe_then (Rows (s ∷ ss)) (λ cs. AreOf cs (lifted (s ∷ ss))) (all_of Some_of (places or_old 0 w.0 w.1)) _ (safe_all_of (Rows (s ∷ ss)) (λ r. AreOf r (s ∷ ss)) Some_of (some_safe (s ∷ ss)) (places or_old 0 w.0 w.1) (places_are (s ∷ ss) or_old (or_old_are (s ∷ ss)) 0 w.0 w.1 k.old k.new)) (λ rows e.
    safe_exact (λ cs. AreOf cs (lifted (s ∷ ss))) 0 (stacked false at (array_sizes bs) rows) (stacked_has at (array_sizes bs) rows full (row_sizes_full 0 s ss bs p) e))))))

combined_safe : (tight : Bool) (at : Place) (us zs : List Atom) (i : Atom) (r : Bundle) {G : Sorts} {env : Env} (op : Row → Row → Results) (row : List Sort) (t : IntType) → ((p q : Row) → AreOf p row → AreOf q row → Safe (λ r. AreOf r row) (op p q)) → Holds G env → (a : Rows_are G r row) → Atoms_are G us a.sorts → Atoms_are G zs row → Atom_is G i (sort.Int t, 1) → Safe (λ cs. AreOf cs a.sorts) (combined tight false at us zs i r env op)
combined_safe tight at us zs i r {G} {env} op row t l h a b n c =
    safe_the (λ cs. AreOf cs a.sorts) (λ cs. AreOf cs a.sorts) (values_of env us) _ (values_have h b) (λ bs p.
    safe_the (λ q. AreOf q row) (λ cs. AreOf cs a.sorts) (values_of env zs) _ (values_have h n) (λ ne e.
    safe_the (λ d. Is_of d (sort.Int t, 1)) (λ cs. AreOf cs a.sorts) (value_of env i) _ (value_has h i (sort.Int t, 1) c) (λ d q.
    safe_the (λ cs. AreOf cs a.sorts) (λ cs. AreOf cs a.sorts) (values_of env r.arrays) _ (values_have h a.are) (λ vs k.
    safe_the (Written_is row) (λ cs. AreOf cs a.sorts) (written false at r.width bs d vs) _ (written_has at r.width bs d vs t a.bundled a.bundled a.wide p q k) (λ w j.
    safe_then (Rows row) (λ cs. AreOf cs a.sorts) (all_of (Reduction tight true op ne) (places (λ v vs. v ∷ vs) 0 w.0 w.1)) _
    (safe_all_of (Rows row) (λ r. AreOf r row) (Reduction tight true op ne) (reduction_safe tight op row l true ne e) (places (λ v vs. v ∷ vs) 0 w.0 w.1) (places_are row (λ v vs. v ∷ vs) (λ v vs x y. (x, y)) 0 w.0 w.1 j.old j.new)) (λ rows m.
    safe_exact (λ cs. AreOf cs a.sorts) 0 (stacked false at (row_sizes r.width bs) rows) (stacked_has at (row_sizes r.width bs) rows a.bundled (row_sizes_bundled r.width bs a.bundled a.wide p) m)))))))

-- ---- blocks

turns_have : (t : IntType) (s : Scalar) → Of_type (sort.Int t) s → HasOut (λ k. k.0 ≡ t) (turns_of_scalar s)
turns_have t (scalar.Int u n) e = int_is e
turns_have t (scalar.Bool b) e = absurd (let z : sort.Bool ≡ sort.Int t = e in cc)

every_number : (ns : List ℕ) → Every Any ns
every_number [] = tt
every_number (n ∷ ns) = (tt, every_number ns)

module _ (tight : Bool) (budget : ℕ) where
  mutual
    unfolding act_means function_means body_means

    act_safe : (a : Action) {G : Sorts} {ss : List Sort} (env : Env) → Act_gives G a ss → Holds G env → Safe (λ cs. AreOf cs ss) (act_means tight false budget a env)
    act_safe (Operate o at) {ss = ss} env (operate_gives g) h = safe_exact (λ cs. AreOf cs ss) 0 (operated env o at) (operated_has h o at g)
    act_safe (Do d at uss) {ss = ss} env (deed_gives {sss = sss} k g) h =
        safe_the (λ cs. AreOf cs ss) (λ cs. AreOf cs ss) _ _ (has_then (λ css. Groups_of css sss) (λ cs. AreOf cs ss) (groups_of env uss) (done false d at) (groups_have h k) (λ css a. done_has d at css g a)) (λ cs p. safe_exact (λ cs. AreOf cs ss) (fresh_words d cs) (Val cs) p)
    act_safe (Map at source told xs b) {ss = ss} env (map_gives {sizes = sizes} {row = row} i g k t c) h =
        safe_the (Rows (map sort_of xs)) (λ cs. AreOf cs ss) (source_rows false at env source) _ (source_has h at source (map sort_of xs) i) (λ rs e.
        safe_then (Rows row) (λ cs. AreOf cs ss) (each_of _ rs) _ (safe_each_of (λ r. AreOf r (map sort_of xs)) (λ r. AreOf r row) _ (λ r a. under_safe (λ r. AreOf r row) xs r _ a h (λ e i. body_safe b e g i)) rs e) (λ rows p.
        safe_the (λ cs. AreOf cs ss) (λ cs. AreOf cs ss) (collected false at env told rows) _ (collected_has h at told sizes row ss rows k t c p) (λ cs q. safe_exact (λ cs. AreOf cs ss) (array_words cs) (Val cs) q)))
    act_safe (Filter at r xs b) {ss = ss} env (filter_gives a g) h =
        tested_safe at r (map sort_of xs) ss _ _ h a (λ q p. turn_safe xs _ q p h (λ e i. body_safe b e g i)) (λ bs ts p. kept_has at true bs ts a.bundled p)
    act_safe (Partition at r xs b) {ss = ss} env (partition_gives a g) h =
        tested_safe at r (map sort_of xs) ss _ _ h a (λ q p. turn_safe xs _ q p h (λ e i. body_safe b e g i)) (λ bs ts p. parted_has at bs ts a.bundled p)
    act_safe (Reduce at us r f) {ss = ss} env (reduce_gives n a o) h = reduced_safe tight _ ss (λ p q i j. function_safe f ss env o h p q i j) at us r h n a
    act_safe (Scan at us r f) env (scan_gives {row = row} n a o) h = scanned_safe tight _ row (λ p q i j. function_safe f row env o h p q i j) at us r h n a
    act_safe (Scatter at us i ws) env (scatter_gives t s ss a b c) h = scattered_safe at us i ws t s ss h a b c
    act_safe (Hist at us zs i r f) env (hist_gives {row = row} t a b n c o) h = combined_safe tight at us zs i r _ row t (λ p q i j. function_safe f row env o h p q i j) h a b n c
    act_safe (If c a b) {ss = ss} env (if_gives p g k) h =
        safe_the Any (λ cs. AreOf cs ss) (truth_at env c) _ (truth_at_has h c p) (λ t u. safe_choose (λ cs. AreOf cs ss) t _ _ (body_safe a env g h) (body_safe b env k h))
    act_safe (For xs us i n b) {G} env (for_gives t a c e g) h =
        safe_the (λ cs. AreOf cs (map sort_of xs)) (λ cs. AreOf cs (map sort_of xs)) (values_of env us) _ (values_have h a) (λ cs p.
        safe_the (λ k. k.0 ≡ t) (λ cs. AreOf cs (map sort_of xs)) _ _ (has_then (Of_type (sort.Int t)) (λ k. k.0 ≡ t) (scalar_at env n) turns_of_scalar (scalar_has h n (sort.Int t) c) (turns_have t)) (λ k q.
        safe_turns Any (λ cs. AreOf cs (map sort_of xs)) _ (λ j ds u r. under_safe (λ cs. AreOf cs (map sort_of xs)) xs ds _ r h
        (λ e' o. body_safe b _ g (name_and (subst (λ z. Is_of (One (scalar.Int k.0 j)) z) (sym e) (one_is (ap sort.Int q))) o))) (counts k.1 0) cs (every_number (counts k.1 0)) p))
    act_safe (For_in at xs us ys r b) env (for_in_gives a c g) h =
        safe_the (λ cs. AreOf cs (map sort_of xs)) (λ cs. AreOf cs (map sort_of xs)) (values_of env us) _ (values_have h a) (λ cs p.
        safe_the (Rows (map sort_of ys)) (λ cs. AreOf cs (map sort_of xs)) _ _ (has_then (λ bs. AreOf bs c.sorts) (Rows (map sort_of ys)) (values_of env r.arrays) (rows_of false at r.width) (values_have h c.are) (λ bs q. rows_have h at r (map sort_of ys) c bs q)) (λ rs e.
        safe_turns (λ q. AreOf q (map sort_of ys)) (λ cs. AreOf cs (map sort_of xs)) _ (λ q ds i j. under_safe (λ cs. AreOf cs (map sort_of xs)) xs ds _ j h (λ e o. under_safe (λ cs. AreOf cs (map sort_of xs)) ys q _ i o (λ e' o'. body_safe b e' g o'))) rs cs e p))
    act_safe (While at xs us t b) env (while_gives a g k) h =
        safe_the (λ cs. AreOf cs (map sort_of xs)) (λ cs. AreOf cs (map sort_of xs)) (values_of env us) _ (values_have h a) (λ cs p.
        safe_while (λ cs. AreOf cs (map sort_of xs)) budget (report kind.Turns at) _ _ (λ ds q. turn_safe xs _ ds q h (λ e i. body_safe t e g i)) (λ ds q. under_safe (λ cs. AreOf cs (map sort_of xs)) xs ds _ q h (λ e i. body_safe b e k i)) cs p)

    function_safe : (f : Function) {G : Sorts} (row : List Sort) (env : Env) → Operator_is G f row → Holds G env → (p q : Row) → AreOf p row → AreOf q row → Safe (λ r. AreOf r row) (function_means tight false budget f env p q)
    function_safe (Of_two xs ys b) row env (operator_is d e g) h p q i j =
        under_safe (λ r. AreOf r row) xs p _ (subst (λ z. AreOf p z) (sym d) i) h (λ e1 o. under_safe (λ r. AreOf r row) ys q _ (subst (λ z. AreOf q z) (sym e) j) o (λ e2 o'. body_safe b e2 g o'))

    body_safe : (b : Body) {G : Sorts} {ss : List Sort} (env : Env) → Body_gives G b ss → Holds G env → Safe (λ cs. AreOf cs ss) (body_means tight false budget b env)
    body_safe (Give us) {ss = ss} env (give_gives a) h = safe_exact (λ cs. AreOf cs ss) 0 (values_of env us) (values_have h a)
    body_safe (Let xs a b) {G} {ss} env (let_gives g k) h =
        safe_then (Holds (with_vars xs G)) (λ cs. AreOf cs ss) _ _ (safe_then (λ cs. AreOf cs (map sort_of xs)) (Holds (with_vars xs G)) _ _ (act_safe a env g h) (λ cs p. safe_exact (Holds (with_vars xs G)) 0 (or_wrong (bound (map number xs) cs env)) (bound_has xs cs p h))) (λ e o. body_safe b e k o)

pub never_wrong : NeverWrong
unfolding Core_means
never_wrong tight budget core w cs a = under_safe (λ rs. AreOf rs w.results) core.params.now cs _ a no_name (λ e o. body_safe tight budget (body_of core.body) e w.typed o)
