-- Operations on what is read, and steps on scalars.
use Rattle.std.proofs.Common.{◌≡◌, ℕ, zero, suc, ◌+◌, ◌<◌, ◌≤◌, ◌^◌, List, [], ◌∷◌, ◌++◌, length, map, drop, get_or, slice_get, slice_set, Some, None, Ok, Err, Result, Bool, true, false, not, cond, refl, sym, ap, ◌∙◌, subst, arith}
use Rattle.std.specs.Prelude.{◌==◌, ◌&&◌, int_le, ℤ}
use Rattle.std.proofs.lemmas.List.{append-nil}
use Rattle.std.proofs.lemmas.Option.{slice_get-get_or}
use Rattle.fut_scalar.specs.Integers.{integer_of, width_of}
use Rattle.fut_scalar.specs.declared.operator.BinOp.{BinOp}
use Rattle.fut_scalar.specs.declared.operator.BinOp.TheVariants as binary
use Rattle.fut_scalar.specs.declared.operator.UnOp.{UnOp}
use Rattle.fut_scalar.specs.declared.place.Place.{Place}
use Rattle.fut_scalar.specs.declared.report.FailKind.TheVariants as kind
use Rattle.fut_scalar.specs.declared.report.Report.{Report}
use Rattle.fut_scalar.specs.declared.scalar.IntType.{IntType}
use Rattle.fut_scalar.specs.declared.scalar.IntType.TheVariants.{I64, U64}
use Rattle.fut_scalar.specs.declared.scalar.Scalar.{Scalar}
use Rattle.fut_scalar.specs.declared.scalar.Scalar.TheVariants as scalar
use Rattle.fut_scalar.specs.declared.scalar.ScalarType.{ScalarType}
use Rattle.fut_scalar.specs.declared.scalar.ScalarType.TheVariants as sort
use Rattle.fut_arithmetic.specs.Conversions.{converted, one_if}
use Rattle.fut_arithmetic.specs.Operations.{result_of}
use Rattle.fut_arithmetic.specs.Types.{type_of, IsOf, IsDefined, IsDefinedOfOne, result_type, result_type_of_one}
use Rattle.fut_arithmetic.specs.Words.{word_of, scalar_of_word}
use Rattle.fut_meaning.specs.Accessors.{or_wrong, truth_of_scalar}
use Rattle.fut_meaning.specs.Arrays.{checked, integer_of_scalar}
use Rattle.fut_meaning.specs.Operations.{report, reported}
use Rattle.fut_meaning.specs.Operators.{by_kind, is_same_type, binary_result, unary_result}
use Rattle.fut_meaning.specs.Outcomes.{Out, Val, Fail, Wrong, and_then, the, Then, goes_on, stops}
use Rattle.fut_blocks.specs.Meaning.{bound}
use Rattle.fut_blocks.specs.Numbered.{Upward}
use Rattle.core_arrays.specs.Arenas.{Array, Arena}
use Rattle.core_ir.specs.declared.block.Var.{Var}
use Rattle.core_ir.specs.declared.block.Atom.{Atom}
use Rattle.core_ir.specs.declared.block.Operation.{Operation}
use Rattle.core_ir.specs.declared.block.Operation.TheVariants as operation
use Rattle.core_ir.specs.Arrays.{scalar_in, exact_in, i64}
use Rattle.core_ir.specs.Bundles.{Component, One, Many, Row, rows_in, sizes as sizes_of}
use Rattle.core_ir.specs.Meaning.{Env, value_of, scalar_at, truth_at, one, operated, number, named, act_means}
use Rattle.core_ir.specs.Numbered.{Act_numbered}
use Rattle.core_ir.specs.Plain.{Action, Operate}
use Rattle.core_ir.specs.Typed.{Sort, Sorts, sort_of, scalar_sort, truth_sort, i64_sort, with_vars, Atom_is, Integer, integer, Operation_gives, binary_gives, unary_gives, convert_gives, assert_gives, length_gives, dimension_gives, check_gives, Act_gives, operate_gives}
use Rattle.core_code.specs.Registers.{State, state, elem_of, ShowsScalar, ShowsArray, Shows, Stands, Kept}
use Rattle.core_code.specs.Answers.{Answer, WordTold, word_told, word_failed, no_word, Binary_told, Unary_told, Converts, FirstTold, first_told, no_first, First_size, DimensionTold, dimension_told, no_dimension, Dimension_read, Read, read, Reads, TruthTold, truth_told, no_truth, Truth_reads, sizes_same, Sizes_told, Set, set, not_set, OneTold, one_told, one_failed, no_one, Operation_told, NoneTold, none_told, none_failed, no_none, Check_told, Stepped, stepped, step_failed, no_memory_stepped}
use Rattle.core_code.specs.Runs.{step_means, Step_runs}
use Rattle.core_code.specs.declared.stop.Stop.{Stop}
use Rattle.core_code.specs.declared.stop.Stop.TheVariants.{Failed, Memory}
use Rattle.core_code.proofs.Frames.{the_is, stands_more, kept_same}
use Rattle.core_code.proofs.Reading.{elem_is}
use Rattle.core_code.proofs.ScalarWords.{same_type}
use Rattle.core_code.proofs.Storing.{stands_new, get_apart}

-- the scalar of an operand
record ScalarRead (o : Out Component) (t : ScalarType) (w : ℕ) : Type 0 where
  scalar : Scalar
  is : o ≡ Val (One scalar)
  typed : IsOf t scalar
  word : w ≡ word_of scalar

scalar_read : (t : List ℕ) (u : Atom) (w : ℕ) (G : Sorts) (env : Env) (n : ℕ) (rs : List Array) (ty : ScalarType) → Reads t u (Ok w) → Stands G env n rs t → Atom_is G u (scalar_sort ty) → ScalarRead (value_of env u) ty w
unfolding Reads
scalar_read t u w G env n rs ty h st k = by_read (h G env n rs (scalar_sort ty) st k)
  where
    by_read : Read (value_of env u) rs (scalar_sort ty) (Ok w) → ScalarRead (value_of env u) ty w
    by_read (read {c} e x) = by_shown x
      where
        by_shown : ShowsScalar ty c w → ScalarRead (value_of env u) ty w
        by_shown x = record { scalar = x.scalar; is = e ∙ ap Val x.is; typed = x.typed; word = x.word }

-- ---- operations that give a scalar

by_word : (ty : ScalarType) (o : Out Scalar) (p : Out Row) (r : Result ℕ Stop) → p ≡ one o → WordTold ty o r → OneTold (scalar_sort ty ∷ []) p r
by_word ty o p _ e (word_told {s} q i w) = one_told refl (e ∙ ap one q) i w
by_word ty o p _ e (word_failed q) = one_failed (e ∙ ap one q)
by_word ty o p _ e no_word = no_one

module _ (a : Arena) (t : List ℕ) (at : Place) where
  pub op_binary : (o : Operation) (op : BinOp) (u v : Atom) (l r : ℕ) (ty : ScalarType) (w : Result ℕ Stop) → o ≡ operation.Binary op u v → Reads t u (Ok l) → Reads t v (Ok r) → ty ≡ elem_of u → Binary_told op at ty l r w → Operation_told a t o at w
  unfolding Operation_told Binary_told operated
  op_binary o op u v l r ty w q hu hv e h G env n ss st k = subst (λ z. OneTold ss (operated env z at) w) (sym q) (by_gives ss (subst (λ z. Operation_gives G z ss) q k))
    where
      by_types : (t' : ScalarType) → Atom_is G u (scalar_sort t') → Atom_is G v (scalar_sort t') → IsDefined op t' → OneTold (scalar_sort (result_type op t') ∷ []) (operated env (operation.Binary op u v) at) w
      by_types t' ku kv d =
          let x = scalar_read t u l G env n a.arrays t' hu st ku in
          let y = scalar_read t v r G env n a.arrays t' hv st kv in
          let s : ty ≡ t' = e ∙ elem_is G u (scalar_sort t') ku in
          by_word (result_type op t') (reported at (binary_result op x.scalar y.scalar)) (operated env (operation.Binary op u v) at) w
          (ap (λ z. and_then (and_then z scalar_in) (λ s. and_then (scalar_at env v) (λ t. one (reported at (binary_result op s t))))) x.is ∙ ap (λ z. and_then (and_then z scalar_in) (λ t. one (reported at (binary_result op x.scalar t)))) y.is)
          (subst (λ z. WordTold (result_type op z) (reported at (binary_result op x.scalar y.scalar)) w) s
          (h x.scalar y.scalar (subst (λ z. IsOf z x.scalar) (sym s) x.typed) (subst (λ z. IsOf z y.scalar) (sym s) y.typed) (subst (IsDefined op) (sym s) d) x.word y.word))

      by_gives : (ss : List Sort) → Operation_gives G (operation.Binary op u v) ss → OneTold ss (operated env (operation.Binary op u v) at) w
      by_gives _ (binary_gives t' ku kv d) = by_types t' ku kv d

  pub op_unary : (o : Operation) (op : UnOp) (u : Atom) (l : ℕ) (ty : ScalarType) (w : Result ℕ Stop) → o ≡ operation.Unary op u → Reads t u (Ok l) → ty ≡ elem_of u → Unary_told op ty l w → Operation_told a t o at w
  unfolding Operation_told Unary_told operated
  op_unary o op u l ty w q hu e h G env n ss st k = subst (λ z. OneTold ss (operated env z at) w) (sym q) (by_gives ss (subst (λ z. Operation_gives G z ss) q k))
    where
      by_types : (t' : ScalarType) → Atom_is G u (scalar_sort t') → IsDefinedOfOne op t' → OneTold (scalar_sort (result_type_of_one op t') ∷ []) (operated env (operation.Unary op u) at) w
      by_types t' ku d =
          let x = scalar_read t u l G env n a.arrays t' hu st ku in
          let s : ty ≡ t' = e ∙ elem_is G u (scalar_sort t') ku in
          by_word (result_type_of_one op t') (or_wrong (unary_result op x.scalar)) (operated env (operation.Unary op u) at) w
          (ap (λ z. and_then (and_then z scalar_in) (λ s. one (or_wrong (unary_result op s)))) x.is)
          (subst (λ z. WordTold (result_type_of_one op z) (or_wrong (unary_result op x.scalar)) w) s
          (h x.scalar (subst (λ z. IsOf z x.scalar) (sym s) x.typed) (subst (IsDefinedOfOne op) (sym s) d) x.word))

      by_gives : (ss : List Sort) → Operation_gives G (operation.Unary op u) ss → OneTold ss (operated env (operation.Unary op u) at) w
      by_gives _ (unary_gives t' ku d) = by_types t' ku d

  pub op_convert : (o : Operation) (to : ScalarType) (u : Atom) (l w : ℕ) (ty : ScalarType) → o ≡ operation.Convert to u → Reads t u (Ok l) → ty ≡ elem_of u → Converts to ty l w → Operation_told a t o at (Ok w)
  unfolding Operation_told Converts operated
  op_convert o to u l w ty q hu e h G env n ss st k = subst (λ z. OneTold ss (operated env z at) (Ok w)) (sym q) (by_gives ss (subst (λ z. Operation_gives G z ss) q k))
    where
      by_types : (t' : ScalarType) → Atom_is G u (scalar_sort t') → OneTold (scalar_sort to ∷ []) (operated env (operation.Convert to u) at) (Ok w)
      by_types t' ku =
          let x = scalar_read t u l G env n a.arrays t' hu st ku in
          let s : ty ≡ t' = e ∙ elem_is G u (scalar_sort t') ku in
          let c = h x.scalar (subst (λ z. IsOf z x.scalar) (sym s) x.typed) x.word in
          one_told refl (ap (λ z. and_then (and_then z scalar_in) (λ s. one (Val (converted to s)))) x.is) c.0 c.1

      by_gives : (ss : List Sort) → Operation_gives G (operation.Convert to u) ss → OneTold ss (operated env (operation.Convert to u) at) (Ok w)
      by_gives _ (convert_gives t' ku) = by_types t' ku

  pub op_length : (o : Operation) (u : Atom) (l : ℕ) (r : Result ℕ Stop) → o ≡ operation.Length u → Reads t u (Ok l) → First_size a.arrays l r → Operation_told a t o at r
  unfolding Operation_told Reads First_size operated
  op_length o u l r q hu h G env n ss st k = subst (λ z. OneTold ss (operated env z at) r) (sym q) (by_gives ss (subst (λ z. Operation_gives G z ss) q k))
    where
      by_first : (c : Component) (t' : ScalarType) (b : Array) (r : Result ℕ Stop) → value_of env u ≡ Val c → c ≡ Many b.sizes (map (scalar_of_word t') b.words) → FirstTold b.sizes r → OneTold (i64_sort ∷ []) (operated env (operation.Length u) at) r
      by_first c t' b _ v e (first_told {n = m} {ds = ds} g f) =
          let z : rows_in c ≡ Val m = ap rows_in e ∙ ap (λ s. rows_in (Many s (map (scalar_of_word t') b.words))) g in
          one_told refl (ap (λ z. and_then z (λ c. and_then (rows_in c) (λ n. one (Val (i64 n))))) v ∙ ap (λ z. and_then z (λ n. one (Val (i64 n)))) z) (refl, f) refl
      by_first c t' b _ v e no_first = no_one

      by_read : (t' : ScalarType) (rank : ℕ) → Read (value_of env u) a.arrays (t', suc rank) (Ok l) → OneTold (i64_sort ∷ []) (operated env (operation.Length u) at) r
      by_read t' rank (read {c} v x) = by_array x
        where
          by_array : ShowsArray a.arrays t' (suc rank) c l → OneTold (i64_sort ∷ []) (operated env (operation.Length u) at) r
          by_array x = by_first c t' x.array r v x.is (h x.array x.there)

      by_gives : (ss : List Sort) → Operation_gives G (operation.Length u) ss → OneTold ss (operated env (operation.Length u) at) r
      by_gives _ (length_gives t' rank ku) = by_read t' rank (hu G env n a.arrays (t', suc rank) st ku)

  pub op_dimension : (o : Operation) (u : Atom) (k l : ℕ) (r : Result ℕ Stop) → o ≡ operation.Dimension u k → Reads t u (Ok l) → Dimension_read a.arrays l k r → Operation_told a t o at r
  unfolding Operation_told Reads Dimension_read operated
  op_dimension o u k l r q hu h G env n ss st g = subst (λ z. OneTold ss (operated env z at) r) (sym q) (by_gives ss (subst (λ z. Operation_gives G z ss) q g))
    where
      by_size : (c : Component) (t' : ScalarType) (b : Array) (r : Result ℕ Stop) → value_of env u ≡ Val c → c ≡ Many b.sizes (map (scalar_of_word t') b.words) → DimensionTold b.sizes k r → OneTold ((sort.Int U64, 0) ∷ []) (operated env (operation.Dimension u k) at) r
      by_size c t' b _ v e (dimension_told {n = m} g f) =
          one_told refl
          (ap (λ z. and_then z (λ c. and_then (or_wrong (slice_get (sizes_of c) k)) (λ n. one (Val (scalar.Int U64 n))))) v ∙ ap (λ z. and_then (or_wrong (slice_get (sizes_of z) k)) (λ n. one (Val (scalar.Int U64 n)))) e
          ∙ ap (λ z. and_then (or_wrong z) (λ n. one (Val (scalar.Int U64 n)))) g)
          (refl, f) refl
      by_size c t' b _ v e no_dimension = no_one

      by_read : (t' : ScalarType) (rank : ℕ) → k < rank → Read (value_of env u) a.arrays (t', rank) (Ok l) → OneTold ((sort.Int U64, 0) ∷ []) (operated env (operation.Dimension u k) at) r
      by_read t' zero p y = absurd (omega (arith, p))
      by_read t' (suc rank) p (read {c} v x) = by_array x
        where
          by_array : ShowsArray a.arrays t' (suc rank) c l → OneTold ((sort.Int U64, 0) ∷ []) (operated env (operation.Dimension u k) at) r
          by_array x = by_size c t' x.array r v x.is (h x.array x.there)

      by_gives : (ss : List Sort) → Operation_gives G (operation.Dimension u k) ss → OneTold ss (operated env (operation.Dimension u k) at) r
      by_gives _ (dimension_gives t' rank ku p) = by_read t' rank p (hu G env n a.arrays (t', rank) st ku)

  pub op_memory : (o : Operation) (e : Stop) → e ≡ Memory → Operation_told a t o at (Err e)
  unfolding Operation_told
  op_memory o e q G env n ss st k = subst (λ z. OneTold ss (operated env o at) (Err z)) (sym q) no_one

pub ruleset operations = (op_binary, op_unary, op_convert, op_length, op_dimension, op_memory)

pub first_ok : (rs : List Array) (at : ℕ) (xs : List ℕ) (n d : ℕ) → ((a : Array) → slice_get rs at ≡ Some a → xs ≡ a.sizes) → 0 < length xs → n ≡ get_or xs 0 d → n < 2 ^ 64 → First_size rs at (Ok n)
unfolding First_size
first_ok rs at xs n d h l e f a g = first_told (sym (h a g) ∙ whole xs l ∙ ap (λ z. z ∷ drop 1 xs) (sym e)) f
  where
    whole : (xs : List ℕ) → 0 < length xs → xs ≡ get_or xs 0 d ∷ drop 1 xs
    whole [] l = absurd (omega arith)
    whole (x ∷ xs) l = refl

pub first_memory : (rs : List Array) (at : ℕ) → First_size rs at (Err Memory)
unfolding First_size
first_memory rs at a g = no_first

pub ruleset first_sizes = (first_ok, first_memory)

pub dimension_ok : (rs : List Array) (at k : ℕ) (xs : List ℕ) (n d : ℕ) → ((a : Array) → slice_get rs at ≡ Some a → xs ≡ a.sizes) → k < length xs → n ≡ get_or xs k d → n < 2 ^ 64 → Dimension_read rs at k (Ok n)
unfolding Dimension_read
dimension_ok rs at k xs n d h l e f a g = dimension_told (ap (λ z. slice_get z k) (sym (h a g)) ∙ slice_get-get_or xs k d l ∙ ap Some (sym e)) f

pub dimension_memory : (rs : List Array) (at k : ℕ) → Dimension_read rs at k (Err Memory)
unfolding Dimension_read
dimension_memory rs at k a g = no_dimension

pub ruleset dimensions = (dimension_ok, dimension_memory)

-- ---- two sizes

one_if_holds : (b : Bool) → not (one_if b == 0) ≡ b
one_if_holds true = refl
one_if_holds false = refl

le_told : (at : Place) (t : IntType) (m k w : ℕ) → WordTold sort.Bool (reported at (binary_result binary.Le (scalar.Int t m) (scalar.Int t k))) (Ok w) → not (w == 0) ≡ int_le (integer_of t m) (integer_of t k)
unfolding binary_result result_of
le_told at t m k w (word_told {s} e i q) =
    let r : reported at (binary_result binary.Le (scalar.Int t m) (scalar.Int t k)) ≡ Val (scalar.Bool (int_le (integer_of t m) (integer_of t k))) =
    ap (λ z. reported at (cond z (Some (by_kind (result_of binary.Le (scalar.Int t m) (scalar.Int t k)))) None)) (same_type t) in
    let v : s ≡ scalar.Bool (int_le (integer_of t m) (integer_of t k)) = let z : Val s ≡ Val (scalar.Bool (int_le (integer_of t m) (integer_of t k))) = sym e ∙ r in cc in
    ap (λ z. not (z == 0)) (q ∙ ap word_of v) ∙ one_if_holds (int_le (integer_of t m) (integer_of t k))

pub sizes_ok : (t : List ℕ) (at : Place) (a b : Atom) (ty : ScalarType) (l r p q : ℕ) (c : Bool) → ty ≡ elem_of a → elem_of b ≡ ty → Reads t a (Ok l) → Reads t b (Ok r) → Binary_told binary.Le at ty l r (Ok p) → Binary_told binary.Le at ty r l (Ok q) → c ≡ (not (p == 0) && not (q == 0)) → Sizes_told t a b (Ok c)
unfolding Sizes_told Binary_told
sizes_ok t at a b ty l r p q c e f ha hb hp hq h G env n rs _ _ st (integer {t = t1}) (integer {t = t2}) ka kb =
    let x = scalar_read t a l G env n rs (sort.Int t1) ha st ka in
    let y = scalar_read t b r G env n rs (sort.Int t2) hb st kb in
    let s1 : ty ≡ sort.Int t1 = e ∙ elem_is G a (sort.Int t1, 0) ka in
    let s2 : ty ≡ sort.Int t2 = sym f ∙ elem_is G b (sort.Int t2, 0) kb in
    let s : t2 ≡ t1 = let z : sort.Int t2 ≡ sort.Int t1 = sym s2 ∙ s1 in cc in
    let i1 : IsOf ty x.scalar = subst (λ z. IsOf z x.scalar) (sym s1) x.typed in
    let i2 : IsOf ty y.scalar = subst (λ z. IsOf z y.scalar) (sym s2) y.typed in
    let d : IsDefined binary.Le ty = subst (IsDefined binary.Le) (sym s1) tt in
    by_scalars x.scalar y.scalar x.typed (subst (λ z. IsOf (sort.Int z) y.scalar) s y.typed) x.is y.is (hp x.scalar y.scalar i1 i2 d x.word y.word) (hq y.scalar x.scalar i2 i1 d y.word x.word)
  where
    by_scalars : (x y : Scalar) → IsOf (sort.Int t1) x → IsOf (sort.Int t1) y → value_of env a ≡ Val (One x) → value_of env b ≡ Val (One y)
        → WordTold sort.Bool (reported at (binary_result binary.Le x y)) (Ok p) → WordTold sort.Bool (reported at (binary_result binary.Le y x)) (Ok q) → TruthTold (sizes_same env a b) (Ok c)
    by_scalars (scalar.Int u m) (scalar.Int v k) i j va vb wp wq =
        let eu : u ≡ t1 = let z : sort.Int u ≡ sort.Int t1 = i.0 in cc in
        let ev : v ≡ u = let z : sort.Int v ≡ sort.Int u = j.0 ∙ sym i.0 in cc in
        let p' : WordTold sort.Bool (reported at (binary_result binary.Le (scalar.Int u m) (scalar.Int u k))) (Ok p) = subst (λ z. WordTold sort.Bool (reported at (binary_result binary.Le (scalar.Int u m) (scalar.Int z k))) (Ok p)) ev wp in
        let q' : WordTold sort.Bool (reported at (binary_result binary.Le (scalar.Int u k) (scalar.Int u m))) (Ok q) = subst (λ z. WordTold sort.Bool (reported at (binary_result binary.Le (scalar.Int z k) (scalar.Int u m))) (Ok q)) ev wq in
        truth_told (
        ap (λ z. and_then z (λ c. and_then (value_of env b) (λ d. and_then (exact_in c) (λ z. and_then (exact_in d) (λ w. Val (int_le z w && int_le w z)))))) va
        ∙ ap (λ z. and_then z (λ d. and_then (exact_in d) (λ w. Val (int_le (integer_of u m) w && int_le w (integer_of u m))))) vb
        ∙ ap (λ z. Val (int_le (integer_of u m) (integer_of z k) && int_le (integer_of z k) (integer_of u m))) ev
        ∙ ap (λ z. Val (z && int_le (integer_of u k) (integer_of u m))) (sym (le_told at u m k p p'))
        ∙ ap (λ z. Val (not (p == 0) && z)) (sym (le_told at u k m q q'))
        ∙ ap Val (sym h))
    by_scalars (scalar.Bool x) y i j va vb wp wq = absurd (let z : sort.Bool ≡ sort.Int t1 = i.0 in cc)
    by_scalars x (scalar.Bool y) i j va vb wp wq = absurd (let z : sort.Bool ≡ sort.Int t1 = j.0 in cc)

pub sizes_memory : (t : List ℕ) (a b : Atom) (e : Stop) → e ≡ Memory → Sizes_told t a b (Err e)
unfolding Sizes_told
sizes_memory t a b e q G env n rs s s' st i j ka kb = subst (λ z. TruthTold (sizes_same env a b) (Err z)) (sym q) no_truth

pub ruleset sizes = (sizes_ok, sizes_memory)

numbers_tested : (x y : Out ℤ) (b : Bool) (k : Bool → Out Row) → and_then x (λ z. and_then y (λ w. Val (int_le z w && int_le w z))) ≡ Val b → and_then x (λ z. and_then y (λ w. k (int_le z w && int_le w z))) ≡ k b
numbers_tested (Val z) (Val w) b k e = let q : int_le z w && int_le w z ≡ b = cc in ap k q
numbers_tested (Val z) (Fail r) b k e = cc
numbers_tested (Val z) Wrong b k e = cc
numbers_tested (Fail r) y b k e = cc
numbers_tested Wrong y b k e = cc

components_tested : (x y : Out Component) (b : Bool) (k : Bool → Out Row) → and_then x (λ c. and_then y (λ d. and_then (exact_in c) (λ z. and_then (exact_in d) (λ w. Val (int_le z w && int_le w z))))) ≡ Val b → and_then x (λ c. and_then y (λ d. and_then (exact_in c) (λ z. and_then (exact_in d) (λ w. k (int_le z w && int_le w z))))) ≡ k b
components_tested (Val c) (Val d) b k e = numbers_tested (exact_in c) (exact_in d) b k e
components_tested (Val c) (Fail r) b k e = cc
components_tested (Val c) Wrong b k e = cc
components_tested (Fail r) y b k e = cc
components_tested Wrong y b k e = cc

-- ---- operations that give nothing

module _ (t : List ℕ) (o : Operation) (at : Place) where
  pub assert_ok : (u : Atom) → o ≡ operation.Assert u → Truth_reads t u (Ok true) → Check_told t o at (Ok tt)
  unfolding Check_told Truth_reads operated
  assert_ok u q h G env n rs ss st k = by_gives ss (subst (λ z. Operation_gives G z ss) q k)
    where
      by_truth : TruthTold (truth_at env u) (Ok true) → NoneTold [] (operated env o at) (Ok tt)
      by_truth (truth_told e) = none_told refl (ap (λ z. operated env z at) q ∙ ap (λ z. and_then z (λ b. checked b kind.Assert at (Val []))) e)

      by_gives : (ss : List Sort) → Operation_gives G (operation.Assert u) ss → NoneTold ss (operated env o at) (Ok tt)
      by_gives _ (assert_gives ku) = by_truth (h G env n rs st ku)

  pub assert_failed : (u : Atom) (r : Report) → o ≡ operation.Assert u → Truth_reads t u (Ok false) → r ≡ report kind.Assert at → Check_told t o at (Err (Failed r))
  unfolding Check_told Truth_reads operated
  assert_failed u r q h x G env n rs ss st k = by_gives ss (subst (λ z. Operation_gives G z ss) q k)
    where
      by_truth : TruthTold (truth_at env u) (Ok false) → NoneTold [] (operated env o at) (Err (Failed r))
      by_truth (truth_told e) = none_failed (ap (λ z. operated env z at) q ∙ ap (λ z. and_then z (λ b. checked b kind.Assert at (Val []))) e ∙ ap Fail (sym x))

      by_gives : (ss : List Sort) → Operation_gives G (operation.Assert u) ss → NoneTold ss (operated env o at) (Err (Failed r))
      by_gives _ (assert_gives ku) = by_truth (h G env n rs st ku)

  size_test : (env : Env) (u v : Atom) (b : Bool) → sizes_same env u v ≡ Val b → operated env (operation.CheckSize u v) at ≡ checked b kind.Size at (Val [])
  unfolding operated
  size_test env u v b e = components_tested (value_of env u) (value_of env v) b (λ c. checked c kind.Size at (Val [])) e

  pub size_ok : (u v : Atom) → o ≡ operation.CheckSize u v → Sizes_told t u v (Ok true) → Check_told t o at (Ok tt)
  unfolding Check_told Sizes_told
  size_ok u v q h G env n rs ss st k = by_gives ss (subst (λ z. Operation_gives G z ss) q k)
    where
      by_truth : TruthTold (sizes_same env u v) (Ok true) → NoneTold [] (operated env o at) (Ok tt)
      by_truth (truth_told e) = none_told refl (ap (λ z. operated env z at) q ∙ size_test env u v true e)

      by_gives : (ss : List Sort) → Operation_gives G (operation.CheckSize u v) ss → NoneTold ss (operated env o at) (Ok tt)
      by_gives _ (check_gives {s = s} {t = s'} i j ku kv) = by_truth (h G env n rs s s' st i j ku kv)

  pub size_failed : (u v : Atom) (r : Report) → o ≡ operation.CheckSize u v → Sizes_told t u v (Ok false) → r ≡ report kind.Size at → Check_told t o at (Err (Failed r))
  unfolding Check_told Sizes_told
  size_failed u v r q h x G env n rs ss st k = by_gives ss (subst (λ z. Operation_gives G z ss) q k)
    where
      by_truth : TruthTold (sizes_same env u v) (Ok false) → NoneTold [] (operated env o at) (Err (Failed r))
      by_truth (truth_told e) = none_failed (ap (λ z. operated env z at) q ∙ size_test env u v false e ∙ ap Fail (sym x))

      by_gives : (ss : List Sort) → Operation_gives G (operation.CheckSize u v) ss → NoneTold ss (operated env o at) (Err (Failed r))
      by_gives _ (check_gives {s = s} {t = s'} i j ku kv) = by_truth (h G env n rs s s' st i j ku kv)

  pub check_memory : (e : Stop) → e ≡ Memory → Check_told t o at (Err e)
  unfolding Check_told
  check_memory e q G env n rs ss st k = subst (λ z. NoneTold ss (operated env o at) (Err z)) (sym q) no_none

pub ruleset checks = (assert_ok, assert_failed, size_ok, size_failed, check_memory)

-- ---- steps

kept_words : (n : ℕ) (a : Arena) (t t' s : List ℕ) → ((x : ℕ) → x < n → slice_get t' x ≡ slice_get t x) → Kept n (state a t s) (state a t' s) 0
kept_words n a t t' s h = record { words = h; arrays = λ i b e. e; handed = omega arith }

module _ (o : Operation) (at : Place) (a : Arena) (t t' : List ℕ) (xs : List Var) (budget : ℕ) (s : List ℕ) where
  pub step_one : (x : Var) (w : ℕ) (r : Answer) → xs ≡ x ∷ [] → Operation_told a t o at (Ok w) → Set x.number w t t' r → Step_runs budget (xs, Operate o at) (state a t s) (state a t' s) r
  unfolding Step_runs Operation_told act_means Act_numbered
  step_one x w _ e h not_set G env n mid last st k na u = no_memory_stepped
  step_one x w _ e h (set m q) G env n mid last st k na u = by_act k
    where
      one_sort : (s s' : Sort) → s ∷ [] ≡ s' ∷ [] → s ≡ s'
      one_sort s s' e = cc

      low : n ≤ mid
      low = na

      rises : Upward mid (x.number ∷ []) last
      rises = subst (λ z. Upward mid (map number z) last) e u

      by_told : OneTold (map sort_of xs) (operated env o at) (Ok w) → Stepped (step_means budget (xs, Operate o at) env) (with_vars xs G) n last (state a t s) (state a t' s) (Ok tt)
      by_told (one_told {t = ty} {x = v} p r i j) =
          let so : sort_of x ≡ scalar_sort ty = one_sort (sort_of x) (scalar_sort ty) (sym (ap (map sort_of) e) ∙ p) in
          let sh : Shows a.arrays (sort_of x) (One v) w = subst (λ z. Shows a.arrays z (One v) w) (sym so) (record { scalar = v; is = refl; typed = i; word = j }) in
          let st1 = stands_new G env n a.arrays t x.number (sort_of x) (One v) w st (omega (arith, low, rises.0)) m sh in
          let st2 : Stands (with_vars (x ∷ []) G) ((x.number, One v) ∷ env) last a.arrays t' = subst (Stands (with_vars (x ∷ []) G) ((x.number, One v) ∷ env) last a.arrays) (sym q) (stands_more ((x.number, sort_of x) ∷ G) ((x.number, One v) ∷ env) (suc x.number) last a.arrays (slice_set t x.number w) rises.1 st1) in
          stepped ((x.number, One v) ∷ env) (0 + 0) (subst (λ z. Stands (with_vars z G) ((x.number, One v) ∷ env) last a.arrays t') (sym e) st2)
          (kept_words n a t t' s (λ y l. ap (λ z. slice_get z y) q ∙ get_apart t x.number y w (λ z. absurd (omega (arith, z, l, low, rises.0))))) refl
          (goes_on (the_is (operated env o at) (Val (One v ∷ [])) r) (the_is (or_wrong (bound (map number xs) (One v ∷ []) env)) (Val ((x.number, One v) ∷ env)) (ap (λ z. or_wrong (bound (map number z) (One v ∷ []) env)) e)))

      by_act : Act_gives G (Operate o at) (map sort_of xs) → Stepped (step_means budget (xs, Operate o at) env) (with_vars xs G) n last (state a t s) (state a t' s) (Ok tt)
      by_act (operate_gives g) = by_told (h G env n (map sort_of xs) st g)

  pub step_one_stop : (e : Stop) → Operation_told a t o at (Err e) → Step_runs budget (xs, Operate o at) (state a t s) (state a t' s) (Err e)
  unfolding Step_runs Operation_told act_means Act_numbered
  step_one_stop e h G env n mid last st k na u = by_act k
    where
      by_told : {e : Stop} → OneTold (map sort_of xs) (operated env o at) (Err e) → Stepped (step_means budget (xs, Operate o at) env) (with_vars xs G) n last (state a t s) (state a t' s) (Err e)
      by_told (one_failed {r} p) = step_failed 0 (stops (the_is (operated env o at) (Fail r) p))
      by_told no_one = no_memory_stepped

      by_act : Act_gives G (Operate o at) (map sort_of xs) → Stepped (step_means budget (xs, Operate o at) env) (with_vars xs G) n last (state a t s) (state a t' s) (Err e)
      by_act (operate_gives g) = by_told (h G env n (map sort_of xs) st g)

  pub step_none : (r : Answer) → length xs ≡ 0 → Check_told t o at r → Step_runs budget (xs, Operate o at) (state a t s) (state a t s) r
  unfolding Step_runs Check_told act_means Act_numbered
  step_none r l h G env n mid last st k na u = by_act k
    where
      none : (xs : List Var) → length xs ≡ 0 → xs ≡ []
      none [] l = refl
      none (x ∷ xs) l = absurd (omega arith)

      by_told : {r : Answer} → NoneTold (map sort_of xs) (operated env o at) r → Stepped (step_means budget (xs, Operate o at) env) (with_vars xs G) n last (state a t s) (state a t s) r
      by_told (none_told p q) =
          let e = none xs l in
          let low : n ≤ mid = na in
          let rises : mid ≤ last = subst (λ z. Upward mid (map number z) last) e u in
          stepped env (0 + 0) (subst (λ z. Stands (with_vars z G) env last a.arrays t) (sym e) (stands_more G env n last a.arrays t (omega (arith, low, rises)) st)) (kept_same n (state a t s)) refl
          (goes_on (the_is (operated env o at) (Val []) q) (the_is (or_wrong (bound (map number xs) [] env)) (Val env) (ap (λ z. or_wrong (bound (map number z) [] env)) e)))
      by_told (none_failed {r} p) = step_failed 0 (stops (the_is (operated env o at) (Fail r) p))
      by_told no_none = no_memory_stepped

      by_act : Act_gives G (Operate o at) (map sort_of xs) → Stepped (step_means budget (xs, Operate o at) env) (with_vars xs G) n last (state a t s) (state a t s) r
      by_act (operate_gives g) = by_told (h G env n as_arrays (map sort_of xs) st g)
        where
          as_arrays : List Array
          as_arrays = a.arrays

pub step_memory : (budget : ℕ) (p : List Var × Action) (S S' : State) (e : Stop) → e ≡ Memory → Step_runs budget p S S' (Err e)
unfolding Step_runs
step_memory budget p S S' e q G env n mid last st k na u = subst (λ z. Stepped (step_means budget p env) (with_vars p.0 G) n last S S' (Err z)) (sym q) no_memory_stepped

pub ruleset steps = (step_one, step_one_stop, step_none, step_memory)
