-- Arrays of integers that are combined by an operator.
use Rattle.std.proofs.Common.{◌≡◌, ℕ, suc, ◌+◌, ◌<◌, ◌≤◌, ◌^◌, List, [], ◌∷◌, length, get_or, drop, Some, None, Ok, Err, Result, true, false, cond, refl, sym, ap, ◌∙◌, subst, arith, add-one}
use Rattle.std.proofs.Math.Nat.{mod-eq_of_lt}
use Rattle.std.proofs.Math.Pow.{pow_pos}
use Rattle.std.proofs.Math.Seq.{drop-cons}
use Rattle.fut_scalar.specs.Integers.{FitsType, width_of}
use Rattle.fut_scalar.specs.Reports.{kind_of}
use Rattle.fut_scalar.specs.declared.operator.BinOp.{BinOp}
use Rattle.fut_scalar.specs.declared.operator.BinOp.TheVariants as binary
use Rattle.fut_scalar.specs.declared.operator.ScalarFault.{ScalarFault}
use Rattle.fut_scalar.specs.declared.place.Place.{Place}
use Rattle.fut_scalar.specs.declared.report.FailKind.{FailKind}
use Rattle.fut_scalar.specs.declared.scalar.IntType.{IntType}
use Rattle.fut_scalar.specs.declared.scalar.IntType.TheVariants.{I8, I16, I32, I64, U8, U16, U32, U64}
use Rattle.fut_scalar.specs.declared.scalar.Scalar.{Scalar}
use Rattle.fut_scalar.specs.declared.scalar.Scalar.TheVariants as scalar
use Rattle.fut_scalar.specs.declared.scalar.ScalarType.{ScalarType}
use Rattle.fut_scalar.specs.declared.scalar.ScalarType.TheVariants as sort
use Rattle.fut_arithmetic.specs.Operations.{result_of}
use Rattle.fut_arithmetic.specs.Types.{IsDefined, IsOf, result_type, type_of}
use Rattle.fut_arithmetic.specs.Words.{scalar_of_word}
use Rattle.fut_flat.specs.declared.prim.Folding.{Folding}
use Rattle.fut_flat.specs.declared.prim.Folding.TheVariants as folding
use Rattle.fut_flat.specs.declared.prim.Primitive.TheVariants as prim
use Rattle.fut_value.specs.Data.{Unmet_shape, Datum, Scalar_datum, Scalar_shape, Shape, shape_of, array_words}
use Rattle.fut_meaning.specs.Arrays.{rows_of, fresh}
use Rattle.fut_meaning.specs.Jobs.{Done, done, combined, job, summary}
use Rattle.fut_meaning.specs.Operations.{report, reported}
use Rattle.fut_meaning.specs.Operators.{binary_result, by_kind, is_same_type, highest, lowest}
use Rattle.fut_meaning.specs.Outcomes.{Val, Fail, and_then}
use Rattle.array_data.specs.declared.form.Form.{Form}
use Rattle.array_data.specs.declared.data.Data.{Data}
use Rattle.array_data.specs.declared.data.Data.TheVariants as hold
use Rattle.array_data.specs.declared.stop.Stop.{Stop}
use Rattle.array_data.specs.declared.stop.Stop.TheVariants.{Failed}
use Rattle.array_data.specs.Answers.{Tells, told, report_told, no_memory_told, lost, Does, does, does_fail, does_memory, does_lost}
use Rattle.array_data.specs.Held.{fitted, scalars, held, held_all, as_held, shape_held}
use Rattle.array_data.proofs.Forms.{drop_past, listed_datums}
use Rattle.array_data.proofs.Holding.{held_scalar, held_words, held_rows}

-- ---- one operation

same_type : (t : IntType) → is_same_type t t ≡ true
same_type I8 = refl
same_type I16 = refl
same_type I32 = refl
same_type I64 = refl
same_type U8 = refl
same_type U16 = refl
same_type U32 = refl
same_type U64 = refl

defined_result : (op : BinOp) (a b : Scalar) → IsDefined op (type_of a) → type_of b ≡ type_of a → binary_result op a b ≡ Some (by_kind (result_of op a b))
unfolding binary_result
defined_result op (scalar.Int t m) (scalar.Int u n) d e =
    let q : t ≡ u = cc in
    ap (λ z. cond z (Some (by_kind (result_of op (scalar.Int t m) (scalar.Int u n)))) None) (ap (is_same_type t) (sym q) ∙ same_type t)
defined_result op (scalar.Int t m) (scalar.Bool b) d e = cc
defined_result op (scalar.Bool a) (scalar.Int u n) d e = cc
defined_result binary.Eq (scalar.Bool a) (scalar.Bool b) d e = refl
defined_result binary.Ne (scalar.Bool a) (scalar.Bool b) d e = refl
defined_result op (scalar.Bool a) (scalar.Bool b) d e = absurd d

module _ (op : BinOp) (at : Place) (a b : Scalar) where
  pub operation_ok : (v : Scalar) → IsDefined op (type_of a) → type_of b ≡ type_of a → Ok v ≡ result_of op a b → Tells (reported at (binary_result op a b)) (Ok v)
  operation_ok v d e h = told (ap (reported at) (defined_result op a b d e) ∙ ap (λ z. reported at (Some (by_kind z))) (sym h))

  pub operation_err : (f : ScalarFault) (k : FailKind) → IsDefined op (type_of a) → type_of b ≡ type_of a → Err f ≡ result_of op a b → k ≡ kind_of f → Tells {A = Scalar} (reported at (binary_result op a b)) (Err (Failed (report k at)))
  operation_err f k d e h q = report_told (ap (reported at) (defined_result op a b d e) ∙ ap (λ z. reported at (Some (by_kind z))) (sym h) ∙ ap (λ z. Fail (report z at)) (sym q))

pub ruleset operations = (operation_ok, operation_err)

-- ---- one after the other

-- what the rest comes to from here on, all come to
unfoldable pub Combined_to : BinOp → Place → IntType → Scalar → List ℕ → ℕ → Scalar → Type 0
Combined_to op at t s0 ws i s = ((r : Result Scalar Stop) → Tells (combined op at s (scalars (sort.Int t) (drop i ws))) r → Tells (combined op at s0 (scalars (sort.Int t) ws)) r) × IsOf (sort.Int t) s

module _ (op : BinOp) (at : Place) (t : IntType) (s0 : Scalar) (ws : List ℕ) where
  pub combine_start : IsOf (sort.Int t) s0 → Combined_to op at t s0 ws 0 s0
  unfolding Combined_to
  combine_start h = ((λ r k. k), h)

  module _ (i : ℕ) (s : Scalar) (h : Combined_to op at t s0 ws i s) where
    pub combine_defined : IsDefined op (type_of s)
    unfolding Combined_to
    combine_defined = subst (λ z. IsDefined op z) (sym h.1.0) tt

    pub combine_type : (b : Scalar) → IsOf (sort.Int t) b → type_of b ≡ type_of s
    unfolding Combined_to
    combine_type b k = k.0 ∙ sym h.1.0

    pub combine_fits : FitsType s
    unfolding Combined_to
    combine_fits = h.1.1

    pub combine_end : length ws ≤ i → Tells (combined op at s0 (scalars (sort.Int t) ws)) (Ok s)
    unfolding Combined_to scalars
    combine_end l = h.0 (Ok s) (told (ap (λ z. combined op at s (scalars (sort.Int t) z)) (drop_past ws i l)))

    module _ (k : ℕ) (b : Scalar) (l : i < length ws) (e : b ≡ scalar_of_word (sort.Int t) (get_or ws i k)) where
      combine_here : combined op at s (scalars (sort.Int t) (drop i ws)) ≡ and_then (reported at (binary_result op s b)) (λ r. combined op at r (scalars (sort.Int t) (drop (suc i) ws)))
      unfolding scalars
      combine_here = ap (λ z. combined op at s (scalars (sort.Int t) z)) (drop-cons ws i k l) ∙ ap (λ z. and_then (reported at (binary_result op s z)) (λ r. combined op at r (scalars (sort.Int t) (drop (suc i) ws)))) (sym e)

      pub combine_more : (v : Scalar) → result_type op (sort.Int t) ≡ sort.Int t → Tells (reported at (binary_result op s b)) (Ok v) → IsOf (result_type op (type_of s)) v → Combined_to op at t s0 ws (i + 1) v
      unfolding Combined_to
      combine_more v c q o = (
        (λ r g. h.0 r (rest r q (subst (λ z. Tells (combined op at v (scalars (sort.Int t) (drop z ws))) r) (add-one i) g))),
        subst (λ z. IsOf z v) (ap (result_type op) h.1.0 ∙ c) o,
      )
        where
          rest : (r : Result Scalar Stop) → Tells (reported at (binary_result op s b)) (Ok v) → Tells (combined op at v (scalars (sort.Int t) (drop (suc i) ws))) r → Tells (combined op at s (scalars (sort.Int t) (drop i ws))) r
          rest r (told q) g = subst (λ z. Tells z r) (sym (combine_here ∙ ap (λ z. and_then z (λ r. combined op at r (scalars (sort.Int t) (drop (suc i) ws)))) q)) g
          rest r (lost q) g = lost (combine_here ∙ ap (λ z. and_then z (λ r. combined op at r (scalars (sort.Int t) (drop (suc i) ws)))) q)

      pub combine_stop : (x : Stop) → Tells (reported at (binary_result op s b)) (Err x) → Tells (combined op at s0 (scalars (sort.Int t) ws)) (Err x)
      unfolding Combined_to
      combine_stop x q = h.0 (Err x) (rest q)
        where
          rest : {x : Stop} → Tells (reported at (binary_result op s b)) (Err x) → Tells (combined op at s (scalars (sort.Int t) (drop i ws))) (Err x)
          rest (report_told q) = report_told (combine_here ∙ ap (λ z. and_then z (λ r. combined op at r (scalars (sort.Int t) (drop (suc i) ws)))) q)
          rest no_memory_told = no_memory_told
          rest (lost q) = lost (combine_here ∙ ap (λ z. and_then z (λ r. combined op at r (scalars (sort.Int t) (drop (suc i) ws)))) q)

pub ruleset combinations = (combine_start, combine_defined, combine_type, combine_fits, combine_more, combine_stop, combine_end)

-- ---- arrays

fits_whole : (s : Scalar) → FitsType s → fitted s ≡ s
fits_whole (scalar.Int t n) l = ap (scalar.Int t) (mod-eq_of_lt l)
fits_whole (scalar.Bool b) l = refl

module _ (op : BinOp) (at : Place) (s0 : Scalar) (d : Data) where
  summed : (h : Shape) (ds : List Datum) → rows_of (held d) ≡ Val (h, ds) → summary op at s0 (held d) ≡ done (and_then (combined op at s0 ds) (λ s. fresh (Scalar_datum s)))
  summed h ds q = ap (λ z. and_then z (λ r. done (and_then (combined op at s0 r.1) (λ s. fresh (Scalar_datum s))))) q

  module _ (t u : ScalarType) (ws vs : List ℕ) (e : d ≡ hold.Words t ws) (q : t ≡ u) (p : vs ≡ ws) where
    words_summed : summary op at s0 (held d) ≡ done (and_then (combined op at s0 (scalars u vs)) (λ s. fresh (Scalar_datum s)))
    words_summed = summed (Scalar_shape t) (scalars t ws) (ap rows_of (ap held e ∙ held_words t ws) ∙ ap (λ z. Val (Scalar_shape t, z)) (listed_datums (scalars t ws)))
        ∙ ap (λ z. done (and_then (combined op at s0 (scalars z ws)) (λ s. fresh (Scalar_datum s)))) q ∙ ap (λ z. done (and_then (combined op at s0 (scalars u z)) (λ s. fresh (Scalar_datum s)))) (sym p)

    pub summary_done : (v : Scalar) → FitsType v → Tells (combined op at s0 (scalars u vs)) (Ok v) → Does (summary op at s0 (held d)) (as_held (Ok (hold.Scalar v)))
    summary_done v f (told x) = does {c = array_words (shape_of (Scalar_datum v))} {d = held (hold.Scalar v)} (words_summed ∙ ap (λ z. done (and_then z (λ s. fresh (Scalar_datum s)))) x
        ∙ ap (λ z. Val (Done (array_words (shape_of (Scalar_datum v)), z))) (sym (held_scalar v ∙ ap Scalar_datum (fits_whole v f))))
    summary_done v f (lost x) = does_lost (words_summed ∙ ap (λ z. done (and_then z (λ s. fresh (Scalar_datum s)))) x)

    pub summary_stop : (x : Stop) → Tells (combined op at s0 (scalars u vs)) (Err x) → Does (summary op at s0 (held d)) (as_held (Err x))
    summary_stop _ (report_told x) = does_fail (words_summed ∙ ap (λ z. done (and_then z (λ s. fresh (Scalar_datum s)))) x)
    summary_stop _ no_memory_told = does_memory
    summary_stop _ (lost x) = does_lost (words_summed ∙ ap (λ z. done (and_then z (λ s. fresh (Scalar_datum s)))) x)

  pub summary_none : (n : ℕ) (h : Form) (ds : List Data) → FitsType s0 → d ≡ hold.Rows n h ds → length ds ≤ 0 → Does (summary op at s0 (held d)) (as_held (Ok (hold.Scalar s0)))
  unfolding held_all
  summary_none n h ds f e l = does {c = array_words (shape_of (Scalar_datum s0))} {d = held (hold.Scalar s0)}
      (summed (shape_held h) (held_all ds) (ap rows_of (ap held e ∙ held_rows n h ds) ∙ ap (λ z. Val (shape_held h, z)) (listed_datums (held_all ds))) ∙ by_rows ds l
      ∙ ap (λ z. Val (Done (array_words (shape_of (Scalar_datum s0)), z))) (sym (held_scalar s0 ∙ ap Scalar_datum (fits_whole s0 f))))
    where
      by_rows : (ds : List Data) → length ds ≤ 0 → done (and_then (combined op at s0 (held_all ds)) (λ s. fresh (Scalar_datum s))) ≡ done (fresh (Scalar_datum s0))
      by_rows [] l = refl
      by_rows (c ∷ cs) l = absurd (omega arith)

pub ruleset summaries = (summary_done, summary_stop, summary_none, does_memory)

-- ---- which primitive

pub zero_fits : (t : IntType) → 0 < 2 ^ width_of t
zero_fits t = pow_pos (width_of t)

pub one_fits : (t : IntType) → 1 < 2 ^ width_of t
one_fits I8 = omega arith
one_fits I16 = omega arith
one_fits I32 = omega arith
one_fits I64 = omega arith
one_fits U8 = omega arith
one_fits U16 = omega arith
one_fits U32 = omega arith
one_fits U64 = omega arith

pub lowest_fits : (t : IntType) (n : ℕ) → n ≡ lowest t → n < 2 ^ width_of t
lowest_fits I8 n e = omega arith
lowest_fits I16 n e = omega arith
lowest_fits I32 n e = omega arith
lowest_fits I64 n e = omega arith
lowest_fits U8 n e = omega arith
lowest_fits U16 n e = omega arith
lowest_fits U32 n e = omega arith
lowest_fits U64 n e = omega arith

pub highest_fits : (t : IntType) (n : ℕ) → n ≡ highest t → n < 2 ^ width_of t
highest_fits I8 n e = omega arith
highest_fits I16 n e = omega arith
highest_fits I32 n e = omega arith
highest_fits I64 n e = omega arith
highest_fits U8 n e = omega arith
highest_fits U16 n e = omega arith
highest_fits U32 n e = omega arith
highest_fits U64 n e = omega arith

module _ (f : Folding) (t : IntType) (at : Place) (d : Datum) (r : Result Datum Stop) where
  as_this : (g : Folding) → f ≡ g → Does (job false Unmet_shape (prim.Fold g t) at (d ∷ [])) r → Does (job false Unmet_shape (prim.Fold f t) at (d ∷ [])) r
  as_this g e h = subst (λ z. Does (job false Unmet_shape (prim.Fold z t) at (d ∷ [])) r) (sym e) h

  pub as_sum : f ≡ folding.Sum → Does (summary binary.Add at (scalar.Int t 0) d) r → Does (job false Unmet_shape (prim.Fold f t) at (d ∷ [])) r
  unfolding job
  as_sum e h = as_this folding.Sum e h

  pub as_product : f ≡ folding.Product → Does (summary binary.Mul at (scalar.Int t 1) d) r → Does (job false Unmet_shape (prim.Fold f t) at (d ∷ [])) r
  unfolding job
  as_product e h = as_this folding.Product e h

  pub as_minimum : (n : ℕ) → f ≡ folding.Minimum → n ≡ highest t → Does (summary binary.Min at (scalar.Int t n) d) r → Does (job false Unmet_shape (prim.Fold f t) at (d ∷ [])) r
  unfolding job
  as_minimum n e q h = as_this folding.Minimum e (subst (λ z. Does (summary binary.Min at (scalar.Int t z) d) r) q h)

  pub as_maximum : (n : ℕ) → f ≡ folding.Maximum → n ≡ lowest t → Does (summary binary.Max at (scalar.Int t n) d) r → Does (job false Unmet_shape (prim.Fold f t) at (d ∷ [])) r
  unfolding job
  as_maximum n e q h = as_this folding.Maximum e (subst (λ z. Does (summary binary.Max at (scalar.Int t z) d) r) q h)

pub ruleset folds = (zero_fits, one_fits, lowest_fits, highest_fits, as_sum, as_product, as_minimum, as_maximum)
