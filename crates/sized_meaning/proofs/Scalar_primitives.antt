-- Primitives on scalars, and sums, products and extremes of arrays of them, are of their sized types.
use Rattle.std.proofs.Common.{Bool as Boolean}
use Rattle.sized_meaning.proofs.Reporting.{scalar_fine}
use Rattle.sized_meaning.specs.There.{There}
use Rattle.std.proofs.Common.{◌≡◌, ℕ, ◌≤◌, List, [], ◌∷◌, false, None, refl, ap, ◌∙◌}
use Rattle.fut_arithmetic.specs.Conversions.{converted}
use Rattle.fut_arithmetic.specs.Operations.{result_of_one}
use Rattle.fut_arithmetic.specs.Types.{type_of, result_type}
use Rattle.fut_scalar.specs.declared.operator.BinOp.{BinOp}
use Rattle.fut_scalar.specs.declared.operator.BinOp.TheVariants as op
use Rattle.fut_scalar.specs.declared.place.Place.{Place}
use Rattle.fut_scalar.specs.declared.scalar.IntType.{IntType}
use Rattle.fut_scalar.specs.declared.scalar.IntType.TheVariants.{I32}
use Rattle.fut_scalar.specs.declared.scalar.Scalar.{Scalar}
use Rattle.fut_scalar.specs.declared.scalar.Scalar.TheVariants as scalar
use Rattle.fut_scalar.specs.declared.scalar.ScalarType.{ScalarType}
use Rattle.fut_scalar.specs.declared.scalar.ScalarType.TheVariants as sort
use Rattle.fut_scalar.specs.declared.place.BindId.{BindId}
use Rattle.fut_flat.specs.declared.prim.Ref.{Ref}
use Rattle.fut_flat.specs.declared.prim.Folding.{Folding}
use Rattle.fut_flat.specs.declared.prim.Folding.TheVariants as folding
use Rattle.fut_flat.specs.declared.prim.Primitive.{Primitive}
use Rattle.fut_flat.specs.declared.prim.Primitive.TheVariants as prim
use Rattle.fut_types.specs.Types.{Sub}
use Rattle.fut_typing.specs.Names.{Names}
use Rattle.fut_value.specs.Data.{Shape, Scalar_shape, Datum, Scalar_datum, Array_datum, listed}
use Rattle.fut_meaning.specs.Arrays.{Counted, fresh, scalar_of_datum}
use Rattle.fut_meaning.specs.Flats.{FlatValue}
use Rattle.fut_meaning.specs.Jobs.{done, combined, job}
use Rattle.fut_meaning.specs.Meaning.{plain}
use Rattle.fut_meaning.specs.Operations.{reported, primitive}
use Rattle.fut_meaning.specs.Operators.{binary_result, unary_result, lowest, highest}
use Rattle.fut_meaning.specs.Outcomes.{Val, the, gives, and_then}
use Rattle.fut_meaning.specs.Telling.{worth_of, by_function, data_told, tells, function_tells, primitive_tells}
use Rattle.fut_meaning.specs.Values.{Scalar_value, Primitive_value, no_value, value_and, Call}
use Rattle.sized_types.specs.Sizes.{Bound, Level, Fun}
use Rattle.fut_sizes.specs.Primitives.{scalar_size}
use Rattle.fut_sizes.specs.Suiting.{Data}
use Rattle.sized_meaning.specs.Worth.{Worth, Frames, push}
use Rattle.sized_meaning.specs.Shapes.{Meant, Has_shape, Has_datum}
use Rattle.sized_meaning.specs.Finding.{One_kind_each}
use Rattle.sized_meaning.specs.Fits.{Out_fits, Gives, Is_scalar, Told_right, Fits}
use Rattle.sized_meaning.specs.Law.{Sound, World, calls}
use Rattle.sized_meaning.proofs.Ways.{gives_as}
use Rattle.sized_meaning.proofs.Outcomes.{gives_exact}
use Rattle.sized_meaning.proofs.Scalars.{out_then, scalars_give, on_scalars_give}
use Rattle.sized_meaning.proofs.Applications.{evaluates}
use Rattle.sized_meaning.proofs.Known.{one_tells}
use Rattle.sized_meaning.proofs.First_order.{Done_with, done_out, Data_one, Runs, Met, Argument_is, one_fits, second_tells}
use Rattle.sized_meaning.proofs.Row_primitives.{data_array}

converted_type : (to : ScalarType) (s : Scalar) → type_of (converted to s) ≡ to
converted_type (sort.Int t) (scalar.Int u n) = refl
converted_type (sort.Int t) (scalar.Bool b) = refl
converted_type sort.Bool (scalar.Int u n) = refl
converted_type sort.Bool (scalar.Bool b) = refl

converted_gives : (is_there : Place → Boolean) (to from : ScalarType) (at : Place) (v : FlatValue) → Is_scalar from v → Out_fits (There is_there) (Is_scalar to) (primitive (prim.Convert to from) at (v ∷ []))
unfolding primitive
converted_gives is_there to from at (Scalar_value s) h = converted_type to s
converted_gives is_there to from at v h = absurd h

abs_gives : (is_there : Place → Boolean) (t : IntType) (at : Place) (v : FlatValue) → Is_scalar (sort.Int t) v → Out_fits (There is_there) (Is_scalar (sort.Int t)) (primitive (prim.Abs t) at (v ∷ []))
unfolding primitive unary_result result_of_one
abs_gives is_there t at (Scalar_value (scalar.Int i n)) h = h
abs_gives is_there t at (Scalar_value (scalar.Bool b)) h = tt
abs_gives is_there t at v h = absurd h

popc_gives : (is_there : Place → Boolean) (t : IntType) (at : Place) (v : FlatValue) → Is_scalar (sort.Int t) v → Out_fits (There is_there) (Is_scalar (sort.Int I32)) (primitive (prim.Popc t) at (v ∷ []))
unfolding primitive unary_result result_of_one
popc_gives is_there t at (Scalar_value (scalar.Int i n)) h = refl
popc_gives is_there t at (Scalar_value (scalar.Bool b)) h = tt
popc_gives is_there t at v h = absurd h

extreme_gives : (is_there : Place → Boolean) (t : IntType) (at : Place) (v w : FlatValue) → Is_scalar (sort.Int t) v → Out_fits (There is_there) (Is_scalar (sort.Int t)) (primitive (prim.Min t) at (v ∷ w ∷ [])) × Out_fits (There is_there) (Is_scalar (sort.Int t)) (primitive (prim.Max t) at (v ∷ w ∷ []))
unfolding primitive
extreme_gives is_there t at v w h = (on_scalars_give is_there op.Min at (sort.Int t) v w h, on_scalars_give is_there op.Max at (sort.Int t) v w h)

-- scalars combined one after the other by an operator that gives what it takes
combined_gives : (is_there : Place → Boolean) (o : BinOp) (c : ScalarType) (at : Place) → result_type o c ≡ c → (s : Scalar) → type_of s ≡ c → (ds : List Datum) → Out_fits (There is_there) (λ r. type_of r ≡ c) (combined o at s ds)
combined_gives is_there o c at q s e [] = e
combined_gives is_there o c at q s e (d ∷ ds) = out_then _ (λ x. Unit {0}) (λ r. type_of r ≡ c) (scalar_of_datum d) (λ x. and_then (reported at (binary_result o s x)) (λ r. combined o at r ds)) (scalar_fine is_there d)
    (λ x u. out_then _ (λ r. type_of r ≡ result_type o (type_of s)) (λ r. type_of r ≡ c) (reported at (binary_result o s x)) (λ r. combined o at r ds) (scalars_give is_there o at s x)
    (λ r h. combined_gives is_there o c at q r (h ∙ ap (result_type o) e ∙ q) ds))

module _ (N : Names) (types : Sub) (τ : Meant) (W : World) (S : Sound N types W.sizing) (one : One_kind_each τ) (m : Worth) where
  scalar_data : (c : ScalarType) → Data (scalar_size c)
  unfolding Data
  scalar_data c = tt

  -- of one scalar, and of two
  module _ (p : Primitive) (at : Place) (φ : Frames) (c r : ScalarType) where
    pub one_scalar_fits : ((Q : FlatValue → Type 0) (v : FlatValue) → Gives (There W.is_there) Q (the (primitive p at (v ∷ []))) → Gives (There W.is_there) Q (calls W (Primitive_value p at no_value) v)) → ((v : FlatValue) → Is_scalar c v → Out_fits (There W.is_there) (Is_scalar r) (primitive p at (v ∷ [])))
        → ((h : Shape) → by_function (function_tells W.sizing {P = Ref} {B = BindId} {S = Unit {0}} no_value) (primitive_tells p ((h, None) ∷ [])) ≡ Scalar_shape r) → Fits N τ W.sizing W.is_there (calls W) m φ (Fun 0 (scalar_size c) (scalar_size r)) (Primitive_value p at no_value)
    unfolding Fits Has_shape Told_right tells data_told
    one_scalar_fits runs law told = (
      (refl, λ known F h hx. told h),
      λ F v e hv. runs (λ w. (F' : ℕ → ℕ) × ((i : ℕ) → i ≤ 0 → F' i ≡ F i) × Is_scalar r w) v (gives_as (Is_scalar r) (λ w. (F' : ℕ → ℕ) × ((i : ℕ) → i ≤ 0 → F' i ≡ F i) × Is_scalar r w) (the (primitive p at (v ∷ []))) (gives_exact _ (Is_scalar r) 0 (primitive p at (v ∷ [])) (law v hv)) (λ w h. (F, (λ i l. refl), h))),
    )

    pub two_scalars_fit : ((Q : FlatValue → Type 0) (v : FlatValue) → Gives (There W.is_there) Q (gives 0 (Primitive_value p at (value_and v no_value))) → Gives (There W.is_there) Q (calls W (Primitive_value p at no_value) v))
        → ((Q : FlatValue → Type 0) (v w : FlatValue) → Gives (There W.is_there) Q (the (primitive p at (v ∷ w ∷ []))) → Gives (There W.is_there) Q (calls W (Primitive_value p at (value_and v no_value)) w))
        → ((v w : FlatValue) → Is_scalar c v → Out_fits (There W.is_there) (Is_scalar r) (primitive p at (v ∷ w ∷ [])))
        → ((h g : Shape) → by_function (function_tells W.sizing {P = Ref} {B = BindId} {S = Unit {0}} no_value) (primitive_tells p ((h, None) ∷ (g, None) ∷ [])) ≡ Scalar_shape r)
        → ((v : FlatValue) (F : ℕ → ℕ) → Fits N τ W.sizing W.is_there (calls W) m (push F φ) (scalar_size c) v → (h g : Shape) → by_function (function_tells W.sizing (value_and v no_value)) (primitive_tells p ((h, worth_of v) ∷ (g, None) ∷ [])) ≡ Scalar_shape r) → Fits N τ W.sizing W.is_there (calls W) m φ (Fun 0 (scalar_size c) (Fun 0 (scalar_size c) (scalar_size r))) (Primitive_value p at no_value)
    unfolding Fits Has_shape Told_right tells data_told
    two_scalars_fit starts runs law none told = (
      (refl, λ known F h hx G g hg. none h g),
      λ F v e hv. starts (λ w. (F' : ℕ → ℕ) × ((i : ℕ) → i ≤ 0 → F' i ≡ F i) × Fits N τ W.sizing W.is_there (calls W) m (push F' φ) (Fun 0 (scalar_size c) (scalar_size r)) w) v
          (gives_exact _ (λ w. (F' : ℕ → ℕ) × ((i : ℕ) → i ≤ 0 → F' i ≡ F i) × Fits N τ W.sizing W.is_there (calls W) m (push F' φ) (Fun 0 (scalar_size c) (scalar_size r)) w) 0 (Val (Primitive_value p at (value_and v no_value))) (
            F,
            (λ i l. refl),
            (
              one_tells N τ W.sizing m (push F φ) 0 (scalar_size c) (scalar_size r) (Primitive_value p at (value_and v no_value)) (scalar_data r) (second_tells N types τ W S one m p at (push F φ) 0 (scalar_size c) (scalar_size c) (scalar_size r) v (scalar_data c) hv (λ G h g hh hg. told v F hv h g) (scalar_data r)),
              λ G w e' hw. runs (λ w. (G' : ℕ → ℕ) × ((i : ℕ) → i ≤ 0 → G' i ≡ G i) × Is_scalar r w) v w (gives_as (Is_scalar r) (λ w. (G' : ℕ → ℕ) × ((i : ℕ) → i ≤ 0 → G' i ≡ G i) × Is_scalar r w) (the (primitive p at (v ∷ w ∷ []))) (gives_exact _ (Is_scalar r) 0 (primitive p at (v ∷ w ∷ [])) (law v w hv)) (λ w h. (G, (λ i l. refl), h))),
            ),
          )),
    )

  module _ (at : Place) (φ : Frames) where
    pub convert_fits : (to from : ScalarType) → Fits N τ W.sizing W.is_there (calls W) m φ (Fun 0 (scalar_size from) (scalar_size to)) (Primitive_value (prim.Convert to from) at no_value)
    unfolding plain primitive_tells
    convert_fits to from = one_scalar_fits (prim.Convert to from) at φ from to (λ Q v h. evaluates N types τ W S one Q (Call (Primitive_value (prim.Convert to from) at no_value) v) h) (λ v h. converted_gives W.is_there to from at v h) (λ h. refl)

    pub abs_fits : (t : IntType) → Fits N τ W.sizing W.is_there (calls W) m φ (Fun 0 (scalar_size (sort.Int t)) (scalar_size (sort.Int t))) (Primitive_value (prim.Abs t) at no_value)
    unfolding plain primitive_tells
    abs_fits t = one_scalar_fits (prim.Abs t) at φ (sort.Int t) (sort.Int t) (λ Q v h. evaluates N types τ W S one Q (Call (Primitive_value (prim.Abs t) at no_value) v) h) (λ v h. abs_gives W.is_there t at v h) (λ h. refl)

    pub popc_fits : (t : IntType) → Fits N τ W.sizing W.is_there (calls W) m φ (Fun 0 (scalar_size (sort.Int t)) (scalar_size (sort.Int I32))) (Primitive_value (prim.Popc t) at no_value)
    unfolding plain primitive_tells
    popc_fits t = one_scalar_fits (prim.Popc t) at φ (sort.Int t) (sort.Int I32) (λ Q v h. evaluates N types τ W S one Q (Call (Primitive_value (prim.Popc t) at no_value) v) h) (λ v h. popc_gives W.is_there t at v h) (λ h. refl)

    pub min_fits : (t : IntType) → Fits N τ W.sizing W.is_there (calls W) m φ (Fun 0 (scalar_size (sort.Int t)) (Fun 0 (scalar_size (sort.Int t)) (scalar_size (sort.Int t)))) (Primitive_value (prim.Min t) at no_value)
    unfolding plain primitive_tells
    min_fits t = two_scalars_fit (prim.Min t) at φ (sort.Int t) (sort.Int t) (λ Q v h. evaluates N types τ W S one Q (Call (Primitive_value (prim.Min t) at no_value) v) h)
        (λ Q v w h. evaluates N types τ W S one Q (Call (Primitive_value (prim.Min t) at (value_and v no_value)) w) h) (λ v w h. (extreme_gives W.is_there t at v w h).0) (λ h g. refl) (λ v F hv h g. refl)

    pub max_fits : (t : IntType) → Fits N τ W.sizing W.is_there (calls W) m φ (Fun 0 (scalar_size (sort.Int t)) (Fun 0 (scalar_size (sort.Int t)) (scalar_size (sort.Int t)))) (Primitive_value (prim.Max t) at no_value)
    unfolding plain primitive_tells
    max_fits t = two_scalars_fit (prim.Max t) at φ (sort.Int t) (sort.Int t) (λ Q v h. evaluates N types τ W S one Q (Call (Primitive_value (prim.Max t) at no_value) v) h)
        (λ Q v w h. evaluates N types τ W S one Q (Call (Primitive_value (prim.Max t) at (value_and v no_value)) w) h) (λ v w h. (extreme_gives W.is_there t at v w h).1) (λ h g. refl) (λ v F hv h g. refl)

    -- ---- an array of scalars, combined

    combined_out : (F : ℕ → ℕ) (o : BinOp) (t : IntType) (s : Scalar) (ds : List Datum) → result_type o (sort.Int t) ≡ sort.Int t → type_of s ≡ sort.Int t → Out_fits (There W.is_there) (Done_with (Met N types τ W S one m 1 F φ (scalar_size (sort.Int t)))) (done (and_then (combined o at s ds) (λ s. fresh (Scalar_datum s))))
    unfolding Has_datum
    combined_out F o t s ds q e = done_out _ (Met N types τ W S one m 1 F φ (scalar_size (sort.Int t))) (and_then (combined o at s ds) (λ s. fresh (Scalar_datum s)))
        (out_then _ (λ r. type_of r ≡ sort.Int t) (λ (r : Counted). Met N types τ W S one m 1 F φ (scalar_size (sort.Int t)) r.1) (combined o at s ds) (λ s. fresh (Scalar_datum s)) (combined_gives W.is_there o (sort.Int t) at q s e ds) (λ r h. (F, (λ i l. refl), h)))

    fold_job : (k : Folding) (t : IntType) (F : ℕ → ℕ) (told : Shape) (d : Datum) → Argument_is N types τ W S one m 1 F φ (Level (Bound 0 0) (scalar_size (sort.Int t))) d → Out_fits (There W.is_there) (Done_with (Met N types τ W S one m 1 F φ (scalar_size (sort.Int t)))) (job false told (prim.Fold k t) at (d ∷ []))
    unfolding job Has_datum
    fold_job folding.Sum t F told (Array_datum row ds) x = combined_out F op.Add t (scalar.Int t 0) (listed ds) refl refl
    fold_job folding.Product t F told (Array_datum row ds) x = combined_out F op.Mul t (scalar.Int t 1) (listed ds) refl refl
    fold_job folding.Minimum t F told (Array_datum row ds) x = combined_out F op.Min t (scalar.Int t (highest t)) (listed ds) refl refl
    fold_job folding.Maximum t F told (Array_datum row ds) x = combined_out F op.Max t (scalar.Int t (lowest t)) (listed ds) refl refl
    fold_job k t F told d x = absurd x.1

    fold_runs : (k : Folding) (t : IntType) (Q : FlatValue → Type 0) (v : FlatValue) → Gives (There W.is_there) Q (Runs N types τ W S one m (prim.Fold k t) at (Data_one v)) → Gives (There W.is_there) Q (calls W (Primitive_value (prim.Fold k t) at no_value) v)
    unfolding plain
    fold_runs folding.Sum t Q v h = evaluates N types τ W S one Q (Call (Primitive_value (prim.Fold folding.Sum t) at no_value) v) h
    fold_runs folding.Product t Q v h = evaluates N types τ W S one Q (Call (Primitive_value (prim.Fold folding.Product t) at no_value) v) h
    fold_runs folding.Minimum t Q v h = evaluates N types τ W S one Q (Call (Primitive_value (prim.Fold folding.Minimum t) at no_value) v) h
    fold_runs folding.Maximum t Q v h = evaluates N types τ W S one Q (Call (Primitive_value (prim.Fold folding.Maximum t) at no_value) v) h

    pub fold_fits : (k : Folding) (t : IntType) → Fits N τ W.sizing W.is_there (calls W) m φ (Fun 1 (Level (Bound 0 0) (scalar_size (sort.Int t))) (scalar_size (sort.Int t))) (Primitive_value (prim.Fold k t) at no_value)
    unfolding tells data_told primitive_tells Has_shape
    fold_fits k t = one_fits N types τ W S one m (prim.Fold k t) at φ 1 (Level (Bound 0 0) (scalar_size (sort.Int t))) (scalar_size (sort.Int t)) (data_array (Bound 0 0) (scalar_size (sort.Int t)) (scalar_data (sort.Int t))) (scalar_data (sort.Int t))
        (λ Q v h. fold_runs k t Q v h) (λ F told d x. fold_job k t F told d x) (refl, λ dr low F h hx. refl)
