-- `filter` and `partition` are of their sized types: how many rows pass is met.
use Rattle.fut_sizes.specs.Suiting.{Each_all, All_data}
use Rattle.sized_meaning.proofs.Reporting.{truth_fine, each_fine}
use Rattle.sized_meaning.proofs.Ways.{gives_as}
use Rattle.sized_meaning.proofs.Mapping.{gives_each, One_of, alone_every, on_row}
use Rattle.sized_meaning.specs.There.{There}
use Rattle.std.proofs.Common.{◌≡◌, ℕ, List, [], ◌∷◌, length, Bool, true, false, refl, sym, ◌∙◌, subst, arith}
use Rattle.fut_scalar.specs.declared.place.BindId.{BindId}
use Rattle.fut_scalar.specs.declared.place.Place.{Place}
use Rattle.fut_scalar.specs.declared.scalar.ScalarType.TheVariants as sort
use Rattle.fut_flat.specs.declared.prim.Primitive.TheVariants as prim
use Rattle.fut_flat.specs.declared.prim.Ref.{Ref}
use Rattle.fut_types.specs.Types.{Sub}
use Rattle.fut_typing.specs.Names.{Names}
use Rattle.fut_value.specs.Data.{Shape, Datum, Array_datum, datums, listed}
use Rattle.fut_meaning.specs.Arrays.{Counted, each_out, truth_of_datum}
use Rattle.fut_meaning.specs.Datums.{as_value}
use Rattle.fut_meaning.specs.Flats.{FlatValue, flat_names}
use Rattle.fut_meaning.specs.Jobs.{Apply_each, alone, sifted, counting, two_arrays, truths, finished, job}
use Rattle.fut_meaning.specs.Meaning.{plain, called_on, job_of, row_told, Of_function}
use Rattle.fut_meaning.specs.Outcomes.{Out, Val, the, Then, and_then, each_of}
use Rattle.fut_meaning.specs.Values.{Primitive_value, no_value, value_and, Call}
use Rattle.fut_meaning.proofs.Data.{datum_of_as}
use Rattle.fut_meaning.proofs.Safe.{Every}
use Rattle.sized_types.specs.Sizes.{Bound, Size, Level, Fun}
use Rattle.fut_sizes.specs.Primitives.{pair_size, scalar_size}
use Rattle.fut_sizes.specs.Suiting.{Each, Scoped, Data}
use Rattle.fut_sizes.specs.Rules.{Any_free}
use Rattle.sized_meaning.specs.Worth.{Worth, Frames, push}
use Rattle.sized_meaning.specs.Shapes.{Meant, Has_shape, Has_datum}
use Rattle.sized_meaning.specs.Finding.{One_kind_each}
use Rattle.sized_meaning.specs.Fits.{Out_fits, Gives, Fits}
use Rattle.sized_meaning.specs.Law.{Sound, World, told, means, calls}
use Rattle.sized_meaning.proofs.Outcomes.{gives_exact, gives_then}
use Rattle.sized_meaning.proofs.Scalars.{out_then}
use Rattle.sized_meaning.proofs.Datas.{datum_fits}
use Rattle.sized_meaning.proofs.Applications.{evaluates}
use Rattle.sized_meaning.proofs.Known.{one_tells}
use Rattle.sized_meaning.proofs.Mapping.{every_listed, shape_anywhere, datum_anywhere, array_of_rows}
use Rattle.sized_meaning.proofs.First_order.{met_at, met_before, met_here, Met, Given}
use Rattle.sized_meaning.proofs.Row_primitives.{every_as, data_array}

every_sifted : (P : Datum → Type 0) (b : Bool) (ds : List Datum) (bs : List Bool) → Every P ds → Every P (sifted b ds bs)
every_sifted P b [] bs e = tt
every_sifted P b (d ∷ ds) [] e = tt
every_sifted P true (d ∷ ds) (true ∷ bs) e = (e.0, every_sifted P true ds bs e.1)
every_sifted P true (d ∷ ds) (false ∷ bs) e = every_sifted P true ds bs e.1
every_sifted P false (d ∷ ds) (true ∷ bs) e = every_sifted P false ds bs e.1
every_sifted P false (d ∷ ds) (false ∷ bs) e = (e.0, every_sifted P false ds bs e.1)

data_bool : Data (scalar_size sort.Bool)
unfolding Data All_data
data_bool = tt

closed_bool : Each (Scoped Any_free) 0 (scalar_size sort.Bool)
unfolding Each Each_all
closed_bool = tt

module _ (N : Names) (types : Sub) (τ : Meant) (W : World) (S : Sound N types W.sizing) (one : One_kind_each τ) (m : Worth) where
  -- what is made of truth values, whatever they are
  sifted_gives : (P : Datum → Type 0) (Q : FlatValue → Type 0) (f : FlatValue) (rows : List (List Datum)) (k : List Bool → Out Counted) → Gives (There W.is_there) (λ ys. Unit {0}) (each_of (called_on 1 (means W) f) rows) → ((bs : List Bool) → Out_fits (There W.is_there) (λ r. P r.1) (k bs)) → ((d : Datum) → P d → Q (as_value d))
      → Gives (There W.is_there) Q (job_of ((flat_names (told W)).lang W.tops) (plain W.tight) W.budget (means W) 1 f (Apply_each rows (truths k)))
  unfolding plain
  sifted_gives P Q f rows k quiet go out = gives_then P Q (Then (each_of (called_on 1 (means W) f) rows) (finished (truths k))) _
      (gives_then (λ ys. Unit {0}) P (each_of (called_on 1 (means W) f) rows) (finished (truths k)) quiet
      (λ ys u. gives_then (λ (r : Counted). P r.1) P (the (truths k ys)) _
      (gives_exact _ (λ (r : Counted). P r.1) 0 (truths k ys) (out_then _ (λ bs. Unit {0}) (λ (r : Counted). P r.1) (each_out truth_of_datum ys) k (each_fine W.is_there truth_of_datum (λ d. truth_fine W.is_there d) ys) (λ bs u. go bs)))
      (λ r h. gives_exact _ P r.0 (Val r.1) h)))
      (λ d h. gives_exact _ Q 0 (Val (as_value d)) (out d h))

  module _ (a : Size) (data_a : Data a) (closed_a : Each (Scoped Any_free) 0 a) (at : Place) (φ : Frames) (f : FlatValue) (hf : Fits N τ W.sizing W.is_there (calls W) m φ (Fun 0 a (scalar_size sort.Bool)) f) where
    -- some rows, under a frame that counts them
    module _ (G : ℕ → ℕ) (row : Shape) (ds : List Datum) (shaped : Has_shape N τ m (push G φ) a row) (all : Every (Has_datum N τ m (push G φ) a) ds) where
      moved : (G' : ℕ → ℕ) (k : ℕ) (es : List Datum) → length es ≡ G' k → Every (Has_datum N τ m (push G φ) a) es → Has_datum N τ m (push G' φ) (Level (Bound 0 k) a) (Array_datum row (datums es))
      unfolding push
      moved G' k es l e = array_of_rows N types τ W S one m (push G' φ) (Bound 0 k) a row es l (shape_anywhere N types τ W S one m a closed_a (push G φ) (push G' φ) row shaped)
          (every_as (Has_datum N τ m (push G φ) a) (Has_datum N τ m (push G' φ) a) (λ d x. datum_anywhere N types τ W S one m a closed_a (push G φ) (push G' φ) d x) es e)

      passed : (bs : List Bool) → Met N types τ W S one m 1 G φ (Level (Bound 0 2) a) (Array_datum row (datums (sifted true ds bs)))
      passed bs =
          let es : List Datum = sifted true ds bs in
          (met_at 1 G (length es), (λ i l. met_before 1 G (length es) i l), moved (met_at 1 G (length es)) 2 es (sym (met_here 1 G (length es))) (every_sifted (Has_datum N τ m (push G φ) a) true ds bs all))

      parted : (bs : List Bool) → Met N types τ W S one m 1 G φ (pair_size (Level (Bound 0 2) a) (Level (Bound 0 3) a)) (two_arrays row ds bs)
      unfolding Has_datum
      parted bs =
          let es : List Datum = sifted true ds bs in
          let gs : List Datum = sifted false ds bs in
          let G' : ℕ → ℕ = met_at 2 (met_at 1 G (length es)) (length gs) in (
            G',
            (λ i l. met_before 2 (met_at 1 G (length es)) (length gs) i (omega (arith, l)) ∙ met_before 1 G (length es) i l),
            (
              moved G' 2 es (sym (met_before 2 (met_at 1 G (length es)) (length gs) 2 (omega arith) ∙ met_here 1 G (length es))) (every_sifted (Has_datum N τ m (push G φ) a) true ds bs all),
              (moved G' 3 gs (sym (met_here 2 (met_at 1 G (length es)) (length gs))) (every_sifted (Has_datum N τ m (push G φ) a) false ds bs all), tt),
            ),
          )

    -- its function is asked about rows
    asked : (G : ℕ → ℕ) (ds : List Datum) → Every (Has_datum N τ m (push G φ) a) ds → Gives (There W.is_there) (λ ys. Unit {0}) (each_of (called_on 1 (means W) f) (alone ds))
    asked G ds e = gives_as _ (λ ys. Unit {0}) _
        (gives_each (One_of (Has_datum N τ m (push G φ) a)) (Has_datum N τ m (push G φ) (scalar_size sort.Bool)) (called_on 1 (means W) f)
        (λ r x. on_row N types τ W S one m a (scalar_size sort.Bool) data_a data_bool closed_a closed_bool at φ f hf (push G φ) (push G φ) r x) (alone ds) (alone_every (Has_datum N τ m (push G φ) a) ds e))
        (λ ys u. tt)

    filter_job : (G : ℕ → ℕ) (told_row : Shape) (d : Datum) → Has_datum N τ m (push G φ) (Level (Bound 0 0) a) d → Gives (There W.is_there) (Given N types τ W S one m 1 G φ (Level (Bound 0 2) a)) (Then (the (job false told_row prim.Filter at (d ∷ []))) (job_of ((flat_names (told W)).lang W.tops) (plain W.tight) W.budget (means W) 1 f))
    unfolding Has_datum job
    filter_job G told_row (Array_datum row ds) h =
        let rows : List Datum = listed ds in
        let all : Every (Has_datum N τ m (push G φ) a) (listed ds) = every_listed (Has_datum N τ m (push G φ) a) ds h.2 in
        let k : List Bool → Out Counted = λ bs. counting (Array_datum row ds) (Val (Array_datum row (datums (sifted true (listed ds) bs)))) in
        gives_then (λ j. j ≡ Apply_each (alone (listed ds)) (truths (λ bs. counting (Array_datum row ds) (Val (Array_datum row (datums (sifted true (listed ds) bs))))))) (Given N types τ W S one m 1 G φ (Level (Bound 0 2) a)) _ _
        (gives_exact _ (λ j. j ≡ Apply_each (alone (listed ds)) (truths (λ bs. counting (Array_datum row ds) (Val (Array_datum row (datums (sifted true (listed ds) bs))))))) 0 (Val (Apply_each (alone (listed ds)) (truths (λ bs. counting (Array_datum row ds) (Val (Array_datum row (datums (sifted true (listed ds) bs)))))))) refl)
        (λ j q. subst (λ z. Gives (There W.is_there) (Given N types τ W S one m 1 G φ (Level (Bound 0 2) a)) (job_of ((flat_names (told W)).lang W.tops) (plain W.tight) W.budget (means W) 1 f z)) (sym q)
        (sifted_gives (Met N types τ W S one m 1 G φ (Level (Bound 0 2) a)) (Given N types τ W S one m 1 G φ (Level (Bound 0 2) a)) f (alone (listed ds)) (λ bs. counting (Array_datum row ds) (Val (Array_datum row (datums (sifted true (listed ds) bs))))) (asked G (listed ds) all) (λ bs. passed G row (listed ds) h.1 all bs)
        (λ d x. (x.0, x.1, datum_fits N τ W.sizing W.is_there (calls W) m (push x.0 φ) (Level (Bound 0 2) a) (data_array (Bound 0 2) a data_a) (as_value d) d (datum_of_as Ref BindId (Unit {0}) d) x.2))))
    filter_job G told_row d h = absurd h

    data_two : Data (pair_size (Level (Bound 0 2) a) (Level (Bound 0 3) a))
    unfolding Data
    data_two = (data_a, (data_a, tt))

    partition_job : (G : ℕ → ℕ) (told_row : Shape) (d : Datum) → Has_datum N τ m (push G φ) (Level (Bound 0 0) a) d → Gives (There W.is_there) (Given N types τ W S one m 1 G φ (pair_size (Level (Bound 0 2) a) (Level (Bound 0 3) a))) (Then (the (job false told_row prim.Partition at (d ∷ []))) (job_of ((flat_names (told W)).lang W.tops) (plain W.tight) W.budget (means W) 1 f))
    unfolding Has_datum job
    partition_job G told_row (Array_datum row ds) h =
        let all : Every (Has_datum N τ m (push G φ) a) (listed ds) = every_listed (Has_datum N τ m (push G φ) a) ds h.2 in
        gives_then (λ j. j ≡ Apply_each (alone (listed ds)) (truths (λ bs. counting (Array_datum row ds) (Val (two_arrays row (listed ds) bs))))) (Given N types τ W S one m 1 G φ (pair_size (Level (Bound 0 2) a) (Level (Bound 0 3) a))) _ _
        (gives_exact _ (λ j. j ≡ Apply_each (alone (listed ds)) (truths (λ bs. counting (Array_datum row ds) (Val (two_arrays row (listed ds) bs))))) 0 (Val (Apply_each (alone (listed ds)) (truths (λ bs. counting (Array_datum row ds) (Val (two_arrays row (listed ds) bs)))))) refl)
        (λ j q. subst (λ z. Gives (There W.is_there) (Given N types τ W S one m 1 G φ (pair_size (Level (Bound 0 2) a) (Level (Bound 0 3) a))) (job_of ((flat_names (told W)).lang W.tops) (plain W.tight) W.budget (means W) 1 f z)) (sym q)
        (sifted_gives (Met N types τ W S one m 1 G φ (pair_size (Level (Bound 0 2) a) (Level (Bound 0 3) a))) (Given N types τ W S one m 1 G φ (pair_size (Level (Bound 0 2) a) (Level (Bound 0 3) a))) f (alone (listed ds)) (λ bs. counting (Array_datum row ds) (Val (two_arrays row (listed ds) bs))) (asked G (listed ds) all) (λ bs. parted G row (listed ds) h.1 all bs)
        (λ d x. (x.0, x.1, datum_fits N τ W.sizing W.is_there (calls W) m (push x.0 φ) (pair_size (Level (Bound 0 2) a) (Level (Bound 0 3) a)) data_two (as_value d) d (datum_of_as Ref BindId (Unit {0}) d) x.2))))
    partition_job G told_row d h = absurd h

    filter_waits : Fits N τ W.sizing W.is_there (calls W) m φ (Fun 1 (Level (Bound 0 0) a) (Level (Bound 0 2) a)) (Primitive_value prim.Filter at (value_and f no_value))
    unfolding Fits plain Each
    filter_waits = (
      one_tells N τ W.sizing m φ 1 (Level (Bound 0 0) a) (Level (Bound 0 2) a) (Primitive_value prim.Filter at (value_and f no_value)) (data_array (Bound 0 2) a data_a) (refl, λ dr low. absurd (let l = low.0 refl in omega (arith, l))),
      λ G xs e hx. evaluates N types τ W S one (Given N types τ W S one m 1 G φ (Level (Bound 0 2) a)) (Call (Primitive_value prim.Filter at (value_and f no_value)) xs)
          (gives_then (λ ds. ds ≡ hx.datum ∷ []) (Given N types τ W S one m 1 G φ (Level (Bound 0 2) a)) _ _
          (gives_exact _ (λ ds. ds ≡ hx.datum ∷ []) 0 _ (subst (λ o. Out_fits (There W.is_there) (λ ds. ds ≡ hx.datum ∷ []) (and_then o (λ d. and_then (Val []) (λ ds. Val (d ∷ ds))))) (sym hx.is_datum) refl))
          (λ ds q. subst (λ z. Gives (There W.is_there) (Given N types τ W S one m 1 G φ (Level (Bound 0 2) a)) (Then (the (job false (row_told ((flat_names (told W)).lang W.tops) (Of_function prim.Filter f z)) prim.Filter at z)) (job_of ((flat_names (told W)).lang W.tops) (plain W.tight) W.budget (means W) 1 f))) (sym q) (filter_job G _ hx.datum hx.fits))),
    )

    partition_waits : Fits N τ W.sizing W.is_there (calls W) m φ (Fun 1 (Level (Bound 0 0) a) (pair_size (Level (Bound 0 2) a) (Level (Bound 0 3) a))) (Primitive_value prim.Partition at (value_and f no_value))
    unfolding Fits plain Each
    partition_waits = (
      one_tells N τ W.sizing m φ 1 (Level (Bound 0 0) a) (pair_size (Level (Bound 0 2) a) (Level (Bound 0 3) a)) (Primitive_value prim.Partition at (value_and f no_value)) data_two (refl, λ dr low. absurd (let l = (low.0).0 refl in omega (arith, l))),
      λ G xs e hx. evaluates N types τ W S one (Given N types τ W S one m 1 G φ (pair_size (Level (Bound 0 2) a) (Level (Bound 0 3) a))) (Call (Primitive_value prim.Partition at (value_and f no_value)) xs)
          (gives_then (λ ds. ds ≡ hx.datum ∷ []) (Given N types τ W S one m 1 G φ (pair_size (Level (Bound 0 2) a) (Level (Bound 0 3) a))) _ _
          (gives_exact _ (λ ds. ds ≡ hx.datum ∷ []) 0 _ (subst (λ o. Out_fits (There W.is_there) (λ ds. ds ≡ hx.datum ∷ []) (and_then o (λ d. and_then (Val []) (λ ds. Val (d ∷ ds))))) (sym hx.is_datum) refl))
          (λ ds q. subst (λ z. Gives (There W.is_there) (Given N types τ W S one m 1 G φ (pair_size (Level (Bound 0 2) a) (Level (Bound 0 3) a))) (Then (the (job false (row_told ((flat_names (told W)).lang W.tops) (Of_function prim.Partition f z)) prim.Partition at z)) (job_of ((flat_names (told W)).lang W.tops) (plain W.tight) W.budget (means W) 1 f))) (sym q) (partition_job G _ hx.datum hx.fits))),
    )

  pub filter_fits : (a : Size) → Data a → Each (Scoped Any_free) 0 a → (at : Place) (φ : Frames) → Fits N τ W.sizing W.is_there (calls W) m φ (Fun 0 (Fun 0 a (scalar_size sort.Bool)) (Fun 1 (Level (Bound 0 0) a) (Level (Bound 0 2) a))) (Primitive_value prim.Filter at no_value)
  unfolding Fits Has_shape
  filter_fits a d c at φ = (
    (refl, λ known F h hx. absurd hx),
    λ F f e hf. evaluates N types τ W S one (Given N types τ W S one m 0 F φ (Fun 1 (Level (Bound 0 0) a) (Level (Bound 0 2) a))) (Call (Primitive_value prim.Filter at no_value) f)
        (gives_exact _ (Given N types τ W S one m 0 F φ (Fun 1 (Level (Bound 0 0) a) (Level (Bound 0 2) a))) 0 (Val (Primitive_value prim.Filter at (value_and f no_value))) (F, (λ i l. refl), filter_waits a d c at (push F φ) f hf)),
  )

  pub partition_fits : (a : Size) → Data a → Each (Scoped Any_free) 0 a → (at : Place) (φ : Frames) → Fits N τ W.sizing W.is_there (calls W) m φ (Fun 0 (Fun 0 a (scalar_size sort.Bool)) (Fun 1 (Level (Bound 0 0) a) (pair_size (Level (Bound 0 2) a) (Level (Bound 0 3) a)))) (Primitive_value prim.Partition at no_value)
  unfolding Fits Has_shape
  partition_fits a d c at φ = (
    (refl, λ known F h hx. absurd hx),
    λ F f e hf. evaluates N types τ W S one (Given N types τ W S one m 0 F φ (Fun 1 (Level (Bound 0 0) a) (pair_size (Level (Bound 0 2) a) (Level (Bound 0 3) a)))) (Call (Primitive_value prim.Partition at no_value) f)
        (gives_exact _ (Given N types τ W S one m 0 F φ (Fun 1 (Level (Bound 0 0) a) (pair_size (Level (Bound 0 2) a) (Level (Bound 0 3) a)))) 0 (Val (Primitive_value prim.Partition at (value_and f no_value))) (F, (λ i l. refl), partition_waits a d c at (push F φ) f hf)),
  )
