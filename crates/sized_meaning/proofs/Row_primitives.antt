-- Primitives that give rows of an array, or make one of data, are of their sized types.
use Rattle.sized_meaning.proofs.Quiet.{out_of_bounds, bad_range, too_large}
use Rattle.sized_meaning.proofs.Alone.{shape_alone}
use Rattle.sized_meaning.proofs.Misfits.{fits_here, shown_same}
use Rattle.sized_meaning.specs.There.{There}
use Rattle.std.specs.Prelude.{ℤ, pos, negsuc, nat_le, take, drop, reverse, replicate, unsigned_abs, not}
use Rattle.std.specs.Int.{int_rem_euclid}
use Rattle.std.proofs.Common.{◌≡◌, ℕ, zero, suc, ◌+◌, List, [], ◌∷◌, ◌++◌, length, Bool, true, false, cond, nat_eq, refl, sym, ap, ◌∙◌, subst, arith}
use Rattle.std.proofs.lemmas.List.{length-append, length-reverse, length-replicate, reverse-append}
use Rattle.fut_scalar.specs.Integers.{integer_of}
use Rattle.fut_scalar.specs.declared.place.Place.{Place}
use Rattle.fut_scalar.specs.declared.report.FailKind.TheVariants as kind
use Rattle.fut_scalar.specs.declared.scalar.IntType.TheVariants.{I64}
use Rattle.fut_scalar.specs.declared.scalar.Scalar.TheVariants as scalar
use Rattle.fut_scalar.specs.declared.scalar.ScalarType.TheVariants as sort
use Rattle.fut_flat.specs.declared.prim.Primitive.TheVariants as prim
use Rattle.fut_flat.specs.declared.prim.Ref.{Ref}
use Rattle.fut_scalar.specs.declared.place.BindId.{BindId}
use Rattle.fut_types.specs.Types.{Sub}
use Rattle.fut_typing.specs.Names.{Names}
use Rattle.fut_value.specs.Data.{Shape, Scalar_shape, Tuple_shape, Record_shape, Array_shape, Unmet_shape, Datum, Scalar_datum, Array_datum, Datums, datums, listed, shape_of, weight}
use Rattle.fut_meaning.specs.Accessors.{count_of}
use Rattle.fut_meaning.specs.Arrays.{most_words, or_bounds, shared, fresh, all_fresh, all_shared, array_of, fitting}
use Rattle.fut_meaning.specs.Flats.{FlatValue}
use Rattle.fut_meaning.specs.Jobs.{Job, i64_shape, numbers_from, done, sized, or_met, either_row, shown_to_agree, all_but_last, last_of, first_of_rows, some_rows, counted_rows, of_weight, job}
use Rattle.fut_meaning.specs.Meaning.{plain}
use Rattle.fut_meaning.specs.Outcomes.{Out, and_then}
use Rattle.fut_meaning.specs.Found.{count}
use Rattle.fut_meaning.specs.Telling.{worth_of, data_told, tells, primitive_tells}
use Rattle.fut_meaning.specs.Values.{Scalar_value, Primitive_value, no_value, value_and, Call}
use Rattle.fut_meaning.proofs.Safe.{Every}
use Rattle.sized_types.specs.Sizes.{Dim, Bound, Size, Level, Fun}
use Rattle.fut_sizes.specs.Primitives.{scalar_size}
use Rattle.fut_sizes.specs.Scopes.{i64_size}
use Rattle.fut_sizes.specs.Suiting.{Each, Scoped, Data}
use Rattle.fut_sizes.specs.Rules.{Any_free}
use Rattle.sized_meaning.specs.Worth.{Worth, Frames, push, number}
use Rattle.sized_meaning.specs.Shapes.{Meant, Every_datum, Has_shape, Has_datum}
use Rattle.sized_meaning.specs.Finding.{One_kind_each}
use Rattle.sized_meaning.specs.Fits.{Out_fits, word, Chosen_in, Known_result, Fits}
use Rattle.sized_meaning.specs.Law.{Sound, World, calls}
use Rattle.sized_meaning.proofs.Ways.{out_as}
use Rattle.sized_meaning.proofs.Datas.{datum_shaped}
use Rattle.sized_meaning.proofs.Applications.{evaluates}
use Rattle.sized_meaning.proofs.Reducing.{every_both}
use Rattle.sized_meaning.proofs.Mapping.{every_listed, shape_anywhere, datum_anywhere, array_of_rows}
use Rattle.sized_meaning.proofs.First_order.{met_at, met_before, met_here, Done_with, done_out, checked_out, fresh_out, shared_out, rows_made, Met, no_more, Argument_is, one_fits, two_fits, second_tells}

-- ---- lists

pub every_as : {A : Type 0} (P Q : A → Type 0) → ((x : A) → P x → Q x) → (xs : List A) → Every P xs → Every Q xs
every_as P Q go [] e = tt
every_as P Q go (x ∷ xs) e = (go x e.0, every_as P Q go xs e.1)

pub every_taken : {A : Type 0} (P : A → Type 0) (n : ℕ) (xs : List A) → Every P xs → Every P (take n xs)
every_taken P zero xs e = tt
every_taken P (suc n) [] e = tt
every_taken P (suc n) (x ∷ xs) e = (e.0, every_taken P n xs e.1)

pub every_dropped : {A : Type 0} (P : A → Type 0) (n : ℕ) (xs : List A) → Every P xs → Every P (drop n xs)
every_dropped P zero xs e = e
every_dropped P (suc n) [] e = tt
every_dropped P (suc n) (x ∷ xs) e = every_dropped P n xs e.1

pub every_reversed : (P : Datum → Type 0) (xs : List Datum) → Every P xs → Every P (reverse xs)
every_reversed P [] e = tt
every_reversed P (x ∷ xs) e = subst (Every P) (sym (reverse-append (x ∷ []) xs)) (every_both P (reverse xs) (x ∷ []) (every_reversed P xs e.1) (e.0, tt))

every_repeated : {A : Type 0} (P : A → Type 0) (n : ℕ) (x : A) → P x → Every P (replicate n x)
every_repeated P zero x h = tt
every_repeated P (suc n) x h = (h, every_repeated P n x h)

both_long : {A : Type 0} (n : ℕ) (xs : List A) → length (drop n xs) + length (take n xs) ≡ length xs
both_long zero xs = omega arith
both_long (suc n) [] = refl
both_long (suc n) (x ∷ xs) = let z = both_long n xs in omega (arith, z)

around_long : {A : Type 0} (n : ℕ) (xs : List A) → length (drop n xs ++ take n xs) ≡ length xs
around_long n xs = length-append (drop n xs) (take n xs) ∙ both_long n xs

every_but_last : (P : Datum → Type 0) (xs : List Datum) → Every P xs → Every P (all_but_last xs)
every_but_last P [] e = tt
every_but_last P (x ∷ []) e = tt
every_but_last P (x ∷ y ∷ xs) e = (e.0, every_but_last P (y ∷ xs) e.1)

first_out : (is_there : Place → Bool) (P : Datum → Type 0) (at : Place) (xs : List Datum) → Every P xs → Out_fits (There is_there) P (or_bounds at (first_of_rows xs))
first_out is_there P at [] e = out_of_bounds is_there at
first_out is_there P at (x ∷ xs) e = e.0

last_out : (is_there : Place → Bool) (P : Datum → Type 0) (at : Place) (xs : List Datum) → Every P xs → Out_fits (There is_there) P (or_bounds at (last_of xs))
last_out is_there P at [] e = out_of_bounds is_there at
last_out is_there P at (x ∷ []) e = e.0
last_out is_there P at (x ∷ y ∷ xs) e = last_out is_there P at (y ∷ xs) e.1

pub many_numbers : (k i : ℕ) → length (numbers_from k i) ≡ k
many_numbers zero i = refl
many_numbers (suc k) i = ap suc (many_numbers k (suc i))

pub data_array : (x : Dim) (b : Size) → Data b → Data (Level x b)
unfolding Data
data_array x b d = d

pub data_i64 : Data i64_size
unfolding Data
data_i64 = tt

module _ (N : Names) (types : Sub) (τ : Meant) (W : World) (S : Sound N types W.sizing) (one : One_kind_each τ) (m : Worth) where
  pub numbers_are : (φ : Frames) (k i : ℕ) → Every (Has_datum N τ m φ i64_size) (numbers_from k i)
  unfolding Has_datum
  numbers_are φ zero i = tt
  numbers_are φ (suc k) i = (refl, numbers_are φ k (suc i))

  module _ (a : Size) (data_a : Data a) (closed_a : Each (Scoped Any_free) 0 a) (at : Place) (φ : Frames) where
    data_A : Data (Level (Bound 0 0) a)
    data_A = data_array (Bound 0 0) a data_a

    -- rows, as many as a size says
    pub rows_met : (k : ℕ) (F : ℕ → ℕ) (x : Dim) (row : Shape) (ds : List Datum) → length ds ≡ number m (push F φ) x → Has_shape N τ m (push F φ) a row → Every (Has_datum N τ m (push F φ) a) ds → Out_fits (There W.is_there) (Met N types τ W S one m k F φ (Level x a)) (array_of at row ds)
    rows_met k F x row ds l h e = out_as _ (Has_datum N τ m (push F φ) (Level x a)) (Met N types τ W S one m k F φ (Level x a)) (array_of at row ds) (λ d y. no_more N types τ W S one m k F φ (Level x a) d y) (rows_made N types τ W S one m (push F φ) x a at row ds l h e)

    -- rows, as many as are met
    pub some_met : (k : ℕ) (F : ℕ → ℕ) (row : Shape) (ds : List Datum) → Has_shape N τ m (push F φ) a row → Every (Has_datum N τ m (push F φ) a) ds → Out_fits (There W.is_there) (Met N types τ W S one m k F φ (Level (Bound 0 (suc k)) a)) (array_of at row ds)
    unfolding push
    some_met k F row ds h e =
        let F' : ℕ → ℕ = met_at k F (length ds) in
        out_as _ (Has_datum N τ m (push F' φ) (Level (Bound 0 (suc k)) a)) (Met N types τ W S one m k F φ (Level (Bound 0 (suc k)) a)) (array_of at row ds)
        (λ d y. (F', (λ i l. met_before k F (length ds) i l), y))
        (rows_made N types τ W S one m (push F' φ) (Bound 0 (suc k)) a at row ds (sym (met_here k F (length ds))) (shape_anywhere N types τ W S one m a closed_a (push F φ) (push F' φ) row h)
        (every_as (Has_datum N τ m (push F φ) a) (Has_datum N τ m (push F' φ) a) (λ d y. datum_anywhere N types τ W S one m a closed_a (push F φ) (push F' φ) d y) ds e))

    pub new_rows : (k : ℕ) (F : ℕ → ℕ) (r : Size) (row : Shape) (ds : List Datum) → Out_fits (There W.is_there) (Met N types τ W S one m k F φ r) (array_of at row ds) → Out_fits (There W.is_there) (Done_with (Met N types τ W S one m k F φ r)) (done (all_fresh (array_of at row ds)))
    new_rows k F r row ds h = done_out _ (Met N types τ W S one m k F φ r) (all_fresh (array_of at row ds)) (fresh_out _ (Met N types τ W S one m k F φ r) (array_of at row ds) h)

    old_rows : (k : ℕ) (F : ℕ → ℕ) (r : Size) (row : Shape) (ds : List Datum) → Out_fits (There W.is_there) (Met N types τ W S one m k F φ r) (array_of at row ds) → Out_fits (There W.is_there) (Done_with (Met N types τ W S one m k F φ r)) (done (all_shared (array_of at row ds)))
    old_rows k F r row ds h = done_out _ (Met N types τ W S one m k F φ r) (all_shared (array_of at row ds)) (shared_out _ (Met N types τ W S one m k F φ r) (array_of at row ds) h)

    -- a row
    one_row : (F : ℕ → ℕ) (o : Out Datum) → Out_fits (There W.is_there) (Has_datum N τ m (push F φ) a) o → Out_fits (There W.is_there) (Done_with (Met N types τ W S one m 1 F φ a)) (done (and_then o shared))
    one_row F o h = done_out _ (Met N types τ W S one m 1 F φ a) (and_then o shared) (shared_out _ (Met N types τ W S one m 1 F φ a) o (out_as _ (Has_datum N τ m (push F φ) a) (Met N types τ W S one m 1 F φ a) o (λ d y. no_more N types τ W S one m 1 F φ a d y) h))

    pub every_row : (F : ℕ → ℕ) (ds : Datums) → Every_datum (Has_datum N τ m (push F φ) a) ds → Every (Has_datum N τ m (push F φ) a) (listed ds)
    every_row F ds h = every_listed (Has_datum N τ m (push F φ) a) ds h

    -- ---- of one array

    reverse_job : (F : ℕ → ℕ) (told : Shape) (d : Datum) → Argument_is N types τ W S one m 1 F φ (Level (Bound 0 0) a) d → Out_fits (There W.is_there) (Done_with (Met N types τ W S one m 1 F φ (Level (Bound 0 0) a))) (job false told prim.Reverse at (d ∷ []))
    unfolding Has_datum Has_shape job
    reverse_job F told (Array_datum row ds) x = new_rows 1 F (Level (Bound 0 0) a) row (reverse (listed ds)) (rows_met 1 F (Bound 0 0) row (reverse (listed ds)) (length-reverse (listed ds) ∙ (x.1).0) (x.1).1 (every_reversed (Has_datum N τ m (push F φ) a) (listed ds) (every_row F ds (x.1).2)))
    reverse_job F told d x = absurd x.1

    pub reverse_fits : Fits N τ W.sizing W.is_there (calls W) m φ (Fun 1 (Level (Bound 0 0) a) (Level (Bound 0 0) a)) (Primitive_value prim.Reverse at no_value)
    unfolding plain tells data_told primitive_tells
    reverse_fits = one_fits N types τ W S one m prim.Reverse at φ 1 (Level (Bound 0 0) a) (Level (Bound 0 0) a) data_A data_A (λ Q v h. evaluates N types τ W S one Q (Call (Primitive_value prim.Reverse at no_value) v) h) reverse_job (refl, λ dr low F h hx. hx)

    indices_job : (F : ℕ → ℕ) (told : Shape) (d : Datum) → Argument_is N types τ W S one m 1 F φ (Level (Bound 0 0) a) d → Out_fits (There W.is_there) (Done_with (Met N types τ W S one m 1 F φ (Level (Bound 0 0) i64_size))) (job false told prim.Indices at (d ∷ []))
    unfolding Has_datum Has_shape job
    indices_job F told (Array_datum row ds) x = (F, (λ i l. refl), array_of_rows N types τ W S one m (push F φ) (Bound 0 0) i64_size i64_shape (numbers_from (length (listed ds)) 0) (many_numbers (length (listed ds)) 0 ∙ (x.1).0) refl (numbers_are (push F φ) (length (listed ds)) 0))
    indices_job F told d x = absurd x.1

    indices_shape : (F : ℕ → ℕ) (h : Shape) → Has_shape N τ m (push F φ) (Level (Bound 0 0) a) h → Has_shape N τ m (push F φ) (Level (Bound 0 0) i64_size) (tells W.sizing {P = Ref} {B = BindId} {S = Unit {0}} (Primitive_value prim.Indices at no_value) (h ∷ []))
    unfolding tells data_told primitive_tells Has_shape
    indices_shape F (Array_shape n row) hx = (hx.0, refl)
    indices_shape F h hx = absurd hx

    pub indices_fits : Fits N τ W.sizing W.is_there (calls W) m φ (Fun 1 (Level (Bound 0 0) a) (Level (Bound 0 0) i64_size)) (Primitive_value prim.Indices at no_value)
    unfolding plain
    indices_fits = one_fits N types τ W S one m prim.Indices at φ 1 (Level (Bound 0 0) a) (Level (Bound 0 0) i64_size) data_A (data_array (Bound 0 0) i64_size data_i64) (λ Q v h. evaluates N types τ W S one Q (Call (Primitive_value prim.Indices at no_value) v) h) indices_job (refl, λ dr low F h hx. indices_shape F h hx)

    null_job : (F : ℕ → ℕ) (told : Shape) (d : Datum) → Argument_is N types τ W S one m 1 F φ (Level (Bound 0 0) a) d → Out_fits (There W.is_there) (Done_with (Met N types τ W S one m 1 F φ (scalar_size sort.Bool))) (job false told prim.Null at (d ∷ []))
    unfolding Has_datum Has_shape job
    null_job F told (Array_datum row ds) x = (F, (λ i l. refl), refl)
    null_job F told d x = absurd x.1

    pub null_fits : Fits N τ W.sizing W.is_there (calls W) m φ (Fun 1 (Level (Bound 0 0) a) (scalar_size sort.Bool)) (Primitive_value prim.Null at no_value)
    unfolding plain tells data_told primitive_tells Has_shape Data Each
    null_fits = one_fits N types τ W S one m prim.Null at φ 1 (Level (Bound 0 0) a) (scalar_size sort.Bool) data_A tt (λ Q v h. evaluates N types τ W S one Q (Call (Primitive_value prim.Null at no_value) v) h) null_job (refl, λ dr low F h hx. refl)

    head_job : (F : ℕ → ℕ) (told : Shape) (d : Datum) → Argument_is N types τ W S one m 1 F φ (Level (Bound 0 0) a) d → Out_fits (There W.is_there) (Done_with (Met N types τ W S one m 1 F φ a)) (job false told prim.Head at (d ∷ []))
    unfolding Has_datum Has_shape job
    head_job F told (Array_datum row ds) x = one_row F (or_bounds at (first_of_rows (listed ds))) (first_out W.is_there (Has_datum N τ m (push F φ) a) at (listed ds) (every_row F ds (x.1).2))
    head_job F told d x = absurd x.1

    head_shape : (F : ℕ → ℕ) (h : Shape) → Has_shape N τ m (push F φ) (Level (Bound 0 0) a) h → Has_shape N τ m (push F φ) a (tells W.sizing {P = Ref} {B = BindId} {S = Unit {0}} (Primitive_value prim.Head at no_value) (h ∷ []))
    unfolding tells data_told primitive_tells Has_shape
    head_shape F (Array_shape n row) hx = hx.1
    head_shape F h hx = absurd hx

    pub head_fits : Fits N τ W.sizing W.is_there (calls W) m φ (Fun 1 (Level (Bound 0 0) a) a) (Primitive_value prim.Head at no_value)
    unfolding plain
    head_fits = one_fits N types τ W S one m prim.Head at φ 1 (Level (Bound 0 0) a) a data_A data_a (λ Q v h. evaluates N types τ W S one Q (Call (Primitive_value prim.Head at no_value) v) h) head_job (refl, λ dr low F h hx. head_shape F h hx)

    last_job : (F : ℕ → ℕ) (told : Shape) (d : Datum) → Argument_is N types τ W S one m 1 F φ (Level (Bound 0 0) a) d → Out_fits (There W.is_there) (Done_with (Met N types τ W S one m 1 F φ a)) (job false told prim.Last at (d ∷ []))
    unfolding Has_datum Has_shape job
    last_job F told (Array_datum row ds) x = one_row F (or_bounds at (last_of (listed ds))) (last_out W.is_there (Has_datum N τ m (push F φ) a) at (listed ds) (every_row F ds (x.1).2))
    last_job F told d x = absurd x.1

    last_shape : (F : ℕ → ℕ) (h : Shape) → Has_shape N τ m (push F φ) (Level (Bound 0 0) a) h → Has_shape N τ m (push F φ) a (tells W.sizing {P = Ref} {B = BindId} {S = Unit {0}} (Primitive_value prim.Last at no_value) (h ∷ []))
    unfolding tells data_told primitive_tells Has_shape
    last_shape F (Array_shape n row) hx = hx.1
    last_shape F h hx = absurd hx

    pub last_fits : Fits N τ W.sizing W.is_there (calls W) m φ (Fun 1 (Level (Bound 0 0) a) a) (Primitive_value prim.Last at no_value)
    unfolding plain
    last_fits = one_fits N types τ W S one m prim.Last at φ 1 (Level (Bound 0 0) a) a data_A data_a (λ Q v h. evaluates N types τ W S one Q (Call (Primitive_value prim.Last at no_value) v) h) last_job (refl, λ dr low F h hx. last_shape F h hx)

    init_job : (F : ℕ → ℕ) (told : Shape) (d : Datum) → Argument_is N types τ W S one m 1 F φ (Level (Bound 0 0) a) d → Out_fits (There W.is_there) (Done_with (Met N types τ W S one m 1 F φ (Level (Bound 0 2) a))) (job false told prim.Init at (d ∷ []))
    unfolding Has_datum Has_shape job
    init_job F told (Array_datum row ds) x = checked_out _ (Done_with (Met N types τ W S one m 1 F φ (Level (Bound 0 2) a))) (not (nat_eq (length (listed ds)) 0)) kind.Bounds at (out_of_bounds W.is_there at) (some_rows at row (all_but_last (listed ds)))
        (old_rows 1 F (Level (Bound 0 2) a) row (all_but_last (listed ds)) (some_met 1 F row (all_but_last (listed ds)) (x.1).1 (every_but_last (Has_datum N τ m (push F φ) a) (listed ds) (every_row F ds (x.1).2))))
    init_job F told d x = absurd x.1

    pub init_fits : Fits N τ W.sizing W.is_there (calls W) m φ (Fun 1 (Level (Bound 0 0) a) (Level (Bound 0 2) a)) (Primitive_value prim.Init at no_value)
    unfolding plain Each
    init_fits = one_fits N types τ W S one m prim.Init at φ 1 (Level (Bound 0 0) a) (Level (Bound 0 2) a) data_A (data_array (Bound 0 2) a data_a) (λ Q v h. evaluates N types τ W S one Q (Call (Primitive_value prim.Init at no_value) v) h) init_job (refl, λ dr low. absurd (let l = low.0 refl in omega (arith, l)))

    tail_job : (F : ℕ → ℕ) (told : Shape) (d : Datum) → Argument_is N types τ W S one m 1 F φ (Level (Bound 0 0) a) d → Out_fits (There W.is_there) (Done_with (Met N types τ W S one m 1 F φ (Level (Bound 0 2) a))) (job false told prim.Tail at (d ∷ []))
    unfolding Has_datum Has_shape job
    tail_job F told (Array_datum row ds) x = checked_out _ (Done_with (Met N types τ W S one m 1 F φ (Level (Bound 0 2) a))) (not (nat_eq (length (listed ds)) 0)) kind.Bounds at (out_of_bounds W.is_there at) (some_rows at row (drop 1 (listed ds)))
        (old_rows 1 F (Level (Bound 0 2) a) row (drop 1 (listed ds)) (some_met 1 F row (drop 1 (listed ds)) (x.1).1 (every_dropped (Has_datum N τ m (push F φ) a) 1 (listed ds) (every_row F ds (x.1).2))))
    tail_job F told d x = absurd x.1

    pub tail_fits : Fits N τ W.sizing W.is_there (calls W) m φ (Fun 1 (Level (Bound 0 0) a) (Level (Bound 0 2) a)) (Primitive_value prim.Tail at no_value)
    unfolding plain Each
    tail_fits = one_fits N types τ W S one m prim.Tail at φ 1 (Level (Bound 0 0) a) (Level (Bound 0 2) a) data_A (data_array (Bound 0 2) a data_a) (λ Q v h. evaluates N types τ W S one Q (Call (Primitive_value prim.Tail at no_value) v) h) tail_job (refl, λ dr low. absurd (let l = low.0 refl in omega (arith, l)))

    copy_job : (F : ℕ → ℕ) (told : Shape) (d : Datum) → Argument_is N types τ W S one m 0 F φ a d → Out_fits (There W.is_there) (Done_with (Met N types τ W S one m 0 F φ a)) (job false told prim.Copy at (d ∷ []))
    unfolding job
    copy_job F told d x = (F, (λ i l. refl), x.1)

    pub copy_fits : Fits N τ W.sizing W.is_there (calls W) m φ (Fun 0 a a) (Primitive_value prim.Copy at no_value)
    unfolding plain tells data_told primitive_tells
    copy_fits = one_fits N types τ W S one m prim.Copy at φ 0 a a data_a data_a (λ Q v h. evaluates N types τ W S one Q (Call (Primitive_value prim.Copy at no_value) v) h) copy_job (refl, λ dr low F h hx. hx)

  -- ---- of two arguments
  module _ (a : Size) (data_a : Data a) (closed_a : Each (Scoped Any_free) 0 a) (at : Place) (φ : Frames) where
    data_B : Data (Level (Bound 0 0) a)
    data_B = data_array (Bound 0 0) a data_a

    -- a number of rows is worth what the argument is
    pub counted_worth : (F : ℕ → ℕ) (v : FlatValue) → F 0 ≡ word v → Fits N τ W.sizing W.is_there (calls W) m (push F φ) i64_size v → count (worth_of v) ≡ F 0
    unfolding Fits word
    counted_worth F (Scalar_value (scalar.Int t n)) e h = sym e
    counted_worth F (Scalar_value (scalar.Bool c)) e h = absurd (let z : sort.Bool ≡ sort.Int I64 = h in cc)
    counted_worth F v e h = absurd h

    take_job : (F G : ℕ → ℕ) (told : Shape) (d e : Datum) → Argument_is N types τ W S one m 0 F φ i64_size d → Argument_is N types τ W S one m 1 G (push F φ) (Level (Bound 0 0) a) e → Out_fits (There W.is_there) (Done_with (Met N types τ W S one m 1 G (push F φ) (Level (Bound 0 2) a))) (job false told prim.Take at (d ∷ e ∷ []))
    unfolding Has_datum Has_shape job push word
    take_job F G told (Scalar_datum (scalar.Int t n)) (Array_datum row ds) x y = rows_counted (integer_of t n)
      where
        rows_counted : (z : ℤ) → Out_fits (There W.is_there) (Done_with (Met N types τ W S one m 1 G (push F φ) (Level (Bound 0 2) a))) (counted_rows at z (row, listed ds) (λ k. take k (listed ds)))
        rows_counted (negsuc k) = out_of_bounds W.is_there at
        rows_counted (pos k) = checked_out _ (Done_with (Met N types τ W S one m 1 G (push F φ) (Level (Bound 0 2) a))) (nat_le k (length (listed ds))) kind.Bounds at (out_of_bounds W.is_there at) (some_rows at row (take k (listed ds)))
            (old_rows a data_a closed_a at (push F φ) 1 G (Level (Bound 0 2) a) row (take k (listed ds)) (some_met a data_a closed_a at (push F φ) 1 G row (take k (listed ds)) (y.1).1 (every_taken (Has_datum N τ m (push G (push F φ)) a) k (listed ds) (every_row a data_a closed_a at (push F φ) G ds (y.1).2))))
    take_job F G told (Scalar_datum (scalar.Bool c)) e x y = tt
    take_job F G told (Scalar_datum (scalar.Int t n)) e x y = absurd y.1
    take_job F G told d e x y = absurd x.1

    pub take_fits : Fits N τ W.sizing W.is_there (calls W) m φ (Fun 0 i64_size (Fun 1 (Level (Bound 0 0) a) (Level (Bound 0 2) a))) (Primitive_value prim.Take at no_value)
    unfolding plain Each Known_result Chosen_in
    take_fits = two_fits N types τ W S one m prim.Take at φ 0 1 i64_size (Level (Bound 0 0) a) (Level (Bound 0 2) a) data_i64 data_B (data_array (Bound 0 2) a data_a)
        (λ Q v h. evaluates N types τ W S one Q (Call (Primitive_value prim.Take at no_value) v) h) (λ Q v w h. evaluates N types τ W S one Q (Call (Primitive_value prim.Take at (value_and v no_value)) w) h) take_job
        (λ known F h hh G g hg. absurd (let l = known.1.0 in omega (arith, l))) (λ F v e h. (refl, λ dr low. absurd (let l = low.0 refl in omega (arith, l))))

    drop_job : (F G : ℕ → ℕ) (told : Shape) (d e : Datum) → Argument_is N types τ W S one m 0 F φ i64_size d → Argument_is N types τ W S one m 1 G (push F φ) (Level (Bound 0 0) a) e → Out_fits (There W.is_there) (Done_with (Met N types τ W S one m 1 G (push F φ) (Level (Bound 0 2) a))) (job false told prim.Drop at (d ∷ e ∷ []))
    unfolding Has_datum Has_shape job push word
    drop_job F G told (Scalar_datum (scalar.Int t n)) (Array_datum row ds) x y = rows_counted (integer_of t n)
      where
        rows_counted : (z : ℤ) → Out_fits (There W.is_there) (Done_with (Met N types τ W S one m 1 G (push F φ) (Level (Bound 0 2) a))) (counted_rows at z (row, listed ds) (λ k. drop k (listed ds)))
        rows_counted (negsuc k) = out_of_bounds W.is_there at
        rows_counted (pos k) = checked_out _ (Done_with (Met N types τ W S one m 1 G (push F φ) (Level (Bound 0 2) a))) (nat_le k (length (listed ds))) kind.Bounds at (out_of_bounds W.is_there at) (some_rows at row (drop k (listed ds)))
            (old_rows a data_a closed_a at (push F φ) 1 G (Level (Bound 0 2) a) row (drop k (listed ds)) (some_met a data_a closed_a at (push F φ) 1 G row (drop k (listed ds)) (y.1).1 (every_dropped (Has_datum N τ m (push G (push F φ)) a) k (listed ds) (every_row a data_a closed_a at (push F φ) G ds (y.1).2))))
    drop_job F G told (Scalar_datum (scalar.Bool c)) e x y = tt
    drop_job F G told (Scalar_datum (scalar.Int t n)) e x y = absurd y.1
    drop_job F G told d e x y = absurd x.1

    pub drop_fits : Fits N τ W.sizing W.is_there (calls W) m φ (Fun 0 i64_size (Fun 1 (Level (Bound 0 0) a) (Level (Bound 0 2) a))) (Primitive_value prim.Drop at no_value)
    unfolding plain Each Known_result Chosen_in
    drop_fits = two_fits N types τ W S one m prim.Drop at φ 0 1 i64_size (Level (Bound 0 0) a) (Level (Bound 0 2) a) data_i64 data_B (data_array (Bound 0 2) a data_a)
        (λ Q v h. evaluates N types τ W S one Q (Call (Primitive_value prim.Drop at no_value) v) h) (λ Q v w h. evaluates N types τ W S one Q (Call (Primitive_value prim.Drop at (value_and v no_value)) w) h) drop_job
        (λ known F h hh G g hg. absurd (let l = known.1.0 in omega (arith, l))) (λ F v e h. (refl, λ dr low. absurd (let l = low.0 refl in omega (arith, l))))

    rotate_job : (F G : ℕ → ℕ) (told : Shape) (d e : Datum) → Argument_is N types τ W S one m 0 F φ i64_size d → Argument_is N types τ W S one m 1 G (push F φ) (Level (Bound 0 0) a) e → Out_fits (There W.is_there) (Done_with (Met N types τ W S one m 1 G (push F φ) (Level (Bound 0 0) a))) (job false told prim.Rotate at (d ∷ e ∷ []))
    unfolding Has_datum Has_shape job push word
    rotate_job F G told (Scalar_datum (scalar.Int t n)) (Array_datum row ds) x y =
        let k : ℕ = unsigned_abs (int_rem_euclid (integer_of t n) (pos (length (listed ds)))) in
        new_rows a data_a closed_a at (push F φ) 1 G (Level (Bound 0 0) a) row (drop k (listed ds) ++ take k (listed ds)) (rows_met a data_a closed_a at (push F φ) 1 G (Bound 0 0) row (drop k (listed ds) ++ take k (listed ds)) (around_long k (listed ds) ∙ (y.1).0) (y.1).1
        (every_both (Has_datum N τ m (push G (push F φ)) a) (drop k (listed ds)) (take k (listed ds)) (every_dropped (Has_datum N τ m (push G (push F φ)) a) k (listed ds) (every_row a data_a closed_a at (push F φ) G ds (y.1).2)) (every_taken (Has_datum N τ m (push G (push F φ)) a) k (listed ds) (every_row a data_a closed_a at (push F φ) G ds (y.1).2))))
    rotate_job F G told (Scalar_datum (scalar.Bool c)) e x y = tt
    rotate_job F G told (Scalar_datum (scalar.Int t n)) e x y = absurd y.1
    rotate_job F G told d e x y = absurd x.1

    pub rotate_fits : Fits N τ W.sizing W.is_there (calls W) m φ (Fun 0 i64_size (Fun 1 (Level (Bound 0 0) a) (Level (Bound 0 0) a))) (Primitive_value prim.Rotate at no_value)
    unfolding plain primitive_tells
    rotate_fits = two_fits N types τ W S one m prim.Rotate at φ 0 1 i64_size (Level (Bound 0 0) a) (Level (Bound 0 0) a) data_i64 data_B data_B
        (λ Q v h. evaluates N types τ W S one Q (Call (Primitive_value prim.Rotate at no_value) v) h) (λ Q v w h. evaluates N types τ W S one Q (Call (Primitive_value prim.Rotate at (value_and v no_value)) w) h) rotate_job
        (λ known F h hh G g hg. hg) (λ F v e h. second_tells N types τ W S one m prim.Rotate at (push F φ) 1 i64_size (Level (Bound 0 0) a) (Level (Bound 0 0) a) v data_i64 h (λ G h g hh hg. hg) data_B)

    replicate_job : (F G : ℕ → ℕ) (told : Shape) (d e : Datum) → Argument_is N types τ W S one m 0 F φ i64_size d → Argument_is N types τ W S one m 0 G (push F φ) a e → Out_fits (There W.is_there) (Done_with (Met N types τ W S one m 0 G (push F φ) (Level (Bound 1 0) a))) (job false told prim.Replicate at (d ∷ e ∷ []))
    unfolding Has_datum Has_shape job push word
    replicate_job F G told (Scalar_datum (scalar.Int t n)) e x y = repeated (integer_of t n) x.0
      where
        repeated : (z : ℤ) → F 0 ≡ count_of z → Out_fits (There W.is_there) (Done_with (Met N types τ W S one m 0 G (push F φ) (Level (Bound 1 0) a))) (sized at z (λ k. of_weight at (Array_shape k (shape_of e)) (done (fresh (Array_datum (shape_of e) (datums (replicate k e)))))))
        repeated (negsuc k) q = bad_range W.is_there at
        repeated (pos k) q = checked_out _ (Done_with (Met N types τ W S one m 0 G (push F φ) (Level (Bound 1 0) a))) (nat_le (weight (Array_shape k (shape_of e))) most_words) kind.TooLarge at (too_large W.is_there at) (done (fresh (Array_datum (shape_of e) (datums (replicate k e)))))
            (G, (λ i l. refl), array_of_rows N types τ W S one m (push G (push F φ)) (Bound 1 0) a (shape_of e) (replicate k e) (length-replicate k e ∙ sym q) (datum_shaped N τ m (push G (push F φ)) a e y.1) (every_repeated (Has_datum N τ m (push G (push F φ)) a) k e y.1))
    replicate_job F G told (Scalar_datum (scalar.Bool c)) e x y = tt
    replicate_job F G told d e x y = absurd x.1

    pub replicate_fits : Fits N τ W.sizing W.is_there (calls W) m φ (Fun 0 i64_size (Fun 0 a (Level (Bound 1 0) a))) (Primitive_value prim.Replicate at no_value)
    unfolding plain primitive_tells Has_shape push Each Known_result Chosen_in
    replicate_fits = two_fits N types τ W S one m prim.Replicate at φ 0 0 i64_size a (Level (Bound 1 0) a) data_i64 data_a (data_array (Bound 1 0) a data_a)
        (λ Q v h. evaluates N types τ W S one Q (Call (Primitive_value prim.Replicate at no_value) v) h) (λ Q v w h. evaluates N types τ W S one Q (Call (Primitive_value prim.Replicate at (value_and v no_value)) w) h) replicate_job
        (λ known F h hh G g hg. absurd (let l = known.1.0 in omega (arith, l))) (λ F v e h. second_tells N types τ W S one m prim.Replicate at (push F φ) 0 i64_size a (Level (Bound 1 0) a) v data_i64 h (λ G h' g hh hg. (counted_worth F v e h, hg)) (data_array (Bound 1 0) a data_a))

    or_met_shape : (ψ : Frames) (h g : Shape) → Has_shape N τ m ψ a h → Has_shape N τ m ψ a g → Has_shape N τ m ψ a (or_met h g)
    or_met_shape ψ (Scalar_shape s) g x y = x
    or_met_shape ψ (Tuple_shape hs) g x y = x
    or_met_shape ψ (Record_shape hs) g x y = x
    or_met_shape ψ (Array_shape n h) g x y = x
    or_met_shape ψ Unmet_shape g x y = y

    either_shape : (ψ : Frames) (h g : Shape) (ds es : List Datum) → Has_shape N τ m ψ a h → Has_shape N τ m ψ a g → Has_shape N τ m ψ a (either_row (h, ds) (g, es))
    either_shape ψ h g ds es x y = tested (nat_eq (length ds) 0) (nat_eq (length es) 0)
      where
        tested : (b c : Bool) → Has_shape N τ m ψ a (cond b (cond c (or_met h g) g) h)
        tested true true = or_met_shape ψ h g x y
        tested true false = y
        tested false c = x

    pub fitting_out : (P : Job → Type 0) (b : Bool) (o : Out Job) → b ≡ true → Out_fits (There W.is_there) P o → Out_fits (There W.is_there) P (fitting false b at o)
    fitting_out P b o e h = subst (λ z. Out_fits (There W.is_there) P z) (sym (fits_here false b at o e)) h

    concat_job : (F G : ℕ → ℕ) (told : Shape) (d e : Datum) → Argument_is N types τ W S one m 1 F φ (Level (Bound 0 0) a) d → Argument_is N types τ W S one m 1 G (push F φ) (Level (Bound 0 0) a) e → Out_fits (There W.is_there) (Done_with (Met N types τ W S one m 1 G (push F φ) (Level (Bound 0 2) a))) (job false told prim.Concat at (d ∷ e ∷ []))
    unfolding Has_datum Has_shape job push word
    concat_job F G told (Array_datum row ds) (Array_datum row' es) x y =
        let h : Has_shape N τ m (push G (push F φ)) a row = shape_anywhere N types τ W S one m a closed_a (push F φ) (push G (push F φ)) row (x.1).1 in
        let front : Every (Has_datum N τ m (push G (push F φ)) a) (listed ds) = every_as (Has_datum N τ m (push F φ) a) (Has_datum N τ m (push G (push F φ)) a) (λ d z. datum_anywhere N types τ W S one m a closed_a (push F φ) (push G (push F φ)) d z) (listed ds) (every_row a data_a closed_a at φ F ds (x.1).2) in
        fitting_out (Done_with (Met N types τ W S one m 1 G (push F φ) (Level (Bound 0 2) a))) (shown_to_agree (row, listed ds) (row', listed es)) (done (all_fresh (array_of at (either_row (row, listed ds) (row', listed es)) (listed ds ++ listed es)))) (shown_same (row, listed ds) (row', listed es) (shape_alone N τ m (push G (push F φ)) a row row' h (y.1).1))
        (new_rows a data_a closed_a at (push F φ) 1 G (Level (Bound 0 2) a) (either_row (row, listed ds) (row', listed es)) (listed ds ++ listed es)
        (some_met a data_a closed_a at (push F φ) 1 G (either_row (row, listed ds) (row', listed es)) (listed ds ++ listed es) (either_shape (push G (push F φ)) row row' (listed ds) (listed es) h (y.1).1)
        (every_both (Has_datum N τ m (push G (push F φ)) a) (listed ds) (listed es) front (every_row a data_a closed_a at (push F φ) G es (y.1).2))))
    concat_job F G told (Array_datum row ds) e x y = absurd y.1
    concat_job F G told d e x y = absurd x.1

    pub concat_fits : Fits N τ W.sizing W.is_there (calls W) m φ (Fun 1 (Level (Bound 0 0) a) (Fun 1 (Level (Bound 0 0) a) (Level (Bound 0 2) a))) (Primitive_value prim.Concat at no_value)
    unfolding plain Each Known_result Chosen_in
    concat_fits = two_fits N types τ W S one m prim.Concat at φ 1 1 (Level (Bound 0 0) a) (Level (Bound 0 0) a) (Level (Bound 0 2) a) data_B data_B (data_array (Bound 0 2) a data_a)
        (λ Q v h. evaluates N types τ W S one Q (Call (Primitive_value prim.Concat at no_value) v) h) (λ Q v w h. evaluates N types τ W S one Q (Call (Primitive_value prim.Concat at (value_and v no_value)) w) h) concat_job
        (λ known F h hh G g hg. absurd (let l = known.1.0 in omega (arith, l))) (λ F v e h. (refl, λ dr low. absurd (let l = low.0 refl in omega (arith, l))))
