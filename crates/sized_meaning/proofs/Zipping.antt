-- `zip`, `unzip`, `flatten` and `transpose` are of their sized types.
use Rattle.std.proofs.Common.{eq-eqb}
use Rattle.fut_scalar.specs.declared.report.Report.{Report}
use Rattle.sized_meaning.proofs.Quiet.{too_large}
use Rattle.sized_meaning.specs.There.{There}
use Rattle.std.specs.Prelude.{map, nat_le}
use Rattle.std.proofs.Common.{◌≡◌, ℕ, zero, suc, List, [], ◌∷◌, length, Bool, true, false, nat_eq, refl, sym, ap, ◌∙◌, subst, arith}
use Rattle.fut_scalar.specs.declared.place.BindId.{BindId}
use Rattle.fut_scalar.specs.declared.place.Place.{Place}
use Rattle.fut_scalar.specs.declared.report.FailKind.TheVariants as kind
use Rattle.fut_flat.specs.declared.prim.Primitive.TheVariants as prim
use Rattle.fut_flat.specs.declared.prim.Ref.{Ref}
use Rattle.fut_types.specs.Types.{Sub}
use Rattle.fut_typing.specs.Names.{Names}
use Rattle.fut_value.specs.Data.{Shape, Tuple_shape, Array_shape, no_shape, shape_and, Datum, Tuple_datum, Array_datum, datum_and, no_datum, datums, listed, weight}
use Rattle.fut_meaning.specs.Arrays.{fitting, most_words, size, inner, rows_of, each_out, shared, all_fresh, array_of}
use Rattle.fut_meaning.specs.Jobs.{done, alone, beside, tupled, part_shape, tuple_part, column, inner_rows, joined, part_at, crossed, job}
use Rattle.fut_meaning.specs.Meaning.{plain}
use Rattle.fut_meaning.specs.Outcomes.{Out, Val, and_then}
use Rattle.fut_meaning.specs.Telling.{data_told, tells, primitive_tells}
use Rattle.fut_meaning.specs.Places.{row_of as told_row, size_of as told_size}
use Rattle.fut_meaning.specs.Values.{Primitive_value, no_value, value_and, Call}
use Rattle.fut_meaning.proofs.Safe.{Every}
use Rattle.sized_types.specs.Sizes.{Bound, Size, Level, Fun}
use Rattle.fut_sizes.specs.Primitives.{pair_size}
use Rattle.fut_sizes.specs.Suiting.{Each, Scoped, Data}
use Rattle.fut_sizes.specs.Rules.{Any_free}
use Rattle.sized_meaning.specs.Worth.{Worth, Frames, push, number}
use Rattle.sized_meaning.specs.Shapes.{Meant, Has_shape, Has_datum}
use Rattle.sized_meaning.specs.Finding.{One_kind_each}
use Rattle.sized_meaning.specs.Fits.{Out_fits, Fits}
use Rattle.sized_meaning.specs.Law.{Sound, World, calls}
use Rattle.sized_meaning.proofs.Scalars.{out_then}
use Rattle.sized_meaning.proofs.Applications.{evaluates}
use Rattle.sized_meaning.proofs.Reducing.{every_both}
use Rattle.sized_meaning.proofs.Mapping.{every_listed, shape_anywhere, datum_anywhere, array_of_rows}
use Rattle.sized_meaning.proofs.First_order.{checked_out, Done_with, Met, Argument_is, one_fits, two_fits, second_tells}
use Rattle.sized_meaning.proofs.Row_primitives.{every_as, data_array, rows_met, some_met, new_rows}

pub each_out_fits : (quiet : Report → Type 0) {A B : Type 0} (P : A → Type 0) (Q : B → Type 0) (g : A → Out B) → ((x : A) → P x → Out_fits quiet Q (g x)) → (xs : List A) → Every P xs → Out_fits quiet (λ ys. Every Q ys × (length ys ≡ length xs)) (each_out g xs)
each_out_fits quiet P Q g go [] e = (tt, refl)
each_out_fits quiet P Q g go (x ∷ xs) e = out_then _ Q (λ ys. Every Q ys × (length ys ≡ length (x ∷ xs))) (g x) (λ y. and_then (each_out g xs) (λ ys. Val (y ∷ ys))) (go x e.0)
    (λ y hy. out_then _ (λ ys. Every Q ys × (length ys ≡ length xs)) (λ ys. Every Q ys × (length ys ≡ length (x ∷ xs))) (each_out g xs) (λ ys. Val (y ∷ ys)) (each_out_fits quiet P Q g go xs e.1) (λ ys q. ((hy, q.0), ap suc q.1)))

pub part_out : (quiet : Report → Type 0) (P : Datum → Type 0) (k : ℕ) (ds : List Datum) → Every P ds → Out_fits quiet P (part_at k ds)
part_out quiet P k [] e = tt
part_out quiet P zero (d ∷ ds) e = e.0
part_out quiet P (suc k) (d ∷ ds) e = part_out quiet P k ds e.1

every_joined : (P : Datum → Type 0) (dss : List (List Datum)) → Every (Every P) dss → Every P (joined dss)
every_joined P [] e = tt
every_joined P (ds ∷ dss) e = every_both P ds (joined dss) e.0 (every_joined P dss e.1)

pairs : (P Q R : Datum → Type 0) → ((d e : Datum) → P d → Q e → R (tupled (d ∷ e ∷ []))) → (ds es : List Datum) → length ds ≡ length es → Every P ds → Every Q es → Every R (map tupled (beside ds (alone es))) × (length (map tupled (beside ds (alone es))) ≡ length ds)
pairs P Q R both [] es l e f = (tt, refl)
pairs P Q R both (d ∷ ds) [] l e f = absurd (omega (arith, l))
pairs P Q R both (d ∷ ds) (x ∷ es) l e f = let z = pairs P Q R both ds es (omega (arith, l)) e.1 f.1 in ((both d x e.0 f.0, z.0), ap suc z.1)

module _ (N : Names) (types : Sub) (τ : Meant) (W : World) (S : Sound N types W.sizing) (one : One_kind_each τ) (m : Worth) where
  module _ (a b : Size) (data_a : Data a) (data_b : Data b) (closed_a : Each (Scoped Any_free) 0 a) (closed_b : Each (Scoped Any_free) 0 b) (at : Place) (φ : Frames) where
    data_pair : Data (pair_size a b)
    unfolding Data
    data_pair = (data_a, (data_b, tt))

    closed_pair : Each (Scoped Any_free) 0 (pair_size a b)
    unfolding Each
    closed_pair = (closed_a, (closed_b, tt))

    -- ---- zip

    zip_job : (F G : ℕ → ℕ) (told : Shape) (d e : Datum) → Argument_is N types τ W S one m 1 F φ (Level (Bound 0 0) a) d → Argument_is N types τ W S one m 0 G (push F φ) (Level (Bound 1 0) b) e → Out_fits (There W.is_there) (Done_with (Met N types τ W S one m 0 G (push F φ) (Level (Bound 1 0) (pair_size a b)))) (job false told prim.Zip at (d ∷ e ∷ []))
    unfolding Has_datum Has_shape job push
    zip_job F G told (Array_datum row ds) (Array_datum row' es) x y =
        let ψ : Frames = push G (push F φ) in
        let h : Has_shape N τ m (push G (push F φ)) a row = shape_anywhere N types τ W S one m a closed_a (push F φ) (push G (push F φ)) row (x.1).1 in
        let front : Every (Has_datum N τ m (push G (push F φ)) a) (listed ds) = every_as (Has_datum N τ m (push F φ) a) (Has_datum N τ m (push G (push F φ)) a) (λ d z. datum_anywhere N types τ W S one m a closed_a (push F φ) (push G (push F φ)) d z) (listed ds) (every_listed (Has_datum N τ m (push F φ) a) ds (x.1).2) in
        let back : Every (Has_datum N τ m (push G (push F φ)) b) (listed es) = every_listed (Has_datum N τ m (push G (push F φ)) b) es (y.1).2 in
        let p = pairs (Has_datum N τ m (push G (push F φ)) a) (Has_datum N τ m (push G (push F φ)) b) (Has_datum N τ m (push G (push F φ)) (pair_size a b)) (λ d e hd he. (hd, (he, tt))) (listed ds) (listed es) ((x.1).0 ∙ sym (y.1).0) front back in
        fitted (nat_eq (length (listed ds)) (length (listed es))) (eq-eqb (length (listed ds)) (length (listed es)) ((x.1).0 ∙ sym (y.1).0))
        (new_rows N types τ W S one m (pair_size a b) data_pair closed_pair at (push F φ) 0 G (Level (Bound 1 0) (pair_size a b)) (Tuple_shape (shape_and row (shape_and row' no_shape))) (map tupled (beside (listed ds) (alone (listed es))))
        (rows_met N types τ W S one m (pair_size a b) data_pair closed_pair at (push F φ) 0 G (Bound 1 0) (Tuple_shape (shape_and row (shape_and row' no_shape))) (map tupled (beside (listed ds) (alone (listed es)))) (p.1 ∙ (x.1).0) (h, ((y.1).1, tt)) p.0))
      where
        fitted : (c : Bool) → c ≡ true → Out_fits (There W.is_there) (Done_with (Met N types τ W S one m 0 G (push F φ) (Level (Bound 1 0) (pair_size a b)))) (done (all_fresh (array_of at (Tuple_shape (shape_and row (shape_and row' no_shape))) (map tupled (beside (listed ds) (alone (listed es)))))))
            → Out_fits (There W.is_there) (Done_with (Met N types τ W S one m 0 G (push F φ) (Level (Bound 1 0) (pair_size a b)))) (and_then (fitting false c at (and_then (Val (alone (listed es))) (λ rs. Val (beside (listed ds) rs)))) (λ rows. done (all_fresh (array_of at (Tuple_shape (shape_and row (shape_and row' no_shape))) (map tupled rows)))))
        fitted true q h = h
        fitted false q h = absurd (let z : false ≡ true = q in cc)
    zip_job F G told (Array_datum row ds) e x y = absurd y.1
    zip_job F G told d e x y = absurd x.1

    zip_shape : (F G : ℕ → ℕ) (h g : Shape) → Has_shape N τ m (push F φ) (Level (Bound 0 0) a) h → Has_shape N τ m (push G (push F φ)) (Level (Bound 1 0) b) g → Has_shape N τ m (push G (push F φ)) (Level (Bound 1 0) (pair_size a b)) (Array_shape (told_size h) (Tuple_shape (shape_and (told_row h) (shape_and (told_row g) no_shape))))
    unfolding Has_shape push
    zip_shape F G (Array_shape n h) (Array_shape n' g) x y = (x.0, (shape_anywhere N types τ W S one m a closed_a (push F φ) (push G (push F φ)) h x.1, (y.1, tt)))
    zip_shape F G (Array_shape n h) g x y = absurd y
    zip_shape F G h g x y = absurd x

    pub zip_fits : Fits N τ W.sizing W.is_there (calls W) m φ (Fun 1 (Level (Bound 0 0) a) (Fun 0 (Level (Bound 1 0) b) (Level (Bound 1 0) (pair_size a b)))) (Primitive_value prim.Zip at no_value)
    unfolding plain primitive_tells
    zip_fits = two_fits N types τ W S one m prim.Zip at φ 1 0 (Level (Bound 0 0) a) (Level (Bound 1 0) b) (Level (Bound 1 0) (pair_size a b)) (data_array (Bound 0 0) a data_a) (data_array (Bound 1 0) b data_b) (data_array (Bound 1 0) (pair_size a b) data_pair)
        (λ Q v h. evaluates N types τ W S one Q (Call (Primitive_value prim.Zip at no_value) v) h) (λ Q v w h. evaluates N types τ W S one Q (Call (Primitive_value prim.Zip at (value_and v no_value)) w) h) zip_job
        (λ known F h hh G g hg. zip_shape F G h g hh hg) (λ F v e h. second_tells N types τ W S one m prim.Zip at (push F φ) 0 (Level (Bound 0 0) a) (Level (Bound 1 0) b) (Level (Bound 1 0) (pair_size a b)) v (data_array (Bound 0 0) a data_a) h (λ G h' g hh hg. zip_shape F G h' g hh hg) (data_array (Bound 1 0) (pair_size a b) data_pair))

    -- ---- unzip

    data_arrays : Data (pair_size (Level (Bound 0 0) a) (Level (Bound 0 0) b))
    unfolding Data
    data_arrays = (data_a, (data_b, tt))

    first_part : (ψ : Frames) (d : Datum) → Has_datum N τ m ψ (pair_size a b) d → Out_fits (There W.is_there) (Has_datum N τ m ψ a) (tuple_part 0 d)
    unfolding Has_datum
    first_part ψ (Tuple_datum (datum_and x ds)) h = h.0
    first_part ψ (Tuple_datum no_datum) h = absurd h
    first_part ψ d h = absurd h

    second_part : (ψ : Frames) (d : Datum) → Has_datum N τ m ψ (pair_size a b) d → Out_fits (There W.is_there) (Has_datum N τ m ψ b) (tuple_part 1 d)
    unfolding Has_datum
    second_part ψ (Tuple_datum (datum_and x (datum_and y ds))) h = h.1.0
    second_part ψ (Tuple_datum (datum_and x no_datum)) h = absurd h.1
    second_part ψ (Tuple_datum no_datum) h = absurd h
    second_part ψ d h = absurd h

    pub column_out : (ψ : Frames) (k : ℕ) (c : Size) (row : Shape) (ds : List Datum) → length ds ≡ number m ψ (Bound 0 0) → ((d : Datum) → Has_datum N τ m ψ (pair_size a b) d → Out_fits (There W.is_there) (Has_datum N τ m ψ c) (tuple_part k d)) → Has_shape N τ m ψ c (part_shape k row) → Every (Has_datum N τ m ψ (pair_size a b)) ds → Out_fits (There W.is_there) (Has_datum N τ m ψ (Level (Bound 0 0) c)) (column k (row, ds))
    column_out ψ k c row ds l go h e = out_then _ (λ ys. Every (Has_datum N τ m ψ c) ys × (length ys ≡ length ds)) (Has_datum N τ m ψ (Level (Bound 0 0) c)) (each_out (tuple_part k) ds) (λ ys. Val (Array_datum (part_shape k row) (datums ys)))
        (each_out_fits _ (Has_datum N τ m ψ (pair_size a b)) (Has_datum N τ m ψ c) (tuple_part k) go ds e)
        (λ ys q. array_of_rows N types τ W S one m ψ (Bound 0 0) c (part_shape k row) ys (q.1 ∙ l) h q.0)

    part_shapes : (ψ : Frames) (row : Shape) → Has_shape N τ m ψ (pair_size a b) row → Has_shape N τ m ψ a (part_shape 0 row) × Has_shape N τ m ψ b (part_shape 1 row)
    unfolding Has_shape
    part_shapes ψ (Tuple_shape (shape_and h (shape_and g hs))) x = (x.0, x.1.0)
    part_shapes ψ (Tuple_shape (shape_and h no_shape)) x = absurd x.1
    part_shapes ψ (Tuple_shape no_shape) x = absurd x
    part_shapes ψ h x = absurd x

    unzip_job : (F : ℕ → ℕ) (told : Shape) (d : Datum) → Argument_is N types τ W S one m 1 F φ (Level (Bound 0 0) (pair_size a b)) d → Out_fits (There W.is_there) (Done_with (Met N types τ W S one m 1 F φ (pair_size (Level (Bound 0 0) a) (Level (Bound 0 0) b)))) (job false told prim.Unzip at (d ∷ []))
    unfolding job Has_datum
    unzip_job F told (Array_datum row ds) x =
        let ψ : Frames = push F φ in
        let rows : Every (Has_datum N τ m (push F φ) (pair_size a b)) (listed ds) = every_listed (Has_datum N τ m (push F φ) (pair_size a b)) ds (x.1).2 in
        let hs = part_shapes (push F φ) row (x.1).1 in
        let first = column_out (push F φ) 0 a row (listed ds) (x.1).0 (λ d h. first_part (push F φ) d h) hs.0 rows in
        let second = column_out (push F φ) 1 b row (listed ds) (x.1).0 (λ d h. second_part (push F φ) d h) hs.1 rows in
        out_then _ (λ es. (y : Datum) × (z : Datum) × (es ≡ y ∷ z ∷ []) × Has_datum N τ m (push F φ) (Level (Bound 0 0) a) y × Has_datum N τ m (push F φ) (Level (Bound 0 0) b) z)
        (Done_with (Met N types τ W S one m 1 F φ (pair_size (Level (Bound 0 0) a) (Level (Bound 0 0) b)))) (each_out (λ k. column k (row, listed ds)) (0 ∷ 1 ∷ [])) (λ es. done (shared (tupled es)))
        (out_then _ (Has_datum N τ m (push F φ) (Level (Bound 0 0) a)) (λ es. (y : Datum) × (z : Datum) × (es ≡ y ∷ z ∷ []) × Has_datum N τ m (push F φ) (Level (Bound 0 0) a) y × Has_datum N τ m (push F φ) (Level (Bound 0 0) b) z) (column 0 (row, listed ds)) (λ y. and_then (each_out (λ k. column k (row, listed ds)) (1 ∷ [])) (λ ys. Val (y ∷ ys))) first
        (λ y hy. out_then _ (λ es. (z : Datum) × (es ≡ z ∷ []) × Has_datum N τ m (push F φ) (Level (Bound 0 0) b) z) (λ es. (y : Datum) × (z : Datum) × (es ≡ y ∷ z ∷ []) × Has_datum N τ m (push F φ) (Level (Bound 0 0) a) y × Has_datum N τ m (push F φ) (Level (Bound 0 0) b) z) (each_out (λ k. column k (row, listed ds)) (1 ∷ [])) (λ ys. Val (y ∷ ys))
        (out_then _ (Has_datum N τ m (push F φ) (Level (Bound 0 0) b)) (λ es. (z : Datum) × (es ≡ z ∷ []) × Has_datum N τ m (push F φ) (Level (Bound 0 0) b) z) (column 1 (row, listed ds)) (λ z. and_then (Val []) (λ zs. Val (z ∷ zs))) second (λ z hz. (z, refl, hz)))
        (λ es q. (y, q.0, ap (λ zs. y ∷ zs) q.1, hy, q.2))))
        (λ es q. subst (λ zs. Out_fits (There W.is_there) (Done_with (Met N types τ W S one m 1 F φ (pair_size (Level (Bound 0 0) a) (Level (Bound 0 0) b)))) (done (shared (tupled zs)))) (sym q.2) (F, (λ i l. refl), (q.3, (q.4, tt))))
    unzip_job F told d x = absurd x.1

    unzip_shape : (F : ℕ → ℕ) (h : Shape) → Has_shape N τ m (push F φ) (Level (Bound 0 0) (pair_size a b)) h → Has_shape N τ m (push F φ) (pair_size (Level (Bound 0 0) a) (Level (Bound 0 0) b)) (tells W.sizing {P = Ref} {B = BindId} {S = Unit {0}} (Primitive_value prim.Unzip at no_value) (h ∷ []))
    unfolding Has_shape tells data_told primitive_tells
    unzip_shape F (Array_shape n (Tuple_shape (shape_and h (shape_and g no_shape)))) x = ((x.0, x.1.0), ((x.0, x.1.1.0), tt))
    unzip_shape F (Array_shape n (Tuple_shape (shape_and h (shape_and g (shape_and k hs))))) x = absurd x.1.1.1
    unzip_shape F (Array_shape n (Tuple_shape (shape_and h no_shape))) x = absurd x.1.1
    unzip_shape F (Array_shape n (Tuple_shape no_shape)) x = absurd x.1
    unzip_shape F (Array_shape n h) x = absurd x.1
    unzip_shape F h x = absurd x

    pub unzip_fits : Fits N τ W.sizing W.is_there (calls W) m φ (Fun 1 (Level (Bound 0 0) (pair_size a b)) (pair_size (Level (Bound 0 0) a) (Level (Bound 0 0) b))) (Primitive_value prim.Unzip at no_value)
    unfolding plain
    unzip_fits = one_fits N types τ W S one m prim.Unzip at φ 1 (Level (Bound 0 0) (pair_size a b)) (pair_size (Level (Bound 0 0) a) (Level (Bound 0 0) b)) (data_array (Bound 0 0) (pair_size a b) data_pair) data_arrays
        (λ Q v h. evaluates N types τ W S one Q (Call (Primitive_value prim.Unzip at no_value) v) h) unzip_job (refl, λ dr low F h hx. unzip_shape F h hx)

  -- ---- flatten and transpose
  module _ (a : Size) (data_a : Data a) (closed_a : Each (Scoped Any_free) 0 a) (at : Place) (φ : Frames) where
    rows_inside : (F : ℕ → ℕ) (d : Datum) → Has_datum N τ m (push F φ) (Level (Bound 0 1) a) d → Out_fits (There W.is_there) (Every (Has_datum N τ m (push F φ) a)) (and_then (rows_of d) (λ r. Val r.1))
    unfolding Has_datum
    rows_inside F (Array_datum row ds) h = every_listed (Has_datum N τ m (push F φ) a) ds h.2
    rows_inside F d h = absurd h

    inner_shape : (F : ℕ → ℕ) (h : Shape) → Has_shape N τ m (push F φ) (Level (Bound 0 1) a) h → Has_shape N τ m (push F φ) a (inner h)
    unfolding Has_shape
    inner_shape F (Array_shape n h) x = x.1
    inner_shape F h x = absurd x

    flatten_job : (F : ℕ → ℕ) (told : Shape) (d : Datum) → Argument_is N types τ W S one m 2 F φ (Level (Bound 0 0) (Level (Bound 0 1) a)) d → Out_fits (There W.is_there) (Done_with (Met N types τ W S one m 2 F φ (Level (Bound 0 3) a))) (job false told prim.Flatten at (d ∷ []))
    unfolding job Has_datum
    flatten_job F told (Array_datum row ds) x = out_then _ (λ dss. Every (Every (Has_datum N τ m (push F φ) a)) dss × (length dss ≡ length (listed ds))) (Done_with (Met N types τ W S one m 2 F φ (Level (Bound 0 3) a))) (inner_rows (listed ds)) (λ dss. done (all_fresh (array_of at (inner row) (joined dss))))
        (each_out_fits _ (Has_datum N τ m (push F φ) (Level (Bound 0 1) a)) (Every (Has_datum N τ m (push F φ) a)) (λ d. and_then (rows_of d) (λ r. Val r.1)) (λ d h. rows_inside F d h) (listed ds) (every_listed (Has_datum N τ m (push F φ) (Level (Bound 0 1) a)) ds (x.1).2))
        (λ dss q. new_rows N types τ W S one m a data_a closed_a at φ 2 F (Level (Bound 0 3) a) (inner row) (joined dss) (some_met N types τ W S one m a data_a closed_a at φ 2 F (inner row) (joined dss) (inner_shape F row (x.1).1) (every_joined (Has_datum N τ m (push F φ) a) dss q.0)))
    flatten_job F told d x = absurd x.1

    pub flatten_fits : Fits N τ W.sizing W.is_there (calls W) m φ (Fun 2 (Level (Bound 0 0) (Level (Bound 0 1) a)) (Level (Bound 0 3) a)) (Primitive_value prim.Flatten at no_value)
    unfolding plain Each
    flatten_fits = one_fits N types τ W S one m prim.Flatten at φ 2 (Level (Bound 0 0) (Level (Bound 0 1) a)) (Level (Bound 0 3) a) (data_array (Bound 0 0) (Level (Bound 0 1) a) (data_array (Bound 0 1) a data_a)) (data_array (Bound 0 3) a data_a)
        (λ Q v h. evaluates N types τ W S one Q (Call (Primitive_value prim.Flatten at no_value) v) h) flatten_job (refl, λ dr low. absurd (let l = low.0 refl in omega (arith, l)))

    -- the elements of all rows at a position
    crossed_out : (F : ℕ → ℕ) (row : Shape) (l k : ℕ) (rs : List (List Datum)) → length rs ≡ number m (push F φ) (Bound 0 0) → Has_shape N τ m (push F φ) a row → Every (Every (Has_datum N τ m (push F φ) a)) rs → Out_fits (There W.is_there) (λ ds. Every (Has_datum N τ m (push F φ) (Level (Bound 0 0) a)) ds × (length ds ≡ l)) (crossed row l k rs)
    crossed_out F row zero k rs e h all = (tt, refl)
    crossed_out F row (suc l) k rs e h all = out_then _ (λ ys. Every (Has_datum N τ m (push F φ) a) ys × (length ys ≡ length rs)) (λ ds. Every (Has_datum N τ m (push F φ) (Level (Bound 0 0) a)) ds × (length ds ≡ suc l)) (each_out (part_at k) rs) (λ ds. and_then (crossed row l (suc k) rs) (λ es. Val (Array_datum row (datums ds) ∷ es)))
        (each_out_fits _ (Every (Has_datum N τ m (push F φ) a)) (Has_datum N τ m (push F φ) a) (part_at k) (λ ds x. part_out _ (Has_datum N τ m (push F φ) a) k ds x) rs all)
        (λ ys q. out_then _ (λ ds. Every (Has_datum N τ m (push F φ) (Level (Bound 0 0) a)) ds × (length ds ≡ l)) (λ ds. Every (Has_datum N τ m (push F φ) (Level (Bound 0 0) a)) ds × (length ds ≡ suc l)) (crossed row l (suc k) rs) (λ es. Val (Array_datum row (datums ys) ∷ es)) (crossed_out F row l (suc k) rs e h all)
        (λ es z. ((array_of_rows N types τ W S one m (push F φ) (Bound 0 0) a row ys (q.1 ∙ e) h q.0, z.0), ap suc z.1)))

    row_size : (F : ℕ → ℕ) (h : Shape) → Has_shape N τ m (push F φ) (Level (Bound 0 1) a) h → size h ≡ number m (push F φ) (Bound 0 1)
    unfolding Has_shape
    row_size F (Array_shape n h) x = x.0
    row_size F h x = absurd x

    transpose_job : (F : ℕ → ℕ) (told : Shape) (d : Datum) → Argument_is N types τ W S one m 2 F φ (Level (Bound 0 0) (Level (Bound 0 1) a)) d → Out_fits (There W.is_there) (Done_with (Met N types τ W S one m 2 F φ (Level (Bound 0 1) (Level (Bound 0 0) a)))) (job false told prim.Transpose at (d ∷ []))
    unfolding job Has_datum Has_shape
    transpose_job F told (Array_datum row ds) x =
        let n : ℕ = length (listed ds) in
        let h : Has_shape N τ m (push F φ) a (inner row) = inner_shape F row (x.1).1 in
        checked_out _ (Done_with (Met N types τ W S one m 2 F φ (Level (Bound 0 1) (Level (Bound 0 0) a)))) (nat_le (weight (Array_shape (size row) (Array_shape (length (listed ds)) (inner row)))) most_words) kind.TooLarge at (too_large W.is_there at)
        (and_then (inner_rows (listed ds)) (λ dss. and_then (crossed (inner row) (size row) 0 dss) (λ es. done (shared (Array_datum (Array_shape (length (listed ds)) (inner row)) (datums es))))))
        (out_then _ (λ dss. Every (Every (Has_datum N τ m (push F φ) a)) dss × (length dss ≡ length (listed ds))) (Done_with (Met N types τ W S one m 2 F φ (Level (Bound 0 1) (Level (Bound 0 0) a)))) (inner_rows (listed ds)) (λ dss. and_then (crossed (inner row) (size row) 0 dss) (λ es. done (shared (Array_datum (Array_shape (length (listed ds)) (inner row)) (datums es)))))
        (each_out_fits _ (Has_datum N τ m (push F φ) (Level (Bound 0 1) a)) (Every (Has_datum N τ m (push F φ) a)) (λ d. and_then (rows_of d) (λ r. Val r.1)) (λ d h. rows_inside F d h) (listed ds) (every_listed (Has_datum N τ m (push F φ) (Level (Bound 0 1) a)) ds (x.1).2))
        (λ dss q. out_then _ (λ es. Every (Has_datum N τ m (push F φ) (Level (Bound 0 0) a)) es × (length es ≡ size row)) (Done_with (Met N types τ W S one m 2 F φ (Level (Bound 0 1) (Level (Bound 0 0) a)))) (crossed (inner row) (size row) 0 dss) (λ es. done (shared (Array_datum (Array_shape (length (listed ds)) (inner row)) (datums es))))
        (crossed_out F (inner row) (size row) 0 dss (q.1 ∙ (x.1).0) h q.0)
        (λ es z. (F, (λ i l. refl), array_of_rows N types τ W S one m (push F φ) (Bound 0 1) (Level (Bound 0 0) a) (Array_shape (length (listed ds)) (inner row)) es (z.1 ∙ row_size F row (x.1).1) ((x.1).0, h) z.0))))
    transpose_job F told d x = absurd x.1

    transpose_shape : (F : ℕ → ℕ) (h : Shape) → Has_shape N τ m (push F φ) (Level (Bound 0 0) (Level (Bound 0 1) a)) h → Has_shape N τ m (push F φ) (Level (Bound 0 1) (Level (Bound 0 0) a)) (tells W.sizing {P = Ref} {B = BindId} {S = Unit {0}} (Primitive_value prim.Transpose at no_value) (h ∷ []))
    unfolding Has_shape tells data_told primitive_tells
    transpose_shape F (Array_shape n (Array_shape k h)) x = (x.1.0, (x.0, x.1.1))
    transpose_shape F (Array_shape n h) x = absurd x.1
    transpose_shape F h x = absurd x

    pub transpose_fits : Fits N τ W.sizing W.is_there (calls W) m φ (Fun 2 (Level (Bound 0 0) (Level (Bound 0 1) a)) (Level (Bound 0 1) (Level (Bound 0 0) a))) (Primitive_value prim.Transpose at no_value)
    unfolding plain
    transpose_fits = one_fits N types τ W S one m prim.Transpose at φ 2 (Level (Bound 0 0) (Level (Bound 0 1) a)) (Level (Bound 0 1) (Level (Bound 0 0) a)) (data_array (Bound 0 0) (Level (Bound 0 1) a) (data_array (Bound 0 1) a data_a)) (data_array (Bound 0 1) (Level (Bound 0 0) a) (data_array (Bound 0 0) a data_a))
        (λ Q v h. evaluates N types τ W S one Q (Call (Primitive_value prim.Transpose at no_value) v) h) transpose_job (refl, λ dr low F h hx. transpose_shape F h hx)
