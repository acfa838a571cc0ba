-- `zip3`, `unzip3` and `unflatten` are of their sized types.
use Rattle.std.proofs.Common.{eq-eqb}
use Rattle.sized_meaning.specs.There.{There}
use Rattle.sized_meaning.proofs.Scalars.{out_then}
use Rattle.sized_meaning.proofs.Zipping.{each_out_fits}
use Rattle.std.specs.Prelude.{map}
use Rattle.std.proofs.Common.{subst, ◌≡◌, ℕ, suc, List, [], ◌∷◌, length, Bool, true, false, nat_eq, refl, sym, ap, ◌∙◌, arith}
use Rattle.fut_scalar.specs.declared.place.BindId.{BindId}
use Rattle.fut_scalar.specs.declared.place.Place.{Place}
use Rattle.fut_flat.specs.declared.prim.Primitive.TheVariants as prim
use Rattle.fut_flat.specs.declared.prim.Ref.{Ref}
use Rattle.fut_types.specs.Types.{Sub}
use Rattle.fut_typing.specs.Names.{Names}
use Rattle.fut_value.specs.Data.{Shape, Tuple_shape, Array_shape, no_shape, shape_and, Datum, Array_datum, listed, datum_and, no_datum, Tuple_datum, datums}
use Rattle.fut_meaning.specs.Arrays.{Rows, fitting, all_fresh, array_of, shared, each_out}
use Rattle.fut_meaning.specs.Datums.{as_value}
use Rattle.fut_meaning.specs.Flats.{FlatValue}
use Rattle.fut_meaning.specs.Jobs.{done, alone, beside, tupled, job, tuple_part, part_shape, column}
use Rattle.fut_meaning.specs.Meaning.{plain, no_function}
use Rattle.fut_meaning.specs.Outcomes.{Val, and_then}
use Rattle.fut_meaning.specs.Telling.{value_shape, primitive_tells, tells, data_told}
use Rattle.fut_meaning.specs.Places.{row_of as told_row, size_of as told_size}
use Rattle.fut_meaning.specs.Values.{Primitive_value, no_value, value_and, Call}
use Rattle.fut_meaning.proofs.Data.{datum_of_as}
use Rattle.fut_meaning.proofs.Safe.{Every}
use Rattle.sized_types.specs.Sizes.{Bound, Size, Level, Fun}
use Rattle.fut_sizes.specs.Primitives.{triple_size}
use Rattle.fut_sizes.specs.Suiting.{Each, Scoped, Data}
use Rattle.fut_sizes.specs.Rules.{Any_free}
use Rattle.sized_meaning.specs.Worth.{Worth, Frames, push, number}
use Rattle.sized_meaning.specs.Shapes.{Meant, Has_shape, Has_datum}
use Rattle.sized_meaning.specs.Finding.{One_kind_each}
use Rattle.sized_meaning.specs.Fits.{Out_fits, Fits}
use Rattle.sized_meaning.specs.Law.{Sound, World, told, calls}
use Rattle.sized_meaning.proofs.Datas.{datum_fits}
use Rattle.sized_meaning.proofs.Applications.{evaluates}
use Rattle.sized_meaning.proofs.Entered.{value_shaped}
use Rattle.sized_meaning.proofs.Mapping.{every_listed, shape_anywhere, datum_anywhere, array_of_rows}
use Rattle.sized_meaning.proofs.First_order.{Done_with, done_gives, Met, Given, Argument_is, three_fits, third_tells, one_fits}
use Rattle.sized_meaning.proofs.Row_primitives.{every_as, data_array, rows_met, new_rows}

-- three rows side by side
triples : (P Q R T : Datum → Type 0) → ((d e f : Datum) → P d → Q e → R f → T (tupled (d ∷ e ∷ f ∷ []))) → (ds es fs : List Datum) → length ds ≡ length es → length es ≡ length fs → Every P ds → Every Q es → Every R fs
    → Every T (map tupled (beside ds (beside es (alone fs)))) × (length (map tupled (beside ds (beside es (alone fs)))) ≡ length ds)
triples P Q R T all [] es fs l l' p q r = (tt, refl)
triples P Q R T all (d ∷ ds) [] fs l l' p q r = absurd (omega (arith, l))
triples P Q R T all (d ∷ ds) (e ∷ es) [] l l' p q r = absurd (omega (arith, l'))
triples P Q R T all (d ∷ ds) (e ∷ es) (f ∷ fs) l l' p q r = let z = triples P Q R T all ds es fs (omega (arith, l)) (omega (arith, l')) p.1 q.1 r.1 in ((all d e f p.0 q.0 r.0, z.0), ap suc z.1)

module _ (N : Names) (types : Sub) (τ : Meant) (W : World) (S : Sound N types W.sizing) (one : One_kind_each τ) (m : Worth) where
  module _ (a b c : Size) (data_a : Data a) (data_b : Data b) (data_c : Data c) (closed_a : Each (Scoped Any_free) 0 a) (closed_b : Each (Scoped Any_free) 0 b) (closed_c : Each (Scoped Any_free) 0 c) (at : Place) (φ : Frames) where
    data_triple : Data (triple_size a b c)
    unfolding Data
    data_triple = (data_a, (data_b, (data_c, tt)))

    closed_triple : Each (Scoped Any_free) 0 (triple_size a b c)
    unfolding Each
    closed_triple = (closed_a, (closed_b, (closed_c, tt)))

    -- ---- zip3

    abbrev Zipped : Frames → (ℕ → ℕ) → FlatValue → Type 0
    Zipped ψ H w = Given N types τ W S one m 0 H ψ (Level (Bound 2 0) (triple_size a b c)) w

    zip_job : (F G H : ℕ → ℕ) (told : Shape) (d e f : Datum) → Argument_is N types τ W S one m 1 F φ (Level (Bound 0 0) a) d → Argument_is N types τ W S one m 0 G (push F φ) (Level (Bound 1 0) b) e → Argument_is N types τ W S one m 0 H (push G (push F φ)) (Level (Bound 2 0) c) f
        → Out_fits (There W.is_there) (Done_with (Met N types τ W S one m 0 H (push G (push F φ)) (Level (Bound 2 0) (triple_size a b c)))) (job false told prim.Zip3 at (d ∷ e ∷ f ∷ []))
    unfolding Has_datum Has_shape job push
    zip_job F G H told (Array_datum row ds) (Array_datum row' es) (Array_datum row'' fs) x y z =
        let ψ : Frames = push H (push G (push F φ)) in
        let h : Has_shape N τ m (push H (push G (push F φ))) a row = shape_anywhere N types τ W S one m a closed_a (push F φ) (push H (push G (push F φ))) row (x.1).1 in
        let h' : Has_shape N τ m (push H (push G (push F φ))) b row' = shape_anywhere N types τ W S one m b closed_b (push G (push F φ)) (push H (push G (push F φ))) row' (y.1).1 in
        let p : Every (Has_datum N τ m (push H (push G (push F φ))) a) (listed ds) = every_as (Has_datum N τ m (push F φ) a) (Has_datum N τ m (push H (push G (push F φ))) a) (λ d q. datum_anywhere N types τ W S one m a closed_a (push F φ) (push H (push G (push F φ))) d q) (listed ds) (every_listed (Has_datum N τ m (push F φ) a) ds (x.1).2) in
        let q : Every (Has_datum N τ m (push H (push G (push F φ))) b) (listed es) = every_as (Has_datum N τ m (push G (push F φ)) b) (Has_datum N τ m (push H (push G (push F φ))) b) (λ d q. datum_anywhere N types τ W S one m b closed_b (push G (push F φ)) (push H (push G (push F φ))) d q) (listed es) (every_listed (Has_datum N τ m (push G (push F φ)) b) es (y.1).2) in
        let r : Every (Has_datum N τ m (push H (push G (push F φ))) c) (listed fs) = every_listed (Has_datum N τ m (push H (push G (push F φ))) c) fs (z.1).2 in
        let t = triples (Has_datum N τ m (push H (push G (push F φ))) a) (Has_datum N τ m (push H (push G (push F φ))) b) (Has_datum N τ m (push H (push G (push F φ))) c) (Has_datum N τ m (push H (push G (push F φ))) (triple_size a b c)) (λ d e f hd he hf. (hd, (he, (hf, tt)))) (listed ds) (listed es) (listed fs) ((x.1).0 ∙ sym (y.1).0) ((y.1).0 ∙ sym (z.1).0) p q r in
        both (nat_eq (length (listed ds)) (length (listed es))) (nat_eq (length (listed es)) (length (listed fs))) (eq-eqb (length (listed ds)) (length (listed es)) ((x.1).0 ∙ sym (y.1).0)) (eq-eqb (length (listed es)) (length (listed fs)) ((y.1).0 ∙ sym (z.1).0))
        (new_rows N types τ W S one m (triple_size a b c) data_triple closed_triple at (push G (push F φ)) 0 H (Level (Bound 2 0) (triple_size a b c)) (Tuple_shape (shape_and row (shape_and row' (shape_and row'' no_shape)))) (map tupled (beside (listed ds) (beside (listed es) (alone (listed fs)))))
        (rows_met N types τ W S one m (triple_size a b c) data_triple closed_triple at (push G (push F φ)) 0 H (Bound 2 0) (Tuple_shape (shape_and row (shape_and row' (shape_and row'' no_shape)))) (map tupled (beside (listed ds) (beside (listed es) (alone (listed fs))))) (t.1 ∙ (x.1).0) (h, (h', ((z.1).1, tt))) t.0))
      where
        both : (u v : Bool) → u ≡ true → v ≡ true → Out_fits (There W.is_there) (Done_with (Met N types τ W S one m 0 H (push G (push F φ)) (Level (Bound 2 0) (triple_size a b c)))) (done (all_fresh (array_of at (Tuple_shape (shape_and row (shape_and row' (shape_and row'' no_shape)))) (map tupled (beside (listed ds) (beside (listed es) (alone (listed fs))))))))
            → Out_fits (There W.is_there) (Done_with (Met N types τ W S one m 0 H (push G (push F φ)) (Level (Bound 2 0) (triple_size a b c)))) (and_then (fitting false u at (and_then (fitting false v at (and_then (Val (alone (listed fs))) (λ rs. Val (beside (listed es) rs)))) (λ rs. Val (beside (listed ds) rs)))) (λ rows. done (all_fresh (array_of at (Tuple_shape (shape_and row (shape_and row' (shape_and row'' no_shape)))) (map tupled rows)))))
        both true true p q h = h
        both true false p q h = absurd (let z : false ≡ true = q in cc)
        both false v p q h = absurd (let z : false ≡ true = p in cc)
    zip_job F G H told (Array_datum row ds) (Array_datum row' es) f x y z = absurd z.1
    zip_job F G H told (Array_datum row ds) e f x y z = absurd y.1
    zip_job F G H told d e f x y z = absurd x.1

    zip_shape : (F G H : ℕ → ℕ) (h g k : Shape) → Has_shape N τ m (push F φ) (Level (Bound 0 0) a) h → Has_shape N τ m (push G (push F φ)) (Level (Bound 1 0) b) g → Has_shape N τ m (push H (push G (push F φ))) (Level (Bound 2 0) c) k
        → Has_shape N τ m (push H (push G (push F φ))) (Level (Bound 2 0) (triple_size a b c)) (Array_shape (told_size h) (Tuple_shape (shape_and (told_row h) (shape_and (told_row g) (shape_and (told_row k) no_shape)))))
    unfolding Has_shape push
    zip_shape F G H (Array_shape n h) (Array_shape n' g) (Array_shape n'' k) x y z = (x.0, (shape_anywhere N types τ W S one m a closed_a (push F φ) (push H (push G (push F φ))) h x.1, (shape_anywhere N types τ W S one m b closed_b (push G (push F φ)) (push H (push G (push F φ))) g y.1, (z.1, tt))))
    zip_shape F G H (Array_shape n h) (Array_shape n' g) k x y z = absurd z
    zip_shape F G H (Array_shape n h) g k x y z = absurd y
    zip_shape F G H h g k x y z = absurd x

    pub zip3_fits : Fits N τ W.sizing W.is_there (calls W) m φ (Fun 1 (Level (Bound 0 0) a) (Fun 0 (Level (Bound 1 0) b) (Fun 0 (Level (Bound 2 0) c) (Level (Bound 2 0) (triple_size a b c))))) (Primitive_value prim.Zip3 at no_value)
    unfolding plain primitive_tells
    zip3_fits = three_fits N types τ W S one m prim.Zip3 at φ 1 0 0 (Level (Bound 0 0) a) (Level (Bound 1 0) b) (Level (Bound 2 0) c) (Level (Bound 2 0) (triple_size a b c)) (data_array (Bound 0 0) a data_a) (data_array (Bound 1 0) b data_b) (data_array (Bound 2 0) c data_c) (data_array (Bound 2 0) (triple_size a b c) data_triple)
        (λ Q u h. evaluates N types τ W S one Q (Call (Primitive_value prim.Zip3 at no_value) u) h) (λ Q u v h. evaluates N types τ W S one Q (Call (Primitive_value prim.Zip3 at (value_and u no_value)) v) h)
        (λ Q u v w h. evaluates N types τ W S one Q (Call (Primitive_value prim.Zip3 at (value_and u (value_and v no_value))) w) h)
        (λ F G H row d e f x y z. done_gives N types τ W S one m (Met N types τ W S one m 0 H (push G (push F φ)) (Level (Bound 2 0) (triple_size a b c))) (Zipped (push G (push F φ)) H) 0 no_function (job false row prim.Zip3 at (d ∷ e ∷ f ∷ [])) (zip_job F G H row d e f x y z)
        (λ g q. (q.0, q.1, datum_fits N τ W.sizing W.is_there (calls W) m (push q.0 (push G (push F φ))) (Level (Bound 2 0) (triple_size a b c)) (data_array (Bound 2 0) (triple_size a b c) data_triple) (as_value g) g (datum_of_as Ref BindId (Unit {0}) g) q.2)))
        (λ known F h hh G g hg H x hx. zip_shape F G H h g x hh hg hx) (λ F u eu hu known G g hg H x hx. zip_shape F G H (value_shape u) g x (value_shaped N τ W.sizing W.is_there (calls W) m (push F φ) (Level (Bound 0 0) a) (data_array (Bound 0 0) a data_a) u hu) hg hx)
        (λ F u eu hu G v ev hv. third_tells N types τ W S one m prim.Zip3 at (push G (push F φ)) (push F φ) (push G (push F φ)) 0 (Level (Bound 0 0) a) (Level (Bound 1 0) b) (Level (Bound 2 0) c) (Level (Bound 2 0) (triple_size a b c)) u v (data_array (Bound 0 0) a data_a) (data_array (Bound 1 0) b data_b) hu hv
        (λ H h g k hh hg hk. zip_shape F G H h g k hh hg hk) (data_array (Bound 2 0) (triple_size a b c) data_triple))

    -- ---- unzip3

    data_arrays : Data (triple_size (Level (Bound 0 0) a) (Level (Bound 0 0) b) (Level (Bound 0 0) c))
    unfolding Data
    data_arrays = (data_a, (data_b, (data_c, tt)))

    first_part : (ψ : Frames) (d : Datum) → Has_datum N τ m ψ (triple_size a b c) d → Out_fits (There W.is_there) (Has_datum N τ m ψ a) (tuple_part 0 d)
    unfolding Has_datum
    first_part ψ (Tuple_datum (datum_and x ds)) h = h.0
    first_part ψ (Tuple_datum no_datum) h = absurd h
    first_part ψ d h = absurd h

    second_part : (ψ : Frames) (d : Datum) → Has_datum N τ m ψ (triple_size a b c) d → Out_fits (There W.is_there) (Has_datum N τ m ψ b) (tuple_part 1 d)
    unfolding Has_datum
    second_part ψ (Tuple_datum (datum_and x (datum_and y ds))) h = h.1.0
    second_part ψ (Tuple_datum (datum_and x no_datum)) h = absurd h.1
    second_part ψ (Tuple_datum no_datum) h = absurd h
    second_part ψ d h = absurd h

    third_part : (ψ : Frames) (d : Datum) → Has_datum N τ m ψ (triple_size a b c) d → Out_fits (There W.is_there) (Has_datum N τ m ψ c) (tuple_part 2 d)
    unfolding Has_datum
    third_part ψ (Tuple_datum (datum_and x (datum_and y (datum_and z ds)))) h = h.1.1.0
    third_part ψ (Tuple_datum (datum_and x (datum_and y no_datum))) h = absurd h.1.1
    third_part ψ (Tuple_datum (datum_and x no_datum)) h = absurd h.1
    third_part ψ (Tuple_datum no_datum) h = absurd h
    third_part ψ d h = absurd h

    part_shapes : (ψ : Frames) (row : Shape) → Has_shape N τ m ψ (triple_size a b c) row → Has_shape N τ m ψ a (part_shape 0 row) × Has_shape N τ m ψ b (part_shape 1 row) × Has_shape N τ m ψ c (part_shape 2 row)
    unfolding Has_shape
    part_shapes ψ (Tuple_shape (shape_and h (shape_and g (shape_and k hs)))) x = (x.0, x.1.0, x.1.1.0)
    part_shapes ψ (Tuple_shape (shape_and h (shape_and g no_shape))) x = absurd x.1.1
    part_shapes ψ (Tuple_shape (shape_and h no_shape)) x = absurd x.1
    part_shapes ψ (Tuple_shape no_shape) x = absurd x
    part_shapes ψ h x = absurd x

    -- three columns
    abbrev Columns : Frames → List Datum → Type 0
    Columns ψ es = (x : Datum) × (y : Datum) × (z : Datum) × (es ≡ x ∷ y ∷ z ∷ []) × Has_datum N τ m ψ (Level (Bound 0 0) a) x × Has_datum N τ m ψ (Level (Bound 0 0) b) y × Has_datum N τ m ψ (Level (Bound 0 0) c) z

    three_columns : (ψ : Frames) (r : Rows) → Out_fits (There W.is_there) (Has_datum N τ m ψ (Level (Bound 0 0) a)) (column 0 r) → Out_fits (There W.is_there) (Has_datum N τ m ψ (Level (Bound 0 0) b)) (column 1 r) → Out_fits (There W.is_there) (Has_datum N τ m ψ (Level (Bound 0 0) c)) (column 2 r) → Out_fits (There W.is_there) (Columns ψ) (each_out (λ k. column k r) (0 ∷ 1 ∷ 2 ∷ []))
    three_columns ψ r p q t =
        out_then _ (Has_datum N τ m ψ (Level (Bound 0 0) a)) (Columns ψ) (column 0 r) (λ x. and_then (each_out (λ k. column k r) (1 ∷ 2 ∷ [])) (λ ys. Val (x ∷ ys))) p
        (λ x hx. out_then _ (λ es. (y : Datum) × (z : Datum) × (es ≡ y ∷ z ∷ []) × Has_datum N τ m ψ (Level (Bound 0 0) b) y × Has_datum N τ m ψ (Level (Bound 0 0) c) z) (Columns ψ) (each_out (λ k. column k r) (1 ∷ 2 ∷ [])) (λ ys. Val (x ∷ ys))
        (out_then _ (Has_datum N τ m ψ (Level (Bound 0 0) b)) (λ es. (y : Datum) × (z : Datum) × (es ≡ y ∷ z ∷ []) × Has_datum N τ m ψ (Level (Bound 0 0) b) y × Has_datum N τ m ψ (Level (Bound 0 0) c) z) (column 1 r) (λ y. and_then (each_out (λ k. column k r) (2 ∷ [])) (λ ys. Val (y ∷ ys))) q
        (λ y hy. out_then _ (λ es. (z : Datum) × (es ≡ z ∷ []) × Has_datum N τ m ψ (Level (Bound 0 0) c) z) (λ es. (y : Datum) × (z : Datum) × (es ≡ y ∷ z ∷ []) × Has_datum N τ m ψ (Level (Bound 0 0) b) y × Has_datum N τ m ψ (Level (Bound 0 0) c) z) (each_out (λ k. column k r) (2 ∷ [])) (λ ys. Val (y ∷ ys))
        (out_then _ (Has_datum N τ m ψ (Level (Bound 0 0) c)) (λ es. (z : Datum) × (es ≡ z ∷ []) × Has_datum N τ m ψ (Level (Bound 0 0) c) z) (column 2 r) (λ z. and_then (Val []) (λ zs. Val (z ∷ zs))) t (λ z hz. (z, refl, hz)))
        (λ es k. (y, k.0, ap (λ zs. y ∷ zs) k.1, hy, k.2))))
        (λ es k. (x, k.0, k.1, ap (λ zs. x ∷ zs) k.2, hx, k.3, k.4)))

    unzip_job : (F : ℕ → ℕ) (missing : Shape) (d : Datum) → Argument_is N types τ W S one m 1 F φ (Level (Bound 0 0) (triple_size a b c)) d
        → Out_fits (There W.is_there) (Done_with (Met N types τ W S one m 1 F φ (triple_size (Level (Bound 0 0) a) (Level (Bound 0 0) b) (Level (Bound 0 0) c)))) (job false missing prim.Unzip3 at (d ∷ []))
    unfolding job Has_datum
    unzip_job F missing (Array_datum row ds) x =
        let rows : Every (Has_datum N τ m (push F φ) (triple_size a b c)) (listed ds) = every_listed (Has_datum N τ m (push F φ) (triple_size a b c)) ds (x.1).2 in
        let hs = part_shapes (push F φ) row (x.1).1 in
        out_then _ (Columns (push F φ)) (Done_with (Met N types τ W S one m 1 F φ (triple_size (Level (Bound 0 0) a) (Level (Bound 0 0) b) (Level (Bound 0 0) c)))) (each_out (λ k. column k (row, listed ds)) (0 ∷ 1 ∷ 2 ∷ [])) (λ es. done (shared (tupled es)))
        (three_columns (push F φ) (row, listed ds) (part_column (push F φ) 0 a row (listed ds) (x.1).0 (λ d h. first_part (push F φ) d h) hs.0 rows)
        (part_column (push F φ) 1 b row (listed ds) (x.1).0 (λ d h. second_part (push F φ) d h) hs.1 rows) (part_column (push F φ) 2 c row (listed ds) (x.1).0 (λ d h. third_part (push F φ) d h) hs.2 rows))
        (λ es q. subst (λ zs. Out_fits (There W.is_there) (Done_with (Met N types τ W S one m 1 F φ (triple_size (Level (Bound 0 0) a) (Level (Bound 0 0) b) (Level (Bound 0 0) c)))) (done (shared (tupled zs)))) (sym q.3) (F, (λ i l. refl), (q.4, (q.5, (q.6, tt)))))
      where
        part_column : (ψ : Frames) (k : ℕ) (e : Size) (row : Shape) (ds : List Datum) → length ds ≡ number m ψ (Bound 0 0) → ((d : Datum) → Has_datum N τ m ψ (triple_size a b c) d → Out_fits (There W.is_there) (Has_datum N τ m ψ e) (tuple_part k d)) → Has_shape N τ m ψ e (part_shape k row) → Every (Has_datum N τ m ψ (triple_size a b c)) ds → Out_fits (There W.is_there) (Has_datum N τ m ψ (Level (Bound 0 0) e)) (column k (row, ds))
        part_column ψ k e row ds l go h all = out_then _ (λ ys. Every (Has_datum N τ m ψ e) ys × (length ys ≡ length ds)) (Has_datum N τ m ψ (Level (Bound 0 0) e)) (each_out (tuple_part k) ds) (λ ys. Val (Array_datum (part_shape k row) (datums ys)))
            (each_out_fits _ (Has_datum N τ m ψ (triple_size a b c)) (Has_datum N τ m ψ e) (tuple_part k) go ds all)
            (λ ys q. array_of_rows N types τ W S one m ψ (Bound 0 0) e (part_shape k row) ys (q.1 ∙ l) h q.0)
    unzip_job F missing d x = absurd x.1

    unzip_shape : (F : ℕ → ℕ) (h : Shape) → Has_shape N τ m (push F φ) (Level (Bound 0 0) (triple_size a b c)) h
        → Has_shape N τ m (push F φ) (triple_size (Level (Bound 0 0) a) (Level (Bound 0 0) b) (Level (Bound 0 0) c)) (tells W.sizing {P = Ref} {B = BindId} {S = Unit {0}} (Primitive_value prim.Unzip3 at no_value) (h ∷ []))
    unfolding Has_shape tells data_told primitive_tells
    unzip_shape F (Array_shape n (Tuple_shape (shape_and h (shape_and g (shape_and k no_shape))))) x = ((x.0, x.1.0), ((x.0, x.1.1.0), ((x.0, x.1.1.1.0), tt)))
    unzip_shape F (Array_shape n (Tuple_shape (shape_and h (shape_and g (shape_and k (shape_and l hs)))))) x = absurd x.1.1.1.1
    unzip_shape F (Array_shape n (Tuple_shape (shape_and h (shape_and g no_shape)))) x = absurd x.1.1.1
    unzip_shape F (Array_shape n (Tuple_shape (shape_and h no_shape))) x = absurd x.1.1
    unzip_shape F (Array_shape n (Tuple_shape no_shape)) x = absurd x.1
    unzip_shape F (Array_shape n h) x = absurd x.1
    unzip_shape F h x = absurd x

    pub unzip3_fits : Fits N τ W.sizing W.is_there (calls W) m φ (Fun 1 (Level (Bound 0 0) (triple_size a b c)) (triple_size (Level (Bound 0 0) a) (Level (Bound 0 0) b) (Level (Bound 0 0) c))) (Primitive_value prim.Unzip3 at no_value)
    unfolding plain
    unzip3_fits = one_fits N types τ W S one m prim.Unzip3 at φ 1 (Level (Bound 0 0) (triple_size a b c)) (triple_size (Level (Bound 0 0) a) (Level (Bound 0 0) b) (Level (Bound 0 0) c)) (data_array (Bound 0 0) (triple_size a b c) data_triple) data_arrays
        (λ Q v h. evaluates N types τ W S one Q (Call (Primitive_value prim.Unzip3 at no_value) v) h) unzip_job (refl, λ dr low F h hx. unzip_shape F h hx)
