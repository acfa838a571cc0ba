-- `reduce_by_index` is of its sized type: an array whose rows are reduced with what is written at them keeps its size.
use Rattle.fut_scalar.specs.declared.report.Report.{Report}
use Rattle.sized_meaning.proofs.Misfits.{like_all}
use Rattle.sized_meaning.proofs.Mapping.{rows_alike}
use Rattle.sized_meaning.proofs.Size_reports.{datum_fine}
use Rattle.sized_meaning.specs.There.{There}
use Rattle.std.proofs.Common.{◌≡◌, ℕ, ◌≤◌, List, [], ◌∷◌, length, true, false, cond, None, refl, sym, ap, ◌∙◌, subst}
use Rattle.fut_scalar.specs.declared.place.BindId.{BindId}
use Rattle.fut_scalar.specs.declared.place.Place.{Place}
use Rattle.fut_flat.specs.declared.prim.Primitive.TheVariants as prim
use Rattle.fut_flat.specs.declared.prim.Ref.{Ref}
use Rattle.fut_types.specs.Types.{Sub}
use Rattle.fut_typing.specs.Names.{Names}
use Rattle.fut_value.specs.Data.{Shape, Datum, Array_datum, Datums, datums, listed}
use Rattle.fut_meaning.specs.Arrays.{shared, all_like}
use Rattle.fut_meaning.specs.Datums.{as_value, datum_of}
use Rattle.fut_meaning.specs.Flats.{FlatValue, flat_names}
use Rattle.fut_meaning.specs.Jobs.{Reduce_each, Reduces, places, in_place_of, job}
use Rattle.fut_meaning.specs.Meaning.{plain, job_of, row_told, Of_function, called_on}
use Rattle.fut_meaning.specs.Outcomes.{Out, Val, and_then, gives, the, Then}
use Rattle.fut_meaning.specs.Telling.{to_come, by_function, first_shape, worth_of, value_shape, data_told, tells, function_tells, primitive_tells}
use Rattle.fut_meaning.specs.Values.{Primitive_value, no_value, value_and, Call}
use Rattle.fut_meaning.proofs.Data.{datum_of_as}
use Rattle.fut_meaning.proofs.Safe.{Every}
use Rattle.sized_types.specs.Sizes.{Bound, Size, Level, Fun}
use Rattle.fut_sizes.specs.Scopes.{i64_size}
use Rattle.fut_sizes.specs.Suiting.{Each, Scoped, Data}
use Rattle.fut_sizes.specs.Rules.{Any_free}
use Rattle.sized_meaning.specs.Worth.{Worth, Frames, push, number}
use Rattle.sized_meaning.specs.Shapes.{Meant, Has_shape, Has_datum}
use Rattle.sized_meaning.specs.Finding.{One_kind_each}
use Rattle.sized_meaning.specs.Fits.{FlatValues, Out_fits, Gives, Told_right, Fits}
use Rattle.sized_meaning.specs.Law.{Sound, World, told, means, calls}
use Rattle.sized_meaning.proofs.Ways.{out_as}
use Rattle.sized_meaning.proofs.Outcomes.{gives_exact, gives_then, out_of}
use Rattle.sized_meaning.proofs.Scalars.{out_then}
use Rattle.sized_meaning.proofs.Datas.{datum_fits, fits_datum}
use Rattle.sized_meaning.proofs.Entered.{value_shaped}
use Rattle.sized_meaning.proofs.Applications.{evaluates}
use Rattle.sized_meaning.proofs.Known.{Tells_one, one_tells}
use Rattle.sized_meaning.proofs.Mapping.{every_listed, shape_anywhere, datum_anywhere}
use Rattle.sized_meaning.proofs.Reducing.{gives_all_of, gives_reduced, combines, not_function}
use Rattle.sized_meaning.proofs.First_order.{Given}
use Rattle.sized_meaning.proofs.Row_primitives.{every_as, data_array, data_i64}
use Rattle.sized_meaning.proofs.Scattering.{every_place, fit_or, written_out, as_many, array_moved}

-- data and what is behind it
and_data : (quiet : Report → Type 0) (P : Datum → Type 0) (Q : List Datum → Type 0) (o : Out Datum) (os : Out (List Datum)) → Out_fits quiet P o → Out_fits quiet Q os → Out_fits quiet (λ ds. (d : Datum) × (es : List Datum) × (ds ≡ d ∷ es) × P d × Q es) (and_then o (λ d. and_then os (λ ds. Val (d ∷ ds))))
and_data quiet P Q o os h k = out_then _ P (λ ds. (d : Datum) × (es : List Datum) × (ds ≡ d ∷ es) × P d × Q es) o (λ d. and_then os (λ ds. Val (d ∷ ds))) h
    (λ d x. out_then _ Q (λ ds. (d : Datum) × (es : List Datum) × (ds ≡ d ∷ es) × P d × Q es) os (λ ds. Val (d ∷ ds)) k (λ es y. (d, es, refl, x, y)))

module _ (N : Names) (types : Sub) (τ : Meant) (W : World) (S : Sound N types W.sizing) (one : One_kind_each τ) (m : Worth) where
  module _ (a : Size) (data_a : Data a) (closed_a : Each (Scoped Any_free) 0 a) (at : Place) where
    -- some data of a type, if it is data
    data_out : (ψ : Frames) (t : Size) (v : FlatValue) → Data t → Fits N τ W.sizing W.is_there (calls W) m ψ t v → Out_fits (There W.is_there) (Has_datum N τ m ψ t) (datum_of v)
    data_out ψ t v d h = out_of _ (Has_datum N τ m ψ t) (datum_of v) (datum_fine W.is_there v) (λ x e. fits_datum N τ W.sizing W.is_there (calls W) m ψ t d v x e h)

    module _ (φ : Frames) (F G H I : ℕ → ℕ) (u f ne is : FlatValue) (hu : Fits N τ W.sizing W.is_there (calls W) m (push F φ) (Level (Bound 0 0) a) u) (hf : Fits N τ W.sizing W.is_there (calls W) m (push G (push F φ)) (Fun 0 a (Fun 0 a a)) f)
        (hn : Fits N τ W.sizing W.is_there (calls W) m (push H (push G (push F φ))) a ne) (hi : Fits N τ W.sizing W.is_there (calls W) m (push I (push H (push G (push F φ)))) (Level (Bound 0 0) i64_size) is) where
      abbrev under : (ℕ → ℕ) → Frames
      under J = push J (push I (push H (push G (push F φ))))

      abbrev Counts : (ℕ → ℕ) → FlatValue → Type 0
      Counts J w = (J' : ℕ → ℕ) × ((i : ℕ) → i ≤ 0 → J' i ≡ J i) × Fits N τ W.sizing W.is_there (calls W) m (under J') (Level (Bound 4 0) a) w

      histogram_job : (J : ℕ → ℕ) (missing : Shape) (d n e g : Datum) → Has_datum N τ m (push F φ) (Level (Bound 0 0) a) d → Has_datum N τ m (push H (push G (push F φ))) a n → Has_datum N τ m (push I (push H (push G (push F φ)))) (Level (Bound 0 0) i64_size) e → Has_datum N τ m (under J) (Level (Bound 1 0) a) g
          → Gives (There W.is_there) (Counts J) (Then (the (job false missing prim.ReduceByIndex at (d ∷ n ∷ e ∷ g ∷ []))) (job_of ((flat_names (told W)).lang W.tops) (plain W.tight) W.budget (means W) 2 f))
      unfolding Has_datum job plain push
      histogram_job J missing (Array_datum row ds) n e g x y w z =
          gives_then (λ j. (ws : List (ℕ × Datum)) × (j ≡ Reduce_each true n (places (λ v vs. v ∷ vs) 0 (listed ds) ws) (in_place_of false at row)) × Every (λ w. Has_datum N τ m (under J) a w.1) ws) (Counts J) _ _
          (gives_exact _ _ 0 _ (written_out N types τ W S one m a data_a closed_a at (under J) (push I (push H (push G (push F φ)))) (Bound 1 0) (Bound 0 0) i64_size row (listed ds) e g (λ j. (ws : List (ℕ × Datum)) × (j ≡ Reduce_each true n (places (λ v vs. v ∷ vs) 0 (listed ds) ws) (in_place_of false at row)) × Every (λ w. Has_datum N τ m (under J) a w.1) ws)
          (λ ws. Val (Reduce_each true n (places (λ v vs. v ∷ vs) 0 (listed ds) ws) (in_place_of false at row))) (shape_anywhere N types τ W S one m a closed_a (push F φ) (under J) row x.1) w refl z (λ ws q. (ws, refl, q))))
          (λ j q. subst (λ i. Gives (There W.is_there) (Counts J) (job_of ((flat_names (told W)).lang W.tops) (plain W.tight) W.budget (means W) 2 f i)) (sym q.1)
          (gives_then (Has_datum N τ m (under J) (Level (Bound 4 0) a)) (Counts J) _ _
          (gives_then (λ ys. Every (Has_datum N τ m (under J) a) ys × (length ys ≡ length (places (λ v vs. v ∷ vs) 0 (listed ds) q.0))) (Has_datum N τ m (under J) (Level (Bound 4 0) a)) _ _
          (gives_all_of (Every (Has_datum N τ m (under J) a)) (Has_datum N τ m (under J) a) (Reduces W.tight true ((plain W.tight).operator_fits ((flat_names (told W)).lang W.tops) W.budget 2 f true) (called_on 2 (means W) f) n)
          (λ xs r. gives_reduced (Has_datum N τ m (under J) a) W.tight true ((plain W.tight).operator_fits ((flat_names (told W)).lang W.tops) W.budget 2 f true) (called_on 2 (means W) f) n (datum_anywhere N types τ W S one m a closed_a (push H (push G (push F φ))) (under J) n y)
          (λ v w p r. combines N types τ W S one m a data_a closed_a at (push G (push F φ)) f hf (under J) v w p r) xs r) (places (λ v vs. v ∷ vs) 0 (listed ds) q.0) (all_places J row ds x q.0 q.2).0)
          (λ ys r. as_many N types τ W S one m a data_a closed_a at (under J) (Bound 4 0) row (length (listed ds)) (in_place_of false at row) x.0 (shape_anywhere N types τ W S one m a closed_a (push F φ) (under J) row x.1)
          (λ ys e. fit_or _ (λ r. r.1 ≡ Array_datum row (datums ys)) (all_like row ys) at (shared (Array_datum row (datums ys))) (like_all row ys (rows_alike N types τ W S one m (under J) (Bound 4 0) a row ys (shape_anywhere N types τ W S one m a closed_a (push F φ) (under J) row x.1) e)) refl) ys (r.0, r.1 ∙ (all_places J row ds x q.0 q.2).1)))
          (λ w h. gives_exact _ (Counts J) 0 (Val (as_value w)) (J, (λ i l. refl), datum_fits N τ W.sizing W.is_there (calls W) m (under J) (Level (Bound 4 0) a) (data_array (Bound 4 0) a data_a) (as_value w) w (datum_of_as Ref BindId (Unit {0}) w) h))))
        where
          all_places : (J : ℕ → ℕ) (row : Shape) (ds : Datums) → Has_datum N τ m (push F φ) (Level (Bound 0 0) a) (Array_datum row ds) → (ws : List (ℕ × Datum)) → Every (λ w. Has_datum N τ m (under J) a w.1) ws
              → Every (Every (Has_datum N τ m (under J) a)) (places (λ v vs. v ∷ vs) 0 (listed ds) ws) × (length (places (λ v vs. v ∷ vs) 0 (listed ds) ws) ≡ length (listed ds))
          all_places J row ds x ws q = every_place (Has_datum N τ m (under J) a) (λ v vs. v ∷ vs) (λ v us h e. (h, e)) 0 (listed ds) ws
              (every_as (Has_datum N τ m (push F φ) a) (Has_datum N τ m (under J) a) (λ d h. datum_anywhere N types τ W S one m a closed_a (push F φ) (under J) d h) (listed ds) (every_listed (Has_datum N τ m (push F φ) a) ds x.2)) q
      histogram_job J missing d n e g x y w z = absurd x

      abbrev Four : (ℕ → ℕ) → List Datum → Type 0
      Four J ds = (d : Datum) × (n : Datum) × (e : Datum) × (g : Datum) × (ds ≡ d ∷ n ∷ e ∷ g ∷ []) × Has_datum N τ m (push F φ) (Level (Bound 0 0) a) d × Has_datum N τ m (push H (push G (push F φ))) a n × Has_datum N τ m (push I (push H (push G (push F φ)))) (Level (Bound 0 0) i64_size) e × Has_datum N τ m (under J) (Level (Bound 1 0) a) g

      four_out : (J : ℕ → ℕ) (w : FlatValue) → Fits N τ W.sizing W.is_there (calls W) m (under J) (Level (Bound 1 0) a) w
          → Out_fits (There W.is_there) (Four J) (and_then (datum_of u) (λ d. and_then (and_then (datum_of ne) (λ n. and_then (and_then (datum_of is) (λ e. and_then (and_then (datum_of w) (λ g. and_then (Val []) (λ ds. Val (g ∷ ds)))) (λ ds. Val (e ∷ ds)))) (λ ds. Val (n ∷ ds)))) (λ ds. Val (d ∷ ds))))
      four_out J w hw = out_as (There W.is_there) _ (Four J) _ (λ ds q. flat ds q)
          (and_data (There W.is_there) (Has_datum N τ m (push F φ) (Level (Bound 0 0) a)) _ (datum_of u) _ (data_out (push F φ) (Level (Bound 0 0) a) u (data_array (Bound 0 0) a data_a) hu)
          (and_data (There W.is_there) (Has_datum N τ m (push H (push G (push F φ))) a) _ (datum_of ne) _ (data_out (push H (push G (push F φ))) a ne data_a hn)
          (and_data (There W.is_there) (Has_datum N τ m (push I (push H (push G (push F φ)))) (Level (Bound 0 0) i64_size)) _ (datum_of is) _ (data_out (push I (push H (push G (push F φ)))) (Level (Bound 0 0) i64_size) is (data_array (Bound 0 0) i64_size data_i64) hi)
          (and_data (There W.is_there) (Has_datum N τ m (under J) (Level (Bound 1 0) a)) (λ ds. ds ≡ []) (datum_of w) (Val []) (data_out (under J) (Level (Bound 1 0) a) w (data_array (Bound 1 0) a data_a) hw) refl))))
        where
          flat : (ds : List Datum) → (d : Datum) × (es : List Datum) × (ds ≡ d ∷ es) × Has_datum N τ m (push F φ) (Level (Bound 0 0) a) d × ((n : Datum) × (gs : List Datum) × (es ≡ n ∷ gs) × Has_datum N τ m (push H (push G (push F φ))) a n
              × ((e : Datum) × (hs : List Datum) × (gs ≡ e ∷ hs) × Has_datum N τ m (push I (push H (push G (push F φ)))) (Level (Bound 0 0) i64_size) e × ((g : Datum) × (ks : List Datum) × (hs ≡ g ∷ ks) × Has_datum N τ m (under J) (Level (Bound 1 0) a) g × (ks ≡ [])))) → Four J ds
          flat ds (d, es, p, hd, (n, gs, q, hn, (e, hs, r, he, (g, ks, t, hg, z)))) = (d, n, e, g, p ∙ ap (λ x. d ∷ x) (q ∙ ap (λ x. n ∷ x) (r ∙ ap (λ x. e ∷ x) (t ∙ ap (λ x. g ∷ x) z))), hd, hn, he, hg)

      histogram_gives : (J : ℕ → ℕ) (w : FlatValue) → Fits N τ W.sizing W.is_there (calls W) m (under J) (Level (Bound 1 0) a) w → Gives (There W.is_there) (Counts J) (calls W (Primitive_value prim.ReduceByIndex at (value_and u (value_and f (value_and ne (value_and is no_value))))) w)
      unfolding plain
      histogram_gives J w hw = evaluates N types τ W S one (Counts J) (Call (Primitive_value prim.ReduceByIndex at (value_and u (value_and f (value_and ne (value_and is no_value))))) w)
          (gives_then (Four J) (Counts J) _ _ (gives_exact _ (Four J) 0 _ (four_out J w hw))
          (λ ds q. subst (λ z. Gives (There W.is_there) (Counts J) (Then (the (job false (row_told ((flat_names (told W)).lang W.tops) (Of_function prim.ReduceByIndex f z)) prim.ReduceByIndex at z)) (job_of ((flat_names (told W)).lang W.tops) (plain W.tight) W.budget (means W) 2 f))) (sym q.4) (histogram_job J _ q.0 q.1 q.2 q.3 q.5 q.6 q.7 q.8)))

      -- it tells the shape of the array that it was given
      histogram_tells : Tells_one N τ W.sizing m (push I (push H (push G (push F φ)))) 0 (Level (Bound 1 0) a) (Level (Bound 4 0) a) (Primitive_value prim.ReduceByIndex at (value_and u (value_and f (value_and ne (value_and is no_value))))) (data_array (Bound 4 0) a data_a)
      unfolding tells data_told primitive_tells push
      histogram_tells = (
        refl,
        λ dr low J h hx. subst (λ c. Has_shape N τ m (under J) (Level (Bound 4 0) a) (by_function (function_tells W.sizing (value_and u (value_and f (value_and ne (value_and is no_value))))) (first_shape (cond c (data_told (value_and f (value_and ne (value_and is no_value))) ((h, None) ∷ [])) ((value_shape u, worth_of u) ∷ data_told (value_and f (value_and ne (value_and is no_value))) ((h, None) ∷ []))))))
            (sym (not_function N types τ W S one m (push F φ) (Level (Bound 0 0) a) u (data_array (Bound 0 0) a data_a) hu))
            (array_moved N types τ W S one m a data_a closed_a at (push F φ) (under J) (Bound 0 0) (Bound 4 0) (value_shape u) refl (value_shaped N τ W.sizing W.is_there (calls W) m (push F φ) (Level (Bound 0 0) a) (data_array (Bound 0 0) a data_a) u hu)),
      )

    -- with the array that is given the shape is told, whatever is still to come
    array_told : (φ ψ : Frames) (F : ℕ → ℕ) (u : FlatValue) (vs : FlatValues) (hs : List Shape) → Fits N τ W.sizing W.is_there (calls W) m (push F φ) (Level (Bound 0 0) a) u → number m (push F φ) (Bound 0 0) ≡ number m ψ (Bound 4 0)
        → Has_shape N τ m ψ (Level (Bound 4 0) a) (tells W.sizing (Primitive_value prim.ReduceByIndex at (value_and u vs)) hs)
    unfolding tells data_told primitive_tells
    array_told φ ψ F u vs hs hu e = subst (λ c. Has_shape N τ m ψ (Level (Bound 4 0) a) (by_function (function_tells W.sizing (value_and u vs)) (first_shape (cond c (data_told vs (to_come hs)) ((value_shape u, worth_of u) ∷ data_told vs (to_come hs))))))
        (sym (not_function N types τ W S one m (push F φ) (Level (Bound 0 0) a) u (data_array (Bound 0 0) a data_a) hu))
        (array_moved N types τ W S one m a data_a closed_a at (push F φ) ψ (Bound 0 0) (Bound 4 0) (value_shape u) e (value_shaped N τ W.sizing W.is_there (calls W) m (push F φ) (Level (Bound 0 0) a) (data_array (Bound 0 0) a data_a) u hu))

    -- a function that waits for more arguments
    given_now : (k : ℕ) (F : ℕ → ℕ) (φ : Frames) (r : Size) (w : FlatValue) → Fits N τ W.sizing W.is_there (calls W) m (push F φ) r w → Gives (There W.is_there) (Given N types τ W S one m k F φ r) (gives 0 w)
    given_now k F φ r w h = gives_exact _ (Given N types τ W S one m k F φ r) 0 (Val w) (F, (λ i l. refl), h)

    abbrev Rest_four : Size
    Rest_four = Fun 0 (Level (Bound 1 0) a) (Level (Bound 4 0) a)

    abbrev Rest_three : Size
    Rest_three = Fun 1 (Level (Bound 0 0) i64_size) Rest_four

    abbrev Rest_two : Size
    Rest_two = Fun 0 a Rest_three

    abbrev Rest_one : Size
    Rest_one = Fun 0 (Fun 0 a (Fun 0 a a)) Rest_two

    pub reduce_by_index_fits : (φ : Frames) → Fits N τ W.sizing W.is_there (calls W) m φ (Fun 1 (Level (Bound 0 0) a) (Fun 0 (Fun 0 a (Fun 0 a a)) (Fun 0 a (Fun 1 (Level (Bound 0 0) i64_size) (Fun 0 (Level (Bound 1 0) a) (Level (Bound 4 0) a)))))) (Primitive_value prim.ReduceByIndex at no_value)
    unfolding Fits Told_right Has_shape push plain
    reduce_by_index_fits φ = (
      (refl, λ known F h hx G g hg. absurd hg),
      λ F u eu hu. evaluates N types τ W S one (Given N types τ W S one m 1 F φ Rest_one) (Call (Primitive_value prim.ReduceByIndex at no_value) u)
          (given_now 1 F φ Rest_one (Primitive_value prim.ReduceByIndex at (value_and u no_value)) (
            (refl, λ known G h hx. absurd hx),
            λ G f ef hf. evaluates N types τ W S one (Given N types τ W S one m 0 G (push F φ) Rest_two) (Call (Primitive_value prim.ReduceByIndex at (value_and u no_value)) f)
                (given_now 0 G (push F φ) Rest_two (Primitive_value prim.ReduceByIndex at (value_and u (value_and f no_value))) (
                  (refl, λ known H h hh I i hi J x hx. array_told φ (push J (push I (push H (push G (push F φ))))) F u (value_and f no_value) (h ∷ i ∷ x ∷ []) hu refl),
                  λ H ne en hn. evaluates N types τ W S one (Given N types τ W S one m 0 H (push G (push F φ)) Rest_three) (Call (Primitive_value prim.ReduceByIndex at (value_and u (value_and f no_value))) ne)
                      (given_now 0 H (push G (push F φ)) Rest_three (Primitive_value prim.ReduceByIndex at (value_and u (value_and f (value_and ne no_value)))) (
                        (refl, λ known I i hi J x hx. array_told φ (push J (push I (push H (push G (push F φ))))) F u (value_and f (value_and ne no_value)) (i ∷ x ∷ []) hu refl),
                        λ I is ei hi. evaluates N types τ W S one (Given N types τ W S one m 1 I (push H (push G (push F φ))) Rest_four) (Call (Primitive_value prim.ReduceByIndex at (value_and u (value_and f (value_and ne no_value)))) is)
                            (given_now 1 I (push H (push G (push F φ))) Rest_four (Primitive_value prim.ReduceByIndex at (value_and u (value_and f (value_and ne (value_and is no_value)))))
                            (one_tells N τ W.sizing m (push I (push H (push G (push F φ)))) 0 (Level (Bound 1 0) a) (Level (Bound 4 0) a) (Primitive_value prim.ReduceByIndex at (value_and u (value_and f (value_and ne (value_and is no_value))))) (data_array (Bound 4 0) a data_a) (histogram_tells φ F G H I u f ne is hu hf hn hi), λ J w ew hw. histogram_gives φ F G H I u f ne is hu hf hn hi J w hw)),
                      )),
                )),
          )),
    )
