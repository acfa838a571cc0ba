-- The primitives are of their sized types.
use Rattle.sized_meaning.specs.There.{Primitive_there}
use Rattle.sized_meaning.proofs.Quiet.{bad_range, too_large}
use Rattle.sized_meaning.specs.There.{There}
use Rattle.std.specs.Prelude.{ℤ, pos, negsuc, nat_le}
use Rattle.std.proofs.Common.{◌≡◌, ◌⊎◌, ℕ, [], ◌∷◌, length, Bool, true, false, refl, sym, ◌∙◌, subst, arith, inl, inr, List, ◌≤◌}
use Rattle.fut_scalar.specs.Integers.{integer_of}
use Rattle.fut_scalar.specs.declared.place.Place.{Place}
use Rattle.fut_scalar.specs.declared.report.FailKind.TheVariants as kind
use Rattle.fut_scalar.specs.declared.scalar.IntType.TheVariants.{I64}
use Rattle.fut_scalar.specs.declared.scalar.Scalar.TheVariants as scalar
use Rattle.fut_scalar.specs.declared.scalar.ScalarType.TheVariants as sort
use Rattle.fut_flat.specs.declared.prim.Primitive.{Primitive}
use Rattle.fut_flat.specs.declared.prim.Primitive.TheVariants as prim
use Rattle.fut_scalar.specs.declared.place.BindId.{BindId}
use Rattle.fut_flat.specs.declared.prim.Ref.{Ref}
use Rattle.fut_types.specs.Types.{Sub}
use Rattle.fut_typing.specs.Names.{Names}
use Rattle.fut_value.specs.Data.{Datum, Scalar_datum, Array_datum, datums, Shape, Scalar_shape}
use Rattle.fut_meaning.specs.Accessors.{count_of}
use Rattle.fut_meaning.specs.Arrays.{checked, most_words, fresh, array}
use Rattle.fut_meaning.specs.Datums.{as_value, datum_of}
use Rattle.fut_meaning.specs.Flats.{FlatValue, flat_names}
use Rattle.fut_meaning.specs.Jobs.{done, sized, i64_shape, numbers_from, job, Apply_each, alone, array_of_indices, finished}
use Rattle.fut_meaning.specs.Meaning.{plain, no_function, job_of, row_told, Of_function, called_on}
use Rattle.fut_meaning.specs.Operations.{primitive_use}
use Rattle.fut_meaning.specs.Outcomes.{Val, the, Then, and_then}
use Rattle.fut_meaning.specs.Values.{Scalar_value, Primitive_value, no_value, Call, value_and}
use Rattle.fut_meaning.proofs.Safe.{Every}
use Rattle.sized_types.specs.Sizes.{given, Inferred, Bound, Variable, Size, Level, Fun, levels}
use Rattle.fut_sizes.specs.Scopes.{i64_size}
use Rattle.fut_sizes.specs.Primitives.{prim_size, sized_type}
use Rattle.fut_sizes.specs.Suiting.{Never_at, Each, Scoped, Suits, suits_same, suits_parts, suits_function, Data}
use Rattle.fut_sizes.specs.Rules.{For_each_choice, Filled_use, Any_free, filled, all_filled}
use Rattle.sized_meaning.specs.Worth.{Worth, Frames, no_frames, push, number}
use Rattle.sized_meaning.specs.Shapes.{Meant, Has_shape, Has_datum}
use Rattle.sized_meaning.specs.Finding.{One_kind_each}
use Rattle.sized_meaning.specs.Fits.{Out_fits, Gives, Is_scalar, word, Chosen_in, Flat_result, Known_result, Told_right, Fits}
use Rattle.sized_meaning.specs.Law.{Sound, Flat_first, Plain_use, World, told, means, calls}
use Rattle.sized_meaning.proofs.Scalars.{out_then}
use Rattle.sized_meaning.proofs.Ways.{gives_as}
use Rattle.sized_meaning.proofs.Outcomes.{gives_exact, gives_then}
use Rattle.sized_meaning.proofs.Reading.{flat_result_replaced}
use Rattle.sized_meaning.proofs.Maps.{map2_fits, map3_fits, map4_fits, map5_fits}
use Rattle.sized_meaning.proofs.Suiting.{suits_flat_result, at_node, suits_fits, instance_fits}
use Rattle.fut_meaning.proofs.Data.{datum_of_as}
use Rattle.fut_meaning.specs.Telling.{tells, primitive_tells}
use Rattle.sized_meaning.proofs.Datas.{datum_fits}
use Rattle.sized_meaning.proofs.Applications.{evaluates}
use Rattle.sized_meaning.proofs.Reducing.{reduce_fits, reduce_comm_fits, scan_fits}
use Rattle.fut_flat.specs.declared.prim.Folding.TheVariants as folding
use Rattle.sized_meaning.proofs.First_order.{Done_with, done_gives}
use Rattle.sized_meaning.proofs.Row_primitives.{many_numbers, numbers_are, reverse_fits, indices_fits, null_fits, head_fits, last_fits, init_fits, tail_fits, copy_fits, take_fits, drop_fits, rotate_fits, replicate_fits, concat_fits}
use Rattle.sized_meaning.proofs.Sifting.{filter_fits, partition_fits}
use Rattle.sized_meaning.proofs.Zipping.{zip_fits, unzip_fits, flatten_fits, transpose_fits}
use Rattle.sized_meaning.proofs.Histogram.{reduce_by_index_fits}
use Rattle.sized_meaning.proofs.Triples.{zip3_fits, unzip3_fits}
use Rattle.sized_meaning.proofs.Scattering.{scatter_fits, unflatten_fits}
use Rattle.sized_meaning.proofs.Scalar_primitives.{convert_fits, min_fits, max_fits, abs_fits, popc_fits, fold_fits}
use Rattle.sized_meaning.proofs.Mapping.{array_of_rows, array_value, map_fits, One_of, alone_every, alone_long, gives_each, on_row, row_is_told, array_gives}

module _ (N : Names) (types : Sub) (τ : Meant) (W : World) (S : Sound N types W.sizing) (one : One_kind_each τ) (m : Worth) where
  -- ---- iota

  module _ (at : Place) where
    abbrev Counted_out : Frames → Datum → Type 0
    Counted_out φ d = Has_datum N τ m φ (Level (Bound 0 0) i64_size) d

    counted : (φ : Frames) (z : ℤ) → count_of z ≡ number m φ (Bound 0 0) → Out_fits (There W.is_there) (Done_with (Counted_out φ)) (sized at z (λ k. done (checked (nat_le k most_words) kind.TooLarge at (fresh (Array_datum i64_shape (datums (numbers_from k 0)))))))
    unfolding Has_shape
    counted φ (negsuc n) e = bad_range W.is_there at
    counted φ (pos k) e = tested (nat_le k most_words)
      where
        tested : (c : Bool) → Out_fits (There W.is_there) (Done_with (Counted_out φ)) (done (checked c kind.TooLarge at (fresh (Array_datum i64_shape (datums (numbers_from k 0))))))
        tested true = array_of_rows N types τ W S one m φ (Bound 0 0) i64_size i64_shape (numbers_from k 0) (many_numbers k 0 ∙ e) refl (numbers_are N types τ W S one m φ k 0)
        tested false = too_large W.is_there at

    iota_gives : (F : ℕ → ℕ) (v : FlatValue) → F 0 ≡ word v → Is_scalar (sort.Int I64) v → Gives (There W.is_there) (Fits N τ W.sizing W.is_there (calls W) m (push F no_frames) (Level (Bound 0 0) i64_size)) (means W (Call (Primitive_value prim.Iota at no_value) v))
    unfolding plain job word push datum_of
    iota_gives F (Scalar_value (scalar.Int t n)) e h = evaluates N types τ W S one (Fits N τ W.sizing W.is_there (calls W) m (push F no_frames) (Level (Bound 0 0) i64_size)) (Call (Primitive_value prim.Iota at no_value) (Scalar_value (scalar.Int t n)))
        (gives_then (λ ds. ds ≡ Scalar_datum (scalar.Int t n) ∷ []) (Fits N τ W.sizing W.is_there (calls W) m (push F no_frames) (Level (Bound 0 0) i64_size)) _ _
        (gives_exact _ _ 0 (Val (Scalar_datum (scalar.Int t n) ∷ [])) refl)
        (λ ds q. subst (λ z. Gives (There W.is_there) (Fits N τ W.sizing W.is_there (calls W) m (push F no_frames) (Level (Bound 0 0) i64_size)) (Then (the (job false (row_told ((flat_names (told W)).lang W.tops) (Of_function prim.Iota no_function z)) prim.Iota at z)) (job_of ((flat_names (told W)).lang W.tops) (plain W.tight) W.budget (means W) 0 no_function))) (sym q)
        (done_gives N types τ W S one m (Counted_out (push F no_frames)) (Fits N τ W.sizing W.is_there (calls W) m (push F no_frames) (Level (Bound 0 0) i64_size)) 0 no_function _ (counted (push F no_frames) (integer_of t n) (sym e)) (λ x y. array_value N types τ W S one m (push F no_frames) (Bound 0 0) i64_size x y))))
    iota_gives F (Scalar_value (scalar.Bool b)) e h = absurd (let z : sort.Bool ≡ sort.Int I64 = h in cc)
    iota_gives F v e h = absurd h

    iota_fits : Fits N τ W.sizing W.is_there (calls W) m no_frames (Fun 0 i64_size (Level (Bound 0 0) i64_size)) (Primitive_value prim.Iota at no_value)
    unfolding Fits Each Known_result Chosen_in
    iota_fits = ((refl, λ known. absurd (let l = known.1.0 in omega (arith, l))), λ F v eF hv. gives_as _ _ _ (iota_gives F v eF hv) (λ w x. (F, (λ i l. refl), x)))

  -- ---- tabulate

  module _ (a : Size) (data_a : Data a) (closed_a : Each (Scoped Any_free) 0 a) (at : Place) (φ : Frames) (f : FlatValue) (hf : Fits N τ W.sizing W.is_there (calls W) m φ (Fun 0 i64_size a) f) where
    abbrev Tabled : FlatValue → Type 0
    Tabled w = Fits N τ W.sizing W.is_there (calls W) m φ (Level (Bound 1 0) a) w

    index_data : Data i64_size
    unfolding Data
    index_data = tt

    index_closed : Each (Scoped Any_free) 0 i64_size
    unfolding Each
    index_closed = tt

    tabled_rows : (k : ℕ) (row : Shape) (ys : List Datum) → length ys ≡ number m φ (Bound 1 0) → Has_shape N τ m φ a row → Every (Has_datum N τ m φ a) ys → Gives (There W.is_there) (Has_datum N τ m φ (Level (Bound 1 0) a)) (finished (array_of_indices false row at k) ys)
    tabled_rows k row ys l h e = gives_then (λ r. Has_datum N τ m φ (Level (Bound 1 0) a) r.1) (Has_datum N τ m φ (Level (Bound 1 0) a)) _ _
        (gives_exact _ (λ r. Has_datum N τ m φ (Level (Bound 1 0) a) r.1) 0 (array_of_indices false row at k ys) (out_then _ (Has_datum N τ m φ (Level (Bound 1 0) a)) (λ r. Has_datum N τ m φ (Level (Bound 1 0) a) r.1) (array false at row ys) _ (array_gives N types τ W S one m φ (Bound 1 0) a at row ys l h e) (λ d x. x)))
        (λ r x. gives_exact _ (Has_datum N τ m φ (Level (Bound 1 0) a)) r.0 (Val r.1) x)

    tabled_job : (z : ℤ) (row : Shape) → count_of z ≡ number m φ (Bound 1 0) → Has_shape N τ m φ a row
        → Gives (There W.is_there) Tabled (Then (the (sized at z (λ k. Val (Apply_each (alone (numbers_from k 0)) (array_of_indices false row at k))))) (job_of ((flat_names (told W)).lang W.tops) (plain W.tight) W.budget (means W) 1 f))
    unfolding plain
    tabled_job (negsuc n) row e h = gives_then (λ j. ⊥) Tabled _ _ (gives_exact _ (λ j. ⊥) 0 _ (bad_range W.is_there at)) (λ j x. absurd x)
    tabled_job (pos k) row e h =
        let rows : List Datum = numbers_from k 0 in
        gives_then (λ j. j ≡ Apply_each (alone rows) (array_of_indices false row at k)) Tabled _ _
        (gives_exact _ _ 0 (Val (Apply_each (alone rows) (array_of_indices false row at k))) refl)
        (λ j q. subst (λ z. Gives (There W.is_there) Tabled (job_of ((flat_names (told W)).lang W.tops) (plain W.tight) W.budget (means W) 1 f z)) (sym q)
        (gives_then (Has_datum N τ m φ (Level (Bound 1 0) a)) Tabled _ _
        (gives_then (λ ys. Every (Has_datum N τ m φ a) ys × (length ys ≡ length (alone rows))) (Has_datum N τ m φ (Level (Bound 1 0) a)) _ _
        (gives_each (One_of (Has_datum N τ m φ i64_size)) (Has_datum N τ m φ a) (called_on 1 (means W) f) (λ r x. on_row N types τ W S one m i64_size a index_data data_a index_closed closed_a at φ f hf φ φ r x) (alone rows) (alone_every (Has_datum N τ m φ i64_size) rows (numbers_are N types τ W S one m φ k 0)))
        (λ ys y. tabled_rows k row ys (y.1 ∙ alone_long rows ∙ many_numbers k 0 ∙ e) h y.0))
        (λ x y. gives_exact _ Tabled 0 (Val (as_value x)) (array_value N types τ W S one m φ (Bound 1 0) a x y))))

    tabled_gives : (v : FlatValue) → word v ≡ number m φ (Bound 1 0) → Is_scalar (sort.Int I64) v → Gives (There W.is_there) Tabled (means W (Call (Primitive_value prim.Tabulate at (value_and v no_value)) f))
    unfolding plain job word datum_of row_told Has_shape flat_names
    tabled_gives (Scalar_value (scalar.Int t n)) e h = evaluates N types τ W S one Tabled (Call (Primitive_value prim.Tabulate at (value_and (Scalar_value (scalar.Int t n)) no_value)) f)
        (gives_then (λ ds. ds ≡ Scalar_datum (scalar.Int t n) ∷ []) Tabled _ _
        (gives_exact _ _ 0 (Val (Scalar_datum (scalar.Int t n) ∷ [])) refl)
        (λ ds q. subst (λ z. Gives (There W.is_there) Tabled (Then (the (job false (row_told ((flat_names (told W)).lang W.tops) (Of_function prim.Tabulate f z)) prim.Tabulate at z)) (job_of ((flat_names (told W)).lang W.tops) (plain W.tight) W.budget (means W) 1 f))) (sym q)
        (tabled_job (integer_of t n) (tells W.sizing f (Scalar_shape (sort.Int I64) ∷ [])) e (row_is_told N types τ W S one m i64_size a index_data data_a index_closed closed_a at φ f hf φ φ (Scalar_shape (sort.Int I64)) refl))))
    tabled_gives (Scalar_value (scalar.Bool b)) e h = absurd (let z : sort.Bool ≡ sort.Int I64 = h in cc)
    tabled_gives v e h = absurd h

  tabulate_fits : (a : Size) → Data a → Each (Scoped Any_free) 0 a → (at : Place) → Fits N τ W.sizing W.is_there (calls W) m no_frames (Fun 0 i64_size (Fun 0 (Fun 0 i64_size a) (Level (Bound 1 0) a))) (Primitive_value prim.Tabulate at no_value)
  unfolding Fits Told_right Has_shape push
  tabulate_fits a d c at = (
    (refl, λ known F h hx G g hg. absurd hg),
    λ F v eF hv. evaluates N types τ W S one _ (Call (Primitive_value prim.Tabulate at no_value) v)
        (gives_exact _ (λ w. (F' : ℕ → ℕ) × ((i : ℕ) → i ≤ 0 → F' i ≡ F i) × Fits N τ W.sizing W.is_there (calls W) m (push F' no_frames) (Fun 0 (Fun 0 i64_size a) (Level (Bound 1 0) a)) w) 0 (Val (Primitive_value prim.Tabulate at (value_and v no_value)))
        (F, (λ i l. refl), ((refl, λ known G h hx. absurd hx), λ G f eG hf. gives_as (Tabled a d c at (push G (push F no_frames)) f hf) _ _ (tabled_gives a d c at (push G (push F no_frames)) f hf v (sym eF) hv) (λ w x. (G, (λ i l. refl), x))))),
  )

  -- ---- length

  module _ (a : Size) (at : Place) where
    length_job : (φ : Frames) (d : Datum) → Has_datum N τ m φ (Level (Bound 0 0) a) d
        → Gives (There W.is_there) (Fits N τ W.sizing W.is_there (calls W) m φ i64_size) (Then (the (job false (row_told ((flat_names (told W)).lang W.tops) (Of_function prim.Length no_function (d ∷ []))) prim.Length at (d ∷ []))) (job_of ((flat_names (told W)).lang W.tops) (plain W.tight) W.budget (means W) 0 no_function))
    unfolding Has_datum job Data
    length_job φ (Array_datum row ds) h = done_gives N types τ W S one m (Has_datum N τ m φ i64_size) (Fits N τ W.sizing W.is_there (calls W) m φ i64_size) 0 no_function _ refl (λ x y. datum_fits N τ W.sizing W.is_there (calls W) m φ i64_size tt (as_value x) x (datum_of_as Ref BindId (Unit {0}) x) y)
    length_job φ d h = absurd h

    length_gives : (φ : Frames) (v : FlatValue) → Fits N τ W.sizing W.is_there (calls W) m φ (Level (Bound 0 0) a) v → Gives (There W.is_there) (Fits N τ W.sizing W.is_there (calls W) m φ i64_size) (means W (Call (Primitive_value prim.Length at no_value) v))
    unfolding Fits plain
    length_gives φ v hv = evaluates N types τ W S one (Fits N τ W.sizing W.is_there (calls W) m φ i64_size) (Call (Primitive_value prim.Length at no_value) v)
        (gives_then (λ ds. ds ≡ hv.datum ∷ []) (Fits N τ W.sizing W.is_there (calls W) m φ i64_size) _ _
        (gives_exact _ _ 0 _ (subst (λ o. Out_fits (There W.is_there) (λ ds. ds ≡ hv.datum ∷ []) (and_then o (λ d. and_then (Val []) (λ ds. Val (d ∷ ds))))) (sym hv.is_datum) refl))
        (λ ds q. subst (λ z. Gives (There W.is_there) (Fits N τ W.sizing W.is_there (calls W) m φ i64_size) (Then (the (job false (row_told ((flat_names (told W)).lang W.tops) (Of_function prim.Length no_function z)) prim.Length at z)) (job_of ((flat_names (told W)).lang W.tops) (plain W.tight) W.budget (means W) 0 no_function))) (sym q) (length_job φ hv.datum hv.fits)))

    length_fits : Fits N τ W.sizing W.is_there (calls W) m no_frames (Fun 1 (Level (Bound 0 0) a) i64_size) (Primitive_value prim.Length at no_value)
    unfolding Fits Has_shape Told_right tells primitive_tells
    length_fits = ((refl, λ known F h hx. refl), λ F v eF hv. gives_as _ _ _ (length_gives (push F no_frames) v hv) (λ w x. (F, (λ i l. refl), x)))

  -- ---- a use of a primitive, whose type variables are these types of data

  filled_fits : (p : Primitive) (at : Place) → Primitive_there W.is_there p at → (u : Size) → Filled_use (λ v. true) (prim_size p) u → (q : (v : Variable) → Size) → Plain_use p (filled q (prim_size p)) → ((v : Variable) → Data (q v)) → ((v : Variable) → Each (Scoped Any_free) 0 (q v)) → Fits N τ W.sizing W.is_there (calls W) m no_frames (filled q (prim_size p)) (primitive_use p at)
  unfolding filled all_filled prim_size sized_type levels Fits Flat_result
  filled_fits prim.Map at there u U q fl d c = map_fits N types τ W S one m (q (Inferred 0)) (q (Inferred 1)) (d (Inferred 0)) (d (Inferred 1)) (c (Inferred 0)) (c (Inferred 1)) at
  filled_fits prim.Map2 at there u U q fl d c = map2_fits N types τ W S one m at (q (Inferred 0)) (q (Inferred 1)) (q (Inferred 2)) (d (Inferred 0), c (Inferred 0)) (d (Inferred 1), c (Inferred 1)) (d (Inferred 2), c (Inferred 2)) fl no_frames
  filled_fits prim.Map3 at there u U q fl d c = map3_fits N types τ W S one m at (q (Inferred 0)) (q (Inferred 1)) (q (Inferred 2)) (q (Inferred 3)) (d (Inferred 0), c (Inferred 0)) (d (Inferred 1), c (Inferred 1)) (d (Inferred 2), c (Inferred 2)) (d (Inferred 3), c (Inferred 3)) fl no_frames
  filled_fits prim.Map4 at there u U q fl d c = map4_fits N types τ W S one m at (q (Inferred 0)) (q (Inferred 1)) (q (Inferred 2)) (q (Inferred 3)) (q (Inferred 4)) (d (Inferred 0), c (Inferred 0)) (d (Inferred 1), c (Inferred 1)) (d (Inferred 2), c (Inferred 2)) (d (Inferred 3), c (Inferred 3)) (d (Inferred 4), c (Inferred 4)) fl no_frames
  filled_fits prim.Map5 at there u U q fl d c = map5_fits N types τ W S one m at (q (Inferred 0)) (q (Inferred 1)) (q (Inferred 2)) (q (Inferred 3)) (q (Inferred 4)) (q (Inferred 5)) (d (Inferred 0), c (Inferred 0)) (d (Inferred 1), c (Inferred 1)) (d (Inferred 2), c (Inferred 2)) (d (Inferred 3), c (Inferred 3)) (d (Inferred 4), c (Inferred 4)) (d (Inferred 5), c (Inferred 5)) fl no_frames
  filled_fits prim.Reduce at there u U q fl d c = reduce_fits N types τ W S one m (q (Inferred 0)) (d (Inferred 0)) (c (Inferred 0)) at
  filled_fits prim.ReduceComm at there u U q fl d c = reduce_comm_fits N types τ W S one m (q (Inferred 0)) (d (Inferred 0)) (c (Inferred 0)) at
  filled_fits prim.Scan at there u U q fl d c = scan_fits N types τ W S one m (q (Inferred 0)) (d (Inferred 0)) (c (Inferred 0)) at
  filled_fits prim.Filter at there u U q fl d c = filter_fits N types τ W S one m (q (Inferred 0)) (d (Inferred 0)) (c (Inferred 0)) at no_frames
  filled_fits prim.Partition at there u U q fl d c = partition_fits N types τ W S one m (q (Inferred 0)) (d (Inferred 0)) (c (Inferred 0)) at no_frames
  filled_fits prim.Transpose at there u U q fl d c = transpose_fits N types τ W S one m (q (Inferred 0)) (d (Inferred 0)) (c (Inferred 0)) at no_frames
  filled_fits prim.Tabulate at there u U q fl d c = tabulate_fits (q (Inferred 0)) (d (Inferred 0)) (c (Inferred 0)) at
  filled_fits prim.Length at there u U q fl d c = length_fits (q (Inferred 0)) at
  filled_fits prim.Iota at there u U q fl d c = iota_fits at
  filled_fits prim.Reverse at there u U q fl d c = reverse_fits N types τ W S one m (q (Inferred 0)) (d (Inferred 0)) (c (Inferred 0)) at no_frames
  filled_fits prim.Indices at there u U q fl d c = indices_fits N types τ W S one m (q (Inferred 0)) (d (Inferred 0)) (c (Inferred 0)) at no_frames
  filled_fits prim.Null at there u U q fl d c = null_fits N types τ W S one m (q (Inferred 0)) (d (Inferred 0)) (c (Inferred 0)) at no_frames
  filled_fits prim.Head at there u U q fl d c = head_fits N types τ W S one m (q (Inferred 0)) (d (Inferred 0)) (c (Inferred 0)) at no_frames
  filled_fits prim.Last at there u U q fl d c = last_fits N types τ W S one m (q (Inferred 0)) (d (Inferred 0)) (c (Inferred 0)) at no_frames
  filled_fits prim.Init at there u U q fl d c = init_fits N types τ W S one m (q (Inferred 0)) (d (Inferred 0)) (c (Inferred 0)) at no_frames
  filled_fits prim.Tail at there u U q fl d c = tail_fits N types τ W S one m (q (Inferred 0)) (d (Inferred 0)) (c (Inferred 0)) at no_frames
  filled_fits prim.Copy at there u U q fl d c = copy_fits N types τ W S one m (q (Inferred 0)) (d (Inferred 0)) (c (Inferred 0)) at no_frames
  filled_fits prim.Take at there u U q fl d c = take_fits N types τ W S one m (q (Inferred 0)) (d (Inferred 0)) (c (Inferred 0)) at no_frames
  filled_fits prim.Drop at there u U q fl d c = drop_fits N types τ W S one m (q (Inferred 0)) (d (Inferred 0)) (c (Inferred 0)) at no_frames
  filled_fits prim.Rotate at there u U q fl d c = rotate_fits N types τ W S one m (q (Inferred 0)) (d (Inferred 0)) (c (Inferred 0)) at no_frames
  filled_fits prim.Replicate at there u U q fl d c = replicate_fits N types τ W S one m (q (Inferred 0)) (d (Inferred 0)) (c (Inferred 0)) at no_frames
  filled_fits prim.Concat at there u U q fl d c = concat_fits N types τ W S one m (q (Inferred 0)) (d (Inferred 0)) (c (Inferred 0)) at no_frames
  filled_fits prim.Flatten at there u U q fl d c = flatten_fits N types τ W S one m (q (Inferred 0)) (d (Inferred 0)) (c (Inferred 0)) at no_frames
  filled_fits prim.Zip at there u U q fl d c = zip_fits N types τ W S one m (q (Inferred 0)) (q (Inferred 1)) (d (Inferred 0)) (d (Inferred 1)) (c (Inferred 0)) (c (Inferred 1)) at no_frames
  filled_fits prim.Unzip at there u U q fl d c = unzip_fits N types τ W S one m (q (Inferred 0)) (q (Inferred 1)) (d (Inferred 0)) (d (Inferred 1)) (c (Inferred 0)) (c (Inferred 1)) at no_frames
  filled_fits prim.Zip3 at there u U q fl d c = zip3_fits N types τ W S one m (q (Inferred 0)) (q (Inferred 1)) (q (Inferred 2)) (d (Inferred 0)) (d (Inferred 1)) (d (Inferred 2)) (c (Inferred 0)) (c (Inferred 1)) (c (Inferred 2)) at no_frames
  filled_fits prim.Unzip3 at there u U q fl d c = unzip3_fits N types τ W S one m (q (Inferred 0)) (q (Inferred 1)) (q (Inferred 2)) (d (Inferred 0)) (d (Inferred 1)) (d (Inferred 2)) (c (Inferred 0)) (c (Inferred 1)) (c (Inferred 2)) at no_frames
  filled_fits prim.Unflatten at there u U q fl d c = unflatten_fits N types τ W S one m (q (Inferred 0)) (d (Inferred 0)) (c (Inferred 0)) at no_frames there
  filled_fits prim.Scatter at there u U q fl d c = scatter_fits N types τ W S one m (q (Inferred 0)) (d (Inferred 0)) (c (Inferred 0)) at no_frames
  filled_fits prim.ReduceByIndex at there u U q fl d c = reduce_by_index_fits N types τ W S one m (q (Inferred 0)) (d (Inferred 0)) (c (Inferred 0)) at no_frames
  filled_fits (prim.Convert to from) at there u U q fl d c = convert_fits N types τ W S one m at no_frames to from
  filled_fits (prim.Min t) at there u U q fl d c = min_fits N types τ W S one m at no_frames t
  filled_fits (prim.Max t) at there u U q fl d c = max_fits N types τ W S one m at no_frames t
  filled_fits (prim.Abs t) at there u U q fl d c = abs_fits N types τ W S one m at no_frames t
  filled_fits (prim.Popc t) at there u U q fl d c = popc_fits N types τ W S one m at no_frames t
  filled_fits (prim.Lowest t) at there u U q fl d c = refl
  filled_fits (prim.Highest t) at there u U q fl d c = refl
  filled_fits (prim.NumBits t) at there u U q fl d c = refl
  filled_fits (prim.Fold folding.Sum t) at there u U q fl d c = fold_fits N types τ W S one m at no_frames folding.Sum t
  filled_fits (prim.Fold folding.Product t) at there u U q fl d c = fold_fits N types τ W S one m at no_frames folding.Product t
  filled_fits (prim.Fold folding.Minimum t) at there u U q fl d c = fold_fits N types τ W S one m at no_frames folding.Minimum t
  filled_fits (prim.Fold folding.Maximum t) at there u U q fl d c = fold_fits N types τ W S one m at no_frames folding.Maximum t

module _ (N : Names) (types : Sub) (τ : Meant) (W : World) (S : Sound N types W.sizing) (one : One_kind_each τ) where
  -- the type that is filled gives no arrays where the type of the use does not
  first_flat : {t u : Size} → Suits t u → Flat_first u → Flat_first t
  unfolding Flat_result
  first_flat suits_same h = h
  first_flat (suits_parts q) h = tt
  first_flat (suits_function {p = p} {q = q} n n' δ ρ I z a b) h = (flat_result_replaced (given δ) p 1).1 ((suits_flat_result a).0 ((flat_result_replaced (given ρ) q 1).0 h))

  use_flat : (p : Primitive) (t u : Size) → (Flat_first u → Flat_first t) → Plain_use p u → Plain_use p t
  use_flat prim.Map2 t u go h = go h
  use_flat prim.Map3 t u go h = go h
  use_flat prim.Map4 t u go h = go h
  use_flat prim.Map5 t u go h = go h
  use_flat p t u go h = tt

  choice_flat : (t u : Size) → For_each_choice t u → Flat_first u → Flat_first t
  choice_flat t u C h = subst Flat_first (sym C.is_function) ((flat_result_replaced (given C.δ) C.from 1).1 ((suits_flat_result C.parameter).0 ((flat_result_replaced (given C.ρ) C.wanted_from 1).0 (subst Flat_first C.wanted h))))

  pub primitive_fits : (p : Primitive) (at : Place) → Primitive_there W.is_there p at → (u : Size) → Plain_use p u → Filled_use (λ v. true) (prim_size p) u → (m : Worth) → Fits N τ W.sizing W.is_there (calls W) m no_frames u (primitive_use p at)
  primitive_fits p at there u fl U m = by_use U.used
    where
      by_use : Suits (filled U.types (prim_size p)) u ⊎ ((C : For_each_choice (filled U.types (prim_size p)) u) × Never_at C.n (prim_size p)) → Fits N τ W.sizing W.is_there (calls W) m no_frames u (primitive_use p at)
      by_use (inl q) = suits_fits N τ W.sizing W.is_there (calls W) q m (primitive_use p at) (filled_fits N types τ W S one m p at there u U U.types (use_flat p (filled U.types (prim_size p)) u (first_flat q) fl) U.data_types U.closed)
      by_use (inr (C, away)) = subst (λ x. Fits N τ W.sizing W.is_there (calls W) m no_frames x (primitive_use p at)) (sym C.wanted)
          (instance_fits N τ W.sizing W.is_there (calls W) C.chosen C.from C.to C.wanted_chosen C.wanted_from C.wanted_to C.n C.m C.δ C.ρ C.at_choice C.parameter C.result
          (λ m v x. suits_fits N τ W.sizing W.is_there (calls W) C.parameter m v x) (λ m v x. suits_fits N τ W.sizing W.is_there (calls W) C.result m v x) m (primitive_use p at)
          (λ F. subst (λ x. Fits N τ W.sizing W.is_there (calls W) (at_node C.n F m) no_frames x (primitive_use p at)) C.is_function (filled_fits N types τ W S one (at_node C.n F m) p at there u U U.types (use_flat p (filled U.types (prim_size p)) u (choice_flat (filled U.types (prim_size p)) u C) fl) U.data_types U.closed)))
