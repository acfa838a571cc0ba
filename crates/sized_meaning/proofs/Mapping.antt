-- `map` is of its sized type, at all sized types of rows: an array has as many results as rows, and without rows it has what the
-- function tells.
use Rattle.fut_scalar.specs.declared.report.Report.{Report}
use Rattle.sized_meaning.proofs.Quiet.{too_large}
use Rattle.sized_meaning.specs.Misfits.{All_of_shape}
use Rattle.sized_meaning.proofs.Alone.{shape_alone}
use Rattle.sized_meaning.proofs.Misfits.{fits_here, rows_like}
use Rattle.sized_meaning.proofs.Size_reports.{datum_fine}
use Rattle.sized_meaning.specs.There.{There}
use Rattle.std.specs.Prelude.{nat_le}
use Rattle.std.proofs.Common.{◌≡◌, ℕ, suc, ◌<◌, ◌≤◌, List, [], ◌∷◌, length, None, Bool, true, false, cond, refl, sym, ap, ◌∙◌, subst, arith}
use Rattle.fut_scalar.specs.declared.place.Place.{Place}
use Rattle.fut_scalar.specs.declared.place.BindId.{BindId}
use Rattle.fut_flat.specs.declared.prim.Ref.{Ref}
use Rattle.fut_flat.specs.declared.prim.Primitive.TheVariants as prim
use Rattle.fut_types.specs.Types.{Sub}
use Rattle.fut_typing.specs.Names.{Names}
use Rattle.fut_value.specs.Data.{Shape, Array_shape, Unmet_shape, Datum, Array_datum, Datums, no_datum, datum_and, listed, datums, shape_of, weight}
use Rattle.fut_scalar.specs.declared.report.FailKind.TheVariants as kind
use Rattle.fut_meaning.specs.Arrays.{checked, most_words, fresh, all_like, row_shape, within_weight, array}
use Rattle.fut_meaning.specs.Datums.{as_value, datum_of}
use Rattle.fut_meaning.specs.Flats.{FlatValue, flat_names}
use Rattle.fut_meaning.specs.Jobs.{Apply_each, alone, array_of_results, finished, job}
use Rattle.fut_meaning.specs.Meaning.{plain, called, called_on, job_of, row_told, Of_function}
use Rattle.fut_meaning.specs.Outcomes.{Val, and_then, Rel, the, Then, each_of}
use Rattle.fut_meaning.specs.Telling.{by_function, worth_of, value_shape, data_told, tells, primitive_tells}
use Rattle.fut_meaning.specs.Values.{Primitive_value, no_value, value_and, Call}
use Rattle.fut_meaning.proofs.Data.{datum_of_as}
use Rattle.fut_meaning.proofs.Safe.{Every}
use Rattle.sized_types.specs.Sizes.{Dim, At, Bound, Size, Hole, Open, Level, Built, Fun, Sizes, no_size, size_and}
use Rattle.fut_sizes.specs.Suiting.{Each, Each_all, Scoped, Of_positions, Data, All_data}
use Rattle.fut_sizes.specs.Rules.{Any_free}
use Rattle.sized_meaning.specs.Worth.{Worth, Frames, no_frames, push, number}
use Rattle.sized_meaning.specs.Shapes.{Meant, Every_datum, Has_shape, Has_datum}
use Rattle.sized_meaning.specs.Finding.{One_kind_each}
use Rattle.sized_meaning.specs.Fits.{Out_fits, Gives, word, Fits}
use Rattle.sized_meaning.specs.Law.{Sound, World, told, means, calls}
use Rattle.sized_meaning.proofs.Ways.{gives_as}
use Rattle.sized_meaning.proofs.Outcomes.{gives_exact, gives_then, out_of}
use Rattle.sized_meaning.proofs.Scalars.{out_then}
use Rattle.sized_meaning.proofs.Reading.{shape_same, datum_same}
use Rattle.sized_meaning.proofs.Known.{Tells_one, one_tells, tells_one}
use Rattle.sized_meaning.proofs.Datas.{datum_shaped, datum_fits, fits_datum}
use Rattle.sized_meaning.proofs.Applications.{evaluates}

-- what each of some elements gives has a property, and there are as many
pub gives_each : {quiet : Report → Type 0} {A B : Type 0} (P : A → Type 0) (Q : B → Type 0) (g : A → Rel B) → ((a : A) → P a → Gives quiet Q (g a)) → (xs : List A) → Every P xs → Gives quiet (λ ys. Every Q ys × (length ys ≡ length xs)) (each_of g xs)
gives_each P Q g h [] e = gives_exact _ _ 0 (Val []) (tt, refl)
gives_each P Q g h (x ∷ xs) e =
    gives_then Q (λ ys. Every Q ys × (length ys ≡ length (x ∷ xs))) _ _ (h x e.0)
    (λ y q. gives_then (λ ys. Every Q ys × (length ys ≡ length xs)) (λ ys. Every Q ys × (length ys ≡ length (x ∷ xs))) _ _ (gives_each P Q g h xs e.1)
    (λ ys qs. gives_exact _ _ 0 (Val (y ∷ ys)) ((q, qs.0), ap suc qs.1)))

pub every_listed : (P : Datum → Type 0) (ds : Datums) → Every_datum P ds → Every P (listed ds)
every_listed P no_datum h = tt
every_listed P (datum_and d ds) h = (h.0, every_listed P ds h.1)

pub listed_every : (P : Datum → Type 0) (ds : List Datum) → Every P ds → Every_datum P (datums ds)
listed_every P [] h = tt
listed_every P (d ∷ ds) h = (h.0, listed_every P ds h.1)

pub same_list : (ds : List Datum) → listed (datums ds) ≡ ds
same_list [] = refl
same_list (d ∷ ds) = ap (λ xs. d ∷ xs) (same_list ds)

-- rows of one argument
pub One_of : (Datum → Type 0) → List Datum → Type 0
One_of P [] = ⊥
One_of P (d ∷ []) = P d
One_of P (d ∷ e ∷ ds) = ⊥

pub alone_every : (P : Datum → Type 0) (ds : List Datum) → Every P ds → Every (One_of P) (alone ds)
unfolding One_of
alone_every P [] h = tt
alone_every P (d ∷ ds) h = (h.0, alone_every P ds h.1)

pub alone_long : (ds : List Datum) → length (alone ds) ≡ length ds
alone_long [] = refl
alone_long (d ∷ ds) = ap suc (alone_long ds)

-- data without frames names no position
closed_position : (Q : ℕ → Type 0) (j : ℕ) (d : Dim) → Scoped Any_free 0 d → Of_positions Q j d
closed_position Q j (At d) o = tt
closed_position Q j (Bound k i) o = absurd (omega (arith, o))

module _ (Q : ℕ → Type 0) (j : ℕ) where
  mutual
    unfolding Each Each_all Data All_data

    pub closed_positions : (t : Size) → Data t → Each (Scoped Any_free) 0 t → Each (Of_positions Q) j t
    closed_positions (Hole v) d e = tt
    closed_positions (Open n v u) d e = tt
    closed_positions (Level x t) d e = (closed_position Q j x e.0, closed_positions t d e.1)
    closed_positions (Built h ts) d e = all_closed_positions ts d e
    closed_positions (Fun k p r) d e = absurd d

    all_closed_positions : (ts : Sizes) → All_data ts → Each_all (Scoped Any_free) 0 ts → Each_all (Of_positions Q) j ts
    all_closed_positions no_size d e = tt
    all_closed_positions (size_and t ts) d e = (closed_positions t d.0 e.0, all_closed_positions ts d.1 e.1)

pub level_data : (d : Dim) (t : Size) → Data t → Data (Level d t)
unfolding Data
level_data d t h = h

module _ (N : Names) (types : Sub) (τ : Meant) (W : World) (S : Sound N types W.sizing) (one : One_kind_each τ) (m : Worth) where
  -- ---- data without frames is the same under any

  module _ (a : Size) (closed_a : Each (Scoped Any_free) 0 a) where
    pub shape_anywhere : (φ φ' : Frames) (h : Shape) → Has_shape N τ m φ a h → Has_shape N τ m φ' a h
    shape_anywhere φ φ' h x = shape_same Any_free m m N τ (λ d i. refl) a 0 φ φ' closed_a (λ j i l. absurd (omega (arith, l))) h x

    pub datum_anywhere : (φ φ' : Frames) (x : Datum) → Has_datum N τ m φ a x → Has_datum N τ m φ' a x
    datum_anywhere φ φ' x h = datum_same Any_free m m N τ (λ d i. refl) a 0 φ φ' closed_a (λ j i l. absurd (omega (arith, l))) x h

  -- ---- an array of rows of a sized type, where the shape that is told is one of it
  module _ (φ : Frames) (x : Dim) (b : Size) where
    rows_shape : (row : Shape) (ds : List Datum) → Has_shape N τ m φ b row → Every (Has_datum N τ m φ b) ds → Has_shape N τ m φ b (row_shape row ds)
    rows_shape row [] h e = h
    rows_shape row (d ∷ ds) h e = datum_shaped N τ m φ b d e.0

    pub array_of_rows : (row : Shape) (ds : List Datum) → length ds ≡ number m φ x → Has_shape N τ m φ b row → Every (Has_datum N τ m φ b) ds → Has_datum N τ m φ (Level x b) (Array_datum row (datums ds))
    unfolding Has_datum
    array_of_rows row ds l h e = (ap length (same_list ds) ∙ l, h, listed_every (Has_datum N τ m φ b) ds e)

    pub weighed : (at : Place) (d : Datum) → Has_datum N τ m φ (Level x b) d → Out_fits (There W.is_there) (Has_datum N τ m φ (Level x b)) (within_weight at d)
    weighed at d h = tested (nat_le (weight (shape_of d)) most_words)
      where
        tested : (c : Bool) → Out_fits (There W.is_there) (Has_datum N τ m φ (Level x b)) (checked c kind.TooLarge at (Val d))
        tested true = h
        tested false = too_large W.is_there at

    -- rows of one shape
    pub rows_alike : (row : Shape) (ds : List Datum) → Has_shape N τ m φ b row → Every (Has_datum N τ m φ b) ds → All_of_shape row ds
    rows_alike row [] h e = tt
    rows_alike row (d ∷ ds) h e = (shape_alone N τ m φ b (shape_of d) row (datum_shaped N τ m φ b d e.0) h, rows_alike row ds h e.1)

    pub array_gives : (at : Place) (row : Shape) (ds : List Datum) → length ds ≡ number m φ x → Has_shape N τ m φ b row → Every (Has_datum N τ m φ b) ds → Out_fits (There W.is_there) (Has_datum N τ m φ (Level x b)) (array false at row ds)
    unfolding array
    array_gives at row ds l h e = subst (λ o. Out_fits (There W.is_there) (Has_datum N τ m φ (Level x b)) o) (sym (fits_here false (all_like (row_shape row ds) ds) at (within_weight at (Array_datum (row_shape row ds) (datums ds))) (rows_like row row ds (rows_alike row ds h e))))
        (weighed at (Array_datum (row_shape row ds) (datums ds)) (array_of_rows (row_shape row ds) ds l (rows_shape row ds h e) e))

  -- an array as a value
  pub array_value : (φ : Frames) (x : Dim) (b : Size) (d : Datum) → Has_datum N τ m φ (Level x b) d → Fits N τ W.sizing W.is_there (calls W) m φ (Level x b) (as_value d)
  unfolding Fits
  array_value φ x b d h = record { datum = d; is_datum = datum_of_as Ref BindId (Unit {0}) d; fits = h }

  -- ---- map, at rows of these sized types
  module _ (a b : Size) (data_a : Data a) (data_b : Data b) (closed_a : Each (Scoped Any_free) 0 a) (closed_b : Each (Scoped Any_free) 0 b) (at : Place) where
    module _ (φ : Frames) (f : FlatValue) (hf : Fits N τ W.sizing W.is_there (calls W) m φ (Fun 0 a b) f) where
      pub row_is_told : (φ1 φ2 : Frames) (row : Shape) → Has_shape N τ m φ1 a row → Has_shape N τ m φ2 b (tells W.sizing f (row ∷ []))
      unfolding Fits
      row_is_told φ1 φ2 row h = shape_anywhere b closed_b (push (λ i. 0) φ) φ2 _ (tells_one N τ W.sizing m φ 0 a b f data_b (closed_positions (λ i. i < 0) 1 b data_b closed_b) hf.0 (λ i. 0) row (shape_anywhere a closed_a φ1 (push (λ i. 0) φ) row h))

      pub applied_to : (φ1 φ2 : Frames) (d : Datum) → Has_datum N τ m φ1 a d → Gives (There W.is_there) (Has_datum N τ m φ2 b) (called (means W) f (d ∷ []))
      unfolding Fits
      applied_to φ1 φ2 d h =
          let F : ℕ → ℕ = λ i. word (as_value d) in
          gives_then (λ w. (F' : ℕ → ℕ) × ((i : ℕ) → i ≤ 0 → F' i ≡ word (as_value d)) × Fits N τ W.sizing W.is_there (calls W) m (push F' φ) b w) (Has_datum N τ m φ2 b) (means W (Call f (as_value d))) (λ g. called (means W) g [])
          (hf.1 F (as_value d) refl (datum_fits N τ W.sizing W.is_there (calls W) m (push F φ) a data_a (as_value d) d (datum_of_as Ref BindId (Unit {0}) d) (datum_anywhere a closed_a φ1 (push F φ) d h)))
          (λ w q. gives_exact _ (Has_datum N τ m φ2 b) 0 (datum_of w) (out_of _ (Has_datum N τ m φ2 b) (datum_of w) (datum_fine W.is_there w) (λ x e. datum_anywhere b closed_b (push q.0 φ) φ2 x (fits_datum N τ W.sizing W.is_there (calls W) m (push q.0 φ) b data_b w x e q.2))))

      pub on_row : (φ1 φ2 : Frames) (ds : List Datum) → One_of (Has_datum N τ m φ1 a) ds → Gives (There W.is_there) (Has_datum N τ m φ2 b) (called_on 1 (means W) f ds)
      unfolding One_of
      on_row φ1 φ2 [] h = absurd h
      on_row φ1 φ2 (d ∷ []) h = applied_to φ1 φ2 d h
      on_row φ1 φ2 (d ∷ e ∷ ds) h = absurd h

      abbrev Mapped : Frames → FlatValue → Type 0
      Mapped ψ w = Fits N τ W.sizing W.is_there (calls W) m ψ (Level (Bound 0 0) b) w

      finishes : (ψ : Frames) (ys : List Datum) (row : Shape) → length ys ≡ number m ψ (Bound 0 0) → Has_shape N τ m ψ b row → Every (Has_datum N τ m ψ b) ys → Gives (There W.is_there) (Has_datum N τ m ψ (Level (Bound 0 0) b)) (finished (array_of_results false row at) ys)
      finishes ψ ys row l h e = gives_then (λ r. Has_datum N τ m ψ (Level (Bound 0 0) b) r.1) (Has_datum N τ m ψ (Level (Bound 0 0) b)) _ _
          (gives_exact _ (λ r. Has_datum N τ m ψ (Level (Bound 0 0) b) r.1) 0 (array_of_results false row at ys) (out_then _ (Has_datum N τ m ψ (Level (Bound 0 0) b)) (λ r. Has_datum N τ m ψ (Level (Bound 0 0) b) r.1) (array false at row ys) fresh (array_gives ψ (Bound 0 0) b at row ys l h e) (λ d x. x)))
          (λ r x. gives_exact _ (Has_datum N τ m ψ (Level (Bound 0 0) b)) r.0 (Val r.1) x)

      map_job : (ψ : Frames) (d : Datum) → Has_datum N τ m ψ (Level (Bound 0 0) a) d
          → Gives (There W.is_there) (Mapped ψ) (Then (the (job false (row_told ((flat_names (told W)).lang W.tops) (Of_function prim.Map f (d ∷ []))) prim.Map at (d ∷ []))) (job_of ((flat_names (told W)).lang W.tops) (plain W.tight) W.budget (means W) 1 f))
      unfolding Has_datum job row_told shape_of plain flat_names
      map_job ψ (Array_datum row ds) h =
          let rows : List Datum = listed ds in
          gives_then (λ j. j ≡ Apply_each (alone rows) (array_of_results false (tells W.sizing f (row ∷ [])) at)) (Mapped ψ) _ _
          (gives_exact _ _ 0 (Val (Apply_each (alone rows) (array_of_results false (tells W.sizing f (row ∷ [])) at))) refl)
          (λ j q. subst (λ z. Gives (There W.is_there) (Mapped ψ) (job_of ((flat_names (told W)).lang W.tops) (plain W.tight) W.budget (means W) 1 f z)) (sym q)
          (gives_then (Has_datum N τ m ψ (Level (Bound 0 0) b)) (Mapped ψ) _ _
          (gives_then (λ ys. Every (Has_datum N τ m ψ b) ys × (length ys ≡ length (alone rows))) (Has_datum N τ m ψ (Level (Bound 0 0) b)) _ _
          (gives_each (One_of (Has_datum N τ m ψ a)) (Has_datum N τ m ψ b) (called_on 1 (means W) f) (λ r x. on_row ψ ψ r x) (alone rows) (alone_every (Has_datum N τ m ψ a) rows (every_listed (Has_datum N τ m ψ a) ds h.2)))
          (λ ys k. finishes ψ ys (tells W.sizing f (row ∷ [])) (k.1 ∙ alone_long rows ∙ h.0) (row_is_told ψ ψ row h.1) k.0))
          (λ x k. gives_exact _ (Mapped ψ) 0 (Val (as_value x)) (array_value ψ (Bound 0 0) b x k))))
      map_job ψ d h = absurd h

      map_gives : (ψ : Frames) (xs : FlatValue) → Fits N τ W.sizing W.is_there (calls W) m ψ (Level (Bound 0 0) a) xs → Gives (There W.is_there) (Mapped ψ) (means W (Call (Primitive_value prim.Map at (value_and f no_value)) xs))
      unfolding Fits plain
      map_gives ψ xs hx = evaluates N types τ W S one (Mapped ψ) (Call (Primitive_value prim.Map at (value_and f no_value)) xs)
          (gives_then (λ ds. ds ≡ hx.datum ∷ []) (Mapped ψ) _ _
          (gives_exact _ _ 0 _ (subst (λ o. Out_fits (There W.is_there) (λ ds. ds ≡ hx.datum ∷ []) (and_then o (λ d. and_then (Val []) (λ ds. Val (d ∷ ds))))) (sym hx.is_datum) refl))
          (λ ds q. subst (λ z. Gives (There W.is_there) (Mapped ψ) (Then (the (job false (row_told ((flat_names (told W)).lang W.tops) (Of_function prim.Map f z)) prim.Map at z)) (job_of ((flat_names (told W)).lang W.tops) (plain W.tight) W.budget (means W) 1 f))) (sym q) (map_job ψ hx.datum hx.fits)))

      -- what it tells, and it waits for its array
      map_tells : (ψ : Frames) → Tells_one N τ W.sizing m ψ 1 (Level (Bound 0 0) a) (Level (Bound 0 0) b) (Primitive_value prim.Map at (value_and f no_value)) (level_data (Bound 0 0) b data_b)
      unfolding Fits Has_shape tells data_told primitive_tells
      map_tells ψ = (refl, λ dr low G h hx. told_rows G h hx)
        where
          told_rows : (G : ℕ → ℕ) (h : Shape) → Has_shape N τ m (push G ψ) (Level (Bound 0 0) a) h → Has_shape N τ m (push G ψ) (Level (Bound 0 0) b) (tells W.sizing (Primitive_value prim.Map at (value_and f no_value)) (h ∷ []))
          told_rows G (Array_shape n row) hx = subst (λ c. Has_shape N τ m (push G ψ) (Level (Bound 0 0) b) (by_function (λ hs. cond c (tells W.sizing f hs) Unmet_shape) (primitive_tells prim.Map (cond c ((Array_shape n row, None) ∷ []) ((value_shape f, worth_of f) ∷ (Array_shape n row, None) ∷ []))))) (sym hf.0.0) (hx.0, row_is_told (push G ψ) (push G ψ) row hx.1)
          told_rows G h hx = absurd hx

      map_waits : (ψ : Frames) → Fits N τ W.sizing W.is_there (calls W) m ψ (Fun 1 (Level (Bound 0 0) a) (Level (Bound 0 0) b)) (Primitive_value prim.Map at (value_and f no_value))
      unfolding Fits
      map_waits ψ = (one_tells N τ W.sizing m ψ 1 (Level (Bound 0 0) a) (Level (Bound 0 0) b) (Primitive_value prim.Map at (value_and f no_value)) (level_data (Bound 0 0) b data_b) (map_tells ψ), λ G xs eG hx. gives_as (Mapped (push G ψ)) (λ w. (G' : ℕ → ℕ) × ((i : ℕ) → i ≤ 1 → G' i ≡ G i) × Fits N τ W.sizing W.is_there (calls W) m (push G' ψ) (Level (Bound 0 0) b) w) _ (map_gives (push G ψ) xs hx) (λ w x. (G, (λ i l. refl), x)))

    pub map_fits : Fits N τ W.sizing W.is_there (calls W) m no_frames (Fun 0 (Fun 0 a b) (Fun 1 (Level (Bound 0 0) a) (Level (Bound 0 0) b))) (Primitive_value prim.Map at no_value)
    unfolding Fits Has_shape
    map_fits = (
      (refl, λ known F h hx. absurd hx),
      λ F f eF hf. evaluates N types τ W S one _ (Call (Primitive_value prim.Map at no_value) f)
          (gives_exact _ (λ w. (F' : ℕ → ℕ) × ((i : ℕ) → i ≤ 0 → F' i ≡ F i) × Fits N τ W.sizing W.is_there (calls W) m (push F' no_frames) (Fun 1 (Level (Bound 0 0) a) (Level (Bound 0 0) b)) w) 0 (Val (Primitive_value prim.Map at (value_and f no_value))) (F, (λ i l. refl), map_waits (push F no_frames) f hf (push F no_frames))),
    )
