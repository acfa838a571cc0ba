-- `map2` to `map5` are of their sized types where results hold no arrays: they go over arrays of one size side by side.
use Rattle.std.proofs.Common.{eq-eqb}
use Rattle.sized_meaning.proofs.Size_reports.{datum_fine}
use Rattle.sized_meaning.specs.There.{There}
use Rattle.std.specs.Prelude.{map}
use Rattle.std.proofs.Common.{◌≡◌, ℕ, suc, ◌<◌, ◌≤◌, List, [], ◌∷◌, ◌++◌, length, None, Bool, true, false, cond, nat_eq, refl, sym, ap, ◌∙◌, subst, arith, append_assoc}
use Rattle.fut_scalar.specs.declared.place.Place.{Place}
use Rattle.fut_scalar.specs.declared.place.BindId.{BindId}
use Rattle.fut_flat.specs.declared.prim.Primitive.{Primitive}
use Rattle.fut_flat.specs.declared.prim.Ref.{Ref}
use Rattle.fut_types.specs.Types.{Sub}
use Rattle.fut_typing.specs.Names.{Names}
use Rattle.fut_value.specs.Data.{Shape, Array_shape, Datum, Array_datum, listed, shape_of}
use Rattle.fut_meaning.specs.Arrays.{Rows, fresh, fitting, array}
use Rattle.fut_meaning.specs.Datums.{as_value, datum_of, all_data}
use Rattle.fut_meaning.specs.Flats.{FlatValue, flat_names}
use Rattle.fut_meaning.specs.Jobs.{Apply_each, alone, beside, columns, mapped, array_of_results, finished, job}
use Rattle.fut_meaning.specs.Meaning.{plain, called, called_on, job_of, row_told, Of_function}
use Rattle.fut_meaning.specs.Outcomes.{Val, Wrong, and_then, the, gives, Then, choose}
use Rattle.fut_meaning.specs.Places.{row_of, size_of}
use Rattle.fut_meaning.specs.Telling.{Argument, argument_row, mapped_rows, by_function, worth_of, value_shape, is_function, data_told, tells, function_tells, primitive_tells}
use Rattle.fut_meaning.specs.Values.{Primitive_value, no_value, value_and, values, Call}
use Rattle.fut_meaning.proofs.Data.{datum_of_as}
use Rattle.fut_meaning.proofs.Safe.{Every}
use Rattle.sized_types.specs.Sizes.{Dim, Bound, Size, Level, Fun}
use Rattle.fut_sizes.specs.Suiting.{Each, Scoped, Data}
use Rattle.fut_sizes.specs.Rules.{Any_free}
use Rattle.sized_meaning.specs.Worth.{Worth, Frames, push, number}
use Rattle.sized_meaning.specs.Shapes.{Meant, Has_shape, Has_datum}
use Rattle.sized_meaning.specs.Finding.{One_kind_each}
use Rattle.sized_meaning.specs.Fits.{Out_fits, Gives, word, Flat, Flat_result, Known_result, Told_right, Tells_right, Fits}
use Rattle.sized_meaning.specs.Law.{Sound, World, told, means, calls}
use Rattle.sized_meaning.proofs.Ways.{gives_as, every_datum_goes}
use Rattle.sized_meaning.proofs.Outcomes.{gives_exact, gives_then, out_of}
use Rattle.sized_meaning.proofs.Scalars.{out_then}
use Rattle.sized_meaning.proofs.Datas.{datum_fits, fits_datum}
use Rattle.sized_meaning.proofs.Entered.{value_shaped}
use Rattle.sized_meaning.proofs.Known.{known_of_data, closed_known, shape_told, one_tells}
use Rattle.sized_meaning.proofs.Mapping.{level_data, gives_each, every_listed, shape_anywhere, datum_anywhere, array_gives, array_value}
use Rattle.sized_meaning.proofs.Reducing.{not_function}

-- a function of rows of these types, and what such a map waits for, where the size stands so many frames out
abbrev pub from_rows : List Size → Size → Size
from_rows [] c = c
from_rows (b ∷ bs) c = Fun 0 b (from_rows bs c)

abbrev pub rest : ℕ → List Size → Size → Size
rest j [] c = Level (Bound j 0) c
rest j (b ∷ bs) c = Fun 0 (Level (Bound (suc j) 0) b) (rest (suc j) bs c)

abbrev pub Closed_data : Size → Type 0
Closed_data b = Data b × Each (Scoped Any_free) 0 b

abbrev pub All_closed : List Size → Type 0
All_closed [] = Unit {0}
All_closed (b ∷ bs) = Closed_data b × All_closed bs

all_closed_on : (bs cs : List Size) → All_closed bs → All_closed cs → All_closed (bs ++ cs)
all_closed_on [] cs h k = k
all_closed_on (b ∷ bs) cs h k = (h.0, all_closed_on bs cs h.1 k)

-- each size is this
abbrev all_are : ℕ → Frames
all_are n j i = n

beside_every : (P : Datum → Type 0) (Q R : List Datum → Type 0) → ((d : Datum) (r : List Datum) → P d → Q r → R (d ∷ r)) → (ds : List Datum) (rs : List (List Datum)) → length ds ≡ length rs → Every P ds → Every Q rs → Every R (beside ds rs) × (length (beside ds rs) ≡ length ds)
beside_every P Q R both [] rs l e f = (tt, refl)
beside_every P Q R both (d ∷ ds) [] l e f = absurd (omega (arith, l))
beside_every P Q R both (d ∷ ds) (r ∷ rs) l e f = let z = beside_every P Q R both ds rs (omega (arith, l)) e.1 f.1 in ((both d r e.0 f.0, z.0), ap suc z.1)

alone_every : (P : Datum → Type 0) (R : List Datum → Type 0) → ((d : Datum) → P d → R (d ∷ [])) → (ds : List Datum) → Every P ds → Every R (alone ds) × (length (alone ds) ≡ length ds)
alone_every P R only [] e = (tt, refl)
alone_every P R only (d ∷ ds) e = let z = alone_every P R only ds e.1 in ((only d e.0, z.0), ap suc z.1)

-- the arguments that it has, and the shape of the one to come
told_args : List FlatValue → Shape → List Argument
told_args [] h = (h, None) ∷ []
told_args (x ∷ xs) h = (value_shape x, worth_of x) ∷ told_args xs h

module _ (N : Names) (types : Sub) (τ : Meant) (W : World) (S : Sound N types W.sizing) (one : One_kind_each τ) (m : Worth) where
  level_moved : (b : Size) → Each (Scoped Any_free) 0 b → (φ ψ : Frames) (x y : Dim) (d : Datum) → number m φ x ≡ number m ψ y → Has_datum N τ m φ (Level x b) d → Has_datum N τ m ψ (Level y b) d
  unfolding Has_datum
  level_moved b closed φ ψ x y (Array_datum row ds) e h = (h.0 ∙ e, shape_anywhere N types τ W S one m b closed φ ψ row h.1, every_datum_goes (Has_datum N τ m φ b) (Has_datum N τ m ψ b) (λ d k. datum_anywhere N types τ W S one m b closed φ ψ d k) ds h.2)
  level_moved b closed φ ψ x y d e h = absurd h

  fits_moved : (b : Size) → Each (Scoped Any_free) 0 b → (φ ψ : Frames) (x y : Dim) (v : FlatValue) → number m φ x ≡ number m ψ y → Fits N τ W.sizing W.is_there (calls W) m φ (Level x b) v → Fits N τ W.sizing W.is_there (calls W) m ψ (Level y b) v
  unfolding Fits
  fits_moved b closed φ ψ x y v e h = record { datum = h.datum; is_datum = h.is_datum; fits = level_moved b closed φ ψ x y h.datum e h.fits }

  module _ (n : ℕ) where
    -- arrays of n rows of these types, others values and others data; a row of each; and the shapes of rows
    abbrev Arrays : List Size → List FlatValue → Type 0
    Arrays [] [] = Unit {0}
    Arrays [] (x ∷ xs) = ⊥
    Arrays (b ∷ bs) [] = ⊥
    Arrays (b ∷ bs) (x ∷ xs) = Fits N τ W.sizing W.is_there (calls W) m (all_are n) (Level (Bound 0 0) b) x × Arrays bs xs

    abbrev Datas : List Size → List Datum → Type 0
    Datas [] [] = Unit {0}
    Datas [] (d ∷ ds) = ⊥
    Datas (b ∷ bs) [] = ⊥
    Datas (b ∷ bs) (d ∷ ds) = Has_datum N τ m (all_are n) (Level (Bound 0 0) b) d × Datas bs ds

    abbrev Row_of : List Size → List Datum → Type 0
    Row_of [] [] = Unit {0}
    Row_of [] (d ∷ ds) = ⊥
    Row_of (b ∷ bs) [] = ⊥
    Row_of (b ∷ bs) (d ∷ ds) = Has_datum N τ m (all_are n) b d × Row_of bs ds

    abbrev Shapes_are : List Size → List Shape → Type 0
    Shapes_are [] [] = Unit {0}
    Shapes_are [] (h ∷ hs) = ⊥
    Shapes_are (b ∷ bs) [] = ⊥
    Shapes_are (b ∷ bs) (h ∷ hs) = Has_shape N τ m (all_are n) b h × Shapes_are bs hs

    arrays_on : (bs : List Size) (xs : List FlatValue) (b : Size) (v : FlatValue) → Arrays bs xs → Fits N τ W.sizing W.is_there (calls W) m (all_are n) (Level (Bound 0 0) b) v → Arrays (bs ++ b ∷ []) (xs ++ v ∷ [])
    arrays_on [] [] b v h k = (k, tt)
    arrays_on [] (x ∷ xs) b v h k = absurd h
    arrays_on (c ∷ bs) [] b v h k = absurd h
    arrays_on (c ∷ bs) (x ∷ xs) b v h k = (h.0, arrays_on bs xs b v h.1 k)

    arrays_long : (bs : List Size) (xs : List FlatValue) → Arrays bs xs → length xs ≡ length bs
    arrays_long [] [] h = refl
    arrays_long [] (x ∷ xs) h = absurd h
    arrays_long (c ∷ bs) [] h = absurd h
    arrays_long (c ∷ bs) (x ∷ xs) h = ap suc (arrays_long bs xs h.1)

    datas_out : (bs : List Size) (xs : List FlatValue) → Arrays bs xs → Out_fits (There W.is_there) (Datas bs) (all_data xs)
    unfolding Fits
    datas_out [] [] h = tt
    datas_out [] (x ∷ xs) h = absurd h
    datas_out (c ∷ bs) [] h = absurd h
    datas_out (c ∷ bs) (x ∷ xs) h = out_then _ (Has_datum N τ m (all_are n) (Level (Bound 0 0) c)) (Datas (c ∷ bs)) (datum_of x) (λ d. and_then (all_data xs) (λ ds. Val (d ∷ ds)))
        (subst (Out_fits (There W.is_there) (Has_datum N τ m (all_are n) (Level (Bound 0 0) c))) (sym (h.0).is_datum) (h.0).fits)
        (λ d k. out_then _ (Datas bs) (Datas (c ∷ bs)) (all_data xs) (λ ds. Val (d ∷ ds)) (datas_out bs xs h.1) (λ ds r. (k, r)))

    row_shapes : (bs : List Size) (ds : List Datum) → Datas bs ds → Shapes_are bs (map (λ d. row_of (shape_of d)) ds)
    unfolding Has_datum shape_of
    row_shapes [] [] h = tt
    row_shapes [] (d ∷ ds) h = absurd h
    row_shapes (b ∷ bs) [] h = absurd h
    row_shapes (b ∷ bs) (Array_datum row es ∷ ds) h = ((h.0).1, row_shapes bs ds h.1)
    row_shapes (b ∷ bs) (d ∷ ds) h = absurd h.0

    columns_out : (at : Place) (b : Size) (bs : List Size) (r : Rows) (ds : List Datum) → length r.1 ≡ n → Every (Has_datum N τ m (all_are n) b) r.1 → Datas bs ds → Out_fits (There W.is_there) (λ rows. Every (Row_of (b ∷ bs)) rows × (length rows ≡ n)) (columns false at r ds)
    unfolding Has_datum
    columns_out at b [] r [] l e h = let z = alone_every (Has_datum N τ m (all_are n) b) (Row_of (b ∷ [])) (λ d k. (k, tt)) r.1 e in (z.0, z.1 ∙ l)
    columns_out at b [] r (d ∷ ds) l e h = absurd h
    columns_out at b (c ∷ bs) r [] l e h = absurd h
    columns_out at b (c ∷ bs) r (Array_datum row es ∷ ds) l e h = tested (nat_eq (length r.1) (length (listed es))) (eq-eqb (length r.1) (length (listed es)) (l ∙ sym (h.0).0)) (columns_out at c bs (row, listed es) ds (h.0).0 (every_listed (Has_datum N τ m (all_are n) c) es (h.0).2) h.1)
      where
        tested : (t : Bool) → t ≡ true → Out_fits (There W.is_there) (λ rows. Every (Row_of (c ∷ bs)) rows × (length rows ≡ n)) (columns false at (row, listed es) ds) → Out_fits (There W.is_there) (λ rows. Every (Row_of (b ∷ c ∷ bs)) rows × (length rows ≡ n)) (fitting false t at (and_then (columns false at (row, listed es) ds) (λ rs. Val (beside r.1 rs))))
        tested false q others = absurd (let z : false ≡ true = q in cc)
        tested true q others = out_then _ (λ rows. Every (Row_of (c ∷ bs)) rows × (length rows ≡ n)) (λ rows. Every (Row_of (b ∷ c ∷ bs)) rows × (length rows ≡ n)) (columns false at (row, listed es) ds) (λ rs. Val (beside r.1 rs)) others
            (λ rs k. let z = beside_every (Has_datum N τ m (all_are n) b) (Row_of (c ∷ bs)) (Row_of (b ∷ c ∷ bs)) (λ d rs p q. (p, q)) r.1 rs (l ∙ sym k.1) e k.0 in (z.0, z.1 ∙ l))
    columns_out at b (c ∷ bs) r (d ∷ ds) l e h = absurd h.0

    -- ---- a function of rows
    module _ (c : Size) (closed_c : Closed_data c) where
      row_called : (bs : List Size) → All_closed bs → (φ : Frames) (g : FlatValue) (ds : List Datum) → Fits N τ W.sizing W.is_there (calls W) m φ (from_rows bs c) g → Row_of bs ds → Gives (There W.is_there) (Has_datum N τ m (all_are n) c) (called (means W) g ds)
      unfolding Fits
      row_called [] a φ g [] hg h = gives_exact _ (Has_datum N τ m (all_are n) c) 0 (datum_of g) (out_of _ (Has_datum N τ m (all_are n) c) (datum_of g) (datum_fine W.is_there g) (λ x e. datum_anywhere N types τ W S one m c closed_c.1 φ (all_are n) x (fits_datum N τ W.sizing W.is_there (calls W) m φ c closed_c.0 g x e hg)))
      row_called [] a φ g (d ∷ ds) hg h = absurd h
      row_called (b ∷ bs) a φ g [] hg h = absurd h
      row_called (b ∷ bs) a φ g (d ∷ ds) hg h =
          let F : ℕ → ℕ = λ i. word (as_value d) in
          gives_then (λ w. (F' : ℕ → ℕ) × ((i : ℕ) → i ≤ 0 → F' i ≡ word (as_value d)) × Fits N τ W.sizing W.is_there (calls W) m (push F' φ) (from_rows bs c) w) (Has_datum N τ m (all_are n) c) (means W (Call g (as_value d))) (λ g. called (means W) g ds)
          (hg.1 F (as_value d) refl (datum_fits N τ W.sizing W.is_there (calls W) m (push F φ) b (a.0).0 (as_value d) d (datum_of_as Ref BindId (Unit {0}) d) (datum_anywhere N types τ W S one m b (a.0).1 (all_are n) (push F φ) d h.0)))
          (λ w q. row_called bs a.1 (push q.0 φ) w ds q.2 h.1)

      on_row : (k : ℕ) (bs : List Size) → All_closed bs → (φ : Frames) (g : FlatValue) (ds : List Datum) → Fits N τ W.sizing W.is_there (calls W) m φ (from_rows bs c) g → Row_of bs ds → Gives (There W.is_there) (Has_datum N τ m (all_are n) c) (called_on k (means W) g ds)
      on_row k bs a φ g ds hg h = tested (nat_eq (length ds) k)
        where
          tested : (t : Bool) → Gives (There W.is_there) (Has_datum N τ m (all_are n) c) (choose t (called (means W) g ds) (the Wrong))
          tested true = row_called bs a φ g ds hg h
          tested false = gives_exact _ (Has_datum N τ m (all_are n) c) 0 Wrong tt

      flat_rows : (bs : List Size) → Flat_result c → Flat_result (from_rows bs c)
      unfolding Flat_result
      flat_rows [] f = f
      flat_rows (b ∷ bs) f = flat_rows bs f

      rows_known : (ks : List ℕ) (bs : List Size) → All_closed bs → Flat_result c → Known_result Any_free ks (from_rows bs c)
      unfolding Known_result
      rows_known ks [] a f = known_of_data Any_free ks c (closed_known ks c closed_c.0 closed_c.1)
      rows_known ks (b ∷ bs) a f = (closed_known (0 ∷ ks) b (a.0).0 (a.0).1, rows_known (0 ∷ ks) bs a.1 f, flat_rows bs f)

      told_rows : (bs : List Size) → All_closed bs → (φ : Frames) (tell : List Shape → Shape) (hs : List Shape) → Told_right N τ m φ (from_rows bs c) tell → Shapes_are bs hs → Has_shape N τ m (all_are n) c (tell hs)
      unfolding Told_right
      told_rows [] a φ tell [] t h = shape_anywhere N types τ W S one m c closed_c.1 φ (all_are n) (tell []) (shape_told N τ m φ c closed_c.0 tell t)
      told_rows [] a φ tell (x ∷ hs) t h = absurd h
      told_rows (b ∷ bs) a φ tell [] t h = absurd h
      told_rows (b ∷ bs) a φ tell (x ∷ hs) t h = told_rows bs a.1 (push (λ i. 0) φ) (λ hs. tell (x ∷ hs)) hs (t (λ i. 0) x (shape_anywhere N types τ W S one m b (a.0).1 (all_are n) (push (λ i. 0) φ) x h.0)) h.1

  -- ---- a map over these
  module _ (p : Primitive) (k : ℕ) (at : Place) (a : Size) (others : List Size) (c : Size) (closed_a : Closed_data a) (closed_others : All_closed others) (closed_c : Closed_data c) (flat_c : Flat_result c)
      (is_map : (row : Shape) (ds : List Datum) → job false row p at ds ≡ mapped false row at ds) (tells_rows : (bs : List Argument) → primitive_tells p bs ≡ mapped_rows bs)
      (rows_told : (f : FlatValue) (ds : List Datum) → row_told ((flat_names (told W)).lang W.tops) (Of_function p f ds) ≡ tells W.sizing f (map (λ d. row_of (shape_of d)) ds))
      (waits : (Q : FlatValue → Type 0) (f : FlatValue) (xs : List FlatValue) (v : FlatValue) → length (xs ++ v ∷ []) < suc (length others) → Gives (There W.is_there) Q (gives 0 (Primitive_value p at (value_and f (values (xs ++ v ∷ []))))) → Gives (There W.is_there) Q (calls W (Primitive_value p at (value_and f (values xs))) v))
      (runs : (Q : FlatValue → Type 0) (f : FlatValue) (xs : List FlatValue) (v : FlatValue) → length (xs ++ v ∷ []) ≡ suc (length others) → Gives (There W.is_there) Q (Then (the (all_data (xs ++ v ∷ []))) (λ ds. Then (the (job false (row_told ((flat_names (told W)).lang W.tops) (Of_function p f ds)) p at ds)) (job_of ((flat_names (told W)).lang W.tops) (plain W.tight) W.budget (means W) k f)))
      → Gives (There W.is_there) Q (calls W (Primitive_value p at (value_and f (values xs))) v)) where
    module _ (φ : Frames) (f : FlatValue) (hf : Fits N τ W.sizing W.is_there (calls W) m φ (Fun 0 a (from_rows others c)) f) where
      is_a_function : is_function f ≡ true
      unfolding Fits
      is_a_function = hf.0.0

      -- the shape of its results is told
      told_of : (n : ℕ) (hs : List Shape) → Shapes_are n (a ∷ others) hs → Has_shape N τ m (all_are n) c (tells W.sizing f hs)
      unfolding Fits
      told_of n [] h = absurd h
      told_of n (x ∷ hs) h = told_rows n c closed_c others closed_others (push (λ i. 0) φ) (λ hs. tells W.sizing f (x ∷ hs)) hs (hf.0.1 (rows_known n c closed_c (0 ∷ []) others closed_others flat_c) (λ i. 0) x (shape_anywhere N types τ W S one m a closed_a.1 (all_are n) (push (λ i. 0) φ) x h.0)) h.1

      job_out : (n : ℕ) (row : Shape) (ds : List Datum) → Datas n (a ∷ others) ds → Out_fits (There W.is_there) (λ j. (rows : List (List Datum)) × (j ≡ Apply_each rows (array_of_results false row at)) × Every (Row_of n (a ∷ others)) rows × (length rows ≡ n)) (mapped false row at ds)
      unfolding Has_datum
      job_out n row [] h = absurd h
      job_out n row (Array_datum r es ∷ ds) h = out_then _ (λ rows. Every (Row_of n (a ∷ others)) rows × (length rows ≡ n)) (λ j. (rows : List (List Datum)) × (j ≡ Apply_each rows (array_of_results false row at)) × Every (Row_of n (a ∷ others)) rows × (length rows ≡ n)) (columns false at (r, listed es) ds) (λ rows. Val (Apply_each rows (array_of_results false row at)))
          (columns_out n at a others (r, listed es) ds (h.0).0 (every_listed (Has_datum N τ m (all_are n) a) es (h.0).2) h.1) (λ rows q. (rows, refl, q.0, q.1))
      job_out n row (d ∷ ds) h = absurd h.0

      abbrev Results : ℕ → Datum → Type 0
      Results n d = Has_datum N τ m (all_are n) (Level (Bound 0 0) c) d

      finishes : (n : ℕ) (row : Shape) (ys : List Datum) → length ys ≡ n → Has_shape N τ m (all_are n) c row → Every (Has_datum N τ m (all_are n) c) ys → Gives (There W.is_there) (Results n) (finished (array_of_results false row at) ys)
      finishes n row ys l h e = gives_then (λ r. Results n r.1) (Results n) _ _
          (gives_exact _ (λ r. Results n r.1) 0 (array_of_results false row at ys) (out_then _ (Results n) (λ r. Results n r.1) (array false at row ys) fresh (array_gives N types τ W S one m (all_are n) (Bound 0 0) c at row ys l h e) (λ d x. x)))
          (λ r x. gives_exact _ (Results n) r.0 (Val r.1) x)

      abbrev Mapped : ℕ → FlatValue → Type 0
      Mapped n w = Fits N τ W.sizing W.is_there (calls W) m (all_are n) (Level (Bound 0 0) c) w

      goes_over : (n : ℕ) (xs : List FlatValue) → Arrays n (a ∷ others) xs → Gives (There W.is_there) (Mapped n) (Then (the (all_data xs)) (λ ds. Then (the (job false (row_told ((flat_names (told W)).lang W.tops) (Of_function p f ds)) p at ds)) (job_of ((flat_names (told W)).lang W.tops) (plain W.tight) W.budget (means W) k f)))
      unfolding plain
      goes_over n xs hx = gives_then (Datas n (a ∷ others)) (Mapped n) _ _ (gives_exact _ (Datas n (a ∷ others)) 0 (all_data xs) (datas_out n (a ∷ others) xs hx))
          (λ ds hd. subst (λ row. Gives (There W.is_there) (Mapped n) (Then (the (job false row p at ds)) (job_of ((flat_names (told W)).lang W.tops) (plain W.tight) W.budget (means W) k f))) (sym (rows_told f ds))
          (subst (λ o. Gives (There W.is_there) (Mapped n) (Then (the o) (job_of ((flat_names (told W)).lang W.tops) (plain W.tight) W.budget (means W) k f))) (sym (is_map (tells W.sizing f (map (λ d. row_of (shape_of d)) ds)) ds))
          (gives_then (λ j. (rows : List (List Datum)) × (j ≡ Apply_each rows (array_of_results false (tells W.sizing f (map (λ d. row_of (shape_of d)) ds)) at)) × Every (Row_of n (a ∷ others)) rows × (length rows ≡ n)) (Mapped n) _ _
          (gives_exact _ _ 0 _ (job_out n (tells W.sizing f (map (λ d. row_of (shape_of d)) ds)) ds hd))
          (λ j q. subst (λ z. Gives (There W.is_there) (Mapped n) (job_of ((flat_names (told W)).lang W.tops) (plain W.tight) W.budget (means W) k f z)) (sym q.1)
          (gives_then (Results n) (Mapped n) _ _
          (gives_then (λ ys. Every (Has_datum N τ m (all_are n) c) ys × (length ys ≡ length q.0)) (Results n) _ _
          (gives_each (Row_of n (a ∷ others)) (Has_datum N τ m (all_are n) c) (called_on k (means W) f) (λ r x. on_row n c closed_c k (a ∷ others) (closed_a, closed_others) φ f r hf x) q.0 q.2)
          (λ ys y. finishes n (tells W.sizing f (map (λ d. row_of (shape_of d)) ds)) ys (y.1 ∙ q.3) (told_of n (map (λ d. row_of (shape_of d)) ds) (row_shapes n (a ∷ others) ds hd)) y.0))
          (λ x y. gives_exact _ (Mapped n) 0 (Val (as_value x)) (array_value N types τ W S one m (all_are n) (Bound 0 0) c x y)))))))

      -- ---- what it tells once one array is missing
      args_told : (n : ℕ) (bs : List Size) → All_closed bs → (xs : List FlatValue) (h : Shape) → Arrays n bs xs → data_told (values xs) ((h, None) ∷ []) ≡ told_args xs h
      unfolding data_told told_args
      args_told n [] cl [] h hx = refl
      args_told n [] cl (x ∷ xs) h hx = absurd hx
      args_told n (b ∷ bs) cl [] h hx = absurd hx
      args_told n (b ∷ bs) cl (x ∷ xs) h hx =
          ap (λ t. cond t (data_told (values xs) ((h, None) ∷ [])) ((value_shape x, worth_of x) ∷ data_told (values xs) ((h, None) ∷ []))) (not_function N types τ W S one m (all_are n) (Level (Bound 0 0) b) x (level_data (Bound 0 0) b (cl.0).0) hx.0)
          ∙ ap (λ ys. (value_shape x, worth_of x) ∷ ys) (args_told n bs cl.1 xs h hx.1)

      array_shape : (n : ℕ) (b : Size) (h : Shape) → Has_shape N τ m (all_are n) (Level (Bound 0 0) b) h → (size_of h ≡ n) × Has_shape N τ m (all_are n) b (row_of h)
      unfolding Has_shape
      array_shape n b (Array_shape l row) h = (h.0, h.1)
      array_shape n b h x = absurd x

      shapes_told : (n : ℕ) (bs : List Size) → All_closed bs → (b : Size) (xs : List FlatValue) (h : Shape) → Arrays n bs xs → Has_shape N τ m (all_are n) (Level (Bound 0 0) b) h → Shapes_are n (bs ++ b ∷ []) (map argument_row (told_args xs h))
      unfolding told_args
      shapes_told n [] cl b [] h hx k = ((array_shape n b h k).1, tt)
      shapes_told n [] cl b (x ∷ xs) h hx k = absurd hx
      shapes_told n (e ∷ bs) cl b [] h hx k = absurd hx
      shapes_told n (e ∷ bs) cl b (x ∷ xs) h hx k = ((array_shape n e (value_shape x) (value_shaped N τ W.sizing W.is_there (calls W) m (all_are n) (Level (Bound 0 0) e) (level_data (Bound 0 0) e (cl.0).0) x hx.0)).1, shapes_told n bs cl.1 b xs h hx.1 k)

      rows_of_args : (n : ℕ) (bs : List Size) → All_closed bs → (b : Size) (xs : List FlatValue) (h : Shape) → bs ++ b ∷ [] ≡ a ∷ others → Arrays n bs xs → Has_shape N τ m (all_are n) (Level (Bound 0 0) b) h
          → Has_shape N τ m (all_are n) (Level (Bound 0 0) c) (by_function (tells W.sizing f) (mapped_rows (told_args xs h)))
      unfolding told_args Has_shape
      rows_of_args n [] cl b [] h e hx k = ((array_shape n b h k).0, told_of n (map argument_row (told_args [] h)) (subst (λ ts. Shapes_are n ts (map argument_row (told_args [] h))) e (shapes_told n [] cl b [] h hx k)))
      rows_of_args n [] cl b (x ∷ xs) h e hx k = absurd hx
      rows_of_args n (g ∷ bs) cl b [] h e hx k = absurd hx
      rows_of_args n (g ∷ bs) cl b (x ∷ xs) h e hx k = (
        (array_shape n g (value_shape x) (value_shaped N τ W.sizing W.is_there (calls W) m (all_are n) (Level (Bound 0 0) g) (level_data (Bound 0 0) g (cl.0).0) x hx.0)).0,
        told_of n (map argument_row (told_args (x ∷ xs) h)) (subst (λ ts. Shapes_are n ts (map argument_row (told_args (x ∷ xs) h))) e (shapes_told n (g ∷ bs) cl b (x ∷ xs) h hx k)),
      )

      level_shape_moved : (b : Size) → Each (Scoped Any_free) 0 b → (φ ψ : Frames) (x y : Dim) (h : Shape) → number m φ x ≡ number m ψ y → Has_shape N τ m φ (Level x b) h → Has_shape N τ m ψ (Level y b) h
      unfolding Has_shape
      level_shape_moved b closed φ ψ x y (Array_shape l row) e h = (h.0 ∙ e, shape_anywhere N types τ W S one m b closed φ ψ row h.1)
      level_shape_moved b closed φ ψ x y h e k = absurd k

      last_told : (n : ℕ) (bs : List Size) → All_closed bs → (b : Size) (xs : List FlatValue) (h : Shape) → bs ++ b ∷ [] ≡ a ∷ others → Arrays n bs xs → Has_shape N τ m (all_are n) (Level (Bound 0 0) b) h
          → Has_shape N τ m (all_are n) (Level (Bound 0 0) c) (tells W.sizing (Primitive_value p at (value_and f (values xs))) (h ∷ []))
      unfolding tells data_told
      last_told n bs cl b xs h e hx k =
          subst (λ t. Has_shape N τ m (all_are n) (Level (Bound 0 0) c) (by_function (λ hs. cond t (tells W.sizing f hs) (function_tells W.sizing (values xs) hs)) (primitive_tells p (cond t (data_told (values xs) ((h, None) ∷ [])) ((value_shape f, worth_of f) ∷ data_told (values xs) ((h, None) ∷ [])))))) (sym is_a_function)
          (subst (λ ys. Has_shape N τ m (all_are n) (Level (Bound 0 0) c) (by_function (tells W.sizing f) (primitive_tells p ys))) (sym (args_told n bs cl xs h hx))
          (subst (λ t. Has_shape N τ m (all_are n) (Level (Bound 0 0) c) (by_function (tells W.sizing f) t)) (sym (tells_rows (told_args xs h))) (rows_of_args n bs cl b xs h e hx k)))

      never_flat : (j : ℕ) (bs : List Size) → Flat_result (rest j bs c) → ⊥
      unfolding Flat_result Flat
      never_flat j [] h = h
      never_flat j (b ∷ bs) h = never_flat (suc j) bs h

      rest_tells : (n : ℕ) (done : List Size) → All_closed done → (b : Size) (closed_b : Closed_data b) (bs : List Size) (xs : List FlatValue) (j : ℕ) (ψ : Frames) → done ++ b ∷ bs ≡ a ∷ others → Arrays n done xs → ψ j 0 ≡ n
          → Tells_right N τ W.sizing m ψ 0 (Level (Bound (suc j) 0) b) (rest (suc j) bs c) (Primitive_value p at (value_and f (values xs)))
      unfolding Known_result push
      rest_tells n done cl b closed_b [] xs j ψ e hx z = one_tells N τ W.sizing m ψ 0 (Level (Bound (suc j) 0) b) (Level (Bound (suc j) 0) c) (Primitive_value p at (value_and f (values xs))) (level_data (Bound (suc j) 0) c closed_c.0) (
        refl,
        λ dr low G h hh. level_shape_moved c closed_c.1 (all_are n) (push G ψ) (Bound 0 0) (Bound (suc j) 0) (tells W.sizing (Primitive_value p at (value_and f (values xs))) (h ∷ [])) (sym z)
            (last_told n done cl b xs h e hx (level_shape_moved b closed_b.1 (push G ψ) (all_are n) (Bound (suc j) 0) (Bound 0 0) h z hh)),
      )
      rest_tells n done cl b closed_b (g ∷ bs) xs j ψ e hx z = (refl, λ known. absurd (never_flat (suc (suc j)) bs known.2))

      -- it has some arrays, and takes one more
      takes_more : (n : ℕ) (bs : List Size) → All_closed bs → (done : List Size) → All_closed done → (b : Size) → Closed_data b → (xs : List FlatValue) (j : ℕ) (ψ : Frames) (v : FlatValue) → done ++ b ∷ bs ≡ a ∷ others → Arrays n done xs → ψ j 0 ≡ n → Fits N τ W.sizing W.is_there (calls W) m ψ (Level (Bound j 0) b) v
          → Gives (There W.is_there) (Fits N τ W.sizing W.is_there (calls W) m ψ (rest j bs c)) (calls W (Primitive_value p at (value_and f (values xs))) v)
      unfolding Fits push
      takes_more n [] cl done cl' b closed_b xs j ψ v e hx z hv = runs (Fits N τ W.sizing W.is_there (calls W) m ψ (Level (Bound j 0) c)) f xs v (arrays_long n (done ++ b ∷ []) (xs ++ v ∷ []) all ∙ ap length e)
          (gives_as (Mapped n) (Fits N τ W.sizing W.is_there (calls W) m ψ (Level (Bound j 0) c)) _ (goes_over n (xs ++ v ∷ []) (subst (λ ts. Arrays n ts (xs ++ v ∷ [])) e all)) (λ w q. fits_moved c closed_c.1 (all_are n) ψ (Bound 0 0) (Bound j 0) w (sym z) q))
        where
          all : Arrays n (done ++ b ∷ []) (xs ++ v ∷ [])
          all = arrays_on n done xs b v hx (fits_moved b closed_b.1 ψ (all_are n) (Bound j 0) (Bound 0 0) v z hv)
      takes_more n (g ∷ bs) cl done cl' b closed_b xs j ψ v e hx z hv = waits (Fits N τ W.sizing W.is_there (calls W) m ψ (rest j (g ∷ bs) c)) f xs v shorter
          (gives_exact _ (Fits N τ W.sizing W.is_there (calls W) m ψ (rest j (g ∷ bs) c)) 0 (Val (Primitive_value p at (value_and f (values (xs ++ v ∷ []))))) (
            rest_tells n (done ++ b ∷ []) all_closed g cl.0 bs (xs ++ v ∷ []) j ψ e' all z,
            λ G u eG hu. gives_as (Fits N τ W.sizing W.is_there (calls W) m (push G ψ) (rest (suc j) bs c)) (λ w. (G' : ℕ → ℕ) × ((i : ℕ) → i ≤ 0 → G' i ≡ G i) × Fits N τ W.sizing W.is_there (calls W) m (push G' ψ) (rest (suc j) bs c) w) (calls W (Primitive_value p at (value_and f (values (xs ++ v ∷ [])))) u)
                (takes_more n bs cl.1 (done ++ b ∷ []) all_closed g cl.0 (xs ++ v ∷ []) (suc j) (push G ψ) u e' all z hu) (λ w q. (G, (λ i l. refl), q)),
          ))
        where
          all : Arrays n (done ++ b ∷ []) (xs ++ v ∷ [])
          all = arrays_on n done xs b v hx (fits_moved b closed_b.1 ψ (all_are n) (Bound j 0) (Bound 0 0) v z hv)

          all_closed : All_closed (done ++ b ∷ [])
          all_closed = all_closed_on done (b ∷ []) cl' (closed_b, tt)

          e' : (done ++ b ∷ []) ++ g ∷ bs ≡ a ∷ others
          e' = append_assoc done (b ∷ []) (g ∷ bs) ∙ e

          shorter : length (xs ++ v ∷ []) < suc (length others)
          shorter = let x = arrays_long n (done ++ b ∷ []) (xs ++ v ∷ []) all in let y = ap length e' in let w = longer (done ++ b ∷ []) g bs in omega (arith, x, y, w)
            where
              longer : (ys : List Size) (g : Size) (bs : List Size) → length ys < length (ys ++ g ∷ bs)
              longer [] g bs = omega arith
              longer (y ∷ ys) g bs = let r = longer ys g bs in omega (arith, r)

    not_yet : (a2 : Size) (more : List Size) (ψ : Frames) (f : FlatValue) (hf : Fits N τ W.sizing W.is_there (calls W) m ψ (Fun 0 a (from_rows others c)) f) → others ≡ a2 ∷ more → Known_result Any_free (1 ∷ []) (rest 0 others c) → ⊥
    unfolding Known_result
    not_yet a2 more ψ f hf e known = let known' : Known_result Any_free (1 ∷ []) (rest 0 (a2 ∷ more) c) = subst (λ ts. Known_result Any_free (1 ∷ []) (rest 0 ts c)) e known in never_flat ψ f hf 1 more known'.2

    pub several_fit : (a2 : Size) (more : List Size) → others ≡ a2 ∷ more → ((Q : FlatValue → Type 0) (f : FlatValue) → Gives (There W.is_there) Q (gives 0 (Primitive_value p at (value_and f no_value))) → Gives (There W.is_there) Q (calls W (Primitive_value p at no_value) f)) → (φ : Frames)
        → Fits N τ W.sizing W.is_there (calls W) m φ (Fun 0 (Fun 0 a (from_rows others c)) (Fun 1 (Level (Bound 0 0) a) (rest 0 others c))) (Primitive_value p at no_value)
    unfolding Fits Has_shape push
    several_fit a2 more e begins φ = (
      (refl, λ known F h hx. absurd hx),
      λ F f eF hf. begins (λ w. (F' : ℕ → ℕ) × ((i : ℕ) → i ≤ 0 → F' i ≡ F i) × Fits N τ W.sizing W.is_there (calls W) m (push F' φ) (Fun 1 (Level (Bound 0 0) a) (rest 0 others c)) w) f
          (gives_exact _ (λ w. (F' : ℕ → ℕ) × ((i : ℕ) → i ≤ 0 → F' i ≡ F i) × Fits N τ W.sizing W.is_there (calls W) m (push F' φ) (Fun 1 (Level (Bound 0 0) a) (rest 0 others c)) w) 0 (Val (Primitive_value p at (value_and f no_value))) (
            F,
            (λ i l. refl),
            (
              (refl, λ known. absurd (not_yet a2 more (push F φ) f hf e known)),
              λ G v eG hv. gives_as (Fits N τ W.sizing W.is_there (calls W) m (push G (push F φ)) (rest 0 others c)) (λ w. (G' : ℕ → ℕ) × ((i : ℕ) → i ≤ 1 → G' i ≡ G i) × Fits N τ W.sizing W.is_there (calls W) m (push G' (push F φ)) (rest 0 others c) w) (calls W (Primitive_value p at (value_and f no_value)) v)
                  (takes_more (push F φ) f hf (G 0) others closed_others [] tt a closed_a [] 0 (push G (push F φ)) v refl tt refl hv) (λ w q. (G, (λ i l. refl), q)),
            ),
          )),
    )
