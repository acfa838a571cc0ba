-- `scatter`, `reduce_by_index` and `unflatten` are of their sized types: an array in which rows are written or reduced keeps its
-- size, and one that is cut into groups has the sizes that are asked for.
use Rattle.std.proofs.Common.{eq-eqb}
use Rattle.fut_scalar.specs.declared.report.Report.{Report}
use Rattle.sized_meaning.proofs.Quiet.{bad_range, too_large}
use Rattle.sized_meaning.proofs.Reporting.{exact_fine, each_fine}
use Rattle.sized_meaning.proofs.Misfits.{fits_here, shown_same}
use Rattle.sized_meaning.proofs.Alone.{shape_alone}
use Rattle.sized_meaning.specs.There.{There}
use Rattle.std.specs.Prelude.{ℤ, pos, negsuc, ◌*◌, nat_eq, nat_le, nat_lt, take, drop}
use Rattle.std.proofs.Common.{◌≡◌, ℕ, zero, suc, ◌+◌, List, [], ◌∷◌, length, Bool, true, false, cond, refl, sym, ap, ◌∙◌, subst, arith, inl, inr, eqb-true}
use Rattle.std.proofs.lemmas.List.{length-take-le, length-drop}
use Rattle.fut_scalar.specs.Integers.{integer_of}
use Rattle.fut_scalar.specs.declared.place.BindId.{BindId}
use Rattle.fut_scalar.specs.declared.place.Place.{Place}
use Rattle.fut_scalar.specs.declared.report.FailKind.TheVariants as kind
use Rattle.fut_scalar.specs.declared.scalar.Scalar.TheVariants as scalar
use Rattle.fut_flat.specs.declared.prim.Primitive.TheVariants as prim
use Rattle.fut_flat.specs.declared.prim.Ref.{Ref}
use Rattle.fut_types.specs.Types.{Sub}
use Rattle.fut_typing.specs.Names.{Names}
use Rattle.fut_value.specs.Data.{Shape, Array_shape, Datum, Scalar_datum, Array_datum, Datums, datums, listed, weight}
use Rattle.fut_meaning.specs.Accessors.{count_of}
use Rattle.fut_meaning.specs.Arrays.{Counted, fitting, checked, most_words, each_out, exact_of, fresh, shared}
use Rattle.fut_meaning.specs.Datums.{as_value}
use Rattle.fut_meaning.specs.Flats.{flat_names}
use Rattle.fut_meaning.specs.Found.{count}
use Rattle.fut_meaning.specs.Jobs.{Job, Choose_each, Shown, shown, Is_one_of, Some_of, some_of, done, written_at, or_old, places, and_write, writes, written, shown_to_agree, finished, grouped, sized, unflattened, job}
use Rattle.fut_meaning.specs.Meaning.{plain, no_function, job_of}
use Rattle.fut_meaning.specs.Outcomes.{Out, Val, Rel, the, Then}
use Rattle.fut_meaning.specs.Places.{row_of as told_row}
use Rattle.fut_meaning.specs.Telling.{worth_of, value_shape, primitive_tells}
use Rattle.fut_meaning.specs.Values.{Primitive_value, no_value, value_and, Call}
use Rattle.fut_meaning.proofs.Data.{datum_of_as}
use Rattle.fut_meaning.proofs.Safe.{Every}
use Rattle.sized_types.specs.Sizes.{Dim, Bound, Size, Level, Fun}
use Rattle.fut_sizes.specs.Scopes.{i64_size}
use Rattle.fut_sizes.specs.Suiting.{Each, Scoped, Data}
use Rattle.fut_sizes.specs.Rules.{Any_free}
use Rattle.sized_meaning.specs.Worth.{Worth, Frames, push, number}
use Rattle.sized_meaning.specs.Shapes.{Meant, Has_shape, Has_datum}
use Rattle.sized_meaning.specs.Finding.{One_kind_each}
use Rattle.sized_meaning.specs.Fits.{Out_fits, Gives, word, Chosen_in, Known_result, Fits}
use Rattle.sized_meaning.specs.Law.{Sound, World, told, means, calls}
use Rattle.sized_meaning.proofs.Ways.{out_as}
use Rattle.sized_meaning.proofs.Outcomes.{gives_exact, gives_then}
use Rattle.sized_meaning.proofs.Scalars.{out_then}
use Rattle.sized_meaning.proofs.Datas.{datum_fits}
use Rattle.sized_meaning.proofs.Applications.{evaluates}
use Rattle.sized_meaning.proofs.Entered.{value_shaped}
use Rattle.sized_meaning.proofs.Mapping.{every_listed, shape_anywhere, datum_anywhere, array_of_rows}
use Rattle.sized_meaning.proofs.Reducing.{gives_all_of}
use Rattle.sized_meaning.proofs.First_order.{checked_out, Done_with, done_gives, Met, Given, Argument_is, three_fits, third_tells}
use Rattle.sized_meaning.proofs.Row_primitives.{every_as, every_taken, every_dropped, data_array, data_i64, counted_worth}

-- ---- rows that are written at places

every_written : (P : Datum → Type 0) (k : ℕ) (ws : List (ℕ × Datum)) → Every (λ w. P w.1) ws → Every P (written_at k ws)
every_written P k [] e = tt
every_written P k (w ∷ ws) e = tested (nat_eq w.0 k) (every_written P k ws e.1)
  where
    tested : (b : Bool) → Every P (written_at k ws) → Every P (cond b (w.1 ∷ written_at k ws) (written_at k ws))
    tested true r = (e.0, r)
    tested false r = r

every_old : (P : Datum → Type 0) (v : Datum) (ws : List Datum) → P v → Every P ws → Every P (or_old v ws)
every_old P v [] h e = (h, tt)
every_old P v (w ∷ ws) h e = e

pub every_place : (P : Datum → Type 0) (with : Datum → List Datum → List Datum) → ((v : Datum) (ws : List Datum) → P v → Every P ws → Every P (with v ws)) → (k : ℕ) (vs : List Datum) (ws : List (ℕ × Datum)) → Every P vs → Every (λ w. P w.1) ws
    → Every (Every P) (places with k vs ws) × (length (places with k vs ws) ≡ length vs)
every_place P with go k [] ws e f = (tt, refl)
every_place P with go k (v ∷ vs) ws e f = let r = every_place P with go (suc k) vs ws e.1 f in ((go v (written_at k ws) e.0 (every_written P k ws f), r.0), ap suc r.1)

pub every_writes : (P : Datum → Type 0) (n : ℕ) (zs : List ℤ) (vs : List Datum) → Every P vs → Every (λ w. P w.1) (writes n zs vs)
every_writes P n [] vs e = tt
every_writes P n (z ∷ zs) [] e = tt
every_writes P n (z ∷ zs) (v ∷ vs) e = at_index z (every_writes P n zs vs e.1)
  where
    at_index : (z : ℤ) → Every (λ w. P w.1) (writes n zs vs) → Every (λ w. P w.1) (and_write n z v (writes n zs vs))
    at_index (negsuc k) r = r
    at_index (pos k) r = tested (nat_lt k n)
      where
        tested : (b : Bool) → Every (λ w. P w.1) (cond b ((k, v) ∷ writes n zs vs) (writes n zs vs))
        tested true = (e.0, r)
        tested false = r

one_of_all : (P : Datum → Type 0) (xs : List Datum) (x : Datum) → Every P xs → Is_one_of xs x → P x
one_of_all P (y ∷ xs) x e (inl q) = subst P q e.0
one_of_all P (y ∷ xs) x e (inr q) = one_of_all P xs x e.1 q
one_of_all P [] x e q = absurd q

some_gives : (quiet : Report → Type 0) (P : Datum → Type 0) (xs : List Datum) → Every P xs → Gives quiet P (Some_of xs)
some_gives quiet P xs e _ _ (some_of {x} q) = one_of_all P xs x e q

shown_gives : {quiet : Report → Type 0} {A : Type 0} (P : A → Type 0) (X : Type 0) (k : Rel A) → Gives quiet P k → Gives quiet P (Shown X k)
shown_gives P X k h _ _ (shown {o} {f} x y) = h o f y

pub fit_or : (quiet : Report → Type 0) {A : Type 0} (P : A → Type 0) (b : Bool) (at : Place) (o : Out A) → b ≡ true → Out_fits quiet P o → Out_fits quiet P (fitting false b at o)
fit_or quiet P b at o e h = subst (λ z. Out_fits quiet P z) (sym (fits_here false b at o e)) h

module _ (N : Names) (types : Sub) (τ : Meant) (W : World) (S : Sound N types W.sizing) (one : One_kind_each τ) (m : Worth) where
  module _ (a : Size) (data_a : Data a) (closed_a : Each (Scoped Any_free) 0 a) (at : Place) where
    abbrev Rows_at : Frames → Datum → Type 0
    Rows_at ψ d = Has_datum N τ m ψ a d

    -- what is written are rows of the type, at as many places
    pub written_out : (ψ ψ' : Frames) (x x' : Dim) (b : Size) (row : Shape) (ds : List Datum) (is vs : Datum) (P : Job → Type 0) (k : List (ℕ × Datum) → Out Job) → Has_shape N τ m ψ a row → Has_datum N τ m ψ' (Level x' b) is → number m ψ' x' ≡ number m ψ x → Has_datum N τ m ψ (Level x a) vs → ((ws : List (ℕ × Datum)) → Every (λ w. Has_datum N τ m ψ a w.1) ws → Out_fits (There W.is_there) P (k ws)) → Out_fits (There W.is_there) P (written false at (row, ds) is vs k)
    unfolding Has_datum
    written_out ψ ψ' x x' b row ds (Array_datum row2 us) (Array_datum row' vs) P k hr hi same h go =
        fit_or _ P (nat_eq (length (listed us)) (length (listed vs))) at _ (eq-eqb (length (listed us)) (length (listed vs)) (hi.0 ∙ same ∙ sym h.0)) (fit_or _ P (shown_to_agree (row, ds) (row', listed vs)) at _ (shown_same (row, ds) (row', listed vs) (shape_alone N τ m ψ a row row' hr h.1))
        (out_then _ (λ zs. Unit {0}) P (each_out exact_of (listed us)) (λ zs. k (writes (length ds) zs (listed vs))) (each_fine W.is_there exact_of (λ d. exact_fine W.is_there d) (listed us))
        (λ zs u. go (writes (length ds) zs (listed vs)) (every_writes (Has_datum N τ m ψ a) (length ds) zs (listed vs) (every_listed (Has_datum N τ m ψ a) vs h.2)))))
    written_out ψ ψ' x x' b row ds (Array_datum row2 us) d P k hr hi same h go = absurd h
    written_out ψ ψ' x x' b row ds is vs P k hr hi same h go = absurd hi

    -- an array of as many rows as before
    pub as_many : (ψ : Frames) (x : Dim) (row : Shape) (n : ℕ) (k : List Datum → Out Counted) → n ≡ number m ψ x → Has_shape N τ m ψ a row → ((ys : List Datum) → Every (Has_datum N τ m ψ a) ys → Out_fits (There W.is_there) (λ r. r.1 ≡ Array_datum row (datums ys)) (k ys))
        → (ys : List Datum) → Every (Has_datum N τ m ψ a) ys × (length ys ≡ n) → Gives (There W.is_there) (Has_datum N τ m ψ (Level x a)) (finished k ys)
    as_many ψ x row n k l h made ys q = gives_then (λ r. Has_datum N τ m ψ (Level x a) r.1) (Has_datum N τ m ψ (Level x a)) _ _
        (gives_exact _ (λ r. Has_datum N τ m ψ (Level x a) r.1) 0 (k ys) (out_as _ (λ r. r.1 ≡ Array_datum row (datums ys)) (λ r. Has_datum N τ m ψ (Level x a) r.1) (k ys) (λ r e. subst (Has_datum N τ m ψ (Level x a)) (sym e) (array_of_rows N types τ W S one m ψ x a row ys (q.1 ∙ l) h q.0)) (made ys q.0)))
        (λ r x. gives_exact _ _ r.0 (Val r.1) x)

    -- the shape of the array in which is written
    pub array_moved : (ψ ψ' : Frames) (x x' : Dim) (h : Shape) → number m ψ x ≡ number m ψ' x' → Has_shape N τ m ψ (Level x a) h → Has_shape N τ m ψ' (Level x' a) h
    unfolding Has_shape
    array_moved ψ ψ' x x' (Array_shape n row) e k = (k.0 ∙ e, shape_anywhere N types τ W S one m a closed_a ψ ψ' row k.1)
    array_moved ψ ψ' x x' h e k = absurd k

    -- ---- scatter

    module _ (φ : Frames) where
      scatter_gives : (F G H : ℕ → ℕ) (told_row : Shape) (d e g : Datum) → Argument_is N types τ W S one m 1 F φ (Level (Bound 0 0) a) d → Argument_is N types τ W S one m 1 G (push F φ) (Level (Bound 0 0) i64_size) e → Argument_is N types τ W S one m 0 H (push G (push F φ)) (Level (Bound 1 0) a) g
          → Gives (There W.is_there) (Given N types τ W S one m 0 H (push G (push F φ)) (Level (Bound 2 0) a)) (Then (the (job false told_row prim.Scatter at (d ∷ e ∷ g ∷ []))) (job_of ((flat_names (told W)).lang W.tops) (plain W.tight) W.budget (means W) 0 no_function))
      unfolding Has_datum job plain push
      scatter_gives F G H told_row (Array_datum row ds) e g x y z =
          let ψ : Frames = push H (push G (push F φ)) in
          gives_then (λ j. (ws : List (ℕ × Datum)) × (j ≡ Choose_each ws (listed ds) (λ es. shared (Array_datum row (datums es)))) × Every (λ w. Has_datum N τ m (push H (push G (push F φ))) a w.1) ws) (Given N types τ W S one m 0 H (push G (push F φ)) (Level (Bound 2 0) a)) _ _
          (gives_exact _ _ 0 _ (written_out (push H (push G (push F φ))) (push G (push F φ)) (Bound 1 0) (Bound 0 0) i64_size row (listed ds) e g (λ j. (ws : List (ℕ × Datum)) × (j ≡ Choose_each ws (listed ds) (λ es. shared (Array_datum row (datums es)))) × Every (λ w. Has_datum N τ m (push H (push G (push F φ))) a w.1) ws) (λ ws. Val (Choose_each ws (listed ds) (λ es. shared (Array_datum row (datums es))))) (shape_anywhere N types τ W S one m a closed_a (push F φ) (push H (push G (push F φ))) row (x.1).1) y.1 refl z.1 (λ ws q. (ws, refl, q))))
          (λ j q. subst (λ i. Gives (There W.is_there) (Given N types τ W S one m 0 H (push G (push F φ)) (Level (Bound 2 0) a)) (job_of ((flat_names (told W)).lang W.tops) (plain W.tight) W.budget (means W) 0 no_function i)) (sym q.1)
          (gives_then (Has_datum N τ m (push H (push G (push F φ))) (Level (Bound 2 0) a)) (Given N types τ W S one m 0 H (push G (push F φ)) (Level (Bound 2 0) a)) _ _
          (gives_then (λ ys. Every (Has_datum N τ m (push H (push G (push F φ))) a) ys × (length ys ≡ length (places or_old 0 (listed ds) q.0))) (Has_datum N τ m (push H (push G (push F φ))) (Level (Bound 2 0) a)) _ _
          (shown_gives _ _ _ (gives_all_of (Every (Has_datum N τ m (push H (push G (push F φ))) a)) (Has_datum N τ m (push H (push G (push F φ))) a) Some_of (λ xs e. some_gives _ (Has_datum N τ m (push H (push G (push F φ))) a) xs e) (places or_old 0 (listed ds) q.0) (all_places F G H row ds x.1 q.0 q.2).0))
          (λ ys r. as_many (push H (push G (push F φ))) (Bound 2 0) row (length (listed ds)) (λ es. shared (Array_datum row (datums es))) (x.1).0 (shape_anywhere N types τ W S one m a closed_a (push F φ) (push H (push G (push F φ))) row (x.1).1) (λ es u. refl) ys (r.0, r.1 ∙ (all_places F G H row ds x.1 q.0 q.2).1)))
          (λ y h. gives_exact _ (Given N types τ W S one m 0 H (push G (push F φ)) (Level (Bound 2 0) a)) 0 (Val (as_value y)) (H, (λ i l. refl), datum_fits N τ W.sizing W.is_there (calls W) m (push H (push G (push F φ))) (Level (Bound 2 0) a) (data_array (Bound 2 0) a data_a) (as_value y) y (datum_of_as Ref BindId (Unit {0}) y) h))))
        where
          all_places : (F G H : ℕ → ℕ) (row : Shape) (ds : Datums) → Has_datum N τ m (push F φ) (Level (Bound 0 0) a) (Array_datum row ds) → (ws : List (ℕ × Datum)) → Every (λ w. Has_datum N τ m (push H (push G (push F φ))) a w.1) ws
              → Every (Every (Has_datum N τ m (push H (push G (push F φ))) a)) (places or_old 0 (listed ds) ws) × (length (places or_old 0 (listed ds) ws) ≡ length (listed ds))
          all_places F G H row ds x ws q = every_place (Has_datum N τ m (push H (push G (push F φ))) a) or_old (λ v us h e. every_old (Has_datum N τ m (push H (push G (push F φ))) a) v us h e) 0 (listed ds) ws
              (every_as (Has_datum N τ m (push F φ) a) (Has_datum N τ m (push H (push G (push F φ))) a) (λ d h. datum_anywhere N types τ W S one m a closed_a (push F φ) (push H (push G (push F φ))) d h) (listed ds) (every_listed (Has_datum N τ m (push F φ) a) ds x.2)) q
      scatter_gives F G H told_row d e g x y z = absurd x.1

      pub scatter_fits : Fits N τ W.sizing W.is_there (calls W) m φ (Fun 1 (Level (Bound 0 0) a) (Fun 1 (Level (Bound 0 0) i64_size) (Fun 0 (Level (Bound 1 0) a) (Level (Bound 2 0) a)))) (Primitive_value prim.Scatter at no_value)
      unfolding plain primitive_tells push
      scatter_fits = three_fits N types τ W S one m prim.Scatter at φ 1 1 0 (Level (Bound 0 0) a) (Level (Bound 0 0) i64_size) (Level (Bound 1 0) a) (Level (Bound 2 0) a) (data_array (Bound 0 0) a data_a) (data_array (Bound 0 0) i64_size data_i64) (data_array (Bound 1 0) a data_a) (data_array (Bound 2 0) a data_a)
          (λ Q u h. evaluates N types τ W S one Q (Call (Primitive_value prim.Scatter at no_value) u) h) (λ Q u v h. evaluates N types τ W S one Q (Call (Primitive_value prim.Scatter at (value_and u no_value)) v) h)
          (λ Q u v w h. evaluates N types τ W S one Q (Call (Primitive_value prim.Scatter at (value_and u (value_and v no_value))) w) h)
          (λ F G H row d e g x y z. scatter_gives F G H row d e g x y z)
          (λ known F h hh G g hg H x hx. array_moved (push F φ) (push H (push G (push F φ))) (Bound 0 0) (Bound 2 0) h refl hh)
          (λ F u eu hu known G g hg H x hx. array_moved (push F φ) (push H (push G (push F φ))) (Bound 0 0) (Bound 2 0) (value_shape u) refl (value_shaped N τ W.sizing W.is_there (calls W) m (push F φ) (Level (Bound 0 0) a) (data_array (Bound 0 0) a data_a) u hu))
          (λ F u eu hu G v ev hv. third_tells N types τ W S one m prim.Scatter at (push G (push F φ)) (push F φ) (push G (push F φ)) 0 (Level (Bound 0 0) a) (Level (Bound 0 0) i64_size) (Level (Bound 1 0) a) (Level (Bound 2 0) a) u v (data_array (Bound 0 0) a data_a) (data_array (Bound 0 0) i64_size data_i64) hu hv
          (λ H h g k hh hg hk. array_moved (push F φ) (push H (push G (push F φ))) (Bound 0 0) (Bound 2 0) h refl hh) (data_array (Bound 2 0) a data_a))

      -- ---- unflatten

      every_group : (ψ : Frames) (x : Dim) (row : Shape) (i j : ℕ) (ds : List Datum) → length ds ≡ i * j → j ≡ number m ψ x → Has_shape N τ m ψ a row → Every (Has_datum N τ m ψ a) ds → Every (Has_datum N τ m ψ (Level x a)) (grouped row i j ds)
      every_group ψ x row zero j ds l n h e = tt
      every_group ψ x row (suc i) j ds l n h e =
          let z : suc i * j ≡ j + i * j = omega arith in (
            array_of_rows N types τ W S one m ψ x a row (take j ds) (length-take-le j ds (omega (arith, l, z)) ∙ n) h (every_taken (Has_datum N τ m ψ a) j ds e),
            every_group ψ x row i j (drop j ds) (let y = length-drop j ds in omega (arith, y, l, z)) n h (every_dropped (Has_datum N τ m ψ a) j ds e),
          )

      many_groups : (row : Shape) (i j : ℕ) (ds : List Datum) → length (grouped row i j ds) ≡ i
      many_groups row zero j ds = refl
      many_groups row (suc i) j ds = ap suc (many_groups row i j (drop j ds))

      unflatten_job : W.is_there at ≡ true → (F G H : ℕ → ℕ) (told_row : Shape) (d e g : Datum) → Argument_is N types τ W S one m 0 F φ i64_size d → Argument_is N types τ W S one m 0 G (push F φ) i64_size e → Argument_is N types τ W S one m 1 H (push G (push F φ)) (Level (Bound 0 0) a) g
          → Out_fits (There W.is_there) (Done_with (Met N types τ W S one m 1 H (push G (push F φ)) (Level (Bound 2 0) (Level (Bound 1 0) a)))) (job false told_row prim.Unflatten at (d ∷ e ∷ g ∷ []))
      unfolding Has_datum Has_shape job push word
      unflatten_job at_there F G H told_row (Scalar_datum (scalar.Int t n)) (Scalar_datum (scalar.Int u k)) (Array_datum row ds) x y z = by_sizes (integer_of t n) (integer_of u k) x.0 y.0
        where
          tested : (i j : ℕ) (b : Bool) → nat_eq (i * j) (length (listed ds)) ≡ b → F 0 ≡ i → G 0 ≡ j → Out_fits (There W.is_there) (Done_with (Met N types τ W S one m 1 H (push G (push F φ)) (Level (Bound 2 0) (Level (Bound 1 0) a)))) (checked b kind.Size at (unflattened at i j (row, listed ds)))
          tested i j true q e f = checked_out _ (Done_with (Met N types τ W S one m 1 H (push G (push F φ)) (Level (Bound 2 0) (Level (Bound 1 0) a)))) (nat_le (weight (Array_shape i (Array_shape j row))) most_words) kind.TooLarge at (too_large W.is_there at) (done (fresh (Array_datum (Array_shape j row) (datums (grouped row i j (listed ds)))))) (
            H,
            (λ k l. refl),
            array_of_rows N types τ W S one m (push H (push G (push F φ))) (Bound 2 0) (Level (Bound 1 0) a) (Array_shape j row) (grouped row i j (listed ds)) (many_groups row i j (listed ds) ∙ sym e) (sym f, (z.1).1)
                (every_group (push H (push G (push F φ))) (Bound 1 0) row i j (listed ds) (sym (eqb-true (i * j) (length (listed ds)) q)) (sym f) (z.1).1 (every_listed (Has_datum N τ m (push H (push G (push F φ))) a) ds (z.1).2)),
          )
          tested i j false q e f = λ w. at_there

          by_sizes : (v w : ℤ) → F 0 ≡ count_of v → G 0 ≡ count_of w → Out_fits (There W.is_there) (Done_with (Met N types τ W S one m 1 H (push G (push F φ)) (Level (Bound 2 0) (Level (Bound 1 0) a)))) (sized at v (λ i. sized at w (λ j. checked (nat_eq (i * j) (length (listed ds))) kind.Size at (unflattened at i j (row, listed ds)))))
          by_sizes (negsuc i) w e f = bad_range W.is_there at
          by_sizes (pos i) (negsuc j) e f = bad_range W.is_there at
          by_sizes (pos i) (pos j) e f = tested i j (nat_eq (i * j) (length (listed ds))) refl e f
      unflatten_job at_there F G H told_row (Scalar_datum (scalar.Int t n)) (Scalar_datum (scalar.Int u k)) g x y z = absurd z.1
      unflatten_job at_there F G H told_row (Scalar_datum (scalar.Int t n)) (Scalar_datum (scalar.Bool c)) g x y z = tt
      unflatten_job at_there F G H told_row (Scalar_datum (scalar.Int t n)) e g x y z = absurd y.1
      unflatten_job at_there F G H told_row (Scalar_datum (scalar.Bool c)) e g x y z = tt
      unflatten_job at_there F G H told_row d e g x y z = absurd x.1

      groups_shape : (F G H : ℕ → ℕ) (k : Shape) (x y : ℕ) → x ≡ F 0 → y ≡ G 0 → Has_shape N τ m (push H (push G (push F φ))) (Level (Bound 0 0) a) k → Has_shape N τ m (push H (push G (push F φ))) (Level (Bound 2 0) (Level (Bound 1 0) a)) (Array_shape x (Array_shape y (told_row k)))
      unfolding Has_shape push
      groups_shape F G H (Array_shape n k) x y p q h = (p, (q, h.1))
      groups_shape F G H k x y p q h = absurd h

      pub unflatten_fits : W.is_there at ≡ true → Fits N τ W.sizing W.is_there (calls W) m φ (Fun 0 i64_size (Fun 0 i64_size (Fun 1 (Level (Bound 0 0) a) (Level (Bound 2 0) (Level (Bound 1 0) a))))) (Primitive_value prim.Unflatten at no_value)
      unfolding plain primitive_tells Each Known_result Chosen_in
      unflatten_fits at_there = three_fits N types τ W S one m prim.Unflatten at φ 0 0 1 i64_size i64_size (Level (Bound 0 0) a) (Level (Bound 2 0) (Level (Bound 1 0) a)) data_i64 data_i64 (data_array (Bound 0 0) a data_a) (data_array (Bound 2 0) (Level (Bound 1 0) a) (data_array (Bound 1 0) a data_a))
          (λ Q u h. evaluates N types τ W S one Q (Call (Primitive_value prim.Unflatten at no_value) u) h) (λ Q u v h. evaluates N types τ W S one Q (Call (Primitive_value prim.Unflatten at (value_and u no_value)) v) h)
          (λ Q u v w h. evaluates N types τ W S one Q (Call (Primitive_value prim.Unflatten at (value_and u (value_and v no_value))) w) h)
          (λ F G H row d e g x y z. done_gives N types τ W S one m (Met N types τ W S one m 1 H (push G (push F φ)) (Level (Bound 2 0) (Level (Bound 1 0) a))) (Given N types τ W S one m 1 H (push G (push F φ)) (Level (Bound 2 0) (Level (Bound 1 0) a))) 0 no_function (job false row prim.Unflatten at (d ∷ e ∷ g ∷ [])) (unflatten_job at_there F G H row d e g x y z)
          (λ y q. (q.0, q.1, datum_fits N τ W.sizing W.is_there (calls W) m (push q.0 (push G (push F φ))) (Level (Bound 2 0) (Level (Bound 1 0) a)) (data_array (Bound 2 0) (Level (Bound 1 0) a) (data_array (Bound 1 0) a data_a)) (as_value y) y (datum_of_as Ref BindId (Unit {0}) y) q.2)))
          (λ known F h hh G g hg H x hx. absurd (let l = known.1.0 in omega (arith, l))) (λ F u eu hu known G g hg H x hx. absurd (let l = known.1.1.0 in omega (arith, l)))
          (λ F u eu hu G v ev hv. third_tells N types τ W S one m prim.Unflatten at (push G (push F φ)) (push F φ) (push G (push F φ)) 1 i64_size i64_size (Level (Bound 0 0) a) (Level (Bound 2 0) (Level (Bound 1 0) a)) u v data_i64 data_i64 hu hv
          (λ H h g k hh hg hk. groups_shape F G H k (count (worth_of u)) (count (worth_of v)) (counted_worth N types τ W S one m a data_a closed_a at φ F u eu hu) (counted_worth N types τ W S one m a data_a closed_a at (push F φ) G v ev hv) hk) (data_array (Bound 2 0) (Level (Bound 1 0) a) (data_array (Bound 1 0) a data_a)))
