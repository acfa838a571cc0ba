-- An array with one of its parts replaced keeps its sized type, and a field of a record is of that part's.
use Rattle.fut_scalar.specs.declared.report.Report.{Report}
use Rattle.sized_meaning.proofs.Quiet.{out_of_bounds}
use Rattle.sized_meaning.proofs.Reporting.{exact_fine}
use Rattle.sized_meaning.proofs.Size_reports.{all_fine}
use Rattle.sized_meaning.proofs.Misfits.{fits_here, same_as}
use Rattle.sized_meaning.proofs.Alone.{shape_alone}
use Rattle.sized_meaning.proofs.Datas.{datum_shaped}
use Rattle.sized_meaning.proofs.Size_reports.{datum_fine}
use Rattle.sized_meaning.specs.There.{There}
use Rattle.std.specs.Prelude.{ℤ, pos, negsuc, slice_set, slice_get, unsigned_abs}
use Rattle.std.proofs.Common.{◌≡◌, ℕ, zero, suc, ◌+◌, List, [], ◌∷◌, length, Bool, true, false, Ok, refl, sym, ap, ◌∙◌, subst}
use Rattle.fut_scalar.specs.declared.place.BindId.{BindId}
use Rattle.fut_scalar.specs.declared.place.Place.{Place}
use Rattle.fut_flat.specs.declared.prim.Ref.{Ref}
use Rattle.fut_flat.specs.Numbers.{numbers}
use Rattle.fut_flat.specs.Terms.{Update, Terms, no_term, term_and}
use Rattle.fut_types.specs.Types.{Sub}
use Rattle.fut_typing.specs.Names.{Names}
use Rattle.fut_value.specs.Data.{Datum, Array_datum, datums, listed, shape_of, same_sizes}
use Rattle.fut_meaning.specs.Arrays.{all_shared, fitting, exact_of, each_out, row_at, or_bounds, updated as updated_data, last_apart, made, Make_update}
use Rattle.fut_meaning.specs.Datums.{as_value, datum_of, all_data}
use Rattle.fut_meaning.specs.Flats.{FlatValue, FlatEnv, flat_names}
use Rattle.fut_meaning.specs.Meaning.{row_told, fits_type, Of_literal}
use Rattle.fut_meaning.specs.Operations.{operated}
use Rattle.fut_meaning.specs.Outcomes.{Out, Val, and_then, gives, the, Then}
use Rattle.fut_meaning.specs.Values.{values}
use Rattle.fut_meaning.proofs.Data.{datum_of_as}
use Rattle.fut_meaning.proofs.Safe.{Every}
use Rattle.sized_types.specs.Sizes.{Size, Level, Sizes}
use Rattle.fut_sizes.specs.Operations.{operation, updated}
use Rattle.fut_sizes.specs.Rules.{part_sizes}
use Rattle.fut_sizes.specs.Suiting.{Data}
use Rattle.sized_meaning.specs.Worth.{Worth, no_frames}
use Rattle.sized_meaning.specs.Shapes.{Meant, Has_datum}
use Rattle.sized_meaning.specs.Finding.{One_kind_each, Well_formed}
use Rattle.sized_meaning.specs.Fits.{Out_fits, Gives, Fits, All_fit}
use Rattle.sized_meaning.specs.Law.{Sound, World, told, calls, Updated_parts, Result as Res}
use Rattle.sized_meaning.proofs.Outcomes.{gives_exact, gives_then, out_of}
use Rattle.sized_meaning.proofs.Suiting.{same_ok}
use Rattle.sized_meaning.proofs.Scalars.{out_then}
use Rattle.sized_meaning.proofs.Datas.{value_same, the_value, datum_fits, fits_datum}
use Rattle.sized_meaning.proofs.Mapping.{every_listed, listed_every, same_list}
use Rattle.sized_meaning.proofs.Alike.{alike_fits}
use Rattle.sized_meaning.proofs.Branches.{same_form}
use Rattle.sized_meaning.proofs.Elements.{then_ok, agreed}
use Rattle.fut_flat.specs.Erased.{FlatTerm}
use Rattle.sized_meaning.proofs.First_order.{shared_out}
use Rattle.sized_meaning.proofs.Zipping.{each_out_fits}

-- a row at an index, and rows with one of them replaced
found_out : (is_there : Place → Bool) (P : Datum → Type 0) (at : Place) (i : ℕ) (ds : List Datum) → Every P ds → Out_fits (There is_there) P (or_bounds at (slice_get ds i))
found_out is_there P at i [] e = out_of_bounds is_there at
found_out is_there P at zero (d ∷ ds) e = e.0
found_out is_there P at (suc i) (d ∷ ds) e = found_out is_there P at i ds e.1

row_out : (is_there : Place → Bool) (P : Datum → Type 0) (at : Place) (z : ℤ) (ds : List Datum) → Every P ds → Out_fits (There is_there) P (row_at at z ds)
row_out is_there P at (negsuc i) ds e = out_of_bounds is_there at
row_out is_there P at (pos i) ds e = found_out is_there P at i ds e

every_set : (P : Datum → Type 0) (n : ℕ) (ds : List Datum) (y : Datum) → Every P ds → P y → Every P (slice_set ds n y)
every_set P n [] y e h = tt
every_set P zero (x ∷ xs) y e h = (h, e.1)
every_set P (suc n) (x ∷ xs) y e h = (e.0, every_set P n xs y e.1 h)

set_long : (n : ℕ) (ds : List Datum) (y : Datum) → length (slice_set ds n y) ≡ length ds
set_long n [] y = refl
set_long zero (x ∷ xs) y = refl
set_long (suc n) (x ∷ xs) y = ap suc (set_long n xs y)

every_any : (ds : List Datum) → Every (λ d. Unit {0}) ds
every_any [] = tt
every_any (d ∷ ds) = (tt, every_any ds)

same_outcome : (o : Out (List Datum)) (x y : List Datum) → o ≡ Val x → ◌≡◌ {A = Out (List Datum)} (Val y) (Val x) → o ≡ Val y
same_outcome o x y e f = e ∙ sym f

same_front : (d : Datum) (x y : List Datum) → ◌≡◌ {A = Out (List Datum)} (Val x) (Val y) → d ∷ x ≡ d ∷ y
same_front d x y e = ap (λ zs. d ∷ zs) (the_value x y e)

fit_out : (quiet : Report → Type 0) (P : Datum → Type 0) (b : Bool) (at : Place) (d : Datum) → b ≡ true → P d → Out_fits quiet P (fitting false b at (Val d))
fit_out quiet P b at d e h = subst (λ o. Out_fits quiet P o) (sym (fits_here false b at (Val d) e)) h

module _ (N : Names) (types : Sub) (τ : Meant) (W : World) (S : Sound N types W.sizing) (one : One_kind_each τ) (m : Worth) where
  abbrev s : ℕ → Size
  s n = W.sizing.size_at n

  abbrev parts : Terms Ref BindId → ℕ → Sizes
  parts ts at = part_sizes N types W.sizing.size_at W.sizing.home ts at

  -- data of what is left of a type behind so many levels
  abbrev Inner : ℕ → Size → Datum → Type 0
  Inner zero t v = Has_datum N τ m no_frames t v
  Inner (suc n) (Level d t) v = Inner n t v
  Inner (suc n) t v = ⊥

  updated_out : (at : Place) (zs : List ℤ) (v d : Datum) (t : Size) → Has_datum N τ m no_frames t d → Inner (length zs) t v → Out_fits (There W.is_there) (Has_datum N τ m no_frames t) (updated_data false at zs v d)
  unfolding updated_data Has_datum
  updated_out at [] v d t h i = fit_out _ (Has_datum N τ m no_frames t) (same_sizes (shape_of d) (shape_of v)) at v (same_as (shape_of d) (shape_of v) (shape_alone N τ m no_frames t (shape_of d) (shape_of v) (datum_shaped N τ m no_frames t d h) (datum_shaped N τ m no_frames t v i))) i
  updated_out at (z ∷ zs) v (Array_datum row ds) (Level x t) h i =
      out_then _ (Has_datum N τ m no_frames t) (Has_datum N τ m no_frames (Level x t)) (row_at at z (listed ds)) (λ e. and_then (updated_data false at zs v e) (λ e'. Val (Array_datum row (datums (slice_set (listed ds) (unsigned_abs z) e')))))
      (row_out W.is_there (Has_datum N τ m no_frames t) at z (listed ds) (every_listed (Has_datum N τ m no_frames t) ds h.2))
      (λ e he. out_then _ (Has_datum N τ m no_frames t) (Has_datum N τ m no_frames (Level x t)) (updated_data false at zs v e) (λ e'. Val (Array_datum row (datums (slice_set (listed ds) (unsigned_abs z) e'))))
      (updated_out at zs v e t he i)
      (λ e' he'. (
        ap length (same_list (slice_set (listed ds) (unsigned_abs z) e')) ∙ set_long (unsigned_abs z) (listed ds) e' ∙ h.0,
        h.1,
        listed_every (Has_datum N τ m no_frames t) (slice_set (listed ds) (unsigned_abs z) e') (every_set (Has_datum N τ m no_frames t) (unsigned_abs z) (listed ds) e' (every_listed (Has_datum N τ m no_frames t) ds h.2) he'),
      )))
  updated_out at (z ∷ zs) v d (Level x t) h i = absurd h
  updated_out at (z ∷ zs) v d t h i = absurd i

  -- the new part is of what is left of the type behind the indices
  target : (es : Terms Ref BindId) (at : ℕ) (t : Size) (vs : List FlatValue) (z : Unit {0}) → Updated_parts N types W es at t → updated es at (parts es at) t ≡ Ok z → Well_formed W.sizing.fields t → Data t → All_fit N τ W.sizing W.is_there (calls W) m no_frames (parts es at) (values vs) → (ds : List Datum) → all_data vs ≡ Val ds
      → Out_fits (There W.is_there) (λ r. Inner (length r.0) t r.1) (last_apart ds)
  unfolding All_fit updated Well_formed Data
  target (term_and v no_term) at t [] z p e f d h ds q = absurd h
  target (term_and v no_term) at t (w ∷ w2 ∷ ws) z p e f d h ds q = absurd h.1
  target (term_and v no_term) at t (w ∷ []) z p e f d h ds q =
      let r = value_same (datum_of w) (λ d. and_then (Val []) (λ ds. Val (d ∷ ds))) ds q in
      let form = same_form W.sizing.fields t (s at) d p.0 f (S.formed at) (sym p.1 ∙ sym (S.typed at)) in
      subst (λ ds. Out_fits (There W.is_there) (λ r. Inner (length r.0) t r.1) (last_apart ds)) (the_value (r.0 ∷ []) ds r.2)
      (fits_datum N τ W.sizing W.is_there (calls W) m no_frames t d w r.0 r.1 ((alike_fits N τ m m W.sizing W.is_there (calls W) (agreed m at form z e) w).0 h.0))
  target (term_and i (term_and j es)) at (Level x t) [] z p e f d h ds q = absurd h
  target (term_and i (term_and j es)) at (Level x t) (w ∷ []) z p e f d h ds q = absurd h.1
  target (term_and i (term_and j es)) at (Level x t) (w ∷ w2 ∷ ws) z p e f d h ds q =
      let r = value_same (datum_of w) (λ d. and_then (all_data (w2 ∷ ws)) (λ ds. Val (d ∷ ds))) ds q in
      let r2 = value_same (all_data (w2 ∷ ws)) (λ ds. Val (r.0 ∷ ds)) ds r.2 in
      let r3 = value_same (datum_of w2) (λ d. and_then (all_data ws) (λ ds. Val (d ∷ ds))) r2.0 r2.1 in
      let r4 = value_same (all_data ws) (λ ds. Val (r3.0 ∷ ds)) r2.0 r3.2 in
      let whole : all_data (w2 ∷ ws) ≡ Val (r3.0 ∷ r4.0) = same_outcome (all_data (w2 ∷ ws)) r2.0 (r3.0 ∷ r4.0) r2.1 r4.2 in
      let rest = target (term_and j es) (at + numbers i) t (w2 ∷ ws) z p e f d h.1 (r3.0 ∷ r4.0) whole in
      subst (λ ds. Out_fits (There W.is_there) (λ r. Inner (length r.0) (Level x t) r.1) (last_apart ds)) (same_front r.0 (r3.0 ∷ r4.0) r2.0 r4.2 ∙ the_value (r.0 ∷ r2.0) ds r2.2)
      (out_then _ (λ y. Inner (length y.0) t y.1) (λ y. Inner (length y.0) (Level x t) y.1) (last_apart (r3.0 ∷ r4.0)) (λ y. Val (r.0 ∷ y.0, y.1)) rest (λ y k. k))
  target (term_and i (term_and j es)) at t vs z p e f d h ds q = absurd p
  target no_term at t vs z p e f d h ds q = absurd p

  abbrev Update_data : Size → List Datum → Type 0
  Update_data t ds = (d : Datum) × (is : List Datum) × (ds ≡ d ∷ is) × Has_datum N τ m no_frames t d × Out_fits (There W.is_there) (λ r. Inner (length r.0) t r.1) (last_apart is)

  made_out : (t : Size) (mark : Place) (d : Datum) (is : List Datum) → Has_datum N τ m no_frames t d → Out_fits (There W.is_there) (λ r. Inner (length r.0) t r.1) (last_apart is)
      → Out_fits (There W.is_there) (λ r. Has_datum N τ m no_frames t r.1) (and_then (last_apart is) (λ r. and_then (each_out exact_of r.0) (λ zs. all_shared (updated_data false mark zs r.1 d))))
  made_out t mark d is h k = out_then _ (λ r. Inner (length r.0) t r.1) (λ r. Has_datum N τ m no_frames t r.1) (last_apart is) (λ r. and_then (each_out exact_of r.0) (λ zs. all_shared (updated_data false mark zs r.1 d))) k
      (λ r hr. out_then _ (λ zs. Every (λ z. Unit {0}) zs × (length zs ≡ length r.0)) (λ r. Has_datum N τ m no_frames t r.1) (each_out exact_of r.0) (λ zs. all_shared (updated_data false mark zs r.1 d))
      (each_out_fits _ (λ x. Unit {0}) (λ z. Unit {0}) exact_of (λ x u. exact_fine W.is_there x) r.0 (every_any r.0))
      (λ zs q. shared_out _ (Has_datum N τ m no_frames t) (updated_data false mark zs r.1 d) (updated_out mark zs r.1 d t h (subst (λ n. Inner n t r.1) (sym q.1) hr))))

  pub update_fits : (mark : Place) (x : FlatTerm) (es : Terms Ref BindId) (lo : ℕ) (env : FlatEnv) (vs : List FlatValue) → Data (s (lo + 1)) → Updated_parts N types W es (lo + 1 + numbers x) (s (lo + 1)) → All_fit N τ W.sizing W.is_there (calls W) m no_frames (parts (term_and x es) (lo + 1)) (values vs)
      → operation N types Update lo (lo + 1) (term_and x es) (parts (term_and x es) (lo + 1)) ≡ Ok (s lo)
      → Gives (There W.is_there) (Res N types τ W lo (1 + lo) m (s lo)) (operated false (row_told ((flat_names (told W)).lang W.tops) (Of_literal env lo)) (fits_type ((flat_names (told W)).lang W.tops) env lo) (W.integer_at lo) Update mark vs)
  unfolding All_fit operation made
  update_fits mark x es lo env [] d p h e = absurd h
  update_fits mark x es lo env (v ∷ ws) d p h e =
      let t : Size = s (lo + 1) in
      let r = then_ok (updated es (lo + 1 + numbers x) (parts es (lo + 1 + numbers x)) (s (lo + 1))) (λ z. Ok (s (lo + 1))) (s lo) e in
      let same = r.2 in
      gives_then (Update_data t) (Res N types τ W lo (1 + lo) m (s lo)) _ _
      (gives_exact _ (Update_data t) 0 _ (out_then _ (Has_datum N τ m no_frames t) (Update_data t) (datum_of v) (λ d. and_then (all_data ws) (λ is. Val (d ∷ is)))
      (out_of _ (Has_datum N τ m no_frames t) (datum_of v) (datum_fine W.is_there v) (λ x q. fits_datum N τ W.sizing W.is_there (calls W) m no_frames t d v x q h.0))
      (λ y hy. out_then _ (λ is. Out_fits (There W.is_there) (λ r. Inner (length r.0) t r.1) (last_apart is)) (Update_data t) (all_data ws) (λ is. Val (y ∷ is))
      (out_of _ (λ is. Out_fits (There W.is_there) (λ r. Inner (length r.0) t r.1) (last_apart is)) (all_data ws) (all_fine W.is_there ws) (λ is q. target es (lo + 1 + numbers x) t ws r.0 p r.1 (S.formed (lo + 1)) d h.1 is q))
      (λ is k. (y, is, refl, hy, k)))))
      (λ ds q. subst (λ z. Gives (There W.is_there) (Res N types τ W lo (1 + lo) m (s lo)) (Then (the (made false (row_told ((flat_names (told W)).lang W.tops) (Of_literal env lo)) Make_update mark z)) (λ r. gives r.0 (as_value r.1)))) (sym q.2)
      (gives_then (λ r. Has_datum N τ m no_frames t r.1) (Res N types τ W lo (1 + lo) m (s lo)) _ _
      (gives_exact _ (λ r. Has_datum N τ m no_frames t r.1) 0 _ (made_out t mark q.0 q.1 q.3 q.4))
      (λ r y. gives_exact _ (Res N types τ W lo (1 + lo) m (s lo)) r.0 (Val (as_value r.1)) (record {
        now = m;
        old = λ d o. refl;
        fits = subst (λ w. Fits N τ W.sizing W.is_there (calls W) m no_frames w (as_value r.1)) (same_ok t (s lo) same)
            (datum_fits N τ W.sizing W.is_there (calls W) m no_frames t d (as_value r.1) r.1 (datum_of_as Ref BindId (Unit {0}) r.1) y);
      }))))
