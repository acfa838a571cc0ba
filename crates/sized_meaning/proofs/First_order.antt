-- Primitives that take data alone: once they have it they give data at once.
use Rattle.fut_scalar.specs.declared.report.Report.{Report}
use Rattle.fut_meaning.specs.Operations.{report}
use Rattle.sized_meaning.proofs.Size_reports.{datum_fine}
use Rattle.sized_meaning.specs.There.{There}
use Rattle.std.proofs.Common.{◌≡◌, ℕ, suc, ◌≤◌, List, [], ◌∷◌, length, Bool, true, false, cond, nat_eq, None, refl, sym, ap, ◌∙◌, subst, arith, eq-eqb}
use Rattle.std.proofs.lemmas.Bool.{ne_eqb}
use Rattle.fut_scalar.specs.declared.place.BindId.{BindId}
use Rattle.fut_scalar.specs.declared.place.Place.{Place}
use Rattle.fut_scalar.specs.declared.report.FailKind.{FailKind}
use Rattle.fut_flat.specs.declared.prim.Primitive.{Primitive}
use Rattle.fut_flat.specs.declared.prim.Ref.{Ref}
use Rattle.fut_types.specs.Types.{Sub}
use Rattle.fut_typing.specs.Names.{Names}
use Rattle.fut_value.specs.Data.{Shape, Datum, Scalar_datum, Tuple_datum, Record_datum, Array_datum, datums}
use Rattle.fut_meaning.specs.Arrays.{checked, fresh, shared, all_fresh, all_shared, array_of, Counted}
use Rattle.fut_meaning.specs.Datums.{as_value, datum_of, datums_of, named_datums_of}
use Rattle.fut_meaning.specs.Flats.{FlatValue, flat_names}
use Rattle.fut_meaning.specs.Jobs.{Job, Done, done, job}
use Rattle.fut_meaning.specs.Meaning.{plain, no_function, job_of, row_told, Of_function}
use Rattle.fut_meaning.specs.Outcomes.{Out, Val, Wrong, Rel, the, gives, Then, and_then}
use Rattle.fut_meaning.specs.Telling.{by_function, worth_of, value_shape, is_function, tells, function_tells, data_told, primitive_tells}
use Rattle.fut_meaning.specs.Values.{Scalar_value, Tuple_value, Record_value, Array_value, Closure, Primitive_value, no_value, value_and}
use Rattle.fut_meaning.proofs.Data.{datum_of_as}
use Rattle.fut_meaning.proofs.Safe.{Every}
use Rattle.sized_types.specs.Sizes.{Dim, Size, Level, Fun}
use Rattle.fut_sizes.specs.Suiting.{Data}
use Rattle.fut_sizes.specs.Rules.{Any_free}
use Rattle.sized_meaning.specs.Worth.{Worth, Frames, push, number}
use Rattle.sized_meaning.specs.Shapes.{Meant, Has_shape, Has_datum}
use Rattle.sized_meaning.specs.Finding.{One_kind_each}
use Rattle.sized_meaning.specs.Fits.{Out_fits, Gives, word, Known_result, Told_right, Fits}
use Rattle.sized_meaning.specs.Law.{Sound, World, told, means, calls}
use Rattle.sized_meaning.proofs.Outcomes.{gives_exact, gives_then, out_of}
use Rattle.sized_meaning.proofs.Scalars.{out_then}
use Rattle.sized_meaning.proofs.Datas.{value_same, the_value, datum_fits, fits_datum}
use Rattle.sized_meaning.proofs.Entered.{value_shaped}
use Rattle.sized_meaning.proofs.Reducing.{not_function}
use Rattle.sized_meaning.proofs.Known.{told_here, Tells_one, one_tells}
use Rattle.sized_meaning.proofs.Mapping.{array_of_rows, weighed}

-- a value that is data is worth what that is
pub word_datum : (v : FlatValue) (d : Datum) → datum_of v ≡ Val d → word v ≡ word (as_value d)
unfolding word datum_of
word_datum (Scalar_value s) d e = ap (λ x. word (as_value x)) (the_value (Scalar_datum s) d e)
word_datum (Tuple_value vs) d e = let r = value_same (datums_of vs) (λ ds. Val (Tuple_datum ds)) d e in ap (λ x. word (as_value x)) (the_value (Tuple_datum r.0) d r.2)
word_datum (Record_value fs) d e = let r = value_same (named_datums_of fs) (λ ds. Val (Record_datum ds)) d e in ap (λ x. word (as_value x)) (the_value (Record_datum r.0) d r.2)
word_datum (Array_value row ds) d e = ap (λ x. word (as_value x)) (the_value (Array_datum row ds) d e)
word_datum (Closure ps b lo env) d e = absurd (let z : ◌≡◌ {A = Out Datum} Wrong (Val d) = e in cc)
word_datum (Primitive_value p at vs) d e = absurd (let z : ◌≡◌ {A = Out Datum} Wrong (Val d) = e in cc)

-- a frame with a size that is met behind k and the argument's value
pub met_at : ℕ → (ℕ → ℕ) → ℕ → ℕ → ℕ
met_at k F n i = cond (nat_eq i (suc k)) n (F i)

pub met_before : (k : ℕ) (F : ℕ → ℕ) (n i : ℕ) → i ≤ k → met_at k F n i ≡ F i
unfolding met_at
met_before k F n i l = ap (λ b. cond b n (F i)) (ne_eqb i (suc k) (λ e. omega (arith, l, e)))

pub met_here : (k : ℕ) (F : ℕ → ℕ) (n : ℕ) → met_at k F n (suc k) ≡ n
unfolding met_at
met_here k F n = ap (λ b. cond b n (F (suc k))) (eq-eqb (suc k) (suc k) refl)

abbrev pub Done_with : (Datum → Type 0) → Job → Type 0
Done_with P (Done r) = P r.1
Done_with P j = ⊥

pub done_out : (quiet : Report → Type 0) (P : Datum → Type 0) (o : Out Counted) → Out_fits quiet (λ r. P r.1) o → Out_fits quiet (Done_with P) (done o)
done_out quiet P o h = out_then _ (λ r. P r.1) (Done_with P) o (λ r. Val (Done r)) h (λ r x. x)

pub checked_out : (quiet : Report → Type 0) {A : Type 0} (P : A → Type 0) (c : Bool) (k : FailKind) (at : Place) → quiet (report k at) → (o : Out A) → Out_fits quiet P o → Out_fits quiet P (checked c k at o)
checked_out quiet P true k at q o h = h
checked_out quiet P false k at q o h = q

pub fresh_out : (quiet : Report → Type 0) (P : Datum → Type 0) (o : Out Datum) → Out_fits quiet P o → Out_fits quiet (λ r. P r.1) (all_fresh o)
fresh_out quiet P o h = out_then _ P (λ r. P r.1) o fresh h (λ d x. x)

pub shared_out : (quiet : Report → Type 0) (P : Datum → Type 0) (o : Out Datum) → Out_fits quiet P o → Out_fits quiet (λ r. P r.1) (all_shared o)
shared_out quiet P o h = out_then _ P (λ r. P r.1) o shared h (λ d x. x)

abbrev pub Data_one : FlatValue → Out (List Datum)
Data_one v = and_then (datum_of v) (λ d. and_then (Val []) (λ ds. Val (d ∷ ds)))

abbrev pub Data_two : FlatValue → FlatValue → Out (List Datum)
Data_two v w = and_then (datum_of v) (λ d. and_then (Data_one w) (λ ds. Val (d ∷ ds)))

abbrev pub Data_three : FlatValue → FlatValue → FlatValue → Out (List Datum)
Data_three u v w = and_then (datum_of u) (λ d. and_then (Data_two v w) (λ ds. Val (d ∷ ds)))

module _ (N : Names) (types : Sub) (τ : Meant) (W : World) (S : Sound N types W.sizing) (one : One_kind_each τ) (m : Worth) where
  -- an array of these rows
  pub rows_made : (φ : Frames) (x : Dim) (b : Size) (at : Place) (row : Shape) (ds : List Datum) → length ds ≡ number m φ x → Has_shape N τ m φ b row → Every (Has_datum N τ m φ b) ds → Out_fits (There W.is_there) (Has_datum N τ m φ (Level x b)) (array_of at row ds)
  rows_made φ x b at row ds l h e = weighed N types τ W S one m φ x b at (Array_datum row (datums ds)) (array_of_rows N types τ W S one m φ x b row ds l h e)

  -- what a primitive without a function gives at once
  pub done_gives : (P : Datum → Type 0) (Q : FlatValue → Type 0) (k : ℕ) (f : FlatValue) (o : Out Job) → Out_fits (There W.is_there) (Done_with P) o → ((x : Datum) → P x → Q (as_value x)) → Gives (There W.is_there) Q (Then (the o) (job_of ((flat_names (told W)).lang W.tops) (plain W.tight) W.budget (means W) k f))
  unfolding plain
  done_gives P Q k f o h go = gives_then (Done_with P) Q (the o) _ (gives_exact _ (Done_with P) 0 o h) result
    where
      result : (j : Job) → Done_with P j → Gives (There W.is_there) Q (job_of ((flat_names (told W)).lang W.tops) (plain W.tight) W.budget (means W) k f j)
      result (Done r) x = gives_then P Q _ _ (gives_exact _ P r.0 (Val r.1) x) (λ d y. gives_exact _ Q 0 (Val (as_value d)) (go d y))
      result j x = absurd x

  -- a result for some sizes that are met
  abbrev pub Met : ℕ → (ℕ → ℕ) → Frames → Size → Datum → Type 0
  Met k F φ r x = (F' : ℕ → ℕ) × ((i : ℕ) → i ≤ k → F' i ≡ F i) × Has_datum N τ m (push F' φ) r x

  pub no_more : (k : ℕ) (F : ℕ → ℕ) (φ : Frames) (r : Size) (x : Datum) → Has_datum N τ m (push F φ) r x → Met k F φ r x
  no_more k F φ r x h = (F, (λ i l. refl), h)

  abbrev pub Given : ℕ → (ℕ → ℕ) → Frames → Size → FlatValue → Type 0
  Given k F φ r w = (F' : ℕ → ℕ) × ((i : ℕ) → i ≤ k → F' i ≡ F i) × Fits N τ W.sizing W.is_there (calls W) m (push F' φ) r w

  abbrev pub Runs : Primitive → Place → Out (List Datum) → Rel FlatValue
  Runs p at o = Then (the o) (λ ds. Then (the (job false (row_told ((flat_names (told W)).lang W.tops) (Of_function p no_function ds)) p at ds)) (job_of ((flat_names (told W)).lang W.tops) (plain W.tight) W.budget (means W) 0 no_function))

  -- an argument
  abbrev pub Argument_is : ℕ → (ℕ → ℕ) → Frames → Size → Datum → Type 0
  Argument_is k F φ a d = (F k ≡ word (as_value d)) × Has_datum N τ m (push F φ) a d

  argument_out : (k : ℕ) (F : ℕ → ℕ) (φ : Frames) (a : Size) (v : FlatValue) → Data a → F k ≡ word v → Fits N τ W.sizing W.is_there (calls W) m (push F φ) a v → Out_fits (There W.is_there) (Argument_is k F φ a) (datum_of v)
  argument_out k F φ a v data_a e h = out_of _ (Argument_is k F φ a) (datum_of v) (datum_fine W.is_there v) (λ d q. (e ∙ word_datum v d q, fits_datum N τ W.sizing W.is_there (calls W) m (push F φ) a data_a v d q h))

  -- ---- of one argument
  module _ (p : Primitive) (at : Place) (φ : Frames) (k : ℕ) (a r : Size) (data_a : Data a) (data_r : Data r) (runs : (Q : FlatValue → Type 0) (v : FlatValue) → Gives (There W.is_there) Q (Runs p at (Data_one v)) → Gives (There W.is_there) Q (calls W (Primitive_value p at no_value) v))
      (jobs : (F : ℕ → ℕ) (row : Shape) (d : Datum) → Argument_is k F φ a d → Out_fits (There W.is_there) (Done_with (Met k F φ r)) (job false row p at (d ∷ []))) where
    pub one_gives : (F : ℕ → ℕ) (v : FlatValue) → F k ≡ word v → Fits N τ W.sizing W.is_there (calls W) m (push F φ) a v → Gives (There W.is_there) (Given k F φ r) (calls W (Primitive_value p at no_value) v)
    one_gives F v e h = runs (Given k F φ r) v
        (gives_then (λ ds. (d : Datum) × (ds ≡ d ∷ []) × Argument_is k F φ a d) (Given k F φ r) _ _
        (gives_exact _ _ 0 (Data_one v) (out_then _ (Argument_is k F φ a) (λ ds. (d : Datum) × (ds ≡ d ∷ []) × Argument_is k F φ a d) (datum_of v) _ (argument_out k F φ a v data_a e h) (λ d x. (d, refl, x))))
        (λ ds q. subst (λ z. Gives (There W.is_there) (Given k F φ r) (Then (the (job false (row_told ((flat_names (told W)).lang W.tops) (Of_function p no_function z)) p at z)) (job_of ((flat_names (told W)).lang W.tops) (plain W.tight) W.budget (means W) 0 no_function))) (sym q.1)
        (done_gives (Met k F φ r) (Given k F φ r) 0 no_function _ (jobs F _ q.0 q.2) (λ x y. (y.0, y.1, datum_fits N τ W.sizing W.is_there (calls W) m (push y.0 φ) r data_r (as_value x) x (datum_of_as Ref BindId (Unit {0}) x) y.2)))))

    pub one_fits : Tells_one N τ W.sizing m φ k a r (Primitive_value p at no_value) data_r → Fits N τ W.sizing W.is_there (calls W) m φ (Fun k a r) (Primitive_value p at no_value)
    unfolding Fits
    one_fits t = (one_tells N τ W.sizing m φ k a r (Primitive_value p at no_value) data_r t, λ F v e h. one_gives F v e h)

  -- ---- of two arguments
  module _ (p : Primitive) (at : Place) (φ : Frames) (k l : ℕ) (a b r : Size) (data_a : Data a) (data_b : Data b) (data_r : Data r)
      (starts : (Q : FlatValue → Type 0) (v : FlatValue) → Gives (There W.is_there) Q (gives 0 (Primitive_value p at (value_and v no_value))) → Gives (There W.is_there) Q (calls W (Primitive_value p at no_value) v))
      (runs : (Q : FlatValue → Type 0) (v w : FlatValue) → Gives (There W.is_there) Q (Runs p at (Data_two v w)) → Gives (There W.is_there) Q (calls W (Primitive_value p at (value_and v no_value)) w))
      (jobs : (F G : ℕ → ℕ) (row : Shape) (d e : Datum) → Argument_is k F φ a d → Argument_is l G (push F φ) b e → Out_fits (There W.is_there) (Done_with (Met l G (push F φ) r)) (job false row p at (d ∷ e ∷ []))) where
    two_gives : (F : ℕ → ℕ) (v : FlatValue) → F k ≡ word v → Fits N τ W.sizing W.is_there (calls W) m (push F φ) a v → (G : ℕ → ℕ) (w : FlatValue) → G l ≡ word w → Fits N τ W.sizing W.is_there (calls W) m (push G (push F φ)) b w → Gives (There W.is_there) (Given l G (push F φ) r) (calls W (Primitive_value p at (value_and v no_value)) w)
    two_gives F v e h G w e' h' = runs (Given l G (push F φ) r) v w
        (gives_then (λ ds. (d : Datum) × (x : Datum) × (ds ≡ d ∷ x ∷ []) × Argument_is k F φ a d × Argument_is l G (push F φ) b x) (Given l G (push F φ) r) _ _
        (gives_exact _ _ 0 (Data_two v w) (out_then _ (Argument_is k F φ a) (λ ds. (d : Datum) × (x : Datum) × (ds ≡ d ∷ x ∷ []) × Argument_is k F φ a d × Argument_is l G (push F φ) b x) (datum_of v) _ (argument_out k F φ a v data_a e h)
        (λ d x. out_then _ (λ ds. (y : Datum) × (ds ≡ y ∷ []) × Argument_is l G (push F φ) b y) (λ ds. (d : Datum) × (x : Datum) × (ds ≡ d ∷ x ∷ []) × Argument_is k F φ a d × Argument_is l G (push F φ) b x) (Data_one w) (λ ds. Val (d ∷ ds))
        (out_then _ (Argument_is l G (push F φ) b) (λ ds. (y : Datum) × (ds ≡ y ∷ []) × Argument_is l G (push F φ) b y) (datum_of w) _ (argument_out l G (push F φ) b w data_b e' h') (λ y z. (y, refl, z)))
        (λ ds q. (d, q.0, ap (λ z. d ∷ z) q.1, x, q.2)))))
        (λ ds q. subst (λ z. Gives (There W.is_there) (Given l G (push F φ) r) (Then (the (job false (row_told ((flat_names (told W)).lang W.tops) (Of_function p no_function z)) p at z)) (job_of ((flat_names (told W)).lang W.tops) (plain W.tight) W.budget (means W) 0 no_function))) (sym q.2)
        (done_gives (Met l G (push F φ) r) (Given l G (push F φ) r) 0 no_function _ (jobs F G _ q.0 q.1 q.3 q.4) (λ x y. (y.0, y.1, datum_fits N τ W.sizing W.is_there (calls W) m (push y.0 (push F φ)) r data_r (as_value x) x (datum_of_as Ref BindId (Unit {0}) x) y.2)))))

    -- what is told without arguments, and with the first
    pub two_fits : (Known_result Any_free (l ∷ k ∷ []) r → (F : ℕ → ℕ) (h : Shape) → Has_shape N τ m (push F φ) a h → (G : ℕ → ℕ) (g : Shape) → Has_shape N τ m (push G (push F φ)) b g
        → Has_shape N τ m (push G (push F φ)) r (by_function (function_tells W.sizing {P = Ref} {B = BindId} {S = Unit {0}} no_value) (primitive_tells p ((h, None) ∷ (g, None) ∷ []))))
        → ((F : ℕ → ℕ) (v : FlatValue) → F k ≡ word v → Fits N τ W.sizing W.is_there (calls W) m (push F φ) a v → Tells_one N τ W.sizing m (push F φ) l b r (Primitive_value p at (value_and v no_value)) data_r) → Fits N τ W.sizing W.is_there (calls W) m φ (Fun k a (Fun l b r)) (Primitive_value p at no_value)
    unfolding Fits Known_result Told_right tells data_told
    two_fits none t = (
      (refl, λ known F h hh G g hg. told_here N τ m (push G (push F φ)) r data_r (λ hs. tells W.sizing {P = Ref} {B = BindId} {S = Unit {0}} (Primitive_value p at no_value) (h ∷ g ∷ hs)) (none known.1 F h hh G g hg)),
      λ F v e h. starts _ v (gives_exact _ (λ w. (F' : ℕ → ℕ) × ((i : ℕ) → i ≤ k → F' i ≡ F i) × Fits N τ W.sizing W.is_there (calls W) m (push F' φ) (Fun l b r) w) 0 (Val (Primitive_value p at (value_and v no_value)))
          (F, (λ i l. refl), (one_tells N τ W.sizing m (push F φ) l b r (Primitive_value p at (value_and v no_value)) data_r (t F v e h), λ G w e' h'. two_gives F v e h G w e' h'))),
    )

  -- what one tells that has its first argument, from the shapes of both
  pub second_tells : (p : Primitive) (at : Place) (φ : Frames) (l : ℕ) (a b r : Size) (v : FlatValue) → Data a → Fits N τ W.sizing W.is_there (calls W) m φ a v
      → ((G : ℕ → ℕ) (h g : Shape) → Has_shape N τ m φ a h → Has_shape N τ m (push G φ) b g → Has_shape N τ m (push G φ) r (by_function (function_tells W.sizing (value_and v no_value)) (primitive_tells p ((h, worth_of v) ∷ (g, None) ∷ []))))
      → (data_r : Data r) → Tells_one N τ W.sizing m φ l b r (Primitive_value p at (value_and v no_value)) data_r
  unfolding tells data_told
  second_tells p at φ l a b r v data_a hv law data_r = (
    refl,
    λ dr low G g hg. subst (λ c. Has_shape N τ m (push G φ) r (by_function (function_tells W.sizing (value_and v no_value)) (primitive_tells p (cond c ((g, None) ∷ []) ((value_shape v, worth_of v) ∷ (g, None) ∷ []))))) (sym (not_function N types τ W S one m φ a v data_a hv))
        (law G (value_shape v) g (value_shaped N τ W.sizing W.is_there (calls W) m φ a data_a v hv) hg),
  )

  -- ---- of three arguments
  module _ (p : Primitive) (at : Place) (φ : Frames) (k l n : ℕ) (a b c r : Size) (data_a : Data a) (data_b : Data b) (data_c : Data c) (data_r : Data r)
      (starts : (Q : FlatValue → Type 0) (u : FlatValue) → Gives (There W.is_there) Q (gives 0 (Primitive_value p at (value_and u no_value))) → Gives (There W.is_there) Q (calls W (Primitive_value p at no_value) u))
      (waits : (Q : FlatValue → Type 0) (u v : FlatValue) → Gives (There W.is_there) Q (gives 0 (Primitive_value p at (value_and u (value_and v no_value)))) → Gives (There W.is_there) Q (calls W (Primitive_value p at (value_and u no_value)) v))
      (runs : (Q : FlatValue → Type 0) (u v w : FlatValue) → Gives (There W.is_there) Q (Runs p at (Data_three u v w)) → Gives (There W.is_there) Q (calls W (Primitive_value p at (value_and u (value_and v no_value))) w))
      (jobs : (F G H : ℕ → ℕ) (row : Shape) (d e g : Datum) → Argument_is k F φ a d → Argument_is l G (push F φ) b e → Argument_is n H (push G (push F φ)) c g
      → Gives (There W.is_there) (Given n H (push G (push F φ)) r) (Then (the (job false row p at (d ∷ e ∷ g ∷ []))) (job_of ((flat_names (told W)).lang W.tops) (plain W.tight) W.budget (means W) 0 no_function))) where
    abbrev Three : (ℕ → ℕ) → (ℕ → ℕ) → (ℕ → ℕ) → List Datum → Type 0
    Three F G H ds = (d : Datum) × (e : Datum) × (g : Datum) × (ds ≡ d ∷ e ∷ g ∷ []) × Argument_is k F φ a d × Argument_is l G (push F φ) b e × Argument_is n H (push G (push F φ)) c g

    three_data : (F G H : ℕ → ℕ) (u v w : FlatValue) → Out_fits (There W.is_there) (Argument_is k F φ a) (datum_of u) → Out_fits (There W.is_there) (Argument_is l G (push F φ) b) (datum_of v) → Out_fits (There W.is_there) (Argument_is n H (push G (push F φ)) c) (datum_of w) → Out_fits (There W.is_there) (Three F G H) (Data_three u v w)
    three_data F G H u v w x y z = out_then _ (Argument_is k F φ a) (Three F G H) (datum_of u) _ x
        (λ d hd. out_then _ (λ ds. (e : Datum) × (g : Datum) × (ds ≡ e ∷ g ∷ []) × Argument_is l G (push F φ) b e × Argument_is n H (push G (push F φ)) c g) (Three F G H) (Data_two v w) (λ ds. Val (d ∷ ds))
        (out_then _ (Argument_is l G (push F φ) b) (λ ds. (e : Datum) × (g : Datum) × (ds ≡ e ∷ g ∷ []) × Argument_is l G (push F φ) b e × Argument_is n H (push G (push F φ)) c g) (datum_of v) _ y
        (λ e he. out_then _ (λ ds. (g : Datum) × (ds ≡ g ∷ []) × Argument_is n H (push G (push F φ)) c g) (λ ds. (e : Datum) × (g : Datum) × (ds ≡ e ∷ g ∷ []) × Argument_is l G (push F φ) b e × Argument_is n H (push G (push F φ)) c g) (Data_one w) (λ ds. Val (e ∷ ds))
        (out_then _ (Argument_is n H (push G (push F φ)) c) (λ ds. (g : Datum) × (ds ≡ g ∷ []) × Argument_is n H (push G (push F φ)) c g) (datum_of w) _ z (λ g hg. (g, refl, hg)))
        (λ ds q. (e, q.0, ap (λ xs. e ∷ xs) q.1, he, q.2))))
        (λ ds q. (d, q.0, q.1, ap (λ xs. d ∷ xs) q.2, hd, q.3, q.4)))

    three_gives : (F : ℕ → ℕ) (u : FlatValue) → F k ≡ word u → Fits N τ W.sizing W.is_there (calls W) m (push F φ) a u → (G : ℕ → ℕ) (v : FlatValue) → G l ≡ word v → Fits N τ W.sizing W.is_there (calls W) m (push G (push F φ)) b v
        → (H : ℕ → ℕ) (w : FlatValue) → H n ≡ word w → Fits N τ W.sizing W.is_there (calls W) m (push H (push G (push F φ))) c w → Gives (There W.is_there) (Given n H (push G (push F φ)) r) (calls W (Primitive_value p at (value_and u (value_and v no_value))) w)
    three_gives F u eu hu G v ev hv H w ew hw = runs (Given n H (push G (push F φ)) r) u v w
        (gives_then (Three F G H) (Given n H (push G (push F φ)) r) _ _
        (gives_exact _ (Three F G H) 0 (Data_three u v w) (three_data F G H u v w (argument_out k F φ a u data_a eu hu) (argument_out l G (push F φ) b v data_b ev hv) (argument_out n H (push G (push F φ)) c w data_c ew hw)))
        (λ ds q. subst (λ z. Gives (There W.is_there) (Given n H (push G (push F φ)) r) (Then (the (job false (row_told ((flat_names (told W)).lang W.tops) (Of_function p no_function z)) p at z)) (job_of ((flat_names (told W)).lang W.tops) (plain W.tight) W.budget (means W) 0 no_function))) (sym q.3)
        (jobs F G H _ q.0 q.1 q.2 q.4 q.5 q.6)))

    -- what is told without arguments, with the first, and with two
    pub three_fits : (Known_result Any_free (n ∷ l ∷ k ∷ []) r → (F : ℕ → ℕ) (h : Shape) → Has_shape N τ m (push F φ) a h → (G : ℕ → ℕ) (g : Shape) → Has_shape N τ m (push G (push F φ)) b g → (H : ℕ → ℕ) (x : Shape) → Has_shape N τ m (push H (push G (push F φ))) c x
        → Has_shape N τ m (push H (push G (push F φ))) r (by_function (function_tells W.sizing {P = Ref} {B = BindId} {S = Unit {0}} no_value) (primitive_tells p ((h, None) ∷ (g, None) ∷ (x, None) ∷ []))))
        → ((F : ℕ → ℕ) (u : FlatValue) → F k ≡ word u → Fits N τ W.sizing W.is_there (calls W) m (push F φ) a u → Known_result Any_free (n ∷ l ∷ []) r → (G : ℕ → ℕ) (g : Shape) → Has_shape N τ m (push G (push F φ)) b g → (H : ℕ → ℕ) (x : Shape) → Has_shape N τ m (push H (push G (push F φ))) c x
        → Has_shape N τ m (push H (push G (push F φ))) r (by_function (function_tells W.sizing (value_and u no_value)) (primitive_tells p ((value_shape u, worth_of u) ∷ (g, None) ∷ (x, None) ∷ []))))
        → ((F : ℕ → ℕ) (u : FlatValue) → F k ≡ word u → Fits N τ W.sizing W.is_there (calls W) m (push F φ) a u → (G : ℕ → ℕ) (v : FlatValue) → G l ≡ word v → Fits N τ W.sizing W.is_there (calls W) m (push G (push F φ)) b v → Tells_one N τ W.sizing m (push G (push F φ)) n c r (Primitive_value p at (value_and u (value_and v no_value))) data_r)
        → Fits N τ W.sizing W.is_there (calls W) m φ (Fun k a (Fun l b (Fun n c r))) (Primitive_value p at no_value)
    unfolding Fits Known_result Told_right tells data_told
    three_fits none first t = (
      (refl, λ known F h hh G g hg H x hx. told_here N τ m (push H (push G (push F φ))) r data_r (λ hs. tells W.sizing {P = Ref} {B = BindId} {S = Unit {0}} (Primitive_value p at no_value) (h ∷ g ∷ x ∷ hs)) (none known.1.1 F h hh G g hg H x hx)),
      λ F u eu hu. starts (λ x. (F' : ℕ → ℕ) × ((i : ℕ) → i ≤ k → F' i ≡ F i) × Fits N τ W.sizing W.is_there (calls W) m (push F' φ) (Fun l b (Fun n c r)) x) u
          (gives_exact _ (λ x. (F' : ℕ → ℕ) × ((i : ℕ) → i ≤ k → F' i ≡ F i) × Fits N τ W.sizing W.is_there (calls W) m (push F' φ) (Fun l b (Fun n c r)) x) 0 (Val (Primitive_value p at (value_and u no_value))) (
            F,
            (λ i l. refl),
            (
              (
                refl,
                λ known G g hg H x hx. told_here N τ m (push H (push G (push F φ))) r data_r (λ hs. tells W.sizing (Primitive_value p at (value_and u no_value)) (g ∷ x ∷ hs))
                    (subst (λ y. Has_shape N τ m (push H (push G (push F φ))) r (by_function (function_tells W.sizing (value_and u no_value)) (primitive_tells p (cond y ((g, None) ∷ (x, None) ∷ []) ((value_shape u, worth_of u) ∷ (g, None) ∷ (x, None) ∷ []))))) (sym (not_function N types τ W S one m (push F φ) a u data_a hu)) (first F u eu hu known.1 G g hg H x hx)),
              ),
              λ G v ev hv. waits (λ x. (G' : ℕ → ℕ) × ((i : ℕ) → i ≤ l → G' i ≡ G i) × Fits N τ W.sizing W.is_there (calls W) m (push G' (push F φ)) (Fun n c r) x) u v
                  (gives_exact _ (λ x. (G' : ℕ → ℕ) × ((i : ℕ) → i ≤ l → G' i ≡ G i) × Fits N τ W.sizing W.is_there (calls W) m (push G' (push F φ)) (Fun n c r) x) 0 (Val (Primitive_value p at (value_and u (value_and v no_value))))
                  (G, (λ i l. refl), (one_tells N τ W.sizing m (push G (push F φ)) n c r (Primitive_value p at (value_and u (value_and v no_value))) data_r (t F u eu hu G v ev hv), λ H w ew hw. three_gives F u eu hu G v ev hv H w ew hw))),
            ),
          )),
    )

  -- what one tells that has its first two arguments, from the shapes of all
  pub third_tells : (p : Primitive) (at : Place) (φ ψ χ : Frames) (l : ℕ) (a b c r : Size) (u v : FlatValue) → Data a → Data b → Fits N τ W.sizing W.is_there (calls W) m ψ a u → Fits N τ W.sizing W.is_there (calls W) m χ b v
      → ((G : ℕ → ℕ) (h g k : Shape) → Has_shape N τ m ψ a h → Has_shape N τ m χ b g → Has_shape N τ m (push G φ) c k → Has_shape N τ m (push G φ) r (by_function (function_tells W.sizing (value_and u (value_and v no_value))) (primitive_tells p ((h, worth_of u) ∷ (g, worth_of v) ∷ (k, None) ∷ []))))
      → (data_r : Data r) → Tells_one N τ W.sizing m φ l c r (Primitive_value p at (value_and u (value_and v no_value))) data_r
  unfolding tells data_told
  third_tells p at φ ψ χ l a b c r u v data_a data_b hu hv law data_r = (
    refl,
    λ dr low G k hk.
        subst (λ x. Has_shape N τ m (push G φ) r (by_function (function_tells W.sizing (value_and u (value_and v no_value))) (primitive_tells p (cond x (cond (is_function v) ((k, None) ∷ []) ((value_shape v, worth_of v) ∷ (k, None) ∷ [])) ((value_shape u, worth_of u) ∷ cond (is_function v) ((k, None) ∷ []) ((value_shape v, worth_of v) ∷ (k, None) ∷ [])))))) (sym (not_function N types τ W S one m ψ a u data_a hu))
        (subst (λ x. Has_shape N τ m (push G φ) r (by_function (function_tells W.sizing (value_and u (value_and v no_value))) (primitive_tells p ((value_shape u, worth_of u) ∷ cond x ((k, None) ∷ []) ((value_shape v, worth_of v) ∷ (k, None) ∷ []))))) (sym (not_function N types τ W S one m χ b v data_b hv))
        (law G (value_shape u) (value_shape v) k (value_shaped N τ W.sizing W.is_there (calls W) m ψ a data_a u hu) (value_shaped N τ W.sizing W.is_there (calls W) m χ b data_b v hv) hk)),
  )
