-- Reductions and scans are of their sized types: by an operator that takes two values of a type to one of it, each tree over such elements
-- gives one.
use Rattle.fut_scalar.specs.declared.report.Report.{Report}
use Rattle.sized_meaning.proofs.Size_reports.{datum_fine}
use Rattle.sized_meaning.specs.There.{There}
use Rattle.std.proofs.Common.{◌≡◌, ℕ, ◌≤◌, List, [], ◌∷◌, None, Bool, true, false, cond, refl, sym, subst, length, ◌++◌, ap, ◌∙◌, suc}
use Rattle.fut_scalar.specs.declared.place.BindId.{BindId}
use Rattle.fut_scalar.specs.declared.place.Place.{Place}
use Rattle.fut_flat.specs.declared.prim.Primitive.{Primitive}
use Rattle.fut_flat.specs.declared.prim.Primitive.TheVariants as prim
use Rattle.fut_flat.specs.declared.prim.Ref.{Ref}
use Rattle.fut_types.specs.declared.Head.TheVariants as head
use Rattle.fut_types.specs.Types.{Sub}
use Rattle.fut_typing.specs.Names.{Names}
use Rattle.fut_value.specs.Data.{Datum, Array_datum, listed, Shape}
use Rattle.fut_meaning.specs.Arrays.{fresh, all_fresh, array}
use Rattle.fut_meaning.specs.Datums.{as_value, datum_of}
use Rattle.fut_meaning.specs.Flats.{FlatValue, flat_names}
use Rattle.fut_meaning.specs.Jobs.{Reduce_each, Reduces, reduces, In_order, Reordered, order_kept, order_on, order_swapped, order_then, all_of, two_of, part_at, finished, job, prefixes_on, reduced}
use Rattle.fut_meaning.specs.Meaning.{plain, called, called_on, job_of, row_told, Of_function}
use Rattle.fut_meaning.specs.Outcomes.{Val, Wrong, and_then, Rel, the, Then, Tree, element, neutral, node, elements, tree_gives, bracket, gives}
use Rattle.fut_meaning.specs.Telling.{by_function, worth_of, value_shape, is_function, data_told, tells, function_tells, primitive_tells, Argument, first_shape}
use Rattle.fut_meaning.specs.Values.{Scalar_value, Tuple_value, Record_value, Array_value, Primitive_value, no_value, value_and, Call}
use Rattle.fut_meaning.proofs.Data.{datum_of_as}
use Rattle.fut_meaning.proofs.Safe.{Every, every_left, every_right}
use Rattle.sized_types.specs.Sizes.{Bound, Size, Hole, Open, Level, Built, Fun}
use Rattle.fut_sizes.specs.Suiting.{Each, Scoped, Data}
use Rattle.fut_sizes.specs.Rules.{Any_free}
use Rattle.sized_meaning.specs.Worth.{Worth, Frames, no_frames, push, number}
use Rattle.sized_meaning.specs.Shapes.{Meant, Has_shape, Has_datum}
use Rattle.sized_meaning.specs.Finding.{One_kind_each}
use Rattle.sized_meaning.specs.Fits.{Out_fits, Gives, word, Told_right, Fits}
use Rattle.sized_meaning.specs.Law.{Sound, World, told, means, calls}
use Rattle.sized_meaning.proofs.Ways.{gives_as}
use Rattle.sized_meaning.proofs.Outcomes.{gives_exact, gives_then, gives_both, out_of}
use Rattle.sized_meaning.proofs.Scalars.{out_then}
use Rattle.sized_meaning.proofs.Datas.{datum_fits, fits_datum}
use Rattle.sized_meaning.proofs.Entered.{value_shaped}
use Rattle.sized_meaning.proofs.Applications.{evaluates}
use Rattle.sized_meaning.proofs.Known.{told_here, Tells_one, one_tells}
use Rattle.sized_meaning.proofs.Mapping.{level_data, every_listed, shape_anywhere, datum_anywhere, applied_to, array_gives, array_value}

-- ---- choices keep a property

pub gives_all_of : {quiet : Report → Type 0} {A B : Type 0} (P : A → Type 0) (Q : B → Type 0) (g : A → Rel B) → ((a : A) → P a → Gives quiet Q (g a)) → (xs : List A) → Every P xs → Gives quiet (λ ys. Every Q ys × (length ys ≡ length xs)) (all_of g xs)
gives_all_of P Q g h [] e = gives_exact _ (λ ys. Every Q ys × (length ys ≡ 0)) 0 (Val []) (tt, refl)
gives_all_of P Q g h (x ∷ xs) e = gives_both Q (λ ys. Every Q ys × (length ys ≡ length xs)) (λ ys. Every Q ys × (length ys ≡ length (x ∷ xs))) (g x) (all_of g xs) _ (h x e.0) (gives_all_of P Q g h xs e.1)
    (λ y ys q qs. gives_exact _ (λ ys. Every Q ys × (length ys ≡ length (x ∷ xs))) 0 (Val (y ∷ ys)) ((q, qs.0), ap suc qs.1))

gives_tree : {quiet : Report → Type 0} {A : Type 0} (P : A → Type 0) (op : A → A → Rel A) (ne : A) → P ne → ((a b : A) → P a → P b → Gives quiet P (op a b)) → (t : Tree A) → Every P (elements t) → Gives quiet P (tree_gives op ne t)
gives_tree P op ne n h (element a) e = gives_exact _ P 0 (Val a) e.0
gives_tree P op ne n h neutral e = gives_exact _ P 0 (Val ne) n
gives_tree P op ne n h (node s t) e = gives_both P P P (tree_gives op ne s) (tree_gives op ne t) op (gives_tree P op ne n h s (every_left P (elements s) (elements t) e)) (gives_tree P op ne n h t (every_right P (elements s) (elements t) e)) h

every_reordered : {A : Type 0} (P : A → Type 0) {xs ys : List A} → Reordered xs ys → Every P xs → Every P ys
every_reordered P order_kept e = e
every_reordered P (order_on q) e = (e.0, every_reordered P q e.1)
every_reordered P order_swapped e = (e.1.0, (e.0, e.1.1))
every_reordered P (order_then q r) e = every_reordered P r (every_reordered P q e)

every_in_order : {A : Type 0} (P : A → Type 0) (any : Bool) (xs ys : List A) → In_order any xs ys → Every P xs → Every P ys
every_in_order P true xs ys q e = every_reordered P q e
every_in_order P false xs ys q e = subst (Every P) q e

pub gives_reduced : {quiet : Report → Type 0} (P : Datum → Type 0) (tight any : Bool) (F : Datum → List Datum → Type 0) (f : List Datum → Rel Datum) (ne : Datum) → P ne → ((a b : Datum) → P a → P b → Gives quiet P (two_of f a b)) → (xs : List Datum) → Every P xs → Gives quiet P (Reduces tight any F f ne xs)
gives_reduced P tight any F f ne given h xs e _ _ (reduces {ys} {o} {n = count} fits order (bracket t q w x)) = gives_tree P (two_of f) ne given h t (subst (Every P) (sym q) (every_in_order P any xs ys order e)) o count x

pub every_both : {A : Type 0} (P : A → Type 0) (xs ys : List A) → Every P xs → Every P ys → Every P (xs ++ ys)
every_both P [] ys e f = f
every_both P (x ∷ xs) ys e f = (e.0, every_both P xs ys e.1 f)

pub every_prefix : (P : Datum → Type 0) (front ds : List Datum) → Every P front → Every P ds → Every (Every P) (prefixes_on front ds)
every_prefix P front [] e f = tt
every_prefix P front (d ∷ ds) e f = let z = every_both P front (d ∷ []) e (f.0, tt) in (z, every_prefix P (front ++ d ∷ []) ds z f.1)

many_prefixes : (front ds : List Datum) → length (prefixes_on front ds) ≡ length ds
many_prefixes front [] = refl
many_prefixes front (d ∷ ds) = ap suc (many_prefixes (front ++ d ∷ []) ds)

module _ (N : Names) (types : Sub) (τ : Meant) (W : World) (S : Sound N types W.sizing) (one : One_kind_each τ) (m : Worth) where
  -- data is no function
  pub not_function : (φ : Frames) (t : Size) (v : FlatValue) → Data t → Fits N τ W.sizing W.is_there (calls W) m φ t v → is_function v ≡ false
  unfolding Fits Data datum_of
  not_function φ t (Scalar_value c) d h = refl
  not_function φ t (Tuple_value vs) d h = refl
  not_function φ t (Record_value fs) d h = refl
  not_function φ t (Array_value row ds) d h = refl
  not_function φ (Hole a) v d h = absurd (let z = h.is_datum in cc)
  not_function φ (Level x t) v d h = absurd (let z = h.is_datum in cc)
  not_function φ (Open n a u) v d h = absurd d
  not_function φ (Fun k p r) v d h = absurd d
  not_function φ (Built (head.Scalar c) ts) v d h = absurd h
  not_function φ (Built head.Tuple ts) v d h = absurd h
  not_function φ (Built (head.Record n) ts) v d h = absurd h
  not_function φ (Built (head.Abstract n k) ts) v d h = absurd h
  not_function φ (Built head.Array ts) v d h = absurd h
  not_function φ (Built head.Fun ts) v d h = absurd h
  not_function φ (Built (head.Rigid n k) ts) v d h = absurd h

  module _ (a : Size) (data_a : Data a) (closed_a : Each (Scoped Any_free) 0 a) (at : Place) (φ : Frames) (f : FlatValue) (hf : Fits N τ W.sizing W.is_there (calls W) m φ (Fun 0 a (Fun 0 a a)) f) where
    -- the operator on two elements
    pub combines : (ψ : Frames) (d e : Datum) → Has_datum N τ m ψ a d → Has_datum N τ m ψ a e → Gives (There W.is_there) (Has_datum N τ m ψ a) (called (means W) f (d ∷ e ∷ []))
    unfolding Fits
    combines ψ d e hd he =
        let F : ℕ → ℕ = λ i. word (as_value d) in
        gives_then (λ w. (F' : ℕ → ℕ) × ((i : ℕ) → i ≤ 0 → F' i ≡ word (as_value d)) × Fits N τ W.sizing W.is_there (calls W) m (push F' φ) (Fun 0 a a) w) (Has_datum N τ m ψ a) (means W (Call f (as_value d))) (λ g. called (means W) g (e ∷ []))
        (hf.1 F (as_value d) refl (datum_fits N τ W.sizing W.is_there (calls W) m (push F φ) a data_a (as_value d) d (datum_of_as Ref BindId (Unit {0}) d) (datum_anywhere N types τ W S one m a closed_a ψ (push F φ) d hd)))
        (λ w q. applied_to N types τ W S one m a a data_a data_a closed_a closed_a at (push q.0 φ) w q.2 ψ ψ e he)

    first_given : (ψ : Frames) (ys : List Datum) → Every (Has_datum N τ m ψ a) ys → Gives (There W.is_there) (Has_datum N τ m ψ a) (finished (λ ds. and_then (part_at 0 ds) fresh) ys)
    first_given ψ [] e = gives_then (λ r. Has_datum N τ m ψ a r.1) (Has_datum N τ m ψ a) _ _ (gives_exact _ (λ r. Has_datum N τ m ψ a r.1) 0 Wrong tt) (λ r x. gives_exact _ (Has_datum N τ m ψ a) r.0 (Val r.1) x)
    first_given ψ (y ∷ ys) e = gives_then (λ r. Has_datum N τ m ψ a r.1) (Has_datum N τ m ψ a) _ _ (gives_exact _ (λ r. Has_datum N τ m ψ a r.1) 0 (fresh y) e.0) (λ r x. gives_exact _ (Has_datum N τ m ψ a) r.0 (Val r.1) x)

    abbrev Reduced : Frames → FlatValue → Type 0
    Reduced ψ w = Fits N τ W.sizing W.is_there (calls W) m ψ a w

    -- a reduction in any order or in theirs
    reduce_job : (any : Bool) (ψ : Frames) (ne d : Datum) → Has_datum N τ m ψ a ne → Has_datum N τ m ψ (Level (Bound 0 0) a) d
        → Gives (There W.is_there) (Reduced ψ) (Then (the (reduced false any ne d)) (job_of ((flat_names (told W)).lang W.tops) (plain W.tight) W.budget (means W) 2 f))
    unfolding Has_datum plain
    reduce_job any ψ ne (Array_datum row ds) hn h =
        let rows : List Datum = listed ds in
        gives_then (λ j. j ≡ Reduce_each any ne (rows ∷ []) (λ ds. and_then (part_at 0 ds) fresh)) (Reduced ψ) _ _
        (gives_exact _ _ 0 (Val (Reduce_each any ne (rows ∷ []) (λ ds. and_then (part_at 0 ds) fresh))) refl)
        (λ j q. subst (λ z. Gives (There W.is_there) (Reduced ψ) (job_of ((flat_names (told W)).lang W.tops) (plain W.tight) W.budget (means W) 2 f z)) (sym q)
        (gives_then (Has_datum N τ m ψ a) (Reduced ψ) _ _
        (gives_then (λ ys. Every (Has_datum N τ m ψ a) ys × (length ys ≡ length (rows ∷ []))) (Has_datum N τ m ψ a) _ _
        (gives_all_of (Every (Has_datum N τ m ψ a)) (Has_datum N τ m ψ a) (Reduces W.tight any ((plain W.tight).operator_fits ((flat_names (told W)).lang W.tops) W.budget 2 f any) (called_on 2 (means W) f) ne) (λ xs e. gives_reduced (Has_datum N τ m ψ a) W.tight any ((plain W.tight).operator_fits ((flat_names (told W)).lang W.tops) W.budget 2 f any) (called_on 2 (means W) f) ne hn (λ x y p q. combines ψ x y p q) xs e) (rows ∷ []) (every_listed (Has_datum N τ m ψ a) ds h.2, tt))
        (λ ys e. first_given ψ ys e.0))
        (λ x k. gives_exact _ (Reduced ψ) 0 (Val (as_value x)) (datum_fits N τ W.sizing W.is_there (calls W) m ψ a data_a (as_value x) x (datum_of_as Ref BindId (Unit {0}) x) k))))
    reduce_job any ψ ne d hn h = absurd h

    -- a primitive that reduces an array
    module _ (p : Primitive) (any : Bool) (same_job : (row : Shape) (ne d : Datum) → job false row p at (ne ∷ d ∷ []) ≡ reduced false any ne d) (same_told : (bs : List Argument) → primitive_tells p bs ≡ first_shape bs)
        (waits : (Q : FlatValue → Type 0) (ne : FlatValue) → Gives (There W.is_there) Q (gives 0 (Primitive_value p at (value_and f (value_and ne no_value)))) → Gives (There W.is_there) Q (calls W (Primitive_value p at (value_and f no_value)) ne))
        (runs : (Q : FlatValue → Type 0) (ne xs : FlatValue) → Gives (There W.is_there) Q (Then (the (and_then (datum_of ne) (λ d. and_then (and_then (datum_of xs) (λ e. and_then (Val []) (λ ds. Val (e ∷ ds)))) (λ ds. Val (d ∷ ds))))) (λ ds. Then (the (job false (row_told ((flat_names (told W)).lang W.tops) (Of_function p f ds)) p at ds)) (job_of ((flat_names (told W)).lang W.tops) (plain W.tight) W.budget (means W) 2 f)))
        → Gives (There W.is_there) Q (calls W (Primitive_value p at (value_and f (value_and ne no_value))) xs)) where
      module _ (ψ' : Frames) (ne : FlatValue) (hn : Fits N τ W.sizing W.is_there (calls W) m ψ' a ne) where
        reduce_gives : (ψ : Frames) (xs : FlatValue) → Fits N τ W.sizing W.is_there (calls W) m ψ (Level (Bound 0 0) a) xs → Gives (There W.is_there) (Reduced ψ) (calls W (Primitive_value p at (value_and f (value_and ne no_value))) xs)
        unfolding Fits
        reduce_gives ψ xs hx = runs (Reduced ψ) ne xs
            (gives_then (λ ds. (d : Datum) × Has_datum N τ m ψ a d × (ds ≡ d ∷ hx.datum ∷ [])) (Reduced ψ) _ _
            (gives_exact _ _ 0 _ (out_then _ (Has_datum N τ m ψ a) (λ ds. (d : Datum) × Has_datum N τ m ψ a d × (ds ≡ d ∷ hx.datum ∷ [])) (datum_of ne) _
            (out_of _ (Has_datum N τ m ψ a) (datum_of ne) (datum_fine W.is_there ne) (λ d e. datum_anywhere N types τ W S one m a closed_a ψ' ψ d (fits_datum N τ W.sizing W.is_there (calls W) m ψ' a data_a ne d e hn)))
            (λ d x. subst (λ o. Out_fits (There W.is_there) (λ ds. (d : Datum) × Has_datum N τ m ψ a d × (ds ≡ d ∷ hx.datum ∷ [])) (and_then (and_then o (λ e. and_then (Val []) (λ ds. Val (e ∷ ds)))) (λ ds. Val (d ∷ ds)))) (sym hx.is_datum) (d, x, refl))))
            (λ ds q. subst (λ z. Gives (There W.is_there) (Reduced ψ) (Then (the (job false (row_told ((flat_names (told W)).lang W.tops) (Of_function p f z)) p at z)) (job_of ((flat_names (told W)).lang W.tops) (plain W.tight) W.budget (means W) 2 f))) (sym q.2)
            (subst (λ o. Gives (There W.is_there) (Reduced ψ) (Then (the o) (job_of ((flat_names (told W)).lang W.tops) (plain W.tight) W.budget (means W) 2 f))) (sym (same_job _ q.0 hx.datum)) (reduce_job any ψ q.0 hx.datum q.1 hx.fits))))

        -- it tells the shape of the neutral element
        reduce_tells : (ψ : Frames) → Tells_one N τ W.sizing m ψ 1 (Level (Bound 0 0) a) a (Primitive_value p at (value_and f (value_and ne no_value))) data_a
        unfolding Fits tells data_told
        reduce_tells ψ = (
          refl,
          λ dr low G h hx. subst (λ c. Has_shape N τ m (push G ψ) a (by_function (function_tells W.sizing (value_and f (value_and ne no_value))) (primitive_tells p (cond c (cond (is_function ne) ((h, None) ∷ []) ((value_shape ne, worth_of ne) ∷ (h, None) ∷ [])) ((value_shape f, worth_of f) ∷ cond (is_function ne) ((h, None) ∷ []) ((value_shape ne, worth_of ne) ∷ (h, None) ∷ [])))))) (sym hf.0.0)
              (subst (λ c. Has_shape N τ m (push G ψ) a (by_function (function_tells W.sizing (value_and f (value_and ne no_value))) (primitive_tells p (cond c ((h, None) ∷ []) ((value_shape ne, worth_of ne) ∷ (h, None) ∷ []))))) (sym (not_function ψ' a ne data_a hn))
              (subst (λ t. Has_shape N τ m (push G ψ) a (by_function (function_tells W.sizing (value_and f (value_and ne no_value))) t)) (sym (same_told ((value_shape ne, worth_of ne) ∷ (h, None) ∷ [])))
              (shape_anywhere N types τ W S one m a closed_a ψ' (push G ψ) (value_shape ne) (value_shaped N τ W.sizing W.is_there (calls W) m ψ' a data_a ne hn)))),
        )

        reduce_waits : (ψ : Frames) → Fits N τ W.sizing W.is_there (calls W) m ψ (Fun 1 (Level (Bound 0 0) a) a) (Primitive_value p at (value_and f (value_and ne no_value)))
        unfolding Fits
        reduce_waits ψ = (one_tells N τ W.sizing m ψ 1 (Level (Bound 0 0) a) a (Primitive_value p at (value_and f (value_and ne no_value))) data_a (reduce_tells ψ), λ G xs eG hx. gives_as (Reduced (push G ψ)) (λ w. (G' : ℕ → ℕ) × ((i : ℕ) → i ≤ 1 → G' i ≡ G i) × Fits N τ W.sizing W.is_there (calls W) m (push G' ψ) a w) _ (reduce_gives (push G ψ) xs hx) (λ w x. (G, (λ i l. refl), x)))

      -- and before it has that, what is told of it
      element_told : (ψ : Frames) (F G : ℕ → ℕ) (h g : Shape) → Has_shape N τ m (push F ψ) a h → Has_shape N τ m (push G (push F ψ)) a (tells W.sizing (Primitive_value p at (value_and f no_value)) (h ∷ g ∷ []))
      unfolding Fits tells data_told
      element_told ψ F G h g hx = subst (λ c. Has_shape N τ m (push G (push F ψ)) a (by_function (function_tells W.sizing (value_and f no_value)) (primitive_tells p (cond c ((h, None) ∷ (g, None) ∷ []) ((value_shape f, worth_of f) ∷ (h, None) ∷ (g, None) ∷ []))))) (sym hf.0.0)
          (subst (λ t. Has_shape N τ m (push G (push F ψ)) a (by_function (function_tells W.sizing (value_and f no_value)) t)) (sym (same_told ((h, None) ∷ (g, None) ∷ []))) (shape_anywhere N types τ W S one m a closed_a (push F ψ) (push G (push F ψ)) h hx))

      reduce_starts : (ψ : Frames) → Fits N τ W.sizing W.is_there (calls W) m ψ (Fun 0 a (Fun 1 (Level (Bound 0 0) a) a)) (Primitive_value p at (value_and f no_value))
      unfolding Fits Told_right
      reduce_starts ψ = (
        (refl, λ known F h hx G g hg. told_here N τ m (push G (push F ψ)) a data_a (λ hs. tells W.sizing (Primitive_value p at (value_and f no_value)) (h ∷ g ∷ hs)) (element_told ψ F G h g hx)),
        λ G ne eG hn. waits (λ w. (G' : ℕ → ℕ) × ((i : ℕ) → i ≤ 0 → G' i ≡ G i) × Fits N τ W.sizing W.is_there (calls W) m (push G' ψ) (Fun 1 (Level (Bound 0 0) a) a) w) ne
            (gives_exact _ (λ w. (G' : ℕ → ℕ) × ((i : ℕ) → i ≤ 0 → G' i ≡ G i) × Fits N τ W.sizing W.is_there (calls W) m (push G' ψ) (Fun 1 (Level (Bound 0 0) a) a) w) 0 (Val (Primitive_value p at (value_and f (value_and ne no_value)))) (G, (λ i l. refl), reduce_waits (push G ψ) ne hn (push G ψ))),
      )

    -- ---- scan

    abbrev Scanned : Frames → FlatValue → Type 0
    Scanned ψ w = Fits N τ W.sizing W.is_there (calls W) m ψ (Level (Bound 0 0) a) w

    all_given : (ψ : Frames) (row : Shape) (ys : List Datum) → length ys ≡ number m ψ (Bound 0 0) → Has_shape N τ m ψ a row → Every (Has_datum N τ m ψ a) ys → Gives (There W.is_there) (Has_datum N τ m ψ (Level (Bound 0 0) a)) (finished (λ ds. all_fresh (array false at row ds)) ys)
    all_given ψ row ys l h e = gives_then (λ r. Has_datum N τ m ψ (Level (Bound 0 0) a) r.1) (Has_datum N τ m ψ (Level (Bound 0 0) a)) _ _
        (gives_exact _ (λ r. Has_datum N τ m ψ (Level (Bound 0 0) a) r.1) 0 (all_fresh (array false at row ys)) (out_then _ (Has_datum N τ m ψ (Level (Bound 0 0) a)) (λ r. Has_datum N τ m ψ (Level (Bound 0 0) a) r.1) (array false at row ys) fresh (array_gives N types τ W S one m ψ (Bound 0 0) a at row ys l h e) (λ d x. x)))
        (λ r x. gives_exact _ (Has_datum N τ m ψ (Level (Bound 0 0) a)) r.0 (Val r.1) x)

    scan_job : (ψ : Frames) (ne d : Datum) → Has_datum N τ m ψ a ne → Has_datum N τ m ψ (Level (Bound 0 0) a) d
        → Gives (There W.is_there) (Scanned ψ) (Then (the (job false (row_told ((flat_names (told W)).lang W.tops) (Of_function prim.Scan f (ne ∷ d ∷ []))) prim.Scan at (ne ∷ d ∷ []))) (job_of ((flat_names (told W)).lang W.tops) (plain W.tight) W.budget (means W) 2 f))
    unfolding Has_datum job plain
    scan_job ψ ne (Array_datum row ds) hn h =
        let rows : List Datum = listed ds in
        gives_then (λ j. j ≡ Reduce_each false ne (prefixes_on [] rows) (λ ds. all_fresh (array false at row ds))) (Scanned ψ) _ _
        (gives_exact _ _ 0 (Val (Reduce_each false ne (prefixes_on [] rows) (λ ds. all_fresh (array false at row ds)))) refl)
        (λ j q. subst (λ z. Gives (There W.is_there) (Scanned ψ) (job_of ((flat_names (told W)).lang W.tops) (plain W.tight) W.budget (means W) 2 f z)) (sym q)
        (gives_then (Has_datum N τ m ψ (Level (Bound 0 0) a)) (Scanned ψ) _ _
        (gives_then (λ ys. Every (Has_datum N τ m ψ a) ys × (length ys ≡ length (prefixes_on [] rows))) (Has_datum N τ m ψ (Level (Bound 0 0) a)) _ _
        (gives_all_of (Every (Has_datum N τ m ψ a)) (Has_datum N τ m ψ a) (Reduces W.tight false ((plain W.tight).operator_fits ((flat_names (told W)).lang W.tops) W.budget 2 f false) (called_on 2 (means W) f) ne)
        (λ xs e. gives_reduced (Has_datum N τ m ψ a) W.tight false ((plain W.tight).operator_fits ((flat_names (told W)).lang W.tops) W.budget 2 f false) (called_on 2 (means W) f) ne hn (λ x y p q. combines ψ x y p q) xs e) (prefixes_on [] rows)
        (every_prefix (Has_datum N τ m ψ a) [] rows tt (every_listed (Has_datum N τ m ψ a) ds h.2)))
        (λ ys e. all_given ψ row ys (e.1 ∙ many_prefixes [] rows ∙ h.0) h.1 e.0))
        (λ x k. gives_exact _ (Scanned ψ) 0 (Val (as_value x)) (array_value N types τ W S one m ψ (Bound 0 0) a x k))))
    scan_job ψ ne d hn h = absurd h

    module _ (ψ' : Frames) (ne : FlatValue) (hn : Fits N τ W.sizing W.is_there (calls W) m ψ' a ne) where
      scan_gives : (ψ : Frames) (xs : FlatValue) → Fits N τ W.sizing W.is_there (calls W) m ψ (Level (Bound 0 0) a) xs → Gives (There W.is_there) (Scanned ψ) (means W (Call (Primitive_value prim.Scan at (value_and f (value_and ne no_value))) xs))
      unfolding Fits plain
      scan_gives ψ xs hx =
          evaluates N types τ W S one (Scanned ψ) (Call (Primitive_value prim.Scan at (value_and f (value_and ne no_value))) xs)
          (gives_then (λ ds. (d : Datum) × Has_datum N τ m ψ a d × (ds ≡ d ∷ hx.datum ∷ [])) (Scanned ψ) _ _
          (gives_exact _ _ 0 _ (out_then _ (Has_datum N τ m ψ a) (λ ds. (d : Datum) × Has_datum N τ m ψ a d × (ds ≡ d ∷ hx.datum ∷ [])) (datum_of ne) _
          (out_of _ (Has_datum N τ m ψ a) (datum_of ne) (datum_fine W.is_there ne) (λ d e. datum_anywhere N types τ W S one m a closed_a ψ' ψ d (fits_datum N τ W.sizing W.is_there (calls W) m ψ' a data_a ne d e hn)))
          (λ d x. subst (λ o. Out_fits (There W.is_there) (λ ds. (d : Datum) × Has_datum N τ m ψ a d × (ds ≡ d ∷ hx.datum ∷ [])) (and_then (and_then o (λ e. and_then (Val []) (λ ds. Val (e ∷ ds)))) (λ ds. Val (d ∷ ds)))) (sym hx.is_datum) (d, x, refl))))
          (λ ds q. subst (λ z. Gives (There W.is_there) (Scanned ψ) (Then (the (job false (row_told ((flat_names (told W)).lang W.tops) (Of_function prim.Scan f z)) prim.Scan at z)) (job_of ((flat_names (told W)).lang W.tops) (plain W.tight) W.budget (means W) 2 f))) (sym q.2) (scan_job ψ q.0 hx.datum q.1 hx.fits)))

      -- it tells the shape of the array
      scan_tells : (ψ : Frames) → Tells_one N τ W.sizing m ψ 1 (Level (Bound 0 0) a) (Level (Bound 0 0) a) (Primitive_value prim.Scan at (value_and f (value_and ne no_value))) (level_data (Bound 0 0) a data_a)
      unfolding Fits tells data_told primitive_tells
      scan_tells ψ = (
        refl,
        λ dr low G h hx. subst (λ c. Has_shape N τ m (push G ψ) (Level (Bound 0 0) a) (by_function (function_tells W.sizing (value_and f (value_and ne no_value))) (primitive_tells prim.Scan (cond c (cond (is_function ne) ((h, None) ∷ []) ((value_shape ne, worth_of ne) ∷ (h, None) ∷ [])) ((value_shape f, worth_of f) ∷ cond (is_function ne) ((h, None) ∷ []) ((value_shape ne, worth_of ne) ∷ (h, None) ∷ [])))))) (sym hf.0.0)
            (subst (λ c. Has_shape N τ m (push G ψ) (Level (Bound 0 0) a) (by_function (function_tells W.sizing (value_and f (value_and ne no_value))) (primitive_tells prim.Scan (cond c ((h, None) ∷ []) ((value_shape ne, worth_of ne) ∷ (h, None) ∷ []))))) (sym (not_function ψ' a ne data_a hn))
            hx),
      )

      scan_waits : (ψ : Frames) → Fits N τ W.sizing W.is_there (calls W) m ψ (Fun 1 (Level (Bound 0 0) a) (Level (Bound 0 0) a)) (Primitive_value prim.Scan at (value_and f (value_and ne no_value)))
      unfolding Fits
      scan_waits ψ = (one_tells N τ W.sizing m ψ 1 (Level (Bound 0 0) a) (Level (Bound 0 0) a) (Primitive_value prim.Scan at (value_and f (value_and ne no_value))) (level_data (Bound 0 0) a data_a) (scan_tells ψ), λ G xs eG hx. gives_as (Scanned (push G ψ)) (λ w. (G' : ℕ → ℕ) × ((i : ℕ) → i ≤ 1 → G' i ≡ G i) × Fits N τ W.sizing W.is_there (calls W) m (push G' ψ) (Level (Bound 0 0) a) w) _ (scan_gives (push G ψ) xs hx) (λ w x. (G, (λ i l. refl), x)))

    rows_told : (ψ : Frames) (F G : ℕ → ℕ) (h g : Shape) → Has_shape N τ m (push G (push F ψ)) (Level (Bound 0 0) a) g → Has_shape N τ m (push G (push F ψ)) (Level (Bound 0 0) a) (tells W.sizing (Primitive_value prim.Scan at (value_and f no_value)) (h ∷ g ∷ []))
    unfolding Fits tells data_told primitive_tells
    rows_told ψ F G h g hg = subst (λ c. Has_shape N τ m (push G (push F ψ)) (Level (Bound 0 0) a) (by_function (function_tells W.sizing (value_and f no_value)) (primitive_tells prim.Scan (cond c ((h, None) ∷ (g, None) ∷ []) ((value_shape f, worth_of f) ∷ (h, None) ∷ (g, None) ∷ []))))) (sym hf.0.0) hg

    scan_starts : (ψ : Frames) → Fits N τ W.sizing W.is_there (calls W) m ψ (Fun 0 a (Fun 1 (Level (Bound 0 0) a) (Level (Bound 0 0) a))) (Primitive_value prim.Scan at (value_and f no_value))
    unfolding Fits Told_right
    scan_starts ψ = (
      (refl, λ known F h hx G g hg. rows_told ψ F G h g hg),
      λ G ne eG hn. evaluates N types τ W S one _ (Call (Primitive_value prim.Scan at (value_and f no_value)) ne)
          (gives_exact _ (λ w. (G' : ℕ → ℕ) × ((i : ℕ) → i ≤ 0 → G' i ≡ G i) × Fits N τ W.sizing W.is_there (calls W) m (push G' ψ) (Fun 1 (Level (Bound 0 0) a) (Level (Bound 0 0) a)) w) 0 (Val (Primitive_value prim.Scan at (value_and f (value_and ne no_value)))) (G, (λ i l. refl), scan_waits (push G ψ) ne hn (push G ψ))),
    )

  pub reduce_fits : (a : Size) → Data a → Each (Scoped Any_free) 0 a → (at : Place) → Fits N τ W.sizing W.is_there (calls W) m no_frames (Fun 0 (Fun 0 a (Fun 0 a a)) (Fun 0 a (Fun 1 (Level (Bound 0 0) a) a))) (Primitive_value prim.Reduce at no_value)
  unfolding Fits Has_shape job plain primitive_tells
  reduce_fits a d c at = (
    (refl, λ known F h hx. absurd hx),
    λ F f eF hf. evaluates N types τ W S one _ (Call (Primitive_value prim.Reduce at no_value) f)
        (gives_exact _ (λ w. (F' : ℕ → ℕ) × ((i : ℕ) → i ≤ 0 → F' i ≡ F i) × Fits N τ W.sizing W.is_there (calls W) m (push F' no_frames) (Fun 0 a (Fun 1 (Level (Bound 0 0) a) a)) w) 0 (Val (Primitive_value prim.Reduce at (value_and f no_value))) (
          F,
          (λ i l. refl),
          reduce_starts a d c at (push F no_frames) f hf prim.Reduce false (λ row ne x. refl) (λ bs. refl) (λ Q ne h. evaluates N types τ W S one Q (Call (Primitive_value prim.Reduce at (value_and f no_value)) ne) h)
              (λ Q ne xs h. evaluates N types τ W S one Q (Call (Primitive_value prim.Reduce at (value_and f (value_and ne no_value))) xs) h) (push F no_frames),
        )),
  )

  pub reduce_comm_fits : (a : Size) → Data a → Each (Scoped Any_free) 0 a → (at : Place) → Fits N τ W.sizing W.is_there (calls W) m no_frames (Fun 0 (Fun 0 a (Fun 0 a a)) (Fun 0 a (Fun 1 (Level (Bound 0 0) a) a))) (Primitive_value prim.ReduceComm at no_value)
  unfolding Fits Has_shape job plain primitive_tells
  reduce_comm_fits a d c at = (
    (refl, λ known F h hx. absurd hx),
    λ F f eF hf. evaluates N types τ W S one _ (Call (Primitive_value prim.ReduceComm at no_value) f)
        (gives_exact _ (λ w. (F' : ℕ → ℕ) × ((i : ℕ) → i ≤ 0 → F' i ≡ F i) × Fits N τ W.sizing W.is_there (calls W) m (push F' no_frames) (Fun 0 a (Fun 1 (Level (Bound 0 0) a) a)) w) 0 (Val (Primitive_value prim.ReduceComm at (value_and f no_value))) (
          F,
          (λ i l. refl),
          reduce_starts a d c at (push F no_frames) f hf prim.ReduceComm true (λ row ne x. refl) (λ bs. refl) (λ Q ne h. evaluates N types τ W S one Q (Call (Primitive_value prim.ReduceComm at (value_and f no_value)) ne) h)
              (λ Q ne xs h. evaluates N types τ W S one Q (Call (Primitive_value prim.ReduceComm at (value_and f (value_and ne no_value))) xs) h) (push F no_frames),
        )),
  )

  pub scan_fits : (a : Size) → Data a → Each (Scoped Any_free) 0 a → (at : Place) → Fits N τ W.sizing W.is_there (calls W) m no_frames (Fun 0 (Fun 0 a (Fun 0 a a)) (Fun 0 a (Fun 1 (Level (Bound 0 0) a) (Level (Bound 0 0) a)))) (Primitive_value prim.Scan at no_value)
  unfolding Fits Has_shape
  scan_fits a d c at = (
    (refl, λ known F h hx. absurd hx),
    λ F f eF hf. evaluates N types τ W S one _ (Call (Primitive_value prim.Scan at no_value) f)
        (gives_exact _ (λ w. (F' : ℕ → ℕ) × ((i : ℕ) → i ≤ 0 → F' i ≡ F i) × Fits N τ W.sizing W.is_there (calls W) m (push F' no_frames) (Fun 0 a (Fun 1 (Level (Bound 0 0) a) (Level (Bound 0 0) a))) w) 0 (Val (Primitive_value prim.Scan at (value_and f no_value))) (F, (λ i l. refl), scan_starts a d c at (push F no_frames) f hf (push F no_frames))),
  )
