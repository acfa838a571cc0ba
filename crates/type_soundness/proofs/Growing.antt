-- A value stays of its type where further definitions are evaluated.
use Rattle.std.proofs.Common.{ℕ, List, [], ◌∷◌, Bool}
use Rattle.fut_types.specs.declared.Head.TheVariants as head
use Rattle.fut_types.specs.Types.{Ty, Var, Made, Tys, none, more}
use Rattle.fut_typing.specs.Names.{Names}
use Rattle.fut_meaning.specs.Found.{Told}
use Rattle.fut_meaning.specs.Values.{Array_value, Scalar_value, Tuple_value, Record_value, no_value, value_and, Closure, Primitive_value}
use Rattle.fut_value.specs.Data.{Datum, Datums, no_datum, datum_and}
use Rattle.fut_meaning.specs.Datums.{as_value}
use Rattle.fut_meaning.specs.Flats.{FlatValue, FlatTops, FlatMode}
use Rattle.type_soundness.specs.Likeness.{All_datums, Like}
use Rattle.type_soundness.specs.Fits.{FlatValues, FlatFields, Grows, Fits, All_fit, Fields_fit}

pub grows_self : (tops : FlatTops) → Grows tops tops
grows_self tops k v e = e

pub grows_more : (tops tops' tops'' : FlatTops) → Grows tops tops' → Grows tops' tops'' → Grows tops tops''
grows_more tops tops' tops'' g h k v e = h k v (g k v e)

pub all_datums_map : (P Q : Datum → Type 0) → ((d : Datum) → P d → Q d) → (ds : Datums) → All_datums P ds → All_datums Q ds
all_datums_map P Q go no_datum h = tt
all_datums_map P Q go (datum_and d ds) h = (go d h.0, all_datums_map P Q go ds h.1)

module _ (N : Names) (T : Told) (M : FlatMode) (budget : ℕ) (total : Bool) where
  mutual
    unfolding Fits All_fit Fields_fit

    pub fits_grow : (t : Ty) (tops tops' : FlatTops) → Grows tops tops' → (v : FlatValue) → Fits N T M budget total t tops v → Fits N T M budget total t tops' v
    fits_grow (Var n) tops tops' g v h = h
    fits_grow (Made (head.Scalar s) ts) tops tops' g v h = h
    fits_grow (Made head.Array none) tops tops' g v h = h
    fits_grow (Made head.Array (more t none)) tops tops' g (Array_value row ds) h = all_datums_map (λ d. Fits N T M budget total t tops (as_value d) × Like row d) (λ d. Fits N T M budget total t tops' (as_value d) × Like row d) (λ d k. (fits_grow t tops tops' g (as_value d) k.0, k.1)) ds h
    fits_grow (Made head.Array (more t none)) tops tops' g (Scalar_value s) h = absurd h
    fits_grow (Made head.Array (more t none)) tops tops' g (Tuple_value vs) h = absurd h
    fits_grow (Made head.Array (more t none)) tops tops' g (Record_value fs) h = absurd h
    fits_grow (Made head.Array (more t none)) tops tops' g (Closure ps e lo env) h = absurd h
    fits_grow (Made head.Array (more t none)) tops tops' g (Primitive_value p at vs) h = absurd h
    fits_grow (Made head.Array (more t (more u ts))) tops tops' g v h = h
    fits_grow (Made head.Tuple ts) tops tops' g (Tuple_value vs) h = (h.0, all_fit_grow ts tops tops' g vs h.1)
    fits_grow (Made head.Tuple ts) tops tops' g (Scalar_value s) h = absurd h.1
    fits_grow (Made head.Tuple ts) tops tops' g (Record_value fs) h = absurd h.1
    fits_grow (Made head.Tuple ts) tops tops' g (Closure ps e lo env) h = absurd h.1
    fits_grow (Made head.Tuple ts) tops tops' g (Primitive_value p at vs) h = absurd h.1
    fits_grow (Made head.Tuple ts) tops tops' g (Array_value row ds) h = absurd h.1
    fits_grow (Made (head.Record n) ts) tops tops' g (Record_value fs) h = (h.0, fields_fit_grow (N.shapes.fields n) ts tops tops' g fs h.1)
    fits_grow (Made (head.Record n) ts) tops tops' g (Scalar_value s) h = absurd h
    fits_grow (Made (head.Record n) ts) tops tops' g (Tuple_value vs) h = absurd h
    fits_grow (Made (head.Record n) ts) tops tops' g (Closure ps e lo env) h = absurd h
    fits_grow (Made (head.Record n) ts) tops tops' g (Primitive_value p at vs) h = absurd h
    fits_grow (Made (head.Record n) ts) tops tops' g (Array_value row ds) h = absurd h
    fits_grow (Made head.Fun none) tops tops' g v h = h
    fits_grow (Made head.Fun (more t none)) tops tops' g v h = h
    fits_grow (Made head.Fun (more t (more u none))) tops tops' g v h = λ tops'' g'. h tops'' (grows_more tops tops' tops'' g g')
    fits_grow (Made head.Fun (more t (more u (more w ts)))) tops tops' g v h = h
    fits_grow (Made (head.Rigid n k) ts) tops tops' g v h = h
    fits_grow (Made (head.Abstract n d) ts) tops tops' g v h = h

    pub all_fit_grow : (ts : Tys) (tops tops' : FlatTops) → Grows tops tops' → (vs : FlatValues) → All_fit N T M budget total ts tops vs → All_fit N T M budget total ts tops' vs
    all_fit_grow none tops tops' g vs h = h
    all_fit_grow (more t ts) tops tops' g no_value h = absurd h
    all_fit_grow (more t ts) tops tops' g (value_and v vs) h = (fits_grow t tops tops' g v h.0, all_fit_grow ts tops tops' g vs h.1)

    pub fields_fit_grow : (ls : List ℕ) (ts : Tys) (tops tops' : FlatTops) → Grows tops tops' → (fs : FlatFields) → Fields_fit N T M budget total ls ts tops fs → Fields_fit N T M budget total ls ts tops' fs
    fields_fit_grow [] none tops tops' g fs h = tt
    fields_fit_grow [] (more t ts) tops tops' g fs h = absurd h
    fields_fit_grow (l ∷ ls) none tops tops' g fs h = absurd h
    fields_fit_grow (l ∷ ls) (more t ts) tops tops' g fs h = ((h.0.0, h.0.1, h.0.2, h.0.3, fits_grow t tops tops' g h.0.1 h.0.4), fields_fit_grow ls ts tops tops' g fs h.1)
