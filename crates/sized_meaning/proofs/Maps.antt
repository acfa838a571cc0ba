-- `map2` to `map5` as the general map over several arrays.
use Rattle.sized_meaning.specs.There.{There}
use Rattle.std.proofs.Common.{◌≡◌, ◌<◌, ◌≤◌, List, [], ◌∷◌, ◌++◌, length, false, refl, arith}
use Rattle.fut_scalar.specs.declared.place.Place.{Place}
use Rattle.fut_flat.specs.declared.prim.Primitive.TheVariants as prim
use Rattle.fut_types.specs.Types.{Sub}
use Rattle.fut_typing.specs.Names.{Names}
use Rattle.fut_meaning.specs.Datums.{all_data}
use Rattle.fut_meaning.specs.Flats.{FlatValue, flat_names}
use Rattle.fut_meaning.specs.Jobs.{job}
use Rattle.fut_meaning.specs.Meaning.{plain, job_of, row_told, Of_function}
use Rattle.fut_meaning.specs.Outcomes.{the, gives, Then}
use Rattle.fut_meaning.specs.Telling.{primitive_tells}
use Rattle.fut_meaning.specs.Values.{Primitive_value, no_value, value_and, values, Call}
use Rattle.sized_types.specs.Sizes.{Bound, Size, Level, Fun}
use Rattle.sized_meaning.specs.Worth.{Worth, Frames}
use Rattle.sized_meaning.specs.Shapes.{Meant}
use Rattle.sized_meaning.specs.Finding.{One_kind_each}
use Rattle.sized_meaning.specs.Fits.{Gives, Flat_result, Fits}
use Rattle.sized_meaning.specs.Law.{Sound, World, told, means, calls}
use Rattle.sized_meaning.proofs.Applications.{evaluates}
use Rattle.sized_meaning.proofs.Mapping_several.{Closed_data, several_fit}

some_more : (xs : List FlatValue) (v : FlatValue) → 1 ≤ length (xs ++ v ∷ [])
some_more [] v = omega arith
some_more (x ∷ xs) v = omega arith

module _ (N : Names) (types : Sub) (τ : Meant) (W : World) (S : Sound N types W.sizing) (one : One_kind_each τ) (m : Worth) (at : Place) where
  waits2 : (Q : FlatValue → Type 0) (f : FlatValue) (xs : List FlatValue) (v : FlatValue) → length (xs ++ v ∷ []) < 2 → Gives (There W.is_there) Q (gives 0 (Primitive_value prim.Map2 at (value_and f (values (xs ++ v ∷ []))))) → Gives (There W.is_there) Q (calls W (Primitive_value prim.Map2 at (value_and f (values xs))) v)
  unfolding plain
  waits2 Q f [] v l h = evaluates N types τ W S one Q (Call (Primitive_value prim.Map2 at (value_and f no_value)) v) h
  waits2 Q f (x ∷ xs) v l h = absurd (let z = some_more xs v in omega (arith, l, z))

  runs2 : (Q : FlatValue → Type 0) (f : FlatValue) (xs : List FlatValue) (v : FlatValue) → length (xs ++ v ∷ []) ≡ 2 → Gives (There W.is_there) Q (Then (the (all_data (xs ++ v ∷ []))) (λ ds. Then (the (job false (row_told ((flat_names (told W)).lang W.tops) (Of_function prim.Map2 f ds)) prim.Map2 at ds)) (job_of ((flat_names (told W)).lang W.tops) (plain W.tight) W.budget (means W) 2 f)))
      → Gives (There W.is_there) Q (calls W (Primitive_value prim.Map2 at (value_and f (values xs))) v)
  unfolding plain
  runs2 Q f [] v l h = absurd (omega (arith, l))
  runs2 Q f (x ∷ []) v l h = evaluates N types τ W S one Q (Call (Primitive_value prim.Map2 at (value_and f (value_and x no_value))) v) h
  runs2 Q f (x ∷ y ∷ xs) v l h = absurd (let z = some_more xs v in omega (arith, l, z))

  pub map2_fits : (a b c : Size) → Closed_data a → Closed_data b → Closed_data c → Flat_result c → (φ : Frames) → Fits N τ W.sizing W.is_there (calls W) m φ (Fun 0 (Fun 0 a (Fun 0 b c)) (Fun 1 (Level (Bound 0 0) a) (Fun 0 (Level (Bound 1 0) b) (Level (Bound 1 0) c)))) (Primitive_value prim.Map2 at no_value)
  unfolding plain job primitive_tells row_told flat_names
  map2_fits a b c ca cb cc flat φ = several_fit N types τ W S one m prim.Map2 2 at a (b ∷ []) c ca (cb, tt) cc flat (λ row ds. refl) (λ bs. refl) (λ f ds. refl) waits2 runs2 b ([]) refl (λ Q f h. evaluates N types τ W S one Q (Call (Primitive_value prim.Map2 at no_value) f) h) φ

  waits3 : (Q : FlatValue → Type 0) (f : FlatValue) (xs : List FlatValue) (v : FlatValue) → length (xs ++ v ∷ []) < 3 → Gives (There W.is_there) Q (gives 0 (Primitive_value prim.Map3 at (value_and f (values (xs ++ v ∷ []))))) → Gives (There W.is_there) Q (calls W (Primitive_value prim.Map3 at (value_and f (values xs))) v)
  unfolding plain
  waits3 Q f [] v l h = evaluates N types τ W S one Q (Call (Primitive_value prim.Map3 at (value_and f no_value)) v) h
  waits3 Q f (x ∷ []) v l h = evaluates N types τ W S one Q (Call (Primitive_value prim.Map3 at (value_and f (value_and x no_value))) v) h
  waits3 Q f (x ∷ y ∷ xs) v l h = absurd (let z = some_more xs v in omega (arith, l, z))

  runs3 : (Q : FlatValue → Type 0) (f : FlatValue) (xs : List FlatValue) (v : FlatValue) → length (xs ++ v ∷ []) ≡ 3 → Gives (There W.is_there) Q (Then (the (all_data (xs ++ v ∷ []))) (λ ds. Then (the (job false (row_told ((flat_names (told W)).lang W.tops) (Of_function prim.Map3 f ds)) prim.Map3 at ds)) (job_of ((flat_names (told W)).lang W.tops) (plain W.tight) W.budget (means W) 3 f)))
      → Gives (There W.is_there) Q (calls W (Primitive_value prim.Map3 at (value_and f (values xs))) v)
  unfolding plain
  runs3 Q f [] v l h = absurd (omega (arith, l))
  runs3 Q f (x ∷ []) v l h = absurd (omega (arith, l))
  runs3 Q f (x ∷ y ∷ []) v l h = evaluates N types τ W S one Q (Call (Primitive_value prim.Map3 at (value_and f (value_and x (value_and y no_value)))) v) h
  runs3 Q f (x ∷ y ∷ z ∷ xs) v l h = absurd (let z = some_more xs v in omega (arith, l, z))

  pub map3_fits : (a b c d : Size) → Closed_data a → Closed_data b → Closed_data c → Closed_data d → Flat_result d → (φ : Frames) → Fits N τ W.sizing W.is_there (calls W) m φ (Fun 0 (Fun 0 a (Fun 0 b (Fun 0 c d))) (Fun 1 (Level (Bound 0 0) a) (Fun 0 (Level (Bound 1 0) b) (Fun 0 (Level (Bound 2 0) c) (Level (Bound 2 0) d))))) (Primitive_value prim.Map3 at no_value)
  unfolding plain job primitive_tells row_told flat_names
  map3_fits a b c d ca cb cc cd flat φ = several_fit N types τ W S one m prim.Map3 3 at a (b ∷ c ∷ []) d ca (cb, (cc, tt)) cd flat (λ row ds. refl) (λ bs. refl) (λ f ds. refl) waits3 runs3 b (c ∷ []) refl (λ Q f h. evaluates N types τ W S one Q (Call (Primitive_value prim.Map3 at no_value) f) h) φ

  waits4 : (Q : FlatValue → Type 0) (f : FlatValue) (xs : List FlatValue) (v : FlatValue) → length (xs ++ v ∷ []) < 4 → Gives (There W.is_there) Q (gives 0 (Primitive_value prim.Map4 at (value_and f (values (xs ++ v ∷ []))))) → Gives (There W.is_there) Q (calls W (Primitive_value prim.Map4 at (value_and f (values xs))) v)
  unfolding plain
  waits4 Q f [] v l h = evaluates N types τ W S one Q (Call (Primitive_value prim.Map4 at (value_and f no_value)) v) h
  waits4 Q f (x ∷ []) v l h = evaluates N types τ W S one Q (Call (Primitive_value prim.Map4 at (value_and f (value_and x no_value))) v) h
  waits4 Q f (x ∷ y ∷ []) v l h = evaluates N types τ W S one Q (Call (Primitive_value prim.Map4 at (value_and f (value_and x (value_and y no_value)))) v) h
  waits4 Q f (x ∷ y ∷ z ∷ xs) v l h = absurd (let z = some_more xs v in omega (arith, l, z))

  runs4 : (Q : FlatValue → Type 0) (f : FlatValue) (xs : List FlatValue) (v : FlatValue) → length (xs ++ v ∷ []) ≡ 4 → Gives (There W.is_there) Q (Then (the (all_data (xs ++ v ∷ []))) (λ ds. Then (the (job false (row_told ((flat_names (told W)).lang W.tops) (Of_function prim.Map4 f ds)) prim.Map4 at ds)) (job_of ((flat_names (told W)).lang W.tops) (plain W.tight) W.budget (means W) 4 f)))
      → Gives (There W.is_there) Q (calls W (Primitive_value prim.Map4 at (value_and f (values xs))) v)
  unfolding plain
  runs4 Q f [] v l h = absurd (omega (arith, l))
  runs4 Q f (x ∷ []) v l h = absurd (omega (arith, l))
  runs4 Q f (x ∷ y ∷ []) v l h = absurd (omega (arith, l))
  runs4 Q f (x ∷ y ∷ z ∷ []) v l h = evaluates N types τ W S one Q (Call (Primitive_value prim.Map4 at (value_and f (value_and x (value_and y (value_and z no_value))))) v) h
  runs4 Q f (x ∷ y ∷ z ∷ u ∷ xs) v l h = absurd (let z = some_more xs v in omega (arith, l, z))

  pub map4_fits : (a b c d e : Size) → Closed_data a → Closed_data b → Closed_data c → Closed_data d → Closed_data e → Flat_result e → (φ : Frames) → Fits N τ W.sizing W.is_there (calls W) m φ (Fun 0 (Fun 0 a (Fun 0 b (Fun 0 c (Fun 0 d e)))) (Fun 1 (Level (Bound 0 0) a) (Fun 0 (Level (Bound 1 0) b) (Fun 0 (Level (Bound 2 0) c) (Fun 0 (Level (Bound 3 0) d) (Level (Bound 3 0) e)))))) (Primitive_value prim.Map4 at no_value)
  unfolding plain job primitive_tells row_told flat_names
  map4_fits a b c d e ca cb cc cd ce flat φ = several_fit N types τ W S one m prim.Map4 4 at a (b ∷ c ∷ d ∷ []) e ca (cb, (cc, (cd, tt))) ce flat (λ row ds. refl) (λ bs. refl) (λ f ds. refl) waits4 runs4 b (c ∷ d ∷ []) refl (λ Q f h. evaluates N types τ W S one Q (Call (Primitive_value prim.Map4 at no_value) f) h) φ

  waits5 : (Q : FlatValue → Type 0) (f : FlatValue) (xs : List FlatValue) (v : FlatValue) → length (xs ++ v ∷ []) < 5 → Gives (There W.is_there) Q (gives 0 (Primitive_value prim.Map5 at (value_and f (values (xs ++ v ∷ []))))) → Gives (There W.is_there) Q (calls W (Primitive_value prim.Map5 at (value_and f (values xs))) v)
  unfolding plain
  waits5 Q f [] v l h = evaluates N types τ W S one Q (Call (Primitive_value prim.Map5 at (value_and f no_value)) v) h
  waits5 Q f (x ∷ []) v l h = evaluates N types τ W S one Q (Call (Primitive_value prim.Map5 at (value_and f (value_and x no_value))) v) h
  waits5 Q f (x ∷ y ∷ []) v l h = evaluates N types τ W S one Q (Call (Primitive_value prim.Map5 at (value_and f (value_and x (value_and y no_value)))) v) h
  waits5 Q f (x ∷ y ∷ z ∷ []) v l h = evaluates N types τ W S one Q (Call (Primitive_value prim.Map5 at (value_and f (value_and x (value_and y (value_and z no_value))))) v) h
  waits5 Q f (x ∷ y ∷ z ∷ u ∷ xs) v l h = absurd (let z = some_more xs v in omega (arith, l, z))

  runs5 : (Q : FlatValue → Type 0) (f : FlatValue) (xs : List FlatValue) (v : FlatValue) → length (xs ++ v ∷ []) ≡ 5 → Gives (There W.is_there) Q (Then (the (all_data (xs ++ v ∷ []))) (λ ds. Then (the (job false (row_told ((flat_names (told W)).lang W.tops) (Of_function prim.Map5 f ds)) prim.Map5 at ds)) (job_of ((flat_names (told W)).lang W.tops) (plain W.tight) W.budget (means W) 5 f)))
      → Gives (There W.is_there) Q (calls W (Primitive_value prim.Map5 at (value_and f (values xs))) v)
  unfolding plain
  runs5 Q f [] v l h = absurd (omega (arith, l))
  runs5 Q f (x ∷ []) v l h = absurd (omega (arith, l))
  runs5 Q f (x ∷ y ∷ []) v l h = absurd (omega (arith, l))
  runs5 Q f (x ∷ y ∷ z ∷ []) v l h = absurd (omega (arith, l))
  runs5 Q f (x ∷ y ∷ z ∷ u ∷ []) v l h = evaluates N types τ W S one Q (Call (Primitive_value prim.Map5 at (value_and f (value_and x (value_and y (value_and z (value_and u no_value)))))) v) h
  runs5 Q f (x ∷ y ∷ z ∷ u ∷ w ∷ xs) v l h = absurd (let z = some_more xs v in omega (arith, l, z))

  pub map5_fits : (a b c d e f : Size) → Closed_data a → Closed_data b → Closed_data c → Closed_data d → Closed_data e → Closed_data f → Flat_result f → (φ : Frames) → Fits N τ W.sizing W.is_there (calls W) m φ (Fun 0 (Fun 0 a (Fun 0 b (Fun 0 c (Fun 0 d (Fun 0 e f))))) (Fun 1 (Level (Bound 0 0) a) (Fun 0 (Level (Bound 1 0) b) (Fun 0 (Level (Bound 2 0) c) (Fun 0 (Level (Bound 3 0) d) (Fun 0 (Level (Bound 4 0) e) (Level (Bound 4 0) f))))))) (Primitive_value prim.Map5 at no_value)
  unfolding plain job primitive_tells row_told flat_names
  map5_fits a b c d e f ca cb cc cd ce cf flat φ = several_fit N types τ W S one m prim.Map5 5 at a (b ∷ c ∷ d ∷ e ∷ []) f ca (cb, (cc, (cd, (ce, tt)))) cf flat (λ row ds. refl) (λ bs. refl) (λ f ds. refl) waits5 runs5 b (c ∷ d ∷ e ∷ []) refl (λ Q f h. evaluates N types τ W S one Q (Call (Primitive_value prim.Map5 at no_value) f) h) φ
