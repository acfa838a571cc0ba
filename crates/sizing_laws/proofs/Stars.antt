-- Stars and values by component, by two numberings: values are renumbered as types are, stars and sets have no records.
use Rattle.std.proofs.Common.{◌≡◌, ℕ, zero, suc, ◌+◌, Bool, true, false, nat_le, cond, List, [], ◌∷◌, ◌++◌, Option, Some, None, refl, ap, ◌∙◌}
use Rattle.fut_ast.specs.Sorts.{Text}
use Rattle.fut_scalar.specs.declared.place.BindId.{BindId}
use Rattle.fut_flat.specs.declared.prim.Ref.{Ref}
use Rattle.fut_flat.specs.Terms.{Type_use, Array_type, Unique_type, Arrow_type, Tuple_type, Record_type, Type_terms, no_type, type_and}
use Rattle.fut_flat.specs.Erased.{FlatType}
use Rattle.fut_types.specs.declared.Head.{Head}
use Rattle.fut_types.specs.declared.Head.TheVariants as head
use Rattle.fut_types.specs.Types.{Ty, Var, Made, Tys, none, more, Kinds, level}
use Rattle.fut_types.specs.Shapes.{place, part_at}
use Rattle.fut_typing.specs.Names.{Names, AreNames}
use Rattle.fut_aliases.specs.Aliases.{Set, Naming}
use Rattle.fut_aliases.specs.Stars.{Stars, Leaf, Arrow, Row, StarRow, star_and, spread, all_spread, with_star, of_part, written_stars, tuple_stars, record_stars}
use Rattle.fut_aliases.specs.Values.{Value, Scalar, Array, Function, Parts, Values, no_value, value_and, of_kind, of_type, of_types, unless, with_stars, all_with_stars, at_type, all_at_type, components, all_components, aliases, all_of, how_many, count, with_sets, all_with_sets, having, nth, united, unite, named, all_named, starring, all_starring, all_starred, functions, all_functions, ascribed, all_ascribed, part, with_part, part_named, with_part_named}
use Rattle.sizing_laws.specs.Renumbering.{Renumbers, renumbered_head, renamed_type, renamed_types}
use Rattle.sizing_laws.proofs.Written.{place_same}

module _ (number : ℕ → ℕ) where
  abbrev mutual
    pub to_value : Value → Value
    to_value Scalar = Scalar
    to_value (Array s) = Array s
    to_value (Function s u) = Function s u
    to_value (Parts h vs) = Parts (renumbered_head number h) (to_values vs)

    pub to_values : Values → Values
    to_values no_value = no_value
    to_values (value_and v vs) = value_and (to_value v) (to_values vs)

  kind_to : (k : ℕ) (s : Set) → of_kind k s ≡ to_value (of_kind k s)
  kind_to k s = by_test (nat_le 2 k)
    where
      by_test : (b : Bool) → cond b Scalar (Array s) ≡ to_value (cond b Scalar (Array s))
      by_test true = refl
      by_test false = refl

-- ---- with other names for variables

module _ (number variable : ℕ → ℕ) where
  abbrev to_type : Ty → Ty
  to_type = renamed_type number variable

  abbrev to_types : Tys → Tys
  to_types = renamed_types number variable

  abbrev val : Value → Value
  val = to_value number

  abbrev vals : Values → Values
  vals = to_values number

  -- ---- stars and values of a type

  mutual
    unfolding spread

    pub spread_same : (b : Bool) (t : Ty) → spread b (to_type t) ≡ spread b t
    spread_same b (Made head.Fun (more p (more r none))) = λ i. Arrow b (spread_same false p i) (spread_same false r i)
    spread_same b (Made head.Tuple ts) = ap Row (all_spread_same b ts)
    spread_same b (Made (head.Record n) ts) = ap Row (all_spread_same b ts)
    spread_same b t = refl

    pub all_spread_same : (b : Bool) (ts : Tys) → all_spread b (to_types ts) ≡ all_spread b ts
    all_spread_same b none = refl
    all_spread_same b (more t ts) = λ i. star_and (spread_same b t i) (all_spread_same b ts i)

  -- the type of a part
  abbrev pub if_type : Option Ty → Option Ty
  if_type (Some t) = Some (to_type t)
  if_type None = None

  pub part_at_to : (o : Option ℕ) (ts : Tys) → part_at o (to_types ts) ≡ if_type (part_at o ts)
  unfolding part_at
  part_at_to None ts = refl
  part_at_to (Some i) none = refl
  part_at_to (Some zero) (more t ts) = refl
  part_at_to (Some (suc i)) (more t ts) = part_at_to (Some i) ts

  of_part_same : (o : Option Ty) (f g : Ty → Stars) → ((t : Ty) → g (to_type t) ≡ f t) → of_part (if_type o) g ≡ of_part o f
  of_part_same (Some t) f g e = e t
  of_part_same None f g e = refl

  -- the names keep the kinds of variables
  module _ (K : Kinds) (keeps : (v : ℕ) → K (variable v) ≡ K v) where
    mutual
      unfolding of_type

      pub of_type_value : (s : Set) (t : Ty) → of_type K s (to_type t) ≡ val (of_type K s t)
      of_type_value s (Var v) = ap (λ k. of_kind (level k) s) (keeps v) ∙ kind_to number (level (K v)) s
      of_type_value s (Made (head.Scalar k) ts) = refl
      of_type_value s (Made head.Tuple ts) = ap (Parts head.Tuple) (of_types_value s ts)
      of_type_value s (Made (head.Record n) ts) = ap (Parts (head.Record (number n))) (of_types_value s ts)
      of_type_value s (Made head.Fun ts) = ap (Function s) (spread_same false (Made head.Fun ts))
      of_type_value s (Made (head.Rigid n k) ts) = kind_to number (level k) s
      of_type_value s t = refl

      of_types_value : (s : Set) (ts : Tys) → of_types K s (to_types ts) ≡ vals (of_types K s ts)
      of_types_value s none = refl
      of_types_value s (more t ts) = λ i. value_and (of_type_value s t i) (of_types_value s ts i)

    mutual
      unfolding with_stars

      pub with_stars_value : (s : Set) (u : Stars) (t : Ty) → with_stars K s u (to_type t) ≡ val (with_stars K s u t)
      with_stars_value s (Leaf b) t = of_type_value (unless b s) t
      with_stars_value s (Arrow b p r) t = refl
      with_stars_value s (Row us) (Made h ts) = ap (Parts (renumbered_head number h)) (all_with_stars_value s us ts)
      with_stars_value s (Row us) (Var v) = of_type_value s (Var v)

      all_with_stars_value : (s : Set) (us : StarRow) (ts : Tys) → all_with_stars K s us (to_types ts) ≡ vals (all_with_stars K s us ts)
      all_with_stars_value s (star_and u us) (more t ts) = λ i. value_and (with_stars_value s u t i) (all_with_stars_value s us ts i)
      all_with_stars_value s us ts = refl

    mutual
      unfolding at_type

      pub at_type_value : (t : Ty) (v : Value) → at_type K (to_type t) (val v) ≡ val (at_type K t v)
      at_type_value t (Array s) = of_type_value s t
      at_type_value (Made h ts) (Parts g vs) = ap (Parts (renumbered_head number g)) (all_at_type_value ts vs)
      at_type_value t v = refl

      all_at_type_value : (ts : Tys) (vs : Values) → all_at_type K (to_types ts) (vals vs) ≡ vals (all_at_type K ts vs)
      all_at_type_value (more t ts) (value_and v vs) = λ i. value_and (at_type_value t v i) (all_at_type_value ts vs i)
      all_at_type_value ts vs = refl

module _ (number : ℕ → ℕ) where
  -- ---- components

  mutual
    unfolding components

    pub components_same : (v : Value) → components (to_value number v) ≡ components v
    components_same Scalar = refl
    components_same (Array s) = refl
    components_same (Function s u) = refl
    components_same (Parts h vs) = all_components_same vs

    all_components_same : (vs : Values) → all_components (to_values number vs) ≡ all_components vs
    all_components_same no_value = refl
    all_components_same (value_and v vs) = λ i. components_same v i ++ all_components_same vs i

  pub aliases_same : (v : Value) → aliases (to_value number v) ≡ aliases v
  aliases_same v = ap all_of (components_same v)

  how_many_same : (v : Value) → how_many (to_value number v) ≡ how_many v
  how_many_same v = ap count (components_same v)

  mutual
    unfolding with_sets

    with_sets_value : (set : ℕ → Set → Set) (i : ℕ) (v : Value) → with_sets set i (to_value number v) ≡ to_value number (with_sets set i v)
    with_sets_value set i Scalar = refl
    with_sets_value set i (Array s) = refl
    with_sets_value set i (Function s u) = refl
    with_sets_value set i (Parts h vs) = ap (Parts (renumbered_head number h)) (all_with_sets_value set i vs)

    all_with_sets_value : (set : ℕ → Set → Set) (i : ℕ) (vs : Values) → all_with_sets set i (to_values number vs) ≡ to_values number (all_with_sets set i vs)
    all_with_sets_value set i no_value = refl
    all_with_sets_value set i (value_and v vs) = λ j. value_and (with_sets_value set i v j) (((λ k. all_with_sets set (i + how_many_same v k) (to_values number vs)) ∙ all_with_sets_value set (i + how_many v) vs) j)

  pub having_value : (ss : List Set) (v : Value) → having ss (to_value number v) ≡ to_value number (having ss v)
  having_value ss v = with_sets_value (λ i s. nth ss i) 0 v

  pub unite_value : (v w : Value) → unite (to_value number v) (to_value number w) ≡ to_value number (unite v w)
  unite_value v w = (λ i. having (united (components_same v i) (components_same w i)) (to_value number v)) ∙ having_value (united (components v) (components w)) v

  module _ (naming : Naming) where
    mutual
      unfolding named

      pub named_value : (parameter : Bool) (n : ℕ) (b : BindId) (i : ℕ) (v : Value) → named naming parameter n b i (to_value number v) ≡ to_value number (named naming parameter n b i v)
      named_value parameter n b i Scalar = refl
      named_value parameter n b i (Array s) = refl
      named_value parameter n b i (Function s u) = refl
      named_value parameter n b i (Parts h vs) = ap (Parts (renumbered_head number h)) (all_named_value parameter n b i vs)

      all_named_value : (parameter : Bool) (n : ℕ) (b : BindId) (i : ℕ) (vs : Values) → all_named naming parameter n b i (to_values number vs) ≡ to_values number (all_named naming parameter n b i vs)
      all_named_value parameter n b i no_value = refl
      all_named_value parameter n b i (value_and v vs) = λ j. value_and (named_value parameter n b i v j) (((λ k. all_named naming parameter n b (i + how_many_same v k) (to_values number vs)) ∙ all_named_value parameter n b (i + how_many v) vs) j)

  -- ---- stars and components

  mutual
    unfolding starring

    pub starring_same : (u : Stars) (v : Value) → starring u (to_value number v) ≡ starring u v
    starring_same (Leaf b) v = ap (all_starred b) (components_same v)
    starring_same (Arrow b p r) v = ap (all_starred b) (components_same v)
    starring_same (Row us) (Parts h vs) = all_starring_same us vs
    starring_same (Row us) v = ap (all_starred false) (components_same v)

    all_starring_same : (us : StarRow) (vs : Values) → all_starring us (to_values number vs) ≡ all_starring us vs
    all_starring_same (star_and u us) (value_and v vs) = λ i. starring_same u v i ++ all_starring_same us vs i
    all_starring_same us vs = refl

  mutual
    unfolding functions

    pub functions_same : (v : Value) → functions (to_value number v) ≡ functions v
    functions_same (Parts h vs) = ap Row (all_functions_same vs)
    functions_same v = refl

    all_functions_same : (vs : Values) → all_functions (to_values number vs) ≡ all_functions vs
    all_functions_same no_value = refl
    all_functions_same (value_and v vs) = λ i. star_and (functions_same v i) (all_functions_same vs i)

  mutual
    unfolding ascribed

    pub ascribed_value : (u : Stars) (v : Value) → ascribed u (to_value number v) ≡ to_value number (ascribed u v)
    ascribed_value (Arrow b p r) (Function s u) = refl
    ascribed_value (Row us) (Parts h vs) = ap (Parts (renumbered_head number h)) (all_ascribed_value us vs)
    ascribed_value u v = refl

    all_ascribed_value : (us : StarRow) (vs : Values) → all_ascribed us (to_values number vs) ≡ to_values number (all_ascribed us vs)
    all_ascribed_value (star_and u us) (value_and v vs) = λ i. value_and (ascribed_value u v i) (all_ascribed_value us vs i)
    all_ascribed_value us vs = refl

  part_value : (o : Option ℕ) (vs : Values) → part o (to_values number vs) ≡ to_value number (part o vs)
  part_value None vs = refl
  part_value (Some i) no_value = refl
  part_value (Some zero) (value_and v vs) = refl
  part_value (Some (suc i)) (value_and v vs) = part_value (Some i) vs

  with_part_value : (o : Option ℕ) (w : Value) (vs : Values) → with_part o (to_value number w) (to_values number vs) ≡ to_values number (with_part o w vs)
  with_part_value None w vs = refl
  with_part_value (Some i) w no_value = refl
  with_part_value (Some zero) w (value_and v vs) = refl
  with_part_value (Some (suc i)) w (value_and v vs) = ap (value_and (to_value number v)) (with_part_value (Some i) w vs)

module _ (M N : Names) (m : AreNames M) (n : AreNames N) (number : ℕ → ℕ) (renumbers : Renumbers M N number) where
  pub part_named_value : (s : Text) (v : Value) → part_named N s (to_value number v) ≡ to_value number (part_named M s v)
  unfolding part_named
  part_named_value s (Parts h vs) = (λ i. part (place_same M N m n number renumbers s h i) (to_values number vs)) ∙ part_value number (place M.shapes (M.label s) h) vs
  part_named_value s v = refl

  pub with_part_named_value : (s : Text) (w v : Value) → with_part_named N s (to_value number w) (to_value number v) ≡ to_value number (with_part_named M s w v)
  unfolding with_part_named
  with_part_named_value s w (Parts h vs) = ap (Parts (renumbered_head number h)) ((λ i. with_part (place_same M N m n number renumbers s h i) (to_value number w) (to_values number vs)) ∙ with_part_value number (place M.shapes (M.label s) h) w vs)
  with_part_named_value s w v = refl

  module _ (variable : ℕ → ℕ) where
    mutual
      unfolding written_stars

      pub written_same : (b : Bool) (e : FlatType) (t : Ty) → written_stars N b e (renamed_type number variable t) ≡ written_stars M b e t
      written_same b (Unique_type e) t = written_same true e t
      written_same b (Arrow_type c p r) (Made head.Fun (more t (more u none))) = λ i. Arrow b (written_same false p t i) (written_same false r u i)
      written_same b (Tuple_type es) (Made head.Tuple ts) = ap Row (tuple_same b es ts)
      written_same b (Record_type fs es) (Made (head.Record k) ts) = ap Row (ap (record_stars N b fs es (head.Record (number k)) (renamed_types number variable ts)) (all_spread_same number variable b ts) ∙ record_same b fs es (head.Record k) ts (all_spread b ts))
      written_same b (Arrow_type c p r) t = spread_same number variable b t
      written_same b (Tuple_type es) t = spread_same number variable b t
      written_same b (Record_type fs es) t = spread_same number variable b t
      written_same b (Type_use r xs) t = spread_same number variable b t
      written_same b (Array_type s e) t = spread_same number variable b t

      tuple_same : (b : Bool) (es : Type_terms Ref BindId) (ts : Tys) → tuple_stars N b es (renamed_types number variable ts) ≡ tuple_stars M b es ts
      tuple_same b (type_and e es) (more t ts) = λ i. star_and (written_same b e t i) (tuple_same b es ts i)
      tuple_same b es ts = refl

      record_same : (b : Bool) (fs : List Text) (es : Type_terms Ref BindId) (h : Head) (ts : Tys) (row : StarRow) → record_stars N b fs es (renumbered_head number h) (renamed_types number variable ts) row ≡ record_stars M b fs es h ts row
      record_same b (f ∷ fs) (type_and e es) h ts row =
          (λ i. record_stars N b fs es (renumbered_head number h) (renamed_types number variable ts) (with_star (place_same M N m n number renumbers f h i)
          (((λ j. of_part (((λ k. part_at (place_same M N m n number renumbers f h k) (renamed_types number variable ts)) ∙ part_at_to number variable (place M.shapes (M.label f) h) ts) j) (λ t. written_stars N b e t))
          ∙ of_part_same number variable (part_at (place M.shapes (M.label f) h) ts) (λ t. written_stars M b e t) (λ t. written_stars N b e t) (λ t. written_same b e t)) i) row))
          ∙ record_same b fs es h ts (with_star (place M.shapes (M.label f) h) (of_part (part_at (place M.shapes (M.label f) h) ts) (λ t. written_stars M b e t)) row)
      record_same b (f ∷ fs) no_type h ts row = refl
      record_same b [] es h ts row = refl
