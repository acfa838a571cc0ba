-- Values whose sets are those of the checker and whole ones.
use Rattle.std.proofs.Common.{◌≡◌, ℕ, zero, suc, ◌+◌, Bool, true, false, cond, List, [], ◌∷◌, ◌++◌, Option, Some, None, refl, sym, ap, ap₂, subst}
use Rattle.std.specs.Prelude.{nat_le}
use Rattle.fut_ast.specs.Sorts.{Text}
use Rattle.fut_types.specs.declared.Head.{Head}
use Rattle.fut_types.specs.declared.Head.TheVariants as head
use Rattle.fut_types.specs.Types.{Ty, Var, Made, Tys, none, more, Kinds, level}
use Rattle.fut_types.specs.Shapes.{place}
use Rattle.fut_typing.specs.Names.{Names}
use Rattle.fut_aliases.specs.Aliases.{Set}
use Rattle.fut_aliases.specs.Stars.{Stars, Leaf, Arrow, Row, StarRow, no_star, star_and}
use Rattle.fut_aliases.specs.Values.{Value, Scalar, Array, Function, Parts, Values, no_value, value_and, of_kind, of_type, of_types, unless, with_stars, all_with_stars, at_type, all_at_type, components, all_components, all_of, aliases, count, how_many, nth, with_sets, all_with_sets, having, united, unite, Component, all_starred, starring, all_starring, those_with, taken, left, functions, all_functions, ascribed, all_ascribed, part, with_part, part_named, with_part_named}
use Rattle.alias_laws.proofs.Worlds.{World, SetR, empties, unions, Grows, set_on}

mutual
  pub data ValueR (w : World) : Value → Value → Type 0 where
    scalars : ValueR w Scalar Scalar
    arrays : {s s' : Set} → SetR w s s' → ValueR w (Array s) (Array s')
    functions_are : {s s' : Set} {u : Stars} → SetR w s s' → ValueR w (Function s u) (Function s' u)
    parts_are : {h : Head} {vs vs' : Values} → ValuesR w vs vs' → ValueR w (Parts h vs) (Parts h vs')

  pub data ValuesR (w : World) : Values → Values → Type 0 where
    no_values : ValuesR w no_value no_value
    more_values : {v v' : Value} {vs vs' : Values} → ValueR w v v' → ValuesR w vs vs' → ValuesR w (value_and v vs) (value_and v' vs')

pub data SetsR (w : World) : List Set → List Set → Type 0 where
  no_sets : SetsR w [] []
  more_sets : {s s' : Set} {ss ss' : List Set} → SetR w s s' → SetsR w ss ss' → SetsR w (s ∷ ss) (s' ∷ ss')

pub data ComponentsR (w : World) : List Component → List Component → Type 0 where
  no_components : ComponentsR w [] []
  more_components : {b : Bool} {s s' : Set} {cs cs' : List Component} → SetR w s s' → ComponentsR w cs cs' → ComponentsR w (record { starred = b; set = s } ∷ cs) (record { starred = b; set = s' } ∷ cs')

mutual
  pub value_on : {w w2 : World} {v v' : Value} → Grows w w2 → ValueR w v v' → ValueR w2 v v'
  value_on g scalars = scalars
  value_on g (arrays p) = arrays (set_on g p)
  value_on g (functions_are p) = functions_are (set_on g p)
  value_on g (parts_are ps) = parts_are (values_on g ps)

  pub values_on : {w w2 : World} {vs vs' : Values} → Grows w w2 → ValuesR w vs vs' → ValuesR w2 vs vs'
  values_on g no_values = no_values
  values_on g (more_values p ps) = more_values (value_on g p) (values_on g ps)

pub sets_on : {w w2 : World} {ss ss' : List Set} → Grows w w2 → SetsR w ss ss' → SetsR w2 ss ss'
sets_on g no_sets = no_sets
sets_on g (more_sets p ps) = more_sets (set_on g p) (sets_on g ps)

module _ {w : World} where
  -- ---- of types

  of_kind_is : (k : ℕ) {s s' : Set} → SetR w s s' → ValueR w (of_kind k s) (of_kind k s')
  of_kind_is k {s} {s'} p = at_level (nat_le 2 k)
    where
      at_level : (b : Bool) → ValueR w (cond b Scalar (Array s)) (cond b Scalar (Array s'))
      at_level true = scalars
      at_level false = arrays p

  mutual
    unfolding of_type of_types

    pub of_type_is : (K : Kinds) {s s' : Set} → SetR w s s' → (t : Ty) → ValueR w (of_type K s t) (of_type K s' t)
    of_type_is K p (Var v) = of_kind_is (level (K v)) p
    of_type_is K p (Made (head.Scalar k) ts) = scalars
    of_type_is K p (Made head.Array ts) = arrays p
    of_type_is K p (Made head.Tuple ts) = parts_are (of_types_are K p ts)
    of_type_is K p (Made (head.Record n) ts) = parts_are (of_types_are K p ts)
    of_type_is K p (Made head.Fun ts) = functions_are p
    of_type_is K p (Made (head.Rigid n k) ts) = of_kind_is (level k) p
    of_type_is K p (Made (head.Abstract n b) ts) = arrays p

    of_types_are : (K : Kinds) {s s' : Set} → SetR w s s' → (ts : Tys) → ValuesR w (of_types K s ts) (of_types K s' ts)
    of_types_are K p none = no_values
    of_types_are K p (more t ts) = more_values (of_type_is K p t) (of_types_are K p ts)

  unless_is : (b : Bool) {s s' : Set} → SetR w s s' → SetR w (unless b s) (unless b s')
  unless_is true p = empties w
  unless_is false p = p

  mutual
    unfolding with_stars all_with_stars

    pub with_stars_is : (K : Kinds) {s s' : Set} → SetR w s s' → (u : Stars) (t : Ty) → ValueR w (with_stars K s u t) (with_stars K s' u t)
    with_stars_is K p (Leaf b) t = of_type_is K (unless_is b p) t
    with_stars_is K p (Arrow b q r) t = functions_are (unless_is b p)
    with_stars_is K p (Row us) (Made h ts) = parts_are (all_with_stars_are K p us ts)
    with_stars_is K p (Row us) (Var v) = of_type_is K p (Var v)

    all_with_stars_are : (K : Kinds) {s s' : Set} → SetR w s s' → (us : StarRow) (ts : Tys) → ValuesR w (all_with_stars K s us ts) (all_with_stars K s' us ts)
    all_with_stars_are K p (star_and u us) (more t ts) = more_values (with_stars_is K p u t) (all_with_stars_are K p us ts)
    all_with_stars_are K p (star_and u us) none = no_values
    all_with_stars_are K p no_star ts = no_values

  mutual
    unfolding at_type all_at_type

    pub at_type_is : (K : Kinds) (t : Ty) {v v' : Value} → ValueR w v v' → ValueR w (at_type K t v) (at_type K t v')
    at_type_is K t (arrays p) = of_type_is K p t
    at_type_is K (Made h ts) (parts_are ps) = parts_are (all_at_type_are K ts ps)
    at_type_is K (Var v) (parts_are ps) = parts_are ps
    at_type_is K (Var v) scalars = scalars
    at_type_is K (Made h ts) scalars = scalars
    at_type_is K (Var v) (functions_are p) = functions_are p
    at_type_is K (Made h ts) (functions_are p) = functions_are p

    all_at_type_are : (K : Kinds) (ts : Tys) {vs vs' : Values} → ValuesR w vs vs' → ValuesR w (all_at_type K ts vs) (all_at_type K ts vs')
    all_at_type_are K (more t ts) (more_values p ps) = more_values (at_type_is K t p) (all_at_type_are K ts ps)
    all_at_type_are K (more t ts) no_values = no_values
    all_at_type_are K none no_values = no_values
    all_at_type_are K none (more_values p ps) = more_values p ps

  -- ---- components

  pub sets_together : {ss ss' ts ts' : List Set} → SetsR w ss ss' → SetsR w ts ts' → SetsR w (ss ++ ts) (ss' ++ ts')
  sets_together no_sets q = q
  sets_together (more_sets p ps) q = more_sets p (sets_together ps q)

  mutual
    unfolding components all_components

    pub components_are : {v v' : Value} → ValueR w v v' → SetsR w (components v) (components v')
    components_are scalars = no_sets
    components_are (arrays p) = more_sets p no_sets
    components_are (functions_are p) = more_sets p no_sets
    components_are (parts_are ps) = all_components_are ps

    all_components_are : {vs vs' : Values} → ValuesR w vs vs' → SetsR w (all_components vs) (all_components vs')
    all_components_are no_values = no_sets
    all_components_are (more_values p ps) = sets_together (components_are p) (all_components_are ps)

  all_of_is : {ss ss' : List Set} → SetsR w ss ss' → SetR w (all_of ss) (all_of ss')
  all_of_is no_sets = empties w
  all_of_is (more_sets p ps) = unions p (all_of_is ps)

  pub aliases_are : {v v' : Value} → ValueR w v v' → SetR w (aliases v) (aliases v')
  aliases_are p = all_of_is (components_are p)

  pub count_is : {ss ss' : List Set} → SetsR w ss ss' → count ss' ≡ count ss
  count_is no_sets = refl
  count_is (more_sets p ps) = ap suc (count_is ps)

  pub nth_is : {ss ss' : List Set} → SetsR w ss ss' → (i : ℕ) → SetR w (nth ss i) (nth ss' i)
  nth_is no_sets i = empties w
  nth_is (more_sets p ps) zero = p
  nth_is (more_sets p ps) (suc i) = nth_is ps i

  mutual
    unfolding with_sets all_with_sets

    pub with_sets_is : {f f' : ℕ → Set → Set} → ((i : ℕ) (s s' : Set) → SetR w s s' → SetR w (f i s) (f' i s')) → (i : ℕ) {v v' : Value} → ValueR w v v' → ValueR w (with_sets f i v) (with_sets f' i v')
    with_sets_is fs i scalars = scalars
    with_sets_is fs i (arrays p) = arrays (fs i _ _ p)
    with_sets_is fs i (functions_are p) = functions_are (fs i _ _ p)
    with_sets_is fs i (parts_are ps) = parts_are (all_with_sets_are fs i ps)

    all_with_sets_are : {f f' : ℕ → Set → Set} → ((i : ℕ) (s s' : Set) → SetR w s s' → SetR w (f i s) (f' i s')) → (i : ℕ) {vs vs' : Values} → ValuesR w vs vs' → ValuesR w (all_with_sets f i vs) (all_with_sets f' i vs')
    all_with_sets_are fs i no_values = no_values
    all_with_sets_are {f} {f'} fs i (more_values {v} {v'} {vs} {vs'} p ps) = more_values (with_sets_is fs i p) (subst (λ k. ValuesR w (all_with_sets f (i + how_many v) vs) (all_with_sets f' (i + k) vs')) (sym (count_is (components_are p))) (all_with_sets_are fs (i + how_many v) ps))

  pub having_is : {ss ss' : List Set} → SetsR w ss ss' → {v v' : Value} → ValueR w v v' → ValueR w (having ss v) (having ss' v')
  having_is ps q = with_sets_is (λ i s s' p. nth_is ps i) 0 q

  united_are : {ss ss' ts ts' : List Set} → SetsR w ss ss' → SetsR w ts ts' → SetsR w (united ss ts) (united ss' ts')
  united_are no_sets q = no_sets
  united_are (more_sets p ps) no_sets = more_sets p ps
  united_are (more_sets p ps) (more_sets q qs) = more_sets (unions p q) (united_are ps qs)

  pub unite_is : {v v' u u' : Value} → ValueR w v v' → ValueR w u u' → ValueR w (unite v u) (unite v' u')
  unite_is p q = having_is (united_are (components_are p) (components_are q)) p

  -- ---- stars and components

  pub components_together : {cs cs' ds ds' : List Component} → ComponentsR w cs cs' → ComponentsR w ds ds' → ComponentsR w (cs ++ ds) (cs' ++ ds')
  components_together no_components q = q
  components_together (more_components p ps) q = more_components p (components_together ps q)

  all_starred_is : (b : Bool) {ss ss' : List Set} → SetsR w ss ss' → ComponentsR w (all_starred b ss) (all_starred b ss')
  all_starred_is b no_sets = no_components
  all_starred_is b (more_sets p ps) = more_components p (all_starred_is b ps)

  mutual
    unfolding starring all_starring

    pub starring_is : (u : Stars) {v v' : Value} → ValueR w v v' → ComponentsR w (starring u v) (starring u v')
    starring_is (Leaf b) p = all_starred_is b (components_are p)
    starring_is (Arrow b q r) p = all_starred_is b (components_are p)
    starring_is (Row us) (parts_are ps) = all_starring_are us ps
    starring_is (Row us) scalars = all_starred_is false (components_are scalars)
    starring_is (Row us) (arrays p) = all_starred_is false (components_are (arrays p))
    starring_is (Row us) (functions_are p) = all_starred_is false (components_are (functions_are p))

    all_starring_are : (us : StarRow) {vs vs' : Values} → ValuesR w vs vs' → ComponentsR w (all_starring us vs) (all_starring us vs')
    all_starring_are (star_and u us) (more_values p ps) = components_together (starring_is u p) (all_starring_are us ps)
    all_starring_are (star_and u us) no_values = no_components
    all_starring_are no_star ps = no_components

  pub cond_is : (b : Bool) {s s' t t' : Set} → SetR w s s' → SetR w t t' → SetR w (cond b s t) (cond b s' t')
  cond_is true p q = p
  cond_is false p q = q

  those_with_are : (b : Bool) {cs cs' : List Component} → ComponentsR w cs cs' → SetR w (those_with b cs) (those_with b cs')
  those_with_are true no_components = empties w
  those_with_are false no_components = empties w
  those_with_are true (more_components {b} p ps) = cond_is b (unions p (those_with_are true ps)) (those_with_are true ps)
  those_with_are false (more_components {b} p ps) = cond_is b (those_with_are false ps) (unions p (those_with_are false ps))

  pub taken_is : (u : Stars) {v v' : Value} → ValueR w v v' → SetR w (taken u v) (taken u v')
  taken_is u p = those_with_are true (starring_is u p)

  pub left_is : (u : Stars) {v v' : Value} → ValueR w v v' → SetR w (left u v) (left u v')
  left_is u p = those_with_are false (starring_is u p)

  mutual
    unfolding functions all_functions

    pub functions_same : {v v' : Value} → ValueR w v v' → functions v' ≡ functions v
    functions_same scalars = refl
    functions_same (arrays p) = refl
    functions_same (functions_are p) = refl
    functions_same (parts_are ps) = ap Row (all_functions_same ps)

    all_functions_same : {vs vs' : Values} → ValuesR w vs vs' → all_functions vs' ≡ all_functions vs
    all_functions_same no_values = refl
    all_functions_same (more_values p ps) = ap₂ star_and (functions_same p) (all_functions_same ps)

  mutual
    unfolding ascribed all_ascribed

    pub ascribed_is : (u : Stars) {v v' : Value} → ValueR w v v' → ValueR w (ascribed u v) (ascribed u v')
    ascribed_is (Leaf b) p = p
    ascribed_is (Arrow b q r) (functions_are p) = functions_are p
    ascribed_is (Arrow b q r) scalars = scalars
    ascribed_is (Arrow b q r) (arrays p) = arrays p
    ascribed_is (Arrow b q r) (parts_are ps) = parts_are ps
    ascribed_is (Row us) (parts_are ps) = parts_are (all_ascribed_are us ps)
    ascribed_is (Row us) scalars = scalars
    ascribed_is (Row us) (arrays p) = arrays p
    ascribed_is (Row us) (functions_are p) = functions_are p

    all_ascribed_are : (us : StarRow) {vs vs' : Values} → ValuesR w vs vs' → ValuesR w (all_ascribed us vs) (all_ascribed us vs')
    all_ascribed_are (star_and u us) (more_values p ps) = more_values (ascribed_is u p) (all_ascribed_are us ps)
    all_ascribed_are (star_and u us) no_values = no_values
    all_ascribed_are no_star ps = ps

  -- ---- parts

  part_is : (i : Option ℕ) {vs vs' : Values} → ValuesR w vs vs' → ValueR w (part i vs) (part i vs')
  part_is None ps = scalars
  part_is (Some i) no_values = scalars
  part_is (Some zero) (more_values p ps) = p
  part_is (Some (suc i)) (more_values p ps) = part_is (Some i) ps

  with_part_is : (i : Option ℕ) {v v' : Value} {vs vs' : Values} → ValueR w v v' → ValuesR w vs vs' → ValuesR w (with_part i v vs) (with_part i v' vs')
  with_part_is None p ps = ps
  with_part_is (Some i) p no_values = no_values
  with_part_is (Some zero) p (more_values q qs) = more_values p qs
  with_part_is (Some (suc i)) p (more_values q qs) = more_values q (with_part_is (Some i) p qs)

  pub part_named_is : (N : Names) (f : Text) {v v' : Value} → ValueR w v v' → ValueR w (part_named N f v) (part_named N f v')
  unfolding part_named
  part_named_is N f (parts_are {h} ps) = part_is (place N.shapes (N.label f) h) ps
  part_named_is N f scalars = scalars
  part_named_is N f (arrays p) = arrays p
  part_named_is N f (functions_are p) = functions_are p

  pub with_part_named_is : (N : Names) (f : Text) {u u' v v' : Value} → ValueR w u u' → ValueR w v v' → ValueR w (with_part_named N f u v) (with_part_named N f u' v')
  unfolding with_part_named
  with_part_named_is N f p (parts_are {h} ps) = parts_are (with_part_is (place N.shapes (N.label f) h) p ps)
  with_part_named_is N f p scalars = scalars
  with_part_named_is N f p (arrays q) = arrays q
  with_part_named_is N f p (functions_are q) = functions_are q
