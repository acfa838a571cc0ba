-- Values at other stars and other types, form by form.
use Rattle.std.proofs.Common.{◌≡◌, ℕ, zero, suc, ◌+◌, ◌<◌, ◌≤◌, List, [], ◌∷◌, ◌++◌, length, get_or, drop, Bool, false, min, refl, sym, ap, ◌∙◌, arith}
use Rattle.fut_types.specs.declared.Head.{Head}
use Rattle.fut_types.specs.Types.{Ty, Var, Made, Tys, more, Kinds}
use Rattle.fut_aliases.specs.Aliases.{Set}
use Rattle.fut_aliases.specs.Stars.{Stars, Leaf, Arrow, Row, StarRow, star_and}
use Rattle.fut_aliases.specs.Values.{Value, Scalar, Array, Function, Parts, Values, value_and, of_type, functions, all_functions, ascribed, all_ascribed, at_type, all_at_type}
use Rattle.alias_values.specs.declared.trees.StarTree.{StarTree}
use Rattle.alias_values.specs.declared.trees.ValueTree.{ValueTree}
use Rattle.alias_values.specs.declared.trees.TypeTree.{TypeTree}
use Rattle.alias_values.specs.Trees.{stars_of, row, row_of, type_of, tys, types_of, values, value_of, values_of}
use Rattle.alias_values.proofs.Forms.{star_forms, type_forms, value_forms}
use Rattle.alias_values.proofs.Rows.{stars_at, types_at, values_at, values_end, row_before, row_before_more, row_before_none, values_before, values_before_more}

-- ---- the stars of functions

pub function_scalar : functions Scalar ≡ Leaf false
unfolding functions
function_scalar = refl

pub function_array : (s : Set) → functions (Array s) ≡ Leaf false
unfolding functions
function_array s = refl

pub function_function : (s : Set) (u : Stars) → functions (Function s u) ≡ u
unfolding functions
function_function s u = refl

pub function_parts : (h : Head) (vs : Values) → functions (Parts h vs) ≡ Row (all_functions vs)
unfolding functions all_functions
function_parts h vs = refl

pub ruleset function_forms = (value_forms, function_scalar, function_array, function_function, function_parts)

module _ (vs : List ValueTree) (i : ℕ) (made : List StarTree) (h : all_functions (values_of vs) ≡ row_before made (all_functions (values_of (drop i vs)))) where
  pub function_more : (v : ValueTree) (u : StarTree) (longer : List StarTree) → i < length vs → stars_of u ≡ functions (value_of (get_or vs i v)) → longer ≡ made ++ u ∷ [] → all_functions (values_of vs) ≡ row_before longer (all_functions (values_of (drop (i + 1) vs)))
  unfolding functions all_functions
  function_more v u longer l e p =
      h ∙ ap (row_before made) (ap all_functions (values_at vs i v l) ∙ ap (λ z. star_and z (all_functions (values_of (drop (i + 1) vs)))) (sym e))
      ∙ sym (row_before_more made u (all_functions (values_of (drop (i + 1) vs)))) ∙ ap (λ z. row_before z (all_functions (values_of (drop (i + 1) vs)))) (sym p)

  pub function_end : length vs ≤ i → row_of made ≡ all_functions (values_of vs)
  unfolding all_functions
  function_end l = sym (h ∙ ap (λ z. row_before made (all_functions z)) (values_end vs i l) ∙ row_before_none made)

pub ruleset all_function_forms = (function_more, function_end)

-- ---- the rest of a row behind these

behind : (made vs : List ValueTree) → values_before made (values_of vs) ≡ values_of (made ++ vs)
unfolding values_of values
behind [] vs = refl
behind (v ∷ made) vs = ap (value_and (value_of v)) (behind made vs)

-- ---- written stars

pub ascribe_arrow_scalar : (b : Bool) (p : Stars) (r : Stars) → ascribed (Arrow b p r) Scalar ≡ Scalar
unfolding ascribed
ascribe_arrow_scalar b p r = refl

pub ascribe_row_scalar : (us : StarRow) → ascribed (Row us) Scalar ≡ Scalar
unfolding ascribed all_ascribed
ascribe_row_scalar us = refl

pub ascribe_arrow_array : (b : Bool) (p : Stars) (r : Stars) (s : Set) → ascribed (Arrow b p r) (Array s) ≡ (Array s)
unfolding ascribed
ascribe_arrow_array b p r s = refl

pub ascribe_row_array : (us : StarRow) (s : Set) → ascribed (Row us) (Array s) ≡ (Array s)
unfolding ascribed all_ascribed
ascribe_row_array us s = refl

pub ascribe_arrow_function : (b : Bool) (p : Stars) (r : Stars) (s : Set) (w : Stars) → ascribed (Arrow b p r) (Function s w) ≡ (Function s (Arrow b p r))
unfolding ascribed
ascribe_arrow_function b p r s w = refl

pub ascribe_row_function : (us : StarRow) (s : Set) (w : Stars) → ascribed (Row us) (Function s w) ≡ (Function s w)
unfolding ascribed all_ascribed
ascribe_row_function us s w = refl

pub ascribe_arrow_parts : (b : Bool) (p : Stars) (r : Stars) (g : Head) (vs : Values) → ascribed (Arrow b p r) (Parts g vs) ≡ (Parts g vs)
unfolding ascribed
ascribe_arrow_parts b p r g vs = refl

pub ascribe_row_parts : (us : StarRow) (g : Head) (vs : Values) → ascribed (Row us) (Parts g vs) ≡ (Parts g (all_ascribed us vs))
unfolding ascribed all_ascribed
ascribe_row_parts us g vs = refl

pub ascribe_leaf : (b : Bool) (v : Value) → ascribed (Leaf b) v ≡ v
unfolding ascribed
ascribe_leaf b Scalar = refl
ascribe_leaf b (Array s) = refl
ascribe_leaf b (Function s w) = refl
ascribe_leaf b (Parts g vs) = refl

pub ruleset ascribe_forms = (star_forms, value_forms, ascribe_leaf, ascribe_arrow_scalar, ascribe_row_scalar, ascribe_arrow_array, ascribe_row_array, ascribe_arrow_function, ascribe_row_function, ascribe_arrow_parts, ascribe_row_parts)

rest_ascribe : (us : List StarTree) (vs : List ValueTree) (n : ℕ) → n ≡ min (length us) (length vs) → all_ascribed (row_of (drop n us)) (values_of (drop n vs)) ≡ values_of (drop n vs)
unfolding all_ascribed row_of row values_of values
rest_ascribe [] [] zero e = refl
rest_ascribe [] (v ∷ vs) zero e = refl
rest_ascribe [] vs (suc n) e = absurd (omega (arith, e))
rest_ascribe (u ∷ us) [] zero e = refl
rest_ascribe (u ∷ us) [] (suc n) e = absurd (omega (arith, e))
rest_ascribe (u ∷ us) (v ∷ vs) zero e = absurd (omega (arith, e))
rest_ascribe (u ∷ us) (v ∷ vs) (suc n) e = rest_ascribe us vs n (omega (arith, e))

module _ (us : List StarTree) (vs : List ValueTree) (i : ℕ) (made : List ValueTree) (h : all_ascribed (row_of us) (values_of vs) ≡ values_before made (all_ascribed (row_of (drop i us)) (values_of (drop i vs)))) where
  pub ascribe_more : (u : StarTree) (v w : ValueTree) (longer : List ValueTree) → i < length us → i < length vs → value_of w ≡ ascribed (stars_of (get_or us i u)) (value_of (get_or vs i v)) → longer ≡ made ++ w ∷ []
      → all_ascribed (row_of us) (values_of vs) ≡ values_before longer (all_ascribed (row_of (drop (i + 1) us)) (values_of (drop (i + 1) vs)))
  unfolding ascribed all_ascribed
  ascribe_more u v w longer l k e p =
      h ∙ ap (values_before made) (ap (λ z. all_ascribed z (values_of (drop i vs))) (stars_at us i u l) ∙ ap (all_ascribed (star_and (stars_of (get_or us i u)) (row_of (drop (i + 1) us)))) (values_at vs i v k)
      ∙ ap (λ z. value_and z (all_ascribed (row_of (drop (i + 1) us)) (values_of (drop (i + 1) vs)))) (sym e))
      ∙ sym (values_before_more made w (all_ascribed (row_of (drop (i + 1) us)) (values_of (drop (i + 1) vs))))
      ∙ ap (λ z. values_before z (all_ascribed (row_of (drop (i + 1) us)) (values_of (drop (i + 1) vs)))) (sym p)

  pub ascribe_end : (n : ℕ) (rest all : List ValueTree) → n ≡ min (length us) (length vs) → i ≤ n → n ≤ i → rest ≡ drop n vs → all ≡ made ++ rest → values_of all ≡ all_ascribed (row_of us) (values_of vs)
  ascribe_end n rest all e l m r a =
      let o : n ≡ i = omega (arith, l, m) in
      sym (h ∙ ap (λ z. values_before made (all_ascribed (row_of (drop z us)) (values_of (drop z vs)))) (sym o) ∙ ap (values_before made) (rest_ascribe us vs n e) ∙ behind made (drop n vs) ∙ ap (λ z. values_of (made ++ z)) (sym r) ∙ ap values_of (sym a))

pub ruleset all_ascribe_forms = (ascribe_more, ascribe_end)

-- ---- types for variables

module _ (K : Kinds) where
  pub at_array : (t : Ty) (s : Set) → at_type K t (Array s) ≡ of_type K s t
  unfolding at_type
  at_array (Var v) s = refl
  at_array (Made h ts) s = refl

  pub at_scalar : (t : Ty) → at_type K t Scalar ≡ Scalar
  unfolding at_type
  at_scalar (Var v) = refl
  at_scalar (Made h ts) = refl

  pub at_function : (t : Ty) (s : Set) (u : Stars) → at_type K t (Function s u) ≡ Function s u
  unfolding at_type
  at_function (Var v) s u = refl
  at_function (Made h ts) s u = refl

  pub at_parts : (h g : Head) (ts : Tys) (vs : Values) → at_type K (Made h ts) (Parts g vs) ≡ Parts g (all_at_type K ts vs)
  unfolding at_type all_at_type
  at_parts h g ts vs = refl

  pub at_var : (v : ℕ) (g : Head) (vs : Values) → at_type K (Var v) (Parts g vs) ≡ Parts g vs
  unfolding at_type
  at_var v g vs = refl

pub ruleset at_forms = (type_forms, value_forms, at_array, at_scalar, at_function, at_parts, at_var)

rest_at : (K : Kinds) (us : List TypeTree) (vs : List ValueTree) (n : ℕ) → n ≡ min (length us) (length vs) → all_at_type K (types_of (drop n us)) (values_of (drop n vs)) ≡ values_of (drop n vs)
unfolding all_at_type types_of tys values_of values
rest_at K [] [] zero e = refl
rest_at K [] (v ∷ vs) zero e = refl
rest_at K [] vs (suc n) e = absurd (omega (arith, e))
rest_at K (u ∷ us) [] zero e = refl
rest_at K (u ∷ us) [] (suc n) e = absurd (omega (arith, e))
rest_at K (u ∷ us) (v ∷ vs) zero e = absurd (omega (arith, e))
rest_at K (u ∷ us) (v ∷ vs) (suc n) e = rest_at K us vs n (omega (arith, e))

module _ (K : Kinds) (us : List TypeTree) (vs : List ValueTree) (i : ℕ) (made : List ValueTree) (h : all_at_type K (types_of us) (values_of vs) ≡ values_before made (all_at_type K (types_of (drop i us)) (values_of (drop i vs)))) where
  pub at_more : (u : TypeTree) (v w : ValueTree) (longer : List ValueTree) → i < length us → i < length vs → value_of w ≡ at_type K (type_of (get_or us i u)) (value_of (get_or vs i v)) → longer ≡ made ++ w ∷ []
      → all_at_type K (types_of us) (values_of vs) ≡ values_before longer (all_at_type K (types_of (drop (i + 1) us)) (values_of (drop (i + 1) vs)))
  unfolding at_type all_at_type
  at_more u v w longer l k e p =
      h ∙ ap (values_before made) (ap (λ z. all_at_type K z (values_of (drop i vs))) (types_at us i u l) ∙ ap (all_at_type K (more (type_of (get_or us i u)) (types_of (drop (i + 1) us)))) (values_at vs i v k)
      ∙ ap (λ z. value_and z (all_at_type K (types_of (drop (i + 1) us)) (values_of (drop (i + 1) vs)))) (sym e))
      ∙ sym (values_before_more made w (all_at_type K (types_of (drop (i + 1) us)) (values_of (drop (i + 1) vs))))
      ∙ ap (λ z. values_before z (all_at_type K (types_of (drop (i + 1) us)) (values_of (drop (i + 1) vs)))) (sym p)

  pub at_end : (n : ℕ) (rest all : List ValueTree) → n ≡ min (length us) (length vs) → i ≤ n → n ≤ i → rest ≡ drop n vs → all ≡ made ++ rest → values_of all ≡ all_at_type K (types_of us) (values_of vs)
  at_end n rest all e l m r a =
      let o : n ≡ i = omega (arith, l, m) in
      sym (h ∙ ap (λ z. values_before made (all_at_type K (types_of (drop z us)) (values_of (drop z vs)))) (sym o) ∙ ap (values_before made) (rest_at K us vs n e) ∙ behind made (drop n vs) ∙ ap (λ z. values_of (made ++ z)) (sym r) ∙ ap values_of (sym a))

pub ruleset all_at_forms = (at_more, at_end)
