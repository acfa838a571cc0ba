-- The outermost forms of types, stars and values.
use Rattle.std.proofs.Common.{◌≡◌, ◌≢◌, ℕ, Bool, true, false, List, [], ◌∷◌, length, Some, None, refl, sym, ap, ◌∙◌, subst}
use Rattle.std.specs.Borrow.{Bor}
use Rattle.fut_types.specs.declared.Head.{Head}
use Rattle.fut_types.specs.declared.Head.TheVariants as head
use Rattle.fut_types.specs.Types.{Ty, Var, Made}
use Rattle.fut_aliases.specs.Aliases.{Set}
use Rattle.fut_aliases.specs.Stars.{Leaf, Arrow, Row}
use Rattle.fut_aliases.specs.Values.{Scalar, Array, Function, Parts}
use Rattle.alias_values.specs.declared.trees.TypeTree.{TypeTree}
use Rattle.alias_values.specs.declared.trees.TypeTree.TheVariants as type
use Rattle.alias_values.specs.Trees.{stars_of, tys, type_of, types_of, value_of}
use Rattle.alias_values.specs.declared.trees.StarTree.{StarTree}
use Rattle.alias_values.specs.declared.trees.StarTree.TheVariants as star
use Rattle.alias_values.specs.declared.trees.ValueTree.{ValueTree}
use Rattle.alias_values.specs.declared.trees.ValueTree.TheVariants as value
use Rattle.alias_values.proofs.Forms.{star_leaf, star_arrow, star_row, type_var, type_made, value_scalar, value_array, value_function, value_parts}
use Rattle.alias_patterns.specs.Heads.{Function_types, Record_types, Row_parts, Tuple_types, is_fun, is_record, is_tuple}

abbrev head_of : Ty → Head → Head
head_of (Var v) h = h
head_of (Made h ts) g = h

module _ (ty : TypeTree) where
  variable_form : (P : Ty → Type 0) (v : ℕ) → ty ≡ type.Var v → P (Var v) → P (type_of ty)
  variable_form P v e p = subst P (sym (ap type_of e ∙ type_var v)) p

  made_form : (P : Ty → Type 0) (h : Head) (ts : Bor (List TypeTree)) → ty ≡ type.Made h ts → P (Made h (types_of ts.now)) → P (type_of ty)
  made_form P h ts e p = subst P (sym (ap type_of e ∙ type_made h ts)) p

  -- ---- functions

  pub function_var : (v : ℕ) → ty ≡ type.Var v → Function_types (type_of ty) None
  function_var v e = variable_form (λ t. Function_types t None) v e (λ p r i. cc)

  pub function_short : (h : Head) (ts : Bor (List TypeTree)) → ty ≡ type.Made h ts → length ts.now ≢ 2 → Function_types (type_of ty) None
  unfolding types_of tys
  function_short h ts e l = made_form (λ t. Function_types t None) h ts e (short ts.now l)
    where
      short : (us : List TypeTree) → length us ≢ 2 → Function_types (Made h (types_of us)) None
      short [] n p r i = cc
      short (t ∷ []) n p r i = cc
      short (t ∷ u ∷ []) n p r i = absurd (n refl)
      short (t ∷ u ∷ v ∷ us) n p r i = cc

  pub function_other : (h : Head) (ts : Bor (List TypeTree)) → ty ≡ type.Made h ts → false ≡ is_fun h → Function_types (type_of ty) None
  function_other h ts e n = made_form (λ t. Function_types t None) h ts e (λ p r i. no_fun h n (ap (λ t. head_of t h) i))
    where
      no_fun : (g : Head) → false ≡ is_fun g → g ≢ head.Fun
      no_fun g n i = let q : false ≡ true = n ∙ ap is_fun i in cc

  pub function_made : (h : Head) (ts : Bor (List TypeTree)) → ty ≡ type.Made h ts → true ≡ is_fun h → length ts.now ≡ 2 → Function_types (type_of ty) (Some ts)
  function_made h ts e n l = (l, ap type_of e ∙ type_made h ts ∙ ap (λ z. Made z (types_of ts.now)) (the_fun h n))
    where
      the_fun : (g : Head) → true ≡ is_fun g → g ≡ head.Fun
      the_fun head.Fun n = refl
      the_fun (head.Scalar s) n = cc
      the_fun head.Array n = cc
      the_fun head.Tuple n = cc
      the_fun (head.Record r) n = cc
      the_fun (head.Rigid r k) n = cc
      the_fun (head.Abstract r d) n = cc

  -- ---- tuples

  pub tuple_var : (v : ℕ) → ty ≡ type.Var v → Tuple_types (type_of ty) None
  tuple_var v e = variable_form (λ t. Tuple_types t None) v e (λ ts i. cc)

  pub tuple_other : (h : Head) (ts : Bor (List TypeTree)) → ty ≡ type.Made h ts → false ≡ is_tuple h → Tuple_types (type_of ty) None
  tuple_other h ts e n = made_form (λ t. Tuple_types t None) h ts e (λ us i. no_tuple h n (ap (λ t. head_of t h) i))
    where
      no_tuple : (g : Head) → false ≡ is_tuple g → g ≢ head.Tuple
      no_tuple g n i = let q : false ≡ true = n ∙ ap is_tuple i in cc

  pub tuple_made : (h : Head) (ts : Bor (List TypeTree)) → ty ≡ type.Made h ts → true ≡ is_tuple h → Tuple_types (type_of ty) (Some ts)
  tuple_made h ts e n = ap type_of e ∙ type_made h ts ∙ ap (λ z. Made z (types_of ts.now)) (the_tuple h n)
    where
      the_tuple : (g : Head) → true ≡ is_tuple g → g ≡ head.Tuple
      the_tuple head.Tuple n = refl
      the_tuple head.Fun n = cc
      the_tuple (head.Scalar s) n = cc
      the_tuple head.Array n = cc
      the_tuple (head.Record r) n = cc
      the_tuple (head.Rigid r k) n = cc
      the_tuple (head.Abstract r d) n = cc

  -- ---- records

  pub record_var : (v : ℕ) → ty ≡ type.Var v → Record_types (type_of ty) None
  record_var v e = variable_form (λ t. Record_types t None) v e (λ n ts i. cc)

  pub record_other : (h : Head) (ts : Bor (List TypeTree)) → ty ≡ type.Made h ts → false ≡ is_record h → Record_types (type_of ty) None
  record_other h ts e n = made_form (λ t. Record_types t None) h ts e (λ m us i. no_record h m n (ap (λ t. head_of t h) i))
    where
      no_record : (g : Head) (m : ℕ) → false ≡ is_record g → g ≢ head.Record m
      no_record g m n i = let q : false ≡ true = n ∙ ap is_record i in cc

  pub record_made : (h : Head) (ts : Bor (List TypeTree)) → ty ≡ type.Made h ts → true ≡ is_record h → Record_types (type_of ty) (Some (record { head = h; types = ts }))
  record_made h ts e n = let r = the_record h n in (r.0, r.1, ap type_of e ∙ type_made h ts)
    where
      the_record : (g : Head) → true ≡ is_record g → (m : ℕ) × (g ≡ head.Record m)
      the_record (head.Record r) n = (r, refl)
      the_record head.Tuple n = cc
      the_record head.Fun n = cc
      the_record (head.Scalar s) n = cc
      the_record head.Array n = cc
      the_record (head.Rigid r k) n = cc
      the_record (head.Abstract r d) n = cc

-- ---- stars and values

module _ (u : StarTree) (v : ValueTree) where
  pub parts_made : (us : Bor (List StarTree)) (h : Head) (vs : Bor (List ValueTree)) → u ≡ star.Row us → v ≡ value.Parts h vs → Row_parts (stars_of u) (value_of v) (Some (record { row = us; head = h; values = vs }))
  parts_made us h vs i j = (ap stars_of i ∙ star_row us, ap value_of j ∙ value_parts h vs)

  pub no_leaf : (b : Bool) → u ≡ star.Leaf b → Row_parts (stars_of u) (value_of v) None
  no_leaf b i us h vs e f = let q : Leaf b ≡ Row us = sym (star_leaf b) ∙ sym (ap stars_of i) ∙ e in cc

  pub no_arrow : (b : Bool) (p r : Bor StarTree) → u ≡ star.Arrow b p r → Row_parts (stars_of u) (value_of v) None
  no_arrow b p r i us h vs e f = let q : Arrow b (stars_of p.now) (stars_of r.now) ≡ Row us = sym (star_arrow b p r) ∙ sym (ap stars_of i) ∙ e in cc

  pub no_scalar : v ≡ value.Scalar → Row_parts (stars_of u) (value_of v) None
  no_scalar i us h vs e f = let q : Scalar ≡ Parts h vs = sym value_scalar ∙ sym (ap value_of i) ∙ f in cc

  pub no_array : (s : Bor Set) → v ≡ value.Array s → Row_parts (stars_of u) (value_of v) None
  no_array s i us h vs e f = let q : Array s.now ≡ Parts h vs = sym (value_array s) ∙ sym (ap value_of i) ∙ f in cc

  pub no_function : (s : Bor Set) (w : Bor StarTree) → v ≡ value.Function s w → Row_parts (stars_of u) (value_of v) None
  no_function s w i us h vs e f = let q : Function s.now (stars_of w.now) ≡ Parts h vs = sym (value_function s w) ∙ sym (ap value_of i) ∙ f in cc
