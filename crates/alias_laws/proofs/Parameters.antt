-- Parameters, and those without a star, by the checker's sets and by whole ones.
use Rattle.std.proofs.Common.{◌≡◌, ℕ, zero, ◌≤◌, ◌<◌, suc, ◌+◌, Bool, true, false, List, [], ◌∷◌, ◌++◌, Option, Some, None, refl, ap₂, subst, arith}
use Rattle.fut_ast.specs.Sorts.{Text}
use Rattle.fut_scalar.specs.declared.place.BindId.{BindId}
use Rattle.fut_flat.specs.declared.prim.Ref.{Ref}
use Rattle.fut_flat.specs.Terms.{Bound_pattern, Wild_pattern, Tuple_pattern, Record_pattern, Typed_pattern, Patterns, no_pattern, pattern_and}
use Rattle.fut_flat.specs.Numbers.{pattern_numbers, all_pattern_numbers}
use Rattle.fut_flat.specs.Erased.{FlatPattern}
use Rattle.fut_types.specs.declared.Head.{Head}
use Rattle.fut_types.specs.Types.{Sub, Kinds}
use Rattle.fut_types.specs.Shapes.{place}
use Rattle.fut_typing.specs.Names.{Names}
use Rattle.fut_aliases.specs.Aliases.{Set, with_alias, first_name_alone}
use Rattle.fut_aliases.specs.Stars.{Stars, Leaf, Arrow, Row, StarRow, no_star, star_and, star_at, written_stars}
use Rattle.fut_aliases.specs.Values.{Value, Scalar, Array, Function, Parts, Values, no_value, value_and, named, components, all_components, ascribed, all_ascribed, part, part_named, left}
use Rattle.fut_aliases.specs.Patterns.{Scope, with_value, pattern_stars, bound, all_bound, fields_bound, kept, all_kept, fields_kept}
use Rattle.fut_aliases.specs.Looking.{parameter_value, with_parameters, all_kept as parameters_kept}
use Rattle.alias_laws.proofs.Worlds.{World, SetR, empties, unions, set_on, Grows}
use Rattle.alias_laws.proofs.Values.{ValueR, scalars, arrays, functions_are, parts_are, ValuesR, no_values, more_values, ascribed_is, part_named_is, left_is, with_stars_is}
use Rattle.alias_laws.proofs.Naming.{with_names, names_grow, Stands, stands_all, named_is}
use Rattle.alias_laws.proofs.Stepping.{Free, free_on, free_part, plain, avoiding_less}
use Rattle.alias_laws.proofs.Calling.{ScopeR}
use Rattle.alias_laws.proofs.Binding.{Binds, binds_not, binds_on, binds_wider, plains_on, fields_bound_is, known_now, names_only, with_value_is, scope_on}

-- ---- values that differ in their stars alone

mutual
  pub data Restarred : Value → Value → Type 0 where
    same_scalar : Restarred Scalar Scalar
    same_array : {s : Set} → Restarred (Array s) (Array s)
    same_function : {s : Set} {u v : Stars} → Restarred (Function s u) (Function s v)
    same_parts : {h : Head} {vs us : Values} → All_restarred vs us → Restarred (Parts h vs) (Parts h us)

  pub data All_restarred : Values → Values → Type 0 where
    same_none : All_restarred no_value no_value
    same_more : {v u : Value} {vs us : Values} → Restarred v u → All_restarred vs us → All_restarred (value_and v vs) (value_and u us)

mutual
  pub not_restarred : (v : Value) → Restarred v v
  not_restarred Scalar = same_scalar
  not_restarred (Array s) = same_array
  not_restarred (Function s u) = same_function
  not_restarred (Parts h vs) = same_parts (none_restarred vs)

  none_restarred : (vs : Values) → All_restarred vs vs
  none_restarred no_value = same_none
  none_restarred (value_and v vs) = same_more (not_restarred v) (none_restarred vs)

mutual
  unfolding ascribed all_ascribed

  restarred_on : {v u : Value} (x : Stars) → Restarred v u → Restarred v (ascribed x u)
  restarred_on (Leaf b) p = p
  restarred_on (Arrow b q r) same_scalar = same_scalar
  restarred_on (Arrow b q r) same_array = same_array
  restarred_on (Arrow b q r) same_function = same_function
  restarred_on (Arrow b q r) (same_parts ps) = same_parts ps
  restarred_on (Row xs) same_scalar = same_scalar
  restarred_on (Row xs) same_array = same_array
  restarred_on (Row xs) same_function = same_function
  restarred_on (Row xs) (same_parts ps) = same_parts (all_restarred_on xs ps)

  all_restarred_on : {vs us : Values} (xs : StarRow) → All_restarred vs us → All_restarred vs (all_ascribed xs us)
  all_restarred_on no_star ps = ps
  all_restarred_on (star_and x xs) same_none = same_none
  all_restarred_on (star_and x xs) (same_more p ps) = same_more (restarred_on x p) (all_restarred_on xs ps)

mutual
  unfolding components all_components

  restarred_sets : {v u : Value} → Restarred v u → components u ≡ components v
  restarred_sets same_scalar = refl
  restarred_sets same_array = refl
  restarred_sets same_function = refl
  restarred_sets (same_parts ps) = all_restarred_sets ps

  all_restarred_sets : {vs us : Values} → All_restarred vs us → all_components us ≡ all_components vs
  all_restarred_sets same_none = refl
  all_restarred_sets (same_more p ps) = ap₂ (λ x y. x ++ y) (restarred_sets p) (all_restarred_sets ps)

restarred_part : (i : Option ℕ) {vs us : Values} → All_restarred vs us → Restarred (part i vs) (part i us)
restarred_part None ps = same_scalar
restarred_part (Some i) same_none = same_scalar
restarred_part (Some zero) (same_more p ps) = p
restarred_part (Some (suc i)) (same_more p ps) = restarred_part (Some i) ps

restarred_part_named : (N : Names) (f : Text) {v u : Value} → Restarred v u → Restarred (part_named N f v) (part_named N f u)
unfolding part_named
restarred_part_named N f same_scalar = same_scalar
restarred_part_named N f same_array = same_array
restarred_part_named N f same_function = same_function
restarred_part_named N f (same_parts {h} ps) = restarred_part (place N.shapes (N.label f) h) ps

-- ---- what patterns of parameters bind, and their components without a star

-- the same world for both
pub record Keeps (w : World) (lo hi : ℕ) (scope scope' : Scope) (K K' : Stars → Set) : Type 0 where
  pub binds : Binds w lo hi scope scope'
  pub keeps : (u : Stars) → SetR (plain binds.world) (K u) (K' u)

pub record Keeps_all (w : World) (lo hi : ℕ) (scope scope' : Scope) (K K' : StarRow → Set) : Type 0 where
  pub binds : Binds w lo hi scope scope'
  pub keeps : (us : StarRow) → SetR (plain binds.world) (K us) (K' us)

pub record Keeps_sets (w : World) (lo hi : ℕ) (scope scope' : Scope) (s s' : Set) : Type 0 where
  pub binds : Binds w lo hi scope scope'
  pub keeps : SetR (plain binds.world) s s'

plain_set_on : {w w2 : World} {s s' : Set} → Grows w w2 → SetR (plain w) s s' → SetR (plain w2) s s'
plain_set_on g p = set_on (avoiding_less g (λ a h. h)) p

bind_kept_is : {w : World} {v v' u u' : Value} {scope scope' : Scope} (b : BindId) (n lo hi : ℕ) → lo ≤ n → n < hi → w.known n ≡ false → Restarred u v → ValueR (plain w) v v' → ValueR (plain w) u u' → ScopeR w scope scope'
    → Keeps w lo hi (with_value b.0 (named with_alias true n b 0 v) scope) (with_value b.0 (named first_name_alone true n b 0 v') scope') (λ x. left x (named with_alias true n b 0 u)) (λ x. left x (named first_name_alone true n b 0 u'))
unfolding with_names
bind_kept_is {w} {v} {v'} {u} {u'} b n lo hi l h k r x y s =
    let w2 = with_names (plain w) n (components v) in
    let g : Grows (plain w) w2 = names_grow (plain w) n (components v) k in
    let g2 : Grows w w2 = record { knows = g.knows; agrees = g.agrees; avoids = λ a k. refl } in record {
      binds = record {
        world = w2;
        grows = g2;
        only = names_only w n (components v) lo hi l h;
        scopes = with_value_is b.0 (named_is {w = plain w} {w2 = w2} n b k g (known_now (plain w) n (components v)) (λ c. refl) true 0 x (stands_all (plain w) n (components v))) (scope_on g2 s);
      };
      keeps = λ z. left_is z (named_is {w = plain w} {w2 = w2} n b k g (known_now (plain w) n (components v)) (λ c. refl) true 0 y (subst (Stands (plain w) w2 n 0) (restarred_sets r) (stands_all (plain w) n (components v))));
    }

abbrev flat : Value → Bool
flat (Parts h vs) = false
flat v = true

module _ (N : Names) (types : Sub) where
  flat_tuple : (w : World) (ps : Patterns Ref BindId) (q : ℕ) (x : Stars) (u u' : Value) → flat u ≡ true → flat u' ≡ true → SetR w (kept with_alias N types (Tuple_pattern ps) q x u) (kept first_name_alone N types (Tuple_pattern ps) q x u')
  unfolding kept
  flat_tuple w ps q (Leaf b) u u' h h' = empties w
  flat_tuple w ps q (Arrow b y r) u u' h h' = empties w
  flat_tuple w ps q (Row us) (Parts h vs) u' k h' = cc
  flat_tuple w ps q (Row us) Scalar (Parts h vs) k h' = cc
  flat_tuple w ps q (Row us) (Array s) (Parts h vs) k h' = cc
  flat_tuple w ps q (Row us) (Function s x) (Parts h vs) k h' = cc
  flat_tuple w ps q (Row us) Scalar Scalar k h' = empties w
  flat_tuple w ps q (Row us) Scalar (Array t) k h' = empties w
  flat_tuple w ps q (Row us) Scalar (Function t y) k h' = empties w
  flat_tuple w ps q (Row us) (Array s) Scalar k h' = empties w
  flat_tuple w ps q (Row us) (Array s) (Array t) k h' = empties w
  flat_tuple w ps q (Row us) (Array s) (Function t y) k h' = empties w
  flat_tuple w ps q (Row us) (Function s x) Scalar k h' = empties w
  flat_tuple w ps q (Row us) (Function s x) (Array t) k h' = empties w
  flat_tuple w ps q (Row us) (Function s x) (Function t y) k h' = empties w

  flat_record : (w : World) (fs : List Text) (ps : Patterns Ref BindId) (q : ℕ) (x : Stars) (u u' : Value) → flat u ≡ true → flat u' ≡ true → SetR w (kept with_alias N types (Record_pattern fs ps) q x u) (kept first_name_alone N types (Record_pattern fs ps) q x u')
  unfolding kept
  flat_record w fs ps q (Leaf b) u u' h h' = empties w
  flat_record w fs ps q (Arrow b y r) u u' h h' = empties w
  flat_record w fs ps q (Row us) (Parts h vs) u' k h' = cc
  flat_record w fs ps q (Row us) Scalar (Parts h vs) k h' = cc
  flat_record w fs ps q (Row us) (Array s) (Parts h vs) k h' = cc
  flat_record w fs ps q (Row us) (Function s x) (Parts h vs) k h' = cc
  flat_record w fs ps q (Row us) Scalar Scalar k h' = empties w
  flat_record w fs ps q (Row us) Scalar (Array t) k h' = empties w
  flat_record w fs ps q (Row us) Scalar (Function t y) k h' = empties w
  flat_record w fs ps q (Row us) (Array s) Scalar k h' = empties w
  flat_record w fs ps q (Row us) (Array s) (Array t) k h' = empties w
  flat_record w fs ps q (Row us) (Array s) (Function t y) k h' = empties w
  flat_record w fs ps q (Row us) (Function s x) Scalar k h' = empties w
  flat_record w fs ps q (Row us) (Function s x) (Array t) k h' = empties w
  flat_record w fs ps q (Row us) (Function s x) (Function t y) k h' = empties w

  row_tuple : (w : World) (ps : Patterns Ref BindId) (q : ℕ) (h : Head) (us us' : Values) → ((x : StarRow) → SetR w (all_kept with_alias N types ps (1 + q) x us) (all_kept first_name_alone N types ps (1 + q) x us')) → (x : Stars) → SetR w (kept with_alias N types (Tuple_pattern ps) q x (Parts h us)) (kept first_name_alone N types (Tuple_pattern ps) q x (Parts h us'))
  unfolding kept all_kept fields_kept
  row_tuple w ps q h us us' k (Leaf b) = empties w
  row_tuple w ps q h us us' k (Arrow b y r) = empties w
  row_tuple w ps q h us us' k (Row x) = k x

  row_record : (w : World) (fs : List Text) (ps : Patterns Ref BindId) (q : ℕ) (h : Head) (us us' : Values) → ((x : StarRow) → SetR w (fields_kept with_alias N types fs ps (1 + q) h x us) (fields_kept first_name_alone N types fs ps (1 + q) h x us')) → (x : Stars) → SetR w (kept with_alias N types (Record_pattern fs ps) q x (Parts h us)) (kept first_name_alone N types (Record_pattern fs ps) q x (Parts h us'))
  unfolding kept all_kept fields_kept
  row_record w fs ps q h us us' k (Leaf b) = empties w
  row_record w fs ps q h us us' k (Arrow b y r) = empties w
  row_record w fs ps q h us us' k (Row x) = k x

  no_row : (w : World) (p : FlatPattern) (ps : Patterns Ref BindId) (q : ℕ) (x : StarRow) → SetR w (all_kept with_alias N types (pattern_and p ps) q x no_value) (all_kept first_name_alone N types (pattern_and p ps) q x no_value)
  unfolding kept all_kept fields_kept
  no_row w p ps q no_star = empties w
  no_row w p ps q (star_and x xs) = empties w

  more_row : (w : World) (p : FlatPattern) (ps : Patterns Ref BindId) (q : ℕ) (u u' : Value) (us us' : Values) → ((x : Stars) → SetR w (kept with_alias N types p q x u) (kept first_name_alone N types p q x u')) → ((x : StarRow) → SetR w (all_kept with_alias N types ps (q + pattern_numbers p) x us) (all_kept first_name_alone N types ps (q + pattern_numbers p) x us'))
      → (x : StarRow) → SetR w (all_kept with_alias N types (pattern_and p ps) q x (value_and u us)) (all_kept first_name_alone N types (pattern_and p ps) q x (value_and u' us'))
  unfolding kept all_kept fields_kept
  more_row w p ps q u u' us us' k ks no_star = empties w
  more_row w p ps q u u' us us' k ks (star_and x xs) = unions (k x) (ks xs)

  mutual
    unfolding bound all_bound fields_bound kept all_kept fields_kept

    pub kept_is : {w : World} {v v' u u' : Value} {scope scope' : Scope} (p : FlatPattern) (q : ℕ) → Free w q (q + pattern_numbers p) → Restarred u v → ValueR (plain w) v v' → ValueR (plain w) u u' → ScopeR w scope scope'
        → Keeps w q (q + pattern_numbers p) (bound with_alias N types true p q v scope) (bound first_name_alone N types true p q v' scope') (λ x. kept with_alias N types p q x u) (λ x. kept first_name_alone N types p q x u')
    kept_is {w} (Bound_pattern b) q f r x y s = bind_kept_is b q q (q + 1) (omega arith) (omega arith) (f q (omega arith) (omega arith)) r x y s
    kept_is {w} Wild_pattern q f r x y s = record { binds = binds_not q (q + 1) s; keeps = λ x. empties (plain w) }
    kept_is {w} (Tuple_pattern ps) q f same_scalar scalars scalars s = record { binds = binds_not q _ s; keeps = λ x. flat_tuple (plain w) ps q x Scalar Scalar refl refl }
    kept_is {w} (Tuple_pattern ps) q f (same_array {s}) (arrays x) (arrays {s' = t} y) z = record { binds = binds_not q _ z; keeps = λ x. flat_tuple (plain w) ps q x (Array s) (Array t) refl refl }
    kept_is {w} (Tuple_pattern ps) q f (same_function {s} {u}) (functions_are x) (functions_are {s' = t} v) z = record { binds = binds_not q _ z; keeps = λ x. flat_tuple (plain w) ps q x (Function s u) (Function t u) refl refl }
    kept_is {w} (Tuple_pattern ps) q f (same_parts {h} r) (parts_are xs) (parts_are ys) s =
        let b = all_kept_are ps (1 + q) (free_part w (omega arith) (omega arith) f) r xs ys s in record { binds = binds_wider (omega arith) (omega arith) b.binds; keeps = row_tuple (plain b.binds.world) ps q h _ _ b.keeps }
    kept_is {w} (Record_pattern fs ps) q f same_scalar scalars scalars s =
        let b = fields_bound_is N types true fs ps (1 + q) (free_part w (omega arith) (omega arith) f) scalars s in record { binds = binds_wider (omega arith) (omega arith) b; keeps = λ x. flat_record (plain b.world) fs ps q x Scalar Scalar refl refl }
    kept_is {w} (Record_pattern fs ps) q f (same_array {s}) (arrays x) (arrays {s' = t} y) z =
        let b = fields_bound_is N types true fs ps (1 + q) (free_part w (omega arith) (omega arith) f) (arrays x) z in record { binds = binds_wider (omega arith) (omega arith) b; keeps = λ x. flat_record (plain b.world) fs ps q x (Array s) (Array t) refl refl }
    kept_is {w} (Record_pattern fs ps) q f (same_function {s} {u}) (functions_are x) (functions_are {s' = t} v) z =
        let b = fields_bound_is N types true fs ps (1 + q) (free_part w (omega arith) (omega arith) f) (functions_are x) z in record { binds = binds_wider (omega arith) (omega arith) b; keeps = λ x. flat_record (plain b.world) fs ps q x (Function s u) (Function t u) refl refl }
    kept_is {w} (Record_pattern fs ps) q f (same_parts {h} r) (parts_are xs) (parts_are ys) s =
        let b = fields_kept_are h fs ps (1 + q) (free_part w (omega arith) (omega arith) f) r xs ys s in record { binds = binds_wider (omega arith) (omega arith) b.binds; keeps = row_record (plain b.binds.world) fs ps q h _ _ b.keeps }
    kept_is (Typed_pattern p e) q f r x y s = kept_is p q f (restarred_on (written_stars N false e (types q)) r) (ascribed_is (written_stars N false e (types q)) x) y s

    all_kept_are : {w : World} {vs vs' us us' : Values} {scope scope' : Scope} (ps : Patterns Ref BindId) (q : ℕ) → Free w q (q + all_pattern_numbers ps) → All_restarred us vs → ValuesR (plain w) vs vs' → ValuesR (plain w) us us' → ScopeR w scope scope'
        → Keeps_all w q (q + all_pattern_numbers ps) (all_bound with_alias N types true ps q vs scope) (all_bound first_name_alone N types true ps q vs' scope') (λ x. all_kept with_alias N types ps q x us) (λ x. all_kept first_name_alone N types ps q x us')
    all_kept_are {w} no_pattern q f r xs ys s = record { binds = binds_not q _ s; keeps = λ x. empties (plain w) }
    all_kept_are {w} (pattern_and p ps) q f same_none no_values no_values s = record { binds = binds_not q _ s; keeps = λ x. no_row (plain w) p ps q x }
    all_kept_are {w} (pattern_and p ps) q f (same_more r rs) (more_values x xs) (more_values y ys) s =
        let a = kept_is p q (free_part w (omega arith) (omega arith) f) r x y s in
        let b = all_kept_are ps (q + pattern_numbers p) (free_on a.binds.only (free_part w (omega arith) (omega arith) f)) rs (plains_on a.binds.grows xs) (plains_on a.binds.grows ys) a.binds.scopes in record {
          binds = binds_on {lo2 = q + pattern_numbers p} (omega arith) (omega arith) a.binds (binds_wider (omega arith) (omega arith) b.binds);
          keeps = more_row (plain b.binds.world) p ps q _ _ _ _ (λ z. plain_set_on b.binds.grows (a.keeps z)) b.keeps;
        }

    fields_kept_are : {w : World} (h : Head) {vs vs' us us' : Values} {scope scope' : Scope} (fs : List Text) (ps : Patterns Ref BindId) (q : ℕ) → Free w q (q + all_pattern_numbers ps) → All_restarred us vs → ValuesR (plain w) vs vs' → ValuesR (plain w) us us' → ScopeR w scope scope'
        → Keeps_all w q (q + all_pattern_numbers ps) (fields_bound with_alias N types true fs ps q (Parts h vs) scope) (fields_bound first_name_alone N types true fs ps q (Parts h vs') scope') (λ x. fields_kept with_alias N types fs ps q h x us) (λ x. fields_kept first_name_alone N types fs ps q h x us')
    fields_kept_are {w} h [] ps q f r xs ys s = record { binds = binds_not q _ s; keeps = λ x. empties (plain w) }
    fields_kept_are {w} h (g ∷ fs) no_pattern q f r xs ys s = record { binds = binds_not q _ s; keeps = λ x. empties (plain w) }
    fields_kept_are {w} h (g ∷ fs) (pattern_and p ps) q f r xs ys s =
        let a = kept_is p q (free_part w (omega arith) (omega arith) f) (restarred_part_named N g (same_parts {h = h} r)) (part_named_is N g (parts_are {h = h} xs)) (part_named_is N g (parts_are {h = h} ys)) s in
        let b = fields_kept_are h fs ps (q + pattern_numbers p) (free_on a.binds.only (free_part w (omega arith) (omega arith) f)) r (plains_on a.binds.grows xs) (plains_on a.binds.grows ys) a.binds.scopes in record {
          binds = binds_on {lo2 = q + pattern_numbers p} (omega arith) (omega arith) a.binds (binds_wider (omega arith) (omega arith) b.binds);
          keeps = λ z. unions (plain_set_on b.binds.grows (a.keeps (star_at (place N.shapes (N.label g) h) z))) (b.keeps z);
        }

  -- ---- all parameters of a function

  pub parameters_are : (K : Kinds) (ps : Patterns Ref BindId) (q : ℕ) {w : World} {scope scope' : Scope} → Free w q (q + all_pattern_numbers ps) → ScopeR w scope scope'
      → Keeps_sets w q (q + all_pattern_numbers ps) (with_parameters with_alias N K types ps q scope) (with_parameters first_name_alone N K types ps q scope') (parameters_kept with_alias N K types ps q) (parameters_kept first_name_alone N K types ps q)
  parameters_are K no_pattern q {w} f s = record { binds = binds_not q _ s; keeps = empties (plain w) }
  parameters_are K (pattern_and p ps) q {w} f s =
      let v : ValueR (plain w) (parameter_value with_alias N K types p q) (parameter_value first_name_alone N K types p q) = with_stars_is K (empties (plain w)) (pattern_stars N types p q) (types q) in
      let a = kept_is p q (free_part w (omega arith) (omega arith) f) (not_restarred _) v v s in
      let b = parameters_are K ps (q + pattern_numbers p) (free_on a.binds.only (free_part w (omega arith) (omega arith) f)) a.binds.scopes in record {
        binds = binds_on {lo2 = q + pattern_numbers p} (omega arith) (omega arith) a.binds (binds_wider (omega arith) (omega arith) b.binds);
        keeps = unions (plain_set_on b.binds.grows (a.keeps (pattern_stars N types p q))) b.keeps;
      }
