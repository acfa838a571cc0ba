-- Arguments and the stars of their parameters, one after another.
use Rattle.std.proofs.Common.{Bool, true, false, ◌≢◌, Option, Some, None, ◌≡◌, ℕ, ◌+◌, ◌<◌, ◌≤◌, List, [], ◌∷◌, ◌++◌, length, get_or, drop, refl, sym, ap, ◌∙◌, arith, append-nil}
use Rattle.std.specs.Borrow.{Bor}
use Rattle.fut_types.specs.declared.Head.{Head}
use Rattle.fut_types.specs.declared.Head.TheVariants as head
use Rattle.fut_types.specs.Types.{Ty, Made, Tys, none, more}
use Rattle.fut_aliases.specs.Aliases.{Set, union}
use Rattle.fut_aliases.specs.Values.{aliases, left}
use Rattle.fut_aliases.specs.Stars.{Stars, Leaf, Arrow, Row, no_stars}
use Rattle.fut_aliases.specs.Calls as definition
use Rattle.fut_aliases.specs.Looking.{wanted_parameter}
use Rattle.fut_aliases.specs.Calls.{given, given_to, left_by, stars_behind, stars_of as function_stars, type_behind}
use Rattle.alias_values.specs.declared.trees.StarTree.{StarTree}
use Rattle.alias_values.specs.declared.trees.StarTree.TheVariants as star
use Rattle.alias_values.specs.declared.trees.ValueTree.{ValueTree}
use Rattle.alias_values.specs.declared.trees.ValueTree.TheVariants as value
use Rattle.alias_values.specs.declared.trees.TypeTree.{TypeTree}
use Rattle.alias_values.specs.declared.trees.TypeTree.TheVariants as type
use Rattle.alias_values.specs.Trees.{stars_of, type_of, types_of, tys, value_of}
use Rattle.alias_values.proofs.Forms.{star_forms, star_arrow, star_leaf, star_row, type_made, type_var, value_array, value_forms, value_function, value_parts, value_scalar}
use Rattle.alias_values.proofs.Rows.{drop_past, one_more}
use Rattle.uniqueness.specs.declared.held.Held.{Held}
use Rattle.uniqueness.specs.Held.{held_of, helds_of}
use Rattle.alias_program.specs.declared.parts.Part.{Part}
use Rattle.alias_applications.specs.declared.given.Given.{Given}
use Rattle.alias_applications.specs.Shown.{part_with}
use Rattle.alias_applications.specs.Givens.{arguments_of, given_of, givens_of, is_fun, next_parameter, next_stars, next_type}

pub ruleset function_forms = (value_forms)

pub ruleset arrow_forms = (star_forms)

-- ---- the stars and the type behind all arguments

behind_next : (x : definition.Held) (xs : List definition.Held) (u : Stars) → stars_behind (x ∷ xs) u ≡ stars_behind xs (next_stars u)
behind_next x xs (Arrow b p r) = refl
behind_next x [] (Leaf b) = refl
behind_next x (y ∷ xs) (Leaf b) = refl
behind_next x [] (Row us) = refl
behind_next x (y ∷ xs) (Row us) = refl

module _ (xs : List Held) (u : Stars) (i : ℕ) (v : Stars) (h : stars_behind (helds_of xs) u ≡ stars_behind (helds_of (drop i xs)) v) where
  pub behind_more : (d : Held) (w : Stars) → i < length xs → w ≡ next_stars v → stars_behind (helds_of xs) u ≡ stars_behind (helds_of (drop (i + 1) xs)) w
  behind_more d w l e = h ∙ ap (λ z. stars_behind (helds_of z) v) (one_more xs i d l) ∙ behind_next (held_of (get_or xs i d)) (helds_of (drop (i + 1) xs)) v ∙ ap (stars_behind (helds_of (drop (i + 1) xs))) (sym e)

  pub behind_end : length xs ≤ i → v ≡ stars_behind (helds_of xs) u
  behind_end l = sym (h ∙ ap (λ z. stars_behind (helds_of z) v) (drop_past xs i l))

pub ruleset behind_forms = (behind_more, behind_end)

type_next : (x : definition.Held) (xs : List definition.Held) (t : Ty) → type_behind (x ∷ xs) t ≡ type_behind xs (next_type t)
type_next x [] (Made head.Fun (more p (more r none))) = refl
type_next x [] t = refl
type_next x (y ∷ xs) (Made head.Fun (more p (more r none))) = refl
type_next x (y ∷ xs) t = refl

fun_of_two : (ts : List TypeTree) (t : TypeTree) → length ts ≡ 2 → type_of (get_or ts 1 t) ≡ next_type (Made head.Fun (types_of ts))
unfolding types_of tys
fun_of_two [] t e = absurd (omega (arith, e))
fun_of_two (p ∷ []) t e = absurd (omega (arith, e))
fun_of_two (p ∷ r ∷ []) t e = refl
fun_of_two (p ∷ r ∷ q ∷ ts) t e = absurd (omega (arith, e))

of_others : (h : Head) (ts : List TypeTree) → length ts ≢ 2 → Made h (types_of ts) ≡ next_type (Made h (types_of ts))
unfolding types_of tys
of_others head.Fun [] n = refl
of_others head.Fun (p ∷ []) n = refl
of_others head.Fun (p ∷ r ∷ []) n = absurd (n refl)
of_others head.Fun (p ∷ r ∷ q ∷ ts) n = refl
of_others h ts n = refl

of_plain : (h : Head) (ts : Tys) → false ≡ is_fun h → Made h ts ≡ next_type (Made h ts)
of_plain head.Fun ts e = cc
of_plain h ts e = refl

fun_head : (h : Head) (ts : Tys) → true ≡ is_fun h → Made h ts ≡ Made head.Fun ts
fun_head head.Fun ts e = refl
fun_head head.Array ts e = cc
fun_head head.Tuple ts e = cc
fun_head (head.Scalar k) ts e = cc
fun_head (head.Record n) ts e = cc
fun_head (head.Rigid n k) ts e = cc
fun_head (head.Abstract n b) ts e = cc

module _ (ty : TypeTree) (h : Head) (ts : Bor (List TypeTree)) (m : ty ≡ type.Made h ts) where
  made_is : type_of ty ≡ Made h (types_of ts.now)
  made_is = ap type_of m ∙ type_made h ts

  pub next_fun : (t : TypeTree) → true ≡ is_fun h → length ts.now ≡ 2 → type_of (get_or ts.now 1 t) ≡ next_type (type_of ty)
  next_fun t f l = fun_of_two ts.now t l ∙ sym (ap next_type (made_is ∙ fun_head h (types_of ts.now) f))

  pub next_short : length ts.now ≢ 2 → type_of ty ≡ next_type (type_of ty)
  next_short n = made_is ∙ of_others h ts.now n ∙ sym (ap next_type made_is)

  pub next_plain : false ≡ is_fun h → type_of ty ≡ next_type (type_of ty)
  next_plain f = made_is ∙ of_plain h (types_of ts.now) f ∙ sym (ap next_type made_is)

pub next_var : (ty : TypeTree) (v : ℕ) → ty ≡ type.Var v → type_of ty ≡ next_type (type_of ty)
next_var ty v m = ap type_of m ∙ type_var v ∙ sym (ap next_type (ap type_of m ∙ type_var v))

pub ruleset type_steps = (next_fun, next_short, next_plain, next_var)

module _ (xs : List Held) (u : Ty) (i : ℕ) (v : Ty) (h : type_behind (helds_of xs) u ≡ type_behind (helds_of (drop i xs)) v) where
  pub type_more : (d : Held) (w : Ty) → i < length xs → w ≡ next_type v → type_behind (helds_of xs) u ≡ type_behind (helds_of (drop (i + 1) xs)) w
  type_more d w l e = h ∙ ap (λ z. type_behind (helds_of z) v) (one_more xs i d l) ∙ type_next (held_of (get_or xs i d)) (helds_of (drop (i + 1) xs)) v ∙ ap (type_behind (helds_of (drop (i + 1) xs))) (sym e)

  pub type_end : length xs ≤ i → v ≡ type_behind (helds_of xs) u
  type_end l = sym (h ∙ ap (λ z. type_behind (helds_of z) v) (drop_past xs i l))

pub ruleset type_behind_forms = (type_more, type_end)

nothing_behind : (xs : List definition.Held) → stars_behind xs no_stars ≡ no_stars
nothing_behind [] = refl
nothing_behind (x ∷ xs) = refl

-- what is wanted of the next argument
abbrev parameter_of : Stars → Option Stars
parameter_of (Arrow b q r) = Some q
parameter_of u = None

module _ (p : Part) (xs : List Held) where
  wanted_is : (u : Stars) → function_stars (value_of p.head.value.now) ≡ u → wanted_parameter (part_with p xs) ≡ parameter_of (stars_behind (helds_of xs) u)
  wanted_is u e = ap (λ z. parameter_of (stars_behind (helds_of xs) z)) e

  pub wanted_some : (s : Bor Set) (u : Bor StarTree) (w : StarTree) (b : Bool) (q r : Bor StarTree) → p.head.value.now ≡ value.Function s u → stars_of w ≡ stars_behind (helds_of xs) (stars_of u.now) → w ≡ star.Arrow b q r → Some (stars_of q.now) ≡ wanted_parameter (part_with p xs)
  wanted_some s u w b q r v e a = sym (wanted_is (stars_of u.now) (ap (λ z. function_stars (value_of z)) v ∙ ap function_stars (value_function s u)) ∙ ap parameter_of (sym e ∙ ap stars_of a ∙ star_arrow b q r))

  pub wanted_leaf : (s : Bor Set) (u : Bor StarTree) (w : StarTree) (b : Bool) → p.head.value.now ≡ value.Function s u → stars_of w ≡ stars_behind (helds_of xs) (stars_of u.now) → w ≡ star.Leaf b → None ≡ wanted_parameter (part_with p xs)
  wanted_leaf s u w b v e a = sym (wanted_is (stars_of u.now) (ap (λ z. function_stars (value_of z)) v ∙ ap function_stars (value_function s u)) ∙ ap parameter_of (sym e ∙ ap stars_of a ∙ star_leaf b))

  pub wanted_row : (s : Bor Set) (u : Bor StarTree) (w : StarTree) (us : Bor (List StarTree)) → p.head.value.now ≡ value.Function s u → stars_of w ≡ stars_behind (helds_of xs) (stars_of u.now) → w ≡ star.Row us → None ≡ wanted_parameter (part_with p xs)
  wanted_row s u w us v e a = sym (wanted_is (stars_of u.now) (ap (λ z. function_stars (value_of z)) v ∙ ap function_stars (value_function s u)) ∙ ap parameter_of (sym e ∙ ap stars_of a ∙ star_row us))

  none_wanted : function_stars (value_of p.head.value.now) ≡ no_stars → None ≡ wanted_parameter (part_with p xs)
  none_wanted e = sym (wanted_is no_stars e ∙ ap parameter_of (nothing_behind (helds_of xs)))

  pub wanted_scalar : p.head.value.now ≡ value.Scalar → None ≡ wanted_parameter (part_with p xs)
  wanted_scalar v = none_wanted (ap (λ z. function_stars (value_of z)) v ∙ ap function_stars value_scalar)

  pub wanted_array : (s : Bor Set) → p.head.value.now ≡ value.Array s → None ≡ wanted_parameter (part_with p xs)
  wanted_array s v = none_wanted (ap (λ z. function_stars (value_of z)) v ∙ ap function_stars (value_array s))

  pub wanted_parts : (h : Head) (vs : Bor (List ValueTree)) → p.head.value.now ≡ value.Parts h vs → None ≡ wanted_parameter (part_with p xs)
  wanted_parts h vs v = none_wanted (ap (λ z. function_stars (value_of z)) v ∙ ap function_stars (value_parts h vs))

pub ruleset wanted_forms = (wanted_some, wanted_leaf, wanted_row, wanted_scalar, wanted_array, wanted_parts)

-- ---- the arguments with their stars

given_next : (x : definition.Held) (xs : List definition.Held) (u : Stars) → given (x ∷ xs) u ≡ record { argument = x; stars = next_parameter u } ∷ given xs (next_stars u)
given_next x xs (Arrow b p r) = refl
given_next x xs (Leaf b) = refl
given_next x xs (Row us) = refl

-- these before others
abbrev pub givens_before : List Given → List definition.Given → List definition.Given
givens_before made gs = givens_of made ++ gs

one_behind : (made : List Given) (g : Given) (gs : List definition.Given) → givens_of made ++ given_of g ∷ gs ≡ givens_of (made ++ g ∷ []) ++ gs
one_behind [] g gs = refl
one_behind (x ∷ made) g gs = ap (λ z. given_of x ∷ z) (one_behind made g gs)

module _ (xs : List Held) (u : Stars) (i : ℕ) (made : List Given) (v : Stars) (h : given (helds_of xs) u ≡ givens_of made ++ given (helds_of (drop i xs)) v) where
  pub given_more : (d : Held) (s : Bor StarTree) (longer : List Given) (w : Stars) → i < length xs → stars_of s.now ≡ next_parameter v → longer ≡ made ++ record { argument = get_or xs i d; stars = s } ∷ [] → w ≡ next_stars v
      → given (helds_of xs) u ≡ givens_of longer ++ given (helds_of (drop (i + 1) xs)) w
  given_more d s longer w l p e n =
      h ∙ ap (λ z. givens_of made ++ given (helds_of z) v) (one_more xs i d l) ∙ ap (λ z. givens_of made ++ z) (given_next (held_of (get_or xs i d)) (helds_of (drop (i + 1) xs)) v)
      ∙ ap (λ z. givens_of made ++ record { argument = held_of (get_or xs i d); stars = z } ∷ given (helds_of (drop (i + 1) xs)) (next_stars v)) (sym p)
      ∙ one_behind made (record { argument = get_or xs i d; stars = s }) (given (helds_of (drop (i + 1) xs)) (next_stars v))
      ∙ ap (λ z. givens_of z ++ given (helds_of (drop (i + 1) xs)) (next_stars v)) (sym e) ∙ ap (λ z. givens_of longer ++ given (helds_of (drop (i + 1) xs)) z) (sym n)

  pub given_end : length xs ≤ i → givens_of made ≡ given (helds_of xs) u
  given_end l = sym (h ∙ ap (λ z. givens_of made ++ given (helds_of z) v) (drop_past xs i l) ∙ append-nil (givens_of made))

pub ruleset given_forms = (given_more, given_end)

-- the arguments that were given
pub arguments_given : (xs : List definition.Held) (u : Stars) → arguments_of (given xs u) ≡ xs
arguments_given [] u = refl
arguments_given (x ∷ xs) u = ap arguments_of (given_next x xs u) ∙ ap (λ z. x ∷ z) (arguments_given xs (next_stars u))

-- ---- what is left of them, from the last on

pub nothing_left : (gs : List Given) (s : Set) → s ≡ [] → s ≡ left_by (givens_of (drop (length gs) gs))
nothing_left gs s e = e ∙ sym (ap (λ z. left_by (givens_of z)) (drop_past gs (length gs) (omega arith)))

module _ (gs : List Given) (i j : ℕ) (s : Set) (h : s ≡ left_by (givens_of (drop i gs))) where
  pub left_more : (d : Given) (one longer : Set) → j + 1 ≡ i → i ≤ length gs → one ≡ left (stars_of (get_or gs j d).stars.now) (value_of (get_or gs j d).argument.value.now) → longer ≡ union one s → longer ≡ left_by (givens_of (drop j gs))
  left_more d one longer e l o m =
      m ∙ ap (λ z. union z s) o ∙ ap (union (left (stars_of (get_or gs j d).stars.now) (value_of (get_or gs j d).argument.value.now))) (h ∙ ap (λ k. left_by (givens_of (drop k gs))) (sym e))
      ∙ sym (ap (λ z. left_by (givens_of z)) (one_more gs j d (omega (arith, e, l))))

  pub left_end : i ≤ 0 → s ≡ left_by (givens_of gs)
  left_end z = let e : i ≡ 0 = omega (arith, z) in h ∙ ap (λ k. left_by (givens_of (drop k gs))) e

pub ruleset left_forms = (nothing_left, left_more, left_end)

pub nothing_given : (xs : List Held) (s : Set) → s ≡ [] → s ≡ given_to (helds_of (drop (length xs) xs))
nothing_given xs s e = e ∙ sym (ap (λ z. given_to (helds_of z)) (drop_past xs (length xs) (omega arith)))

module _ (xs : List Held) (i j : ℕ) (s : Set) (h : s ≡ given_to (helds_of (drop i xs))) where
  pub given_to_more : (d : Held) (one longer : Set) → j + 1 ≡ i → i ≤ length xs → one ≡ aliases (value_of (get_or xs j d).value.now) → longer ≡ union one s → longer ≡ given_to (helds_of (drop j xs))
  given_to_more d one longer e l o m =
      m ∙ ap (λ z. union z s) o ∙ ap (union (aliases (value_of (get_or xs j d).value.now))) (h ∙ ap (λ k. given_to (helds_of (drop k xs))) (sym e))
      ∙ sym (ap (λ z. given_to (helds_of z)) (one_more xs j d (omega (arith, e, l))))

  pub given_to_end : i ≤ 0 → s ≡ given_to (helds_of xs)
  given_to_end z = let e : i ≡ 0 = omega (arith, z) in h ∙ ap (λ k. given_to (helds_of (drop k xs))) e

pub ruleset given_to_forms = (nothing_given, given_to_more, given_to_end)
