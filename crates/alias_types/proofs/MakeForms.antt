-- Values and stars of a type, form by form.
use Rattle.std.proofs.Common.{◌≡◌, ◌≢◌, ℕ, zero, suc, ◌+◌, ◌<◌, ◌≤◌, List, [], ◌∷◌, ◌++◌, length, get_or, drop, Bool, true, false, cond, refl, sym, ap, ◌∙◌, arith}
use Rattle.std.proofs.lemmas.Bool.{le-leb}
use Rattle.std.proofs.lemmas.List.{get_or_past}
use Rattle.std.specs.Borrow.{Bor}
use Rattle.std.specs.Prelude.{nat_le}
use Rattle.fut_scalar.specs.declared.scalar.ScalarType.{ScalarType}
use Rattle.fut_types.specs.declared.Head.{Head}
use Rattle.fut_types.specs.declared.Head.TheVariants as head
use Rattle.fut_types.specs.declared.Kind.{Kind}
use Rattle.fut_types.specs.declared.Kind.TheVariants as kind
use Rattle.fut_types.specs.Types.{Ty, Var, Made, Tys, none, more, Kinds, level}
use Rattle.fut_aliases.specs.Aliases.{Set}
use Rattle.fut_aliases.specs.Stars.{Stars, Leaf, Arrow, Row, StarRow, star_and, spread, all_spread}
use Rattle.fut_aliases.specs.Values.{Scalar, Array, Function, Parts, value_and, of_kind, of_type, of_types, unless, with_stars, all_with_stars}
use Rattle.alias_values.specs.declared.trees.StarTree.{StarTree}
use Rattle.alias_values.specs.declared.trees.ValueTree.{ValueTree}
use Rattle.alias_values.specs.declared.trees.StarTree.TheVariants as star
use Rattle.alias_values.specs.declared.trees.TypeTree.{TypeTree}
use Rattle.alias_values.specs.declared.trees.TypeTree.TheVariants as type
use Rattle.alias_values.specs.Trees.{stars_of, row_of, tys, type_of, types_of, value_of, values_of}
use Rattle.alias_values.proofs.Forms.{star_forms, type_made, type_forms}
use Rattle.alias_values.proofs.Rows.{stars_at, stars_end, types_at, types_end, row_before, row_before_more, row_before_none, values_before, values_before_more, values_before_none}

-- ---- one star over a whole type

pub spread_var : (b : Bool) (v : ℕ) → spread b (Var v) ≡ Leaf b
unfolding spread
spread_var b v = refl

module _ (b : Bool) (ts : Tys) where
  pub spread_tuple : spread b (Made head.Tuple ts) ≡ Row (all_spread b ts)
  unfolding spread all_spread
  spread_tuple = refl

  pub spread_record : (n : ℕ) → spread b (Made (head.Record n) ts) ≡ Row (all_spread b ts)
  unfolding spread all_spread
  spread_record n = refl

  pub spread_scalar : (k : ScalarType) → spread b (Made (head.Scalar k) ts) ≡ Leaf b
  unfolding spread
  spread_scalar k = refl

  pub spread_array : spread b (Made head.Array ts) ≡ Leaf b
  unfolding spread
  spread_array = refl

  pub spread_rigid : (n : ℕ) (k : Kind) → spread b (Made (head.Rigid n k) ts) ≡ Leaf b
  unfolding spread
  spread_rigid n k = refl

  pub spread_abstract : (n : ℕ) (d : Bool) → spread b (Made (head.Abstract n d) ts) ≡ Leaf b
  unfolding spread
  spread_abstract n d = refl

-- a function has a parameter and a result
tys_two : (ts : List TypeTree) (t u : TypeTree) → length ts ≡ 2 → types_of ts ≡ more (type_of (get_or ts 0 t)) (more (type_of (get_or ts 1 u)) none)
tys_two ts t u l = types_at ts 0 t (omega (arith, l)) ∙ ap (more (type_of (get_or ts 0 t))) (types_at ts 1 u (omega (arith, l)) ∙ ap (more (type_of (get_or ts 1 u))) (types_end ts 2 (omega (arith, l))))

module _ (b : Bool) (ts : List TypeTree) where
  pub spread_fun : (t u : TypeTree) (p r w : Stars) → p ≡ spread false (type_of (get_or ts 0 t)) → r ≡ spread false (type_of (get_or ts 1 u)) → w ≡ Arrow b p r → length ts ≡ 2 → w ≡ spread b (Made head.Fun (types_of ts))
  unfolding spread
  spread_fun t u p r w f g e l = e ∙ ap (λ z. Arrow b z r) f ∙ ap (Arrow b (spread false (type_of (get_or ts 0 t)))) g ∙ sym (ap (λ z. spread b (Made head.Fun z)) (tys_two ts t u l))

pub spread_fun_tree : (b : Bool) (ty : TypeTree) (h : Head) (ts : Bor (List TypeTree)) (t u : TypeTree) (p r w : Stars) → ty ≡ type.Made h ts → h ≡ head.Fun → p ≡ spread false (type_of (get_or ts.now 0 t)) → r ≡ spread false (type_of (get_or ts.now 1 u)) → w ≡ Arrow b p r → length ts.now ≡ 2
    → w ≡ spread b (type_of ty)
spread_fun_tree b ty h ts t u p r w i j f g e l = spread_fun b ts.now t u p r w f g e l ∙ sym (ap (spread b) (ap type_of i ∙ type_made h ts ∙ ap (λ z. Made z (types_of ts.now)) j))

pub spread_other : (b : Bool) (ts : List TypeTree) → length ts ≢ 2 → spread b (Made head.Fun (types_of ts)) ≡ Leaf b
unfolding spread types_of tys
spread_other b [] l = refl
spread_other b (t ∷ []) l = refl
spread_other b (t ∷ u ∷ []) l = absurd (l refl)
spread_other b (t ∷ u ∷ v ∷ ts) l = refl

pub ruleset spread_forms = (type_forms, spread_var, spread_tuple, spread_record, spread_scalar, spread_array, spread_rigid, spread_abstract, spread_fun, spread_other)

module _ (b : Bool) (ts : List TypeTree) (i : ℕ) (made : List StarTree) (h : all_spread b (types_of ts) ≡ row_before made (all_spread b (types_of (drop i ts)))) where
  pub spread_more : (t : TypeTree) (u : StarTree) (longer : List StarTree) → i < length ts → stars_of u ≡ spread b (type_of (get_or ts i t)) → longer ≡ made ++ u ∷ [] → all_spread b (types_of ts) ≡ row_before longer (all_spread b (types_of (drop (i + 1) ts)))
  unfolding spread all_spread
  spread_more t u longer l e p =
      h ∙ ap (row_before made) (ap (all_spread b) (types_at ts i t l) ∙ ap (λ z. star_and z (all_spread b (types_of (drop (i + 1) ts)))) (sym e))
      ∙ sym (row_before_more made u (all_spread b (types_of (drop (i + 1) ts)))) ∙ ap (λ z. row_before z (all_spread b (types_of (drop (i + 1) ts)))) (sym p)

  pub spread_end : length ts ≤ i → row_of made ≡ all_spread b (types_of ts)
  unfolding all_spread
  spread_end l = sym (h ∙ ap (λ z. row_before made (all_spread b z)) (types_end ts i l) ∙ row_before_none made)

pub ruleset all_spread_forms = (spread_more, spread_end)

-- ---- kinds

pub kind_scalar : (k : Kind) (s : Set) → 2 ≤ level k → of_kind (level k) s ≡ Scalar
kind_scalar k s l = ap (λ z. cond z Scalar (Array s)) (high (level k) l)
  where
    high : (n : ℕ) → 2 ≤ n → nat_le 2 n ≡ true
    high n l = le-leb 2 n l

pub kind_array : (k : Kind) (s : Set) → level k < 2 → of_kind (level k) s ≡ Array s
kind_array k s l = ap (λ z. cond z Scalar (Array s)) (low (level k) l)
  where
    low : (n : ℕ) → n < 2 → nat_le 2 n ≡ false
    low zero l = refl
    low (suc zero) l = refl
    low (suc (suc n)) l = absurd (omega arith)

pub ruleset kind_forms = (kind_scalar, kind_array)

pub kind_known : (ks : List Kind) (i : ℕ) (k : Kind) → k ≡ get_or ks i k → i < length ks → k ≡ get_or ks i kind.Any
kind_known [] i k e l = absurd (omega (arith, l))
kind_known (x ∷ ks) zero k e l = e
kind_known (x ∷ ks) (suc i) k e l = kind_known ks i k e (omega (arith, l))

pub kind_past : (ks : List Kind) (i : ℕ) → length ks ≤ i → kind.Any ≡ get_or ks i kind.Any
kind_past ks i l = sym (get_or_past ks i kind.Any l)

pub ruleset known_kinds = (kind_known, kind_past)

-- ---- one set over a whole type

pub of_var : (K : Kinds) (s : Set) (v : ℕ) → of_type K s (Var v) ≡ of_kind (level (K v)) s
unfolding of_type
of_var K s v = refl

module _ (K : Kinds) (s : Set) (ts : Tys) where
  pub of_scalar : (k : ScalarType) → of_type K s (Made (head.Scalar k) ts) ≡ Scalar
  unfolding of_type
  of_scalar k = refl

  pub of_tuple : of_type K s (Made head.Tuple ts) ≡ Parts head.Tuple (of_types K s ts)
  unfolding of_type of_types
  of_tuple = refl

  pub of_record : (n : ℕ) → of_type K s (Made (head.Record n) ts) ≡ Parts (head.Record n) (of_types K s ts)
  unfolding of_type of_types
  of_record n = refl

  pub of_fun : of_type K s (Made head.Fun ts) ≡ Function s (spread false (Made head.Fun ts))
  unfolding of_type
  of_fun = refl

  pub of_rigid : (n : ℕ) (k : Kind) → of_type K s (Made (head.Rigid n k) ts) ≡ of_kind (level k) s
  unfolding of_type
  of_rigid n k = refl

  pub of_array : of_type K s (Made head.Array ts) ≡ Array s
  unfolding of_type
  of_array = refl

  pub of_abstract : (n : ℕ) (d : Bool) → of_type K s (Made (head.Abstract n d) ts) ≡ Array s
  unfolding of_type
  of_abstract n d = refl

pub ruleset of_forms = (type_forms, of_var, of_scalar, of_tuple, of_record, of_fun, of_rigid, of_array, of_abstract)

module _ (K : Kinds) (s : Set) (ts : List TypeTree) (i : ℕ) (made : List ValueTree) (h : of_types K s (types_of ts) ≡ values_before made (of_types K s (types_of (drop i ts)))) where
  pub of_more : (t : TypeTree) (v : ValueTree) (longer : List ValueTree) → i < length ts → value_of v ≡ of_type K s (type_of (get_or ts i t)) → longer ≡ made ++ v ∷ [] → of_types K s (types_of ts) ≡ values_before longer (of_types K s (types_of (drop (i + 1) ts)))
  unfolding of_type of_types
  of_more t v longer l e p =
      h ∙ ap (values_before made) (ap (of_types K s) (types_at ts i t l) ∙ ap (λ z. value_and z (of_types K s (types_of (drop (i + 1) ts)))) (sym e))
      ∙ sym (values_before_more made v (of_types K s (types_of (drop (i + 1) ts)))) ∙ ap (λ z. values_before z (of_types K s (types_of (drop (i + 1) ts)))) (sym p)

  pub of_end : length ts ≤ i → values_of made ≡ of_types K s (types_of ts)
  unfolding of_types
  of_end l = sym (h ∙ ap (λ z. values_before made (of_types K s z)) (types_end ts i l) ∙ values_before_none made)

pub ruleset of_types_forms = (of_more, of_end)

-- ---- with stars

module _ (K : Kinds) (s : Set) where
  pub with_leaf : (b : Bool) (t : Ty) → with_stars K s (Leaf b) t ≡ of_type K (unless b s) t
  unfolding with_stars
  with_leaf b t = refl

  pub with_arrow : (b : Bool) (p r : Stars) (t : Ty) → with_stars K s (Arrow b p r) t ≡ Function (unless b s) (Arrow b p r)
  unfolding with_stars
  with_arrow b p r t = refl

  pub with_row : (us : StarRow) (h : Head) (ts : Tys) → with_stars K s (Row us) (Made h ts) ≡ Parts h (all_with_stars K s us ts)
  unfolding with_stars all_with_stars
  with_row us h ts = refl

  pub with_row_var : (us : StarRow) (v : ℕ) → with_stars K s (Row us) (Var v) ≡ of_type K s (Var v)
  unfolding with_stars
  with_row_var us v = refl

pub ruleset with_forms = (star_forms, type_forms, with_leaf, with_arrow, with_row, with_row_var)

module _ (K : Kinds) (s : Set) (us : List StarTree) (ts : List TypeTree) (i : ℕ) (made : List ValueTree) (h : all_with_stars K s (row_of us) (types_of ts) ≡ values_before made (all_with_stars K s (row_of (drop i us)) (types_of (drop i ts)))) where
  pub with_more : (u : StarTree) (t : TypeTree) (v : ValueTree) (longer : List ValueTree) → i < length us → i < length ts → value_of v ≡ with_stars K s (stars_of (get_or us i u)) (type_of (get_or ts i t)) → longer ≡ made ++ v ∷ []
      → all_with_stars K s (row_of us) (types_of ts) ≡ values_before longer (all_with_stars K s (row_of (drop (i + 1) us)) (types_of (drop (i + 1) ts)))
  unfolding with_stars all_with_stars
  with_more u t v longer l k e p =
      h ∙ ap (values_before made) (ap (λ z. all_with_stars K s z (types_of (drop i ts))) (stars_at us i u l) ∙ ap (all_with_stars K s (star_and (stars_of (get_or us i u)) (row_of (drop (i + 1) us)))) (types_at ts i t k)
      ∙ ap (λ z. value_and z (all_with_stars K s (row_of (drop (i + 1) us)) (types_of (drop (i + 1) ts)))) (sym e))
      ∙ sym (values_before_more made v (all_with_stars K s (row_of (drop (i + 1) us)) (types_of (drop (i + 1) ts))))
      ∙ ap (λ z. values_before z (all_with_stars K s (row_of (drop (i + 1) us)) (types_of (drop (i + 1) ts)))) (sym p)

  pub with_end : length us ≤ i → values_of made ≡ all_with_stars K s (row_of us) (types_of ts)
  unfolding all_with_stars
  with_end l = sym (h ∙ ap (λ z. values_before made (all_with_stars K s z (types_of (drop i ts)))) (stars_end us i l) ∙ values_before_none made)

  pub with_short : i < length us → length ts ≤ i → values_of made ≡ all_with_stars K s (row_of us) (types_of ts)
  unfolding all_with_stars
  with_short l k = sym (h ∙ ap (values_before made) (ap (λ z. all_with_stars K s z (types_of (drop i ts))) (stars_at us i (star.Leaf false) l) ∙ ap (all_with_stars K s (star_and (stars_of (get_or us i (star.Leaf false))) (row_of (drop (i + 1) us)))) (types_end ts i k)) ∙ values_before_none made)

pub ruleset all_with_forms = (with_more, with_end, with_short)
