-- Places by names.
use Rattle.std.proofs.Common.{◌≡◌, ℕ, ◌+◌, ◌<◌, ◌≤◌, ◌^◌, List, length, Bool, true, false, Option, Some, None, Result, Ok, refl, sym, ap, ◌∙◌, arith, subst}
use Rattle.std.specs.Prelude.{IsTrue}
use Rattle.std.specs.Borrow.{Bor}
use Rattle.std.specs.HashMap.{get_by}
use Rattle.std.specs.Str.{bytes_eq}
use Rattle.fut_ast.specs.Sorts.{Text}
use Rattle.fut_scalar.specs.declared.scalar.ScalarType.{ScalarType}
use Rattle.fut_types.specs.declared.Head.{Head}
use Rattle.fut_types.specs.declared.Head.TheVariants as head
use Rattle.fut_types.specs.declared.Kind.{Kind}
use Rattle.fut_types.specs.declared.shapes.ShapeTable.{ShapeTable}
use Rattle.fut_types.specs.Shapes.{Shapes, IsKnown, Tells, Tells_position, place}
use Rattle.fut_typing.specs.Names.{Names}
use Rattle.fut_aliases.specs.Stars.{Stars}
use Rattle.fut_aliases.specs.Aliases.{Set}
use Rattle.fut_aliases.specs.Values.{Value, Scalar, Array, Function, Parts, Values, part, with_part, part_named, with_part_named}
use Rattle.alias_values.specs.declared.trees.ValueTree.{ValueTree}
use Rattle.alias_values.specs.declared.trees.ValueTree.TheVariants as value
use Rattle.alias_values.specs.declared.trees.StarTree.{StarTree}
use Rattle.alias_values.specs.Trees.{value_of, values_of}
use Rattle.alias_values.proofs.Forms.{value_scalar, value_array, value_function, value_parts}
use Rattle.alias_parts.specs.declared.names.PartNames.{PartNames}
use Rattle.alias_parts.specs.Known.{Knows}
use Rattle.alias_parts.proofs.PartForms.{part_past, with_past}

-- ---- heads

module _ (table : ShapeTable) where
  pub known_record : (n : ℕ) → n < length table.records → IsKnown table (head.Record n)
  unfolding IsKnown
  known_record n l = l

  pub known_tuple : IsKnown table head.Tuple
  unfolding IsKnown
  known_tuple = tt

  pub known_scalar : (s : ScalarType) → IsKnown table (head.Scalar s)
  unfolding IsKnown
  known_scalar s = tt

  pub known_array : IsKnown table head.Array
  unfolding IsKnown
  known_array = tt

  pub known_fun : IsKnown table head.Fun
  unfolding IsKnown
  known_fun = tt

  pub known_rigid : (n : ℕ) (k : Kind) → IsKnown table (head.Rigid n k)
  unfolding IsKnown
  known_rigid n k = tt

  pub known_abstract : (n : ℕ) (d : Bool) → IsKnown table (head.Abstract n d)
  unfolding IsKnown
  known_abstract n d = tt

pub ruleset known_heads = (known_record, known_tuple, known_scalar, known_array, known_fun, known_rigid, known_abstract)

-- ---- places

pub placed : (names : PartNames) (s : Text) (n : ℕ) (h : Head) (o : Option ℕ) → get_by (λ k. bytes_eq s k.now) names.numbers.now ≡ Some n
    → ((S : Shapes) → Tells names.table.now S → Tells_position o (place S n h)) → (N : Names) → Knows names N → Tells_position o (place N.shapes (N.label s) h)
placed names s n h o e t N k = subst (λ l. Tells_position o (place N.shapes l h)) (sym (k.label s n e)) (t N.shapes k.shapes)

-- ---- parts

part_told : (o p : Option ℕ) (vs : List ValueTree) → Tells_position o p → length vs < 2 ^ 32 → part o (values_of vs) ≡ part p (values_of vs)
part_told (Some i) p vs t l = ap (λ z. part z (values_of vs)) (sym t)
part_told None None vs t l = refl
part_told None (Some i) vs t l = let h : 2 ^ 32 ≤ i = t i refl in part_past vs i (omega (arith, h, l))

with_told : (o p : Option ℕ) (w : ValueTree) (vs : List ValueTree) → Tells_position o p → length vs < 2 ^ 32 → with_part o (value_of w) (values_of vs) ≡ with_part p (value_of w) (values_of vs)
with_told (Some i) p w vs t l = ap (λ z. with_part z (value_of w) (values_of vs)) (sym t)
with_told None None w vs t l = refl
with_told None (Some i) w vs t l = let h : 2 ^ 32 ≤ i = t i refl in with_past w vs i (omega (arith, h, l))

module _ (N : Names) (s : Text) where
  pub named_scalar : Scalar ≡ part_named N s Scalar
  unfolding part_named
  named_scalar = refl

  pub named_array : (x : Set) → Array x ≡ part_named N s (Array x)
  unfolding part_named
  named_array x = refl

  pub named_function : (x : Set) (u : Stars) → Function x u ≡ part_named N s (Function x u)
  unfolding part_named
  named_function x u = refl

  pub named_parts : (h : Head) (o : Option ℕ) (vs : List ValueTree) (v : Value) → v ≡ part o (values_of vs) → Tells_position o (place N.shapes (N.label s) h) → length vs < 2 ^ 32 → v ≡ part_named N s (Parts h (values_of vs))
  unfolding part_named
  named_parts h o vs v e t l = e ∙ part_told o (place N.shapes (N.label s) h) vs t l

  pub with_scalar : (w : Value) → Scalar ≡ with_part_named N s w Scalar
  unfolding with_part_named
  with_scalar w = refl

  pub with_array : (w : Value) (x : Set) → Array x ≡ with_part_named N s w (Array x)
  unfolding with_part_named
  with_array w x = refl

  pub with_function : (w : Value) (x : Set) (u : Stars) → Function x u ≡ with_part_named N s w (Function x u)
  unfolding with_part_named
  with_function w x u = refl

  pub with_parts : (h : Head) (o : Option ℕ) (w : ValueTree) (vs all : List ValueTree) → values_of all ≡ with_part o (value_of w) (values_of vs) → Tells_position o (place N.shapes (N.label s) h) → length vs < 2 ^ 32
      → Parts h (values_of all) ≡ with_part_named N s (value_of w) (Parts h (values_of vs))
  unfolding with_part_named
  with_parts h o w vs all e t l = ap (Parts h) (e ∙ with_told o (place N.shapes (N.label s) h) w vs t l)

-- ---- trees

module _ (N : Names) (s : Text) (t : ValueTree) where
  same_whole : (v : Value) → value_of t ≡ v → v ≡ part_named N s v → value_of t ≡ part_named N s (value_of t)
  same_whole v e h = e ∙ h ∙ ap (part_named N s) (sym e)

  pub scalar_whole : t ≡ value.Scalar → value_of t ≡ part_named N s (value_of t)
  scalar_whole i = same_whole Scalar (ap value_of i ∙ value_scalar) (named_scalar N s)

  pub array_whole : (x : Bor Set) → t ≡ value.Array x → value_of t ≡ part_named N s (value_of t)
  array_whole x i = same_whole _ (ap value_of i ∙ value_array x) (named_array N s x.now)

  pub function_whole : (x : Bor Set) (u : Bor StarTree) → t ≡ value.Function x u → value_of t ≡ part_named N s (value_of t)
  function_whole x u i = same_whole _ (ap value_of i ∙ value_function x u) (named_function N s x.now _)

  pub parts_found : (h : Head) (vs : Bor (List ValueTree)) (o : Option ℕ) (v : Value) → t ≡ value.Parts h vs → v ≡ part o (values_of vs.now) → Tells_position o (place N.shapes (N.label s) h) → length vs.now < 2 ^ 32 → v ≡ part_named N s (value_of t)
  parts_found h vs o v i e p l = named_parts N s h o vs.now v e p l ∙ ap (part_named N s) (sym (ap value_of i ∙ value_parts h vs))

  with_whole : (w v : Value) → value_of t ≡ v → v ≡ with_part_named N s w v → value_of t ≡ with_part_named N s w (value_of t)
  with_whole w v e h = e ∙ h ∙ ap (with_part_named N s w) (sym e)

  pub with_scalar_whole : (w : Value) → t ≡ value.Scalar → value_of t ≡ with_part_named N s w (value_of t)
  with_scalar_whole w i = with_whole w Scalar (ap value_of i ∙ value_scalar) (with_scalar N s w)

  pub with_array_whole : (w : Value) (x : Bor Set) → t ≡ value.Array x → value_of t ≡ with_part_named N s w (value_of t)
  with_array_whole w x i = with_whole w _ (ap value_of i ∙ value_array x) (with_array N s w x.now)

  pub with_function_whole : (w : Value) (x : Bor Set) (u : Bor StarTree) → t ≡ value.Function x u → value_of t ≡ with_part_named N s w (value_of t)
  with_function_whole w x u i = with_whole w _ (ap value_of i ∙ value_function x u) (with_function N s w x.now _)

  pub parts_with : (h : Head) (vs : Bor (List ValueTree)) (o : Option ℕ) (w : ValueTree) (all : List ValueTree) (made : Value) → t ≡ value.Parts h vs → values_of all ≡ with_part o (value_of w) (values_of vs.now) → Tells_position o (place N.shapes (N.label s) h)
      → length vs.now < 2 ^ 32 → made ≡ Parts h (values_of all) → made ≡ with_part_named N s (value_of w) (value_of t)
  parts_with h vs o w all made i e p l m = m ∙ with_parts N s h o w vs.now all e p l ∙ ap (with_part_named N s (value_of w)) (sym (ap value_of i ∙ value_parts h vs))
