-- What is wanted of the parts of operations.
use Rattle.std.proofs.Common.{◌≡◌, ℕ, zero, suc, ◌≤◌, ◌<◌, ◌^◌, Bool, List, [], ◌∷◌, length, get_or, Option, Some, None, refl, sym, ap, ◌∙◌, subst, arith}
use Rattle.std.specs.Borrow.{Bor}
use Rattle.fut_ast.specs.Sorts.{Text}
use Rattle.fut_flat.specs.Erased.{texts}
use Rattle.fut_types.specs.declared.Head.{Head}
use Rattle.fut_types.specs.Types.{Made, Kinds, Sub}
use Rattle.fut_types.specs.Shapes.{Tells_position, place}
use Rattle.fut_typing.specs.Names.{Names}
use Rattle.fut_aliases.specs.Aliases.{Naming}
use Rattle.fut_aliases.specs.Looking.{field_at, place_in, wanted_component}
use Rattle.fut_aliases.specs.Stars.{star_at}
use Rattle.alias_parts.proofs.PartForms.{star_past}
use Rattle.alias_values.specs.declared.trees.StarTree.{StarTree}
use Rattle.alias_values.specs.declared.trees.StarTree.TheVariants as star
use Rattle.alias_values.specs.declared.trees.TypeTree.{TypeTree}
use Rattle.alias_values.specs.declared.trees.TypeTree.TheVariants as type
use Rattle.alias_values.specs.Trees.{row_of, stars_of, type_of, types_of}
use Rattle.alias_values.proofs.Forms.{star_arrow, star_leaf, star_row, type_made, type_var}

star_told : (o p : Option ℕ) (us : List StarTree) → Tells_position o p → length us < 2 ^ 32 → star_at o (row_of us) ≡ star_at p (row_of us)
star_told (Some i) p us t l = ap (λ z. star_at z (row_of us)) (sym t)
star_told None None us t l = refl
star_told None (Some i) us t l = let h : 2 ^ 32 ≤ i = t i refl in star_past us i (omega (arith, h, l))

module _ (u : StarTree) (p : Option ℕ) where
  pub component_row : (us : Bor (List StarTree)) (o : Option ℕ) (found : StarTree) → u ≡ star.Row us → stars_of found ≡ star_at o (row_of us.now) → length us.now < 2 ^ 32 → Tells_position o p → Some (stars_of found) ≡ wanted_component p (Some (stars_of u))
  component_row us o found i e l t = ap Some (e ∙ star_told o p us.now t l) ∙ ap (λ z. wanted_component p (Some z)) (sym (ap stars_of i ∙ star_row us))

  pub component_leaf : (b : Bool) → u ≡ star.Leaf b → None ≡ wanted_component p (Some (stars_of u))
  component_leaf b i = ap (λ z. wanted_component p (Some z)) (sym (ap stars_of i ∙ star_leaf b))

  pub component_arrow : (b : Bool) (from to : Bor StarTree) → u ≡ star.Arrow b from to → None ≡ wanted_component p (Some (stars_of u))
  component_arrow b from to i = ap (λ z. wanted_component p (Some z)) (sym (ap stars_of i ∙ star_arrow b from to))

-- ---- the place of a written field

field_here : (fs : List (Bor Text)) (i : ℕ) (d : Bor Text) → i < length fs → field_at (texts fs) i ≡ Some (get_or fs i d).now
field_here [] i d l = absurd (omega (arith, l))
field_here (f ∷ fs) zero d l = refl
field_here (f ∷ fs) (suc i) d l = field_here fs i d (omega (arith, l))

field_past : (fs : List (Bor Text)) (i : ℕ) → length fs ≤ i → field_at (texts fs) i ≡ None
field_past [] i l = refl
field_past (f ∷ fs) zero l = absurd (omega (arith, l))
field_past (f ∷ fs) (suc i) l = field_past fs i (omega (arith, l))

told_none : (o : Option ℕ) → o ≡ None → Tells_position None o
told_none None e i f = cc
told_none (Some j) e i f = cc

module _ (naming : Naming) (N : Names) (K : Kinds) (types : Sub) (ty : TypeTree) (fs : List (Bor Text)) (i : ℕ) where
  pub field_placed : (h : Head) (ts : Bor (List TypeTree)) (d : Bor Text) (o : Option ℕ) → ty ≡ type.Made h ts → i < length fs → Tells_position o (place N.shapes (N.label (get_or fs i d).now) h) → Tells_position o (place_in naming N K types (type_of ty) (field_at (texts fs) i))
  field_placed h ts d o e l t = subst (Tells_position o) (sym (ap (λ z. place_in naming N K types z (field_at (texts fs) i)) (ap type_of e ∙ type_made h ts) ∙ ap (place_in naming N K types (Made h (types_of ts.now))) (field_here fs i d l))) t

  pub field_nowhere : (h : Head) (ts : Bor (List TypeTree)) → ty ≡ type.Made h ts → length fs ≤ i → Tells_position None (place_in naming N K types (type_of ty) (field_at (texts fs) i))
  field_nowhere h ts e l = told_none _ (ap (λ z. place_in naming N K types z (field_at (texts fs) i)) (ap type_of e ∙ type_made h ts) ∙ ap (place_in naming N K types (Made h (types_of ts.now))) (field_past fs i l))

  pub field_of_var : (v : ℕ) → ty ≡ type.Var v → Tells_position None (place_in naming N K types (type_of ty) (field_at (texts fs) i))
  field_of_var v e = told_none _ (ap (λ z. place_in naming N K types z (field_at (texts fs) i)) (ap type_of e ∙ type_var v))
