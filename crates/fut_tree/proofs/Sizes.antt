-- A list of parts is smaller than the expression that holds it, as walks measure both.
use Rattle.std.proofs.Common.{◌≡◌, ℕ, ◌+◌, ◌*◌, ◌≤◌, ◌<◌, List, [], ◌∷◌, subst, arith}
use Rattle.std.specs.Borrow.{Bor}
use denote.Param.Weighed.{most}
use Rattle.fut_ast.specs.Sorts.{SourceExp}
use Rattle.fut_tree.specs.declared.held.Held.{Held}
use Rattle.fut_tree.specs.declared.exp.Exp.TheInside.{Inside}
use Rattle.fut_tree.specs.declared.exp.Exp.TheShapes.{weighed-Form-Tuple-0-at-2}
use Rattle.fut_tree.specs.declared.exp.Exp.TheDeep.{deep-Form, deep-ExpField, deep-Bind, deep-Ix, size-Exp, size-ExpField, size-Bind, size-Ix}
use Rattle.fut_tree.specs.declared.exp.Form.{Form}
use Rattle.fut_tree.specs.declared.exp.Form.TheVariants as held_form
use Rattle.fut_tree.specs.declared.exp.ExpField.{ExpField}
use Rattle.fut_tree.specs.declared.exp.Bind.{Bind}
use Rattle.fut_tree.specs.declared.exp.Ix.{Ix}
use Rattle.fut_tree.specs.Exps.{exp_of, exp_size}
use Rattle.fut_tree.specs.ExpsFall.{exp_falls}

abbrev pub exps_size : List (Held SourceExp) → ℕ
exps_size = most (λ x. weighed-Form-Tuple-0-at-2.weight _ size-Exp x)

exps_thrice : (xs : List (Held SourceExp)) → exps_size xs ≤ 3 * most (λ x. weighed-Form-Tuple-0-at-2.weight SourceExp (λ y. exp_size y + 1) x) xs
exps_thrice [] = omega arith
exps_thrice (x ∷ xs) = omega (arith, exps_thrice xs)

fields_thrice : (xs : List ExpField) → most size-ExpField xs ≤ 3 * most deep-ExpField xs + 1
fields_thrice [] = omega arith
fields_thrice (x ∷ xs) = omega (arith, fields_thrice xs)

binds_thrice : (xs : List Bind) → most size-Bind xs ≤ 3 * most deep-Bind xs + 1
binds_thrice [] = omega arith
binds_thrice (x ∷ xs) = omega (arith, binds_thrice xs)

ixs_thrice : (xs : List Ix) → most size-Ix xs ≤ 3 * most deep-Ix xs + 1
ixs_thrice [] = omega arith
ixs_thrice (x ∷ xs) = omega (arith, ixs_thrice xs)

module _ (e : Inside) (v : SourceExp) (stands : exp_of e ≡ v) where
  under : (f : Form) → e.form ≡ f → deep-Form f ≤ exp_size v
  under f is = subst (λ g. deep-Form g ≤ exp_size v) is (subst (λ w. deep-Form e.form ≤ exp_size w) stands (omega (arith, exp_falls e)))

  pub tuple_parts : (es : Bor (List (Held SourceExp))) → e.form ≡ held_form.Tuple es → 2 * exps_size es.now + 1 < 2 * size-Exp v
  tuple_parts es is = omega (arith, under (held_form.Tuple es) is, exps_thrice es.now)

  pub array_parts : (es : Bor (List (Held SourceExp))) → e.form ≡ held_form.Array es → 2 * exps_size es.now + 1 < 2 * size-Exp v
  array_parts es is = omega (arith, under (held_form.Array es) is, exps_thrice es.now)

  pub record_parts : (fs : Bor (List ExpField)) → e.form ≡ held_form.Record fs → 2 * most size-ExpField fs.now + 1 < 2 * size-Exp v
  record_parts fs is = omega (arith, under (held_form.Record fs) is, fields_thrice fs.now)

  pub lets_parts : (bs : Bor (List Bind)) (b : Bor SourceExp) → e.form ≡ held_form.Lets bs b → 2 * most size-Bind bs.now + 1 < 2 * size-Exp v
  lets_parts bs b is = omega (arith, under (held_form.Lets bs b) is, binds_thrice bs.now)

  pub index_parts : (a : Bor SourceExp) (is' : Bor (List Ix)) → e.form ≡ held_form.Index a is' → 2 * most size-Ix is'.now + 1 < 2 * size-Exp v
  index_parts a is' is = omega (arith, under (held_form.Index a is') is, ixs_thrice is'.now)

  pub update_parts : (a : Bor SourceExp) (es : Bor (List (Held SourceExp))) (w : Bor SourceExp) → e.form ≡ held_form.Update a es w → 2 * exps_size es.now + 1 < 2 * size-Exp v
  update_parts a es w is = omega (arith, under (held_form.Update a es w) is, exps_thrice es.now)
