-- The expressions of a list of other parts are smaller than the expression that holds the list, as walks measure both.
use Rattle.std.proofs.Common.{◌≡◌, ◌≤◌, ◌<◌, ◌++◌, List, [], ◌∷◌, Option, None, Some, map, subst, arith}
use Rattle.std.specs.Borrow.{Bor}
use Prim.Native.Nat.{max}
use denote.Param.Weighed.{most}
use Rattle.fut_ast.specs.Sorts.{Path, Text, SourceExp}
use Rattle.fut_ast.specs.declared.exp.Form.TheViews.{size_roll-Exp}
use Rattle.fut_ast.specs.declared.node.End.{End}
use Rattle.fut_ast.specs.declared.node.Oper.{Oper}
use Rattle.fut_tree.specs.declared.held.Held.{Held}
use Rattle.fut_tree.specs.declared.exp.Exp.TheInside.{Inside}
use Rattle.fut_tree.specs.declared.exp.Exp.TheDeep.{deep-Form, size-Exp, size-ExpField, size-Ix}
use Rattle.fut_tree.specs.declared.exp.Form.{Form}
use Rattle.fut_tree.specs.declared.exp.Form.TheVariants as held_form
use Rattle.fut_tree.specs.declared.exp.ExpField.{ExpField}
use Rattle.fut_tree.specs.declared.exp.Ix.{Ix}
use Rattle.fut_tree.specs.declared.exp.Ix.TheVariants as held_ix
use Rattle.fut_tree.specs.Names.{all}
use Rattle.fut_tree.specs.Exps.{exp_of, exp_size, form_of}
use Rattle.fut_tree.specs.ExpsFall.{exp_falls}
use Rattle.fut_tree.proofs.Sizes.{exps_size, tuple_parts, array_parts, record_parts, index_parts, update_parts}
use Rattle.elab_exps.specs.Lists.{all_exps, exps_of, maybe_exp}
use Rattle.elab_exps.specs.Operations.{biggest}

pub held_biggest : (hs : List (Held SourceExp)) → exps_size hs ≤ biggest (all hs)
held_biggest [] = omega arith
held_biggest (h ∷ hs) = omega (arith, held_biggest hs)

biggest_held : (hs : List (Held SourceExp)) → biggest (all hs) ≤ exps_size hs
biggest_held [] = omega arith
biggest_held (h ∷ hs) = omega (arith, biggest_held hs)

biggest_of_both : (xs ys : List SourceExp) → biggest (xs ++ ys) ≤ max (biggest xs) (biggest ys)
biggest_of_both [] ys = omega arith
biggest_of_both (x ∷ xs) ys = omega (arith, biggest_of_both xs ys)

fields_biggest : (fs : List ExpField) → biggest (map (λ (f : ExpField). f.exp.now) fs) ≤ most size-ExpField fs
fields_biggest [] = omega arith
fields_biggest (f ∷ fs) = omega (arith, fields_biggest fs)

ix_biggest : (i : Ix) → biggest (exps_of i) ≤ size-Ix i
ix_biggest (held_ix.At e) = omega arith
ix_biggest (held_ix.Slice None None) = omega arith
ix_biggest (held_ix.Slice None (Some f)) = omega arith
ix_biggest (held_ix.Slice (Some e) None) = omega arith
ix_biggest (held_ix.Slice (Some e) (Some f)) = omega arith
ix_biggest held_ix.Backwards = omega arith

ixs_biggest : (is : List Ix) → biggest (all_exps is) ≤ most size-Ix is
ixs_biggest [] = omega arith
ixs_biggest (i ∷ is) = omega (arith, biggest_of_both (exps_of i) (all_exps is), ix_biggest i, ixs_biggest is)

module _ (e : Inside) (v : SourceExp) (stands : exp_of e ≡ v) where
  under : (f : Form) → e.form ≡ f → deep-Form f ≤ exp_size v
  under f is = subst (λ g. deep-Form g ≤ exp_size v) is (subst (λ w. deep-Form e.form ≤ exp_size w) stands (omega (arith, exp_falls e)))

  pub none_smaller : 0 < size-Exp v
  none_smaller = subst (λ w. 0 < size-Exp w) stands (omega (arith, size_roll-Exp (record { place = e.place; mark = e.mark; form = form_of e.form })))

  pub tuple_smaller : (es : Bor (List (Held SourceExp))) → e.form ≡ held_form.Tuple es → biggest (all es.now) < size-Exp v
  tuple_smaller es is = omega (arith, tuple_parts e v stands es is, biggest_held es.now)

  pub array_smaller : (es : Bor (List (Held SourceExp))) → e.form ≡ held_form.Array es → biggest (all es.now) < size-Exp v
  array_smaller es is = omega (arith, array_parts e v stands es is, biggest_held es.now)

  pub record_smaller : (fs : Bor (List ExpField)) → e.form ≡ held_form.Record fs → biggest (map (λ (f : ExpField). f.exp.now) fs.now) < size-Exp v
  record_smaller fs is = omega (arith, record_parts e v stands fs is, fields_biggest fs.now)

  pub index_smaller : (a : Bor SourceExp) (ixs : Bor (List Ix)) → e.form ≡ held_form.Index a ixs → biggest (a.now ∷ all_exps ixs.now) < size-Exp v
  index_smaller a ixs is = omega (arith, under (held_form.Index a ixs) is, index_parts e v stands a ixs is, ixs_biggest ixs.now)

  pub update_smaller : (a : Bor SourceExp) (es : Bor (List (Held SourceExp))) (w : Bor SourceExp) → e.form ≡ held_form.Update a es w → biggest (a.now ∷ all es.now ++ w.now ∷ []) < size-Exp v
  update_smaller a es w is = omega (arith, under (held_form.Update a es w) is, update_parts e v stands a es w is, biggest_of_both (all es.now) (w.now ∷ []), biggest_held es.now)

  pub unary_smaller : (op : Oper) (a : Bor SourceExp) → e.form ≡ held_form.Unary op a → biggest (a.now ∷ []) < size-Exp v
  unary_smaller op a is = omega (arith, under (held_form.Unary op a) is)

  pub field_smaller : (a : Bor SourceExp) (x : Bor Text) → e.form ≡ held_form.Field a x → biggest (a.now ∷ []) < size-Exp v
  field_smaller a x is = omega (arith, under (held_form.Field a x) is)

  pub replace_smaller : (a : Bor SourceExp) (x : Bor Text) (b : Bor SourceExp) → e.form ≡ held_form.Replace a x b → biggest (a.now ∷ b.now ∷ []) < size-Exp v
  replace_smaller a x b is = omega (arith, under (held_form.Replace a x b) is)

  pub range_smaller : (a b : Bor SourceExp) (n : Option (Bor SourceExp)) (end : End) → e.form ≡ held_form.Range a n end b → biggest (a.now ∷ maybe_exp n ++ b.now ∷ []) < size-Exp v
  range_smaller a b None end is = omega (arith, under (held_form.Range a None end b) is)
  range_smaller a b (Some m) end is = omega (arith, under (held_form.Range a (Some m) end b) is)
