-- The components of a written value: which parts are its own.
use Rattle.std.proofs.Common.{◌≡◌, ℕ, Bool, true, false, List, Option, Some, None, refl, sym, ap, ◌∙◌}
use Rattle.std.specs.Borrow.{Bor}
use Rattle.fut_ast.specs.Sorts.{Text}
use Rattle.fut_scalar.specs.declared.place.BindId.{BindId}
use Rattle.fut_scalar.specs.declared.place.Place.{Place}
use Rattle.fut_flat.specs.declared.act.Act.{Act}
use Rattle.fut_flat.specs.declared.act.Act.TheVariants as act
use Rattle.fut_flat.specs.declared.prim.Ref.{Ref}
use Rattle.fut_flat.specs.Erased.{operation_of, texts}
use Rattle.fut_flat.specs.Terms.{Tuple_of, Record_of, Strict, Terms}
use Rattle.fut_types.specs.declared.Head.{Head}
use Rattle.fut_types.specs.declared.Head.TheVariants as head
use Rattle.fut_typing.specs.Names.{Names}
use Rattle.fut_aliases.specs.Aliases.{Set}
use Rattle.fut_aliases.specs.Loops.{each_at, starts}
use Rattle.fut_aliases.specs.Values.{Value, Scalar, Array, Function, Parts, Values, components}
use Rattle.alias_values.specs.declared.trees.ValueTree.{ValueTree}
use Rattle.alias_values.specs.declared.trees.ValueTree.TheVariants as tree
use Rattle.alias_values.specs.declared.trees.StarTree.{StarTree}
use Rattle.alias_values.specs.Trees.{value_of, values_of}
use Rattle.alias_values.proofs.Forms.{value_array, value_function, value_parts, value_scalar}
use Rattle.alias_loops.specs.declared.written.Written.TheVariants as written
use Rattle.alias_loops.specs.Written.{IsWritten, fields_in, is_tuple, record_in, record_of, row_in, texts_held, values_held}

tuple_only : (a : Act) → is_tuple a ≡ true → operation_of a ≡ Tuple_of
tuple_only act.Tuple e = refl
tuple_only (act.Int n t) e = cc
tuple_only (act.Truth b) e = cc
tuple_only (act.Record fs) e = cc
tuple_only act.Array e = cc
tuple_only (act.Binary op) e = cc
tuple_only act.Negate e = cc
tuple_only act.Complement e = cc
tuple_only (act.Index ps) e = cc
tuple_only (act.Project f) e = cc
tuple_only act.Update e = cc
tuple_only (act.Replace f) e = cc
tuple_only (act.Ascribe t) e = cc
tuple_only (act.Coerce t) e = cc
tuple_only (act.Declared t) e = cc
tuple_only act.Assert e = cc
tuple_only (act.Range by end) e = cc

record_only : (a : Act) (fs : List Text) → fields_in a ≡ Some fs → operation_of a ≡ Record_of fs
record_only act.Tuple fs e = cc
record_only (act.Int n t) fs e = cc
record_only (act.Truth b) fs e = cc
record_only (act.Record gs) fs e = cc
record_only act.Array fs e = cc
record_only (act.Binary op) fs e = cc
record_only act.Negate fs e = cc
record_only act.Complement fs e = cc
record_only (act.Index ps) fs e = cc
record_only (act.Project f) fs e = cc
record_only act.Update fs e = cc
record_only (act.Replace f) fs e = cc
record_only (act.Ascribe t) fs e = cc
record_only (act.Coerce t) fs e = cc
record_only (act.Declared t) fs e = cc
record_only act.Assert fs e = cc
record_only (act.Range by end) fs e = cc

some_row : (v : Value) (vs : Values) → row_in v ≡ Some vs → (h : Head) × (v ≡ Parts h vs)
some_row Scalar vs e = cc
some_row (Array s) vs e = cc
some_row (Function s u) vs e = cc
some_row (Parts h ws) vs e = (h, cc)

record_head : (h : Head) (n : ℕ) → record_of h ≡ Some n → h ≡ head.Record n
record_head (head.Record m) n e = cc
record_head (head.Scalar k) n e = cc
record_head head.Array n e = cc
record_head head.Tuple n e = cc
record_head head.Fun n e = cc
record_head (head.Rigid m k) n e = cc
record_head (head.Abstract m d) n e = cc

some_record : (v : Value) (n : ℕ) → record_in v ≡ Some n → (vs : Values) × (v ≡ Parts (head.Record n) vs)
some_record Scalar n e = cc
some_record (Array s) n e = cc
some_record (Function s u) n e = cc
some_record (Parts h vs) n e = (vs, ap (λ z. Parts z vs) (record_head h n e))

-- ---- where the components begin where the whole does

module _ (N : Names) (mark : Place) (ts : Terms Ref BindId) (at : ℕ) where
  abbrev Whole : Act → Value → Type 0
  Whole a v = starts N (Strict (operation_of a) mark ts) at v ≡ each_at at (components v)

  no_row : (a : Act) (v : Value) → is_tuple a ≡ true → row_in v ≡ None → Whole a v
  unfolding starts
  no_row a Scalar e n = ap (λ o. starts N (Strict o mark ts) at Scalar) (tuple_only a e)
  no_row a (Array s) e n = ap (λ o. starts N (Strict o mark ts) at (Array s)) (tuple_only a e)
  no_row a (Function s u) e n = ap (λ o. starts N (Strict o mark ts) at (Function s u)) (tuple_only a e)
  no_row a (Parts h vs) e n = cc

  no_head : (fs : List Text) (h : Head) (vs : Values) → record_of h ≡ None → starts N (Strict (Record_of fs) mark ts) at (Parts h vs) ≡ each_at at (components (Parts h vs))
  unfolding starts
  no_head fs (head.Record m) vs e = cc
  no_head fs (head.Scalar k) vs e = refl
  no_head fs head.Array vs e = refl
  no_head fs head.Tuple vs e = refl
  no_head fs head.Fun vs e = refl
  no_head fs (head.Rigid m k) vs e = refl
  no_head fs (head.Abstract m d) vs e = refl

  no_record : (a : Act) (fs : List Text) (v : Value) → fields_in a ≡ Some fs → record_in v ≡ None → Whole a v
  unfolding starts
  no_record a fs Scalar e n = ap (λ o. starts N (Strict o mark ts) at Scalar) (record_only a fs e)
  no_record a fs (Array s) e n = ap (λ o. starts N (Strict o mark ts) at (Array s)) (record_only a fs e)
  no_record a fs (Function s u) e n = ap (λ o. starts N (Strict o mark ts) at (Function s u)) (record_only a fs e)
  no_record a fs (Parts h vs) e n = ap (λ o. starts N (Strict o mark ts) at (Parts h vs)) (record_only a fs e) ∙ no_head fs h vs n

  neither : (a : Act) (v : Value) → is_tuple a ≡ false → fields_in a ≡ None → Whole a v
  unfolding starts
  neither act.Tuple v e n = cc
  neither (act.Int k t) v e n = refl
  neither (act.Truth b) v e n = refl
  neither (act.Record fs) v e n = cc
  neither act.Array v e n = refl
  neither (act.Binary op) v e n = refl
  neither act.Negate v e n = refl
  neither act.Complement v e n = refl
  neither (act.Index ps) v e n = refl
  neither (act.Project f) v e n = refl
  neither act.Update v e n = refl
  neither (act.Replace f) v e n = refl
  neither (act.Ascribe t) v e n = refl
  neither (act.Coerce t) v e n = refl
  neither (act.Declared t) v e n = refl
  neither act.Assert v e n = refl
  neither (act.Range by end) v e n = refl

-- ---- what is found of a value

module _ (v : ValueTree) where
  pub row_parts : (h : Head) (vs : Bor (List ValueTree)) → v ≡ tree.Parts h vs → Some (values_of vs.now) ≡ row_in (value_of v)
  row_parts h vs is = sym (ap row_in (ap value_of is ∙ value_parts h vs))

  pub row_scalar : v ≡ tree.Scalar → None ≡ row_in (value_of v)
  row_scalar is = sym (ap row_in (ap value_of is ∙ value_scalar))

  pub row_array : (s : Bor Set) → v ≡ tree.Array s → None ≡ row_in (value_of v)
  row_array s is = sym (ap row_in (ap value_of is ∙ value_array s))

  pub row_function : (s : Bor Set) (u : Bor StarTree) → v ≡ tree.Function s u → None ≡ row_in (value_of v)
  row_function s u is = sym (ap row_in (ap value_of is ∙ value_function s u))

  pub record_parts : (h : Head) (vs : Bor (List ValueTree)) (n : Option ℕ) → v ≡ tree.Parts h vs → n ≡ record_of h → n ≡ record_in (value_of v)
  record_parts h vs n is e = e ∙ sym (ap record_in (ap value_of is ∙ value_parts h vs))

  pub record_scalar : v ≡ tree.Scalar → None ≡ record_in (value_of v)
  record_scalar is = sym (ap record_in (ap value_of is ∙ value_scalar))

  pub record_array : (s : Bor Set) → v ≡ tree.Array s → None ≡ record_in (value_of v)
  record_array s is = sym (ap record_in (ap value_of is ∙ value_array s))

  pub record_function : (s : Bor Set) (u : Bor StarTree) → v ≡ tree.Function s u → None ≡ record_in (value_of v)
  record_function s u is = sym (ap record_in (ap value_of is ∙ value_function s u))

-- ---- how it is written

module _ (a : Act) (v : Value) where
  pub written_tuple : (vs : Bor (List ValueTree)) (t : Bool) (o : Option (Bor (List ValueTree))) → t ≡ true → t ≡ is_tuple a → o ≡ Some vs → values_held o ≡ row_in v → IsWritten a v (written.Tuple vs)
  written_tuple vs t o e f g h = by_row (some_row v (values_of vs.now) (sym h ∙ ap values_held g))
    where
      by_row : (h : Head) × (v ≡ Parts h (values_of vs.now)) → IsWritten a v (written.Tuple vs)
      by_row (h, is) = (h, tuple_only a (sym f ∙ e), is)

  pub written_no_row : (t : Bool) (o : Option (Bor (List ValueTree))) → t ≡ true → t ≡ is_tuple a → o ≡ None → values_held o ≡ row_in v → IsWritten a v written.Other
  written_no_row t o e f g h = (λ N mark ts at. no_row N mark ts at a v (sym f ∙ e) (sym h ∙ ap values_held g))

  pub written_record : (fs : Bor (List (Bor Text))) (n : ℕ) (o : Option (Bor (List (Bor Text)))) (r : Option ℕ) → o ≡ Some fs → texts_held o ≡ fields_in a → r ≡ Some n → r ≡ record_in v → IsWritten a v (written.Record fs n)
  written_record fs n o r e f g h = by_record (some_record v n (sym h ∙ g))
    where
      by_record : (vs : Values) × (v ≡ Parts (head.Record n) vs) → IsWritten a v (written.Record fs n)
      by_record (vs, is) = (vs, record_only a (texts fs.now) (sym f ∙ ap texts_held e), is)

  pub written_no_record : (fs : Bor (List (Bor Text))) (o : Option (Bor (List (Bor Text)))) (r : Option ℕ) → o ≡ Some fs → texts_held o ≡ fields_in a → r ≡ None → r ≡ record_in v → IsWritten a v written.Other
  written_no_record fs o r e f g h = (λ N mark ts at. no_record N mark ts at a (texts fs.now) v (sym f ∙ ap texts_held e) (sym h ∙ g))

  pub written_neither : (t : Bool) (o : Option (Bor (List (Bor Text)))) → t ≡ false → t ≡ is_tuple a → o ≡ None → texts_held o ≡ fields_in a → IsWritten a v written.Other
  written_neither t o e f g h = (λ N mark ts at. neither N mark ts at a v (sym f ∙ e) (sym h ∙ ap texts_held g))
