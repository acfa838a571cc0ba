-- Trees of nodes, and of the nodes in a row.
use Rattle.std.proofs.Common.{◌≡◌, ℕ, zero, suc, ◌+◌, ◌<◌, List, [], ◌∷◌, ◌++◌, length, get_or, inl, inr, refl, sym, ◌∙◌, ap, subst, arith}
use Rattle.std.specs.Prelude.{Option, Some, None, Result, Ok, Err, IfOk, slice_set}
use Rattle.std.proofs.lemmas.List.{get_or-set_other, length-append, length-set}
use Rattle.std.proofs.lemmas.Bool.Decides.{eqb_tells}
use Rattle.std.proofs.lemmas.Grind.{get_or-set_at}
use Rattle.fut_scalar.specs.declared.scalar.IntType.TheVariants as int
use Rattle.fut_scalar.specs.declared.scalar.ScalarType.TheVariants as scalar
use Rattle.fut_scalar.specs.declared.memory.NoMemory.{NoMemory}
use Rattle.fut_types.specs.declared.Head.{Head}
use Rattle.fut_types.specs.declared.Head.TheVariants as head
use Rattle.fut_types.specs.declared.Kind.{Kind}
use Rattle.fut_types.specs.declared.Kind.TheVariants as kind
use Rattle.fut_types.specs.Types.{Ty, Var, Made, Tys, none, more}
use Rattle.fut_typing.specs.Answers.{default_at}
use Rattle.type_graph.specs.declared.Form.TheVariants as form
use Rattle.type_graph.specs.declared.Node.{Node}
use Rattle.type_graph.specs.Graph.{node_at}
use Rattle.type_infer.specs.Reading.{Comes_to, Row_comes}
use Rattle.size_arena.specs.Trees.{type_of, tys, tys_of}
use Rattle.size_arena.specs.declared.types.TypeTree.{TypeTree}
use Rattle.size_arena.specs.declared.types.TypeTree.TheVariants as type
use Rattle.size_arena.proofs.Forms.{type_var}
use Rattle.size_program.specs.Program.{sub_of}
use Rattle.sized_programs.specs.Trees.{tree_at, Is_made_of, Is_type, Are_made, Row_made}
use Rattle.unique_programs.proofs.Forms.{free_is, link_comes, made_is, open_is}

-- ---- rows

-- one more
pub row_more : (made : List (Option TypeTree)) (x : ℕ) (row : List TypeTree) (tree : TypeTree) → Row_made made x row → tree_at made (x + length row) ≡ Some tree → Row_made made x (row ++ tree ∷ [])
unfolding Row_made
row_more made x [] tree r e = (let z : x + 0 ≡ x = omega arith in subst (λ n. tree_at made n ≡ Some tree) z e, tt)
row_more made x (t ∷ row) tree r e = (r.0, row_more made (suc x) row tree r.1 (let z : x + suc (length row) ≡ suc x + length row = omega arith in subst (λ n. tree_at made n ≡ Some tree) z e))

types_more : (t : TypeTree) (ts : List TypeTree) → tys_of (t ∷ ts) ≡ more (type_of t) (tys_of ts)
unfolding tys_of tys
types_more t ts = refl

types_no : tys_of [] ≡ none
unfolding tys_of tys
types_no = refl

both : (t u : Ty) (ts us : Tys) → t ≡ u → ts ≡ us → more t ts ≡ more u us
both t u ts us e f = cc

module _ (nodes : List Node) (made : List (Option TypeTree)) (are : Are_made nodes made) where
  -- its trees are the types of the nodes
  pub row_types : (x n : ℕ) (row : List TypeTree) → Row_made made x row → length row ≡ n → (ts : Tys) → Row_comes (Comes_to nodes) x n ts → tys_of row ≡ ts
  unfolding Row_made
  row_types x zero [] r e none c = types_no
  row_types x zero [] r e (more t ts) c = absurd c
  row_types x zero (u ∷ row) r e ts c = absurd (omega (arith, e))
  row_types x (suc n) [] r e ts c = absurd (omega (arith, e))
  row_types x (suc n) (u ∷ row) r e none c = absurd c
  row_types x (suc n) (u ∷ row) r e (more t ts) c = types_more u row ∙ both (type_of u) t (tys_of row) ts (are.types x u r.0 t c.0) (row_types (suc x) n row r.1 (omega (arith, e)) ts c.1)

  -- each is that of its node
  pub row_at : (x n : ℕ) (row : List TypeTree) (d : TypeTree) → Row_made made x row → n < length row → (t : Ty) → Comes_to nodes (x + n) t → type_of (get_or row n d) ≡ t
  unfolding Row_made
  row_at x n [] d r l t c = absurd (omega (arith, l))
  row_at x zero (u ∷ row) d r l t c = are.types x u r.0 t (let z : x + 0 ≡ x = omega arith in subst (λ m. Comes_to nodes m t) z c)
  row_at x (suc n) (u ∷ row) d r l t c = row_at (suc x) n row d r.1 (omega (arith, l)) t (let z : x + suc n ≡ suc x + n = omega arith in subst (λ m. Comes_to nodes m t) z c)

  -- a head of the trees of a row
  pub made_type : (i : ℕ) (h : Head) (x n : ℕ) (tree : TypeTree) → (node_at nodes i).form ≡ form.Made h x n → Is_made_of made h x n tree → Is_type nodes i tree
  made_type i h x n tree e m t c =
      let w = made_is nodes i t c h x n e in
      m.is ∙ ap (Made h) (row_types x n m.row m.trees m.long w.0 w.1) ∙ w.2

  -- the first nodes have these types
  pub first_types : (count : ℕ) (row : List TypeTree) → Row_made made 0 row → length row ≡ count → (n : ℕ) → n < count → (t : Ty) → Comes_to nodes n t → sub_of row n ≡ t
  first_types count row r e n l t c = row_at 0 n row (type.Var 0) r (omega (arith, e)) t (let z : n ≡ 0 + n = omega arith in subst (λ m. Comes_to nodes m t) z c)

-- ---- trees that were made

pub set_types : (nodes : List Node) (made : List (Option TypeTree)) (at : ℕ) (tree : TypeTree) → Are_made nodes made → at < length nodes → Is_type nodes at tree → Are_made nodes (slice_set made at (Some tree))
unfolding tree_at
set_types nodes made at tree m l is = record {
  long = length-set made at (Some tree) ∙ m.long;
  types = λ i other e t c. elim (eqb_tells i at) [
    | inl w ↦ one_tree tree other (sym (get_or-set_at made at i (Some tree) None w.1 (let q = m.long in omega (arith, q))) ∙ e) t (is t (subst (λ j. Comes_to nodes j t) w.1 c))
    | inr w ↦ m.types i other (sym (get_or-set_other made at i (Some tree) None w.1) ∙ e) t c
  ];
}
  where
    one_tree : (x y : TypeTree) → ◌≡◌ {A = Option TypeTree} (Some x) (Some y) → (t : Ty) → type_of x ≡ t → type_of y ≡ t
    one_tree x y e t is = let same : x ≡ y = cc in ap type_of (sym same) ∙ is

-- of no node
pub none_more : (made : List (Option TypeTree)) → ((i : ℕ) → tree_at made i ≡ None) → (i : ℕ) → tree_at (made ++ None ∷ []) i ≡ None
unfolding tree_at
none_more [] h zero = refl
none_more [] h (suc i) = refl
none_more (o ∷ made) h zero = h 0
none_more (o ∷ made) h (suc i) = none_more made (λ j. h (suc j)) i

pub none_are : (nodes : List Node) (made : List (Option TypeTree)) → length made ≡ length nodes → ((i : ℕ) → tree_at made i ≡ None) → Are_made nodes made
none_are nodes made e h = record { long = e; types = λ i tree is t c. absurd (no_tree tree (sym (h i) ∙ is)) }
  where
    no_tree : (tree : TypeTree) → ◌≡◌ {A = Option TypeTree} None (Some tree) → ⊥
    no_tree tree e = cc

pub no_trees : (made : List (Option TypeTree)) → made ≡ [] → (i : ℕ) → tree_at made i ≡ None
unfolding tree_at
no_trees made e i = ap (λ m. tree_at m i) e

-- ---- one node

module _ (nodes : List Node) (i : ℕ) where
  pub free_type : (tree : TypeTree) → (node_at nodes i).form ≡ form.Free → type_of tree ≡ default_at i (node_at nodes i).kind → Is_type nodes i tree
  free_type tree e is t c = is ∙ free_is nodes i t c e

  pub open_type : (e n : ℕ) → (node_at nodes i).form ≡ form.Open e n → Is_type nodes i (type.Var i)
  open_type e n is t c = type_var i ∙ open_is nodes i t c e n is

-- a type that is left undetermined
pub default_integer : (n : ℕ) (k : Kind) (tree : TypeTree) (row : List TypeTree) → type_of tree ≡ Made (head.Scalar (scalar.Int int.I32)) (tys_of row) → row ≡ [] → k ≡ kind.Integer → type_of tree ≡ default_at n k
default_integer n k tree row made e is = made ∙ ap (Made (head.Scalar (scalar.Int int.I32))) (ap tys_of e ∙ types_no) ∙ ap (default_at n) (sym is)

default_other : (n : ℕ) (k : Kind) → (k ≡ kind.Integer → ⊥) → Var n ≡ default_at n k
default_other n kind.Any h = refl
default_other n kind.Data h = refl
default_other n kind.Equal h = refl
default_other n kind.Scalar h = refl
default_other n kind.Integer h = absurd (h refl)

pub default_variable : (n : ℕ) (k : Kind) → (k ≡ kind.Integer → ⊥) → type_of (type.Var n) ≡ default_at n k
default_variable n k h = type_var n ∙ default_other n k h

-- ---- what calls answer

pub row_ok : (nodes : List Node) (i : ℕ) (made : List (Option TypeTree)) → Are_made nodes made → (h : Head) (x n : ℕ) → (node_at nodes i).form ≡ form.Made h x n → (r : Result TypeTree NoMemory) → IfOk r (Is_made_of made h x n) → IfOk r (Is_type nodes i)
row_ok nodes i made m h x n e (Ok tree) w = made_type nodes made m i h x n tree e w
row_ok nodes i made m h x n e (Err z) w = tt

pub link_ok : (nodes : List Node) (i : ℕ) (made : List (Option TypeTree)) → Are_made nodes made → (j : ℕ) → (node_at nodes i).form ≡ form.Link j → (r : Result TypeTree NoMemory) → IfOk r (λ tree. tree_at made j ≡ Some tree) → IfOk r (Is_type nodes i)
link_ok nodes i made m j e (Ok tree) h = λ t c. m.types j tree h t (link_comes nodes i t c j e)
link_ok nodes i made m j e (Err x) h = tt

pub long_more : {X : Type 0} (n : ℕ) (xs ys : List X) (x : X) → ys ≡ xs ++ x ∷ [] → length xs ≡ n → length ys ≡ n + 1
long_more n xs ys x e l = let q : length ys ≡ length xs + 1 = ap length e ∙ length-append xs (x ∷ []) in omega (arith, q, l)

pub no_row : (made : List (Option TypeTree)) (x : ℕ) (row : List TypeTree) → row ≡ [] → Row_made made x row
unfolding Row_made
no_row made x row e = subst (Row_made made x) (sym e) tt

pub row_pushed : (made : List (Option TypeTree)) (x i at : ℕ) (row new : List TypeTree) (tree : TypeTree) → Row_made made x row → length row ≡ i → at ≡ x + i → tree_at made at ≡ Some tree → new ≡ row ++ tree ∷ [] → Row_made made x new
row_pushed made x i at row new tree r l at_is e is = subst (Row_made made x) (sym is) (row_more made x row tree r (let z : at ≡ x + length row = omega (arith, at_is, l) in subst (λ n. tree_at made n ≡ Some tree) z e))
