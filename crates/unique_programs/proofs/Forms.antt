-- What the form of a node says of its type.
use Rattle.std.proofs.Common.{◌≡◌, ℕ, zero, suc, ◌≤◌, List, refl, sym, ◌∙◌, ap, arith}
use Rattle.fut_types.specs.declared.Head.{Head}
use Rattle.fut_types.specs.declared.Kind.{Kind}
use Rattle.fut_types.specs.Types.{Ty, Var, Made, Tys, none, more, Sub, applied, row}
use Rattle.fut_types.proofs.TyLaws.{applied_var, applied_made, row_applied}
use Rattle.fut_typing.specs.Answers.{default_at}
use Rattle.type_graph.specs.declared.Form.{Form}
use Rattle.type_graph.specs.declared.Form.TheVariants as form
use Rattle.type_graph.specs.declared.Node.{Node}
use Rattle.type_graph.specs.Graph.{node_at}
use Rattle.type_graph.specs.Resolving.{resolved, type_of}
use Rattle.type_infer.specs.Reading.{Comes_to, Row_comes, default_of, node_default}

abbrev defaults : List Node → Sub
defaults nodes v = node_default v (node_at nodes v)

one_more : (nodes : List Node) (d i : ℕ) (f : Form) → (node_at nodes i).form ≡ f → resolved nodes (suc d) i ≡ type_of (resolved nodes d) i f
unfolding resolved
one_more nodes d i f e = ap (type_of (resolved nodes d) i) e

same_parts : (h : Head) (ts us : Tys) → Made h ts ≡ Made h us → ts ≡ us
same_parts h ts us e = cc

same_first : (t u : Ty) (ts us : Tys) → more t ts ≡ more u us → t ≡ u
same_first t u ts us e = cc

same_rest : (t u : Ty) (ts us : Tys) → more t ts ≡ more u us → ts ≡ us
same_rest t u ts us e = cc

some_none : (t : Ty) (ts : Tys) → more t ts ≡ none → ⊥
some_none t ts e = cc

none_some : (t : Ty) (ts : Tys) → none ≡ more t ts → ⊥
none_some t ts e = cc

default_kind : (i : ℕ) (k : Kind) (f : Form) → f ≡ form.Free → default_of i k f ≡ default_at i k
default_kind i k f e = ap (default_of i k) e

module _ (nodes : List Node) (i : ℕ) (t : Ty) (c : Comes_to nodes i t) where
  -- along a link
  pub link_comes : (j : ℕ) → (node_at nodes i).form ≡ form.Link j → Comes_to nodes j t
  link_comes j e = (c.0, λ d le. ap (applied (defaults nodes)) (sym (one_more nodes d i (form.Link j) e)) ∙ c.1 (suc d) (let l : c.0 ≤ d = le in omega arith))

  -- what stands for a variable is its type
  loose_is : (f : Form) → (node_at nodes i).form ≡ f → ((a : Sub) → type_of a i f ≡ Var i) → t ≡ node_default i (node_at nodes i)
  loose_is f e var = sym (c.1 (suc c.0) (omega arith)) ∙ ap (applied (defaults nodes)) (one_more nodes c.0 i f e ∙ var (resolved nodes c.0)) ∙ applied_var (defaults nodes) i

  pub free_is : (node_at nodes i).form ≡ form.Free → default_at i (node_at nodes i).kind ≡ t
  free_is e = sym (loose_is form.Free e (λ a. refl) ∙ default_kind i (node_at nodes i).kind (node_at nodes i).form e)

  pub open_is : (e n : ℕ) → (node_at nodes i).form ≡ form.Open e n → Var i ≡ t
  open_is e n is = sym (loose_is (form.Open e n) is (λ a. refl) ∙ ap (default_of i (node_at nodes i).kind) is)

row_reads : (nodes : List Node) (D n x : ℕ) (ts : Tys) → ((d : ℕ) → D ≤ d → row (λ i. applied (defaults nodes) (resolved nodes d i)) x n ≡ ts) → Row_comes (Comes_to nodes) x n ts
row_reads nodes D zero x none h = tt
row_reads nodes D zero x (more t ts) h = absurd (none_some t ts (h D (omega arith)))
row_reads nodes D (suc n) x none h = absurd (some_none (applied (defaults nodes) (resolved nodes D x)) (row (λ i. applied (defaults nodes) (resolved nodes D i)) (suc x) n) (h D (omega arith)))
row_reads nodes D (suc n) x (more t ts) h = (
  (D, λ d le. same_first (applied (defaults nodes) (resolved nodes d x)) t (row (λ i. applied (defaults nodes) (resolved nodes d i)) (suc x) n) ts (h d le)),
  row_reads nodes D n (suc x) ts (λ d le. same_rest (applied (defaults nodes) (resolved nodes d x)) t (row (λ i. applied (defaults nodes) (resolved nodes d i)) (suc x) n) ts (h d le)),
)

-- a head of the types of the nodes in a row
pub made_is : (nodes : List Node) (i : ℕ) (t : Ty) → Comes_to nodes i t → (h : Head) (x n : ℕ) → (node_at nodes i).form ≡ form.Made h x n → (ts : Tys) × Row_comes (Comes_to nodes) x n ts × (Made h ts ≡ t)
made_is nodes i t c h x n e =
    let s : Sub = defaults nodes in
    let at : (d : ℕ) → c.0 ≤ d → Made h (row (λ j. applied s (resolved nodes d j)) x n) ≡ t = λ d le.
    ap (Made h) (sym (row_applied s (resolved nodes d) x n)) ∙ sym (applied_made s h (row (resolved nodes d) x n)) ∙ ap (applied s) (sym (one_more nodes d i (form.Made h x n) e)) ∙ c.1 (suc d) (let l : c.0 ≤ d = le in omega arith) in
    let D : ℕ = c.0 in (
      row (λ j. applied s (resolved nodes D j)) x n,
      row_reads nodes D n x (row (λ j. applied s (resolved nodes D j)) x n) (λ d le. same_parts h (row (λ j. applied s (resolved nodes d j)) x n) (row (λ j. applied s (resolved nodes D j)) x n) (at d le ∙ sym (at D (omega arith)))),
      at D (omega arith),
    )
