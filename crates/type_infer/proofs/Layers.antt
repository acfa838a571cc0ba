-- A layer of a type, where some types stand for variables.
use Rattle.std.proofs.Common.{◌≡◌, ℕ, zero, suc, ◌≤◌, ◌<◌, List, refl, sym, ◌∙◌, ap, subst, arith}
use Rattle.fut_types.specs.declared.Head.{Head}
use Rattle.fut_types.specs.declared.Kind.{Kind}
use Rattle.fut_types.specs.declared.Kind.TheVariants as kind
use Rattle.fut_types.specs.Types.{Ty, Var, Made, Tys, none, more, Sub, applied, row}
use Rattle.fut_types.proofs.TyLaws.{applied_var, applied_made, row_applied}
use Rattle.fut_typing.specs.Answers.{default_at}
use Rattle.type_graph.specs.declared.Form.{Form}
use Rattle.type_graph.specs.declared.Form.TheVariants as form
use Rattle.type_graph.specs.declared.Node.{Node}
use Rattle.type_graph.specs.Graph.{node_at, Within, IsRoot}
use Rattle.type_graph.specs.Resolving.{resolved, type_of}
use Rattle.type_infer.specs.Reading.{Shown, Reads, Comes_to, Generally, Row_comes, Is_made, Is_root_of, default_of, node_default, fixed_at, fixed_default, free_default, default_form}

one_more : (nodes : List Node) (d i : ℕ) (f : Form) → (node_at nodes i).form ≡ f → resolved nodes (suc d) i ≡ type_of (resolved nodes d) i f
unfolding resolved
one_more nodes d i f e = ap (type_of (resolved nodes d) i) e

same_parts : (h : Head) (ts us : Tys) → Made h ts ≡ Made h us → ts ≡ us
same_parts h ts us e = cc

same_first : (t u : Ty) (ts us : Tys) → more t ts ≡ more u us → t ≡ u
same_first t u ts us e = cc

same_rest : (t u : Ty) (ts us : Tys) → more t ts ≡ more u us → ts ≡ us
same_rest t u ts us e = cc

some_none : (t : Ty) (ts : Tys) → more t ts ≡ none → ⊥
some_none t ts e = cc

none_some : (t : Ty) (ts : Tys) → none ≡ more t ts → ⊥
none_some t ts e = cc

module _ (s : Sub) (nodes : List Node) where
  -- along a link
  pub linked : (i j : ℕ) → (node_at nodes i).form ≡ form.Link j → (t : Ty) → Reads s nodes i t → Reads s nodes j t
  linked i j e t c = (c.0, λ d le. ap (applied s) (sym (one_more nodes d i (form.Link j) e)) ∙ c.1 (suc d) (let l : c.0 ≤ d = le in omega arith))

  row_reads : (D n x : ℕ) (ts : Tys) → ((d : ℕ) → D ≤ d → row (λ i. applied s (resolved nodes d i)) x n ≡ ts) → Row_comes (Reads s nodes) x n ts
  row_reads D zero x none h = tt
  row_reads D zero x (more t ts) h = absurd (none_some t ts (h D (omega arith)))
  row_reads D (suc n) x none h = absurd (some_none (applied s (resolved nodes D x)) (row (λ i. applied s (resolved nodes D i)) (suc x) n) (h D (omega arith)))
  row_reads D (suc n) x (more t ts) h = (
    (D, λ d le. same_first (applied s (resolved nodes d x)) t (row (λ i. applied s (resolved nodes d i)) (suc x) n) ts (h d le)),
    row_reads D n (suc x) ts (λ d le. same_rest (applied s (resolved nodes d x)) t (row (λ i. applied s (resolved nodes d i)) (suc x) n) ts (h d le)),
  )

  -- what stands for a variable is its type
  loose_read : (i : ℕ) (f : Form) → (node_at nodes i).form ≡ f → ((a : Sub) → type_of a i f ≡ Var i) → (t : Ty) → Reads s nodes i t → t ≡ s i
  loose_read i f e var t c = sym (c.1 (suc c.0) (omega arith)) ∙ ap (applied s) (one_more nodes c.0 i f e ∙ var (resolved nodes c.0)) ∙ applied_var s i

  made_read : (i : ℕ) (h : Head) (x n : ℕ) → (node_at nodes i).form ≡ form.Made h x n → (t : Ty) → Reads s nodes i t → Is_made (Reads s nodes) (form.Made h x n) t
  made_read i h x n e t c =
      let at : (d : ℕ) → c.0 ≤ d → Made h (row (λ j. applied s (resolved nodes d j)) x n) ≡ t = λ d le.
      ap (Made h) (sym (row_applied s (resolved nodes d) x n)) ∙ sym (applied_made s h (row (resolved nodes d) x n)) ∙ ap (applied s) (sym (one_more nodes d i (form.Made h x n) e)) ∙ c.1 (suc d) (let l : c.0 ≤ d = le in omega arith) in
      let D : ℕ = c.0 in (
        row (λ j. applied s (resolved nodes D j)) x n,
        sym (at D (omega arith)),
        row_reads D n x (row (λ j. applied s (resolved nodes D j)) x n) (λ d le. same_parts h (row (λ j. applied s (resolved nodes d j)) x n) (row (λ j. applied s (resolved nodes D j)) x n) (at d le ∙ sym (at D (omega arith)))),
      )

-- what stands for a variable that is left undetermined, with its default
free_made : (R : Shown) (v : ℕ) (k : Kind) (t : Ty) → t ≡ default_at v k → Is_made R (free_default k) t
free_made R v kind.Any t e = (v, e)
free_made R v kind.Data t e = (v, e)
free_made R v kind.Equal t e = (v, e)
free_made R v kind.Scalar t e = (v, e)
free_made R v kind.Integer t e = (none, e, tt)

no_root : (j : ℕ) (f : Form) → f ≡ form.Link j → IsRoot f → ⊥
no_root j f e r = subst IsRoot e r

-- what the form of a root says of its type
with_defaults : (s : Sub) (nodes : List Node) (i : ℕ) (k : Kind) (f : Form) → (node_at nodes i).form ≡ f → IsRoot f → s i ≡ default_of i k f → (t : Ty) → Reads s nodes i t → Is_made (Reads s nodes) (default_form k f) t
with_defaults s nodes i k form.Free e root is t c = free_made (Reads s nodes) i k t (loose_read s nodes i form.Free e (λ a. refl) t c ∙ is)
with_defaults s nodes i k (form.Link j) e root is t c = absurd root
with_defaults s nodes i k (form.Made h x n) e root is t c = made_read s nodes i h x n e t c
with_defaults s nodes i k (form.Open y n) e root is t c = (i, loose_read s nodes i (form.Open y n) e (λ a. refl) t c ∙ is)

without : (s : Sub) (nodes : List Node) (i : ℕ) (f : Form) → (node_at nodes i).form ≡ f → IsRoot f → s i ≡ Var i → (t : Ty) → Reads s nodes i t → Is_made (Reads s nodes) f t
without s nodes i form.Free e root is t c = (i, loose_read s nodes i form.Free e (λ a. refl) t c ∙ is)
without s nodes i (form.Link j) e root is t c = absurd root
without s nodes i (form.Made h x n) e root is t c = made_read s nodes i h x n e t c
without s nodes i (form.Open y n) e root is t c = (i, loose_read s nodes i (form.Open y n) e (λ a. refl) t c ∙ is)

module _ (nodes : List Node) (n : ℕ) (root : Node) (r : Is_root_of nodes n root) where
  pub made : (f : Form) → f ≡ default_form root.kind root.form → (t : Ty) → Comes_to nodes n t → Is_made (Comes_to nodes) f t
  made f e t c = subst (λ g. Is_made (Comes_to nodes) g t) (sym (e ∙ ap (λ (x : Node). default_form x.kind x.form) r.is))
      (with_defaults (λ v. node_default v (node_at nodes v)) nodes r.at (node_at nodes r.at).kind (node_at nodes r.at).form refl r.root refl t (r.reads (λ v. node_default v (node_at nodes v)) t c))

  -- at level 0
  pub made_fixed : root.level ≡ 0 → (f : Form) → f ≡ default_form root.kind root.form → (t : Ty) → Generally nodes n t → Is_made (Generally nodes) f t
  made_fixed low f e t c = subst (λ g. Is_made (Generally nodes) g t) (sym (e ∙ ap (λ (x : Node). default_form x.kind x.form) r.is))
      (with_defaults (λ v. fixed_default v (node_at nodes v)) nodes r.at (node_at nodes r.at).kind (node_at nodes r.at).form refl r.root
      (ap (fixed_at r.at (node_at nodes r.at)) (ap (λ (x : Node). x.level) (sym r.is) ∙ low)) t (r.reads (λ v. fixed_default v (node_at nodes v)) t c))

  -- above
  pub made_general : (root.level ≡ 0 → ⊥) → (t : Ty) → Generally nodes n t → Is_made (Generally nodes) root.form t
  made_general high t c = subst (λ (x : Node). Is_made (Generally nodes) x.form t) (sym r.is)
      (without (λ v. fixed_default v (node_at nodes v)) nodes r.at (node_at nodes r.at).form refl r.root (above (node_at nodes r.at).level refl) t (r.reads (λ v. fixed_default v (node_at nodes v)) t c))
    where
      above : (l : ℕ) → (node_at nodes r.at).level ≡ l → fixed_at r.at (node_at nodes r.at) l ≡ Var r.at
      above zero is = absurd (high (ap (λ (x : Node). x.level) r.is ∙ is))
      above (suc l) is = refl

-- where its parts stand
pub within_at : (n i j : ℕ) (f : Form) → ((k : ℕ) → f ≡ form.Link k → ⊥) → Within n i f → Within n j f
within_at n i j form.Free root w = tt
within_at n i j (form.Link k) root w = absurd (root k refl)
within_at n i j (form.Made h x c) root w = w
within_at n i j (form.Open e c) root w = w

pub within_default : (n i : ℕ) (k : Kind) (f : Form) → Within n i f → Within n i (default_form k f)
within_default n i kind.Any form.Free w = tt
within_default n i kind.Data form.Free w = tt
within_default n i kind.Equal form.Free w = tt
within_default n i kind.Scalar form.Free w = tt
within_default n i kind.Integer form.Free w = omega arith
within_default n i k (form.Link j) w = w
within_default n i k (form.Made h x c) w = w
within_default n i k (form.Open e c) w = w

pub link_down : (n i j : ℕ) (f : Form) → f ≡ form.Link j → Within n i f → j < i
link_down n i j f e w = subst (Within n i) e w

pub is_root : (f : Form) → ((j : ℕ) → f ≡ form.Link j → ⊥) → IsRoot f
is_root form.Free other = tt
is_root (form.Link j) other = other j refl
is_root (form.Made h x n) other = tt
is_root (form.Open e n) other = tt
