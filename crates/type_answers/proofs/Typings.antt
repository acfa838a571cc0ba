-- Where nothing is left undetermined.
use Rattle.std.proofs.Common.{◌≡◌, ℕ, ◌≤◌, ◌<◌, List, [], length, refl, sym, ◌∙◌, subst, arith}
use mathlib.Core.Logic.{inl, inr}
use Rattle.fut_types.specs.Types.{Ty, Var, Made, Tys, none, more, Sub, Kinds, level, rank, applied}
use Rattle.fut_types.proofs.TyLaws.{rank_var, applied_agree, Occurs, Occurs_in}
use Rattle.fut_typing.specs.Answers.{Principal, IsWanted, Stands, Stands_in}
use Rattle.type_graph.specs.declared.Form.{Form}
use Rattle.type_graph.specs.declared.Form.TheVariants as form
use Rattle.type_graph.specs.declared.Node.{Node}
use Rattle.type_graph.specs.declared.Entry.{Entry}
use Rattle.type_graph.specs.Graph.{node_at, Tables, Solves}
use Rattle.type_graph.specs.Resolving.{resolved, noted, Settled, Loose}
use Rattle.type_graph.specs.Filling.{Filled}
use Rattle.type_graph.proofs.Resolution.{stable, factors, plain_types, vars_home, respects_noted}
use Rattle.type_graph.proofs.Filling.{filled}
use Rattle.type_graph.specs.Claims.{Possible}
use Rattle.type_answers.specs.Left.{Undecided, IsUndecided, Decided}
use Rattle.type_answers.specs.Typings.{Done, Closed, Allows_some, Closes}
use Rattle.type_answers.proofs.Settled.{plain_readable}

mutual
  pub stands : (v : ℕ) (t : Ty) → Occurs v t → Stands v t
  stands v (Var n) o = o
  stands v (Made h ts) o = all_stand v ts o

  all_stand : (v : ℕ) (ts : Tys) → Occurs_in v ts → Stands_in v ts
  all_stand v none o = o
  all_stand v (more t ts) (inl o) = inl (stands v t o)
  all_stand v (more t ts) (inr o) = inr (all_stand v ts o)

mutual
  pub occurs : (v : ℕ) (t : Ty) → Stands v t → Occurs v t
  occurs v (Var n) o = o
  occurs v (Made h ts) o = all_occur v ts o

  all_occur : (v : ℕ) (ts : Tys) → Stands_in v ts → Occurs_in v ts
  all_occur v none o = o
  all_occur v (more t ts) (inl o) = inl (occurs v t o)
  all_occur v (more t ts) (inr o) = inr (all_occur v ts o)

module _ (T : Tables) (home : ℕ → ℕ) (base : ℕ) (nodes : List Node) (entries : List Entry) (d : Done T home base nodes entries) where
  fill : (K : Kinds) (by : Sub) → ((v : ℕ) → level (noted nodes v) ≤ rank K (by v)) → Filled T nodes K by
  fill K by r = filled d.table entries T home base nodes d.graph d.bound d.are d.told d.state d.founded d.rich K by (plain_readable K T d.plain) (λ v lt e. r v)

  pub some_types : (K : Kinds) × (a : Sub) × Possible T base K a nodes
  some_types = let f = fill (noted nodes) Var (λ v. subst (λ m. level (noted nodes v) ≤ m) (sym (rank_var (noted nodes) v)) (omega arith)) in (noted nodes, f.full, record { full = f.full; agrees = λ i lt. refl; solves = f.solves })

  module _ (decided : (n : ℕ) → n < base → Decided nodes n) where
    each : (i : ℕ) → i < length nodes → Settled nodes i
    each i lt = d.settled i lt d.state.top d.state.tops

    abbrev D : ℕ
    D = (stable nodes each).0

    factored : (K : Kinds) (a : Sub) → Solves T K a nodes → (i : ℕ) → i < length nodes → a i ≡ applied a (resolved nodes (stable nodes each).0 i)
    factored K a sol i lt = factors nodes d.graph T K a sol (stable nodes each).0 i lt ∙ plain_types nodes d.graph T d.plain a (stable nodes each).0 i lt

    in_nodes : (n : ℕ) → n < base → n < length nodes
    in_nodes n lt = let l : base ≤ length nodes = d.low in omega arith

    -- what stands in the type of a number is free
    not_open : (n v : ℕ) → n < base → Stands v (resolved nodes (stable nodes each).0 n) → IsUndecided nodes v → ⊥
    not_open n v lt s u = decided n lt T home base d.state (stable nodes each).0 (stable nodes each).1 v s u

    is_free : (n v : ℕ) → n < base → Stands v (resolved nodes (stable nodes each).0 n) → (v < length nodes) × ((node_at nodes v).form ≡ form.Free)
    is_free n v lt s = let w = vars_home T home base nodes d.graph d.state (stable nodes each).0 (stable nodes each).1 n lt (in_nodes n lt) v (occurs v _ s) in (w.0, go (node_at nodes v).form refl w.1)
      where
        go : (f : Form) → (node_at nodes v).form ≡ f → Loose f → f ≡ form.Free
        go form.Free e l = refl
        go (form.Link j) e l = absurd l
        go (form.Made h x m) e l = absurd l
        go (form.Open y m) e l = absurd (not_open n v lt s (subst (Undecided (node_at nodes v).kind) (sym e) tt))

    closed_here : Principal T.shapes base (λ K a. Possible T base K a nodes)
    closed_here = record {
      kinds = noted nodes;
      types = resolved nodes (stable nodes each).0;
      opens = [];
      once = λ i j x lt lj. absurd (omega arith);
      instance = λ K a p. (
        p.full,
        respects_noted T nodes K p.full p.solves,
        (λ k x lt. absurd (omega arith)),
        (λ n lt. sym (p.agrees n lt) ∙ factored K p.full p.solves n (in_nodes n lt)),
      );
      typing = λ K by rs met. let f = fill K by rs in record {
        full = f.full;
        agrees = λ n lt. factored K f.full f.solves n (in_nodes n lt) ∙ applied_agree f.full by (resolved nodes (stable nodes each).0 n) (λ v o. let w = is_free n v lt (stands v _ o) in f.free v w.0 w.1);
        solves = f.solves;
      };
    }

    known_here : (n v : ℕ) → n < base → Stands v (resolved nodes (stable nodes each).0 n) → IsWanted (noted nodes v) → ⊥
    known_here n v lt s w = not_open n v lt s (subst (Undecided (node_at nodes v).kind) (sym (is_free n v lt s).1) w)

    pub closes : Closed T base nodes
    unfolding closed_here
    closes = record { depth = (stable nodes each).0; stable = (stable nodes each).1; principal = closed_here; kinds = refl; types = refl; opens = refl; known = known_here }

pub some_law : Allows_some
some_law T home base nodes entries d = some_types T home base nodes entries d

pub closed_law : Closes
closed_law T home base nodes entries d h = closes T home base nodes entries d h
