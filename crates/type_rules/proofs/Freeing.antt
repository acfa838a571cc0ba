-- Free nodes, one after another.
use Rattle.std.proofs.Common.{◌≡◌, ℕ, suc, ◌+◌, ◌<◌, List, [], ◌∷◌, ◌++◌, length, sym, ◌∙◌, ap, subst, arith}
use mathlib.Core.Logic.{inl, inr}
use Rattle.fut_types.specs.Types.{Sub, Kinds}
use Rattle.type_graph.specs.declared.Form.TheVariants as form
use Rattle.type_graph.specs.declared.Node.{Node}
use Rattle.type_graph.specs.Graph.{node_at, Tables, Fits, Solves, IsGraph}
use Rattle.type_graph.specs.Claims.{new_node}
use Rattle.type_graph.proofs.Grown.{grown_none, grown_push, grown_then, graph_push, node_old, node_new, long_new, lt_or}
use Rattle.type_graph.proofs.Adding.{bound_push}
use Rattle.type_rules.specs.Own.{Freed}

pub freed_none : (nodes : List Node) → IsGraph nodes → Freed nodes 0 nodes
freed_none nodes g = record { graph = g; long = omega arith; bound = λ table m b. b; grown = λ T ins. grown_none T nodes g ins; solves = λ T K a s. s }

solves_free : (T : Tables) (K : Kinds) (a : Sub) (nodes : List Node) → Solves T K a nodes → Solves T K a (nodes ++ new_node form.Free ∷ [])
solves_free T K a nodes s = record {
  fits = λ i lt. elim (lt_or i (length nodes)) as (λ d. Fits T K a (a i) (node_at (nodes ++ new_node form.Free ∷ []) i)) [
    | inl h ↦ subst (Fits T K a (a i)) (sym (node_old nodes (new_node form.Free) i h)) (s.fits i h)
    | inr h ↦ let z : length nodes ≡ i = (let l : length (nodes ++ new_node form.Free ∷ []) ≡ suc (length nodes) = long_new nodes (new_node form.Free) in omega arith) in
        subst (λ j. Fits T K a (a j) (node_at (nodes ++ new_node form.Free ∷ []) j)) z (subst (Fits T K a (a (length nodes))) (sym (node_new nodes (new_node form.Free))) (record { shows = tt; has = omega arith }))
  ];
}

pub freed_more : (n0 n1 n2 : List Node) (at : ℕ) → Freed n0 at n1 → n2 ≡ n1 ++ new_node form.Free ∷ [] → length n1 < 4294967294 → Freed n0 (at + 1) n2
freed_more n0 n1 n2 at f is room = subst (Freed n0 (at + 1)) (sym is) (record {
  graph = graph_push n1 form.Free f.graph (omega arith) tt tt;
  long = long_new n1 (new_node form.Free) ∙ ap suc f.long ∙ omega arith;
  bound = λ table m b. bound_push table m n1 (new_node form.Free) (f.bound table m b) tt;
  grown = λ T ins. let g = f.grown T ins in grown_then T n0 n1 (n1 ++ new_node form.Free ∷ []) g (grown_push T n1 form.Free g.graph g.inside (omega arith) tt tt tt);
  solves = λ T K a s. solves_free T K a n1 (f.solves T K a s);
})
