-- The resolved types of a settled graph are principal.
use Rattle.std.proofs.Common.{◌≡◌, ℕ, ◌≤◌, ◌<◌, List, [], length, refl, sym, ◌∙◌, ap, subst, arith}
use Rattle.fut_types.specs.declared.Head.TheVariants as head
use Rattle.fut_types.specs.Types.{none, Sub, Kinds, level, rank, least, applied}
use Rattle.fut_types.proofs.TyLaws.{level_most, rank_made, least_none, applied_var}
use Rattle.fut_typing.specs.Answers.{Open, Met, Principal}
use Rattle.type_graph.specs.declared.Form.{Form}
use Rattle.type_graph.specs.declared.Form.TheVariants as form
use Rattle.type_graph.specs.declared.Node.{Node}
use Rattle.type_graph.specs.Graph.{node_at, Tables, Plain, Readable, Each, Names, Shows, Solves, IsGraph, parts_of}
use Rattle.type_graph.specs.State.{State}
use Rattle.type_graph.specs.Resolving.{resolved, in_reading, noted, Settled, SettledIn}
use Rattle.type_graph.proofs.Resolution.{stable, factors, plain_types, loose_stable, instance_solves, respects_noted}
use Rattle.type_graph.specs.Claims.{Inside, Possible}
use Rattle.type_answers.specs.Settled.{form_opens, opens_below, Tells_all, Law}
use Rattle.type_answers.proofs.Opens.{all_each, each_all, chain_met, chain_named, pairs_below, opens_at, opens_each}

pub plain_readable : (K : Kinds) (T : Tables) → Plain T → Readable K T
plain_readable K T p = record { kinds = λ n k. subst (λ t. level k ≤ rank K t) (sym (p.own n k)) (subst (λ m. level k ≤ m) (sym (rank_made K (head.Rigid n k) none)) (let q : level k ≤ 4 = level_most k in let z : least K none ≡ 4 = least_none K in omega arith)) }

module _ (T : Tables) (home : ℕ → ℕ) (base : ℕ) (nodes : List Node) (pl : Plain T) (g : IsGraph nodes) (inn : Inside T nodes) (le : base ≤ length nodes) (st : State T home base nodes []) (all : (i : ℕ) → i < length nodes → SettledIn nodes i) where
  each : (i : ℕ) → i < length nodes → Settled nodes i
  each i lt = all i lt st.top st.tops

  abbrev D : ℕ
  D = (stable nodes each).0

  abbrev s : Sub
  s = resolved nodes (stable nodes each).0

  plainly : (by : Sub) (i : ℕ) → i < length nodes → in_reading T.rigid by (resolved nodes (stable nodes each).0 i) ≡ applied by (resolved nodes (stable nodes each).0 i)
  plainly by i lt = plain_types nodes g T pl by (stable nodes each).0 i lt

  factored : (K : Kinds) (a : Sub) → Solves T K a nodes → (i : ℕ) → i < length nodes → a i ≡ applied a (resolved nodes (stable nodes each).0 i)
  factored K a sol i lt = factors nodes g T K a sol (stable nodes each).0 i lt ∙ plainly a i lt

  -- a solution gives what is open its parts
  solved_met : (K : Kinds) (a : Sub) → Solves T K a nodes → Each (Met T.shapes a) (opens_below T nodes (resolved nodes (stable nodes each).0) (length nodes))
  solved_met K a sol = opens_each T nodes (resolved nodes (stable nodes each).0) (Met T.shapes a) (length nodes) (λ i rest lt h. go i lt (node_at nodes i).form refl rest h)
    where
      go : (i : ℕ) → i < length nodes → (f : Form) → (node_at nodes i).form ≡ f → (rest : List Open) → Each (Met T.shapes a) rest → Each (Met T.shapes a) (form_opens T (resolved nodes (stable nodes each).0) i f rest)
      go i lt form.Free e rest h = h
      go i lt (form.Link j) e rest h = h
      go i lt (form.Made hd x n) e rest h = h
      go i lt (form.Open y n) e rest h = chain_met T.entry (resolved nodes (stable nodes each).0) i T.shapes a a (length nodes) y n rest (factored K a sol) refl (subst (λ f. Each (λ c. c < length nodes) (parts_of T f)) e (inn i lt)) (subst (Shows T a (a i)) e (sol.fits i lt).shows) h

  -- and types with these parts give a solution
  met_names : (by : Sub) → Each (Met T.shapes by) (opens_below T nodes (resolved nodes (stable nodes each).0) (length nodes)) → (i e n : ℕ) → i < length nodes → (node_at nodes i).form ≡ form.Open e n
      → Names T (λ j. in_reading T.rigid by (resolved nodes (stable nodes each).0 j)) (in_reading T.rigid by (resolved nodes (stable nodes each).0 i)) e n
  met_names by met i e n lt is =
      let r = opens_at T nodes (resolved nodes (stable nodes each).0) (Met T.shapes by) (length nodes) i lt met in
      chain_named T.entry (resolved nodes (stable nodes each).0) i T.shapes by (λ j. in_reading T.rigid by (resolved nodes (stable nodes each).0 j)) (length nodes) e n r.0 (plainly by)
      (sym (plainly by i lt ∙ ap (applied by) (loose_stable T home base nodes g st (stable nodes each).0 (stable nodes each).1 i (form.Open e n) lt is tt) ∙ applied_var by i))
      (subst (λ f. Each (λ c. c < length nodes) (parts_of T f)) is (inn i lt)) (subst (λ f. Each (Met T.shapes by) (form_opens T (resolved nodes (stable nodes each).0) i f r.0)) is r.1)

  principal_here : Principal T.shapes base (λ K a. Possible T base K a nodes)
  principal_here = record {
    kinds = noted nodes;
    types = resolved nodes (stable nodes each).0;
    opens = opens_below T nodes (resolved nodes (stable nodes each).0) (length nodes);
    once = pairs_below T nodes (resolved nodes (stable nodes each).0) (length nodes) st.once;
    instance = λ K a p. (
      p.full,
      respects_noted T nodes K p.full p.solves,
      all_each _ _ (solved_met K p.full p.solves),
      (λ n lt. sym (p.agrees n lt) ∙ factored K p.full p.solves n (omega arith)),
    );
    typing = λ K by rs met. record {
      full = λ i. in_reading T.rigid by (resolved nodes (stable nodes each).0 i);
      agrees = λ i lt. plainly by i (omega arith);
      solves = instance_solves T home base nodes g st (stable nodes each).0 (stable nodes each).1 K by (plain_readable K T pl) rs (met_names by (each_all _ _ met));
    };
  }

  pub tells : Tells_all T base nodes
  unfolding principal_here
  tells = record { depth = (stable nodes each).0; stable = (stable nodes each).1; principal = principal_here; kinds = refl; types = refl; opens = refl }

pub law : Law
law T home base nodes pl g inn le st all = tells T home base nodes pl g inn le st all
