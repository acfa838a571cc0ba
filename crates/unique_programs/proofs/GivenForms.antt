-- What a node's type gives.
use Rattle.std.proofs.Common.{◌≡◌, ℕ, suc, ◌+◌, List, sym, ap, ◌∙◌, subst, arith}
use Rattle.fut_types.specs.declared.Head.{Head}
use Rattle.fut_types.specs.declared.Head.TheVariants as head
use Rattle.fut_types.specs.Types.{fun_ty}
use Rattle.type_graph.specs.declared.Form.{Form}
use Rattle.type_graph.specs.declared.Form.TheVariants as form
use Rattle.type_graph.specs.declared.Node.{Node}
use Rattle.type_graph.specs.Graph.{node_at, Shows, Fits, Found}
use Rattle.unique_programs.specs.Giving.{Gives}

module _ (nodes : List Node) where
  pub gives_second : (i r first count : ℕ) (h : Head) (f : Form) → Found nodes i r → f ≡ (node_at nodes r).form → f ≡ form.Made h first count → h ≡ head.Fun → count ≡ 2 → Gives nodes i (first + 1)
  gives_second i r first count h f found of_root is fun two T K a solves =
      let fits : Fits T K a (a r) (node_at nodes r) = solves.fits r found.within in
      let shows : Shows T a (a r) (form.Made head.Fun first 2) = subst (Shows T a (a r)) (sym of_root ∙ is ∙ ap (λ z. form.Made z first count) fun ∙ ap (form.Made head.Fun first) two) fits.shows in
      let next : suc first ≡ first + 1 = omega arith in
      (a first, found.same T K a solves ∙ shows ∙ ap (λ z. fun_ty (a first) (a z)) next)
