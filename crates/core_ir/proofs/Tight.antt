-- What a Core allows where its reductions have trees with few neutral leaves, it allows with any trees.
use Rattle.std.proofs.Common.{ℕ, List, [], ◌∷◌, Bool, true, false}
use Rattle.fut_scalar.specs.declared.place.Place.{Place}
use Rattle.fut_scalar.specs.declared.report.FailKind.TheVariants as kind
use Rattle.fut_scalar.specs.declared.scalar.Scalar.TheVariants as scalar
use Rattle.fut_meaning.specs.Jobs.{places}
use Rattle.fut_meaning.specs.Meaning.{counts}
use Rattle.fut_meaning.specs.Operations.{report}
use Rattle.fut_meaning.specs.Outcomes.{Out, Rel, bracket}
use Rattle.fut_meaning.proofs.Within.{Within, within_same, within_then, within_choose, within_each_of, within_turns, within_while, within_tree, within_all_of}
use Rattle.core_ir.specs.declared.block.Atom.{Atom}
use Rattle.core_ir.specs.declared.block.Var.{Var}
use Rattle.core_ir.specs.declared.block.Core.{Core}
use Rattle.core_ir.specs.Bundles.{One, Row}
use Rattle.core_ir.specs.Lists.{prefixes_on}
use Rattle.core_ir.specs.Plain.{Bundle, Action, Operate, Do, Map, Filter, Partition, Reduce, Scan, Scatter, Hist, If, For, For_in, While, Function, Of_two, Body, Give, Let, body_of}
use Rattle.core_ir.specs.Meaning.{Env, Results, Reduction, reduction, tested, test_turn, reduced, scanned, combined, act_means, function_means, body_means}
use Rattle.core_ir.specs.Programs.{Core_means}
use Rattle.core_ir.specs.Claims.{TightAddsNothing}

module _ (op op' : Row → Row → Results) (h : (p q : Row) → Within (op p q) (op' p q)) where
  loose_reduction : (any : Bool) (ne : Row) (rows : List Row) → Within (Reduction true any op ne rows) (Reduction false any op' ne rows)
  loose_reduction any ne rows _ _ (reduction order (bracket {o} {f = n} t e k x)) = reduction order (bracket t e tt (within_tree op op' ne h t o n x))

  module _ (misfit : Bool) (at : Place) (us : List Atom) (r : Bundle) (env : Env) where
    loose_reduced : Within (reduced true misfit at us r env op) (reduced false misfit at us r env op')
    loose_reduced =
        within_then _ _ _ _ (within_same _) (λ ne. within_then _ _ _ _ (within_same _) (λ bs. within_then _ _ _ _ (within_same _) (λ rs.
        within_then _ _ _ _ (loose_reduction false ne rs) (λ row. within_same _))))

    loose_scanned : Within (scanned true misfit at us r env op) (scanned false misfit at us r env op')
    loose_scanned =
        within_then _ _ _ _ (within_same _) (λ ne. within_then _ _ _ _ (within_same _) (λ bs. within_then _ _ _ _ (within_same _) (λ rs.
        within_then _ _ _ _ (within_all_of _ _ (loose_reduction false ne) (prefixes_on [] rs)) (λ rows. within_same _))))

    loose_combined : (zs : List Atom) (i : Atom) → Within (combined true misfit at us zs i r env op) (combined false misfit at us zs i r env op')
    loose_combined zs i =
        within_then _ _ _ _ (within_same _) (λ bs. within_then _ _ _ _ (within_same _) (λ ne. within_then _ _ _ _ (within_same _) (λ c. within_then _ _ _ _ (within_same _) (λ vs. within_then _ _ _ _ (within_same _) (λ w.
        within_then _ _ _ _ (within_all_of _ _ (loose_reduction true ne) (places (λ v vs. v ∷ vs) 0 w.0 w.1)) (λ rows. within_same _))))))

loose_tested : (misfit : Bool) (at : Place) (r : Bundle) (env : Env) (test test' : Row → Rel Bool) (result : Row → List Bool → Out Row) → ((row : Row) → Within (test row) (test' row)) → Within (tested misfit at r env test result) (tested misfit at r env test' result)
loose_tested misfit at r env test test' result h =
    within_then _ _ _ _ (within_same _) (λ bs. within_then _ _ _ _ (within_same _) (λ rs. within_then _ _ _ _ (within_each_of test test' h rs) (λ ts. within_same _)))

loose_turn : (xs : List Var) (env : Env) (test test' : Env → Results) → ((e : Env) → Within (test e) (test' e)) → (cs : Row) → Within (test_turn test xs env cs) (test_turn test' xs env cs)
loose_turn xs env test test' h cs = within_then _ _ _ _ (within_then _ _ _ _ (within_same _) h) (λ ds. within_same _)

module _ (misfit : Bool) (budget : ℕ) where
  mutual
    unfolding act_means function_means body_means

    act_loose : (a : Action) (env : Env) → Within (act_means true misfit budget a env) (act_means false misfit budget a env)
    act_loose (Operate o at) env = within_same _
    act_loose (Do d at uss) env = within_same _
    act_loose (Map at source told xs b) env =
        within_then _ _ _ _ (within_same _) (λ rs. within_then _ _ _ _ (within_each_of _ _ (λ row. within_then _ _ _ _ (within_same _) (λ e. body_loose b e)) rs) (λ rows. within_same _))
    act_loose (Filter at r xs b) env = loose_tested misfit at r env _ _ _ (loose_turn xs env _ _ (λ e. body_loose b e))
    act_loose (Partition at r xs b) env = loose_tested misfit at r env _ _ _ (loose_turn xs env _ _ (λ e. body_loose b e))
    act_loose (Reduce at us r f) env = loose_reduced _ _ (function_loose f env) misfit at us r env
    act_loose (Scan at us r f) env = loose_scanned _ _ (function_loose f env) misfit at us r env
    act_loose (Scatter at us i ws) env = within_same _
    act_loose (Hist at us zs i r f) env = loose_combined _ _ (function_loose f env) misfit at us r env zs i
    act_loose (If c a b) env = within_then _ _ _ _ (within_same _) (λ t. within_choose t _ _ _ _ (body_loose a env) (body_loose b env))
    act_loose (For xs us i n b) env =
        within_then _ _ _ _ (within_same _) (λ cs. within_then _ _ _ _ (within_same _) (λ k. within_turns _ _ (λ j ds. within_then _ _ _ _ (within_same _) (λ e. body_loose b ((i.number, One (scalar.Int k.0 j)) ∷ e))) (counts k.1 0) cs))
    act_loose (For_in at xs us ys r b) env =
        within_then _ _ _ _ (within_same _) (λ cs. within_then _ _ _ _ (within_same _) (λ rs. within_turns _ _ (λ row ds. within_then _ _ _ _ (within_same _) (λ e. within_then _ _ _ _ (within_same _) (λ e'. body_loose b e'))) rs cs))
    act_loose (While at xs us t b) env =
        within_then _ _ _ _ (within_same _) (λ cs. within_while budget (report kind.Turns at) _ _ _ _ (loose_turn xs env _ _ (λ e. body_loose t e)) (λ ds. within_then _ _ _ _ (within_same _) (λ e. body_loose b e)) cs)

    function_loose : (f : Function) (env : Env) (p q : Row) → Within (function_means true misfit budget f env p q) (function_means false misfit budget f env p q)
    function_loose (Of_two xs ys b) env p q = within_then _ _ _ _ (within_same _) (λ e. within_then _ _ _ _ (within_same _) (λ e'. body_loose b e'))

    body_loose : (b : Body) (env : Env) → Within (body_means true misfit budget b env) (body_means false misfit budget b env)
    body_loose (Give us) env = within_same _
    body_loose (Let xs a b) env = within_then _ _ _ _ (within_then _ _ _ _ (act_loose a env) (λ cs. within_same _)) (λ e. body_loose b e)

  pub loose_core : (core : Core) (cs : Row) → Within (Core_means true misfit budget core cs) (Core_means false misfit budget core cs)
  unfolding Core_means
  loose_core core cs = within_then _ _ _ _ (within_same _) (λ e. body_loose (body_of core.body) e)

pub tight_adds_nothing : TightAddsNothing
tight_adds_nothing misfit budget core cs o f x = loose_core misfit budget core cs o f x
