-- A Core has some outcome. What stands here of parts in any order and of trees `fut_blocks` says of its own; both are to come
-- from the laws of the meaning.
use Rattle.std.proofs.Common.{◌≡◌, ℕ, suc, ◌+◌, List, [], ◌∷◌, map, Bool, true, false, refl, ap, arith}
use mathlib.Core.Logic.{inl}
use Rattle.fut_scalar.specs.declared.place.Place.{Place}
use Rattle.fut_scalar.specs.declared.report.FailKind.TheVariants as kind
use Rattle.fut_scalar.specs.declared.scalar.Scalar.TheVariants as scalar
use Rattle.fut_meaning.specs.Accessors.{or_wrong}
use Rattle.fut_meaning.specs.Claims.{Some_outcome}
use Rattle.fut_meaning.specs.Jobs.{In_order, order_kept, all_of, Some_of, some_of, written_at, or_old, places}
use Rattle.fut_meaning.specs.Meaning.{counts}
use Rattle.fut_meaning.specs.Operations.{report}
use Rattle.fut_meaning.specs.Outcomes.{Out, Val, Fail, Wrong, Rel, the, Then, Both, both, stops_left, stops_right, sticks_left, sticks_right, each_of, Tree, element, neutral, node, elements, neutrals, tree_gives, IsTight, bracket}
use Rattle.fut_meaning.proofs.Some.{some_exact, some_then, some_choose, some_turns, some_while}
use Rattle.fut_blocks.specs.Meaning.{bound}
use Rattle.core_ir.specs.declared.block.Atom.{Atom}
use Rattle.core_ir.specs.declared.block.Var.{Var}
use Rattle.core_ir.specs.Lists.{prefixes_on}
use Rattle.core_ir.specs.Bundles.{One, Row, array_words}
use Rattle.core_ir.specs.Arrays.{fresh_words}
use Rattle.core_ir.specs.Plain.{Bundle, Action, Operate, Do, Map, Filter, Partition, Reduce, Scan, Scatter, Hist, If, For, For_in, While, Function, Of_two, Body, Give, Let, body_of}
use Rattle.core_ir.specs.Meaning.{Env, Results, counted, scattered, number, values_of, operated, holds, Reduction, reduction, tested, test_turn, reduced, scanned, combined, act_means, function_means, body_means}
use Rattle.core_ir.specs.Programs.{Core_means}
use Rattle.core_ir.specs.Claims.{SomeOutcome}

-- behind what has one outcome
some_the : {A B : Type 0} (o : Out A) (k : A → Rel B) → ((a : A) → Some_outcome (k a)) → Some_outcome (Then (the o) k)
some_the o k l = some_then (the o) k (λ a f x. l a) (some_exact 0 o)

some_counted : (o : Out Row) → Some_outcome (counted o)
some_counted o = some_the o _ (λ bs. some_exact (array_words bs) (Val bs))

-- ---- parts in any order

module _ {A B C : Type 0} (m : Rel A) (n : Rel B) (k : A → B → Rel C) (l : (a : A) (b : B) → Some_outcome (k a b)) where
  from_both : (o : Out A) (f : ℕ) → m o f → (p : Out B) (g : ℕ) → n p g → Some_outcome (Both m n k)
  from_both (Val a) f x (Val b) g y = let r = l a b in (r.0, f + g + r.1, both x y r.2)
  from_both (Val a) f x (Fail r) g y = (Fail r, g, stops_right y)
  from_both (Val a) f x Wrong g y = (Wrong, g, sticks_right y)
  from_both (Fail r) f x p g y = (Fail r, f, stops_left x)
  from_both Wrong f x p g y = (Wrong, f, sticks_left x)

  some_both : Some_outcome m → Some_outcome n → Some_outcome (Both m n k)
  some_both h i = from_both h.0 h.1 h.2 i.0 i.1 i.2

some_each : {A B : Type 0} (g : A → Rel B) → ((a : A) → Some_outcome (g a)) → (xs : List A) → Some_outcome (each_of g xs)
some_each g h [] = some_exact 0 (Val [])
some_each g h (x ∷ xs) = some_then (g x) _ (λ y f r. some_then (each_of g xs) _ (λ ys e s. some_exact 0 (Val (y ∷ ys))) (some_each g h xs)) (h x)

some_all : {A B : Type 0} (g : A → Rel B) → ((a : A) → Some_outcome (g a)) → (xs : List A) → Some_outcome (all_of g xs)
some_all g h [] = some_exact 0 (Val [])
some_all g h (x ∷ xs) = some_both (g x) (all_of g xs) _ (λ y ys. some_exact 0 (Val (y ∷ ys))) (h x) (some_all g h xs)

-- ---- reductions

-- a tree with one neutral leaf, which is its last one
abbrev row_tree : {A : Type 0} → List A → Tree A
row_tree [] = neutral
row_tree (x ∷ xs) = node (element x) (row_tree xs)

row_elements : {A : Type 0} (xs : List A) → elements (row_tree xs) ≡ xs
row_elements [] = refl
row_elements (x ∷ xs) = ap (λ z. x ∷ z) (row_elements xs)

row_neutrals : {A : Type 0} (xs : List A) → neutrals (row_tree xs) ≡ 1
row_neutrals [] = refl
row_neutrals (x ∷ xs) = omega (arith, row_neutrals xs)

row_tight : {A : Type 0} (tight : Bool) (xs : List A) → IsTight tight (row_tree xs)
row_tight false xs = tt
row_tight true xs = omega (arith, row_neutrals xs)

some_tree : {A : Type 0} (op : A → A → Rel A) (ne : A) → ((a b : A) → Some_outcome (op a b)) → (t : Tree A) → Some_outcome (tree_gives op ne t)
some_tree op ne h (element a) = some_exact 0 (Val a)
some_tree op ne h neutral = some_exact 0 (Val ne)
some_tree op ne h (node s t) = some_both _ _ op h (some_tree op ne h s) (some_tree op ne h t)

some_order : {A : Type 0} (any : Bool) (xs : List A) → In_order any xs xs
some_order false xs = refl
some_order true xs = order_kept

module _ (tight : Bool) (op : Row → Row → Results) (h : (p q : Row) → Some_outcome (op p q)) where
  some_reduction : (any : Bool) (ne : Row) (rows : List Row) → Some_outcome (Reduction tight any op ne rows)
  some_reduction any ne rows = let r = some_tree op ne h (row_tree rows) in (r.0, r.1, reduction (some_order any rows) (bracket (row_tree rows) (row_elements rows) (row_tight tight rows) r.2))

  module _ (misfit : Bool) (at : Place) (us : List Atom) (r : Bundle) (env : Env) where
    some_reduced : Some_outcome (reduced tight misfit at us r env op)
    some_reduced =
        some_the _ _ (λ ne. some_the _ _ (λ bs. some_the _ _ (λ rs. some_then _ _ (λ row f x. some_exact (array_words row) (Val row)) (some_reduction false ne rs))))

    some_scanned : Some_outcome (scanned tight misfit at us r env op)
    some_scanned =
        some_the _ _ (λ ne. some_the _ _ (λ bs. some_the _ _ (λ rs. some_then _ _ (λ rows f x. some_counted _) (some_all _ (some_reduction false ne) (prefixes_on [] rs)))))

    some_combined : (zs : List Atom) (i : Atom) → Some_outcome (combined tight misfit at us zs i r env op)
    some_combined zs i =
        some_the _ _ (λ bs. some_the _ _ (λ ne. some_the _ _ (λ c. some_the _ _ (λ vs. some_the _ _ (λ w.
        some_then _ _ (λ rows f x. some_exact 0 _) (some_all _ (some_reduction true ne) (places (λ v vs. v ∷ vs) 0 w.0 w.1)))))))

-- ---- steps without a block

some_choice : (v : Row) (vs : List Row) → Some_outcome (Some_of (or_old v vs))
some_choice v [] = (Val v, 0, some_of (inl refl))
some_choice v (w ∷ ws) = (Val w, 0, some_of (inl refl))

some_chosen : (k : ℕ) (old : List Row) (ws : List (ℕ × Row)) → Some_outcome (all_of Some_of (places or_old k old ws))
some_chosen k [] ws = some_exact 0 (Val [])
some_chosen k (v ∷ old) ws = some_both _ _ _ (λ y ys. some_exact 0 (Val (y ∷ ys))) (some_choice v (written_at k ws)) (some_chosen (suc k) old ws)

some_tested : (misfit : Bool) (at : Place) (r : Bundle) (env : Env) (test : Row → Rel Bool) (result : Row → List Bool → Out Row) → ((row : Row) → Some_outcome (test row)) → Some_outcome (tested misfit at r env test result)
some_tested misfit at r env test result h =
    some_the _ _ (λ bs. some_the _ _ (λ rs. some_then _ _ (λ ts f x. some_the _ _ (λ cs. some_exact (array_words bs) (Val cs))) (some_each test h rs)))

some_turn : (xs : List Var) (env : Env) (test : Env → Results) → ((e : Env) → Some_outcome (test e)) → (cs : Row) → Some_outcome (test_turn test xs env cs)
some_turn xs env test h cs = some_then _ _ (λ ds f x. some_exact 0 (holds ds)) (some_the (or_wrong (bound (map number xs) cs env)) _ h)

some_scattered : (misfit : Bool) (at : Place) (us : List Atom) (i : Atom) (ws : List Atom) (env : Env) → Some_outcome (scattered misfit at us i ws env)
some_scattered misfit at us i ws env =
    some_the _ _ (λ bs. some_the _ _ (λ c. some_the _ _ (λ vs. some_the _ _ (λ w. some_then _ _ (λ rows f x. some_exact 0 _) (some_chosen 0 w.0 w.1)))))

-- ---- blocks

module _ (tight misfit : Bool) (budget : ℕ) where
  mutual
    unfolding act_means function_means body_means

    act_some : (a : Action) (env : Env) → Some_outcome (act_means tight misfit budget a env)
    act_some (Operate o at) env = some_exact 0 (operated env o at)
    act_some (Do d at uss) env = some_the _ _ (λ cs. some_exact (fresh_words d cs) (Val cs))
    act_some (Map at source told xs b) env =
        some_the _ _ (λ rs. some_then _ _ (λ rows f x. some_counted _) (some_each _ (λ row. some_the _ _ (λ e. body_some b e)) rs))
    act_some (Filter at r xs b) env = some_tested misfit at r env _ _ (some_turn xs env _ (λ e. body_some b e))
    act_some (Partition at r xs b) env = some_tested misfit at r env _ _ (some_turn xs env _ (λ e. body_some b e))
    act_some (Reduce at us r f) env = some_reduced tight _ (function_some f env) misfit at us r env
    act_some (Scan at us r f) env = some_scanned tight _ (function_some f env) misfit at us r env
    act_some (Scatter at us i ws) env = some_scattered misfit at us i ws env
    act_some (Hist at us zs i r f) env = some_combined tight _ (function_some f env) misfit at us r env zs i
    act_some (If c a b) env = some_the _ _ (λ t. some_choose t _ _ (body_some a env) (body_some b env))
    act_some (For xs us i n b) env =
        some_the _ _ (λ cs. some_the _ _ (λ k. some_turns _ (λ j ds. some_the _ _ (λ e. body_some b ((i.number, One (scalar.Int k.0 j)) ∷ e))) (counts k.1 0) cs))
    act_some (For_in at xs us ys r b) env =
        some_the _ _ (λ cs. some_the _ _ (λ rs. some_turns _ (λ row ds. some_the _ _ (λ e. some_the _ _ (λ e'. body_some b e'))) rs cs))
    act_some (While at xs us t b) env =
        some_the _ _ (λ cs. some_while budget (report kind.Turns at) _ _ (some_turn xs env _ (λ e. body_some t e)) (λ ds. some_the _ _ (λ e. body_some b e)) cs)

    function_some : (f : Function) (env : Env) (p q : Row) → Some_outcome (function_means tight misfit budget f env p q)
    function_some (Of_two xs ys b) env p q = some_the _ _ (λ e. some_the _ _ (λ e'. body_some b e'))

    body_some : (b : Body) (env : Env) → Some_outcome (body_means tight misfit budget b env)
    body_some (Give us) env = some_exact 0 (values_of env us)
    body_some (Let xs a b) env = some_then _ _ (λ e f x. body_some b e) (some_then _ _ (λ cs f x. some_exact 0 (or_wrong (bound (map number xs) cs env))) (act_some a env))

pub some_outcome : SomeOutcome
unfolding Core_means
some_outcome tight misfit budget core cs = some_the _ _ (λ e. body_some tight misfit budget (body_of core.body) e)
