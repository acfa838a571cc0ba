-- What blocks of Core mean: which outcomes they may have, each with the fresh words that it counts. Steps go in order, and the
-- first that fails gives its report to the whole. It is said in the words by which the copying meaning of programs is said, and
-- by structure, since there is no function but the blocks of steps. With a budget of turns for each `while`.
use Rattle.std.specs.Prelude.{ℕ, ◌&&◌, int_le, slice_get, List, [], ◌∷◌, ◌++◌, map, Bool, true, false}
use Rattle.fut_scalar.specs.declared.place.Place.{Place}
use Rattle.fut_scalar.specs.declared.report.FailKind.TheVariants as kind
use Rattle.fut_scalar.specs.declared.scalar.IntType.TheVariants.{U64}
use Rattle.fut_scalar.specs.declared.scalar.Scalar.{Scalar}
use Rattle.fut_scalar.specs.declared.scalar.Scalar.TheVariants as scalar
use Rattle.fut_arithmetic.specs.Conversions.{converted}
use Rattle.fut_meaning.specs.Accessors.{or_wrong, turns_of_scalar}
use Rattle.fut_meaning.specs.Arrays.{truth_of_scalar, checked}
use Rattle.fut_meaning.specs.Jobs.{In_order, all_of, Some_of, places, or_old}
use Rattle.fut_meaning.specs.Meaning.{counts}
use Rattle.fut_meaning.specs.Operations.{report, reported}
use Rattle.fut_meaning.specs.Operators.{binary_result, unary_result}
use Rattle.fut_meaning.specs.Outcomes.{Out, Val, Wrong, and_then, Rel, gives, the, Then, choose, each_of, turns, while_turns, Bracket}
use Rattle.fut_blocks.specs.Meaning.{Names, look, bound, fitted}
use Rattle.core_ir.specs.declared.block.Var.{Var}
use Rattle.core_ir.specs.declared.block.Atom.{Atom}
use Rattle.core_ir.specs.declared.block.Atom.TheVariants as atom
use Rattle.core_ir.specs.declared.block.Operation.{Operation}
use Rattle.core_ir.specs.declared.block.Operation.TheVariants as operation
use Rattle.core_ir.specs.Lists.{sifted, prefixes_on}
use Rattle.core_ir.specs.Bundles.{Component, One, Row, sizes, rows_in, rows_of, row_sizes, stacked, glued, array_words}
use Rattle.core_ir.specs.Arrays.{scalar_in, exact_in, sized_by, i64, all_told, numbers_below, array_rows, array_sizes, rows_together, written, done, fresh_words}
use Rattle.core_ir.specs.Plain.{Bundle, Source, Of_rows, Of_numbers, Action, Operate, Do, Map, Filter, Partition, Reduce, Scan, Scatter, Hist, If, For, For_in, While, Function, Of_two, Body, Give, Let}

abbrev pub Results : Type 1
Results = Rel Row

-- ---- operands

abbrev pub Env : Type 0
Env = Names Component

abbrev pub value_of : Env → Atom → Out Component
value_of env (atom.Var x) = or_wrong (look env x.number)
value_of env (atom.Constant s) = Val (One (fitted s))

abbrev pub values_of : Env → List Atom → Out Row
values_of env [] = Val []
values_of env (u ∷ us) = and_then (value_of env u) (λ c. and_then (values_of env us) (λ cs. Val (c ∷ cs)))

abbrev pub groups_of : Env → List (List Atom) → Out (List Row)
groups_of env [] = Val []
groups_of env (us ∷ uss) = and_then (values_of env us) (λ cs. and_then (groups_of env uss) (λ css. Val (cs ∷ css)))

abbrev pub scalar_at : Env → Atom → Out Scalar
scalar_at env u = and_then (value_of env u) scalar_in

abbrev pub truth_at : Env → Atom → Out Bool
truth_at env u = and_then (scalar_at env u) truth_of_scalar

-- ---- new names

abbrev pub number : Var → ℕ
number x = x.number

-- the names with new ones for these components
abbrev pub named : List Var → Row → Env → Rel Env
named xs cs env = the (or_wrong (bound (map number xs) cs env))

-- what follows under new names
abbrev pub under : {A : Type 0} → List Var → Row → Env → (Env → Rel A) → Rel A
under xs cs env k = Then (named xs cs env) k

-- ---- operations on scalars

abbrev pub one : Out Scalar → Out Row
one o = and_then o (λ s. Val (One s ∷ []))

unfoldable pub operated : Env → Operation → Place → Out Row
operated env (operation.Binary op a b) at = and_then (scalar_at env a) (λ s. and_then (scalar_at env b) (λ t. one (reported at (binary_result op s t))))
operated env (operation.Unary op a) at = and_then (scalar_at env a) (λ s. one (or_wrong (unary_result op s)))
operated env (operation.Convert t a) at = and_then (scalar_at env a) (λ s. one (Val (converted t s)))
operated env (operation.Assert a) at = and_then (truth_at env a) (λ b. checked b kind.Assert at (Val []))
operated env (operation.Length a) at = and_then (value_of env a) (λ c. and_then (rows_in c) (λ n. one (Val (i64 n))))
operated env (operation.Dimension a k) at = and_then (value_of env a) (λ c. and_then (or_wrong (slice_get (sizes c) k)) (λ n. one (Val (scalar.Int U64 n))))
operated env (operation.CheckSize a b) at = and_then (value_of env a) (λ c. and_then (value_of env b) (λ d. and_then (exact_in c) (λ z. and_then (exact_in d) (λ w. checked (int_le z w && int_le w z) kind.Size at (Val [])))))

-- ---- functions of rows

-- whether a test's one result holds
abbrev pub holds : Row → Out Bool
holds (c ∷ []) = and_then (scalar_in c) truth_of_scalar
holds cs = Wrong

-- what a function is applied to
abbrev pub source_rows : (misfit : Bool) → Place → Env → Source → Out (List Row)
source_rows misfit at env (Of_rows rs) = and_then (groups_of env (map (λ r. r.arrays) rs)) (rows_together misfit at (map (λ r. r.width) rs))
source_rows misfit at env (Of_numbers u) = and_then (value_of env u) (λ c. sized_by at c (λ n. Val (map (λ s. One s ∷ []) (numbers_below n))))

-- new arrays
abbrev pub counted : Out Row → Results
counted o = Then (the o) (λ bs. gives (array_words bs) bs)

-- the results of a function as new arrays
abbrev pub collected : (misfit : Bool) → Place → Env → List (List Atom) → List Row → Out Row
collected misfit at env told rows = and_then (groups_of env told) (λ css. and_then (all_told css) (λ ds. glued misfit at ds rows))

-- of an array the rows that pass, or those that do not
abbrev pub kept : (misfit : Bool) → Place → Bool → Row → List Bool → Out Row
kept misfit at b bs ts = and_then (array_rows misfit at bs) (λ rs. stacked misfit at (array_sizes bs) (sifted b rs ts))

abbrev pub parted : (misfit : Bool) → Place → Row → List Bool → Out Row
parted misfit at bs ts = and_then (kept misfit at true bs ts) (λ cs. and_then (kept misfit at false bs ts) (λ ds. Val (cs ++ ds)))

-- the words of the arrays along which a test is applied count
abbrev pub tested : (misfit : Bool) → Place → Bundle → Env → (Row → Rel Bool) → (Row → List Bool → Out Row) → Results
tested misfit at r env test result =
    Then (the (values_of env r.arrays)) (λ bs. Then (the (rows_of misfit at r.width bs)) (λ rs. Then (each_of test rs) (λ ts. Then (the (result bs ts)) (λ cs. gives (array_words bs) cs))))

-- ---- reductions

-- in their order or in any
pub data Reduction (tight any : Bool) (op : Row → Row → Results) (ne : Row) (rows : List Row) : Out Row → ℕ → Type 0 where
  reduction : {some : List Row} {o : Out Row} {f : ℕ} → In_order any rows some → Bracket tight op ne some o f → Reduction tight any op ne rows o f

abbrev pub reduced : (tight misfit : Bool) → Place → List Atom → Bundle → Env → (Row → Row → Results) → Results
reduced tight misfit at us r env op =
    Then (the (values_of env us)) (λ ne. Then (the (values_of env r.arrays)) (λ bs. Then (the (rows_of misfit at r.width bs)) (λ rs. Then (Reduction tight false op ne rs) (λ row. gives (array_words row) row))))

abbrev pub scanned : (tight misfit : Bool) → Place → List Atom → Bundle → Env → (Row → Row → Results) → Results
scanned tight misfit at us r env op =
    Then (the (values_of env us)) (λ ne. Then (the (values_of env r.arrays)) (λ bs. Then (the (rows_of misfit at r.width bs)) (λ rs.
    Then (all_of (Reduction tight false op ne) (prefixes_on [] rs)) (λ rows. counted (glued misfit at (row_sizes r.width bs) rows)))))

-- ---- writing

-- each old row, or one of those that are written at its place
abbrev pub scattered : (misfit : Bool) → Place → List Atom → Atom → List Atom → Env → Results
scattered misfit at us i ws env =
    Then (the (values_of env us)) (λ bs. Then (the (value_of env i)) (λ c. Then (the (values_of env ws)) (λ vs. Then (the (written misfit at 1 bs c vs)) (λ w.
    Then (all_of Some_of (places or_old 0 w.0 w.1)) (λ rows. the (stacked misfit at (array_sizes bs) rows))))))

-- each old row combined with those that are written at its place
abbrev pub combined : (tight misfit : Bool) → Place → List Atom → List Atom → Atom → Bundle → Env → (Row → Row → Results) → Results
combined tight misfit at us zs i r env op =
    Then (the (values_of env us)) (λ bs. Then (the (values_of env zs)) (λ ne. Then (the (value_of env i)) (λ c. Then (the (values_of env r.arrays)) (λ vs. Then (the (written misfit at r.width bs c vs)) (λ w.
    Then (all_of (Reduction tight true op ne) (places (λ v vs. v ∷ vs) 0 w.0 w.1)) (λ rows. the (stacked misfit at (row_sizes r.width bs) rows)))))))

-- ---- loops

abbrev pub for_turns : (Env → Results) → List Var → Var → Env → Atom → Row → Results
for_turns body xs i env n cs =
    Then (the (and_then (scalar_at env n) turns_of_scalar)) (λ k. turns (λ j ds. under xs ds env (λ e. body ((i.number, One (scalar.Int k.0 j)) ∷ e))) (counts k.1 0) cs)

abbrev pub row_turns : (misfit : Bool) → Place → (Env → Results) → List Var → List Var → Env → Bundle → Row → Results
row_turns misfit at body xs ys env r cs =
    Then (the (and_then (values_of env r.arrays) (rows_of misfit at r.width))) (λ rs. turns (λ row ds. under xs ds env (λ e. under ys row e body)) rs cs)

abbrev pub test_turn : (Env → Results) → List Var → Env → Row → Rel Bool
test_turn test xs env cs = Then (under xs cs env test) (λ ds. the (holds ds))

-- ---- steps

module _ (tight misfit : Bool) (budget : ℕ) where
  unfoldable mutual
    pub act_means : Action → Env → Results
    act_means (Operate o at) env = the (operated env o at)
    act_means (Do d at uss) env = Then (the (and_then (groups_of env uss) (done misfit d at))) (λ cs. gives (fresh_words d cs) cs)
    act_means (Map at source told xs b) env = Then (the (source_rows misfit at env source)) (λ rs. Then (each_of (λ row. under xs row env (body_means b)) rs) (λ rows. counted (collected misfit at env told rows)))
    act_means (Filter at r xs b) env = tested misfit at r env (test_turn (body_means b) xs env) (kept misfit at true)
    act_means (Partition at r xs b) env = tested misfit at r env (test_turn (body_means b) xs env) (parted misfit at)
    act_means (Reduce at us r f) env = reduced tight misfit at us r env (function_means f env)
    act_means (Scan at us r f) env = scanned tight misfit at us r env (function_means f env)
    act_means (Scatter at us i ws) env = scattered misfit at us i ws env
    act_means (Hist at us zs i r f) env = combined tight misfit at us zs i r env (function_means f env)
    act_means (If c a b) env = Then (the (truth_at env c)) (λ t. choose t (body_means a env) (body_means b env))
    act_means (For xs us i n b) env = Then (the (values_of env us)) (for_turns (body_means b) xs i env n)
    act_means (For_in at xs us ys r b) env = Then (the (values_of env us)) (row_turns misfit at (body_means b) xs ys env r)
    act_means (While at xs us t b) env = Then (the (values_of env us)) (while_turns budget (report kind.Turns at) (test_turn (body_means t) xs env) (λ cs. under xs cs env (body_means b)))

    pub function_means : Function → Env → Row → Row → Results
    function_means (Of_two xs ys b) env p q = under xs p env (λ e. under ys q e (body_means b))

    pub body_means : Body → Env → Results
    body_means (Give us) env = the (values_of env us)
    body_means (Let xs a b) env = Then (Then (act_means a env) (λ cs. named xs cs env)) (body_means b)
