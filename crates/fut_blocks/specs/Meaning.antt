-- What blocks mean: which outcomes they may have, each with the fresh words that it counts. Steps go in order, and the first
-- that fails gives its report to the whole. It is said in the words by which the copying meaning of programs is said, and
-- since blocks hold no functions, by structure. With a budget of turns for each `while`.
use Rattle.std.specs.Prelude.{ℕ, List, [], ◌∷◌, Bool, false, cond, not, Option, ℤ, pos}
use Rattle.fut_scalar.specs.declared.operator.BinOp.{BinOp}
use Rattle.fut_scalar.specs.declared.operator.BinOp.TheVariants as binary
use Rattle.fut_scalar.specs.declared.place.Place.{Place}
use Rattle.fut_scalar.specs.declared.report.FailKind.TheVariants as kind
use Rattle.fut_scalar.specs.declared.scalar.IntType.{IntType}
use Rattle.fut_scalar.specs.declared.scalar.IntType.TheVariants.{I64}
use Rattle.fut_scalar.specs.declared.scalar.Scalar.{Scalar}
use Rattle.fut_scalar.specs.declared.scalar.Scalar.TheVariants as scalar
use Rattle.fut_arithmetic.specs.Conversions.{converted}
use Rattle.fut_meaning.specs.Accessors.{or_wrong, turns_of_scalar}
use Rattle.fut_value.specs.Data.{Shape, Datum, Scalar_datum, Tuple_datum, listed, datums}
use Rattle.fut_meaning.specs.Datums.{as_value}
use Rattle.fut_meaning.specs.Found.{count}
use Rattle.fut_meaning.specs.Arrays.{checked, rows_of, scalar_of_datum, truth_of_datum, Counted, made}
use Rattle.fut_meaning.specs.Jobs.{Job, Applied, job_means, job}
use Rattle.fut_meaning.specs.Flats.{FlatValue}
use Rattle.fut_meaning.specs.Meaning.{counts}
use Rattle.fut_meaning.specs.Operations.{report, reported, equal}
use Rattle.fut_meaning.specs.Operators.{integer, binary_result, unary_result}
use Rattle.fut_meaning.specs.Outcomes.{Out, Val, Fail, Wrong, and_then, Rel, gives, the, Then, choose, turns, while_turns}
use Rattle.fut_blocks.specs.declared.block.Atom.{Atom}
use Rattle.fut_blocks.specs.declared.block.Operation.{Operation}
use Rattle.fut_blocks.specs.declared.block.Operation.TheVariants as operation
use Rattle.fut_blocks.specs.Records.{reads}
use Rattle.fut_blocks.specs.Rows.{Size_test}
use Rattle.fut_blocks.specs.Plain.{Action, Operate, Tuple, Make, Read, Size_of, Coerce, If, For, Over, While, Body, Give, Let}
use Rattle.fut_blocks.specs.Plain as act
pub use Rattle.fut_blocks.specs.Names.{Component, Names, look, bound, fitted, value_of, values_of}
pub use Rattle.fut_blocks.specs.Sizes.{row_shape, extent_worth, passes}

-- data as a value of a program, which is where operations are said
abbrev pub as_flat : Datum → FlatValue
as_flat d = as_value d

abbrev pub one : Out Scalar → Out (List Component)
one o = and_then o (λ s. Val (Scalar_datum s ∷ []))

abbrev pub asserted : Place → Bool → Out (List Component)
asserted at b = cond b (Val []) (Fail (report kind.Assert at))

-- the scalar that an operation gives
abbrev pub binary_scalar : BinOp → Place → Component → Component → Out Scalar
binary_scalar binary.Eq at v w = and_then (equal (as_flat v) (as_flat w)) (λ b. Val (scalar.Bool b))
binary_scalar binary.Ne at v w = and_then (equal (as_flat v) (as_flat w)) (λ b. Val (scalar.Bool (not b)))
binary_scalar op at v w = and_then (scalar_of_datum v) (λ a. and_then (scalar_of_datum w) (λ b. reported at (binary_result op a b)))

abbrev pub parts_of : Component → Out (List Component)
parts_of (Tuple_datum ds) = Val (listed ds)
parts_of d = Wrong

-- an operation gives one component, an assertion none, and the parts of a tuple are as many as it has
unfoldable pub operated : Names Component → Operation → Out (List Component)
operated env (operation.Binary op at a b) = and_then (value_of env a) (λ v. and_then (value_of env b) (λ w. one (binary_scalar op at v w)))
operated env (operation.Unary op a) = and_then (value_of env a) (λ v. one (and_then (scalar_of_datum v) (λ s. or_wrong (unary_result op s))))
operated env (operation.Convert t a) = and_then (value_of env a) (λ v. one (and_then (scalar_of_datum v) (λ s. Val (converted t s))))
operated env (operation.Assert at a) = and_then (value_of env a) (λ v. and_then (truth_of_datum v) (asserted at))
operated env (operation.Parts a) = and_then (value_of env a) parts_of

abbrev pub Results : Type 1
Results = Rel (List Component)

-- the names with new ones for these components
abbrev pub named : List ℕ → List Component → Names Component → Rel (Names Component)
named xs vs env = the (or_wrong (bound xs vs env))

-- what follows under new names
abbrev pub under : {A : Type 0} → List ℕ → List Component → Names Component → (Names Component → Rel A) → Rel A
under xs vs env k = Then (named xs vs env) k

-- whether a test's one result holds
abbrev pub holds : List Component → Out Bool
holds (v ∷ []) = truth_of_datum v
holds vs = Wrong

abbrev pub truth_of_atom : Names Component → Atom → Out Bool
truth_of_atom env c = and_then (value_of env c) truth_of_datum

abbrev pub turns_of_datum : Component → Out (IntType × ℕ)
turns_of_datum v = and_then (scalar_of_datum v) turns_of_scalar

-- as an i64
abbrev pub size_given : Option ℤ → Out (List Component)
size_given z = Val (Scalar_datum (integer I64 (pos (count z))) ∷ [])

-- data of a shape has the sizes that it has to have, or the report is at this place
abbrev pub sizes_tested : Names Component → Place → Size_test → Shape → Out (List Component)
sizes_tested env at t h = and_then (passes env t h) (λ b. checked b kind.Size at (Val []))

abbrev pub for_turns : (Names Component → Results) → List ℕ → ℕ → Names Component → Atom → List Component → Results
for_turns body xs i env n vs =
    Then (the (and_then (value_of env n) turns_of_datum)) (λ c. turns (λ j ws. under xs ws env (λ e. body ((i, Scalar_datum (scalar.Int c.0 j)) ∷ e))) (counts c.1 0) vs)

abbrev pub row_turns : (Names Component → Results) → List ℕ → ℕ → Names Component → Atom → List Component → Results
row_turns body xs x env r vs =
    Then (the (and_then (value_of env r) rows_of)) (λ rs. turns (λ d ws. under xs ws env (λ e. body ((x, d) ∷ e))) rs.1 vs)

-- the one component that a function gives
abbrev pub the_one : List Component → Out Component
the_one (v ∷ []) = Val v
the_one vs = Wrong

-- a function of these parameters
abbrev pub function_of : (Names Component → Results) → List ℕ → Names Component → Applied
function_of body xs env vs = Then (under xs vs env body) (λ ws. the (the_one ws))

-- a result, with the words that it counts
abbrev pub counted : Counted → Results
counted r = gives r.0 (r.1 ∷ [])

abbrev pub test_turn : (Names Component → Results) → List ℕ → Names Component → List Component → Rel Bool
test_turn test xs env vs = under xs vs env (λ e. Then (test e) (λ ws. the (holds ws)))

-- in a reduction nothing is asked of the operator, and of its trees only that they have few neutral leaves where that is asked for
abbrev pub job_given : Bool → Applied → Job → Results
job_given tight f j = Then (job_means tight (λ any ne ds. Unit {0}) (λ ws. Unit {0}) f j) (λ d. gives 0 (d ∷ []))

unfoldable mutual
  pub act_means : Bool → ℕ → Action → Names Component → Results
  act_means tight budget (Operate o) env = the (operated env o)
  act_means tight budget (Tuple us) env = the (and_then (values_of env us) (λ vs. Val (Tuple_datum (datums vs) ∷ [])))
  act_means tight budget (Read k us) env = the (and_then (values_of env us) (reads k))
  act_means tight budget (Make r m at us) env = Then (the (values_of env us)) (λ vs. Then (the (and_then (row_shape env r) (λ h. made false h m at vs))) counted)
  act_means tight budget (act.Job r p at us xs b) env = Then (the (values_of env us)) (λ vs. Then (the (and_then (row_shape env r) (λ h. job false h p at vs))) (job_given tight (function_of (body_means tight budget b) xs env)))
  act_means tight budget (Size_of e) env = the (and_then (extent_worth env e) size_given)
  act_means tight budget (Coerce at t r) env = the (and_then (row_shape env r) (sizes_tested env at t))
  act_means tight budget (If c a b) env = Then (the (truth_of_atom env c)) (λ t. choose t (body_means tight budget a env) (body_means tight budget b env))
  act_means tight budget (For xs us i n b) env = Then (the (values_of env us)) (for_turns (body_means tight budget b) xs i env n)
  act_means tight budget (Over xs us x r b) env = Then (the (values_of env us)) (row_turns (body_means tight budget b) xs x env r)
  act_means tight budget (While at xs us t b) env =
      Then (the (values_of env us)) (while_turns budget (report kind.Turns at) (test_turn (body_means tight budget t) xs env) (λ vs. under xs vs env (body_means tight budget b)))

  pub body_means : Bool → ℕ → Body → Names Component → Results
  body_means tight budget (Give us) env = the (values_of env us)
  body_means tight budget (Let xs a b) env = Then (Then (act_means tight budget a env) (λ vs. named xs vs env)) (body_means tight budget b)
