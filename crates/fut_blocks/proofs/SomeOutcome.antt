-- A block has some outcome.
use Rattle.std.proofs.Common.{◌≡◌, ℕ, suc, ◌+◌, List, [], ◌∷◌, Bool, true, false, refl, ap, arith}
use mathlib.Core.Logic.{inl}
use Rattle.fut_scalar.specs.declared.report.FailKind.TheVariants as kind
use Rattle.fut_scalar.specs.declared.scalar.Scalar.TheVariants as scalar
use Rattle.fut_value.specs.Data.{Datum, Scalar_datum, Tuple_datum, datums}
use Rattle.fut_meaning.specs.Accessors.{or_wrong}
use Rattle.fut_meaning.specs.Arrays.{Counted, rows_of, made}
use Rattle.fut_meaning.specs.Claims.{Some_outcome}
use Rattle.fut_meaning.specs.Jobs.{In_order, order_kept, all_of, Some_of, some_of, shown, Job, Done, Apply_each, Reduce_each, Choose_each, written_at, or_old, places, Applied, two_of, Reduces, reduces, finished, job_means, job}
use Rattle.fut_meaning.specs.Meaning.{counts}
use Rattle.fut_meaning.specs.Operations.{report}
use Rattle.fut_meaning.specs.Outcomes.{Out, Val, Fail, Wrong, and_then, Rel, the, Then, Both, both, stops_left, stops_right, sticks_left, sticks_right, each_of, Tree, element, neutral, node, elements, neutrals, tree_gives, IsTight, bracket}
use Rattle.fut_meaning.proofs.Some.{some_exact, some_then, some_choose, some_turns, some_while}
use Rattle.fut_blocks.specs.Plain.{Action, Operate, Tuple, Make, Read, Size_of, Coerce, If, For, Over, While, Body, Give, Let, body_of}
use Rattle.fut_blocks.specs.Plain as act
use Rattle.fut_blocks.specs.Records.{reads}
use Rattle.fut_blocks.specs.Meaning.{Component, Names, bound, value_of, values_of, row_shape, extent_worth, size_given, sizes_tested, operated, truth_of_atom, turns_of_datum, the_one, function_of, counted, holds, job_given, act_means, body_means}
use Rattle.fut_blocks.specs.Programs.{Program_means}
use Rattle.fut_blocks.specs.Claims.{SomeOutcome}

-- behind what has one outcome
some_the : {A B : Type 0} (o : Out A) (k : A → Rel B) → ((a : A) → Some_outcome (k a)) → Some_outcome (Then (the o) k)
some_the o k l = some_then (the o) k (λ a f x. l a) (some_exact 0 o)

-- ---- parts in any order

module _ {A B C : Type 0} (m : Rel A) (n : Rel B) (k : A → B → Rel C) (l : (a : A) (b : B) → Some_outcome (k a b)) where
  from_both : (o : Out A) (f : ℕ) → m o f → (p : Out B) (g : ℕ) → n p g → Some_outcome (Both m n k)
  from_both (Val a) f x (Val b) g y = let r = l a b in (r.0, f + g + r.1, both x y r.2)
  from_both (Val a) f x (Fail r) g y = (Fail r, g, stops_right y)
  from_both (Val a) f x Wrong g y = (Wrong, g, sticks_right y)
  from_both (Fail r) f x p g y = (Fail r, f, stops_left x)
  from_both Wrong f x p g y = (Wrong, f, sticks_left x)

  some_both : Some_outcome m → Some_outcome n → Some_outcome (Both m n k)
  some_both h i = from_both h.0 h.1 h.2 i.0 i.1 i.2

some_each : {A B : Type 0} (g : A → Rel B) → ((a : A) → Some_outcome (g a)) → (xs : List A) → Some_outcome (each_of g xs)
some_each g h [] = some_exact 0 (Val [])
some_each g h (x ∷ xs) = some_then (g x) _ (λ y f r. some_then (each_of g xs) _ (λ ys e s. some_exact 0 (Val (y ∷ ys))) (some_each g h xs)) (h x)

some_all : {A B : Type 0} (g : A → Rel B) → ((a : A) → Some_outcome (g a)) → (xs : List A) → Some_outcome (all_of g xs)
some_all g h [] = some_exact 0 (Val [])
some_all g h (x ∷ xs) = some_both (g x) (all_of g xs) _ (λ y ys. some_exact 0 (Val (y ∷ ys))) (h x) (some_all g h xs)

-- ---- reductions

-- a tree with one neutral leaf, which is its last one
abbrev row_tree : {A : Type 0} → List A → Tree A
row_tree [] = neutral
row_tree (x ∷ xs) = node (element x) (row_tree xs)

row_elements : {A : Type 0} (xs : List A) → elements (row_tree xs) ≡ xs
row_elements [] = refl
row_elements (x ∷ xs) = ap (λ z. x ∷ z) (row_elements xs)

row_neutrals : {A : Type 0} (xs : List A) → neutrals (row_tree xs) ≡ 1
row_neutrals [] = refl
row_neutrals (x ∷ xs) = omega (arith, row_neutrals xs)

row_tight : {A : Type 0} (tight : Bool) (xs : List A) → IsTight tight (row_tree xs)
row_tight false xs = tt
row_tight true xs = omega (arith, row_neutrals xs)

some_tree : {A : Type 0} (op : A → A → Rel A) (ne : A) → ((a b : A) → Some_outcome (op a b)) → (t : Tree A) → Some_outcome (tree_gives op ne t)
some_tree op ne h (element a) = some_exact 0 (Val a)
some_tree op ne h neutral = some_exact 0 (Val ne)
some_tree op ne h (node s t) = some_both _ _ op h (some_tree op ne h s) (some_tree op ne h t)

some_order : {A : Type 0} (any : Bool) (xs : List A) → In_order any xs xs
some_order false xs = refl
some_order true xs = order_kept

module _ (tight : Bool) (f : Applied) (h : (ds : List Datum) → Some_outcome (f ds)) where
  some_reduces : (any : Bool) (ne : Datum) (xs : List Datum) → Some_outcome (Reduces tight any (λ ne ds. Unit {0}) f ne xs)
  some_reduces any ne xs = let r = some_tree (two_of f) ne (λ a b. h (a ∷ b ∷ [])) (row_tree xs) in (r.0, r.1, reduces tt (some_order any xs) (bracket (row_tree xs) (row_elements xs) (row_tight tight xs) r.2))

  -- ---- scatters

  some_choice : (v : Datum) (vs : List Datum) → Some_outcome (Some_of (or_old v vs))
  some_choice v [] = (Val v, 0, some_of (inl refl))
  some_choice v (w ∷ ws) = (Val w, 0, some_of (inl refl))

  some_chosen : (k : ℕ) (old : List Datum) (ws : List (ℕ × Datum)) → Some_outcome (all_of Some_of (places or_old k old ws))
  some_chosen k [] ws = some_exact 0 (Val [])
  some_chosen k (v ∷ old) ws = some_both _ _ _ (λ y ys. some_exact 0 (Val (y ∷ ys))) (some_choice v (written_at k ws)) (some_chosen (suc k) old ws)

  some_end : (k : List Datum → Out Counted) (ds : List Datum) → Some_outcome (finished k ds)
  some_end k ds = some_the (k ds) _ (λ r. some_exact r.0 (Val r.1))

  some_job : (j : Job) → Some_outcome (job_means tight (λ any ne ds. Unit {0}) (λ ws. Unit {0}) f j)
  some_job (Done r) = some_exact r.0 (Val r.1)
  some_job (Apply_each rows k) = some_then _ _ (λ ds e x. some_end k ds) (some_each f h rows)
  some_job (Reduce_each any ne lists k) = some_then _ _ (λ ds e x. some_end k ds) (some_all _ (some_reduces any ne) lists)
  some_job (Choose_each ws old k) = some_then _ _ (λ ds e x. some_end k ds) (let r = some_chosen 0 old ws in (r.0, r.1, shown tt r.2))

  some_given : (j : Job) → Some_outcome (job_given tight f j)
  some_given j = some_then _ _ (λ d e x. some_exact 0 (Val (d ∷ []))) (some_job j)

-- ---- blocks

module _ (tight : Bool) (budget : ℕ) where
  mutual
    unfolding act_means body_means

    act_some : (a : Action) (env : Names Component) → Some_outcome (act_means tight budget a env)
    act_some (Operate o) env = some_exact 0 (operated env o)
    act_some (Tuple us) env = some_exact 0 (and_then (values_of env us) (λ vs. Val (Tuple_datum (datums vs) ∷ [])))
    act_some (Read k us) env = some_exact 0 (and_then (values_of env us) (reads k))
    act_some (Make r m at us) env = some_the (values_of env us) _ (λ vs. some_the (and_then (row_shape env r) (λ h. made false h m at vs)) counted (λ r. some_exact r.0 (Val (r.1 ∷ []))))
    act_some (act.Job r p at us xs b) env =
        some_the (values_of env us) _ (λ vs. some_the (and_then (row_shape env r) (λ h. job false h p at vs)) _ (some_given tight (function_of (body_means tight budget b) xs env)
        (λ ds. some_then _ _ (λ ws f x. some_exact 0 (the_one ws)) (some_the (or_wrong (bound xs ds env)) _ (λ e. body_some b e)))))
    act_some (Size_of e) env = some_exact 0 (and_then (extent_worth env e) size_given)
    act_some (Coerce at t r) env = some_exact 0 (and_then (row_shape env r) (sizes_tested env at t))
    act_some (If c a b) env = some_the (truth_of_atom env c) _ (λ t. some_choose t _ _ (body_some a env) (body_some b env))
    act_some (For xs us i n b) env =
        some_the (values_of env us) _ (λ vs. some_the (and_then (value_of env n) turns_of_datum) _
        (λ c. some_turns _ (λ j ws. some_the (or_wrong (bound xs ws env)) _ (λ e. body_some b ((i, Scalar_datum (scalar.Int c.0 j)) ∷ e))) (counts c.1 0) vs))
    act_some (Over xs us x r b) env =
        some_the (values_of env us) _ (λ vs. some_the (and_then (value_of env r) rows_of) _
        (λ rs. some_turns _ (λ d ws. some_the (or_wrong (bound xs ws env)) _ (λ e. body_some b ((x, d) ∷ e))) rs.1 vs))
    act_some (While at xs us t b) env =
        some_the (values_of env us) _ (λ vs. some_while budget (report kind.Turns at) _ _
        (λ ws. some_the (or_wrong (bound xs ws env)) _ (λ e. some_then _ _ (λ rs f x. some_exact 0 (holds rs)) (body_some t e)))
        (λ ws. some_the (or_wrong (bound xs ws env)) _ (λ e. body_some b e)) vs)

    body_some : (b : Body) (env : Names Component) → Some_outcome (body_means tight budget b env)
    body_some (Give us) env = some_exact 0 (values_of env us)
    body_some (Let xs a b) env = some_then _ _ (λ e f x. body_some b e) (some_then _ _ (λ vs f x. some_exact 0 (or_wrong (bound xs vs env))) (act_some a env))

pub some_outcome : SomeOutcome
unfolding Program_means
some_outcome tight budget p vs = some_the (or_wrong (bound p.params.now vs [])) _ (λ e. body_some tight budget (body_of p.body) e)
