-- Where what does not fit is Wrong, a program has the outcomes that it had, or goes wrong.
use Rattle.std.proofs.Common.{◌≡◌, ◌⊎◌, inl, inr, Option, Some, None, nat_eq, ℕ, zero, suc, ◌+◌, ◌++◌, List, [], ◌∷◌, Bool, true, false, length, nat_lt}
use Rattle.fut_scalar.specs.declared.place.Place.{Place}
use Rattle.fut_scalar.specs.declared.report.FailKind.TheVariants as kind
use Rattle.fut_scalar.specs.declared.scalar.Scalar.TheVariants as scalar
use Rattle.fut_flat.specs.declared.prim.Primitive.{Primitive}
use Rattle.fut_flat.specs.Numbers.{pattern_numbers, own_numbers, numbers, turn_numbers}
use Rattle.fut_flat.specs.Terms.{Pattern, no_pattern, pattern_and, Term, Use, Strict, Lambda, Apply, Let, If, Loop, Turns, Counted, Over, While, Operation, Terms}
use Rattle.fut_value.specs.Data.{Shape}
use Rattle.fut_meaning.specs.Outcomes.{Out, Wrong, Then, the}
use Rattle.fut_meaning.specs.Arrays.{Making}
use Rattle.fut_meaning.specs.Jobs.{Job}
use Rattle.fut_meaning.specs.Datums.{Datum, as_value, takes, function_argument}
use Rattle.fut_meaning.specs.Values.{Value, Scalar_value, Tuple_value, Record_value, Array_value, Closure, Primitive_value, Env, bind, entered, Task, Evaluate, Call, Meanings, listed}
use Rattle.fut_meaning.specs.Operations.{report, operated_by, making, parameters_of, arity, is_of_scalars}
use Rattle.fut_meaning.specs.Meaning.{Lang, plain, unrestricted, row_told, Of_literal, counts, placed, under, called, called_on, no_function, job_of, given, first_node, call, looped, step, Means, Ever, ever}
use Rattle.fut_meaning.specs.Programs.{Top, Tops, Names, is_reached, Seen, seeing, below_names, name_node, evaluated, applied_to, Program_means}
use Rattle.fut_meaning.specs.Flats.{flat_names, flat_tops}
use Rattle.fut_meaning.specs.Claims.{FittedAddsNothing, FittedLosesNothing}
use Rattle.fut_meaning.proofs.Fitting.{Fitted, Goes_wrong, misfits, fitted_same, fitted_then, fitted_first, fitted_value, fitted_report, fitted_choose, fitted_each_of, fitted_turns, fitted_while}
use Rattle.fut_meaning.proofs.FittingJobs.{Job_like, job_same, Jobs_like, jobs_go, jobs_stop, jobs_misfit, job_fits, made_fits, fitted_job}

module _ {P B S : Type 0} (L : Lang P B S) (tight : Bool) (budget : ℕ) (R T : Meanings P B S) (hr : (t : Task P B S) → Fitted (R t) (T t)) where
  fitted_under : (q : ℕ) (p : Pattern P B) (v : Value P B S) (env : Env P B S) (task : Env P B S → Task P B S) → Fitted (under R q p v env task) (under T q p v env task)
  fitted_under q p v env task = fitted_then _ _ _ _ (fitted_same _) (λ e. hr (task e))

  fitted_called : (f : Value P B S) (ds : List Datum) → Fitted (called R f ds) (called T f ds)
  fitted_called f [] = fitted_same _
  fitted_called f (d ∷ ds) = fitted_then _ _ _ _ (hr (Call f (as_value d))) (λ g. fitted_called g ds)

  fitted_called_on : (k : ℕ) (f : Value P B S) (ds : List Datum) → Fitted (called_on k R f ds) (called_on k T f ds)
  fitted_called_on k f ds = fitted_choose (nat_eq (length ds) k) _ _ _ _ (fitted_called f ds) (fitted_same _)

  fitted_job_of : (k : ℕ) (f : Value P B S) (j j' : Job) → Job_like j j' → Fitted (job_of L (plain tight) budget R k f j) (job_of L (unrestricted tight true) budget T k f j')
  unfolding plain unrestricted
  fitted_job_of k f j j' h = fitted_then _ _ _ _ (fitted_job tight _ _ (called_on k R f) (called_on k T f) (fitted_called_on k f) j j' h) (λ d. fitted_same _)

  fitted_jobs_of : (k : ℕ) (f : Value P B S) (o o' : Out Job) → Jobs_like o o' → Fitted (Then (the o) (job_of L (plain tight) budget R k f)) (Then (the o') (job_of L (unrestricted tight true) budget T k f))
  fitted_jobs_of k f _ _ (jobs_go {j} {j'} h) = fitted_value (fitted_job_of k f j j' h)
  fitted_jobs_of k f _ _ (jobs_stop {r}) = fitted_report r
  fitted_jobs_of k f _ _ (jobs_misfit {o}) = fitted_first (misfits {o = o}) _ _ (λ j. fitted_job_of k f j j (job_same j))

  fitted_given : (p : Primitive) (at : Place) (vs : List (Value P B S)) (waits : Bool) → Fitted (given L (plain tight) budget R p at vs waits) (given L (unrestricted tight true) budget T p at vs waits)
  unfolding plain unrestricted
  fitted_given p at vs true = fitted_same _
  fitted_given p at vs false =
      fitted_choose (is_of_scalars p) _ _ _ _ (fitted_same _) (fitted_then _ _ _ _ (fitted_same _) (λ ds. fitted_jobs_of (takes (parameters_of p)) (function_argument (parameters_of p) vs no_function) _ _ (job_fits _ p at ds)))

  fitted_call : (f v : Value P B S) → Fitted (call L (plain tight) budget R f v) (call L (unrestricted tight true) budget T f v)
  fitted_call (Scalar_value s) v = fitted_same _
  fitted_call (Tuple_value vs) v = fitted_same _
  fitted_call (Record_value fs) v = fitted_same _
  fitted_call (Array_value row ds) v = fitted_same _
  fitted_call (Closure no_pattern body lo env) v = fitted_same _
  fitted_call (Closure (pattern_and p no_pattern) body lo env) v = fitted_under (first_node (pattern_and p no_pattern) lo) p v env (λ e. Evaluate e lo body)
  fitted_call (Closure (pattern_and p (pattern_and q ps)) body lo env) v = fitted_same _
  fitted_call (Primitive_value p at vs) v = fitted_given p at (listed vs ++ v ∷ []) (nat_lt (length (listed vs ++ v ∷ [])) (arity p))

  fitted_looped : (env : Env P B S) (q : ℕ) (p : Pattern P B) (mark : Place) (ts : Turns P B) (body : Term P B) (lo mid : ℕ) (v : Value P B S) → Fitted (looped budget R env q p mark ts body lo mid v) (looped budget T env q p mark ts body lo mid v)
  fitted_looped env q p mark (Counted i n) body lo mid v =
      fitted_then _ _ _ _ (hr _) (λ k. fitted_then _ _ _ _ (fitted_same _) (λ c. fitted_turns _ _ (λ j w. fitted_under q p w env (λ e. Evaluate (bind i (Scalar_value (scalar.Int c.0 j)) (entered lo (Scalar_value (scalar.Int c.0 j)) e)) mid body)) (counts c.1 0) v))
  fitted_looped env q p mark (Over r a) body lo mid v =
      fitted_then _ _ _ _ (hr _) (λ w. fitted_then _ _ _ _ (fitted_same _) (λ ds. fitted_turns _ _ (λ d w. fitted_then _ _ _ _ (fitted_same _) (λ e. fitted_under lo r (as_value d) e (λ e. Evaluate e mid body))) ds.1 v))
  fitted_looped env q p mark (While c) body lo mid v =
      fitted_while budget (report kind.Turns mark) _ _ _ _ (λ w. fitted_then _ _ _ _ (fitted_under q p w env (λ e. Evaluate e lo c)) (λ b. fitted_same _)) (λ w. fitted_under q p w env (λ e. Evaluate e mid body)) v

  fitted_worked : (told : Shape) (m : Option Making) (o : Out (Value P B S)) (at : Place) (vs : List (Value P B S)) → Fitted (operated_by false told m o at vs) (operated_by true told m o at vs)
  fitted_worked told None o at vs = fitted_same _
  fitted_worked told (Some m) o at vs = fitted_then _ _ _ _ (fitted_same _) (λ ds. fitted_first (made_fits told m at ds) _ _ (λ r. fitted_same _))

  fitted_strict : (env : Env P B S) (lo : ℕ) (o : Operation P B) (mark : Place) (ts : Terms P B) → Fitted (step L (plain tight) budget R (Evaluate env lo (Strict o mark ts))) (step L (unrestricted tight true) budget T (Evaluate env lo (Strict o mark ts)))
  unfolding plain unrestricted
  fitted_strict env lo o mark ts = fitted_then _ _ _ _ (fitted_each_of _ _ (λ t. hr _) (placed (lo + own_numbers o) ts)) (λ vs. fitted_worked (row_told L (Of_literal env lo)) (making o) _ mark vs)

  fitted_step : (t : Task P B S) → Fitted (step L (plain tight) budget R t) (step L (unrestricted tight true) budget T t)
  fitted_step (Call f v) = fitted_call f v
  fitted_step (Evaluate env lo (Use p at k)) = fitted_same _
  fitted_step (Evaluate env lo (Strict o mark ts)) = fitted_strict env lo o mark ts
  fitted_step (Evaluate env lo (Lambda ps e)) = fitted_same _
  fitted_step (Evaluate env lo (Apply f e)) = fitted_then _ _ _ _ (hr _) (λ h. fitted_then _ _ _ _ (hr _) (λ v. hr _))
  fitted_step (Evaluate env lo (Let b v e)) = fitted_then _ _ _ _ (hr _) (λ w. fitted_under (1 + lo) b.pattern w env (λ inner. Evaluate inner (1 + lo + pattern_numbers b.pattern + numbers v) e))
  fitted_step (Evaluate env lo (If c a b)) = fitted_then _ _ _ _ (hr _) (λ v. fitted_then _ _ _ _ (fitted_same _) (λ holds. fitted_choose holds _ _ _ _ (hr _) (hr _)))
  fitted_step (Evaluate env lo (Loop mark sizes p first ts body)) =
      fitted_then _ _ _ _ (hr _) (λ v. fitted_looped env (1 + lo) p mark ts body (1 + lo + pattern_numbers p + numbers first) (1 + lo + pattern_numbers p + numbers first + turn_numbers ts) v)

module _ {P B S : Type 0} (L : Lang P B S) (tight : Bool) (budget : ℕ) where
  fitted_means : (n : ℕ) (t : Task P B S) → Fitted (Means L (plain tight) budget n t) (Means L (unrestricted tight true) budget n t)
  unfolding Means
  fitted_means zero t = fitted_same _
  fitted_means (suc n) t = fitted_step L tight budget (Means L (plain tight) budget n) (Means L (unrestricted tight true) budget n) (fitted_means n) t

  ever_kept : (t : Task P B S) (o : Out (Value P B S)) (f : ℕ) → Ever L (unrestricted tight true) budget t o f → Ever L (plain tight) budget t o f ⊎ (o ≡ Wrong)
  ever_kept t _ _ (ever {o} {f} n x) = on ((fitted_means n t).kept o f x)
    where
      on : Means L (plain tight) budget n t o f ⊎ (o ≡ Wrong) → Ever L (plain tight) budget t o f ⊎ (o ≡ Wrong)
      on (inl x) = inl (ever n x)
      on (inr w) = inr w

  ever_lost : (t : Task P B S) (o : Out (Value P B S)) (f : ℕ) → Ever L (plain tight) budget t o f → Ever L (unrestricted tight true) budget t o f ⊎ Goes_wrong (Ever L (unrestricted tight true) budget t)
  ever_lost t _ _ (ever {o} {f} n x) = on ((fitted_means n t).lost o f x)
    where
      on : Means L (unrestricted tight true) budget n t o f ⊎ Goes_wrong (Means L (unrestricted tight true) budget n t) → Ever L (unrestricted tight true) budget t o f ⊎ Goes_wrong (Ever L (unrestricted tight true) budget t)
      on (inl x) = inl (ever n x)
      on (inr w) = inr (w.0, ever n w.1)

  pub fitted_ever : (t : Task P B S) → Fitted (Ever L (plain tight) budget t) (Ever L (unrestricted tight true) budget t)
  fitted_ever t = record { kept = ever_kept t; lost = ever_lost t }

module _ {P B S : Type 0} (N : Names P B S) (tight : Bool) (budget entry : ℕ) where
  fitted_evaluated : (ds : List (Top P B S)) (seen : Seen P B S) (tops : Tops P B S) → Fitted (evaluated N (plain tight) budget entry ds seen tops) (evaluated N (unrestricted tight true) budget entry ds seen tops)
  fitted_evaluated [] seen tops = fitted_same _
  fitted_evaluated (d ∷ ds) seen tops =
      fitted_choose (is_reached N.is_use_of N.told.sizes entry ds d.number) _ _ _ _ (fitted_then _ _ _ _ (fitted_ever (N.lang tops) tight budget (Evaluate (below_names seen d.sees) d.first d.value)) (λ v. fitted_evaluated ds (seeing (name_node d) v seen) ((d.number, v) ∷ tops))) (fitted_evaluated ds seen tops)

  fitted_applied : (R T : Meanings P B S) → ((t : Task P B S) → Fitted (R t) (T t)) → (vs : List (Value P B S)) (f : Value P B S) → Fitted (applied_to N R vs f) (applied_to N T vs f)
  fitted_applied R T hr [] f = fitted_same _
  fitted_applied R T hr (v ∷ vs) f = fitted_then _ _ _ _ (hr (Call f v)) (λ h. fitted_applied R T hr vs h)

  pub fitted_program : (ds : List (Top P B S)) (arguments : List (Value P B S)) → Fitted (Program_means N (plain tight) budget ds entry arguments) (Program_means N (unrestricted tight true) budget ds entry arguments)
  fitted_program ds arguments =
      fitted_then _ _ _ _ (fitted_evaluated ds [] []) (λ tops. fitted_then _ _ _ _ (fitted_same _) (λ f. fitted_applied (Ever (N.lang tops) (plain tight) budget) (Ever (N.lang tops) (unrestricted tight true) budget) (fitted_ever (N.lang tops) tight budget) arguments f))

pub fitted_adds_nothing : FittedAddsNothing
fitted_adds_nothing told tight budget ds entry arguments o f x = (fitted_program (flat_names told) tight budget entry.0 (flat_tops 0 ds) arguments).kept o f x

pub fitted_loses_nothing : FittedLosesNothing
fitted_loses_nothing told tight budget ds entry arguments o f x = (fitted_program (flat_names told) tight budget entry.0 (flat_tops 0 ds) arguments).lost o f x
