-- With the values of more definitions a term gives what it gave, unless it went wrong for want of one.
use Rattle.std.proofs.Common.{◌≡◌, ◌⊎◌, inl, inr, ℕ, zero, suc, ◌+◌, ◌++◌, List, [], ◌∷◌, Bool, true, false, cond, length, nat_lt, nat_eq, Option, Some, None, refl, sym, ◌∙◌, subst}
use Rattle.fut_scalar.specs.declared.place.BindId.{BindId}
use Rattle.fut_scalar.specs.declared.place.Place.{Place}
use Rattle.fut_scalar.specs.declared.report.FailKind.TheVariants as kind
use Rattle.fut_scalar.specs.declared.scalar.Scalar.TheVariants as scalar
use Rattle.fut_flat.specs.declared.prim.Primitive.{Primitive}
use Rattle.fut_flat.specs.declared.prim.Ref.{Ref}
use Rattle.fut_flat.specs.declared.prim.Ref.TheVariants as ref
use Rattle.fut_flat.specs.Numbers.{pattern_numbers, own_numbers, numbers, turn_numbers}
use Rattle.fut_flat.specs.Erased.{FlatTerm, FlatTurns, FlatPattern}
use Rattle.fut_flat.specs.Terms.{no_pattern, pattern_and, Use, Strict, Lambda, Apply, Let, If, Loop, Counted, Over, While, Operation, Terms}
use Rattle.fut_meaning.specs.Datums.{as_value, takes, function_argument}
use Rattle.fut_meaning.specs.Flats.{FlatValue, FlatEnv, FlatTops, flat_look, flat_names, size_or}
use Rattle.fut_meaning.specs.Found.{Told, Sizing}
use Rattle.fut_meaning.specs.Jobs.{Job}
use Rattle.fut_meaning.specs.Meaning.{Lang, plain, row_told, fits_type, counts, placed, under, called, called_on, no_function, job_of, given, first_node, call, looped, step, Means, Ever, ever}
use Rattle.fut_meaning.specs.Operations.{report, parameters_of, arity, is_of_scalars}
use Rattle.fut_meaning.specs.Outcomes.{Out, Val, Wrong, the}
use Rattle.fut_meaning.specs.Programs.{top}
use Rattle.fut_meaning.specs.Taken.{size_value}
use Rattle.fut_meaning.specs.Values.{Scalar_value, Tuple_value, Record_value, Array_value, Closure, Primitive_value, base, bind, entered, Task, Evaluate, Call, Meanings, listed}
use Rattle.fut_value.specs.Data.{Datum}
use Rattle.fut_meaning.proofs.Fitting.{Fitted, Fitted_out, fits, misfits, fitted_same, fitted_the, fitted_then, fitted_choose, fitted_each_of, fitted_turns, fitted_while}
use Rattle.fut_meaning.proofs.FittingJobs.{job_same, fitted_job}

abbrev Meaning_of : Type 1
Meaning_of = Meanings Ref BindId (Unit {0})

-- the definitions of one list have these values in another
abbrev pub Has_more : FlatTops → FlatTops → Type 0
Has_more few many = (b : ℕ) (v : FlatValue) → top few b ≡ Val v → top many b ≡ Val v

-- a definition has a value, or there is none
pub top_or_wrong : (tops : FlatTops) (b : ℕ) → ((v : FlatValue) × (top tops b ≡ Val v)) ⊎ (top tops b ≡ Wrong)
top_or_wrong [] b = inr refl
top_or_wrong (d ∷ tops) b = tested (nat_eq d.0 b) (top_or_wrong tops b)
  where
    tested : (c : Bool) → ((v : FlatValue) × (top tops b ≡ Val v)) ⊎ (top tops b ≡ Wrong) → ((v : FlatValue) × (cond c (Val d.1) (top tops b) ≡ Val v)) ⊎ (cond c (Val d.1) (top tops b) ≡ Wrong)
    tested true r = inl (d.1, refl)
    tested false r = r

module _ (told : Told) (tight : Bool) (budget : ℕ) (few many : FlatTops) (more : Has_more few many) where
  abbrev Few : Lang Ref BindId (Unit {0})
  Few = (flat_names told).lang few

  abbrev Many : Lang Ref BindId (Unit {0})
  Many = (flat_names told).lang many

  same_out : (o o' : Out FlatValue) → o' ≡ o → Fitted_out o' o
  same_out o o' e = subst (λ x. Fitted_out x o) (sym e) fits

  top_fits : (b : ℕ) → Fitted_out (top many b) (top few b)
  top_fits b = by_case (top_or_wrong few b)
    where
      by_case : ((v : FlatValue) × (top few b ≡ Val v)) ⊎ (top few b ≡ Wrong) → Fitted_out (top many b) (top few b)
      by_case (inl r) = same_out (top few b) (top many b) (more b r.0 r.1 ∙ sym r.1)
      by_case (inr e) = subst (λ x. Fitted_out (top many b) x) (sym e) misfits

  look_fits : (env : FlatEnv) (b : ℕ) → Fitted_out (flat_look many env b) (flat_look few env b)
  unfolding flat_look
  look_fits (base u) b = top_fits b
  look_fits (entered q v env) b = look_fits env b
  look_fits (bind c v env) b = tested (nat_eq c.0 b) (look_fits env b)
    where
      tested : (t : Bool) → Fitted_out (flat_look many env b) (flat_look few env b) → Fitted_out (cond t (Val v) (flat_look many env b)) (cond t (Val v) (flat_look few env b))
      tested true h = fits
      tested false h = h

  use_fits : (z : Option Sizing) (env : FlatEnv) (b : ℕ) → Fitted_out (size_or z env b (flat_look many env b)) (size_or z env b (flat_look few env b))
  use_fits None env b = look_fits env b
  use_fits (Some Z) env b = tested (Z.is_size b) (look_fits env b)
    where
      tested : (t : Bool) → Fitted_out (flat_look many env b) (flat_look few env b) → Fitted_out (cond t (Val (size_value Z env b)) (flat_look many env b)) (cond t (Val (size_value Z env b)) (flat_look few env b))
      tested true h = fits
      tested false h = h

  named_fits : (env : FlatEnv) (p : Ref) (at : Place) (n : ℕ) → Fitted (the (Many.named n env p at)) (the (Few.named n env p at))
  unfolding flat_names
  named_fits env (ref.Bound b) at n = fitted_the (use_fits told.sizes env b.0)
  named_fits env (ref.Prim p) at n = fitted_same _
  named_fits env (ref.Scalar s) at n = fitted_same _

  module _ (R T : Meaning_of) (hr : (t : Task Ref BindId (Unit {0})) → Fitted (R t) (T t)) where
    under_fits : (q : ℕ) (p : FlatPattern) (v : FlatValue) (env : FlatEnv) (task : FlatEnv → Task Ref BindId (Unit {0})) → Fitted (under R q p v env task) (under T q p v env task)
    under_fits q p v env task = fitted_then _ _ _ _ (fitted_same _) (λ e. hr (task e))

    called_fits : (f : FlatValue) (ds : List Datum) → Fitted (called R f ds) (called T f ds)
    called_fits f [] = fitted_same _
    called_fits f (d ∷ ds) = fitted_then _ _ _ _ (hr (Call f (as_value d))) (λ g. called_fits g ds)

    job_fits : (k : ℕ) (f : FlatValue) (j : Job) → Fitted (job_of Many (plain tight) budget R k f j) (job_of Few (plain tight) budget T k f j)
    unfolding plain
    job_fits k f j = fitted_then _ _ _ _ (fitted_job tight _ _ (called_on k R f) (called_on k T f) (λ ds. fitted_choose (nat_eq (length ds) k) _ _ _ _ (called_fits f ds) (fitted_same _)) j j (job_same j)) (λ d. fitted_same _)

    given_fits : (p : Primitive) (at : Place) (vs : List FlatValue) (waits : Bool) → Fitted (given Many (plain tight) budget R p at vs waits) (given Few (plain tight) budget T p at vs waits)
    unfolding plain row_told flat_names
    given_fits p at vs true = fitted_same _
    given_fits p at vs false =
        fitted_choose (is_of_scalars p) _ _ _ _ (fitted_same _) (fitted_then _ _ _ _ (fitted_same _) (λ ds. fitted_then _ _ _ _ (fitted_same _) (λ j. job_fits (takes (parameters_of p)) (function_argument (parameters_of p) vs no_function) j)))

    call_fits : (f v : FlatValue) → Fitted (call Many (plain tight) budget R f v) (call Few (plain tight) budget T f v)
    call_fits (Scalar_value s) v = fitted_same _
    call_fits (Tuple_value vs) v = fitted_same _
    call_fits (Record_value fs) v = fitted_same _
    call_fits (Array_value row ds) v = fitted_same _
    call_fits (Closure no_pattern body lo env) v = fitted_same _
    call_fits (Closure (pattern_and p no_pattern) body lo env) v = under_fits (first_node (pattern_and p no_pattern) lo) p v env (λ e. Evaluate e lo body)
    call_fits (Closure (pattern_and p (pattern_and q ps)) body lo env) v = fitted_same _
    call_fits (Primitive_value p at vs) v = given_fits p at (listed vs ++ v ∷ []) (nat_lt (length (listed vs ++ v ∷ [])) (arity p))

    looped_fits : (env : FlatEnv) (q : ℕ) (p : FlatPattern) (mark : Place) (ts : FlatTurns) (body : FlatTerm) (lo mid : ℕ) (v : FlatValue) → Fitted (looped budget R env q p mark ts body lo mid v) (looped budget T env q p mark ts body lo mid v)
    looped_fits env q p mark (Counted i n) body lo mid v =
        fitted_then _ _ _ _ (hr _) (λ k. fitted_then _ _ _ _ (fitted_same _) (λ c. fitted_turns _ _ (λ j w. under_fits q p w env (λ e. Evaluate (bind i (Scalar_value (scalar.Int c.0 j)) (entered lo (Scalar_value (scalar.Int c.0 j)) e)) mid body)) (counts c.1 0) v))
    looped_fits env q p mark (Over r a) body lo mid v =
        fitted_then _ _ _ _ (hr _) (λ w. fitted_then _ _ _ _ (fitted_same _) (λ ds. fitted_turns _ _ (λ d w. fitted_then _ _ _ _ (fitted_same _) (λ e. under_fits lo r (as_value d) e (λ e. Evaluate e mid body))) ds.1 v))
    looped_fits env q p mark (While c) body lo mid v =
        fitted_while budget (report kind.Turns mark) _ _ _ _ (λ w. fitted_then _ _ _ _ (under_fits q p w env (λ e. Evaluate e lo c)) (λ b. fitted_same _)) (λ w. under_fits q p w env (λ e. Evaluate e mid body)) v

    strict_fits : (env : FlatEnv) (lo : ℕ) (o : Operation Ref BindId) (mark : Place) (ts : Terms Ref BindId) → Fitted (step Many (plain tight) budget R (Evaluate env lo (Strict o mark ts))) (step Few (plain tight) budget T (Evaluate env lo (Strict o mark ts)))
    unfolding plain row_told fits_type flat_names
    strict_fits env lo o mark ts = fitted_then _ _ _ _ (fitted_each_of _ _ (λ t. hr _) (placed (lo + own_numbers o) ts)) (λ vs. fitted_same _)

    step_fits : (t : Task Ref BindId (Unit {0})) → Fitted (step Many (plain tight) budget R t) (step Few (plain tight) budget T t)
    step_fits (Call f v) = call_fits f v
    step_fits (Evaluate env lo (Use p at k)) = named_fits env p at _
    step_fits (Evaluate env lo (Strict o mark ts)) = strict_fits env lo o mark ts
    step_fits (Evaluate env lo (Lambda ps e)) = fitted_same _
    step_fits (Evaluate env lo (Apply f e)) = fitted_then _ _ _ _ (hr _) (λ h. fitted_then _ _ _ _ (hr _) (λ v. hr _))
    step_fits (Evaluate env lo (Let b v e)) = fitted_then _ _ _ _ (hr _) (λ w. under_fits (1 + lo) b.pattern w env (λ inner. Evaluate inner (1 + lo + pattern_numbers b.pattern + numbers v) e))
    step_fits (Evaluate env lo (If c a b)) = fitted_then _ _ _ _ (hr _) (λ v. fitted_then _ _ _ _ (fitted_same _) (λ holds. fitted_choose holds _ _ _ _ (hr _) (hr _)))
    step_fits (Evaluate env lo (Loop mark sizes p first ts body)) =
        fitted_then _ _ _ _ (hr _) (λ v. looped_fits env (1 + lo) p mark ts body (1 + lo + pattern_numbers p + numbers first) (1 + lo + pattern_numbers p + numbers first + turn_numbers ts) v)

  means_fit : (n : ℕ) (t : Task Ref BindId (Unit {0})) → Fitted (Means Many (plain tight) budget n t) (Means Few (plain tight) budget n t)
  unfolding Means
  means_fit zero t = fitted_same _
  means_fit (suc n) t = step_fits (Means Many (plain tight) budget n) (Means Few (plain tight) budget n) (means_fit n) t

  pub value_kept : (t : Task Ref BindId (Unit {0})) (v : FlatValue) (f : ℕ) → Ever Few (plain tight) budget t (Val v) f → Ever Many (plain tight) budget t (Val v) f
  value_kept t v f x = of_ever (Val v) f x (λ e. e) (λ e. absurd (no_value e))
    where
      no_value : ◌≡◌ {A = Out FlatValue} (Val v) Wrong → ⊥
      no_value e = let z = e in cc

      of_ever : (o : Out FlatValue) (f : ℕ) → Ever Few (plain tight) budget t o f → (Ever Many (plain tight) budget t o f → Ever Many (plain tight) budget t (Val v) f) → (o ≡ Wrong → Ever Many (plain tight) budget t (Val v) f) → Ever Many (plain tight) budget t (Val v) f
      of_ever _ _ (ever {o} {f} n x) go stop = by_way ((means_fit n t).kept o f x)
        where
          by_way : Means Many (plain tight) budget n t o f ⊎ (o ≡ Wrong) → Ever Many (plain tight) budget t (Val v) f
          by_way (inl y) = go (ever n y)
          by_way (inr e) = stop e
