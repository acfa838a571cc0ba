-- Where what does not fit goes wrong, sizes are reported by `:>` and `unflatten` alone: each way to put parts together keeps this, and so
-- does each form.
use Rattle.sized_meaning.specs.There.{There}
use Rattle.sized_meaning.specs.Fits.{Gives}
use Rattle.sized_meaning.proofs.Outcomes.{gives_exact, gives_then, gives_both}
use Rattle.std.specs.Prelude.{Option, Some, None, Result, Ok, Err, decimal}
use Rattle.std.specs.Str.{bytes_eq}
use Rattle.std.proofs.Common.{◌≡◌, ◌⊎◌, inl, inr, ℕ, zero, suc, ◌+◌, ◌-◌, ◌++◌, List, [], ◌∷◌, Bool, true, false, cond, length, nat_lt, nat_eq}
use Rattle.fut_ast.specs.Sorts.{Text}
use Rattle.fut_scalar.specs.declared.operator.BinOp.{BinOp}
use Rattle.fut_scalar.specs.declared.operator.BinOp.TheVariants as binary
use Rattle.fut_scalar.specs.declared.operator.UnOp.{UnOp}
use Rattle.fut_scalar.specs.declared.place.BindId.{BindId}
use Rattle.fut_scalar.specs.declared.place.Place.{Place}
use Rattle.fut_scalar.specs.declared.report.FailKind.{FailKind}
use Rattle.fut_scalar.specs.declared.report.FailKind.TheVariants as kind
use Rattle.fut_scalar.specs.declared.report.Report.{Report}
use Rattle.fut_scalar.specs.declared.scalar.IntType.{IntType}
use Rattle.fut_scalar.specs.declared.scalar.Scalar.{Scalar}
use Rattle.fut_scalar.specs.declared.scalar.Scalar.TheVariants as scalar
use Rattle.fut_flat.specs.declared.prim.Primitive.{Primitive}
use Rattle.fut_flat.specs.declared.prim.Primitive.TheVariants as prim
use Rattle.fut_flat.specs.declared.prim.Ref.{Ref}
use Rattle.fut_flat.specs.declared.prim.Ref.TheVariants as ref
use Rattle.fut_flat.specs.Erased.{FlatTerm, FlatTurns, FlatPattern}
use Rattle.fut_flat.specs.Numbers.{pattern_numbers, all_pattern_numbers, own_numbers, numbers, turn_numbers}
use Rattle.fut_flat.specs.Terms.{Bound_pattern, Wild_pattern, Tuple_pattern, Record_pattern, Typed_pattern, Patterns, no_pattern, pattern_and, Operation, Integer, Truth, Tuple_of, Record_of, Binary, Negate, Complement, Project, Replace, Ascribe, Coerce, Declared, Assert, Use, Strict, Lambda, Apply, Let, If, Loop, Terms, no_term, term_and, Counted, Over, While}
use Rattle.fut_value.specs.Data.{Shape, Datum, Scalar_datum, Tuple_datum, Record_datum, Array_datum, Datums, no_datum, datum_and, Named_datums, no_named, named_and}
use Rattle.fut_meaning.specs.Accessors.{or_wrong, scalar_of, truth_of_scalar, truth_of, turns_of_scalar, turns_of, part_from, part, tuple_parts, fields_of, record_parts, bound, all_bound}
use Rattle.fut_meaning.specs.Arrays.{Making, made, rows_of, Counted as CountedDatum}
use Rattle.fut_meaning.specs.Datums.{as_value, as_values, as_fields, datum_of, datums_of, named_datums_of, all_data, data_arguments, takes, function_argument}
use Rattle.fut_meaning.specs.Flats.{FlatValue, FlatEnv, FlatTops, Named_term, flat_look, size_or, flat_names, flat_tops, Flat_means}
use Rattle.fut_meaning.specs.Found.{Told, Sizing}
use Rattle.fut_meaning.specs.Jobs.{Job, Done, Apply_each, Reduce_each, Choose_each, Applied, two_of, Reduces, reduces, all_of, Some_of, some_of, Shown, shown, finished, job_means, job}
use Rattle.fut_meaning.specs.Meaning.{Lang, unrestricted, row_told, fits_type, Of_literal, Of_function, counts, placed, under, called, called_on, no_function, job_of, runs, given, first_node, call, looped, step, Means, Ever, ever}
use Rattle.fut_meaning.specs.Operations.{report, named_values, with_name, reported, truth_result, equal_scalars, both_hold, making, is_of_scalars, equal, all_equal, fields_equal, on_scalars, on_scalar, binary_value, operate, operated_by, coerced, operated, primitive_use, primitive, parameters_of, arity}
use Rattle.fut_meaning.specs.Operators.{binary_result, unary_result}
use Rattle.fut_meaning.specs.Outcomes.{Out, Val, Fail, Wrong, and_then, Rel, the, Then, choose, each_of, turns, while_turns, Tree, element, neutral, node, tree_gives, bracket}
use Rattle.fut_meaning.specs.Programs.{Seen, seeing, below_names, top, evaluated, applied_to}
use Rattle.fut_meaning.specs.Telling.{is_function}
use Rattle.fut_meaning.specs.Taken.{size_value}
use Rattle.fut_meaning.specs.Values.{Scalar_value, Tuple_value, Record_value, Array_value, Closure, Primitive_value, no_value, value_and, no_field, field_and, base, bind, entered, Evaluate, Call, Meanings, listed, is_before, values, with_field, fields, field, replaced}
use Rattle.fut_meaning.proofs.FittingForms.{fitted_loses_nothing}
use Rattle.fut_meaning.proofs.Safe.{Every}
use Rattle.sized_meaning.specs.Fits.{FlatValues, FlatFields}
use Rattle.sized_meaning.specs.There.{There, Primitive_there, Use_there, Operation_there, Term_there, Terms_there, Turns_there}
use Rattle.sized_meaning.specs.Law.{FlatTask}
use Rattle.sized_meaning.specs.Reports.{Value_there, Values_there, Fields_there, Env_there, Definitions_there, Arguments_there, SizesAreReportedThere, OtherSizesMisfit}
use Rattle.sized_meaning.proofs.Reporting.{Out_there, Fine, out_then, fine_then, rows_fine, scalars_fine, made_fine, Job_there, job_there}

module _ (is_there : Place → Bool) where
  -- ---- ways to put parts together

  abbrev pub Blames : {A : Type 0} → (A → Type 0) → Rel A → Type 0
  Blames {A} P m = Gives (There is_there) P m

  abbrev pub Blameless : {A : Type 0} → Rel A → Type 0
  Blameless m = Blames (λ a. Unit {0}) m

  pub after : {A B : Type 0} (P : A → Type 0) (Q : B → Type 0) (o : Out A) (k : A → Rel B) → Out_there is_there P o → ((a : A) → P a → Blames Q (k a)) → Blames Q (Then (the o) k)
  after P Q o k h l = gives_then P Q (the o) k (gives_exact (There is_there) P 0 o h) l

  blames_choose : {A : Type 0} (P : A → Type 0) (b : Bool) (m n : Rel A) → Blames P m → Blames P n → Blames P (choose b m n)
  blames_choose P true m n h i = h
  blames_choose P false m n h i = i

  blames_each : {A B : Type 0} (P : A → Type 0) (Q : B → Type 0) (g : A → Rel B) → ((a : A) → P a → Blames Q (g a)) → (xs : List A) → Every P xs → Blames (Every Q) (each_of g xs)
  blames_each P Q g h [] e = gives_exact (There is_there) (Every Q) 0 (Val []) tt
  blames_each P Q g h (x ∷ xs) e =
      gives_then Q (Every Q) _ _ (h x e.0) (λ y q. gives_then (Every Q) (Every Q) _ _ (blames_each P Q g h xs e.1) (λ ys qs. gives_exact (There is_there) (Every Q) 0 (Val (y ∷ ys)) (q, qs)))

  blames_turns : {A B : Type 0} (P : A → Type 0) (Q : B → Type 0) (g : A → B → Rel B) → ((a : A) (b : B) → P a → Q b → Blames Q (g a b)) → (xs : List A) (b : B) → Every P xs → Q b → Blames Q (turns g xs b)
  blames_turns P Q g h [] b e q = gives_exact (There is_there) Q 0 (Val b) q
  blames_turns P Q g h (x ∷ xs) b e q = gives_then Q Q _ _ (h x b e.0 q) (λ c r. blames_turns P Q g h xs c e.1 r)

  blames_while : {B : Type 0} (Q : B → Type 0) (budget : ℕ) (r : Report) (test : B → Rel Bool) (body : B → Rel B) → There is_there r → ((b : B) → Q b → Blameless (test b)) → ((b : B) → Q b → Blames Q (body b)) → (b : B) → Q b → Blames Q (while_turns budget r test body b)
  blames_while Q zero r test body t ht hb b q = gives_then (λ a. Unit {0}) Q _ _ (ht b q) (λ holds u. blames_choose Q holds _ _ (gives_exact (There is_there) Q 0 (Fail r) t) (gives_exact (There is_there) Q 0 (Val b) q))
  blames_while Q (suc budget) r test body t ht hb b q =
      gives_then (λ a. Unit {0}) Q _ _ (ht b q) (λ holds u. blames_choose Q holds _ _ (gives_then Q Q _ _ (hb b q) (λ c w. blames_while Q budget r test body t ht hb c w)) (gives_exact (There is_there) Q 0 (Val b) q))

  every_any : {A : Type 0} (xs : List A) → Every (λ x. Unit {0}) xs
  every_any [] = tt
  every_any (x ∷ xs) = (tt, every_any xs)

  -- ---- what is made of data

  blames_all : {A B : Type 0} (g : A → Rel B) → ((a : A) → Blameless (g a)) → (xs : List A) → Blameless (all_of g xs)
  blames_all g h [] = gives_exact (There is_there) _ 0 (Val []) tt
  blames_all g h (x ∷ xs) = gives_both _ _ _ (g x) (all_of g xs) _ (h x) (blames_all g h xs) (λ y ys u w. gives_exact (There is_there) _ 0 (Val (y ∷ ys)) tt)

  blames_tree : {A : Type 0} (op : A → A → Rel A) (ne : A) → ((a b : A) → Blameless (op a b)) → (t : Tree A) → Blameless (tree_gives op ne t)
  blames_tree op ne h (element a) = gives_exact (There is_there) _ 0 (Val a) tt
  blames_tree op ne h neutral = gives_exact (There is_there) _ 0 (Val ne) tt
  blames_tree op ne h (node s t) = gives_both _ _ _ (tree_gives op ne s) (tree_gives op ne t) op (blames_tree op ne h s) (blames_tree op ne h t) (λ a b u w. h a b)

  module _ (tight : Bool) (Asked : Bool → Datum → List Datum → Type 0) (Writes : List (ℕ × Datum) → Type 0) (f : Applied) (go : (ds : List Datum) → Blameless (f ds)) where
    blames_reduced : (any : Bool) (ne : Datum) (xs : List Datum) → Blameless (Reduces tight any (Asked any) f ne xs)
    blames_reduced any ne xs _ _ (reduces {ys} {o} {n} fits order (bracket t q w x)) = blames_tree (two_of f) ne (λ a b. go (a ∷ b ∷ [])) t o n x

    blames_some : {A : Type 0} (xs : List A) → Blameless (Some_of xs)
    blames_some xs _ _ (some_of {x} q) = tt

    blames_shown : {A : Type 0} (X : Type 0) (m : Rel A) → Blameless m → Blameless (Shown X m)
    blames_shown X m h _ _ (shown {o} {f} x y) = h o f y

    blames_finished : (k : List Datum → Out CountedDatum) → ((ds : List Datum) → Fine is_there (k ds)) → (ds : List Datum) → Blameless (finished k ds)
    blames_finished k h ds = after _ _ (k ds) _ (h ds) (λ r u. gives_exact (There is_there) _ r.0 (Val r.1) tt)

    pub blames_job : (j : Job) → Job_there is_there j → Blameless (job_means tight Asked Writes f j)
    blames_job (Done r) h = gives_exact (There is_there) _ r.0 (Val r.1) tt
    blames_job (Apply_each rows k) h = gives_then _ _ (each_of f rows) (finished k) (blames_each (λ a. Unit {0}) (λ a. Unit {0}) f (λ a u. go a) rows (every_any rows)) (λ ys u. blames_finished k h ys)
    blames_job (Reduce_each any ne lists k) h = gives_then _ _ (all_of (Reduces tight any (Asked any) f ne) lists) (finished k) (blames_all (Reduces tight any (Asked any) f ne) (λ xs. blames_reduced any ne xs) lists) (λ ys u. blames_finished k h ys)
    blames_job (Choose_each ws old k) h = gives_then _ _ _ (finished k) (blames_shown (Writes ws) _ (blames_all Some_of (λ xs. blames_some xs) _)) (λ ys u. blames_finished k h ys)

  -- ---- values

  abbrev Values_out : Out FlatValue → Type 0
  Values_out o = Out_there is_there (Value_there is_there) o

  mutual
    unfolding Value_there Values_there Fields_there

    pub data_there : (d : Datum) → Value_there is_there (as_value d)
    data_there (Scalar_datum s) = tt
    data_there (Tuple_datum ds) = all_data_there ds
    data_there (Record_datum fs) = named_data_there fs
    data_there (Array_datum row ds) = tt

    all_data_there : (ds : Datums) → Values_there is_there (as_values ds)
    all_data_there no_datum = tt
    all_data_there (datum_and d ds) = (data_there d, all_data_there ds)

    named_data_there : (fs : Named_datums) → Fields_there is_there (as_fields fs)
    named_data_there no_named = tt
    named_data_there (named_and f d fs) = (data_there d, named_data_there fs)

  mutual
    unfolding datum_of datums_of named_datums_of

    pub datum_fine : (v : FlatValue) → Fine is_there (datum_of v)
    datum_fine (Scalar_value s) = tt
    datum_fine (Tuple_value vs) = fine_then is_there _ (datums_of vs) _ (datums_fine vs) (λ ds. tt)
    datum_fine (Record_value fs) = fine_then is_there _ (named_datums_of fs) _ (named_fine fs) (λ ds. tt)
    datum_fine (Array_value row ds) = tt
    datum_fine (Closure ps e lo env) = tt
    datum_fine (Primitive_value p at vs) = tt

    datums_fine : (vs : FlatValues) → Fine is_there (datums_of vs)
    datums_fine no_value = tt
    datums_fine (value_and v vs) = fine_then is_there _ (datum_of v) _ (datum_fine v) (λ d. fine_then is_there _ (datums_of vs) _ (datums_fine vs) (λ ds. tt))

    named_fine : (fs : FlatFields) → Fine is_there (named_datums_of fs)
    named_fine no_field = tt
    named_fine (field_and f v fs) = fine_then is_there _ (datum_of v) _ (datum_fine v) (λ d. fine_then is_there _ (named_datums_of fs) _ (named_fine fs) (λ ds. tt))

  pub all_fine : (vs : List FlatValue) → Fine is_there (all_data vs)
  all_fine [] = tt
  all_fine (v ∷ vs) = fine_then is_there _ (datum_of v) _ (datum_fine v) (λ d. fine_then is_there _ (all_data vs) _ (all_fine vs) (λ ds. tt))

  arguments_fine : (ks : List ℕ) (vs : List FlatValue) → Fine is_there (data_arguments ks vs)
  arguments_fine [] [] = tt
  arguments_fine [] (v ∷ vs) = tt
  arguments_fine (k ∷ ks) [] = tt
  arguments_fine (zero ∷ ks) (v ∷ vs) = fine_then is_there _ (datum_of v) _ (datum_fine v) (λ d. fine_then is_there _ (data_arguments ks vs) _ (arguments_fine ks vs) (λ ds. tt))
  arguments_fine (suc k ∷ ks) (v ∷ vs) = arguments_fine ks vs

  abbrev All_there : List FlatValue → Type 0
  All_there vs = Every (Value_there is_there) vs

  function_there : (ks : List ℕ) (vs : List FlatValue) (other : FlatValue) → All_there vs → Value_there is_there other → Value_there is_there (function_argument ks vs other)
  function_there [] vs other e h = h
  function_there (k ∷ ks) [] other e h = h
  function_there (zero ∷ ks) (v ∷ vs) other e h = function_there ks vs other e.1 h
  function_there (suc k ∷ ks) (v ∷ vs) other e h = e.0

  values_are : (vs : List FlatValue) → All_there vs → Values_there is_there (values vs)
  unfolding Values_there
  values_are [] e = tt
  values_are (v ∷ vs) e = (e.0, values_are vs e.1)

  listed_are : (vs : FlatValues) → Values_there is_there vs → All_there (listed vs)
  unfolding Values_there
  listed_are no_value h = tt
  listed_are (value_and v vs) h = (h.0, listed_are vs h.1)

  every_one_more : (vs : List FlatValue) (v : FlatValue) → All_there vs → Value_there is_there v → All_there (vs ++ v ∷ [])
  every_one_more [] v e h = (h, tt)
  every_one_more (w ∷ vs) v e h = (e.0, every_one_more vs v e.1 h)

  -- ---- what patterns bind

  abbrev Opt_there : {A : Type 0} → (A → Type 0) → Option A → Type 0
  Opt_there P (Some a) = P a
  Opt_there P None = Unit {0}

  or_wrong_there : {A : Type 0} (P : A → Type 0) (o : Option A) → Opt_there P o → Out_there is_there P (or_wrong o)
  or_wrong_there P (Some a) h = h
  or_wrong_there P None h = tt

  tuple_there : (v : FlatValue) → Value_there is_there v → Out_there is_there All_there (tuple_parts v)
  unfolding Value_there
  tuple_there (Tuple_value vs) h = listed_are vs h
  tuple_there v h = tt

  fields_out : (v : FlatValue) → Value_there is_there v → Out_there is_there (Fields_there is_there) (fields_of v)
  unfolding Value_there
  fields_out (Record_value fs) h = h
  fields_out v h = tt

  field_there : (f : Text) (fs : FlatFields) → Fields_there is_there fs → Opt_there (Value_there is_there) (field f fs)
  unfolding Fields_there
  field_there f no_field h = tt
  field_there f (field_and g v fs) h = by_test (bytes_eq g f) (field_there f fs h.1)
    where
      by_test : (b : Bool) → Opt_there (Value_there is_there) (field f fs) → Opt_there (Value_there is_there) (cond b (Some v) (field f fs))
      by_test true r = h.0
      by_test false r = r

  pub top_fine : (tops : FlatTops) (k : ℕ) → Fine is_there (top tops k)
  top_fine [] k = tt
  top_fine (d ∷ ds) k = tested (nat_eq d.0 k) (top_fine ds k)
    where
      tested : (b : Bool) → Fine is_there (top ds k) → Fine is_there (cond b (Val d.1) (top ds k))
      tested true h = tt
      tested false h = h

  pub look_fine : (tops : FlatTops) (env : FlatEnv) (k : ℕ) → Fine is_there (flat_look tops env k)
  unfolding flat_look
  look_fine tops (base u) k = top_fine tops k
  look_fine tops (entered q v env) k = look_fine tops env k
  look_fine tops (bind b v env) k = tested (nat_eq b.0 k) (look_fine tops env k)
    where
      tested : (c : Bool) → Fine is_there (flat_look tops env k) → Fine is_there (cond c (Val v) (flat_look tops env k))
      tested true h = tt
      tested false h = h

  pub record_parts_fine : (names : List Text) (fs : FlatFields) → Fine is_there (record_parts names fs)
  record_parts_fine [] fs = tt
  record_parts_fine (f ∷ names) fs = fine_then is_there _ (or_wrong (field f fs)) _ (or_wrong_there (λ x. Unit {0}) (field f fs) (any_field (field f fs))) (λ v. fine_then is_there _ (record_parts names fs) _ (record_parts_fine names fs) (λ vs. tt))
    where
      any_field : (o : Option FlatValue) → Opt_there (λ x. Unit {0}) o
      any_field None = tt
      any_field (Some v) = tt

  parts_there : (names : List Text) (fs : FlatFields) → Fields_there is_there fs → Out_there is_there All_there (record_parts names fs)
  parts_there [] fs h = tt
  parts_there (f ∷ names) fs h = out_then is_there (Value_there is_there) All_there (or_wrong (field f fs)) _ (or_wrong_there (Value_there is_there) (field f fs) (field_there f fs h)) (λ v x. out_then is_there All_there All_there (record_parts names fs) _ (parts_there names fs h) (λ vs xs. (x, xs)))

  mutual
    unfolding bound all_bound Env_there

    bound_there : (q : ℕ) (p : FlatPattern) (v : FlatValue) (env : FlatEnv) → Value_there is_there v → Env_there is_there env → Out_there is_there (Env_there is_there) (bound q p v env)
    bound_there q (Bound_pattern b) v env h e = (h, (h, e))
    bound_there q Wild_pattern v env h e = (h, e)
    bound_there q (Tuple_pattern ps) v env h e = out_then is_there All_there (Env_there is_there) (tuple_parts v) _ (tuple_there v h) (λ vs x. all_bound_there (1 + q) ps vs (entered q v env) x (h, e))
    bound_there q (Record_pattern names ps) v env h e = out_then is_there (Fields_there is_there) (Env_there is_there) (fields_of v) _ (fields_out v h) (λ fs x. out_then is_there All_there (Env_there is_there) (record_parts names fs) _ (parts_there names fs x) (λ vs xs. all_bound_there (1 + q) ps vs (entered q v env) xs (h, e)))
    bound_there q (Typed_pattern p t) v env h e = bound_there q p v env h e

    all_bound_there : (q : ℕ) (ps : Patterns Ref BindId) (vs : List FlatValue) (env : FlatEnv) → All_there vs → Env_there is_there env → Out_there is_there (Env_there is_there) (all_bound q ps vs env)
    all_bound_there q no_pattern [] env h e = e
    all_bound_there q no_pattern (v ∷ vs) env h e = tt
    all_bound_there q (pattern_and p ps) [] env h e = tt
    all_bound_there q (pattern_and p ps) (v ∷ vs) env h e = out_then is_there (Env_there is_there) (Env_there is_there) (bound q p v env) _ (bound_there q p v env h.0 e) (λ inner x. all_bound_there (q + pattern_numbers p) ps vs inner h.1 x)

  -- ---- operations

  scalar_of_fine : (v : FlatValue) → Fine is_there (scalar_of v)
  scalar_of_fine (Scalar_value s) = tt
  scalar_of_fine v = tt

  truth_scalar_fine : (s : Scalar) → Fine is_there (truth_of_scalar s)
  truth_scalar_fine (scalar.Bool b) = tt
  truth_scalar_fine (scalar.Int t n) = tt

  pub truth_of_fine : (v : FlatValue) → Fine is_there (truth_of v)
  truth_of_fine v = fine_then is_there _ (scalar_of v) _ (scalar_of_fine v) truth_scalar_fine

  turns_scalar_fine : (s : Scalar) → Fine is_there (turns_of_scalar s)
  turns_scalar_fine (scalar.Int t n) = tt
  turns_scalar_fine (scalar.Bool b) = tt

  turns_of_fine : (v : FlatValue) → Fine is_there (turns_of v)
  turns_of_fine v = fine_then is_there _ (scalar_of v) _ (scalar_of_fine v) turns_scalar_fine

  any_option : {A : Type 0} (o : Option A) → Opt_there (λ a. Unit {0}) o
  any_option None = tt
  any_option (Some a) = tt

  truth_result_fine : (r : Result Scalar FailKind) → Fine is_there (truth_result r)
  truth_result_fine (Ok s) = truth_scalar_fine s
  truth_result_fine (Err k) = tt

  scalars_equal : (a b : Scalar) → Fine is_there (equal_scalars a b)
  scalars_equal a b = fine_then is_there _ (or_wrong (binary_result binary.Eq a b)) _ (or_wrong_there (λ x. Unit {0}) (binary_result binary.Eq a b) (any_option (binary_result binary.Eq a b))) truth_result_fine

  both_fine : (o p : Out Bool) → Fine is_there o → Fine is_there p → Fine is_there (both_hold o p)
  both_fine o p h i = fine_then is_there _ o _ h (λ a. fine_then is_there _ p _ i (λ b. tt))

  if_fine : (b : Bool) (o : Out Bool) → Fine is_there o → Fine is_there (cond b o Wrong)
  if_fine true o h = h
  if_fine false o h = tt

  mutual
    unfolding equal all_equal fields_equal

    pub equal_fine : (v w : FlatValue) → Fine is_there (equal v w)
    equal_fine (Scalar_value a) (Scalar_value b) = scalars_equal a b
    equal_fine (Tuple_value vs) (Tuple_value ws) = all_equal_fine vs ws
    equal_fine (Record_value fs) (Record_value gs) = fields_equal_fine fs gs
    equal_fine v w = tt

    all_equal_fine : (vs ws : FlatValues) → Fine is_there (all_equal vs ws)
    all_equal_fine no_value no_value = tt
    all_equal_fine (value_and v vs) (value_and w ws) = both_fine (equal v w) (all_equal vs ws) (equal_fine v w) (all_equal_fine vs ws)
    all_equal_fine vs ws = tt

    fields_equal_fine : (fs gs : FlatFields) → Fine is_there (fields_equal fs gs)
    fields_equal_fine no_field no_field = tt
    fields_equal_fine (field_and f v fs) (field_and g w gs) = if_fine (bytes_eq f g) (both_hold (equal v w) (fields_equal fs gs)) (both_fine (equal v w) (fields_equal fs gs) (equal_fine v w) (fields_equal_fine fs gs))
    fields_equal_fine fs gs = tt

  on_scalars_there : (op : BinOp) (at : Place) (v w : FlatValue) → Values_out (on_scalars op at v w)
  unfolding Value_there
  on_scalars_there op at v w = fine_then is_there (Value_there is_there) (scalar_of v) _ (scalar_of_fine v) (λ a. fine_then is_there (Value_there is_there) (scalar_of w) _ (scalar_of_fine w) (λ b. fine_then is_there (Value_there is_there) (reported at (binary_result op a b)) _ (scalars_fine is_there at op a b) (λ s. tt)))

  on_scalar_there : (op : UnOp) (v : FlatValue) → Values_out (on_scalar op v)
  unfolding Value_there
  on_scalar_there op v = fine_then is_there (Value_there is_there) (scalar_of v) _ (scalar_of_fine v) (λ a. fine_then is_there (Value_there is_there) (or_wrong (unary_result op a)) _ (or_wrong_there (λ x. Unit {0}) (unary_result op a) (any_option (unary_result op a))) (λ s. tt))

  binary_there : (op : BinOp) (at : Place) (v w : FlatValue) → Values_out (binary_value op at v w)
  unfolding Value_there
  binary_there binary.Eq at v w = fine_then is_there (Value_there is_there) (equal v w) _ (equal_fine v w) (λ b. tt)
  binary_there binary.Ne at v w = fine_then is_there (Value_there is_there) (equal v w) _ (equal_fine v w) (λ b. tt)
  binary_there op at v w = on_scalars_there op at v w

  -- the fields of a record
  abbrev Named_there : List (Text × FlatValue) → Type 0
  Named_there fs = Every (λ f. Value_there is_there f.1) fs

  named_option : (names : List Text) (vs : List FlatValue) → All_there vs → Opt_there Named_there (named_values names vs)
  named_option [] [] h = tt
  named_option [] (v ∷ vs) h = tt
  named_option (f ∷ names) [] h = tt
  named_option (f ∷ names) (v ∷ vs) h = one_more (named_values names vs) (named_option names vs h.1)
    where
      one_more : (o : Option (List (Text × FlatValue))) → Opt_there Named_there o → Opt_there Named_there (with_name f v o)
      one_more None r = tt
      one_more (Some rest) r = (h.0, r)

  with_field_there : (f : Text) (v : FlatValue) (fs : FlatFields) → Value_there is_there v → Fields_there is_there fs → Fields_there is_there (with_field f v fs)
  unfolding Fields_there
  with_field_there f v no_field h e = (h, tt)
  with_field_there f v (field_and g w fs) h e = by_order (is_before f g) (with_field_there f v fs h e.1)
    where
      by_order : (b : Bool) → Fields_there is_there (with_field f v fs) → Fields_there is_there (cond b (field_and f v (field_and g w fs)) (field_and g w (with_field f v fs)))
      by_order true r = (h, e)
      by_order false r = (e.0, r)

  fields_are : (fs : List (Text × FlatValue)) → Named_there fs → Fields_there is_there (fields fs)
  unfolding Fields_there
  fields_are [] h = tt
  fields_are (f ∷ fs) h = with_field_there f.0 f.1 (fields fs) h.0 (fields_are fs h.1)

  replaced_there : (f : Text) (v : FlatValue) (fs : FlatFields) → Value_there is_there v → Fields_there is_there fs → Fields_there is_there (replaced f v fs)
  unfolding Fields_there
  replaced_there f v no_field h e = tt
  replaced_there f v (field_and g w fs) h e = by_name (bytes_eq g f) (replaced_there f v fs h e.1)
    where
      by_name : (b : Bool) → Fields_there is_there (replaced f v fs) → Fields_there is_there (cond b (field_and g v fs) (field_and g w (replaced f v fs)))
      by_name true r = (h, e.1)
      by_name false r = (e.0, r)

  part_from_there : (k : ℕ) (f : Text) (vs : FlatValues) → Values_there is_there vs → Opt_there (Value_there is_there) (part_from k f vs)
  unfolding Values_there
  part_from_there k f no_value h = tt
  part_from_there k f (value_and v vs) h = by_name (bytes_eq (decimal k) f) (part_from_there (suc k) f vs h.1)
    where
      by_name : (b : Bool) → Opt_there (Value_there is_there) (part_from (suc k) f vs) → Opt_there (Value_there is_there) (cond b (Some v) (part_from (suc k) f vs))
      by_name true r = h.0
      by_name false r = r

  part_there : (f : Text) (v : FlatValue) → Value_there is_there v → Values_out (part f v)
  unfolding Value_there
  part_there f (Tuple_value vs) h = or_wrong_there (Value_there is_there) (part_from 0 f vs) (part_from_there 0 f vs h)
  part_there f (Record_value fs) h = or_wrong_there (Value_there is_there) (field f fs) (field_there f fs h)
  part_there f v h = tt

  asserted : (at : Place) (c : FlatValue) (b : Bool) → Value_there is_there c → Values_out (cond b (Val c) (Fail (report kind.Assert at)))
  asserted at c true h = h
  asserted at c false h = λ e. let z : kind.Assert ≡ kind.Size = e in cc

  operate_there : (t : IntType) (o : Operation Ref BindId) (at : Place) (vs : List FlatValue) → All_there vs → Values_out (operate t o at vs)
  unfolding operate Value_there
  operate_there t (Integer n None) at [] h = tt
  operate_there t (Integer n (Some u)) at [] h = tt
  operate_there t (Truth b) at [] h = tt
  operate_there t Tuple_of at vs h = values_are vs h
  operate_there t (Record_of names) at vs h = out_then is_there Named_there (Value_there is_there) (or_wrong (named_values names vs)) _ (or_wrong_there Named_there (named_values names vs) (named_option names vs h)) (λ fs x. fields_are fs x)
  operate_there t (Binary op) at (v ∷ w ∷ []) h = binary_there op at v w
  operate_there t Negate at (v ∷ []) h = on_scalar_there _ v
  operate_there t Complement at (v ∷ []) h = on_scalar_there _ v
  operate_there t (Project f) at (v ∷ []) h = part_there f v h.0
  operate_there t (Replace f) at (v ∷ w ∷ []) h = out_then is_there (Fields_there is_there) (Value_there is_there) (fields_of v) _ (fields_out v h.0) (λ fs x. replaced_there f w fs h.1.0 x)
  operate_there t (Ascribe u) at (v ∷ []) h = h.0
  operate_there t (Coerce u) at (v ∷ []) h = h.0
  operate_there t (Declared u) at (v ∷ []) h = h.0
  operate_there t Assert at (c ∷ []) h = fine_then is_there (Value_there is_there) (truth_of c) _ (truth_of_fine c) (λ b. asserted at c b h.0)
  operate_there t o at vs h = tt

  coerced_there : (test : FlatValue → Bool) (o : Operation Ref BindId) (at : Place) (vs : List FlatValue) (w : Out FlatValue) → Operation_there is_there o at → Values_out w → Values_out (coerced test o at vs w)
  unfolding coerced
  coerced_there test (Coerce u) at (v ∷ []) w t h = by_test (test v)
    where
      by_test : (b : Bool) → Values_out (cond b w (Fail (report kind.Size at)))
      by_test true = h
      by_test false = λ e. t
  coerced_there test o at vs w t h = h

  operated_there : (row : Shape) (test : FlatValue → Bool) (t : IntType) (o : Operation Ref BindId) (at : Place) (vs : List FlatValue) → Operation_there is_there o at → All_there vs → Blames (Value_there is_there) (operated true row test t o at vs)
  operated_there row test t o at vs there h = by_making (making o)
    where
      by_making : (m : Option Making) → Blames (Value_there is_there) (operated_by true row m (coerced test o at vs (operate t o at vs)) at vs)
      by_making None = gives_exact (There is_there) (Value_there is_there) 0 _ (coerced_there test o at vs (operate t o at vs) there (operate_there t o at vs h))
      by_making (Some m) = after _ (Value_there is_there) (all_data vs) _ (all_fine vs) (λ ds u. after _ (Value_there is_there) (made true row m at ds) _ (made_fine is_there row m at ds) (λ r u. gives_exact (There is_there) (Value_there is_there) r.0 (Val (as_value r.1)) (data_there r.1)))

  primitive_there : (p : Primitive) (at : Place) (vs : List FlatValue) → Values_out (primitive p at vs)
  unfolding primitive Value_there
  primitive_there (prim.Convert to from) at (v ∷ []) = fine_then is_there (Value_there is_there) (scalar_of v) _ (scalar_of_fine v) (λ s. tt)
  primitive_there (prim.Min t) at (v ∷ w ∷ []) = on_scalars_there binary.Min at v w
  primitive_there (prim.Max t) at (v ∷ w ∷ []) = on_scalars_there binary.Max at v w
  primitive_there (prim.Abs t) at (v ∷ []) = on_scalar_there _ v
  primitive_there (prim.Popc t) at (v ∷ []) = on_scalar_there _ v
  primitive_there p at vs = tt

  used_there : (p : Primitive) (at : Place) → Primitive_there is_there p at → Value_there is_there (primitive_use p at)
  unfolding Value_there Values_there
  used_there (prim.Lowest t) at h = tt
  used_there (prim.Highest t) at h = tt
  used_there (prim.NumBits t) at h = tt
  used_there p at h = (h, tt)

  -- ---- tasks

  abbrev Tops_there : FlatTops → Type 0
  Tops_there tops = (b : ℕ) → Values_out (top tops b)

  abbrev Task_there : FlatTask → Type 0
  Task_there (Evaluate env lo t) = Env_there is_there env × Term_there is_there t
  Task_there (Call f v) = Value_there is_there f × Value_there is_there v

  placed_there : (lo : ℕ) (ts : Terms Ref BindId) → Terms_there is_there ts → Every (λ (t : ℕ × FlatTerm). Term_there is_there t.1) (placed lo ts)
  unfolding Terms_there
  placed_there lo no_term h = tt
  placed_there lo (term_and t ts) h = (h.0, placed_there (lo + numbers t) ts h.1)

  module _ (told : Told) (tight : Bool) (budget : ℕ) (tops : FlatTops) (known : Tops_there tops) where
    abbrev L : Lang Ref BindId (Unit {0})
    L = (flat_names told).lang tops

    look_there : (env : FlatEnv) (b : ℕ) → Env_there is_there env → Values_out (flat_look tops env b)
    unfolding flat_look Env_there
    look_there (base u) b e = known b
    look_there (entered q v env) b e = look_there env b e.1
    look_there (bind c v env) b e = by_name (nat_eq c.0 b) (look_there env b e.1)
      where
        by_name : (x : Bool) → Values_out (flat_look tops env b) → Values_out (cond x (Val v) (flat_look tops env b))
        by_name true r = e.0
        by_name false r = r

    or_size : (z : Option Sizing) (env : FlatEnv) (b : ℕ) (o : Out FlatValue) → Values_out o → Values_out (size_or z env b o)
    unfolding Value_there size_value
    or_size None env b o h = h
    or_size (Some Z) env b o h = by_test (Z.is_size b)
      where
        by_test : (x : Bool) → Values_out (cond x (Val (size_value Z env b)) o)
        by_test true = tt
        by_test false = h

    named_out : (lo : ℕ) (env : FlatEnv) (r : Ref) (at : Place) → Env_there is_there env → Use_there is_there r at → Values_out (L.named lo env r at)
    unfolding flat_names
    named_out lo env (ref.Bound b) at e h = or_size told.sizes env b.0 (flat_look tops env b.0) (look_there env b.0 e)
    named_out lo env (ref.Prim p) at e h = used_there p at h
    named_out lo env (ref.Scalar s) at e h = tt

    module _ (R : Meanings Ref BindId (Unit {0})) (hr : (t : FlatTask) → Task_there t → Blames (Value_there is_there) (R t)) where
      abbrev Gives_there : Rel FlatValue → Type 0
      Gives_there m = Blames (Value_there is_there) m

      under_there : (q : ℕ) (p : FlatPattern) (v : FlatValue) (env : FlatEnv) (task : FlatEnv → FlatTask) → Value_there is_there v → Env_there is_there env → ((e : FlatEnv) → Env_there is_there e → Task_there (task e)) → Gives_there (under R q p v env task)
      under_there q p v env task h e go = after (Env_there is_there) (Value_there is_there) (bound q p v env) _ (bound_there q p v env h e) (λ inner x. hr (task inner) (go inner x))

      called_there : (f : FlatValue) (ds : List Datum) → Value_there is_there f → Blameless (called R f ds)
      called_there f [] h = gives_exact (There is_there) (λ a. Unit {0}) 0 (datum_of f) (datum_fine f)
      called_there f (d ∷ ds) h = gives_then (Value_there is_there) (λ a. Unit {0}) (R (Call f (as_value d))) (λ g. called R g ds) (hr (Call f (as_value d)) (h, data_there d)) (λ g x. called_there g ds x)

      called_on_there : (k : ℕ) (f : FlatValue) (ds : List Datum) → Value_there is_there f → Blameless (called_on k R f ds)
      called_on_there k f ds h = blames_choose (λ a. Unit {0}) (nat_eq (length ds) k) (called R f ds) (the Wrong) (called_there f ds h) (gives_exact (There is_there) (λ a. Unit {0}) 0 Wrong tt)

      job_of_there : (k : ℕ) (f : FlatValue) (j : Job) → Value_there is_there f → Job_there is_there j → Gives_there (job_of L (unrestricted tight true) budget R k f j)
      unfolding unrestricted
      job_of_there k f j h t = gives_then (λ a. Unit {0}) (Value_there is_there) _ _ (blames_job tight _ _ (called_on k R f) (λ ds. called_on_there k f ds h) j t) (λ d u. gives_exact (There is_there) (Value_there is_there) 0 (Val (as_value d)) (data_there d))

      runs_there : (p : Primitive) (at : Place) (vs : List FlatValue) → Primitive_there is_there p at → All_there vs → Gives_there (runs L (unrestricted tight true) budget R p at vs)
      unfolding unrestricted Value_there Values_there
      runs_there p at vs t h = after (λ a. Unit {0}) (Value_there is_there) (data_arguments (parameters_of p) vs) _ (arguments_fine (parameters_of p) vs)
          (λ ds u. after (Job_there is_there) (Value_there is_there) (job true (row_told L (Of_function p (function_argument (parameters_of p) vs no_function) ds)) p at ds) _ (job_there is_there _ p at ds t)
          (λ j x. job_of_there (takes (parameters_of p)) (function_argument (parameters_of p) vs no_function) j (function_there (parameters_of p) vs no_function h tt) x))

      given_there : (p : Primitive) (at : Place) (vs : List FlatValue) (waits : Bool) → Primitive_there is_there p at → All_there vs → Gives_there (given L (unrestricted tight true) budget R p at vs waits)
      unfolding Value_there
      given_there p at vs true t h = gives_exact (There is_there) (Value_there is_there) 0 (Val (Primitive_value p at (values vs))) (t, values_are vs h)
      given_there p at vs false t h = blames_choose (Value_there is_there) (is_of_scalars p) (the (primitive p at vs)) (runs L (unrestricted tight true) budget R p at vs) (gives_exact (There is_there) (Value_there is_there) 0 (primitive p at vs) (primitive_there p at vs)) (runs_there p at vs t h)

      call_there : (f v : FlatValue) → Value_there is_there f → Value_there is_there v → Gives_there (call L (unrestricted tight true) budget R f v)
      unfolding Value_there
      call_there (Scalar_value s) v h x = gives_exact (There is_there) (Value_there is_there) 0 Wrong tt
      call_there (Tuple_value vs) v h x = gives_exact (There is_there) (Value_there is_there) 0 Wrong tt
      call_there (Record_value fs) v h x = gives_exact (There is_there) (Value_there is_there) 0 Wrong tt
      call_there (Array_value row ds) v h x = gives_exact (There is_there) (Value_there is_there) 0 Wrong tt
      call_there (Closure no_pattern body lo env) v h x = gives_exact (There is_there) (Value_there is_there) 0 Wrong tt
      call_there (Closure (pattern_and p no_pattern) body lo env) v h x = under_there (first_node (pattern_and p no_pattern) lo) p v env (λ e. Evaluate e lo body) x h.1 (λ e y. (y, h.0))
      call_there (Closure (pattern_and p (pattern_and q ps)) body lo env) v h x =
          after (Env_there is_there) (Value_there is_there) (bound (first_node (pattern_and p (pattern_and q ps)) lo) p v env) _ (bound_there (first_node (pattern_and p (pattern_and q ps)) lo) p v env x h.1) (λ e y. gives_exact (There is_there) (Value_there is_there) 0 (Val (Closure (pattern_and q ps) body lo e)) (h.0, y))
      call_there (Primitive_value p at vs) v h x = given_there p at (listed vs ++ v ∷ []) (nat_lt (length (listed vs ++ v ∷ [])) (arity p)) h.0 (every_one_more (listed vs) v (listed_are vs h.1) x)

      looped_there : (env : FlatEnv) (q : ℕ) (p : FlatPattern) (mark : Place) (ts : FlatTurns) (body : FlatTerm) (lo mid : ℕ) (v : FlatValue) → Env_there is_there env → Turns_there is_there ts → Term_there is_there body → Value_there is_there v → Gives_there (looped budget R env q p mark ts body lo mid v)
      unfolding Turns_there Env_there Value_there
      looped_there env q p mark (Counted i n) body lo mid v e t b h =
          gives_then (Value_there is_there) (Value_there is_there) (R (Evaluate env (1 + lo) n)) _ (hr (Evaluate env (1 + lo) n) (e, t)) (λ k x. after (λ a. Unit {0}) (Value_there is_there) (turns_of k) _ (turns_of_fine k)
          (λ c u. blames_turns (λ a. Unit {0}) (Value_there is_there) _ (λ j w u y. under_there q p w env (λ e. Evaluate (bind i (Scalar_value (scalar.Int c.0 j)) (entered lo (Scalar_value (scalar.Int c.0 j)) e)) mid body) y e (λ inner z. ((tt, (tt, z)), b))) (counts c.1 0) v (every_any (counts c.1 0)) h))
      looped_there env q p mark (Over r a) body lo mid v e t b h =
          gives_then (Value_there is_there) (Value_there is_there) (R (Evaluate env (lo + pattern_numbers r) a)) _ (hr (Evaluate env (lo + pattern_numbers r) a) (e, t)) (λ w x. after (λ a. Unit {0}) (Value_there is_there) (and_then (datum_of w) rows_of) _ (fine_then is_there _ (datum_of w) _ (datum_fine w) (λ d. rows_fine is_there d))
          (λ ds u. blames_turns (λ a. Unit {0}) (Value_there is_there) _ (λ d w u y. after (Env_there is_there) (Value_there is_there) (bound q p w env) _ (bound_there q p w env y e) (λ inner z. under_there lo r (as_value d) inner (λ e. Evaluate e mid body) (data_there d) z (λ i2 z2. (z2, b)))) ds.1 v (every_any ds.1) h))
      looped_there env q p mark (While c) body lo mid v e t b h =
          blames_while (Value_there is_there) budget (report kind.Turns mark) _ _ (λ x. let z : kind.Turns ≡ kind.Size = x in cc)
          (λ w y. gives_then (Value_there is_there) (λ a. Unit {0}) _ _ (under_there q p w env (λ e. Evaluate e lo c) y e (λ inner z. (z, t))) (λ b x. gives_exact (There is_there) (λ a. Unit {0}) 0 (truth_of b) (truth_of_fine b)))
          (λ w y. under_there q p w env (λ e. Evaluate e mid body) y e (λ inner z. (z, b))) v h

      step_there : (t : FlatTask) → Task_there t → Gives_there (step L (unrestricted tight true) budget R t)
      unfolding Term_there Value_there unrestricted
      step_there (Call f v) h = call_there f v h.0 h.1
      step_there (Evaluate env lo (Use r at k)) h = gives_exact (There is_there) (Value_there is_there) 0 (L.named (lo + (k + k)) env r at) (named_out (lo + (k + k)) env r at h.0 h.1)
      step_there (Evaluate env lo (Strict o mark ts)) h =
          gives_then All_there (Value_there is_there) _ _ (blames_each (λ (t : ℕ × FlatTerm). Term_there is_there t.1) (Value_there is_there) (λ t. R (Evaluate env t.0 t.1)) (λ t x. hr (Evaluate env t.0 t.1) (h.0, x)) (placed (lo + own_numbers o) ts) (placed_there (lo + own_numbers o) ts (h.1).1))
          (λ vs x. operated_there (row_told L (Of_literal env lo)) (fits_type L env lo) (L.told.integer_at lo) o mark vs (h.1).0 x)
      step_there (Evaluate env lo (Lambda ps e)) h = gives_exact (There is_there) (Value_there is_there) 0 (Val (Closure ps e (1 + lo + all_pattern_numbers ps) env)) (h.1, h.0)
      step_there (Evaluate env lo (Apply f e)) h =
          gives_then (Value_there is_there) (Value_there is_there) (R (Evaluate env (1 + lo) f)) _ (hr (Evaluate env (1 + lo) f) (h.0, (h.1).0)) (λ g x. gives_then (Value_there is_there) (Value_there is_there) (R (Evaluate env (1 + lo + numbers f) e)) _ (hr (Evaluate env (1 + lo + numbers f) e) (h.0, (h.1).1)) (λ v y. hr (Call g v) (x, y)))
      step_there (Evaluate env lo (Let b v e)) h =
          gives_then (Value_there is_there) (Value_there is_there) (R (Evaluate env (1 + lo + pattern_numbers b.pattern) v)) _ (hr (Evaluate env (1 + lo + pattern_numbers b.pattern) v) (h.0, (h.1).0)) (λ w x. under_there (1 + lo) b.pattern w env (λ inner. Evaluate inner (1 + lo + pattern_numbers b.pattern + numbers v) e) x h.0 (λ inner z. (z, (h.1).1)))
      step_there (Evaluate env lo (If c a b)) h =
          gives_then (Value_there is_there) (Value_there is_there) (R (Evaluate env (1 + lo) c)) _ (hr (Evaluate env (1 + lo) c) (h.0, (h.1).0)) (λ v x. after (λ a. Unit {0}) (Value_there is_there) (truth_of v) _ (truth_of_fine v)
          (λ holds u. blames_choose (Value_there is_there) holds _ _ (hr (Evaluate env (1 + lo + numbers c) a) (h.0, (h.1).1)) (hr (Evaluate env (1 + lo + numbers c + numbers a) b) (h.0, (h.1).2))))
      step_there (Evaluate env lo (Loop mark sizes p first ts body)) h =
          gives_then (Value_there is_there) (Value_there is_there) (R (Evaluate env (1 + lo + pattern_numbers p) first)) _ (hr (Evaluate env (1 + lo + pattern_numbers p) first) (h.0, (h.1).0)) (λ v x. looped_there env (1 + lo) p mark ts body (1 + lo + pattern_numbers p + numbers first) (1 + lo + pattern_numbers p + numbers first + turn_numbers ts) v h.0 (h.1).1 (h.1).2 x)

    means_there : (n : ℕ) (t : FlatTask) → Task_there t → Blames (Value_there is_there) (Means L (unrestricted tight true) budget n t)
    unfolding Means
    means_there zero t h = λ o f x. absurd x
    means_there (suc n) t h = step_there (Means L (unrestricted tight true) budget n) (λ t x. means_there n t x) t h

    ever_there : (t : FlatTask) → Task_there t → Blames (Value_there is_there) (Ever L (unrestricted tight true) budget t)
    ever_there t h _ _ (ever {o} {f} n x) = means_there n t h o f x

    applied_there : (vs : List FlatValue) (f : FlatValue) → Value_there is_there f → All_there vs → Blames (Value_there is_there) (applied_to (flat_names told) (Ever L (unrestricted tight true) budget) vs f)
    applied_there [] f h e = gives_exact (There is_there) (Value_there is_there) 0 (Val f) h
    applied_there (v ∷ vs) f h e = gives_then (Value_there is_there) (Value_there is_there) (Ever L (unrestricted tight true) budget (Call f v)) _ (ever_there (Call f v) (h, e.0)) (λ g x. applied_there vs g x e.1)

  -- ---- programs

  module _ (told : Told) (tight : Bool) (budget : ℕ) where
    abbrev Seen_there : Seen Ref BindId (Unit {0}) → Type 0
    Seen_there seen = Every (λ (d : ℕ × FlatValue). Value_there is_there d.1) seen

    below_there : (seen : Seen Ref BindId (Unit {0})) → Seen_there seen → Env_there is_there (below_names seen tt)
    unfolding Env_there
    below_there [] h = tt
    below_there (d ∷ seen) h = (h.0, below_there seen h.1)

    seeing_there : (q : ℕ) (v : FlatValue) (seen : Seen Ref BindId (Unit {0})) → Value_there is_there v → Seen_there seen → Seen_there (seeing q v seen)
    seeing_there q v seen h e = by_kind (is_function v)
      where
        by_kind : (b : Bool) → Seen_there (cond b seen ((q, v) ∷ seen))
        by_kind true = e
        by_kind false = (h, e)

    top_there : (b : ℕ) (v : FlatValue) (tops : FlatTops) → Value_there is_there v → Tops_there tops → Tops_there ((b, v) ∷ tops)
    top_there b v tops h known c = by_name (nat_eq b c)
      where
        by_name : (x : Bool) → Values_out (cond x (Val v) (top tops c))
        by_name true = h
        by_name false = known c

    evaluated_there : (ds : List Named_term) (lo entry : ℕ) (seen : Seen Ref BindId (Unit {0})) (tops : FlatTops) → Definitions_there is_there ds → Seen_there seen → Tops_there tops → Blames Tops_there (evaluated (flat_names told) (unrestricted tight true) budget entry (flat_tops lo ds) seen tops)
    unfolding flat_tops
    evaluated_there [] lo entry seen tops h e known = gives_exact (There is_there) Tops_there 0 (Val tops) known
    evaluated_there (d ∷ ds) lo entry seen tops h e known =
        blames_choose Tops_there _ _ _
        (gives_then (Value_there is_there) Tops_there (Ever ((flat_names told).lang tops) (unrestricted tight true) budget (Evaluate (below_names seen tt) (1 + lo) d.1)) _ (ever_there told tight budget tops known (Evaluate (below_names seen tt) (1 + lo) d.1) (below_there seen e, h.0))
        (λ v x. evaluated_there ds (lo + (1 + numbers d.1)) entry (seeing (1 + lo - 1) v seen) ((d.0.0, v) ∷ tops) h.1 (seeing_there (1 + lo - 1) v seen x e) (top_there d.0.0 v tops x known)))
        (evaluated_there ds (lo + (1 + numbers d.1)) entry seen tops h.1 e known)

  arguments_are : (vs : List FlatValue) → Arguments_there is_there vs → All_there vs
  arguments_are [] h = tt
  arguments_are (v ∷ vs) h = (h.0, arguments_are vs h.1)

pub sizes_are_reported_there : SizesAreReportedThere
sizes_are_reported_there told tight budget ds entry arguments is_there h a r words x =
    gives_then (Tops_there is_there) (Value_there is_there) _ _ (evaluated_there is_there told tight budget ds 0 entry.0 [] [] h tt (λ b. tt))
    (λ tops known. after is_there (Value_there is_there) (Value_there is_there) (top tops entry.0) _ (known entry.0) (λ f y. applied_there is_there told tight budget tops known arguments f y (arguments_are is_there arguments a)))
    (Fail r) words x

pub other_sizes_misfit : OtherSizesMisfit
other_sizes_misfit told tight budget ds entry arguments is_there h a r words x e = by_mode (fitted_loses_nothing told tight budget ds entry arguments (Fail r) words x)
  where
    by_mode : Flat_means told (unrestricted tight true) budget ds entry arguments (Fail r) words ⊎ ((made : ℕ) × Flat_means told (unrestricted tight true) budget ds entry arguments Wrong made) → (is_there r.place ≡ true) ⊎ ((made : ℕ) × Flat_means told (unrestricted tight true) budget ds entry arguments Wrong made)
    by_mode (inl y) = inl (sizes_are_reported_there told tight budget ds entry arguments is_there h a r words y e)
    by_mode (inr w) = inr w
