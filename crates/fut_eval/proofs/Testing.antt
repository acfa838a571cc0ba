-- Sizes as numbers, and tests of sizes.
use Rattle.std.proofs.Common.{◌≡◌, ℕ, suc, ◌+◌, ◌<◌, ◌≤◌, List, [], ◌∷◌, map, length, get_or, drop, Option, Some, None, Ok, Err, Result, Bool, true, false, refl, sym, ap, ◌∙◌, subst, add-one, Bor}
use Rattle.std.specs.Prelude.{pos}
use Rattle.std.proofs.Math.Seq.{drop-cons}
use Rattle.std.proofs.lemmas.List.{append-nil}
use Rattle.fut_scalar.specs.declared.place.Place.{Place}
use Rattle.fut_scalar.specs.declared.report.FailKind.TheVariants as kind
use Rattle.fut_scalar.specs.declared.scalar.IntType.TheVariants.{I64}
use Rattle.fut_scalar.specs.declared.scalar.Scalar.TheVariants as scalar
use Rattle.fut_scalar.specs.declared.scalar.ScalarType.{ScalarType}
use Rattle.fut_ast.specs.Sorts.{Text}
use Rattle.fut_value.specs.Data.{Shape, Unmet_shape, Named_shapes, Scalar_datum}
use Rattle.fut_meaning.specs.Arrays.{checked}
use Rattle.fut_meaning.specs.Found.{agrees, count}
use Rattle.fut_meaning.specs.Operations.{report}
use Rattle.fut_meaning.specs.Operators.{integer}
use Rattle.fut_meaning.specs.Outcomes.{Out, Val, Fail, Wrong, and_then, the}
use Rattle.fut_meaning.specs.Places.{field_shape}
use Rattle.fut_blocks.specs.declared.row.Extent.{Extent as Held_extent}
use Rattle.fut_blocks.specs.declared.row.FieldTest.{FieldTest}
use Rattle.fut_blocks.specs.declared.row.SizeTest.{SizeTest}
use Rattle.fut_blocks.specs.declared.row.SizeTest.TheVariants as test
use Rattle.fut_blocks.specs.Meaning.{Component, Names, size_given, sizes_tested, act_means}
use Rattle.fut_blocks.specs.Plain.{Size_of}
use Rattle.fut_blocks.specs.Rows.{Row, Extent, Size_test, Array_test, tests, named_tests, extent_of, test_of}
use Rattle.fut_blocks.specs.Sizes.{row_shape, extent_worth, where_there, and_also, passes, all_pass, named_pass}
use Rattle.fut_blocks.proofs.Layers.{test_of-Any, test_of-Array, test_of-Tuple, test_of-Record, named_test_of-parts}
use Rattle.array_data.specs.declared.form.Form.{Form}
use Rattle.array_data.specs.declared.form.Form.TheVariants as form
use Rattle.array_data.specs.declared.sizes.Exact.{Exact}
use Rattle.array_data.specs.declared.stop.Stop.{Stop}
use Rattle.array_data.specs.declared.stop.Stop.TheVariants.{Failed, Memory}
use Rattle.array_data.specs.Answers.{Tells, told, report_told, no_memory_told, lost}
use Rattle.array_data.specs.declared.data.Data.TheVariants as hold
use Rattle.array_data.specs.Held.{shape_held, shapes, named_shapes, held}
use Rattle.array_data.proofs.Forms.{drop_past}
use Rattle.array_data.proofs.Holding.{held_scalar, form_unmet, form_scalar, form_tuple, form_record, form_array}
use Rattle.form_parts.specs.Met.{exact_met, found_held, as_found}
use Rattle.fut_eval.specs.Answers.{Answer, Stands, Runs, ran, failed, no_memory, Pushed, pushed, not_pushed}
use Rattle.fut_eval.specs.Runs.{Coerces, Made_runs}
use Rattle.fut_eval.specs.Shapes.{Row_told, Extent_told, Passes, Rows_pass, All_pass, Named_pass, Field_passes, tested_fields}
use Rattle.fut_eval.proofs.Tells.{the_is, tells_then, tells_stop, runs_next, runs_stop, kept_same}

-- ---- acts

module _ (t s : List Component) (e : Extent) where
  pub size_unread : (x : Stop) → Extent_told t e (Err x) → Made_runs (Size_of e) t s s (Err x)
  unfolding Made_runs Extent_told act_means
  size_unread x h budget env n st = runs_stop n t t s s (extent_worth env e) size_given x (h env n st)

  size_held : (m : ℕ) → held (hold.Scalar (scalar.Int I64 m)) ≡ Scalar_datum (integer I64 (pos m))
  size_held m = held_scalar (scalar.Int I64 m)

  pub size_put : (z : Option Exact) (m : ℕ) (s' : List Component) (r : Answer) → Extent_told t e (Ok (exact_met z)) → m ≡ count (exact_met z) → Pushed (held (hold.Scalar (scalar.Int I64 m))) s s' r → Made_runs (Size_of e) t s s' r
  unfolding Made_runs Extent_told act_means
  size_put z m s' _ h i not_pushed budget env n st = no_memory
  size_put z m s' _ h i (pushed p) budget env n st =
      runs_next n t t s s' (extent_worth env e) size_given (exact_met z) (Ok tt) (h env n st)
      (ran (held (hold.Scalar (scalar.Int I64 m)) ∷ []) 0 p (tt, tt) (kept_same n t) (the_is (size_given (exact_met z)) (Val (held (hold.Scalar (scalar.Int I64 m)) ∷ [])) (ap (λ k. Val (Scalar_datum (integer I64 (pos k)) ∷ [])) (sym i) ∙ ap (λ c. Val (c ∷ [])) (sym (size_held m)))))

pub ruleset size_acts = (size_unread, size_put)

module _ (t : List Component) (at : Place) (w : Size_test) (row : Row) where
  pub coerce_memory : Coerces t at w row (Err Memory)
  unfolding Coerces Made_runs
  coerce_memory s budget env n st = no_memory

  pub coerce_untold : (x : Stop) → Row_told t row (Err x) → Coerces t at w row (Err x)
  unfolding Coerces Made_runs Row_told act_means
  coerce_untold x h s budget env n st = runs_stop n t t s s (row_shape env row) (sizes_tested env at w) x (h env n st)

  module _ (h : Shape) (k : Row_told t row (Ok h)) where
    pub coerce_untested : (x : Stop) → Passes t w h (Err x) → Coerces t at w row (Err x)
    unfolding Coerces Made_runs Row_told Passes act_means
    coerce_untested x i s budget env n st =
        runs_next n t t s s (row_shape env row) (sizes_tested env at w) h (Err x) (k env n st) (runs_stop n t t s s (passes env w h) (λ b. checked b kind.Size at (Val [])) x (i env n st))

    tested : (b : Bool) (r : Answer) → Passes t w h (Ok b) → ((n : ℕ) (s : List Component) → Runs (the (checked b kind.Size at (Val []))) n t t s s r) → Coerces t at w row r
    unfolding Coerces Made_runs Row_told Passes act_means
    tested b r i g s budget env n st =
        runs_next n t t s s (row_shape env row) (sizes_tested env at w) h r (k env n st) (runs_next n t t s s (passes env w h) (λ b. checked b kind.Size at (Val [])) b r (i env n st) (g n s))

    pub coerce_passes : (b : Bool) → Passes t w h (Ok b) → b ≡ true → Coerces t at w row (Ok tt)
    coerce_passes b i e = tested true (Ok tt) (subst (λ z. Passes t w h (Ok z)) e i) (λ n s. ran [] 0 (sym (append-nil s)) tt (kept_same n t) (the_is (checked true kind.Size at (Val [])) (Val []) refl))

    pub coerce_fails : (b : Bool) → Passes t w h (Ok b) → b ≡ false → Coerces t at w row (Err (Failed (report kind.Size at)))
    coerce_fails b i e =
        tested false (Err (Failed (report kind.Size at))) (subst (λ z. Passes t w h (Ok z)) e i) (λ n s. failed 0 (the_is (checked false kind.Size at (Val [])) (Fail (report kind.Size at)) refl))

pub ruleset coerce_acts = (coerce_memory, coerce_untold, coerce_untested, coerce_passes, coerce_fails)

-- ---- one test

no_memory_passes : (t : List Component) (w : Size_test) (h : Shape) → Passes t w h (Err Memory)
unfolding Passes
no_memory_passes t w h env n st = no_memory_told

module _ (t : List Component) (w : SizeTest) (f : Form) where
  pub test_memory : Passes t (test_of w) (shape_held f) (Err Memory)
  test_memory = no_memory_passes t (test_of w) (shape_held f)

  as_test : (v : Size_test) (h : Shape) (r : Result Bool Stop) → test_of w ≡ v → shape_held f ≡ h → ((env : Names Component) (n : ℕ) → Stands env n t → Tells (passes env v h) r) → Passes t (test_of w) (shape_held f) r
  unfolding Passes
  as_test v h r e q g env n st = subst (λ z. Tells (passes env z (shape_held f)) r) (sym e) (subst (λ z. Tells (passes env v z) r) (sym q) (g env n st))

  pub any_passes : w ≡ test.Any → Passes t (test_of w) (shape_held f) (Ok true)
  any_passes e = as_test _ (shape_held f) (Ok true) (ap test_of e ∙ test_of-Any) refl (λ env n st. told refl)

  pub array_passes : (x : Held_extent) (v : Bor SizeTest) (r : Result Bool Stop) → w ≡ test.Array x v → Passes t (Array_test (extent_of x) (test_of v.now)) (shape_held f) r → Passes t (test_of w) (shape_held f) r
  array_passes x v r e h = subst (λ z. Passes t z (shape_held f) r) (sym (ap test_of e ∙ test_of-Array x v)) h

  module _ (ts : Bor (List SizeTest)) (e : w ≡ test.Tuple ts) where
    pub tuple_passes : (hs : List Form) (r : Result Bool Stop) → f ≡ form.Tuple hs → All_pass t (map test_of ts.now) (map shape_held hs) r → Passes t (test_of w) (shape_held f) r
    unfolding All_pass
    tuple_passes hs r q h = as_test _ _ r (ap test_of e ∙ test_of-Tuple ts) (ap shape_held q ∙ form_tuple hs) h

    pub unmet_tuple : f ≡ form.Unmet → Passes t (test_of w) (shape_held f) (Ok true)
    unmet_tuple q = as_test _ _ (Ok true) (ap test_of e ∙ test_of-Tuple ts) (ap shape_held q ∙ form_unmet) (λ env n st. told refl)

    pub scalar_tuple : (ty : ScalarType) → f ≡ form.Scalar ty → Passes t (test_of w) (shape_held f) (Ok true)
    scalar_tuple ty q = as_test _ _ (Ok true) (ap test_of e ∙ test_of-Tuple ts) (ap shape_held q ∙ form_scalar ty) (λ env n st. told refl)

    pub record_tuple : (ns : List Text) (hs : List Form) → f ≡ form.Record ns hs → Passes t (test_of w) (shape_held f) (Ok true)
    record_tuple ns hs q = as_test _ _ (Ok true) (ap test_of e ∙ test_of-Tuple ts) (ap shape_held q ∙ form_record ns hs) (λ env n st. told refl)

    pub array_tuple : (m : ℕ) (k : Form) → f ≡ form.Array m k → Passes t (test_of w) (shape_held f) (Ok true)
    array_tuple m k q = as_test _ _ (Ok true) (ap test_of e ∙ test_of-Tuple ts) (ap shape_held q ∙ form_array m k) (λ env n st. told refl)

  module _ (fs : Bor (List FieldTest)) (e : w ≡ test.Record fs) where
    pub record_passes : (ns : List Text) (hs : List Form) (r : Result Bool Stop) → f ≡ form.Record ns hs → Named_pass t (tested_fields fs.now) (named_shapes ns (map shape_held hs)) r → Passes t (test_of w) (shape_held f) r
    unfolding Named_pass
    record_passes ns hs r q h = as_test _ _ r (ap test_of e ∙ test_of-Record fs) (ap shape_held q ∙ form_record ns hs) h

    pub unmet_record : f ≡ form.Unmet → Passes t (test_of w) (shape_held f) (Ok true)
    unmet_record q = as_test _ _ (Ok true) (ap test_of e ∙ test_of-Record fs) (ap shape_held q ∙ form_unmet) (λ env n st. told refl)

    pub scalar_record : (ty : ScalarType) → f ≡ form.Scalar ty → Passes t (test_of w) (shape_held f) (Ok true)
    scalar_record ty q = as_test _ _ (Ok true) (ap test_of e ∙ test_of-Record fs) (ap shape_held q ∙ form_scalar ty) (λ env n st. told refl)

    pub tuple_record : (hs : List Form) → f ≡ form.Tuple hs → Passes t (test_of w) (shape_held f) (Ok true)
    tuple_record hs q = as_test _ _ (Ok true) (ap test_of e ∙ test_of-Record fs) (ap shape_held q ∙ form_tuple hs) (λ env n st. told refl)

    pub array_record : (m : ℕ) (k : Form) → f ≡ form.Array m k → Passes t (test_of w) (shape_held f) (Ok true)
    array_record m k q = as_test _ _ (Ok true) (ap test_of e ∙ test_of-Record fs) (ap shape_held q ∙ form_array m k) (λ env n st. told refl)

pub ruleset size_tests = (test_memory, any_passes, array_passes, tuple_passes, unmet_tuple, scalar_tuple, record_tuple, array_tuple, record_passes, unmet_record, scalar_record, tuple_record, array_record)

-- ---- arrays

module _ (t : List Component) (x : Extent) (v : Size_test) (f : Form) where
  pub rows_passes : (m : ℕ) (k : Form) (r : Result Bool Stop) → f ≡ form.Array m k → Rows_pass t x v m (shape_held k) r → Passes t (Array_test x v) (shape_held f) r
  unfolding Passes Rows_pass
  rows_passes m k r e h env n st = subst (λ z. Tells (passes env (Array_test x v) z) r) (sym (ap shape_held e ∙ form_array m k)) (h env n st)

  pub unmet_passes : (r : Result Bool Stop) → f ≡ form.Unmet → Rows_pass t x v 0 (shape_held f) r → Passes t (Array_test x v) (shape_held f) r
  unfolding Passes Rows_pass
  unmet_passes r e h env n st =
      let q : shape_held f ≡ Unmet_shape = ap shape_held e ∙ form_unmet in
      subst (λ z. Tells (passes env (Array_test x v) z) r) (sym q) (subst (λ z. Tells (and_then (extent_worth env x) (λ y. and_also (agrees y 0) (passes env v z))) r) q (h env n st))

  no_array : (h : Shape) → shape_held f ≡ h → ((env : Names Component) → passes env (Array_test x v) h ≡ Val true) → Passes t (Array_test x v) (shape_held f) (Ok true)
  unfolding Passes
  no_array h e q env n st = told (ap (passes env (Array_test x v)) e ∙ q env)

  pub scalar_passes : (ty : ScalarType) → f ≡ form.Scalar ty → Passes t (Array_test x v) (shape_held f) (Ok true)
  scalar_passes ty e = no_array _ (ap shape_held e ∙ form_scalar ty) (λ env. refl)

  pub no_array_tuple : (hs : List Form) → f ≡ form.Tuple hs → Passes t (Array_test x v) (shape_held f) (Ok true)
  no_array_tuple hs e = no_array _ (ap shape_held e ∙ form_tuple hs) (λ env. refl)

  pub no_array_record : (ns : List Text) (hs : List Form) → f ≡ form.Record ns hs → Passes t (Array_test x v) (shape_held f) (Ok true)
  no_array_record ns hs e = no_array _ (ap shape_held e ∙ form_record ns hs) (λ env. refl)

pub ruleset array_tests = (rows_passes, unmet_passes, scalar_passes, no_array_tuple, no_array_record)

module _ (t : List Component) (x : Extent) (v : Size_test) (m : ℕ) (h : Shape) where
  pub rows_unsized : (y : Stop) → Extent_told t x (Err y) → Rows_pass t x v m h (Err y)
  unfolding Extent_told Rows_pass
  rows_unsized y k env n st = tells_stop (extent_worth env x) _ y (k env n st)

  module _ (z : Option Exact) (k : Extent_told t x (Ok (exact_met z))) (b : Bool) (q : b ≡ agrees (exact_met z) m) where
    pub rows_differ : b ≡ false → Rows_pass t x v m h (Ok false)
    unfolding Extent_told Rows_pass
    rows_differ e env n st =
        tells_then (extent_worth env x) (λ z. and_also (agrees z m) (passes env v h)) (exact_met z) (Ok false) (k env n st) (subst (λ c. Tells (and_also c (passes env v h)) (Ok false)) (sym e ∙ q) (told refl))

    pub rows_agree : (r : Result Bool Stop) → b ≡ true → Passes t v h r → Rows_pass t x v m h r
    unfolding Extent_told Rows_pass Passes
    rows_agree r e i env n st =
        tells_then (extent_worth env x) (λ z. and_also (agrees z m) (passes env v h)) (exact_met z) r (k env n st) (subst (λ c. Tells (and_also c (passes env v h)) r) (sym e ∙ q) (i env n st))

pub ruleset rows_tests = (rows_unsized, rows_differ, rows_agree)

-- ---- all parts

-- it is what the rest says, or wrong
pub data Rests_with {A : Type 0} (o rest : Out A) : Type 0 where
  rests_with : o ≡ rest → Rests_with o rest
  rests_wrong : o ≡ Wrong → Rests_with o rest

rest_tells : {A : Type 0} (o rest : Out A) (r : Result A Stop) → Rests_with o rest → Tells rest r → Tells o r
rest_tells o rest r (rests_with e) h = subst (λ z. Tells z r) (sym e) h
rest_tells o rest r (rests_wrong e) h = lost e

-- one that passes is left behind
passed_by : (o rest p later : Out Bool) → Rests_with o rest → rest ≡ and_then p (λ b. and_also b later) → Tells p (Ok true) → Rests_with o later
passed_by o rest p later (rests_wrong e) q h = rests_wrong e
passed_by o rest p later (rests_with e) q (told h) = rests_with (e ∙ q ∙ ap (λ z. and_then z (λ b. and_also b later)) h)
passed_by o rest p later (rests_with e) q (lost h) = rests_wrong (e ∙ q ∙ ap (λ z. and_then z (λ b. and_also b later)) h)

failed_at : (o rest p later : Out Bool) → Rests_with o rest → rest ≡ and_then p (λ b. and_also b later) → Tells p (Ok false) → Tells o (Ok false)
failed_at o rest p later h q k = rest_tells o rest (Ok false) h (subst (λ z. Tells z (Ok false)) (sym q) (tells_then p (λ b. and_also b later) false (Ok false) k (told refl)))

stopped_at : (o rest p later : Out Bool) (x : Stop) → Rests_with o rest → rest ≡ and_then p (λ b. and_also b later) → Tells p (Err x) → Tells o (Err x)
stopped_at o rest p later x h q k = rest_tells o rest (Err x) h (subst (λ z. Tells z (Err x)) (sym q) (tells_stop p (λ b. and_also b later) x k))

unfoldable pub All_from : List Component → List SizeTest → List Form → ℕ → Type 0
All_from t ws hs i = (env : Names Component) (n : ℕ) → Stands env n t → Rests_with (all_pass env (tests (map test_of ws)) (shapes (map shape_held hs))) (all_pass env (tests (map test_of (drop i ws))) (shapes (map shape_held (drop i hs))))

no_parts_left : (env : Names Component) (ws : List SizeTest) → all_pass env (tests (map test_of ws)) (shapes []) ≡ Val true
no_parts_left env [] = refl
no_parts_left env (w ∷ ws) = refl

module _ (t : List Component) (ws : List SizeTest) (hs : List Form) where
  pub all_start : All_from t ws hs 0
  unfolding All_from
  all_start env n st = rests_with refl

  pub all_short : (i : ℕ) → length hs ≤ i → All_from t ws hs i → All_pass t (map test_of ws) (map shape_held hs) (Ok true)
  unfolding All_from All_pass
  all_short i l h env n st = rest_tells _ _ (Ok true) (h env n st) (told (ap (λ z. all_pass env (tests (map test_of (drop i ws))) (shapes (map shape_held z))) (drop_past hs i l) ∙ no_parts_left env (drop i ws)))

  pub all_end : (i : ℕ) → length ws ≤ i → All_from t ws hs i → All_pass t (map test_of ws) (map shape_held hs) (Ok true)
  unfolding All_from All_pass
  all_end i l h env n st = rest_tells _ _ (Ok true) (h env n st) (told (ap (λ z. all_pass env (tests (map test_of z)) (shapes (map shape_held (drop i hs)))) (drop_past ws i l)))

  module _ (i : ℕ) (w : SizeTest) (f : Form) (l : i < length ws) (m : i < length hs) (h : All_from t ws hs i) where
    all_is : (env : Names Component) → all_pass env (tests (map test_of (drop i ws))) (shapes (map shape_held (drop i hs))) ≡ and_then (passes env (test_of (get_or ws i w)) (shape_held (get_or hs i f))) (λ b. and_also b (all_pass env (tests (map test_of (drop (suc i) ws))) (shapes (map shape_held (drop (suc i) hs)))))
    all_is env =
        ap (λ z. all_pass env (tests (map test_of z)) (shapes (map shape_held (drop i hs)))) (drop-cons ws i w l)
        ∙ ap (λ z. all_pass env (tests (map test_of (get_or ws i w ∷ drop (suc i) ws))) (shapes (map shape_held z))) (drop-cons hs i f m)

    pub all_stop : (x : Stop) → Passes t (test_of (get_or ws i w)) (shape_held (get_or hs i f)) (Err x) → All_pass t (map test_of ws) (map shape_held hs) (Err x)
    unfolding All_from All_pass Passes
    all_stop x k env n st = stopped_at _ _ (passes env (test_of (get_or ws i w)) (shape_held (get_or hs i f))) _ x (h env n st) (all_is env) (k env n st)

    module _ (b : Bool) (k : Passes t (test_of (get_or ws i w)) (shape_held (get_or hs i f)) (Ok b)) where
      pub all_fail : b ≡ false → All_pass t (map test_of ws) (map shape_held hs) (Ok false)
      unfolding All_from All_pass Passes
      all_fail e env n st = failed_at _ _ (passes env (test_of (get_or ws i w)) (shape_held (get_or hs i f))) _ (h env n st) (all_is env) (subst (λ z. Tells (passes env (test_of (get_or ws i w)) (shape_held (get_or hs i f))) (Ok z)) e (k env n st))

      pub all_more : b ≡ true → All_from t ws hs (i + 1)
      unfolding All_from Passes
      all_more e env n st =
          subst (λ z. Rests_with (all_pass env (tests (map test_of ws)) (shapes (map shape_held hs))) (all_pass env (tests (map test_of (drop z ws))) (shapes (map shape_held (drop z hs))))) (sym (add-one i))
          (passed_by _ _ (passes env (test_of (get_or ws i w)) (shape_held (get_or hs i f))) _ (h env n st) (all_is env) (subst (λ z. Tells (passes env (test_of (get_or ws i w)) (shape_held (get_or hs i f))) (Ok z)) e (k env n st)))

pub ruleset all_tests = (all_start, all_short, all_end, all_stop, all_fail, all_more)

-- ---- fields

unfoldable pub Named_from : List Component → List FieldTest → Named_shapes → ℕ → Type 0
Named_from t ws hs i = (env : Names Component) (n : ℕ) → Stands env n t → Rests_with (named_pass env (named_tests (tested_fields ws)) hs) (named_pass env (named_tests (tested_fields (drop i ws))) hs)

module _ (t : List Component) (ws : List FieldTest) (hs : Named_shapes) where
  pub named_start : Named_from t ws hs 0
  unfolding Named_from
  named_start env n st = rests_with refl

  pub named_end : (i : ℕ) → length ws ≤ i → Named_from t ws hs i → Named_pass t (tested_fields ws) hs (Ok true)
  unfolding Named_from Named_pass
  named_end i l h env n st = rest_tells _ _ (Ok true) (h env n st) (told (ap (λ z. named_pass env (named_tests (tested_fields z)) hs) (drop_past ws i l)))

  module _ (i : ℕ) (w : FieldTest) (l : i < length ws) (h : Named_from t ws hs i) where
    abbrev field_of : (env : Names Component) → Out Bool
    field_of env = where_there (field_shape (get_or ws i w).name.now hs) (passes env (test_of (get_or ws i w).test))

    named_is : (env : Names Component) → named_pass env (named_tests (tested_fields (drop i ws))) hs ≡ and_then (field_of env) (λ b. and_also b (named_pass env (named_tests (tested_fields (drop (suc i) ws))) hs))
    named_is env =
        ap (λ z. named_pass env (named_tests (tested_fields z)) hs) (drop-cons ws i w l)
        ∙ ap (λ z. named_pass env (named_tests (z ∷ tested_fields (drop (suc i) ws))) hs) (named_test_of-parts (get_or ws i w))

    pub named_stop : (x : Stop) → Field_passes t (get_or ws i w).name.now (test_of (get_or ws i w).test) hs (Err x) → Named_pass t (tested_fields ws) hs (Err x)
    unfolding Named_from Named_pass Field_passes
    named_stop x k env n st = stopped_at _ _ (field_of env) _ x (h env n st) (named_is env) (k env n st)

    module _ (b : Bool) (k : Field_passes t (get_or ws i w).name.now (test_of (get_or ws i w).test) hs (Ok b)) where
      pub named_fail : b ≡ false → Named_pass t (tested_fields ws) hs (Ok false)
      unfolding Named_from Named_pass Field_passes
      named_fail e env n st = failed_at _ _ (field_of env) _ (h env n st) (named_is env) (subst (λ z. Tells (field_of env) (Ok z)) e (k env n st))

      pub named_more : b ≡ true → Named_from t ws hs (i + 1)
      unfolding Named_from Field_passes
      named_more e env n st =
          subst (λ z. Rests_with (named_pass env (named_tests (tested_fields ws)) hs) (named_pass env (named_tests (tested_fields (drop z ws))) hs)) (sym (add-one i))
          (passed_by _ _ (field_of env) _ (h env n st) (named_is env) (subst (λ z. Tells (field_of env) (Ok z)) e (k env n st)))

pub ruleset named_tests_pass = (named_start, named_end, named_stop, named_fail, named_more)

module _ (t : List Component) (f : Text) (v : Size_test) (ns : List Text) (hs : List Form) where
  pub field_unplaced : (x : Stop) → Tells (Val (field_shape f (named_shapes ns (map shape_held hs)))) (as_found (Err x)) → Field_passes t f v (named_shapes ns (map shape_held hs)) (Err x)
  unfolding Field_passes
  field_unplaced _ no_memory_told env n st = no_memory_told
  field_unplaced _ (report_told e) env n st = cc
  field_unplaced _ (lost e) env n st = cc

  module _ (o : Option (Bor Form)) where
    placed : (r : Result Bool Stop) → Tells (Val (field_shape f (named_shapes ns (map shape_held hs)))) (as_found (Ok o)) → ((env : Names Component) (n : ℕ) → Stands env n t → Tells (where_there (found_held o) (passes env v)) r) → Field_passes t f v (named_shapes ns (map shape_held hs)) r
    unfolding Field_passes
    placed r h k env n st = by_place h
      where
        by_place : Tells (Val (field_shape f (named_shapes ns (map shape_held hs)))) (Ok (found_held o)) → Tells (where_there (field_shape f (named_shapes ns (map shape_held hs))) (passes env v)) r
        by_place (told e) = let q : field_shape f (named_shapes ns (map shape_held hs)) ≡ found_held o = cc in subst (λ z. Tells (where_there z (passes env v)) r) (sym q) (k env n st)
        by_place (lost e) = cc

    pub field_nowhere : o ≡ None → Tells (Val (field_shape f (named_shapes ns (map shape_held hs)))) (as_found (Ok o)) → Field_passes t f v (named_shapes ns (map shape_held hs)) (Ok true)
    field_nowhere e h = placed (Ok true) h (λ env n st. told (ap (λ z. where_there (found_held z) (passes env v)) e))

    pub field_passed : (b : Bor Form) (r : Result Bool Stop) → o ≡ Some b → Tells (Val (field_shape f (named_shapes ns (map shape_held hs)))) (as_found (Ok o)) → Passes t v (shape_held b.now) r → Field_passes t f v (named_shapes ns (map shape_held hs)) r
    unfolding Passes
    field_passed b r e h k = placed r h (λ env n st. subst (λ z. Tells (where_there (found_held z) (passes env v)) r) (sym e) (k env n st))

pub ruleset field_tests = (field_unplaced, field_nowhere, field_passed)
