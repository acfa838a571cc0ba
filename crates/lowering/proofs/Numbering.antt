-- How many rows an array has, and functions on the numbers below a count.
use Rattle.lowering.proofs.Mapping.{collected_is}
use Rattle.lowering.proofs.Telling.{Groups_read}
use Rattle.core_values.specs.Claims.{apart}
use Rattle.std.proofs.Common.{◌≡◌, ℕ, zero, suc, ◌+◌, List, [], ◌∷◌, Bool, false, ℤ, pos, negsuc, map, length, refl, sym, ap, ◌∙◌, subst, arith}
use Rattle.fut_scalar.specs.declared.place.Place.{Place}
use Rattle.fut_scalar.specs.declared.scalar.IntType.{IntType}
use Rattle.fut_scalar.specs.declared.scalar.IntType.TheVariants.{I64}
use Rattle.fut_scalar.specs.declared.scalar.Scalar.{Scalar}
use Rattle.fut_scalar.specs.declared.scalar.Scalar.TheVariants as scalar
use Rattle.fut_scalar.specs.declared.scalar.ScalarType.TheVariants as sort
use Rattle.fut_scalar.specs.Integers.{integer_of}
use Rattle.fut_arithmetic.specs.Types.{type_of}
use Rattle.fut_flat.specs.declared.prim.Primitive.TheVariants as prim
use Rattle.fut_value.specs.Data.{Shape, Scalar_shape, Array_shape, Datum, Scalar_datum, Array_datum, Datums, listed, datums, shape_of}
use Rattle.fut_value.specs.Data as shape
use Rattle.fut_value.specs.Leaves.{leaves}
use Rattle.fut_meaning.specs.Arrays.{Counted, array, integer_of_scalar}
use Rattle.fut_meaning.specs.Arrays as meaning
use Rattle.fut_meaning.specs.Jobs.{Job, Done, Applied, Apply_each, alone, numbers_from, array_of_indices, job, finished}
use Rattle.fut_meaning.specs.Jobs as jobs
use Rattle.fut_meaning.specs.Meaning.{counts}
use Rattle.fut_meaning.specs.Outcomes.{Out, Val, Fail, Wrong, and_then, gives, the, Then, each_of}
use Rattle.fut_meaning.specs.Sames.{All_same, all_none, all_more, same_value}
use Rattle.fut_blocks.specs.declared.block.Atom.{Atom as Source_atom}
use Rattle.fut_blocks.specs.Meaning.{Names, bound}
use Rattle.fut_blocks.specs.Meaning as source
use Rattle.fut_blocks.specs.Plain as block
use Rattle.fut_blocks.specs.Rows.{Row as Told_row}
use Rattle.steps_simulate.specs.Covers.{Covers}
use Rattle.steps_simulate.proofs.Covers.{covers_exact, covers_more_words, covers_then, covers_each, covers_known_left, covers_known_right, covers_report, covers_wrong}
use Rattle.core_ir.specs.declared.block.Var.{Var}
use Rattle.core_ir.specs.declared.block.Atom.{Atom}
use Rattle.core_ir.specs.declared.block.Operation.TheVariants as operation
use Rattle.core_ir.specs.Arrays.{i64, sized_by, numbers_below}
use Rattle.core_ir.specs.Arrays as core_arrays
use Rattle.core_ir.specs.Bundles.{Component, One, Row, rows_in, bundle, array_words, glued}
use Rattle.core_ir.specs.Meaning.{Env, Results, value_of, one, operated, collected, counted, under, act_means, body_means}
use Rattle.core_ir.specs.Plain.{Operate, Map, Of_numbers, Body}
use Rattle.core_values.specs.Components.{components, each_components, One_type, scalars, a_scalar, Components_of, arrays}
use Rattle.core_values.proofs.Applying.{row_list, row_types}
use Rattle.core_values.proofs.Counts.{counts_agree}
use Rattle.core_values.proofs.Making.{arrays_are_made, made_are_regular, made_are_typed}
use Rattle.lowering.specs.Arrays as rule
use Rattle.lowering.specs.Knowns.{Scope, Operand}
use Rattle.lowering.specs.Programs.{Is_data, Are_components}
use Rattle.lowering.proofs.Deeds.{values_so, stood}
use Rattle.lowering.proofs.Functions.{means, job_covers, covers_retyped}
use Rattle.lowering.proofs.Scalars.{scalar_found, one_data}
use Rattle.lowering.proofs.Stands.{Have, Holds, operand_found}
use Rattle.lowering.proofs.Types.{same_left, turned, one_then}

-- ---- how many rows

record First (e : Env) (u : Atom) (cs : Row) : Type 0 where
  component : Component
  rest : Row
  is : cs ≡ component ∷ rest
  value : value_of e u ≡ Val component

first_of : {e : Env} {n : ℕ} {u : Atom} {us : List Atom} {cs : Row} → Have e n (u ∷ us) cs → First e u cs
first_of (all_more {x' = c} {xs' = cs} k a) = record { component = c; rest = cs; is = refl; value = k.value }

same_first : {c c' : Component} {cs cs' : Row} → c ∷ cs ≡ c' ∷ cs' → c ≡ c'
same_first e = cc

bundle_rows : (n : ℕ) (ds : List (List ℕ)) (rows : List Row) {c : Component} {cs : Row} → bundle n ds rows ≡ c ∷ cs → rows_in c ≡ Val n
bundle_rows n [] rows e = ap rows_in (sym (same_first e))
bundle_rows n (d ∷ ds) rows e = ap rows_in (sym (same_first e))

array_rows : (row : Shape) (ds : Datums) {c : Component} {cs : Row} → components (Array_datum row ds) ≡ c ∷ cs → rows_in c ≡ Val (length (listed ds))
unfolding components
array_rows row ds e = bundle_rows (length (listed ds)) (leaves row) (each_components ds) e

record Length_found (e : Env) (u : Atom) (o : Out Datum) : Type 0 where
  row : Shape
  rows : Datums
  is : o ≡ Val (Array_datum row rows)
  component : Component
  value : value_of e u ≡ Val component
  many : rows_in component ≡ Val (length (listed rows))

length_case : {e : Env} {n z : ℕ} {h : Shape} {u : Atom} {us : List Atom} {o : Out Datum} (d : Datum) → One_type (Array_shape z h) (shape_of d) → Have e n (u ∷ us) (components d) → o ≡ Val d → Length_found e u o
unfolding shape_of
length_case (Array_datum row ds) x k q = let f = first_of k in record { row = row; rows = ds; is = q; component = f.component; value = f.value; many = array_rows row ds f.is }
length_case (Scalar_datum s) x k q = elim x [ ]
length_case (shape.Tuple_datum ds) x k q = elim x [ ]
length_case (shape.Record_datum fs) x k q = elim x [ ]

scalar_value : (s : Scalar) → type_of s ≡ sort.Int I64 → Components_of (Scalar_shape (sort.Int I64)) (One s ∷ []) (Scalar_datum s)
unfolding components shape_of
scalar_value s e = record { are = refl; regular = a_scalar; typed = subst (λ z. One_type (Scalar_shape z) (Scalar_shape (type_of s))) e scalars }

module _ (tight : Bool) (budget : ℕ) {d : Env} {n : ℕ} {sc : Scope} {env : Names Datum} (k : Holds d n sc env) where
  pub length_covers : {a : Source_atom} {z : ℕ} {h : Shape} {u : Atom} {us : List Atom} (r : Told_row) (told : Shape) (at : Place) (ps : List ℕ) (b' : block.Body) → source.row_shape env r ≡ Val told → Operand sc a (Array_shape z h) (u ∷ us) → Covers (Are_components (Scalar_shape (sort.Int I64) ∷ [])) (act_means tight false budget (Operate (operation.Length u) at) d) (source.act_means tight budget (block.Job r prim.Length at (a ∷ []) ps b') env)
  unfolding act_means operated job
  length_covers {a} {u = u} r told at ps b' s p =
      let o = operand_found k p in
      let f = length_case o.datum o.is_data.typed o.have o.is in
      let m = length (listed f.rows) in
      job_covers tight budget env r prim.Length at (a ∷ []) ps b' (Array_datum f.row f.rows ∷ []) told (Scalar_shape (sort.Int I64)) _ (Val (Done (0, meaning.i64 m)))
      (values_so (all_more (stood env a f.is) all_none)) s refl
      (subst (λ y. Covers (Components_of (Scalar_shape (sort.Int I64))) (the y) (Then (the (Val (Done (0, meaning.i64 m)))) (means tight (source.function_of (source.body_means tight budget b') ps env))))
      (sym (ap (λ z. and_then z (λ c. and_then (rows_in c) (λ n. one (Val (i64 n))))) f.value ∙ ap (λ z. and_then z (λ n. one (Val (i64 n)))) f.many))
      (covers_known_right (Val (Done (0, meaning.i64 m))) (Done (0, meaning.i64 m)) (means tight (source.function_of (source.body_means tight budget b') ps env)) _ refl (covers_exact (same_value (scalar_value (i64 m) refl)))))

-- ---- functions on numbers

numbers_are : (n i : ℕ) → All_same (Are_components (Scalar_shape (sort.Int I64) ∷ [])) (map (λ s. One s ∷ []) (map i64 (counts n i))) (alone (numbers_from n i))
numbers_are zero i = all_none
numbers_are (suc n) i = all_more (one_data (i64 i) refl) (numbers_are n (suc i))

-- the indices count too
abbrev plus : ℕ → Datum → Counted
plus n e = (shape.array_words (shape_of e) + n, e)

plus_covers : (k : Shape) (n : ℕ) (p : Out Datum) → ((d : Datum) → p ≡ Val d → Is_data k d) → Covers (Components_of k) (counted (apart p)) (Then (the (and_then p (λ e. Val (plus n e)))) (λ r. gives r.0 r.1))
plus_covers k n (Val d) g =
    let i = g d refl in
    covers_known_left (Val (components d)) (components d) (λ bs. gives (array_words bs) bs) _ refl
    (covers_known_right (Val (plus n d)) (plus n d) (λ r. gives r.0 r.1) _ refl
    (covers_more_words (let e = counts_agree d i.regular in omega (arith, e)) (same_value (record { are = refl; regular = i.regular; typed = i.typed }))))
plus_covers k n (Fail r) g = covers_report r _ _
plus_covers k n Wrong g = covers_wrong _ _

module _ (at : Place) {e : Env} {h : Shape} (told : Shape) (o : One_type h told) {wss : List (List Atom)} (w : Groups_read e wss (leaves told)) where
  indices_cover : (n : ℕ) {rows : List Row} {ds : List Datum} → All_same (Components_of told) rows ds → Covers (Components_of (rule.array h)) (counted (collected false at e wss rows)) (finished (array_of_indices false told at n) ds)
  indices_cover n {rows} {ds} a =
      let t = same_left (turned o) in
      subst (λ z. Covers (Components_of (rule.array h)) (counted z) (finished (array_of_indices false told at n) ds)) (sym (collected_is at told o w rows ∙ ap (glued false at (leaves told)) (row_list a) ∙ arrays_are_made false at told ds t (row_types a)))
      (covers_retyped (arrays o) (plus_covers (Array_shape 0 told) n (array false at told ds) (λ d q. record { regular = made_are_regular false at told ds t (row_types a) d q; typed = made_are_typed false at told ds t (row_types a) d q })))

-- where the number is known
by_number : (tight : Bool) (at : Place) (k : Shape) (K : List Row → Results) (f : Applied) (finish : ℕ → List Datum → Out Counted) (s : Scalar) → ((n : ℕ) → Covers (Components_of k) (K (map (λ s. One s ∷ []) (numbers_below n))) (Then (each_of f (alone (numbers_from n 0))) (finished (finish n))))
    → Covers (Components_of k) (Then (the (and_then (integer_of_scalar s) (λ z. core_arrays.sized at z (λ n. Val (map (λ s. One s ∷ []) (numbers_below n)))))) K) (Then (the (and_then (integer_of_scalar s) (λ z. jobs.sized at z (λ n. Val (Apply_each (alone (numbers_from n 0)) (finish n)))))) (means tight f))
by_number tight at k K f finish (scalar.Int t m) l = on (integer_of t m)
  where
    on : (z : ℤ) → Covers (Components_of k) (Then (the (core_arrays.sized at z (λ n. Val (map (λ s. One s ∷ []) (numbers_below n))))) K) (Then (the (jobs.sized at z (λ n. Val (Apply_each (alone (numbers_from n 0)) (finish n))))) (means tight f))
    on (pos n) = covers_known_left (Val (map (λ s. One s ∷ []) (numbers_below n))) (map (λ s. One s ∷ []) (numbers_below n)) K _ refl (covers_known_right (Val (Apply_each (alone (numbers_from n 0)) (finish n))) (Apply_each (alone (numbers_from n 0)) (finish n)) (means tight f) _ refl (l n))
    on (negsuc n) = covers_report _ _ _
by_number tight at k K f finish (scalar.Bool b) l = covers_wrong _ _

module _ (tight : Bool) (budget : ℕ) {d : Env} {n : ℕ} {sc : Scope} {env : Names Datum} (k : Holds d n sc env) where
  pub tabulate_covers : {a : Source_atom} {t : IntType} {u : Atom} {h l : Shape} {wss : List (List Atom)} (r : Told_row) (at : Place) (ps : List ℕ) (xs : List Var) (b : Body) (b' : block.Body) (told : Shape) → Operand sc a (Scalar_shape (sort.Int t)) (u ∷ []) → source.row_shape env r ≡ Val told → One_type h told → One_type h l → Groups_read d wss (leaves told)
      → ((cs : Row) (vs : List Datum) → Are_components (Scalar_shape (sort.Int I64) ∷ []) cs vs → Covers (Components_of l) (under xs cs d (body_means tight false budget b)) (source.function_of (source.body_means tight budget b') ps env vs))
      → Covers (Are_components (rule.array h ∷ [])) (act_means tight false budget (Map at (Of_numbers u) wss xs b) d) (source.act_means tight budget (block.Job r prim.Tabulate at (a ∷ []) ps b') env)
  unfolding act_means job
  tabulate_covers {a} {t} {u} {h} {l} {wss} r at ps xs b b' told p e o q w fn =
      let f = scalar_found (operand_found k p) in
      let K : List Row → Results = λ rows. Then (each_of (λ row. under xs row d (body_means tight false budget b)) rows) (λ out. counted (collected false at d wss out)) in
      let F = source.function_of (source.body_means tight budget b') ps env in
      job_covers tight budget env r prim.Tabulate at (a ∷ []) ps b' (Scalar_datum f.scalar ∷ []) told (rule.array h) _ (and_then (integer_of_scalar f.scalar) (λ z. jobs.sized at z (λ n. Val (Apply_each (alone (numbers_from n 0)) (array_of_indices false told at n)))))
      (values_so (all_more (stood env a f.is) all_none)) e refl
      (subst (λ y. Covers (Components_of (rule.array h)) (Then (the y) K) (Then (the (and_then (integer_of_scalar f.scalar) (λ z. jobs.sized at z (λ n. Val (Apply_each (alone (numbers_from n 0)) (array_of_indices false told at n)))))) (means tight F)))
      (sym (ap (λ z. and_then z (λ c. sized_by at c (λ n. Val (map (λ s. One s ∷ []) (numbers_below n))))) f.value))
      (by_number tight at (rule.array h) K F (array_of_indices false told at) f.scalar (λ n. covers_then (covers_each (λ cs vs c. covers_retyped (one_then (turned o) q) (fn cs vs c)) (numbers_are n 0)) (λ rows ds c. indices_cover at told o w n c))))
