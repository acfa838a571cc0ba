-- The rows for which a test holds, and those for which it does not.
use Rattle.std.proofs.Common.{◌≡◌, ℕ, List, [], ◌∷◌, Bool, true, false, Some, map, refl, sym, ap, ◌∙◌, subst, arith}
use Rattle.std.specs.Prelude.{flat_map}
use Rattle.fut_scalar.specs.declared.place.Place.{Place}
use Rattle.fut_scalar.specs.declared.scalar.Scalar.{Scalar}
use Rattle.fut_scalar.specs.declared.scalar.Scalar.TheVariants as scalar
use Rattle.fut_scalar.specs.declared.scalar.ScalarType.{ScalarType}
use Rattle.fut_scalar.specs.declared.scalar.ScalarType.TheVariants as sort
use Rattle.fut_arithmetic.specs.Types.{type_of}
use Rattle.fut_flat.specs.declared.prim.Primitive.TheVariants as prim
use Rattle.fut_value.specs.Data.{Shape, Scalar_shape, Tuple_shape, Array_shape, Datum, Scalar_datum, Tuple_datum, Record_datum, Array_datum, Datums, listed, datums, shape_of}
use Rattle.fut_value.specs.Data as shape
use Rattle.fut_meaning.specs.Arrays.{Counted, each_out, truth_of_datum, truth_of_scalar}
use Rattle.fut_meaning.specs.Jobs.{Job, Applied, Apply_each, alone, counting, truths, job, finished}
use Rattle.fut_meaning.specs.Jobs as jobs
use Rattle.fut_meaning.specs.Outcomes.{Out, Val, and_then, gives}
use Rattle.fut_meaning.specs.Sames.{All_same, all_none, all_more, Same_out, same_value}
use Rattle.fut_meaning.proofs.Safe.{Every}
use Rattle.fut_blocks.specs.declared.block.Atom.{Atom as Source_atom}
use Rattle.fut_blocks.specs.Meaning.{Names, bound}
use Rattle.fut_blocks.specs.Meaning as source
use Rattle.fut_blocks.specs.Plain as block
use Rattle.fut_blocks.specs.Rows.{Row as Told_row}
use Rattle.steps_simulate.specs.Covers.{Covers}
use Rattle.steps_simulate.proofs.Covers.{covers_exact, covers_more_words, covers_then, covers_each, covers_known_left, covers_known_right}
use Rattle.core_ir.specs.declared.block.Var.{Var}
use Rattle.core_ir.specs.declared.block.Atom.{Atom}
use Rattle.core_ir.specs.Bundles.{Row, rows_of, array_words}
use Rattle.core_ir.specs.Meaning.{Env, values_of, holds, kept, test_turn, act_means, body_means}
use Rattle.core_ir.specs.Plain.{Body, Filter}
use Rattle.core_values.specs.Components.{components, One_type, scalars, arrays, Regular, an_array, Components_of}
use Rattle.core_values.proofs.Counts.{counts_agree}
use Rattle.core_values.proofs.Selecting.{kept_agree}
use Rattle.core_values.proofs.Updating.{Is_row, listed_rows}
use Rattle.lowering.specs.Arrays.{array, bundle_of}
use Rattle.lowering.specs.Knowns.{Scope, width, knowns, names, New, Operand}
use Rattle.lowering.specs.Lowering.{truth_shape}
use Rattle.lowering.specs.Programs.{Is_data, Are_data, Are_components}
use Rattle.lowering.proofs.Deeds.{values_so, stood}
use Rattle.lowering.proofs.Functions.{one_value, array_found, rows_found, rows_are, regular_rows, means, job_covers}
use Rattle.lowering.proofs.Runs.{under_covers}
use Rattle.lowering.proofs.Stands.{Holds, Extends, operand_found}

-- ---- tests

-- a truth value as data
abbrev pub Is_truth : Bool → Datum → Type 0
Is_truth b d = d ≡ Scalar_datum (scalar.Bool b)

truth_scalar : (s : Scalar) → type_of s ≡ sort.Bool → Same_out Is_truth (truth_of_scalar s) (Val (Scalar_datum s))
truth_scalar (scalar.Bool b) e = same_value refl
truth_scalar (scalar.Int t n) e = absurd (let z : sort.Int t ≡ sort.Bool = e in cc)

truth_case : {t : ScalarType} (d : Datum) → t ≡ sort.Bool → One_type (Scalar_shape t) (shape_of d) → Same_out Is_truth (holds (flat_map components (d ∷ []))) (Val d)
unfolding components shape_of
truth_case (Scalar_datum s) e scalars = truth_scalar s e
truth_case (Tuple_datum ds) e x = elim x [ ]
truth_case (Record_datum fs) e x = elim x [ ]
truth_case (Array_datum row ds) e x = elim x [ ]

truth_same : {cs : Row} {vs : List Datum} → cs ≡ flat_map components vs → Are_data (truth_shape ∷ []) vs → Same_out Is_truth (holds cs) (source.the_one vs)
truth_same e (all_more {x' = d} i all_none) = subst (λ z. Same_out Is_truth (holds z) (Val d)) (sym e) (truth_case d refl i.typed)

truths_are : {ts : List Bool} {ds : List Datum} → All_same Is_truth ts ds → each_out truth_of_datum ds ≡ Val ts
truths_are all_none = refl
truths_are (all_more {x = t} {xs = ts} {xs' = ds} e a) = ap (λ z. and_then (truth_of_datum z) (λ y. and_then (each_out truth_of_datum ds) (λ ys. Val (y ∷ ys)))) e ∙ ap (λ z. and_then z (λ ys. Val (t ∷ ys))) (truths_are a)

alone_same : {h : Shape} {rs : List Row} {ds : List Datum} → All_same (Components_of h) rs ds → All_same (Are_components (h ∷ [])) rs (alone ds)
alone_same all_none = all_none
alone_same (all_more c a) = all_more (one_value c) (alone_same a)

every_sifted : (row : Shape) (b : Bool) (ds : List Datum) (ts : List Bool) → Every (Is_row row) ds → Every (Is_row row) (jobs.sifted b ds ts)
every_sifted row b [] ts e = tt
every_sifted row b (d ∷ ds) [] e = tt
every_sifted row true (d ∷ ds) (true ∷ ts) e = (e.0, every_sifted row true ds ts e.1)
every_sifted row true (d ∷ ds) (false ∷ ts) e = every_sifted row true ds ts e.1
every_sifted row false (d ∷ ds) (true ∷ ts) e = every_sifted row false ds ts e.1
every_sifted row false (d ∷ ds) (false ∷ ts) e = (e.0, every_sifted row false ds ts e.1)

sifted_data : {h row : Shape} (b : Bool) (ds : Datums) (ts : List Bool) → One_type h row → One_type row row → Regular (Array_datum row ds) → Is_data (array h) (Array_datum row (datums (jobs.sifted b (listed ds) ts)))
unfolding shape_of
sifted_data {row = row} b ds ts o m g = record { regular = an_array m (listed_rows row (jobs.sifted b (listed ds) ts) (every_sifted row b (listed ds) ts (regular_rows g))); typed = arrays o }

module _ (tight : Bool) (budget : ℕ) {d : Env} {n : ℕ} {sc : Scope} {env : Names Datum} (k : Holds d n sc env) where
  -- a test on a row
  pub test_covers : (x : ℕ) {h : Shape} {i : ℕ} {xs : List Var} {inner : Scope} (b : Body) (b' : block.Body) → New n xs (h ∷ []) i → bound (x ∷ []) (knowns (h ∷ []) (names xs)) sc ≡ Some inner
      → ((e : Env) (env' : Names Datum) → Extends n d e → Holds e i inner env' → Covers (Are_components (truth_shape ∷ [])) (body_means tight false budget b e) (source.body_means tight budget b' env'))
      → (cs : Row) (vs : List Datum) → Are_components (h ∷ []) cs vs → Covers Is_truth (test_turn (body_means tight false budget b) xs d cs) (source.function_of (source.body_means tight budget b') (x ∷ []) env vs)
  test_covers x b b' w i l cs vs a = covers_then (under_covers (x ∷ []) w i a k l) (λ cs vs r. covers_exact (truth_same r.are r.data_are))

  pub filter_covers : {a : Source_atom} {z : ℕ} {h : Shape} {us : List Atom} (r : Told_row) (told : Shape) (at : Place) (ps : List ℕ) (xs : List Var) (b : Body) (b' : block.Body) → source.row_shape env r ≡ Val told → Operand sc a (Array_shape z h) us
      → ((cs : Row) (vs : List Datum) → Are_components (h ∷ []) cs vs → Covers Is_truth (test_turn (body_means tight false budget b) xs d cs) (source.function_of (source.body_means tight budget b') ps env vs))
      → Covers (Are_components (array h ∷ [])) (act_means tight false budget (Filter at (bundle_of h us) xs b) d) (source.act_means tight budget (block.Job r prim.Filter at (a ∷ []) ps b') env)
  unfolding act_means job
  filter_covers {a} {h = h} {us} r told at ps xs b b' s p l =
      let g = array_found (operand_found k p) in
      let whole = Array_datum g.row g.rows in
      let bs = components whole in
      let finish : List Datum → Out Counted = truths (λ ts. counting whole (Val (Array_datum g.row (datums (jobs.sifted true (listed g.rows) ts))))) in
      let fn = source.function_of (source.body_means tight budget b') ps env in
      job_covers tight budget env r prim.Filter at (a ∷ []) ps b' (whole ∷ []) told (array h) _ (Val (Apply_each (alone (listed g.rows)) finish))
      (values_so (all_more (stood env a g.is) all_none)) s refl
      (covers_known_left (values_of d us) bs _ _ g.values
      (covers_known_left (rows_of false at (width h) bs) (map components (listed g.rows)) _ _ (rows_found g at)
      (covers_known_right (Val (Apply_each (alone (listed g.rows)) finish)) (Apply_each (alone (listed g.rows)) finish) (means tight fn) _ refl
      (covers_then (covers_each l (alone_same (rows_are g))) (λ ts ds c.
      let result = Array_datum g.row (datums (jobs.sifted true (listed g.rows) ts)) in
      let i : Is_data (array h) result = sifted_data true g.rows ts g.typed g.met g.regular in
      covers_known_left (kept false at true bs ts) (components result) (λ cs. gives (array_words bs) cs) _ (kept_agree false at true g.row g.rows ts g.regular)
      (covers_known_right (finish ds) (shape.array_words (shape_of whole), result) (λ r. gives r.0 r.1) _ (ap (λ z. and_then z (λ ts. counting whole (Val (Array_datum g.row (datums (jobs.sifted true (listed g.rows) ts)))))) (truths_are c))
      (covers_more_words (let e = counts_agree whole g.regular in omega (arith, e)) (same_value (record { are = refl; regular = i.regular; typed = i.typed })))))))))
