-- Functions on the rows of arrays: `map` and its kin.
use Rattle.std.proofs.Common.{◌≡◌, ℕ, List, [], ◌∷◌, Bool, false, map, length, refl, sym, ap, ◌∙◌, subst}
use Rattle.fut_scalar.specs.declared.place.Place.{Place}
use Rattle.fut_flat.specs.declared.prim.Primitive.{Primitive}
use Rattle.fut_value.specs.Data.{Shape, Datum, Array_datum, listed}
use Rattle.fut_value.specs.Leaves.{leaves}
use Rattle.fut_meaning.specs.Arrays.{Counted}
use Rattle.fut_meaning.specs.Jobs.{Applied, Apply_each, columns, mapped, job, array_of_results, finished}
use Rattle.fut_meaning.specs.Outcomes.{Out, Val, Fail, Wrong, and_then, the, Then, each_of}
use Rattle.fut_meaning.specs.Sames.{All_same, all_none, all_more}
use Rattle.fut_meaning.proofs.Safe.{Every}
use Rattle.fut_blocks.specs.declared.block.Atom.{Atom as Source_atom}
use Rattle.fut_blocks.specs.Meaning.{Names, bound}
use Rattle.fut_blocks.specs.Meaning as source
use Rattle.fut_blocks.specs.Plain as block
use Rattle.fut_blocks.specs.Rows.{Row as Told_row}
use Rattle.steps_simulate.specs.Covers.{Covers}
use Rattle.steps_simulate.proofs.Covers.{covers_then, covers_each, covers_known_left, covers_known_right, covers_report, covers_wrong}
use Rattle.core_ir.specs.declared.block.Var.{Var}
use Rattle.core_ir.specs.declared.block.Atom.{Atom}
use Rattle.core_ir.specs.Arrays.{rows_together, all_told}
use Rattle.core_ir.specs.Bundles.{Row, glued}
use Rattle.core_ir.specs.Meaning.{Env, Results, groups_of, source_rows, collected, counted, under, act_means, body_means}
use Rattle.core_ir.specs.Plain.{Bundle, Body, Of_rows, Map}
use Rattle.core_values.specs.Components.{components, One_type, arrays, Regular, Told, array_in, wide, all_arrays, All_arrays, no_array, array_and, Components_of}
use Rattle.core_values.proofs.Applying.{made_covers}
use Rattle.core_values.proofs.Same.{leaves_many}
use Rattle.core_values.proofs.Updating.{On_value}
use Rattle.core_values.proofs.Zipping.{side, sides, together, Row_of_each, columns_each}
use Rattle.lowering.specs.Arrays.{array, bundle_of, Array_operands, Is_map, is_map, is_map2, is_map3, is_map4, is_map5}
use Rattle.lowering.specs.Arrays as rule
use Rattle.lowering.specs.Knowns.{Scope}
use Rattle.lowering.specs.Programs.{Are_data, Are_components}
use Rattle.lowering.proofs.Functions.{covers_retyped, array_found, means, job_covers}
use Rattle.lowering.proofs.Records.{tuple_components}
use Rattle.lowering.proofs.Stands.{Holds, operand_found}
use Rattle.lowering.proofs.Telling.{Groups_read}
use Rattle.lowering.proofs.Types.{same_left, turned, one_then}

-- ---- the arrays

-- arrays of rows of these types
pub data Typed_arrays : List Shape → List Told → Type 0 where
  no_typed : Typed_arrays [] []
  typed_and : {h : Shape} {hs : List Shape} {a : Told} {rest : List Told} → One_type h a.0 → Typed_arrays hs rest → Typed_arrays (h ∷ hs) (a ∷ rest)

pub record Arrays_found (e : Env) (hs : List Shape) (rs : List Bundle) (o : Out (List Datum)) : Type 0 where
  pub list : List Told
  pub is : o ≡ Val (all_arrays list)
  pub regular : All_arrays list
  pub typed : Typed_arrays hs list
  pub groups : groups_of e (map (λ r. r.arrays) rs) ≡ Val (map components (all_arrays list))
  pub widths : map (λ r. r.width) rs ≡ map wide list

pub arrays_found : {d : Env} {n : ℕ} {sc : Scope} {env : Names Datum} {us : List Source_atom} {hs : List Shape} {rs : List Bundle} → Holds d n sc env → Array_operands sc us hs rs → Arrays_found d hs rs (source.values_of env us)
arrays_found k rule.no_array = record { list = []; is = refl; regular = no_array; typed = no_typed; groups = refl; widths = refl }
arrays_found {d} {env = env} k (rule.array_and {us = us} {h = h} {rs = rs} o os) =
    let f = array_found (operand_found k o) in
    let g = arrays_found k os in
    record {
      list = (f.row, f.rows) ∷ g.list;
      is = ap (λ z. and_then z (λ v. and_then (source.values_of env us) (λ vs. Val (v ∷ vs)))) f.is ∙ ap (λ z. and_then z (λ vs. Val (Array_datum f.row f.rows ∷ vs))) g.is;
      regular = array_and f.regular g.regular;
      typed = typed_and f.typed g.typed;
      groups = ap (λ z. and_then z (λ cs. and_then (groups_of d (map (λ r. r.arrays) rs)) (λ css. Val (cs ∷ css)))) f.values ∙ ap (λ z. and_then z (λ css. Val (components (Array_datum f.row f.rows) ∷ css))) g.groups;
      widths = ap (λ z. z ∷ map (λ r. r.width) rs) (leaves_many f.typed) ∙ ap (λ z. length (leaves f.row) ∷ z) g.widths;
    }

-- one row of each
each_typed : {hs : List Shape} {list : List Told} (row : List Datum) → Typed_arrays hs list → Row_of_each list row → Are_data hs row
each_typed [] no_typed e = all_none
each_typed (d ∷ row) no_typed e = absurd e
each_typed [] (typed_and o t) e = absurd e
each_typed (d ∷ row) (typed_and {h = h} o t) e = all_more (record { regular = e.0.regular; typed = subst (λ z. One_type h z) (sym e.0.shaped) o }) (each_typed row t e.1)

sides_same : {hs : List Shape} {list : List Told} (rs : List (List Datum)) → Typed_arrays hs list → Every (Row_of_each list) rs → All_same (Are_components hs) (map side rs) rs
unfolding components
sides_same [] t e = all_none
sides_same (r ∷ rs) t e = all_more (record { are = tuple_components r; data_are = each_typed r t e.0 }) (sides_same rs t e.1)

-- ---- results, as an array

module _ (at : Place) {e : Env} {h : Shape} (told : Shape) (o : One_type h told) {wss : List (List Atom)} (w : Groups_read e wss (leaves told)) where
  pub collected_is : (rows : List Row) → collected false at e wss rows ≡ glued false at (leaves told) rows
  collected_is rows = ap (λ z. and_then z (λ css. and_then (all_told css) (λ ds. glued false at ds rows))) w.values ∙ ap (λ z. and_then z (λ ds. glued false at ds rows)) w.told

  pub results_cover : {rows : List Row} {ds : List Datum} → All_same (Components_of told) rows ds → Covers (Components_of (array h)) (counted (collected false at e wss rows)) (finished (array_of_results false told at) ds)
  results_cover {rows} {ds} a =
      subst (λ z. Covers (Components_of (array h)) (counted z) (finished (array_of_results false told at) ds)) (sym (collected_is rows))
      (covers_retyped (arrays o) (made_covers false at told (same_left (turned o)) a))

-- ---- the whole

over_rows : (tight : Bool) {k : Shape} (K : List Row → Results) (f : Applied) (finish : List Datum → Out Counted) (o : Out (List (List Datum))) (P : List (List Datum) → Type 0) → On_value P o → ((rs : List (List Datum)) → P rs → Covers (Components_of k) (K (map side rs)) (Then (each_of f rs) (finished finish))) → Covers (Components_of k) (Then (the (sides o)) K) (Then (the (and_then o (λ rs. Val (Apply_each rs finish)))) (means tight f))
over_rows tight K f finish (Val rs) P g l = covers_known_left (Val (map side rs)) (map side rs) K _ refl (covers_known_right (Val (Apply_each rs finish)) (Apply_each rs finish) (means tight f) _ refl (l rs (g rs refl)))
over_rows tight K f finish (Fail r) P g l = covers_report r K (means tight f)
over_rows tight K f finish Wrong P g l = covers_wrong K (means tight f)

map_job : {p : Primitive} (told : Shape) (at : Place) (ds : List Datum) → Is_map p → job false told p at ds ≡ mapped false told at ds
unfolding job
map_job told at ds is_map = refl
map_job told at ds is_map2 = refl
map_job told at ds is_map3 = refl
map_job told at ds is_map4 = refl
map_job told at ds is_map5 = refl

-- the rows of several arrays side by side, or the report that they do not fit
pub rows_side : (d : Env) (at : Place) (rs : List Bundle) (a : Told) (rest : List Told) → Regular (array_in a) → All_arrays rest → groups_of d (map (λ r. r.arrays) rs) ≡ Val (map components (all_arrays (a ∷ rest))) → map (λ r. r.width) rs ≡ map wide (a ∷ rest) → source_rows false at d (Of_rows rs) ≡ sides (columns false at (a.0, listed a.1) (all_arrays rest))
rows_side d at rs a rest g v e q = ap (λ z. and_then z (rows_together false at (map (λ r. r.width) rs))) e ∙ ap (λ z. rows_together false at z (map components (all_arrays (a ∷ rest)))) q ∙ together false at a rest g v

module _ (tight : Bool) (budget : ℕ) {d : Env} {n : ℕ} {sc : Scope} {env : Names Datum} (k : Holds d n sc env) where
  pub map_covers : {p : Primitive} {u : Source_atom} {us : List Source_atom} {hs : List Shape} {h l : Shape} {rs : List Bundle} {wss : List (List Atom)} (r : Told_row) (at : Place) (ps : List ℕ) (xs : List Var) (b : Body) (b' : block.Body) (told : Shape) → Is_map p → Array_operands sc (u ∷ us) hs rs → source.row_shape env r ≡ Val told → One_type h told → One_type h l → Groups_read d wss (leaves told)
      → ((cs : Row) (vs : List Datum) → Are_components hs cs vs → Covers (Components_of l) (under xs cs d (body_means tight false budget b)) (source.function_of (source.body_means tight budget b') ps env vs))
      → Covers (Are_components (array h ∷ [])) (act_means tight false budget (Map at (Of_rows rs) wss xs b) d) (source.act_means tight budget (block.Job r p at (u ∷ us) ps b') env)
  unfolding act_means
  map_covers {p} {u} {us} {h = h} {l} {wss = wss} r at ps xs b b' told m (rule.array_and {h = h1} {hs = hs} {ws = ws} {rs = rs} x q) e o t w fn =
      let f = array_found (operand_found k x) in
      let g = arrays_found k q in
      let a : Told = (f.row, f.rows) in
      let K : List Row → Results = λ rows. Then (each_of (λ row. under xs row d (body_means tight false budget b)) rows) (λ out. counted (collected false at d wss out)) in
      let F = source.function_of (source.body_means tight budget b') ps env in
      job_covers tight budget env r p at (u ∷ us) ps b' (Array_datum f.row f.rows ∷ all_arrays g.list) told (array h) _ (mapped false told at (Array_datum f.row f.rows ∷ all_arrays g.list))
      (ap (λ z. and_then z (λ v. and_then (source.values_of env us) (λ vs. Val (v ∷ vs)))) f.is ∙ ap (λ z. and_then z (λ vs. Val (Array_datum f.row f.rows ∷ vs))) g.is) e (map_job told at (Array_datum f.row f.rows ∷ all_arrays g.list) m)
      (subst (λ z. Covers (Components_of (array h)) (Then (the z) K) (Then (the (mapped false told at (Array_datum f.row f.rows ∷ all_arrays g.list))) (means tight F)))
      (sym (rows_side d at (bundle_of h1 ws ∷ rs) a g.list f.regular g.regular
      (ap (λ z. and_then z (λ cs. and_then (groups_of d (map (λ r. r.arrays) rs)) (λ css. Val (cs ∷ css)))) f.values ∙ ap (λ z. and_then z (λ css. Val (components (Array_datum f.row f.rows) ∷ css))) g.groups)
      (ap (λ z. z ∷ map (λ r. r.width) rs) (leaves_many f.typed) ∙ ap (λ z. length (leaves f.row) ∷ z) g.widths)))
      (over_rows tight K F (array_of_results false told at) (columns false at (f.row, listed f.rows) (all_arrays g.list)) (Every (Row_of_each (a ∷ g.list))) (columns_each false at a g.list f.regular g.regular)
      (λ args v. covers_then (covers_each (λ cs vs c. covers_retyped (one_then (turned o) t) (fn cs vs c)) (sides_same args (typed_and {a = a} f.typed g.typed) v)) (λ rows ds c. results_cover at told o w c))))
