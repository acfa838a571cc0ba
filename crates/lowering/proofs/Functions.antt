-- Functions of primitives, and jobs: where what a function of Core gives is covered, so is what it is applied for.
use Rattle.std.proofs.Common.{◌≡◌, ℕ, List, [], ◌∷◌, Bool, false, Some, map, refl, sym, ap, ◌∙◌, subst}
use Rattle.std.specs.Prelude.{flat_map}
use Rattle.std.proofs.lemmas.List.{append-nil}
use Rattle.fut_scalar.specs.declared.place.Place.{Place}
use Rattle.fut_flat.specs.declared.prim.Primitive.{Primitive}
use Rattle.fut_value.specs.Data.{Shape, Array_shape, Datum, Scalar_datum, Tuple_datum, Record_datum, Array_datum, Datums, listed, shape_of}
use Rattle.fut_value.specs.Leaves.{leaves}
use Rattle.fut_meaning.specs.Jobs.{Job, Applied, job_means, job}
use Rattle.fut_meaning.specs.Outcomes.{Out, Val, and_then, Rel, gives, the, Then}
use Rattle.fut_meaning.specs.Sames.{All_same, all_none, all_more, Same_out, same_value}
use Rattle.fut_meaning.proofs.Safe.{Every}
use Rattle.fut_blocks.specs.declared.block.Atom.{Atom as Source_atom}
use Rattle.fut_blocks.specs.Meaning.{Names, bound}
use Rattle.fut_blocks.specs.Meaning as source
use Rattle.fut_blocks.specs.Plain as block
use Rattle.fut_blocks.specs.Rows.{Row as Told_row}
use Rattle.steps_simulate.specs.Covers.{Covers}
use Rattle.steps_simulate.proofs.Alike.{Alike, alike_grouped, alike_value, alike_given, alike_back}
use Rattle.steps_simulate.proofs.Covers.{covers_exact, covers_then, covers_left, covers_right, covers_also, covers_known_right}
use Rattle.core_ir.specs.declared.block.Var.{Var}
use Rattle.core_ir.specs.declared.block.Atom.{Atom}
use Rattle.core_ir.specs.Bundles.{Row, rows_of, row_sizes}
use Rattle.core_ir.specs.Meaning.{Env, values_of, under, body_means}
use Rattle.core_ir.specs.Plain.{Body}
use Rattle.core_values.specs.Components.{components, One_type, arrays, Regular, an_array, Components_of}
use Rattle.core_values.proofs.Rows.{rows_come_out}
use Rattle.core_values.proofs.Same.{leaves_many}
use Rattle.core_values.proofs.Updating.{Is_row, rows_listed, sizes_behind}
use Rattle.lowering.specs.Knowns.{Scope, width, knowns, names, New}
use Rattle.lowering.specs.Programs.{Are_data, Are_components}
use Rattle.lowering.proofs.Runs.{under_covers}
use Rattle.lowering.proofs.Stands.{Have, Holds, Found, Extends, values_are}
use Rattle.lowering.proofs.Types.{one_then}

-- ---- one value

pub one_value : {h : Shape} {cs : Row} {d : Datum} → Components_of h cs d → Are_components (h ∷ []) cs (d ∷ [])
one_value {d = d} c = record { are = c.are ∙ sym (append-nil (components d)); data_are = all_more (record { regular = c.regular; typed = c.typed }) all_none }

pub retyped : {h k : Shape} {cs : Row} {d : Datum} → One_type k h → Components_of h cs d → Components_of k cs d
retyped o c = record { are = c.are; regular = c.regular; typed = one_then o c.typed }

pub covers_retyped : {h k : Shape} {m : Rel Row} {m' : Rel Datum} → One_type k h → Covers (Components_of h) m m' → Covers (Components_of k) m m'
covers_retyped o s = covers_also (λ cs d c. retyped o c) s

pub only_same : {h : Shape} {cs : Row} {vs : List Datum} → cs ≡ flat_map components vs → Are_data (h ∷ []) vs → Same_out (Components_of h) (Val cs) (source.the_one vs)
only_same {h} e (all_more {x' = d} i all_none) = same_value (record { are = e ∙ append-nil (components d); regular = i.regular; typed = i.typed })

-- ---- functions

module _ (tight : Bool) (budget : ℕ) where
  -- of arguments of these types, giving one value
  pub function_covers : (ps : List ℕ) {d : Env} {n k : ℕ} {hs : List Shape} {l : Shape} {xs : List Var} {cs : Row} {vs : List Datum} {sc inner : Scope} {env : Names Datum} (b : Body) (b' : block.Body)
      → New n xs hs k → bound ps (knowns hs (names xs)) sc ≡ Some inner → Are_components hs cs vs → Holds d n sc env
      → ((e : Env) (env' : Names Datum) → Extends n d e → Holds e k inner env' → Covers (Are_components (l ∷ [])) (body_means tight false budget b e) (source.body_means tight budget b' env'))
      → Covers (Components_of l) (under xs cs d (body_means tight false budget b)) (source.function_of (source.body_means tight budget b') ps env vs)
  function_covers ps b b' w i a h l = covers_left (alike_given _) (covers_then (under_covers ps w i a h l) (λ cs vs r. covers_exact (only_same r.are r.data_are)))

-- new variables and one name for a value, and what follows under them
pub row_covers : (x : ℕ) {B B' : Type 0} {q : B → B' → Type 0} {d : Env} {n m : ℕ} {h : Shape} {xs : List Var} {cs : Row} {v : Datum} {sc inner : Scope} {env : Names Datum} {k : Env → Rel B} {k' : Names Datum → Rel B'}
    → New n xs (h ∷ []) m → bound (x ∷ []) (knowns (h ∷ []) (names xs)) sc ≡ Some inner → Components_of h cs v → Holds d n sc env
    → ((e : Env) (env' : Names Datum) → Extends n d e → Holds e m inner env' → Covers q (k e) (k' env')) → Covers q (under xs cs d k) (k' ((x, v) ∷ env))
row_covers x {v = v} {env = env} {k' = k'} w b p h l = covers_right (alike_value ((x, v) ∷ env) k') (under_covers (x ∷ []) w b (one_value p) h l)

-- ---- arrays

-- an array that atoms stand for, as its rows
pub record Array_found (e : Env) (h : Shape) (us : List Atom) (o : Out Datum) : Type 0 where
  pub row : Shape
  pub rows : Datums
  pub is : o ≡ Val (Array_datum row rows)
  pub regular : Regular (Array_datum row rows)
  pub typed : One_type h row
  pub met : One_type row row
  pub values : values_of e us ≡ Val (components (Array_datum row rows))

array_case : {e : Env} {n z : ℕ} {h : Shape} {us : List Atom} {o : Out Datum} (d : Datum) → Regular d → One_type (Array_shape z h) (shape_of d) → Have e n us (components d) → o ≡ Val d → Array_found e h us o
unfolding shape_of
array_case (Array_datum row ds) (an_array m a) (arrays o) k q = record { row = row; rows = ds; is = q; regular = an_array m a; typed = o; met = m; values = values_are k }
array_case (Scalar_datum s) r x k q = elim x [ ]
array_case (Tuple_datum ds) r x k q = elim x [ ]
array_case (Record_datum fs) r x k q = elim x [ ]

pub array_found : {e : Env} {n z : ℕ} {h : Shape} {us : List Atom} {o : Out Datum} → Found e n (Array_shape z h) us o → Array_found e h us o
array_found f = array_case f.datum f.is_data.regular f.is_data.typed f.have f.is

row_list : {h row : Shape} {ds : List Datum} → One_type h row → Every (Is_row row) ds → All_same (Components_of h) (map components ds) ds
row_list {ds = []} o e = all_none
row_list {h} {ds = d ∷ ds} o e = all_more (record { are = refl; regular = e.0.regular; typed = subst (λ z. One_type h z) (sym e.0.shaped) o }) (row_list o e.1)

pub regular_rows : {row : Shape} {ds : Datums} → Regular (Array_datum row ds) → Every (Is_row row) (listed ds)
regular_rows (an_array m a) = rows_listed a

module _ {e : Env} {h : Shape} {us : List Atom} {o : Out Datum} (f : Array_found e h us o) where
  pub rows_found : (at : Place) → rows_of false at (width h) (components (Array_datum f.row f.rows)) ≡ Val (map components (listed f.rows))
  rows_found at = ap (λ z. rows_of false at z (components (Array_datum f.row f.rows))) (leaves_many f.typed) ∙ rows_come_out false at f.row f.rows f.regular

  pub rows_are : All_same (Components_of h) (map components (listed f.rows)) (listed f.rows)
  rows_are = row_list f.typed (regular_rows f.regular)

  -- of the shape that the array tells
  pub rows_own : All_same (Components_of f.row) (map components (listed f.rows)) (listed f.rows)
  rows_own = row_list f.met (regular_rows f.regular)

  pub sizes_found : row_sizes (width h) (components (Array_datum f.row f.rows)) ≡ leaves f.row
  sizes_found = ap (λ z. row_sizes z (components (Array_datum f.row f.rows))) (leaves_many f.typed) ∙ sizes_behind f.row f.rows

-- ---- jobs

abbrev pub means : Bool → Applied → Job → Rel Datum
means tight f j = job_means tight (λ any ne ds. Unit {0}) (λ ws. Unit {0}) f j

alike_jobs : {A B C : Type 0} (m : Rel A) (k : A → Rel B) (g : B → C) → Alike (Then (Then m k) (λ b. gives 0 (g b))) (Then m (λ a. Then (k a) (λ b. gives 0 (g b))))
alike_jobs m k g = alike_back (alike_grouped m k (λ b. gives 0 (g b)))

module _ (tight : Bool) (budget : ℕ) where
  pub job_covers : (env : Names Datum) (r : Told_row) (p : Primitive) (at : Place) (us : List Source_atom) (xs : List ℕ) (b : block.Body) (vs : List Datum) (h k : Shape) (m : Rel Row) (o : Out Job)
      → source.values_of env us ≡ Val vs → source.row_shape env r ≡ Val h → job false h p at vs ≡ o
      → Covers (Components_of k) m (Then (the o) (means tight (source.function_of (source.body_means tight budget b) xs env))) → Covers (Are_components (k ∷ [])) m (source.act_means tight budget (block.Job r p at us xs b) env)
  unfolding source.act_means
  job_covers env r p at us xs b vs h k m o e s t c =
      covers_known_right (source.values_of env us) vs (λ vs. Then (the (and_then (source.row_shape env r) (λ h. job false h p at vs))) (source.job_given tight (source.function_of (source.body_means tight budget b) xs env))) _ e
      (subst (λ z. Covers (Are_components (k ∷ [])) m (Then (the z) (source.job_given tight (source.function_of (source.body_means tight budget b) xs env)))) (sym (ap (λ z. and_then z (λ h. job false h p at vs)) s ∙ t))
      (covers_left (alike_given m)
      (covers_right (alike_jobs (the o) (means tight (source.function_of (source.body_means tight budget b) xs env)) (λ d. d ∷ []))
      (covers_then c (λ cs d p. covers_exact (same_value (one_value p)))))))
