-- Loops over rows, reductions and scans.
use Rattle.std.proofs.Common.{◌≡◌, ℕ, ◌+◌, ◌≤◌, List, [], ◌∷◌, Bool, true, false, Some, map, refl, sym, ap, ◌∙◌, subst, arith}
use Rattle.std.specs.Prelude.{flat_map}
use Rattle.fut_scalar.specs.declared.place.Place.{Place}
use Rattle.fut_flat.specs.declared.prim.Primitive.TheVariants as prim
use Rattle.fut_value.specs.Data.{Shape, Array_shape, Datum, Array_datum, Datums, listed, shape_of}
use Rattle.fut_value.specs.Data as shape
use Rattle.fut_meaning.specs.Arrays.{fresh}
use Rattle.fut_meaning.specs.Arrays as meaning
use Rattle.fut_meaning.specs.Jobs.{Applied, two_of, Reduce_each, Reduces, part_at, job, all_of, order_kept, array_of_results, prefixes_on, finished}
use Rattle.fut_meaning.specs.Outcomes.{Out, Val, Fail, Wrong, and_then, Rel, exact, gives, the, Then, Both, both, stops_left, sticks_left, Bracket}
use Rattle.fut_meaning.specs.Sames.{All_same, all_none, all_more, Same_out, same_value, same_report, same_wrong}
use Rattle.fut_blocks.specs.declared.block.Atom.{Atom as Source_atom}
use Rattle.fut_blocks.specs.Meaning.{Names, bound}
use Rattle.fut_blocks.specs.Meaning as source
use Rattle.fut_blocks.specs.Plain as block
use Rattle.fut_blocks.specs.Rows.{Row as Told_row}
use Rattle.steps_simulate.specs.Covers.{Covers, Covered, covered}
use Rattle.steps_simulate.proofs.Covers.{covers_exact, covers_more_words, covers_then, covers_turns, covers_left, covers_right, covers_known_left, covers_known_right}
use Rattle.steps_simulate.proofs.Alike.{alike_same, alike_then, alike_value, alike_given, alike_back}
use Rattle.core_ir.specs.declared.block.Var.{Var}
use Rattle.core_ir.specs.declared.block.Atom.{Atom}
use Rattle.core_ir.specs.Bundles.{Row, array_words, rows_of, glued}
use Rattle.core_ir.specs.Lists as lists
use Rattle.core_ir.specs.Meaning.{Env, Results, values_of, counted, Reduction, reduction, act_means, function_means, body_means}
use Rattle.core_ir.specs.Plain.{Body, Of_two, Reduce, Scan, For_in}
use Rattle.core_values.specs.Components.{components, arrays, Components_of}
use Rattle.core_values.proofs.Applying.{Any_operator, reductions_cover, scan_covers}
use Rattle.core_values.proofs.Counts.{counts_agree}
use Rattle.lowering.specs.Arrays.{array, Row_in, reduction_of, bundle_of}
use Rattle.lowering.specs.Knowns.{Scope, width, knowns, names, New, Operand}
use Rattle.lowering.specs.Programs.{Are_components}
use Rattle.lowering.proofs.Deeds.{values_so, stood, row_shaped}
use Rattle.lowering.proofs.Functions.{only_same, covers_retyped, retyped, row_covers, Array_found, array_found, rows_found, rows_are, rows_own, sizes_found, means, job_covers}
use Rattle.lowering.proofs.Runs.{under_covers}
use Rattle.lowering.proofs.Stands.{Holds, Found, All_found, Extends, extends_on, values_are, operand_found, new_grows}
use Rattle.lowering.proofs.Types.{turned}

module _ (tight : Bool) (budget : ℕ) (d : Env) (env : Names Datum) where
  -- a turn for each row
  pub for_in_covers : (r : Source_atom) (us : List Source_atom) {hs : List Shape} {ws vs : List Atom} {h : Shape} {n k l : ℕ} {sc inner row : Scope} (at : Place) (ps : List ℕ) (x : ℕ) (xs ys : List Var) (b : Body) (b' : block.Body)
      → All_found d n hs ws (source.values_of env us) → Array_found d h vs (source.value_of env r) → Holds d n sc env → New n xs hs k → bound ps (knowns hs (names xs)) sc ≡ Some inner → New k ys (h ∷ []) l → bound (x ∷ []) (knowns (h ∷ []) (names ys)) inner ≡ Some row
      → ((e : Env) (env' : Names Datum) → Extends n d e → Holds e l row env' → Covers (Are_components hs) (body_means tight false budget b e) (source.body_means tight budget b' env'))
      → Covers (Are_components hs) (act_means tight false budget (For_in at xs ws ys (bundle_of h vs) b) d) (source.act_means tight budget (block.Over ps us x r b') env)
  unfolding act_means source.act_means
  for_in_covers r us {hs} {ws} {vs} {h} at ps x xs ys b b' f g k w q v t hb =
      covers_known_left (values_of d ws) (flat_map components f.list) _ _ (values_are f.have)
      (covers_known_right (source.values_of env us) f.list (source.row_turns (source.body_means tight budget b') ps x env r) _ f.is
      (covers_known_left (and_then (values_of d vs) (rows_of false at (width h))) (map components (listed g.rows)) _ _ (ap (λ z. and_then z (rows_of false at (width h))) g.values ∙ rows_found g at)
      (covers_known_right (and_then (source.value_of env r) meaning.rows_of) (g.row, listed g.rows) _ _ (ap (λ z. and_then z meaning.rows_of) g.is)
      (covers_turns (λ row a cs vs p c. under_covers ps w q c k (λ e env' x1 h1. row_covers x v t p h1 (λ e2 env2 x2 h2. hb e2 env2 (extends_on (new_grows w) x1 x2) h2)))
      (rows_are g) (flat_map components f.list) f.list (record { are = refl; data_are = f.are_data })))))

-- ---- operators

abbrev one_of : List Datum → Rel Datum
one_of ws = the (source.the_one ws)

module _ (tight : Bool) (budget : ℕ) {d : Env} {n : ℕ} {sc : Scope} {env : Names Datum} (k : Holds d n sc env) where
  -- an operator on data of a type
  pub operator_covers : (x y : ℕ) {h : Shape} {i j : ℕ} {xs ys : List Var} {mid inner : Scope} (b : Body) (b' : block.Body) → New n xs (h ∷ []) i → New i ys (h ∷ []) j → bound (x ∷ []) (knowns (h ∷ []) (names xs)) sc ≡ Some mid → bound (y ∷ []) (knowns (h ∷ []) (names ys)) mid ≡ Some inner
      → ((e : Env) (env' : Names Datum) → Extends n d e → Holds e j inner env' → Covers (Are_components (h ∷ [])) (body_means tight false budget b e) (source.body_means tight budget b' env'))
      → (p q : Row) (a c : Datum) → Components_of h p a → Components_of h q c → Covers (Components_of h) (function_means tight false budget (Of_two xs ys b) d p q) (two_of (source.function_of (source.body_means tight budget b') (x ∷ y ∷ []) env) a c)
  unfolding function_means
  operator_covers x y b b' w v t u hb p q a c r s =
      covers_right (alike_then (alike_back (alike_value ((y, c) ∷ ((x, a) ∷ env)) (source.body_means tight budget b'))) (λ ws. alike_same (one_of ws)))
      (row_covers x {k' = λ env1. Then (source.body_means tight budget b' ((y, c) ∷ env1)) one_of} w t r k (λ e env1 x1 h1.
      row_covers y {k' = λ env2. Then (source.body_means tight budget b' env2) one_of} v u s h1 (λ e2 env2 x2 h2.
      covers_left (alike_given _) (covers_then (hb e2 env2 (extends_on (new_grows w) x1 x2) h2) (λ cs vs z. covers_exact (only_same z.are z.data_are))))))

-- ---- reductions

-- one of a list of one
alone_goes : {A : Type 0} (m : Rel A) (o : Out A) (f : ℕ) → m o f → Covered (λ a xs. xs ≡ a ∷ []) (Both m (gives 0 []) (λ y ys. gives 0 (y ∷ ys))) o f
alone_goes m (Val a) f x = covered (Val (a ∷ [])) (f + 0 + 0) (both x exact exact) (omega arith) (same_value refl)
alone_goes m (Fail r) f x = covered (Fail r) f (stops_left x) (omega arith) same_report
alone_goes m Wrong f x = covered Wrong f (sticks_left x) (omega arith) same_wrong

any_order : {tight : Bool} {op : Row → Row → Results} {ne : Row} {rs : List Row} (any : Bool) (o : Out Row) (f : ℕ) → Reduction tight false op ne rs o f → Reduction tight any op ne rs o f
any_order false o f x = x
any_order {tight} {op} {ne} {rs} true _ _ (reduction {some = some} {o} {f} e x) = reduction order_kept (subst (λ z. Bracket tight op ne z o f) (sym e) x)

module _ (tight any : Bool) {h : Shape} (op : Row → Row → Results) (f : Applied) (l : (p q : Row) (a c : Datum) → Components_of h p a → Components_of h q c → Covers (Components_of h) (op p q) (two_of f a c)) {ne : Row} {ne' : Datum} (z : Components_of h ne ne') where
  one_reduction : {rs : List Row} {ds : List Datum} → All_same (Components_of h) rs ds → Covers (λ row es. All_same (Components_of h) (row ∷ []) es) (Reduction tight false op ne rs) (all_of (Reduces tight any Any_operator f ne') (ds ∷ []))
  one_reduction {rs} {ds} a = record { each = λ o g x. on o g (alone_goes (Reduction tight any op ne rs) o g (any_order any o g x)) }
    where
      by : (o : Out Row) (g : ℕ) (o' : Out (List Row)) (f' : ℕ) → g ≤ f' → Same_out (λ a xs. xs ≡ a ∷ []) o o' → Covered (All_same (Components_of h)) (all_of (Reduces tight any Any_operator f ne') (ds ∷ [])) o' f' → Covered (λ row es. All_same (Components_of h) (row ∷ []) es) (all_of (Reduces tight any Any_operator f ne') (ds ∷ [])) o g
      by o g o' f' le same_report (covered p k y le' same_report) = covered p k y (omega (arith, le, le')) same_report
      by o g o' f' le same_wrong (covered p k y le' same_wrong) = covered p k y (omega (arith, le, le')) same_wrong
      by (Val row) g (Val rows) f' le (same_value e) (covered p k y le' (same_value {a' = es} s)) = covered p k y (omega (arith, le, le')) (same_value (subst (λ z. All_same (Components_of h) z es) e s))

      on : (o : Out Row) (g : ℕ) → Covered (λ a xs. xs ≡ a ∷ []) (all_of (Reduction tight any op ne) (rs ∷ [])) o g → Covered (λ row es. All_same (Components_of h) (row ∷ []) es) (all_of (Reduces tight any Any_operator f ne') (ds ∷ [])) o g
      on o g (covered o' f' x le s) = by o g o' f' le s ((reductions_cover tight any h op f l z (all_more a all_none)).each o' f' x)

  first_part : {row : Row} {es : List Datum} → All_same (Components_of h) (row ∷ []) es → Covers (Components_of h) (gives (array_words row) row) (finished (λ ds. and_then (part_at 0 ds) fresh) es)
  first_part (all_more {x' = e} c all_none) =
      covers_known_right (Val (shape.array_words (shape_of e), e)) (shape.array_words (shape_of e), e) (λ r. gives r.0 r.1) _ refl
      (subst (λ y. Covers (Components_of h) (gives (array_words y) y) (gives (shape.array_words (shape_of e)) e)) (sym c.are)
      (covers_more_words (let q = counts_agree e c.regular in omega (arith, q)) (same_value (record { are = refl; regular = c.regular; typed = c.typed }))))

  pub reduce_covers : {rs : List Row} {ds : List Datum} → All_same (Components_of h) rs ds → Covers (Components_of h) (Then (Reduction tight false op ne rs) (λ row. gives (array_words row) row)) (means tight f (Reduce_each any ne' (ds ∷ []) (λ ds. and_then (part_at 0 ds) fresh)))
  reduce_covers a = covers_then (one_reduction a) (λ row es s. first_part s)

reduction_job : (any : Bool) (told : Shape) (at : Place) (ne : Datum) (row : Shape) (ds : Datums) → job false told (reduction_of any) at (ne ∷ Array_datum row ds ∷ []) ≡ Val (Reduce_each any ne (listed ds ∷ []) (λ ds. and_then (part_at 0 ds) fresh))
unfolding job
reduction_job false told at ne row ds = refl
reduction_job true told at ne row ds = refl

module _ (tight : Bool) (budget : ℕ) {d : Env} {n : ℕ} {sc : Scope} {env : Names Datum} (k : Holds d n sc env) where
  neutral : {h : Shape} {zs : List Atom} {o : Out Datum} (f : Found d n h zs o) → Components_of h (components f.datum) f.datum
  neutral f = record { are = refl; regular = f.is_data.regular; typed = f.is_data.typed }

  pub reduction_covers : (any : Bool) {z a : Source_atom} {h : Shape} {m : ℕ} {zs us : List Atom} (r : Told_row) (at : Place) (ps : List ℕ) (xs ys : List Var) (b : Body) (b' : block.Body) → Operand sc z h zs → Operand sc a (Array_shape m h) us → Row_in sc r
      → ((p q : Row) (a c : Datum) → Components_of h p a → Components_of h q c → Covers (Components_of h) (function_means tight false budget (Of_two xs ys b) d p q) (two_of (source.function_of (source.body_means tight budget b') ps env) a c))
      → Covers (Are_components (h ∷ [])) (act_means tight false budget (Reduce at zs (bundle_of h us) (Of_two xs ys b)) d) (source.act_means tight budget (block.Job r (reduction_of any) at (z ∷ a ∷ []) ps b') env)
  unfolding act_means job
  reduction_covers any {z} {a} {h} {zs = zs} {us} r at ps xs ys b b' p q i l =
      let f = operand_found k p in
      let g = array_found (operand_found k q) in
      let s = row_shaped k r i in
      job_covers tight budget env r (reduction_of any) at (z ∷ a ∷ []) ps b' (f.datum ∷ Array_datum g.row g.rows ∷ []) s.shape h _ (Val (Reduce_each any f.datum (listed g.rows ∷ []) (λ ds. and_then (part_at 0 ds) fresh)))
      (values_so (all_more (stood env z f.is) (all_more (stood env a g.is) all_none))) s.is (reduction_job any s.shape at f.datum g.row g.rows)
      (covers_known_left (values_of d zs) (components f.datum) _ _ (values_are f.have)
      (covers_known_left (values_of d us) (components (Array_datum g.row g.rows)) _ _ g.values
      (covers_known_left (rows_of false at (width h) (components (Array_datum g.row g.rows))) (map components (listed g.rows)) _ _ (rows_found g at)
      (covers_known_right _ (Reduce_each any f.datum (listed g.rows ∷ []) (λ ds. and_then (part_at 0 ds) fresh)) _ _ refl
      (reduce_covers tight any (function_means tight false budget (Of_two xs ys b) d) (source.function_of (source.body_means tight budget b') ps env) l (neutral f) (rows_are g))))))

  pub scan_act_covers : {z a : Source_atom} {h : Shape} {m : ℕ} {zs us : List Atom} (r : Told_row) (at : Place) (ps : List ℕ) (xs ys : List Var) (b : Body) (b' : block.Body) → Operand sc z h zs → Operand sc a (Array_shape m h) us → Row_in sc r
      → ((p q : Row) (a c : Datum) → Components_of h p a → Components_of h q c → Covers (Components_of h) (function_means tight false budget (Of_two xs ys b) d p q) (two_of (source.function_of (source.body_means tight budget b') ps env) a c))
      → Covers (Are_components (array h ∷ [])) (act_means tight false budget (Scan at zs (bundle_of h us) (Of_two xs ys b)) d) (source.act_means tight budget (block.Job r prim.Scan at (z ∷ a ∷ []) ps b') env)
  unfolding act_means job
  scan_act_covers {z} {a} {h} {zs = zs} {us} r at ps xs ys b b' p q i l =
      let f = operand_found k p in
      let g = array_found (operand_found k q) in
      let s = row_shaped k r i in
      let op = function_means tight false budget (Of_two xs ys b) d in
      let fn = source.function_of (source.body_means tight budget b') ps env in
      let own = retyped (turned g.typed) (neutral f) in
      job_covers tight budget env r prim.Scan at (z ∷ a ∷ []) ps b' (f.datum ∷ Array_datum g.row g.rows ∷ []) s.shape (array h) _ (Val (Reduce_each false f.datum (prefixes_on [] (listed g.rows)) (array_of_results false g.row at)))
      (values_so (all_more (stood env z f.is) (all_more (stood env a g.is) all_none))) s.is refl
      (covers_known_left (values_of d zs) (components f.datum) _ _ (values_are f.have)
      (covers_known_left (values_of d us) (components (Array_datum g.row g.rows)) _ _ g.values
      (covers_known_left (rows_of false at (width h) (components (Array_datum g.row g.rows))) (map components (listed g.rows)) _ _ (rows_found g at)
      (covers_known_right _ (Reduce_each false f.datum (prefixes_on [] (listed g.rows)) (array_of_results false g.row at)) _ _ refl
      (subst (λ y. Covers (Components_of (array h)) (Then (all_of (Reduction tight false op (components f.datum)) (lists.prefixes_on [] (map components (listed g.rows)))) (λ rows. counted (glued false at y rows))) (means tight fn (Reduce_each false f.datum (prefixes_on [] (listed g.rows)) (array_of_results false g.row at)))) (sym (sizes_found g))
      (covers_retyped (arrays g.typed)
      (scan_covers tight false at g.row op fn g.met (λ p q a c r s. covers_retyped (turned g.typed) (l p q a c (retyped g.typed r) (retyped g.typed s))) own (rows_own g))))))))
