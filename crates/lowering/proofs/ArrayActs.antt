-- Acts that make arrays or take parts of them, one by one.
use Rattle.core_values.proofs.Making.{arrays_are_made, made_are_regular, made_are_typed}
use Rattle.fut_value.specs.Leaves.{leaves}
use Rattle.lowering.proofs.Telling.{Groups_read}
use Rattle.lowering.proofs.Types.{same_left, turned, one_then}
use Rattle.std.proofs.Common.{◌≡◌, ℕ, suc, List, [], ◌∷◌, ◌++◌, Bool, true, false, length, refl, sym, ap, ◌∙◌, subst}
use Rattle.std.specs.Prelude.{flat_map}
use Rattle.fut_scalar.specs.declared.place.Place.{Place}
use Rattle.fut_scalar.specs.declared.scalar.IntType.{IntType}
use Rattle.fut_scalar.specs.declared.scalar.ScalarType.TheVariants as sort
use Rattle.fut_ast.specs.declared.node.End.{End}
use Rattle.fut_flat.specs.declared.act.Part.{Part}
use Rattle.fut_value.specs.Data.{Shape, Scalar_shape, Datum, Scalar_datum}
use Rattle.fut_meaning.specs.Arrays.{Make_array, Make_index, Make_update, Make_range, all_shared, all_fresh}
use Rattle.fut_meaning.specs.Arrays as meaning
use Rattle.fut_meaning.specs.Outcomes.{Out, Val, Fail, Wrong, and_then}
use Rattle.fut_meaning.specs.Sames.{all_none, all_more}
use Rattle.fut_blocks.specs.declared.block.Atom.{Atom as Source_atom}
use Rattle.fut_blocks.specs.Meaning.{Names}
use Rattle.fut_blocks.specs.Meaning as source
use Rattle.fut_blocks.specs.Plain as block
use Rattle.fut_blocks.specs.Rows.{Row as Told_row, Unknown_row}
use Rattle.steps_simulate.specs.Covers.{Covers}
use Rattle.core_ir.specs.declared.block.Atom.{Atom}
use Rattle.core_ir.specs.Arrays.{done}
use Rattle.core_ir.specs.Bundles.{glued}
use Rattle.core_ir.specs.Meaning.{Env, groups_of, act_means}
use Rattle.core_ir.specs.Plain.{Index, Literal, Range, Update, Do, Empty}
use Rattle.core_values.specs.Components.{components, One_type, none_of, arrays}
use Rattle.lowering.specs.Arrays.{array, Integers, Each_operand, and_more, Indexed, Has_rows, Row_in}
use Rattle.lowering.specs.Knowns.{Scope, Operand, Operands}
use Rattle.lowering.specs.Programs.{Are_data, Are_components}
use Rattle.lowering.proofs.Deeds.{make_covers, values_so, stood, valued, grouped, atoms_so, groups_so, group_is, exact_same, each_found, row_shaped}
use Rattle.lowering.proofs.Indexing.{index_agrees, index_data}
use Rattle.lowering.proofs.Making.{literal_agrees, literal_data, update_agrees, update_data, update_made, updated_by, range_out, stepped_out}
use Rattle.lowering.proofs.Scalars.{scalar_found}
use Rattle.lowering.proofs.Stands.{Holds, values_are, operand_found, operands_found}

data_many : {hs : List Shape} {ds : List Datum} → Are_data hs ds → length ds ≡ length hs
data_many all_none = refl
data_many (all_more i a) = ap suc (data_many a)

more_out : (o : Out Datum) (p q : Out (List Datum)) → and_then o (λ v. and_then (and_then p (λ vs. and_then q (λ rest. Val (vs ++ rest)))) (λ z. Val (v ∷ z))) ≡ and_then (and_then o (λ v. and_then p (λ vs. Val (v ∷ vs)))) (λ vs. and_then q (λ rest. Val (vs ++ rest)))
more_out (Val v) (Val vs) (Val rest) = refl
more_out (Val v) (Val vs) (Fail r) = refl
more_out (Val v) (Val vs) Wrong = refl
more_out (Val v) (Fail r) q = refl
more_out (Val v) Wrong q = refl
more_out (Fail r) p q = refl
more_out Wrong p q = refl

no_more_out : (q : Out (List Datum)) → q ≡ and_then q (λ rest. Val rest)
no_more_out (Val rest) = refl
no_more_out (Fail r) = refl
no_more_out Wrong = refl

values_split : (env : Names Datum) (us ws : List Source_atom) → source.values_of env (us ++ ws) ≡ and_then (source.values_of env us) (λ vs. and_then (source.values_of env ws) (λ rest. Val (vs ++ rest)))
values_split env [] ws = no_more_out (source.values_of env ws)
values_split env (u ∷ us) ws = ap (λ z. and_then (source.value_of env u) (λ v. and_then z (λ z. Val (v ∷ z)))) (values_split env us ws) ∙ more_out (source.value_of env u) (source.values_of env us) (source.values_of env ws)

values_more : (env : Names Datum) {vs rest : List Datum} (us ws : List Source_atom) → source.values_of env us ≡ Val vs → source.values_of env ws ≡ Val rest → source.values_of env (us ++ ws) ≡ Val (vs ++ rest)
values_more env {vs} us ws e f = values_split env us ws ∙ ap (λ z. and_then z (λ vs. and_then (source.values_of env ws) (λ rest. Val (vs ++ rest)))) e ∙ ap (λ z. and_then z (λ rest. Val (vs ++ rest))) f

module _ (tight : Bool) (budget : ℕ) {d : Env} {n : ℕ} {sc : Scope} {env : Names Datum} (k : Holds d n sc env) where
  pub literal_covers : {u : Source_atom} {us : List Source_atom} {h : Shape} {ws : List Atom} {wss : List (List Atom)} (r : Told_row) (at : Place) → Each_operand sc h (u ∷ us) (ws ∷ wss) → One_type h h → Row_in sc r → Covers (Are_components (array h ∷ [])) (act_means tight false budget (Do Literal at (ws ∷ wss)) d) (source.act_means tight budget (block.Make r Make_array at (u ∷ us)) env)
  unfolding done meaning.made
  literal_covers {u} {us} {h} {ws} {wss} r at (and_more p ps) o i =
      let f = operand_found k p in
      let g = each_found k ps in
      let s = row_shaped k r i in
      make_covers tight budget d env Literal at (ws ∷ wss) r Make_array (u ∷ us) (f.datum ∷ g.list) s.shape (array h) (meaning.array false at s.shape (f.datum ∷ g.list))
      (ap (λ z. and_then z (done false Literal at)) (ap (λ z. and_then z (λ cs. and_then (groups_of d wss) (λ css. Val (cs ∷ css)))) (values_are f.have) ∙ ap (λ z. and_then z (λ css. Val (components f.datum ∷ css))) g.groups) ∙ literal_agrees at h f.datum g.list (all_more f.is_data g.typed) o s.shape)
      (values_more env (u ∷ []) us (values_so (all_more (stood env u f.is) all_none)) g.is) s.is refl (literal_data at h f.datum g.list (all_more f.is_data g.typed) o s.shape)

  pub index_covers : {a : Source_atom} {is : List Source_atom} {h l : Shape} {hs : List Shape} {ws zs : List Atom} {w : ℕ} {ps : List Part} (at : Place) → Operand sc a h ws → Operands sc is hs zs → Integers hs → Indexed w ps h l → Covers (Are_components (l ∷ [])) (act_means tight false budget (Do (Index w ps) at (ws ∷ zs ∷ [])) d) (source.act_means tight budget (block.Make Unknown_row (Make_index ps) at (a ∷ is)) env)
  unfolding done meaning.made
  index_covers {a} {is} {h} {l} {hs} {ws} {zs} {w} {ps} at p q i x =
      let f = operand_found k p in
      let g = operands_found k q in
      let e = exact_same i g.are_data in
      make_covers tight budget d env (Index w ps) at (ws ∷ zs ∷ []) Unknown_row (Make_index ps) (a ∷ is) (f.datum ∷ g.list) _ l (meaning.indexed at ps f.datum g.list)
      (ap (λ z. and_then z (done false (Index w ps) at)) (groups_so (all_more (group_is f.have) (all_more (group_is g.have) all_none))) ∙ index_agrees at x f.datum f.is_data (flat_map components g.list) g.list e)
      (values_more env (a ∷ []) is (values_so (all_more (stood env a f.is) all_none)) g.is) refl refl (index_data at x f.datum f.is_data g.list)

  pub update_covers : {a v : Source_atom} {is : List Source_atom} {h l : Shape} {hs : List Shape} {ws zs vs : List Atom} (at : Place) → Operand sc a h ws → Operands sc is hs zs → Operand sc v l vs → Integers hs → Has_rows l (length hs) h → Covers (Are_components (h ∷ [])) (act_means tight false budget (Do Update at (ws ∷ zs ∷ vs ∷ [])) d) (source.act_means tight budget (block.Make Unknown_row Make_update at (a ∷ (is ++ v ∷ []))) env)
  unfolding done
  update_covers {a} {v} {is} {h} {l} {hs} {ws} {zs} {vs} at p q r i x =
      let f = operand_found k p in
      let g = operands_found k q in
      let o = operand_found k r in
      let e = exact_same i g.are_data in
      let y = subst (λ z. Has_rows l z h) (sym (data_many g.are_data)) x in
      make_covers tight budget d env Update at (ws ∷ zs ∷ vs ∷ []) Unknown_row Make_update (a ∷ (is ++ v ∷ [])) (f.datum ∷ (g.list ++ o.datum ∷ [])) _ h (updated_by at f.datum o.datum f.is_data o.is_data g.list)
      (ap (λ z. and_then z (done false Update at)) (groups_so (all_more (group_is f.have) (all_more (group_is g.have) (all_more (group_is o.have) all_none)))) ∙ update_agrees at f.datum o.datum f.is_data o.is_data (flat_map components g.list) g.list y e)
      (values_more env (a ∷ []) (is ++ v ∷ []) (values_so (all_more (stood env a f.is) all_none)) (values_more env is (v ∷ []) g.is (values_so (all_more (stood env v o.is) all_none)))) refl (update_made at f.datum o.datum f.is_data o.is_data _ g.list) (update_data at f.datum o.datum f.is_data o.is_data g.list y)

  pub range_covers : {a b : Source_atom} {u w : Atom} {t : IntType} (at : Place) (e : End) → Operand sc a (Scalar_shape (sort.Int t)) (u ∷ []) → Operand sc b (Scalar_shape (sort.Int t)) (w ∷ []) → Covers (Are_components (array (Scalar_shape (sort.Int t)) ∷ [])) (act_means tight false budget (Do (Range false e) at ((u ∷ w ∷ []) ∷ [])) d) (source.act_means tight budget (block.Make Unknown_row (Make_range false e) at (a ∷ b ∷ [])) env)
  unfolding done meaning.made
  range_covers {a} {b} {u} {w} {t} at e p q =
      let f = scalar_found (operand_found k p) in
      let g = scalar_found (operand_found k q) in
      let r = range_out at e t f.scalar g.scalar f.typed g.typed in
      make_covers tight budget d env (Range false e) at ((u ∷ w ∷ []) ∷ []) Unknown_row (Make_range false e) (a ∷ b ∷ []) (Scalar_datum f.scalar ∷ Scalar_datum g.scalar ∷ []) _ (array (Scalar_shape (sort.Int t))) (meaning.range at false e (Scalar_datum f.scalar ∷ Scalar_datum g.scalar ∷ []))
      (ap (λ z. and_then z (done false (Range false e) at)) (groups_so (all_more (grouped d (u ∷ w ∷ []) (atoms_so (all_more (valued d u f.value) (all_more (valued d w g.value) all_none)))) all_none)) ∙ r.agrees)
      (values_so (all_more (stood env a f.is) (all_more (stood env b g.is) all_none))) refl refl r.is_data

  pub stepped_covers : {a b c : Source_atom} {u w v : Atom} {t : IntType} (at : Place) (e : End) → Operand sc a (Scalar_shape (sort.Int t)) (u ∷ []) → Operand sc b (Scalar_shape (sort.Int t)) (w ∷ []) → Operand sc c (Scalar_shape (sort.Int t)) (v ∷ []) → Covers (Are_components (array (Scalar_shape (sort.Int t)) ∷ [])) (act_means tight false budget (Do (Range true e) at ((u ∷ w ∷ v ∷ []) ∷ [])) d) (source.act_means tight budget (block.Make Unknown_row (Make_range true e) at (a ∷ b ∷ c ∷ [])) env)
  unfolding done meaning.made
  stepped_covers {a} {b} {c} {u} {w} {v} {t} at e p q o =
      let f = scalar_found (operand_found k p) in
      let g = scalar_found (operand_found k q) in
      let h = scalar_found (operand_found k o) in
      let r = stepped_out at e t f.scalar g.scalar h.scalar f.typed g.typed h.typed in
      make_covers tight budget d env (Range true e) at ((u ∷ w ∷ v ∷ []) ∷ []) Unknown_row (Make_range true e) (a ∷ b ∷ c ∷ []) (Scalar_datum f.scalar ∷ Scalar_datum g.scalar ∷ Scalar_datum h.scalar ∷ []) _ (array (Scalar_shape (sort.Int t))) (meaning.range at true e (Scalar_datum f.scalar ∷ Scalar_datum g.scalar ∷ Scalar_datum h.scalar ∷ []))
      (ap (λ z. and_then z (done false (Range true e) at)) (groups_so (all_more (grouped d (u ∷ w ∷ v ∷ []) (atoms_so (all_more (valued d u f.value) (all_more (valued d w g.value) (all_more (valued d v h.value) all_none))))) all_none)) ∙ r.agrees)
      (values_so (all_more (stood env a f.is) (all_more (stood env b g.is) (all_more (stood env c h.is) all_none)))) refl refl r.is_data

  -- no rows
  pub empty_covers : {e : Env} {h : Shape} {wss : List (List Atom)} (r : Told_row) (at : Place) (told : Shape) → source.row_shape env r ≡ Val told → One_type h told → Groups_read e wss (leaves told) → Covers (Are_components (array h ∷ [])) (act_means tight false budget (Do Empty at wss) e) (source.act_means tight budget (block.Make r Make_array at []) env)
  unfolding done meaning.made
  empty_covers {e} {h} {wss} r at told q o w =
      let t = same_left (turned o) in
      make_covers tight budget e env Empty at wss r Make_array [] [] told (array h) (meaning.array false at told [])
      (ap (λ z. and_then z (done false Empty at)) w.values ∙ ap (λ z. and_then z (λ ds. glued false at ds [])) w.told ∙ arrays_are_made false at told [] t none_of)
      refl q refl (λ x y. record { regular = made_are_regular false at told [] t none_of x y; typed = one_then (arrays o) (made_are_typed false at told [] t none_of x y) })
