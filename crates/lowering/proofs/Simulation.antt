-- What the steps of Core allow, the blocks allow, with a count at least as large: a lemma a form.
use Rattle.lowering.proofs.Filtering.{filter_covers, test_covers}
use Rattle.lowering.proofs.Numbering.{length_covers, tabulate_covers}
use Rattle.lowering.proofs.Deeds.{row_shaped}
use Rattle.lowering.proofs.Doing.{deed_covers, deed_done}
use Rattle.lowering.proofs.Mapping.{map_covers}
use Rattle.lowering.proofs.Telling.{all_tell_grow, row_shown, all_tell_run, groups_read}
use Rattle.lowering.specs.Arrays.{bundle_of}
use Rattle.lowering.proofs.Reducing.{for_in_covers, operator_covers, reduction_covers, scan_act_covers}
use Rattle.lowering.proofs.Functions.{array_found, function_covers}
use Rattle.std.proofs.Common.{◌≡◌, ℕ, ◌≤◌, List, [], ◌∷◌, Bool, false, Some, refl, sym, ap, ◌∙◌, subst, arith, true, false}
use Rattle.std.specs.Prelude.{flat_map}
use Rattle.fut_scalar.specs.declared.operator.BinOp.{BinOp}
use Rattle.fut_scalar.specs.declared.operator.UnOp.{UnOp}
use Rattle.fut_scalar.specs.declared.place.Place.{Place}
use Rattle.fut_scalar.specs.declared.report.FailKind.TheVariants as kind
use Rattle.fut_scalar.specs.declared.scalar.IntType.{IntType}
use Rattle.fut_scalar.specs.declared.scalar.Scalar.{Scalar}
use Rattle.fut_scalar.specs.declared.scalar.Scalar.TheVariants as scalar
use Rattle.fut_scalar.specs.declared.scalar.ScalarType.{ScalarType}
use Rattle.fut_scalar.specs.declared.scalar.ScalarType.TheVariants as sort
use Rattle.fut_arithmetic.specs.Conversions.{converted}
use Rattle.fut_arithmetic.specs.Types.{type_of, IsDefined, result_type, IsDefinedOfOne, result_type_of_one}
use Rattle.fut_value.specs.Data.{Shape, Scalar_shape, Datum, Scalar_datum, Tuple_datum, Record_datum, listed, datums, shape_of}
use Rattle.fut_meaning.specs.Accessors.{or_wrong, turns_of_scalar}
use Rattle.fut_meaning.specs.Arrays.{scalar_of_datum, truth_of_scalar, truth_of_datum, checked}
use Rattle.fut_meaning.specs.Meaning.{counts}
use Rattle.fut_meaning.specs.Operations.{report, reported}
use Rattle.fut_meaning.specs.Operators.{binary_result, unary_result}
use Rattle.fut_meaning.specs.Outcomes.{Val, and_then, the, Then, choose, while_turns}
use Rattle.fut_meaning.specs.Sames.{all_none, all_more, Same_out, same_value}
use Rattle.fut_meaning.proofs.Sims.{out_same, all_refl}
use Rattle.fut_blocks.specs.declared.block.Atom.{Atom as Source_atom}
use Rattle.fut_blocks.specs.declared.block.Operation.{Operation as Source_operation}
use Rattle.fut_blocks.specs.declared.block.Operation.TheVariants as source_operation
use Rattle.fut_blocks.specs.Meaning.{Names, bound}
use Rattle.fut_blocks.specs.Meaning as source
use Rattle.fut_blocks.specs.Plain.{Record_with, Part_at, Replace_at, Fields_at}
use Rattle.fut_blocks.specs.Plain as block
use Rattle.fut_blocks.specs.Records.{reads, named_data, datum_replaced}
use Rattle.steps_simulate.specs.Covers.{Covers}
use Rattle.steps_simulate.proofs.Alike.{Alike, alike_grouped}
use Rattle.steps_simulate.proofs.Covers.{covers_exact, covers_then, covers_choose, covers_turns, covers_while, covers_left, covers_right, covers_known_left, covers_known_right}
use Rattle.core_ir.specs.declared.block.Var.{Var}
use Rattle.core_ir.specs.declared.block.Atom.{Atom}
use Rattle.core_ir.specs.declared.block.Operation.{Operation}
use Rattle.core_ir.specs.declared.block.Operation.TheVariants as operation
use Rattle.core_ir.specs.Bundles.{One}
use Rattle.core_ir.specs.Meaning.{Env, values_of, scalar_at, one, operated, under, test_turn, for_turns, act_means, body_means}
use Rattle.core_ir.specs.Plain.{Action, Operate, Body, lets}
use Rattle.core_ir.specs.Plain as core
use Rattle.core_ir.proofs.NeverWrong.{binary_has, unary_has, converted_type}
use Rattle.core_values.specs.Components.{components, records, a_record}
use Rattle.lowering.specs.Knowns.{Known, Scope, knowns, names, New}
use Rattle.lowering.specs.Lowering.{Bindings, truth_shape, Act_lowers, Body_lowers, binary_lowers, unary_lowers, convert_lowers, assert_lowers, tuple_lowers, parts_lower, part_lowers, record_lowers, field_lowers, fields_lower, replace_lowers, literal_lowers, index_lowers, update_lowers, range_lowers, stepped_lowers, if_lowers, for_lowers, while_lowers, give_lowers, let_lowers, for_in_lowers, reduce_lowers, scan_lowers, map_lowers, empty_lowers, step, done_lowers, length_lowers, filter_lowers, tabulate_lowers}
use Rattle.lowering.specs.Programs.{Are_components}
use Rattle.lowering.proofs.Stands.{Holds, name_and, Have, All_found, Extends, extends_same, extends_one, holds_on, values_are, operand_found, operands_found, names_hold, new_grows, new_from}
use Rattle.lowering.proofs.Runs.{Gives, run, alike_lets, no_step, step_covers, under_covers, covers_behind}
use Rattle.lowering.proofs.ArrayActs.{literal_covers, index_covers, update_covers, range_covers, stepped_covers, empty_covers}
use Rattle.lowering.proofs.Records.{tuple_components, tuple_data, tuple_found, part_found, record_found, field_found, fields_found, record_components, record_data, replaced_stands}
use Rattle.lowering.proofs.Scalars.{Scalar_found, scalar_found, index_stands, scalar_is, one_same, binary_same, asserted_same, holds_same, turns_found}

mutual
  pub act_grows : {sc : Scope} {a : block.Action} {n m : ℕ} {bs : Bindings} {ks : List Known} → Act_lowers sc a n bs ks m → n ≤ m
  act_grows (binary_lowers p q i w) = new_grows w
  act_grows (unary_lowers p i w) = new_grows w
  act_grows (convert_lowers p w) = new_grows w
  act_grows (assert_lowers p) = omega arith
  act_grows (tuple_lowers p) = omega arith
  act_grows (parts_lower p) = omega arith
  act_grows (part_lowers p q) = omega arith
  act_grows (record_lowers p q) = omega arith
  act_grows (field_lowers p q) = omega arith
  act_grows (fields_lower p q) = omega arith
  act_grows (replace_lowers p q) = omega arith
  act_grows (literal_lowers p o i w) = new_grows w
  act_grows (index_lowers p q i l x w) = new_grows w
  act_grows (update_lowers p q r i x w) = new_grows w
  act_grows (range_lowers p q w) = new_grows w
  act_grows (stepped_lowers p q r w) = new_grows w
  act_grows (if_lowers p a b w) = let x = body_grows a in let y = body_grows b in let z = new_grows w in omega (arith, x, y, z)
  act_grows (for_lowers hs xs ys p q w v i b u) = let x = new_grows w in let y = new_grows v in let z = body_grows b in let t = new_grows u in omega (arith, x, y, z, t)
  act_grows (while_lowers hs xs ys p w i t b u) = let x = new_grows w in let y = body_grows t in let z = body_grows b in let s = new_grows u in omega (arith, x, y, z, s)
  act_grows (for_in_lowers hs xs ys outs p q w i v j b u) = let x = new_grows w in let y = new_grows v in let z = body_grows b in let t = new_grows u in omega (arith, x, y, z, t)
  act_grows (reduce_lowers any xs ys outs p q i w t v u b z) = let x = new_grows w in let y = new_grows v in let s = body_grows b in let e = new_grows z in omega (arith, x, y, s, e)
  act_grows (scan_lowers xs ys outs p q i w t v u b z) = let x = new_grows w in let y = new_grows v in let s = body_grows b in let e = new_grows z in omega (arith, x, y, s, e)
  act_grows (map_lowers xs outs p q r o t w i b u) = let x = all_tell_grow t in let y = new_grows w in let z = body_grows b in let s = new_grows u in omega (arith, x, y, z, s)
  act_grows (empty_lowers outs r o t u) = let x = all_tell_grow t in let y = new_grows u in omega (arith, x, y)
  act_grows (done_lowers p i w) = new_grows w
  act_grows (length_lowers p i w) = new_grows w
  act_grows (filter_lowers xs outs p i w t b u) = let x = new_grows w in let y = body_grows b in let z = new_grows u in omega (arith, x, y, z)
  act_grows (tabulate_lowers xs outs p r o t w i b u) = let x = all_tell_grow t in let y = new_grows w in let z = body_grows b in let s = new_grows u in omega (arith, x, y, z, s)

  pub body_grows : {sc : Scope} {b : block.Body} {n m : ℕ} {bs : Bindings} {hs : List Shape} {us : List Atom} → Body_lowers sc b n bs hs us m → n ≤ m
  body_grows (give_lowers p) = omega arith
  body_grows (let_lowers a i b) = let x = act_grows a in let y = body_grows b in omega (arith, x, y)

module _ (tight : Bool) (budget : ℕ) where
  -- ---- steps on scalars

  operate_covers : (d : Env) (env : Names Datum) {hs : List Shape} (o : Operation) (o' : Source_operation) (at : Place) → Same_out (Are_components hs) (operated d o at) (source.operated env o') → Covers (Are_components hs) (act_means tight false budget (Operate o at) d) (source.act_means tight budget (block.Operate o') env)
  unfolding act_means source.act_means
  operate_covers d env o o' at s = covers_exact s

  module _ (d : Env) {nd : ℕ} (env : Names Datum) where
    binary_out : (a b : Source_atom) {u w : Atom} {t : ScalarType} (op : BinOp) (at : Place) → Scalar_found d nd u t (source.value_of env a) → Scalar_found d nd w t (source.value_of env b) → IsDefined op t → Same_out (Are_components (Scalar_shape (result_type op t) ∷ [])) (operated d (operation.Binary op u w) at) (source.operated env (source_operation.Binary op at a b))
    unfolding operated source.operated
    binary_out a b {u} {w} {t} op at f g i =
        subst (λ z. Same_out (Are_components (Scalar_shape (result_type op t) ∷ [])) z (source.operated env (source_operation.Binary op at a b)))
        (sym (ap (λ z. and_then z (λ s. and_then (scalar_at d w) (λ t. one (reported at (binary_result op s t))))) (scalar_is f) ∙ ap (λ z. and_then z (λ t. one (reported at (binary_result op f.scalar t)))) (scalar_is g)))
        (subst (λ z. Same_out (Are_components (Scalar_shape (result_type op t) ∷ [])) (one (reported at (binary_result op f.scalar g.scalar))) z)
        (ap source.one (binary_same op at f.scalar g.scalar) ∙ sym (ap (λ z. and_then z (λ v. and_then (source.value_of env b) (λ w. source.one (source.binary_scalar op at v w)))) f.is ∙ ap (λ z. and_then z (λ w. source.one (source.binary_scalar op at (Scalar_datum f.scalar) w))) g.is))
        (one_same (result_type op t) (reported at (binary_result op f.scalar g.scalar)) (binary_has op at t f.scalar g.scalar i f.typed g.typed)))

    unary_out : (a : Source_atom) {u : Atom} {t : ScalarType} (op : UnOp) (at : Place) → Scalar_found d nd u t (source.value_of env a) → IsDefinedOfOne op t → Same_out (Are_components (Scalar_shape (result_type_of_one op t) ∷ [])) (operated d (operation.Unary op u) at) (source.operated env (source_operation.Unary op a))
    unfolding operated source.operated
    unary_out a {u} {t} op at f i =
        subst (λ z. Same_out (Are_components (Scalar_shape (result_type_of_one op t) ∷ [])) z (source.operated env (source_operation.Unary op a))) (sym (ap (λ z. and_then z (λ s. one (or_wrong (unary_result op s)))) (scalar_is f)))
        (subst (λ z. Same_out (Are_components (Scalar_shape (result_type_of_one op t) ∷ [])) (one (or_wrong (unary_result op f.scalar))) z) (sym (ap (λ z. and_then z (λ v. source.one (and_then (scalar_of_datum v) (λ s. or_wrong (unary_result op s))))) f.is))
        (one_same (result_type_of_one op t) (or_wrong (unary_result op f.scalar)) (unary_has op t f.scalar i f.typed)))

    convert_out : (a : Source_atom) {u : Atom} {t : ScalarType} (to : ScalarType) (at : Place) → Scalar_found d nd u t (source.value_of env a) → Same_out (Are_components (Scalar_shape to ∷ [])) (operated d (operation.Convert to u) at) (source.operated env (source_operation.Convert to a))
    unfolding operated source.operated
    convert_out a {u} to at f =
        subst (λ z. Same_out (Are_components (Scalar_shape to ∷ [])) z (source.operated env (source_operation.Convert to a))) (sym (ap (λ z. and_then z (λ s. one (Val (converted to s)))) (scalar_is f)))
        (subst (λ z. Same_out (Are_components (Scalar_shape to ∷ [])) (one (Val (converted to f.scalar))) z) (sym (ap (λ z. and_then z (λ v. source.one (and_then (scalar_of_datum v) (λ s. Val (converted to s))))) f.is))
        (one_same to (Val (converted to f.scalar)) (converted_type to f.scalar)))

    assert_out : (a : Source_atom) {u : Atom} {t : ScalarType} (at : Place) → Scalar_found d nd u t (source.value_of env a) → Same_out (Are_components []) (operated d (operation.Assert u) at) (source.operated env (source_operation.Assert at a))
    unfolding operated source.operated
    assert_out a {u} at f =
        subst (λ z. Same_out (Are_components []) z (source.operated env (source_operation.Assert at a))) (sym (ap (λ z. and_then (and_then z truth_of_scalar) (λ b. checked b kind.Assert at (Val []))) (scalar_is f)))
        (subst (λ z. Same_out (Are_components []) (and_then (truth_of_scalar f.scalar) (λ b. checked b kind.Assert at (Val []))) z) (sym (ap (λ z. and_then z (λ v. and_then (truth_of_datum v) (source.asserted at))) f.is))
        (asserted_same at f.scalar))

  -- ---- branches and loops, over what their parts allow

  module _ (d : Env) (env : Names Datum) where
    branch_covers : (c : Source_atom) {nd : ℕ} {u : Atom} {t : ScalarType} {hs : List Shape} (a b : Body) (a' b' : block.Body) → Scalar_found d nd u t (source.value_of env c) → Covers (Are_components hs) (body_means tight false budget a d) (source.body_means tight budget a' env) → Covers (Are_components hs) (body_means tight false budget b d) (source.body_means tight budget b' env) → Covers (Are_components hs) (act_means tight false budget (core.If u a b) d) (source.act_means tight budget (block.If c a' b') env)
    unfolding act_means source.act_means
    branch_covers c {u} {hs = hs} a b a' b' f s t =
        subst (λ z. Covers (Are_components hs) (Then (the (and_then z truth_of_scalar)) (λ t. choose t (body_means tight false budget a d) (body_means tight false budget b d))) (source.act_means tight budget (block.If c a' b') env)) (sym (scalar_is f))
        (subst (λ z. Covers (Are_components hs) (Then (the (truth_of_scalar f.scalar)) (λ t. choose t (body_means tight false budget a d) (body_means tight false budget b d))) (Then (the (and_then z truth_of_datum)) (λ t. choose t (source.body_means tight budget a' env) (source.body_means tight budget b' env)))) (sym f.is)
        (covers_then (covers_exact (out_same (truth_of_scalar f.scalar))) (λ x x' e. covers_choose x x' e s t)))

    for_covers : (c : Source_atom) (us : List Source_atom) {u : Atom} {t : IntType} {hs : List Shape} {ws : List Atom} {n k : ℕ} {sc inner : Scope} (ps : List ℕ) (i : ℕ) (xs : List Var) (j : Var) (b : Body) (b' : block.Body)
        → All_found d n hs ws (source.values_of env us) → Scalar_found d n u (sort.Int t) (source.value_of env c) → Holds d n sc env → New n xs hs k → bound ps (knowns hs (names xs)) sc ≡ Some inner
        → ((e : Env) (env' : Names Datum) (s : Scalar) → type_of s ≡ sort.Int t → Extends n d e → Holds e k inner env' → Covers (Are_components hs) (body_means tight false budget b ((j.number, One s) ∷ e)) (source.body_means tight budget b' ((i, Scalar_datum s) ∷ env')))
        → Covers (Are_components hs) (act_means tight false budget (core.For xs ws j u b) d) (source.act_means tight budget (block.For ps us i c b') env)
    unfolding act_means source.act_means
    for_covers c us {u} {t} {hs} {ws} ps i xs j b b' f g h w q hb =
        let r = turns_found t g.scalar g.typed in
        covers_known_left (values_of d ws) (flat_map components f.list) (for_turns (body_means tight false budget b) xs j d u) _ (values_are f.have)
        (covers_known_right (source.values_of env us) f.list (source.for_turns (source.body_means tight budget b') ps i env c) _ f.is
        (covers_known_left (and_then (scalar_at d u) turns_of_scalar) (t, r.count) _ _ (ap (λ z. and_then z turns_of_scalar) (scalar_is g) ∙ r.are)
        (covers_known_right (and_then (source.value_of env c) source.turns_of_datum) (t, r.count) _ _ (ap (λ z. and_then z source.turns_of_datum) g.is ∙ r.are)
        (covers_turns (λ y y' cs vs e p. subst (λ z. Covers (Are_components hs) (under xs cs d (λ e. body_means tight false budget b ((j.number, One (scalar.Int t y)) ∷ e))) (source.under ps vs env (λ e. source.body_means tight budget b' ((i, Scalar_datum (scalar.Int t z)) ∷ e)))) e
        (under_covers ps w q p h (λ e env' x k. hb e env' (scalar.Int t y) refl x k))) (all_refl (counts r.count 0)) (flat_map components f.list) f.list (record { are = refl; data_are = f.are_data })))))

    while_covers : (us : List Source_atom) {hs : List Shape} {ws : List Atom} {n k : ℕ} {sc inner : Scope} (at : Place) (ps : List ℕ) (xs : List Var) (t b : Body) (t' b' : block.Body)
        → All_found d n hs ws (source.values_of env us) → Holds d n sc env → New n xs hs k → bound ps (knowns hs (names xs)) sc ≡ Some inner
        → ((e : Env) (env' : Names Datum) → Extends n d e → Holds e k inner env' → Covers (Are_components (truth_shape ∷ [])) (body_means tight false budget t e) (source.body_means tight budget t' env'))
        → ((e : Env) (env' : Names Datum) → Extends n d e → Holds e k inner env' → Covers (Are_components hs) (body_means tight false budget b e) (source.body_means tight budget b' env'))
        → Covers (Are_components hs) (act_means tight false budget (core.While at xs ws t b) d) (source.act_means tight budget (block.While at ps us t' b') env)
    unfolding act_means source.act_means
    while_covers us {hs} {ws} at ps xs t b t' b' f h w q ht hb =
        covers_known_left (values_of d ws) (flat_map components f.list) (while_turns budget (report kind.Turns at) (test_turn (body_means tight false budget t) xs d) (λ cs. under xs cs d (body_means tight false budget b))) _ (values_are f.have)
        (covers_known_right (source.values_of env us) f.list (while_turns budget (report kind.Turns at) (source.test_turn (source.body_means tight budget t') ps env) (λ vs. source.under ps vs env (source.body_means tight budget b'))) _ f.is
        (covers_while budget (report kind.Turns at)
        (λ cs vs p. covers_left (alike_grouped _ _ _) (under_covers ps w q p h (λ e env' x k. covers_then (ht e env' x k) (λ cs vs r. covers_exact (holds_same r)))))
        (λ cs vs p. under_covers ps w q p h (λ e env' x k. hb e env' x k))
        (flat_map components f.list) f.list (record { are = refl; data_are = f.are_data })))

  -- ---- bodies

  give_covers : {n : ℕ} {hs : List Shape} (d : Env) (env : Names Datum) (ws : List Atom) (us : List Source_atom) → All_found d n hs ws (source.values_of env us) → Covers (Are_components hs) (body_means tight false budget (lets [] ws) d) (source.body_means tight budget (block.Give us) env)
  unfolding body_means source.body_means lets
  give_covers {hs = hs} d env ws us f =
      covers_exact (subst (λ z. Same_out (Are_components hs) z (source.values_of env us)) (sym (values_are f.have)) (subst (λ z. Same_out (Are_components hs) (Val (flat_map components f.list)) z) (sym f.is) (same_value (record { are = refl; data_are = f.are_data }))))

  let_alike : (env : Names Datum) (xs : List ℕ) (a : block.Action) (b : block.Body) → Alike (Then (source.act_means tight budget a env) (λ vs. Then (the (or_wrong (bound xs vs env))) (source.body_means tight budget b))) (source.body_means tight budget (block.Let xs a b) env)
  unfolding source.body_means
  let_alike env xs a b = alike_grouped _ _ _

  -- ---- all of them

  mutual
    unfolding source.act_means source.operated reads components shape_of

    act_covers : {sc : Scope} {a : block.Action} {n m : ℕ} {bs : Bindings} {ks : List Known} {d : Env} {env : Names Datum} → Act_lowers sc a n bs ks m → Holds d n sc env → Covers (Gives d n ks m) (run tight budget bs d) (source.act_means tight budget a env)
    act_covers {d = d} {env} (binary_lowers {op} {at} {a} {b} {u} {w} p q i v) h = step_covers tight budget (Operate (operation.Binary op u w) at) (operate_covers d env (operation.Binary op u w) (source_operation.Binary op at a b) at (binary_out d env a b op at (scalar_found (operand_found h p)) (scalar_found (operand_found h q)) i)) v
    act_covers {d = d} {env} (unary_lowers {op} {at} {a} {u} p i v) h = step_covers tight budget (Operate (operation.Unary op u) at) (operate_covers d env (operation.Unary op u) (source_operation.Unary op a) at (unary_out d env a op at (scalar_found (operand_found h p)) i)) v
    act_covers {d = d} {env} (convert_lowers {at} {a} {u} {to = to} p v) h = step_covers tight budget (Operate (operation.Convert to u) at) (operate_covers d env (operation.Convert to u) (source_operation.Convert to a) at (convert_out d env a to at (scalar_found (operand_found h p)))) v
    act_covers {d = d} {env} (assert_lowers {at} {a} {u} p) h = step_covers tight budget (Operate (operation.Assert u) at) (operate_covers d env (operation.Assert u) (source_operation.Assert at a) at (assert_out d env a at (scalar_found (operand_found h p)))) (record { rise = omega arith; sorted = refl })
    act_covers {d = d} {env} (tuple_lowers {us} {hs} {ws} {n} p) h =
        let f = operands_found h p in
        no_step tight budget (Tuple_datum (datums f.list) ∷ []) (ap (λ z. and_then z (λ vs. Val (Tuple_datum (datums vs) ∷ []))) f.is)
        (all_more (record { have = subst (λ z. Have d n ws z) (sym (tuple_components f.list)) f.have; is_data = tuple_data f.are_data }) all_none)
    act_covers (parts_lower p) h =
        let f = tuple_found (operand_found h p) in
        no_step tight budget (listed f.parts) (ap (λ z. and_then z source.parts_of) f.is) f.stand
    act_covers (part_lowers {f = name} p q) h =
        let f = tuple_found (operand_found h p) in
        let g = part_found 0 name f.parts f.stand q in
        no_step tight budget (g.datum ∷ []) (ap (λ z. and_then (and_then z (λ v. and_then (Val []) (λ vs. Val (v ∷ vs)))) (reads (Part_at name))) f.is ∙ ap (λ z. and_then (or_wrong z) (λ e. Val (e ∷ []))) g.is) (all_more g.stands all_none)
    act_covers {d = d} (record_lowers {fs} {us} {hs} {ws} {n} p e) h =
        let f = operands_found h p in
        no_step tight budget (Record_datum (named_data fs f.list) ∷ []) (ap (λ z. and_then z (reads (Record_with fs))) f.is)
        (all_more (record { have = subst (λ z. Have d n ws z) (sym (record_components fs e f.are_data)) f.have; is_data = record_data fs e f.are_data }) all_none)
    act_covers (field_lowers {f = name} p q) h =
        let f = record_found (operand_found h p) in
        let g = field_found name f.stand q in
        no_step tight budget (g.datum ∷ []) (ap (λ z. and_then (and_then z (λ v. and_then (Val []) (λ vs. Val (v ∷ vs)))) (reads (Part_at name))) f.is ∙ ap (λ z. and_then (or_wrong z) (λ e. Val (e ∷ []))) g.is) (all_more g.stands all_none)
    act_covers (fields_lower {fs = wanted} p q) h =
        let f = record_found (operand_found h p) in
        let g = fields_found wanted f.stand q in
        no_step tight budget g.list (ap (λ z. and_then (and_then z (λ v. and_then (Val []) (λ vs. Val (v ∷ vs)))) (reads (Fields_at wanted))) f.is ∙ g.is) g.stand
    act_covers {env = env} (replace_lowers {b = b} {f = name} p q) h =
        let f = record_found (operand_found h p) in
        let g = operand_found h q in
        let r = replaced_stands name g.have g.is_data f.stand in
        no_step tight budget (Record_datum (datum_replaced name g.datum f.fields) ∷ [])
        (ap (λ z. and_then (and_then z (λ v. and_then (and_then (source.value_of env b) (λ w. and_then (Val []) (λ vs. Val (w ∷ vs)))) (λ vs. Val (v ∷ vs)))) (reads (Replace_at name))) f.is
        ∙ ap (λ z. and_then (and_then (and_then z (λ w. and_then (Val []) (λ vs. Val (w ∷ vs)))) (λ vs. Val (Record_datum f.fields ∷ vs))) (reads (Replace_at name))) g.is)
        (all_more (record { have = r.have; is_data = record { regular = a_record r.regular; typed = records r.typed } }) all_none)
    act_covers (literal_lowers {r = r} {at = at} {ws = ws} {wss = wss} p o i v) h = step_covers tight budget (core.Do core.Literal at (ws ∷ wss)) (literal_covers tight budget h r at p o i) v
    act_covers (index_lowers {at = at} {ps = ps} {ws = ws} {zs} {w} p q i l x v) h = step_covers tight budget (core.Do (core.Index w ps) at (ws ∷ zs ∷ [])) (index_covers tight budget h at p q i x) v
    act_covers (update_lowers {at = at} {ws = ws} {zs} {vs} p q r i x w) h = step_covers tight budget (core.Do core.Update at (ws ∷ zs ∷ vs ∷ [])) (update_covers tight budget h at p q r i x) w
    act_covers (range_lowers {u = u} {w} {at} {e} p q v) h = step_covers tight budget (core.Do (core.Range false e) at ((u ∷ w ∷ []) ∷ [])) (range_covers tight budget h at e p q) v
    act_covers (stepped_lowers {u = u} {w} {v} {at} {e} p q r x) h = step_covers tight budget (core.Do (core.Range true e) at ((u ∷ w ∷ v ∷ []) ∷ [])) (stepped_covers tight budget h at e p q r) x
    act_covers {d = d} {env} (if_lowers {c} {a = a} {b} {u = u} {cs} {bs} {us = us} {ws} p l r v) h =
        step_covers tight budget (core.If u (lets cs us) (lets bs ws)) (branch_covers d env c (lets cs us) (lets bs ws) a b (scalar_found (operand_found h p)) (body_covers l h) (body_covers r (holds_on (extends_same _ d) (body_grows l) h))) (new_from (let x = body_grows l in let y = body_grows r in omega (arith, x, y)) v)
    act_covers {d = d} {env} (for_lowers {ps} {us} {i} {c} {b} {t} {ws} {zs} {u} {j} {bs} {k = k} hs xs ys p q w v e l z) h =
        step_covers tight budget (core.For xs ws j u (lets bs zs))
        (for_covers d env c us ps i xs j (lets bs zs) b (operands_found h p) (scalar_found (operand_found h q)) h w e
        (λ e1 env' s o x g. body_covers l (name_and (index_stands j e1 s o) (holds_on (extends_one k j.number (One s) e1 v.rise.0) (new_grows v) g)))) (new_from (let x = new_grows w in let y = new_grows v in let t = body_grows l in omega (arith, x, y, t)) z)
    act_covers {d = d} {env} (while_lowers {at} {ps} {us} {t} {b} {ws} {vs} {zs} {cs} {bs} hs xs ys p w e l r z) h =
        step_covers tight budget (core.While at xs ws (lets cs vs) (lets bs zs))
        (while_covers d env us at ps xs (lets cs vs) (lets bs zs) t b (operands_found h p) h w e
        (λ e1 env' x g. body_covers l g)
        (λ e1 env' x g. body_covers r (holds_on (extends_same _ e1) (body_grows l) g))) (new_from (let x = new_grows w in let y = body_grows l in let t = body_grows r in omega (arith, x, y, t)) z)
    act_covers {d = d} {env} (for_in_lowers {at} {ps} {us} {x} {r} {b} {h} {ws} {vs} {zs} {bs} hs xs ys outs p q w i v j l u) k =
        step_covers tight budget (core.For_in at xs ws ys (bundle_of h vs) (lets bs zs))
        (for_in_covers tight budget d env r us at ps x xs ys (lets bs zs) b (operands_found k p) (array_found (operand_found k q)) k w i v j (λ e env' x g. body_covers l g))
        (new_from (let a = new_grows w in let y = new_grows v in let z = body_grows l in omega (arith, a, y, z)) u)
    act_covers {d = d} {env} (reduce_lowers any {r} {at} {x = x} {y} {b} {h} {ws} {us} {zs} {bs} xs ys outs p q i w t v u l z) k =
        step_covers tight budget (core.Reduce at ws (bundle_of h us) (core.Of_two xs ys (lets bs zs)))
        (reduction_covers tight budget k any r at (x ∷ y ∷ []) xs ys (lets bs zs) b p q i (operator_covers tight budget k x y (lets bs zs) b w v t u (λ e env' x g. body_covers l g)))
        (new_from (let a = new_grows w in let y = new_grows v in let z = body_grows l in omega (arith, a, y, z)) z)
    act_covers {d = d} {env} (scan_lowers {r = r} {at} {x = x} {y} {b} {h} {ws} {us} {zs} {bs} xs ys outs p q i w t v u l z) k =
        step_covers tight budget (core.Scan at ws (bundle_of h us) (core.Of_two xs ys (lets bs zs)))
        (scan_act_covers tight budget k r at (x ∷ y ∷ []) xs ys (lets bs zs) b p q i (operator_covers tight budget k x y (lets bs zs) b w v t u (λ e env' x g. body_covers l g)))
        (new_from (let a = new_grows w in let y = new_grows v in let z = body_grows l in omega (arith, a, y, z)) z)
    act_covers (map_lowers {r = r} {at} {ps = ps} {b} {rs = rs} {sss} {wss} {zs} {cs} {bs} {k = k} xs outs p q t o s w j l u) h =
        let a = row_shown h t in
        let y = all_tell_run tight budget s a.sized in
        let v = holds_on y.extends y.grows h in
        covers_behind tight budget cs (step outs (core.Map at (core.Of_rows rs) wss xs (lets bs zs))) y.runs y.extends y.grows
        (step_covers tight budget (core.Map at (core.Of_rows rs) wss xs (lets bs zs))
        (map_covers tight budget v r at ps xs (lets bs zs) b a.shape p q a.is a.typed o (groups_read y.atoms) (λ cs vs c. function_covers tight budget ps (lets bs zs) b w j c v (λ e env' x g. body_covers l g)))
        (new_from (let x = new_grows w in let z = body_grows l in omega (arith, x, z)) u))
    act_covers (empty_lowers {r = r} {at} {wss = wss} {cs} outs t o s u) h =
        let a = row_shown h t in
        let y = all_tell_run tight budget s a.sized in
        covers_behind tight budget cs (step outs (core.Do core.Empty at wss)) y.runs y.extends y.grows
        (step_covers tight budget (core.Do core.Empty at wss) (empty_covers tight budget h r at a.shape a.is a.typed (groups_read y.atoms)) u)
    act_covers {d = d} {env} (done_lowers {p = p} {r} {at} {us} {ps} {b} {deed} {uss} {h = t} x i v) h =
        let s = row_shaped h r i in
        step_covers tight budget (core.Do deed at uss) (deed_covers tight budget d env r p at us ps b deed uss s.shape t s.is (deed_done h at x)) v
    act_covers (length_lowers {r = r} {at} {ps = ps} {b} {u = u} p i v) h =
        let s = row_shaped h r i in
        step_covers tight budget (Operate (operation.Length u) at) (length_covers tight budget h r s.shape at ps b s.is p) v
    act_covers (filter_lowers {r = r} {at} {x = x} {b} {h} {us} {zs} {bs} xs outs p i w t l u) k =
        let s = row_shaped k r i in
        step_covers tight budget (core.Filter at (bundle_of h us) xs (lets bs zs))
        (filter_covers tight budget k r s.shape at (x ∷ []) xs (lets bs zs) b s.is p (test_covers tight budget k x (lets bs zs) b w t (λ e env' x g. body_covers l g)))
        (new_from (let x = new_grows w in let z = body_grows l in omega (arith, x, z)) u)
    act_covers (tabulate_lowers {r = r} {at} {ps = ps} {b} {u = u} {sss = sss} {wss} {zs} {cs} {bs} {k = k} xs outs p t o s w j l v) h =
        let a = row_shown h t in
        let y = all_tell_run tight budget s a.sized in
        let g = holds_on y.extends y.grows h in
        covers_behind tight budget cs (step outs (core.Map at (core.Of_numbers u) wss xs (lets bs zs))) y.runs y.extends y.grows
        (step_covers tight budget (core.Map at (core.Of_numbers u) wss xs (lets bs zs))
        (tabulate_covers tight budget g r at ps xs (lets bs zs) b a.shape p a.is a.typed o (groups_read y.atoms) (λ cs vs c. function_covers tight budget ps (lets bs zs) b w j c g (λ e env' x f. body_covers l f)))
        (new_from (let x = new_grows w in let z = body_grows l in omega (arith, x, z)) v))

    pub body_covers : {sc : Scope} {b : block.Body} {n m : ℕ} {bs : Bindings} {hs : List Shape} {us : List Atom} {d : Env} {env : Names Datum} → Body_lowers sc b n bs hs us m → Holds d n sc env → Covers (Are_components hs) (body_means tight false budget (lets bs us) d) (source.body_means tight budget b env)
    body_covers {d = d} {env} (give_lowers {us} {ws = ws} p) h =
        let f = operands_found h p in
        give_covers d env ws us f
    body_covers {us = us} {d = d} {env} (let_lowers {xs = xs} {a = a} {b = b} {cs = cs} {bs = bs} p i q) h =
        covers_left (alike_lets tight budget cs bs us d)
        (covers_right (let_alike env xs a b)
        (covers_then (act_covers p h) (λ e vs g.
        let r = names_hold xs g.stand (holds_on g.extends (act_grows p) h) i in
        covers_known_right (or_wrong (bound xs vs env)) r.env (source.body_means tight budget b) _ (ap or_wrong r.is) (body_covers q r.holds))))
