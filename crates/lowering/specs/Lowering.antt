-- Which steps of Core the blocks of a program become, and what is known of the names that they bind. Tuples and records need no step,
-- since what is known of their parts is at hand. New variables only go upward: `n` is the next that may be taken, before and
-- behind.
use Rattle.fut_scalar.specs.declared.scalar.IntType.TheVariants.{I64}
use Rattle.lowering.specs.Deeds.{Deed_lowers}
use Rattle.lowering.specs.Telling.{Sized, Row_told, All_tell}
use Rattle.fut_flat.specs.declared.prim.Primitive.{Primitive}
use Rattle.std.specs.Prelude.{◌≡◌, ℕ, suc, ◌++◌, List, [], ◌∷◌, length, Some, false, true, Bool}
use Rattle.fut_scalar.specs.declared.operator.BinOp.{BinOp}
use Rattle.fut_scalar.specs.declared.operator.UnOp.{UnOp}
use Rattle.fut_scalar.specs.declared.place.Place.{Place}
use Rattle.fut_scalar.specs.declared.scalar.IntType.{IntType}
use Rattle.fut_scalar.specs.declared.scalar.ScalarType.{ScalarType}
use Rattle.fut_scalar.specs.declared.scalar.ScalarType.TheVariants as sort
use Rattle.fut_arithmetic.specs.Types.{IsDefined, result_type, IsDefinedOfOne, result_type_of_one}
use Rattle.fut_ast.specs.Sorts.{Text}
use Rattle.fut_ast.specs.declared.node.End.{End}
use Rattle.fut_flat.specs.declared.act.Part.{Part}
use Rattle.fut_flat.specs.declared.prim.Primitive.TheVariants as prim
use Rattle.fut_meaning.specs.Arrays.{Make_array, Make_index, Make_update, Make_range}
use Rattle.fut_blocks.specs.Rows.{Row, Unknown_row}
use Rattle.fut_value.specs.Data.{Shape, Scalar_shape, Tuple_shape, Record_shape, Shapes, Named_shapes, Array_shape}
use Rattle.fut_blocks.specs.declared.block.Atom.{Atom as Source_atom}
use Rattle.fut_blocks.specs.declared.block.Operation.TheVariants as source_operation
use Rattle.fut_blocks.specs.Meaning.{bound}
use Rattle.fut_blocks.specs.Plain.{Record_with, Part_at, Replace_at, Fields_at}
use Rattle.fut_blocks.specs.Plain as source
use Rattle.core_ir.specs.declared.block.Var.{Var}
use Rattle.core_ir.specs.declared.block.Atom.{Atom}
use Rattle.core_ir.specs.declared.block.Atom.TheVariants as atom
use Rattle.core_ir.specs.declared.block.Operation.TheVariants as operation
use Rattle.core_ir.specs.Plain.{Bundle, Action, Operate, For_in, lets}
use Rattle.core_ir.specs.Plain as core
use Rattle.core_ir.specs.Typed.{asked}
use Rattle.core_values.specs.Components.{One_type}
use Rattle.lowering.specs.Knowns.{Known, known, Scope, knowns, parts_of, shapes, fields_of, names, New, Operand, Operands}
use Rattle.lowering.specs.Arrays.{reduction_of, array, Integers, Each_operand, Indexed, Has_rows, Row_in, bundle_of, Array_operands, Is_map}
use Rattle.lowering.specs.Records.{part_from, field, some_fields, named_shapes, replaced_type, replaced_atoms}

-- steps: new variables for what an operation gives
abbrev pub Bindings : Type 0
Bindings = List (List Var × Action)

abbrev pub step : List Var → Action → Bindings
step xs a = (xs, a) ∷ []

abbrev pub truth_shape : Shape
truth_shape = Scalar_shape sort.Bool

mutual
  -- what an act becomes, and what is known of all that it gives
  pub data Act_lowers : Scope → source.Action → ℕ → Bindings → List Known → ℕ → Type 0 where
    -- scalars
    binary_lowers : {sc : Scope} {op : BinOp} {at : Place} {a b : Source_atom} {u w : Atom} {t : ScalarType} {n m : ℕ} {xs : List Var} → Operand sc a (Scalar_shape t) (u ∷ []) → Operand sc b (Scalar_shape t) (w ∷ []) → IsDefined op t → New n xs (Scalar_shape (result_type op t) ∷ []) m → Act_lowers sc (source.Operate (source_operation.Binary op at a b)) n (step xs (Operate (operation.Binary op u w) at)) (knowns (Scalar_shape (result_type op t) ∷ []) (names xs)) m
    unary_lowers : {sc : Scope} {op : UnOp} {at : Place} {a : Source_atom} {u : Atom} {t : ScalarType} {n m : ℕ} {xs : List Var} → Operand sc a (Scalar_shape t) (u ∷ []) → IsDefinedOfOne op t → New n xs (Scalar_shape (result_type_of_one op t) ∷ []) m → Act_lowers sc (source.Operate (source_operation.Unary op a)) n (step xs (Operate (operation.Unary op u) at)) (knowns (Scalar_shape (result_type_of_one op t) ∷ []) (names xs)) m
    convert_lowers : {sc : Scope} {at : Place} {a : Source_atom} {u : Atom} {t to : ScalarType} {n m : ℕ} {xs : List Var} → Operand sc a (Scalar_shape t) (u ∷ []) → New n xs (Scalar_shape to ∷ []) m → Act_lowers sc (source.Operate (source_operation.Convert to a)) n (step xs (Operate (operation.Convert to u) at)) (knowns (Scalar_shape to ∷ []) (names xs)) m
    assert_lowers : {sc : Scope} {at : Place} {a : Source_atom} {u : Atom} {n : ℕ} → Operand sc a truth_shape (u ∷ []) → Act_lowers sc (source.Operate (source_operation.Assert at a)) n (step [] (Operate (operation.Assert u) at)) [] n
    -- tuples and records
    tuple_lowers : {sc : Scope} {us : List Source_atom} {hs : List Shape} {ws : List Atom} {n : ℕ} → Operands sc us hs ws → Act_lowers sc (source.Tuple us) n [] (known (Tuple_shape (shapes hs)) ws ∷ []) n
    parts_lower : {sc : Scope} {a : Source_atom} {hs : Shapes} {ws : List Atom} {n : ℕ} → Operand sc a (Tuple_shape hs) ws → Act_lowers sc (source.Operate (source_operation.Parts a)) n [] (knowns (parts_of hs) ws) n
    part_lowers : {sc : Scope} {a : Source_atom} {f : Text} {hs : Shapes} {ws : List Atom} {k : Known} {n : ℕ} → Operand sc a (Tuple_shape hs) ws → part_from 0 f (knowns (parts_of hs) ws) ≡ Some k → Act_lowers sc (source.Read (Part_at f) (a ∷ [])) n [] (k ∷ []) n
    record_lowers : {sc : Scope} {fs : List Text} {us : List Source_atom} {hs : List Shape} {ws : List Atom} {n : ℕ} → Operands sc us hs ws → length fs ≡ length hs → Act_lowers sc (source.Read (Record_with fs) us) n [] (known (Record_shape (named_shapes fs hs)) ws ∷ []) n
    field_lowers : {sc : Scope} {a : Source_atom} {f : Text} {hs : Named_shapes} {ws : List Atom} {k : Known} {n : ℕ} → Operand sc a (Record_shape hs) ws → field f hs (knowns (fields_of hs) ws) ≡ Some k → Act_lowers sc (source.Read (Part_at f) (a ∷ [])) n [] (k ∷ []) n
    fields_lower : {sc : Scope} {a : Source_atom} {fs : List Text} {hs : Named_shapes} {ws : List Atom} {ks : List Known} {n : ℕ} → Operand sc a (Record_shape hs) ws → some_fields fs hs (knowns (fields_of hs) ws) ≡ Some ks → Act_lowers sc (source.Read (Fields_at fs) (a ∷ [])) n [] ks n
    replace_lowers : {sc : Scope} {a b : Source_atom} {f : Text} {hs : Named_shapes} {h : Shape} {ws vs : List Atom} {n : ℕ} → Operand sc a (Record_shape hs) ws → Operand sc b h vs → Act_lowers sc (source.Read (Replace_at f) (a ∷ b ∷ [])) n [] (known (Record_shape (replaced_type f h hs)) (replaced_atoms f vs hs (knowns (fields_of hs) ws)) ∷ []) n
    -- arrays
    literal_lowers : {sc : Scope} {u : Source_atom} {us : List Source_atom} {r : Row} {at : Place} {h : Shape} {ws : List Atom} {wss : List (List Atom)} {n m : ℕ} {xs : List Var} → Each_operand sc h (u ∷ us) (ws ∷ wss) → One_type h h → Row_in sc r → New n xs (array h ∷ []) m → Act_lowers sc (source.Make r Make_array at (u ∷ us)) n (step xs (core.Do core.Literal at (ws ∷ wss))) (knowns (array h ∷ []) (names xs)) m
    index_lowers : {sc : Scope} {a : Source_atom} {is : List Source_atom} {at : Place} {ps : List Part} {h k : Shape} {hs : List Shape} {ws zs : List Atom} {w n m : ℕ} {xs : List Var} → Operand sc a h ws → Operands sc is hs zs → Integers hs → length hs ≡ asked ps → Indexed w ps h k → New n xs (k ∷ []) m → Act_lowers sc (source.Make Unknown_row (Make_index ps) at (a ∷ is)) n (step xs (core.Do (core.Index w ps) at (ws ∷ zs ∷ []))) (knowns (k ∷ []) (names xs)) m
    update_lowers : {sc : Scope} {a v : Source_atom} {is : List Source_atom} {at : Place} {h k : Shape} {hs : List Shape} {ws zs vs : List Atom} {n m : ℕ} {xs : List Var} → Operand sc a h ws → Operands sc is hs zs → Operand sc v k vs → Integers hs → Has_rows k (length hs) h → New n xs (h ∷ []) m → Act_lowers sc (source.Make Unknown_row Make_update at (a ∷ (is ++ v ∷ []))) n (step xs (core.Do core.Update at (ws ∷ zs ∷ vs ∷ []))) (knowns (h ∷ []) (names xs)) m
    range_lowers : {sc : Scope} {a b : Source_atom} {u w : Atom} {at : Place} {e : End} {t : IntType} {n m : ℕ} {xs : List Var} → Operand sc a (Scalar_shape (sort.Int t)) (u ∷ []) → Operand sc b (Scalar_shape (sort.Int t)) (w ∷ []) → New n xs (array (Scalar_shape (sort.Int t)) ∷ []) m → Act_lowers sc (source.Make Unknown_row (Make_range false e) at (a ∷ b ∷ [])) n (step xs (core.Do (core.Range false e) at ((u ∷ w ∷ []) ∷ []))) (knowns (array (Scalar_shape (sort.Int t)) ∷ []) (names xs)) m
    stepped_lowers : {sc : Scope} {a b c : Source_atom} {u w v : Atom} {at : Place} {e : End} {t : IntType} {n m : ℕ} {xs : List Var} → Operand sc a (Scalar_shape (sort.Int t)) (u ∷ []) → Operand sc b (Scalar_shape (sort.Int t)) (w ∷ []) → Operand sc c (Scalar_shape (sort.Int t)) (v ∷ []) → New n xs (array (Scalar_shape (sort.Int t)) ∷ []) m → Act_lowers sc (source.Make Unknown_row (Make_range true e) at (a ∷ b ∷ c ∷ [])) n (step xs (core.Do (core.Range true e) at ((u ∷ w ∷ v ∷ []) ∷ []))) (knowns (array (Scalar_shape (sort.Int t)) ∷ []) (names xs)) m
    -- branches and loops
    if_lowers : {sc : Scope} {c : Source_atom} {a b : source.Body} {u : Atom} {cs bs : Bindings} {hs : List Shape} {us ws : List Atom} {n k l m : ℕ} {xs : List Var} → Operand sc c truth_shape (u ∷ []) → Body_lowers sc a n cs hs us k → Body_lowers sc b k bs hs ws l → New l xs hs m → Act_lowers sc (source.If c a b) n (step xs (core.If u (lets cs us) (lets bs ws))) (knowns hs (names xs)) m
    for_lowers : {sc : Scope} {ps : List ℕ} {us : List Source_atom} {i : ℕ} {c : Source_atom} {b : source.Body} {t : IntType} {ws zs : List Atom} {u : Atom} {j : Var} {bs : Bindings} {n k l m : ℕ} {inner : Scope} (hs : List Shape) (xs ys : List Var) → Operands sc us hs ws → Operand sc c (Scalar_shape (sort.Int t)) (u ∷ []) → New n xs hs k → New k (j ∷ []) (Scalar_shape (sort.Int t) ∷ []) (suc j.number) → bound ps (knowns hs (names xs)) sc ≡ Some inner → Body_lowers ((i, known (Scalar_shape (sort.Int t)) (atom.Var j ∷ [])) ∷ inner) b (suc j.number) bs hs zs l → New l ys hs m → Act_lowers sc (source.For ps us i c b) n (step ys (core.For xs ws j u (lets bs zs))) (knowns hs (names ys)) m
    while_lowers : {sc : Scope} {at : Place} {ps : List ℕ} {us : List Source_atom} {t b : source.Body} {ws vs zs : List Atom} {cs bs : Bindings} {n k l l' m : ℕ} {inner : Scope} (hs : List Shape) (xs ys : List Var) → Operands sc us hs ws → New n xs hs k → bound ps (knowns hs (names xs)) sc ≡ Some inner → Body_lowers inner t k cs (truth_shape ∷ []) vs l → Body_lowers inner b l bs hs zs l' → New l' ys hs m → Act_lowers sc (source.While at ps us t b) n (step ys (core.While at xs ws (lets cs vs) (lets bs zs))) (knowns hs (names ys)) m
    for_in_lowers : {sc : Scope} {at : Place} {ps : List ℕ} {us : List Source_atom} {x : ℕ} {r : Source_atom} {b : source.Body} {h : Shape} {ws vs zs : List Atom} {bs : Bindings} {z n k l o m : ℕ} {inner row : Scope} (hs : List Shape) (xs ys outs : List Var) → Operands sc us hs ws → Operand sc r (Array_shape z h) vs → New n xs hs k → bound ps (knowns hs (names xs)) sc ≡ Some inner → New k ys (h ∷ []) l → bound (x ∷ []) (knowns (h ∷ []) (names ys)) inner ≡ Some row → Body_lowers row b l bs hs zs o → New o outs hs m → Act_lowers sc (source.Over ps us x r b) n (step outs (For_in at xs ws ys (bundle_of h vs) (lets bs zs))) (knowns hs (names outs)) m
    -- reductions
    reduce_lowers : {sc : Scope} (any : Bool) {r : Row} {at : Place} {a z : Source_atom} {x y : ℕ} {b : source.Body} {h : Shape} {ws us zs : List Atom} {bs : Bindings} {v n k l o m : ℕ} {mid inner : Scope} (xs ys outs : List Var) → Operand sc z h ws → Operand sc a (Array_shape v h) us → Row_in sc r → New n xs (h ∷ []) k → bound (x ∷ []) (knowns (h ∷ []) (names xs)) sc ≡ Some mid → New k ys (h ∷ []) l → bound (y ∷ []) (knowns (h ∷ []) (names ys)) mid ≡ Some inner → Body_lowers inner b l bs (h ∷ []) zs o → New o outs (h ∷ []) m → Act_lowers sc (source.Job r (reduction_of any) at (z ∷ a ∷ []) (x ∷ y ∷ []) b) n (step outs (core.Reduce at ws (bundle_of h us) (core.Of_two xs ys (lets bs zs)))) (knowns (h ∷ []) (names outs)) m
    scan_lowers : {sc : Scope} {r : Row} {at : Place} {a z : Source_atom} {x y : ℕ} {b : source.Body} {h : Shape} {ws us zs : List Atom} {bs : Bindings} {v n k l o m : ℕ} {mid inner : Scope} (xs ys outs : List Var) → Operand sc z h ws → Operand sc a (Array_shape v h) us → Row_in sc r → New n xs (h ∷ []) k → bound (x ∷ []) (knowns (h ∷ []) (names xs)) sc ≡ Some mid → New k ys (h ∷ []) l → bound (y ∷ []) (knowns (h ∷ []) (names ys)) mid ≡ Some inner → Body_lowers inner b l bs (h ∷ []) zs o → New o outs (array h ∷ []) m → Act_lowers sc (source.Job r prim.Scan at (z ∷ a ∷ []) (x ∷ y ∷ []) b) n (step outs (core.Scan at ws (bundle_of h us) (core.Of_two xs ys (lets bs zs)))) (knowns (array h ∷ []) (names outs)) m
    -- functions of rows, with the sizes that are told of a row where there is none
    map_lowers : {sc : Scope} {p : Primitive} {r : Row} {at : Place} {a : Source_atom} {rest : List Source_atom} {ps : List ℕ} {b : source.Body} {hs : List Shape} {h l : Shape} {rs : List Bundle} {sss : List (List Sized)} {wss : List (List Atom)} {zs : List Atom} {cs bs : Bindings} {n i k o m : ℕ} {inner : Scope} (xs outs : List Var) → Is_map p → Array_operands sc (a ∷ rest) hs rs → Row_told sc r h sss → One_type h l → All_tell sss n cs wss i → New i xs hs k → bound ps (knowns hs (names xs)) sc ≡ Some inner → Body_lowers inner b k bs (l ∷ []) zs o → New o outs (array h ∷ []) m → Act_lowers sc (source.Job r p at (a ∷ rest) ps b) n (cs ++ step outs (core.Map at (core.Of_rows rs) wss xs (lets bs zs))) (knowns (array h ∷ []) (names outs)) m
    tabulate_lowers : {sc : Scope} {r : Row} {at : Place} {a : Source_atom} {ps : List ℕ} {b : source.Body} {t : IntType} {u : Atom} {h l : Shape} {sss : List (List Sized)} {wss : List (List Atom)} {zs : List Atom} {cs bs : Bindings} {n i k o m : ℕ} {inner : Scope} (xs outs : List Var) → Operand sc a (Scalar_shape (sort.Int t)) (u ∷ []) → Row_told sc r h sss → One_type h l → All_tell sss n cs wss i → New i xs (Scalar_shape (sort.Int I64) ∷ []) k → bound ps (knowns (Scalar_shape (sort.Int I64) ∷ []) (names xs)) sc ≡ Some inner → Body_lowers inner b k bs (l ∷ []) zs o → New o outs (array h ∷ []) m → Act_lowers sc (source.Job r prim.Tabulate at (a ∷ []) ps b) n (cs ++ step outs (core.Map at (core.Of_numbers u) wss xs (lets bs zs))) (knowns (array h ∷ []) (names outs)) m
    empty_lowers : {sc : Scope} {r : Row} {at : Place} {h : Shape} {sss : List (List Sized)} {wss : List (List Atom)} {cs : Bindings} {n i m : ℕ} (outs : List Var) → Row_told sc r h sss → One_type h h → All_tell sss n cs wss i → New i outs (array h ∷ []) m → Act_lowers sc (source.Make r Make_array at []) n (cs ++ step outs (core.Do core.Empty at wss)) (knowns (array h ∷ []) (names outs)) m
    -- primitives without a function
    done_lowers : {sc : Scope} {p : Primitive} {r : Row} {at : Place} {us : List Source_atom} {ps : List ℕ} {b : source.Body} {deed : core.Deed} {uss : List (List Atom)} {h : Shape} {n m : ℕ} {xs : List Var} → Deed_lowers sc p us deed uss h → Row_in sc r → New n xs (h ∷ []) m → Act_lowers sc (source.Job r p at us ps b) n (step xs (core.Do deed at uss)) (knowns (h ∷ []) (names xs)) m
    length_lowers : {sc : Scope} {r : Row} {at : Place} {a : Source_atom} {ps : List ℕ} {b : source.Body} {h : Shape} {u : Atom} {us : List Atom} {z n m : ℕ} {xs : List Var} → Operand sc a (Array_shape z h) (u ∷ us) → Row_in sc r → New n xs (Scalar_shape (sort.Int I64) ∷ []) m → Act_lowers sc (source.Job r prim.Length at (a ∷ []) ps b) n (step xs (Operate (operation.Length u) at)) (knowns (Scalar_shape (sort.Int I64) ∷ []) (names xs)) m
    filter_lowers : {sc : Scope} {r : Row} {at : Place} {a : Source_atom} {x : ℕ} {b : source.Body} {h : Shape} {us zs : List Atom} {bs : Bindings} {z n k o m : ℕ} {inner : Scope} (xs outs : List Var) → Operand sc a (Array_shape z h) us → Row_in sc r → New n xs (h ∷ []) k → bound (x ∷ []) (knowns (h ∷ []) (names xs)) sc ≡ Some inner → Body_lowers inner b k bs (truth_shape ∷ []) zs o → New o outs (array h ∷ []) m → Act_lowers sc (source.Job r prim.Filter at (a ∷ []) (x ∷ []) b) n (step outs (core.Filter at (bundle_of h us) xs (lets bs zs))) (knowns (array h ∷ []) (names outs)) m

  -- steps, and what they come to: atoms for the components of data of these types
  pub data Body_lowers : Scope → source.Body → ℕ → Bindings → List Shape → List Atom → ℕ → Type 0 where
    give_lowers : {sc : Scope} {us : List Source_atom} {hs : List Shape} {ws : List Atom} {n : ℕ} → Operands sc us hs ws → Body_lowers sc (source.Give us) n [] hs ws n
    let_lowers : {sc inner : Scope} {xs : List ℕ} {a : source.Action} {b : source.Body} {cs bs : Bindings} {ks : List Known} {hs : List Shape} {us : List Atom} {n k m : ℕ} → Act_lowers sc a n cs ks k → bound xs ks sc ≡ Some inner → Body_lowers inner b k bs hs us m → Body_lowers sc (source.Let xs a b) n (cs ++ bs) hs us m
