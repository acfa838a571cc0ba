-- What blocks stand for, one level at a time.
use Rattle.std.proofs.Common.{◌≡◌, ℕ, List, map, sym, ap, ◌∙◌, Bor}
use Rattle.fut_scalar.specs.declared.place.Place.{Place}
use Rattle.fut_blocks.specs.declared.block.Atom.{Atom}
use Rattle.fut_flat.specs.declared.prim.Primitive.{Primitive}
use Rattle.fut_ast.specs.Sorts.{Text}
use Rattle.fut_scalar.specs.declared.scalar.ScalarType.{ScalarType}
use Rattle.fut_blocks.specs.declared.block.Making.{Making}
use Rattle.fut_blocks.specs.declared.row.RowShape.{RowShape, RowShape-F, fold-roll-RowShape}
use Rattle.fut_blocks.specs.declared.row.RowShape.TheVariants as row
use Rattle.fut_blocks.specs.declared.row.Extent.{Extent as Held_extent, Extent-F, fold-roll-Extent}
use Rattle.fut_blocks.specs.declared.row.Extent.TheVariants as extent
use Rattle.fut_blocks.specs.declared.row.FieldShape.{FieldShape, fold_out-FieldShape}
use Rattle.fut_blocks.specs.declared.row.SizeTest.{SizeTest, SizeTest-F, fold-roll-SizeTest}
use Rattle.fut_blocks.specs.declared.row.SizeTest.TheVariants as test
use Rattle.fut_blocks.specs.declared.row.FieldTest.{FieldTest, fold_out-FieldTest}
use Rattle.fut_blocks.specs.Rows.{Row, Unknown_row, Scalar_row, Tuple_row, Record_row, Array_row, Shape_of, Rows_of, Part_of, Field_of, Unzipped_row, Extent, Nowhere, Exactly, Worth_of, Length_of, Size_test, Any_size, Array_test, Tuple_test, Record_test, rows, named_rows, tests, named_tests, extent_form, row_form, field_form, row_of, extent_of, named_row_of, test_form, named_test_form, test_of, named_test_of}
use Rattle.fut_blocks.specs.declared.block.Operation.{Operation}
use Rattle.fut_blocks.specs.declared.block.Act.{Act, fold-roll-Act}
use Rattle.fut_blocks.specs.declared.block.Act.TheOpen as open_act
use Rattle.fut_blocks.specs.declared.block.Act.TheVariants as act
use Rattle.fut_blocks.specs.declared.block.Block.{Block, Block-F, roll-Block, out-Block, out-roll-Block, fold_out-Block}
use Rattle.fut_blocks.specs.declared.block.Step.{Step, Step-F, roll-Step, out-roll-Step, fold_out-Step}
use Rattle.fut_blocks.specs.Plain.{Action, Operate, Job, Size_of, Coerce, If, For, Over, While, Body, lets, making_form, act_form, block_form, step_form, action_of, body_of, binding_of}

pub row_of-Unknown : row_of row.Unknown ≡ Unknown_row
unfolding row_of extent_of named_row_of row_form
row_of-Unknown = ap row_of (sym row.rolls-Unknown) ∙ fold-roll-RowShape Extent Row (Text × Row) extent_form row_form field_form RowShape-F.Unknown

pub row_of-Scalar : (t : ScalarType) → row_of (row.Scalar t) ≡ Scalar_row t
unfolding row_of extent_of named_row_of row_form
row_of-Scalar t = ap row_of (sym (row.rolls-Scalar t)) ∙ fold-roll-RowShape Extent Row (Text × Row) extent_form row_form field_form (RowShape-F.Scalar t)

pub row_of-Tuple : (rs : Bor (List RowShape)) → row_of (row.Tuple rs) ≡ Tuple_row (rows (map row_of rs.now))
unfolding row_of extent_of named_row_of row_form
row_of-Tuple rs = ap row_of (sym (row.rolls-Tuple rs)) ∙ fold-roll-RowShape Extent Row (Text × Row) extent_form row_form field_form (RowShape-F.Tuple rs)

pub row_of-Record : (fs : Bor (List FieldShape)) → row_of (row.Record fs) ≡ Record_row (named_rows (map named_row_of fs.now))
unfolding row_of extent_of named_row_of row_form
row_of-Record fs = ap row_of (sym (row.rolls-Record fs)) ∙ fold-roll-RowShape Extent Row (Text × Row) extent_form row_form field_form (RowShape-F.Record fs)

pub row_of-Array : (e : Held_extent) (r : Bor RowShape) → row_of (row.Array e r) ≡ Array_row (extent_of e) (row_of r.now)
unfolding row_of extent_of named_row_of row_form
row_of-Array e r = ap row_of (sym (row.rolls-Array e r)) ∙ fold-roll-RowShape Extent Row (Text × Row) extent_form row_form field_form (RowShape-F.Array e r)

pub row_of-Data : (u : Atom) → row_of (row.Data u) ≡ Shape_of u
unfolding row_of extent_of named_row_of row_form
row_of-Data u = ap row_of (sym (row.rolls-Data u)) ∙ fold-roll-RowShape Extent Row (Text × Row) extent_form row_form field_form (RowShape-F.Data u)

pub row_of-Rows : (r : Bor RowShape) → row_of (row.Rows r) ≡ Rows_of (row_of r.now)
unfolding row_of extent_of named_row_of row_form
row_of-Rows r = ap row_of (sym (row.rolls-Rows r)) ∙ fold-roll-RowShape Extent Row (Text × Row) extent_form row_form field_form (RowShape-F.Rows r)

pub row_of-Part : (k : ℕ) (r : Bor RowShape) → row_of (row.Part k r) ≡ Part_of k (row_of r.now)
unfolding row_of extent_of named_row_of row_form
row_of-Part k r = ap row_of (sym (row.rolls-Part k r)) ∙ fold-roll-RowShape Extent Row (Text × Row) extent_form row_form field_form (RowShape-F.Part k r)

pub row_of-Field : (f : Bor Text) (r : Bor RowShape) → row_of (row.Field f r) ≡ Field_of f.now (row_of r.now)
unfolding row_of extent_of named_row_of row_form
row_of-Field f r = ap row_of (sym (row.rolls-Field f r)) ∙ fold-roll-RowShape Extent Row (Text × Row) extent_form row_form field_form (RowShape-F.Field f r)

pub row_of-Unzipped : (e : Held_extent) (r : Bor RowShape) → row_of (row.Unzipped e r) ≡ Unzipped_row (extent_of e) (row_of r.now)
unfolding row_of extent_of named_row_of row_form
row_of-Unzipped e r = ap row_of (sym (row.rolls-Unzipped e r)) ∙ fold-roll-RowShape Extent Row (Text × Row) extent_form row_form field_form (RowShape-F.Unzipped e r)

pub extent_of-Nowhere : extent_of extent.Nowhere ≡ Nowhere
unfolding row_of extent_of named_row_of extent_form
extent_of-Nowhere = ap extent_of (sym extent.rolls-Nowhere) ∙ fold-roll-Extent Extent Row (Text × Row) extent_form row_form field_form Extent-F.Nowhere

pub extent_of-Exactly : (n : ℕ) → extent_of (extent.Exactly n) ≡ Exactly n
unfolding row_of extent_of named_row_of extent_form
extent_of-Exactly n = ap extent_of (sym (extent.rolls-Exactly n)) ∙ fold-roll-Extent Extent Row (Text × Row) extent_form row_form field_form (Extent-F.Exactly n)

pub extent_of-Worth : (u : Atom) → extent_of (extent.Worth u) ≡ Worth_of u
unfolding row_of extent_of named_row_of extent_form
extent_of-Worth u = ap extent_of (sym (extent.rolls-Worth u)) ∙ fold-roll-Extent Extent Row (Text × Row) extent_form row_form field_form (Extent-F.Worth u)

pub extent_of-Length : (r : Bor RowShape) → extent_of (extent.Length r) ≡ Length_of (row_of r.now)
unfolding row_of extent_of named_row_of extent_form
extent_of-Length r = ap extent_of (sym (extent.rolls-Length r)) ∙ fold-roll-Extent Extent Row (Text × Row) extent_form row_form field_form (Extent-F.Length r)

pub named_row_of-parts : (f : FieldShape) → named_row_of f ≡ (f.name.now, row_of f.row)
unfolding row_of extent_of named_row_of field_form
named_row_of-parts f = fold_out-FieldShape Extent Row (Text × Row) extent_form row_form field_form f

pub test_of-Any : test_of test.Any ≡ Any_size
unfolding test_of named_test_of test_form
test_of-Any = ap test_of (sym test.rolls-Any) ∙ fold-roll-SizeTest Size_test (Text × Size_test) test_form named_test_form SizeTest-F.Any

pub test_of-Array : (e : Held_extent) (t : Bor SizeTest) → test_of (test.Array e t) ≡ Array_test (extent_of e) (test_of t.now)
unfolding test_of named_test_of test_form
test_of-Array e t = ap test_of (sym (test.rolls-Array e t)) ∙ fold-roll-SizeTest Size_test (Text × Size_test) test_form named_test_form (SizeTest-F.Array e t)

pub test_of-Tuple : (ts : Bor (List SizeTest)) → test_of (test.Tuple ts) ≡ Tuple_test (tests (map test_of ts.now))
unfolding test_of named_test_of test_form
test_of-Tuple ts = ap test_of (sym (test.rolls-Tuple ts)) ∙ fold-roll-SizeTest Size_test (Text × Size_test) test_form named_test_form (SizeTest-F.Tuple ts)

pub test_of-Record : (fs : Bor (List FieldTest)) → test_of (test.Record fs) ≡ Record_test (named_tests (map named_test_of fs.now))
unfolding test_of named_test_of test_form
test_of-Record fs = ap test_of (sym (test.rolls-Record fs)) ∙ fold-roll-SizeTest Size_test (Text × Size_test) test_form named_test_form (SizeTest-F.Record fs)

pub named_test_of-parts : (f : FieldTest) → named_test_of f ≡ (f.name.now, test_of f.test)
unfolding test_of named_test_of named_test_form
named_test_of-parts f = fold_out-FieldTest Size_test (Text × Size_test) test_form named_test_form f

pub action_of-Operate : (o : Operation) → action_of (act.Operate o) ≡ Operate o
unfolding action_of act_form
action_of-Operate o = ap action_of (sym (act.rolls-Operate o)) ∙ fold-roll-Act Action Body (List ℕ × Action) act_form block_form step_form (open_act.Operate o)

pub action_of-Make : (m : Making) (at : Place) (us : Bor (List Atom)) → action_of (act.Make m at us) ≡ making_form m at us.now
unfolding action_of act_form
action_of-Make m at us = ap action_of (sym (act.rolls-Make m at us)) ∙ fold-roll-Act Action Body (List ℕ × Action) act_form block_form step_form (open_act.Make m at us)

pub action_of-Primitive : (p : Primitive) (at : Place) (r : Bor RowShape) (us : Bor (List Atom)) (xs : Bor (List ℕ)) (b : Bor Block) → action_of (act.Primitive p at r us xs b) ≡ Job (row_of r.now) p at us.now xs.now (body_of b.now)
unfolding action_of body_of act_form
action_of-Primitive p at r us xs b = ap action_of (sym (act.rolls-Primitive p at r us xs b)) ∙ fold-roll-Act Action Body (List ℕ × Action) act_form block_form step_form (open_act.Primitive p at r us xs b)

pub action_of-Size : (e : Held_extent) → action_of (act.Size e) ≡ Size_of (extent_of e)
unfolding action_of act_form
action_of-Size e = ap action_of (sym (act.rolls-Size e)) ∙ fold-roll-Act Action Body (List ℕ × Action) act_form block_form step_form (open_act.Size e)

pub action_of-Coerce : (at : Place) (t : Bor SizeTest) (r : Bor RowShape) → action_of (act.Coerce at t r) ≡ Coerce at (test_of t.now) (row_of r.now)
unfolding action_of act_form
action_of-Coerce at t r = ap action_of (sym (act.rolls-Coerce at t r)) ∙ fold-roll-Act Action Body (List ℕ × Action) act_form block_form step_form (open_act.Coerce at t r)

pub action_of-ForEach : (xs : Bor (List ℕ)) (us : Bor (List Atom)) (x : ℕ) (r : Atom) (b : Bor Block) → action_of (act.ForEach xs us x r b) ≡ Over xs.now us.now x r (body_of b.now)
unfolding action_of body_of act_form
action_of-ForEach xs us x r b = ap action_of (sym (act.rolls-ForEach xs us x r b)) ∙ fold-roll-Act Action Body (List ℕ × Action) act_form block_form step_form (open_act.ForEach xs us x r b)

pub action_of-If : (c : Atom) (a b : Bor Block) → action_of (act.If c a b) ≡ If c (body_of a.now) (body_of b.now)
unfolding action_of body_of act_form
action_of-If c a b = ap action_of (sym (act.rolls-If c a b)) ∙ fold-roll-Act Action Body (List ℕ × Action) act_form block_form step_form (open_act.If c a b)

pub action_of-For : (xs : Bor (List ℕ)) (us : Bor (List Atom)) (i : ℕ) (n : Atom) (b : Bor Block) → action_of (act.For xs us i n b) ≡ For xs.now us.now i n (body_of b.now)
unfolding action_of body_of act_form
action_of-For xs us i n b = ap action_of (sym (act.rolls-For xs us i n b)) ∙ fold-roll-Act Action Body (List ℕ × Action) act_form block_form step_form (open_act.For xs us i n b)

pub action_of-While : (at : Place) (xs : Bor (List ℕ)) (us : Bor (List Atom)) (t b : Bor Block) → action_of (act.While at xs us t b) ≡ While at xs.now us.now (body_of t.now) (body_of b.now)
unfolding action_of body_of act_form
action_of-While at xs us t b = ap action_of (sym (act.rolls-While at xs us t b)) ∙ fold-roll-Act Action Body (List ℕ × Action) act_form block_form step_form (open_act.While at xs us t b)

pub body_of-parts : (b : Block) → body_of b ≡ lets (map binding_of (out-Block b).steps.now) (out-Block b).results.now
unfolding body_of binding_of block_form
body_of-parts b = fold_out-Block Action Body (List ℕ × Action) act_form block_form step_form b

pub binding_of-parts : (s : Step) → binding_of s ≡ (s.names.now, action_of s.act)
unfolding binding_of action_of step_form
binding_of-parts s = fold_out-Step Action Body (List ℕ × Action) act_form block_form step_form s

-- of blocks and steps that are made
pub body_of-made : (r : Block-F Act Block Step) → body_of (roll-Block r) ≡ lets (map binding_of r.steps.now) r.results.now
body_of-made r = body_of-parts (roll-Block r) ∙ ap (λ (z : Block-F Act Block Step). lets (map binding_of z.steps.now) z.results.now) (out-roll-Block r)

pub binding_of-made : (r : Step-F Act Block Step) → binding_of (roll-Step r) ≡ (r.names.now, action_of r.act)
binding_of-made r = binding_of-parts (roll-Step r) ∙ ap (λ (z : Step-F Act Block Step). (z.names.now, action_of z.act)) (out-roll-Step r)

pub ruleset row_forms = (row_of-Unknown, row_of-Scalar, row_of-Tuple, row_of-Record, row_of-Array, row_of-Data, row_of-Rows, row_of-Part, row_of-Field, row_of-Unzipped, extent_of-Nowhere, extent_of-Exactly, extent_of-Worth, extent_of-Length, named_row_of-parts)

pub ruleset size_tests = (test_of-Any, test_of-Array, test_of-Tuple, test_of-Record, named_test_of-parts)

pub ruleset made = (action_of-Operate, action_of-Make, action_of-Primitive, action_of-Size, action_of-Coerce, action_of-If, action_of-For, action_of-ForEach, action_of-While, body_of-made, binding_of-made)

pub ruleset blocks = (action_of-Operate, action_of-Make, action_of-Primitive, action_of-Size, action_of-Coerce, action_of-If, action_of-For, action_of-ForEach, action_of-While, body_of-parts, binding_of-parts)
