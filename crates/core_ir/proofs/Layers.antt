-- What blocks of Core stand for, one level at a time.
use Rattle.std.proofs.Common.{◌≡◌, Bool, List, map, sym, ap, ◌∙◌, Bor}
use Rattle.fut_scalar.specs.declared.place.Place.{Place}
use Rattle.core_ir.specs.declared.block.Atom.{Atom}
use Rattle.core_ir.specs.declared.block.Var.{Var}
use Rattle.core_ir.specs.declared.block.Rows.{Rows}
use Rattle.core_ir.specs.declared.block.Operation.{Operation}
use Rattle.core_ir.specs.declared.block.View.{View}
use Rattle.core_ir.specs.declared.block.Making.{Making}
use Rattle.core_ir.specs.declared.block.Write.{Write}
use Rattle.core_ir.specs.declared.block.Over.{Over}
use Rattle.core_ir.specs.declared.block.Op.{Op, fold-roll-Op}
use Rattle.core_ir.specs.declared.block.Op.TheOpen as open_op
use Rattle.core_ir.specs.declared.block.Op.TheVariants as op
use Rattle.core_ir.specs.declared.block.Operator.{Operator, out-Operator, fold_out-Operator}
use Rattle.core_ir.specs.declared.block.Block.{Block, Block-F, roll-Block, out-Block, out-roll-Block, fold_out-Block}
use Rattle.core_ir.specs.declared.block.Step.{Step, Step-F, roll-Step, out-Step, out-roll-Step, fold_out-Step}
use Rattle.core_ir.specs.Plain.{group, bundle_form, source_form, view_form, making_form, write_form, Action, Operate, Map, Filter, Partition, Reduce, Scan, Hist, If, For, For_in, While, Function, Of_two, Body, lets, op_form, operator_form, step_form, block_form, action_of, function_of, body_of, binding_of}

abbrev Act : Type 0
Act = Place → Action

abbrev Binding : Type 0
Binding = List Var × Action

pub action_of-Operate : (o : Operation) (at : Place) → action_of (op.Operate o) at ≡ Operate o at
unfolding action_of op_form
action_of-Operate o at = ap (λ z. action_of z at) (sym (op.rolls-Operate o)) ∙ ap (λ (f : Act). f at) (fold-roll-Op Act Body Function Binding op_form block_form operator_form step_form (open_op.Operate o))

pub action_of-View : (v : View) (at : Place) → action_of (op.View v) at ≡ view_form v at
unfolding action_of op_form
action_of-View v at = ap (λ z. action_of z at) (sym (op.rolls-View v)) ∙ ap (λ (f : Act). f at) (fold-roll-Op Act Body Function Binding op_form block_form operator_form step_form (open_op.View v))

pub action_of-Make : (m : Making) (at : Place) → action_of (op.Make m) at ≡ making_form m at
unfolding action_of op_form
action_of-Make m at = ap (λ z. action_of z at) (sym (op.rolls-Make m)) ∙ ap (λ (f : Act). f at) (fold-roll-Op Act Body Function Binding op_form block_form operator_form step_form (open_op.Make m))

pub action_of-Write : (w : Write) (at : Place) → action_of (op.Write w) at ≡ write_form w at
unfolding action_of op_form
action_of-Write w at = ap (λ z. action_of z at) (sym (op.rolls-Write w)) ∙ ap (λ (f : Act). f at) (fold-roll-Op Act Body Function Binding op_form block_form operator_form step_form (open_op.Write w))

pub action_of-Map : (s : Over) (told : Bor (List (Bor (List Atom)))) (xs : Bor (List Var)) (b : Bor Block) (at : Place) → action_of (op.Map s told xs b) at ≡ Map at (source_form s) (map group told.now) xs.now (body_of b.now)
unfolding action_of body_of op_form
action_of-Map s told xs b at = ap (λ z. action_of z at) (sym (op.rolls-Map s told xs b)) ∙ ap (λ (f : Act). f at) (fold-roll-Op Act Body Function Binding op_form block_form operator_form step_form (open_op.Map s told xs b))

pub action_of-Filter : (r : Rows) (xs : Bor (List Var)) (b : Bor Block) (at : Place) → action_of (op.Filter r xs b) at ≡ Filter at (bundle_form r) xs.now (body_of b.now)
unfolding action_of body_of op_form
action_of-Filter r xs b at = ap (λ z. action_of z at) (sym (op.rolls-Filter r xs b)) ∙ ap (λ (f : Act). f at) (fold-roll-Op Act Body Function Binding op_form block_form operator_form step_form (open_op.Filter r xs b))

pub action_of-Partition : (r : Rows) (xs : Bor (List Var)) (b : Bor Block) (at : Place) → action_of (op.Partition r xs b) at ≡ Partition at (bundle_form r) xs.now (body_of b.now)
unfolding action_of body_of op_form
action_of-Partition r xs b at = ap (λ z. action_of z at) (sym (op.rolls-Partition r xs b)) ∙ ap (λ (f : Act). f at) (fold-roll-Op Act Body Function Binding op_form block_form operator_form step_form (open_op.Partition r xs b))

pub action_of-Reduce : (us : Bor (List Atom)) (r : Rows) (f : Operator) (at : Place) → action_of (op.Reduce us r f) at ≡ Reduce at us.now (bundle_form r) (function_of f)
unfolding action_of function_of op_form
action_of-Reduce us r f at = ap (λ z. action_of z at) (sym (op.rolls-Reduce us r f)) ∙ ap (λ (f : Act). f at) (fold-roll-Op Act Body Function Binding op_form block_form operator_form step_form (open_op.Reduce us r f))

pub action_of-Scan : (us : Bor (List Atom)) (r : Rows) (f : Operator) (at : Place) → action_of (op.Scan us r f) at ≡ Scan at us.now (bundle_form r) (function_of f)
unfolding action_of function_of op_form
action_of-Scan us r f at = ap (λ z. action_of z at) (sym (op.rolls-Scan us r f)) ∙ ap (λ (f : Act). f at) (fold-roll-Op Act Body Function Binding op_form block_form operator_form step_form (open_op.Scan us r f))

pub action_of-Hist : (in_place : Bool) (us zs : Bor (List Atom)) (i : Atom) (r : Rows) (f : Operator) (at : Place) → action_of (op.Hist in_place us zs i r f) at ≡ Hist at us.now zs.now i (bundle_form r) (function_of f)
unfolding action_of function_of op_form
action_of-Hist in_place us zs i r f at = ap (λ z. action_of z at) (sym (op.rolls-Hist in_place us zs i r f)) ∙ ap (λ (f : Act). f at) (fold-roll-Op Act Body Function Binding op_form block_form operator_form step_form (open_op.Hist in_place us zs i r f))

pub action_of-If : (c : Atom) (a b : Bor Block) (at : Place) → action_of (op.If c a b) at ≡ If c (body_of a.now) (body_of b.now)
unfolding action_of body_of op_form
action_of-If c a b at = ap (λ z. action_of z at) (sym (op.rolls-If c a b)) ∙ ap (λ (f : Act). f at) (fold-roll-Op Act Body Function Binding op_form block_form operator_form step_form (open_op.If c a b))

pub action_of-For : (xs : Bor (List Var)) (us : Bor (List Atom)) (i : Var) (n : Atom) (b : Bor Block) (at : Place) → action_of (op.For xs us i n b) at ≡ For xs.now us.now i n (body_of b.now)
unfolding action_of body_of op_form
action_of-For xs us i n b at = ap (λ z. action_of z at) (sym (op.rolls-For xs us i n b)) ∙ ap (λ (f : Act). f at) (fold-roll-Op Act Body Function Binding op_form block_form operator_form step_form (open_op.For xs us i n b))

pub action_of-ForIn : (xs : Bor (List Var)) (us : Bor (List Atom)) (ys : Bor (List Var)) (r : Rows) (b : Bor Block) (at : Place) → action_of (op.ForIn xs us ys r b) at ≡ For_in at xs.now us.now ys.now (bundle_form r) (body_of b.now)
unfolding action_of body_of op_form
action_of-ForIn xs us ys r b at = ap (λ z. action_of z at) (sym (op.rolls-ForIn xs us ys r b)) ∙ ap (λ (f : Act). f at) (fold-roll-Op Act Body Function Binding op_form block_form operator_form step_form (open_op.ForIn xs us ys r b))

pub action_of-While : (xs : Bor (List Var)) (us : Bor (List Atom)) (t b : Bor Block) (at : Place) → action_of (op.While xs us t b) at ≡ While at xs.now us.now (body_of t.now) (body_of b.now)
unfolding action_of body_of op_form
action_of-While xs us t b at = ap (λ z. action_of z at) (sym (op.rolls-While xs us t b)) ∙ ap (λ (f : Act). f at) (fold-roll-Op Act Body Function Binding op_form block_form operator_form step_form (open_op.While xs us t b))

pub function_of-parts : (f : Operator) → function_of f ≡ Of_two (out-Operator f).left.now (out-Operator f).right.now (body_of (out-Operator f).body.now)
unfolding function_of body_of operator_form
function_of-parts f = fold_out-Operator Act Body Function Binding op_form block_form operator_form step_form f

pub body_of-parts : (b : Block) → body_of b ≡ lets (map binding_of (out-Block b).steps.now) (out-Block b).results.now
unfolding body_of binding_of block_form
body_of-parts b = fold_out-Block Act Body Function Binding op_form block_form operator_form step_form b

pub binding_of-parts : (s : Step) → binding_of s ≡ ((out-Step s).out.now, action_of (out-Step s).op (out-Step s).place)
unfolding binding_of action_of step_form
binding_of-parts s = fold_out-Step Act Body Function Binding op_form block_form operator_form step_form s

-- of blocks and steps that are made
pub body_of-made : (r : Block-F Op Block Operator Step) → body_of (roll-Block r) ≡ lets (map binding_of r.steps.now) r.results.now
body_of-made r = body_of-parts (roll-Block r) ∙ ap (λ (z : Block-F Op Block Operator Step). lets (map binding_of z.steps.now) z.results.now) (out-roll-Block r)

pub binding_of-made : (r : Step-F Op Block Operator Step) → binding_of (roll-Step r) ≡ (r.out.now, action_of r.op r.place)
binding_of-made r = binding_of-parts (roll-Step r) ∙ ap (λ (z : Step-F Op Block Operator Step). (z.out.now, action_of z.op z.place)) (out-roll-Step r)
