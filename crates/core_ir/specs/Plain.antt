-- What blocks of Core stand for, whatever their addresses: a row of bindings, each of new variables to what a step gives, and
-- then results (Flanagan et al., PLDI 1993, "A-normal form"). Where an array may be changed in place is not spoken of.
use Rattle.std.specs.Prelude.{ℕ, List, [], ◌∷◌, Bool, map}
use Rattle.std.specs.Borrow.{Bor}
use Rattle.fut_scalar.specs.declared.place.Place.{Place}
use Rattle.fut_ast.specs.declared.node.End.{End}
use Rattle.fut_flat.specs.declared.act.Part.{Part}
use Rattle.core_ir.specs.declared.block.Var.{Var}
use Rattle.core_ir.specs.declared.block.Atom.{Atom}
use Rattle.core_ir.specs.declared.block.Rows.{Rows}
use Rattle.core_ir.specs.declared.block.Operation.{Operation}
use Rattle.core_ir.specs.declared.block.View.{View}
use Rattle.core_ir.specs.declared.block.View.TheVariants as view
use Rattle.core_ir.specs.declared.block.Making.{Making}
use Rattle.core_ir.specs.declared.block.Making.TheVariants as make
use Rattle.core_ir.specs.declared.block.Write.{Write}
use Rattle.core_ir.specs.declared.block.Write.TheVariants as write
use Rattle.core_ir.specs.declared.block.Over.{Over}
use Rattle.core_ir.specs.declared.block.Over.TheVariants as over
use Rattle.core_ir.specs.declared.block.Op.{Op, Op-F, fold-Op}
use Rattle.core_ir.specs.declared.block.Operator.{Operator, Operator-F, fold-Operator}
use Rattle.core_ir.specs.declared.block.Step.{Step, Step-F, fold-Step}
use Rattle.core_ir.specs.declared.block.Block.{Block, Block-F, fold-Block}

-- an array of tuples: how many components a row has, and its arrays
pub record Bundle : Type 0 where
  pub width : ℕ
  pub arrays : List Atom

-- what is done with arrays without a function, all operands left out
pub data Deed : Type 0 where
  -- with how many components a row has behind the last part
  Index : ℕ → List Part → Deed
  Transpose : Deed
  Own : Deed
  Literal : Deed
  Empty : Deed
  Iota : Deed
  Range : Bool → End → Deed
  Replicate : Deed
  Concat : Deed
  Rotate : Deed
  Copy : Deed
  -- with the widths of the rows that come side by side
  Zip : List ℕ → Deed
  Flatten : Deed
  Unflatten : Deed
  Update : Deed

-- what a function is applied to: rows side by side, or the numbers below a count
pub data Source : Type 0 where
  Of_rows : List Bundle → Source
  Of_numbers : Atom → Source

mutual
  pub data Action : Type 0 where
    Operate : Operation → Place → Action
    -- with its operands by groups, in order
    Do : Deed → Place → List (List Atom) → Action
    -- what the function is applied to, the sizes of the components of a result where there is none, its parameters and body
    Map : Place → Source → List (List Atom) → List Var → Body → Action
    Filter : Place → Bundle → List Var → Body → Action
    Partition : Place → Bundle → List Var → Body → Action
    -- the neutral row, the rows, the operator
    Reduce : Place → List Atom → Bundle → Function → Action
    Scan : Place → List Atom → Bundle → Function → Action
    -- the arrays, the indices, the rows
    Scatter : Place → List Atom → Atom → List Atom → Action
    -- the arrays, the neutral row, the indices, the rows, the operator
    Hist : Place → List Atom → List Atom → Atom → Bundle → Function → Action
    If : Atom → Body → Body → Action
    -- parameters, their first values, the index, how many turns, the body
    For : List Var → List Atom → Var → Atom → Body → Action
    -- parameters, their first values, the row, the rows, the body
    For_in : Place → List Var → List Atom → List Var → Bundle → Body → Action
    -- where it reports, parameters, their first values, the test, the body
    While : Place → List Var → List Atom → Body → Body → Action

  -- of two rows
  pub data Function : Type 0 where
    Of_two : List Var → List Var → Body → Function

  pub data Body : Type 0 where
    Give : List Atom → Body
    Let : List Var → Action → Body → Body

-- bindings before results
unfoldable pub lets : List (List Var × Action) → List Atom → Body
lets [] us = Give us
lets (s ∷ ss) us = Let s.0 s.1 (lets ss us)

-- ---- from code

abbrev pub group : Bor (List Atom) → List Atom
group us = us.now

abbrev pub bundle_form : Rows → Bundle
bundle_form r = record { width = r.width; arrays = r.arrays.now }

unfoldable pub view_form : View → Place → Action
view_form (view.Index r parts numbers) at = Do (Index r.width parts.now) at (r.arrays.now ∷ numbers.now ∷ [])
view_form (view.Transpose us) at = Do Transpose at (us.now ∷ [])
view_form (view.Own us) at = Do Own at (us.now ∷ [])

unfoldable pub making_form : Making → Place → Action
making_form (make.Literal rows) at = Do Literal at (map group rows.now)
making_form (make.Empty sizes) at = Do Empty at (map group sizes.now)
making_form (make.Iota n) at = Do Iota at ((n ∷ []) ∷ [])
making_form (make.Range stepped end numbers) at = Do (Range stepped end) at (numbers.now ∷ [])
making_form (make.Replicate n row) at = Do Replicate at ((n ∷ []) ∷ row.now ∷ [])
making_form (make.Concat us ws) at = Do Concat at (us.now ∷ ws.now ∷ [])
making_form (make.Rotate n us) at = Do Rotate at ((n ∷ []) ∷ us.now ∷ [])
making_form (make.Copy us) at = Do Copy at (us.now ∷ [])
making_form (make.Zip rows) at = Do (Zip (map (λ r. r.width) rows.now)) at (map (λ r. r.arrays.now) rows.now)
making_form (make.Flatten us) at = Do Flatten at (us.now ∷ [])
making_form (make.Unflatten n m us) at = Do Unflatten at ((n ∷ m ∷ []) ∷ us.now ∷ [])

unfoldable pub write_form : Write → Place → Action
write_form (write.Update in_place us is row) at = Do Update at (us.now ∷ is.now ∷ row.now ∷ [])
write_form (write.Scatter in_place us i rows) at = Scatter at us.now i rows.now

unfoldable pub source_form : Over → Source
source_form (over.Rows rows) = Of_rows (map bundle_form rows.now)
source_form (over.Count n) = Of_numbers n

unfoldable pub op_form : Op-F (Place → Action) Body Function (List Var × Action) → Place → Action
op_form (Op-F.Operate o) at = Operate o at
op_form (Op-F.View v) at = view_form v at
op_form (Op-F.Make m) at = making_form m at
op_form (Op-F.Write w) at = write_form w at
op_form (Op-F.Map source sizes xs b) at = Map at (source_form source) (map group sizes.now) xs.now b.now
op_form (Op-F.Filter r xs b) at = Filter at (bundle_form r) xs.now b.now
op_form (Op-F.Partition r xs b) at = Partition at (bundle_form r) xs.now b.now
op_form (Op-F.Reduce ne r f) at = Reduce at ne.now (bundle_form r) f
op_form (Op-F.Scan ne r f) at = Scan at ne.now (bundle_form r) f
op_form (Op-F.Hist in_place us ne i r f) at = Hist at us.now ne.now i (bundle_form r) f
op_form (Op-F.If c a b) at = If c a.now b.now
op_form (Op-F.For xs us i n b) at = For xs.now us.now i n b.now
op_form (Op-F.ForIn xs us row r b) at = For_in at xs.now us.now row.now (bundle_form r) b.now
op_form (Op-F.While xs us t b) at = While at xs.now us.now t.now b.now

unfoldable pub operator_form : Operator-F (Place → Action) Body Function (List Var × Action) → Function
operator_form f = Of_two f.left.now f.right.now f.body.now

unfoldable pub step_form : Step-F (Place → Action) Body Function (List Var × Action) → List Var × Action
step_form s = (s.out.now, s.op s.place)

unfoldable pub block_form : Block-F (Place → Action) Body Function (List Var × Action) → Body
block_form b = lets b.steps.now b.results.now

unfoldable pub action_of : Op → Place → Action
action_of = fold-Op (Place → Action) Body Function (List Var × Action) op_form block_form operator_form step_form

unfoldable pub function_of : Operator → Function
function_of = fold-Operator (Place → Action) Body Function (List Var × Action) op_form block_form operator_form step_form

unfoldable pub binding_of : Step → List Var × Action
binding_of = fold-Step (Place → Action) Body Function (List Var × Action) op_form block_form operator_form step_form

unfoldable pub body_of : Block → Body
body_of = fold-Block (Place → Action) Body Function (List Var × Action) op_form block_form operator_form step_form
