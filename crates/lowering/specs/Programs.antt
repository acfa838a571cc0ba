-- Which Core a program of blocks becomes.
use Rattle.std.specs.Prelude.{◌≡◌, ℕ, List, [], flat_map, Some}
use Rattle.fut_value.specs.Data.{Shape, Datum, shape_of}
use Rattle.fut_meaning.specs.Sames.{All_same}
use Rattle.fut_blocks.specs.Meaning.{bound}
use Rattle.fut_blocks.specs.Plain.{body_of}
use Rattle.fut_blocks.specs.declared.block.Program.{Program}
use Rattle.core_ir.specs.declared.block.Atom.{Atom}
use Rattle.core_ir.specs.declared.block.Core.{Core}
use Rattle.core_ir.specs.Bundles.{Row}
use Rattle.core_ir.specs.Plain.{lets}
use Rattle.core_ir.specs.Plain as core
use Rattle.core_values.specs.Components.{components, One_type, Regular}
use Rattle.lowering.specs.Knowns.{Scope, knowns, names, New}
use Rattle.lowering.specs.Lowering.{Bindings, Body_lowers}

-- a program whose parameters and results are of these types
pub record Program_lowers (hs ks : List Shape) (p : Program) (c : Core) : Type 0 where
  pub first : ℕ
  pub parameters : New 0 c.params.now hs first
  pub scope : Scope
  pub named : bound p.params.now (knowns hs (names c.params.now)) [] ≡ Some scope
  pub bindings : Bindings
  pub results : List Atom
  pub lowered : Body_lowers scope (body_of p.body) first bindings ks results c.names
  pub body : core.body_of c.body ≡ lets bindings results

-- regular data of a type
pub record Is_data (h : Shape) (d : Datum) : Type 0 where
  pub regular : Regular d
  pub typed : One_type h (shape_of d)

abbrev pub Are_data : List Shape → List Datum → Type 0
Are_data = All_same Is_data

-- the components of regular data of these types
pub record Are_components (hs : List Shape) (cs : Row) (ds : List Datum) : Type 0 where
  pub are : cs ≡ flat_map components ds
  pub data_are : Are_data hs ds
