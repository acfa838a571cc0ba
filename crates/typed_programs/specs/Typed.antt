-- What is known of a program once it has been typed. Where a sizing tells its sizes, or it binds none, it never goes wrong, and
-- its walk is never lost.
use Rattle.std.specs.Prelude.{◌≡◌, ℕ, ◌<◌, List, length, None, slice_index_or}
use Rattle.fut_scalar.specs.declared.scalar.IntType.{IntType}
use Rattle.fut_scalar.specs.declared.scalar.IntType.TheVariants as int
use Rattle.fut_scalar.specs.declared.scalar.ScalarType.TheVariants as scalar
use Rattle.fut_flat.specs.declared.program.Flat.{Flat}
use Rattle.fut_types.specs.declared.Kind.TheVariants as kind
use Rattle.fut_types.specs.Types.{Ty, Var, Sub, Kinds, HasKind, scalar_ty}
use Rattle.fut_typing.specs.Names.{Names}
use Rattle.fut_typing.specs.Program.{program_of, program_numbers, Program_typed}
use Rattle.fut_typing.specs.Answers.{Typing_is}
use Rattle.type_graph.specs.declared.Form.{Form}
use Rattle.type_graph.specs.declared.Node.{Node}
use Rattle.type_scopes.specs.declared.Inference.{Inference}
use Rattle.type_soundness.specs.Fits.{widest}
use Rattle.type_soundness.specs.Formed.{Definitions_formed}
use Rattle.type_soundness.specs.Programs.{Definitions_told, One_each}
use Rattle.type_infer.specs.Reading.{Comes_to, Is_made}
use Rattle.typed_programs.specs.declared.integers.IntegersErr.{IntegersErr}
use Rattle.typed_programs.specs.declared.integers.IntegersErr.TheVariants as err
use Rattle.typed_programs.specs.Forms.{integer_form}

-- the integer type of a number, as a list tells it; i32 where it tells none
unfoldable pub integer_at : List IntType → ℕ → IntType
integer_at integers n = slice_index_or integers n int.I32

-- A program that is typed with functions nowhere where data is asked for, of which the meaning and the walk know all forms, and
-- whose literals without suffix are told. Names of sizes may be bound in it.
pub record Is_well_typed (N : Names) (K : Kinds) (a : Sub) (integer_at : ℕ → IntType) (flat : Flat) : Type 0 where
  pub typed : Program_typed N kind.Data (program_of flat) K a
  pub formed : Definitions_formed (program_of flat)
  pub told : Definitions_told integer_at a (program_of flat) 0
  pub once : One_each flat.definitions.now
  pub small : program_numbers (program_of flat) < widest

-- the typing of the program, read off its graph, is one of which the laws of its meaning and of its walk speak
pub record Typed_by (flat : Flat) (inference : Inference) (integers : List IntType) (N : Names) : Type 0 where
  pub kinds : Kinds
  pub types : Sub
  pub typing : Typing_is N (program_of flat) types
  pub comes : (n : ℕ) → n < program_numbers (program_of flat) → Comes_to inference.nodes n (types n)
  pub typed : Is_well_typed N kinds types (integer_at integers) flat

-- if it is a type of integers, and no variable, it is this one
abbrev pub Is_integer : IntType → Ty → Type 0
Is_integer integer t = (K : Kinds) → HasKind K kind.Integer t → ((v : ℕ) → t ≡ Var v → ⊥) → t ≡ scalar_ty (scalar.Int integer)

-- the list tells the integer types of the first nodes
abbrev pub Nodes_tell : List Node → List IntType → ℕ → Type 0
Nodes_tell nodes integers many = (n : ℕ) → n < many → (t : Ty) → Comes_to nodes n t → Is_integer (integer_at integers n) t

-- some node is made by an integer type with parts, or by a type parameter that stands for integers alone
pub record Is_odd (nodes : List Node) : Type 0 where
  pub node : ℕ
  pub form : Form
  pub within : node < length nodes
  pub made : (t : Ty) → Comes_to nodes node t → Is_made (Comes_to nodes) form t
  pub none : integer_form form ≡ None

-- want of memory aside
abbrev pub Lost_where : List Node → IntegersErr → Type 0
Lost_where nodes err.Lost = Is_odd nodes
Lost_where nodes err.Memory = Unit {0}
