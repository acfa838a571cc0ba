-- Operations whose rule is demands on the numbers of the operation and of its parts.
use Rattle.std.specs.Prelude.{ℕ, ◌+◌, ◌<◌, ◌≤◌, List}
use Rattle.fut_scalar.specs.declared.place.BindId.{BindId}
use Rattle.fut_flat.specs.declared.prim.Ref.{Ref}
use Rattle.fut_flat.specs.Terms.{Operation, Integer, Truth, Tuple_of, Record_of, Array_of, Binary, Negate, Complement, Index, Project, Update, Replace, Ascribe, Coerce, Declared, Assert, Range}
use Rattle.fut_types.specs.declared.Kind.{Kind}
use Rattle.fut_types.specs.Types.{Sub, Kinds}
use Rattle.fut_typing.specs.Names.{Names}
use Rattle.fut_typing.specs.Rules.{Rule}
use Rattle.fut_typing.specs.Typing.{operand}
use Rattle.type_graph.specs.Claims.{types_of}
use Rattle.type_rules.specs.declared.demand.Demand.{Demand}
use Rattle.fut_types.specs.declared.shapes.ShapeTable.{ShapeTable}
use Rattle.fut_flat.specs.Numbers.{own_numbers}
use Rattle.type_graph.specs.Graph.{Each}
use Rattle.type_rules.specs.Demands.{All_met, Always_allowed, Are_demands}
use Rattle.type_constraints.specs.declared.plain.Plain.{Plain}
use Rattle.type_constraints.specs.declared.plain.Plain.TheVariants as plain

abbrev pub IsPlain : Operation Ref BindId → Type 0
IsPlain (Integer n t) = Unit {0}
IsPlain (Truth b) = Unit {0}
IsPlain (Binary o) = Unit {0}
IsPlain Negate = Unit {0}
IsPlain Complement = Unit {0}
IsPlain Assert = Unit {0}
IsPlain (Range stepped end) = Unit {0}
IsPlain Tuple_of = ⊥
IsPlain (Record_of fs) = ⊥
IsPlain Array_of = ⊥
IsPlain (Index ps) = ⊥
IsPlain (Project f) = ⊥
IsPlain Update = ⊥
IsPlain (Replace f) = ⊥
IsPlain (Ascribe t) = ⊥
IsPlain (Coerce t) = ⊥
IsPlain (Declared t) = ⊥

abbrev pub demands_of : Plain → List Demand
demands_of (plain.One ds) = ds
demands_of (plain.Two ds) = ds
demands_of (plain.Three ds) = ds
demands_of (plain.Four ds) = ds

-- demands say the rule
abbrev pub Say_rule : Kind → Operation Ref BindId → ℕ → List ℕ → List Demand → Type 0
Say_rule places o lo parts ds = (N : Names) (K : Kinds) (a : Sub) → (All_met N.shapes K a ds → Rule N places K o (a lo) (a (operand o lo)) (types_of a parts)) × (Rule N places K o (a lo) (a (operand o lo)) (types_of a parts) → All_met N.shapes K a ds)

-- They say it, are within where the numbers of the operation and of its parts are, and lower no level without a reason.
pub record Demanded (o : Operation Ref BindId) (lo : ℕ) (parts : List ℕ) (ds : List Demand) : Type 0 where
  pub says : (places : Kind) → Say_rule places o lo parts ds
  pub within : (table : ShapeTable) (base : ℕ) → lo + own_numbers o ≤ base → Each (λ part. part < base) parts → Are_demands table base ds
  pub allowed : Always_allowed ds
